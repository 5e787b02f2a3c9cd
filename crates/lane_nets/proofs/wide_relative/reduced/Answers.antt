use Rattle.std.proofs.Common.{◌≡◌, ◌*◌, ◌/◌, ◌%◌, ℕ, arith}
use Rattle.std.proofs.Math.Nat.{div-add-mod}
use Rattle.lane_nets.proofs.RelativeErrors.{terms_less}
use Rattle.lane_nets.proofs.wide_relative.reduced.Goals as goal
use Rattle.lane_nets.proofs.wide_relative.reduced.Goals.{then-left-factor-eq0+then-left-factor-eq0-2, else-left-factor-eq0}

divided : (n f : ℕ) → n % f ≡ 0 → n ≡ f * (n / f)
divided n f none = omega (arith, div-add-mod n f, none)

pub times-preserved : goal.times-preserved
times-preserved c = λ x y.
    let before = c.times.invariant x y in
    let p = c.times.left.parts in
    let u = c.times.left.unit in
    let f = c.args.factor in
    elim c.if-left-factor-eq0.branch [
      | then-left-factor-eq0+then-left-factor-eq0-2 w ↦
          let step = terms_less f p u (p / f) (u / f) x y c.requires (divided p f w.if-left-factor-eq0.true) (divided u f w.if-left-factor-eq0-2.true) in
          rw w.left-is (λ h. before.0 (step.0 h), λ h. step.1 (before.1 h))
      | else-left-factor-eq0 w ↦ rw w.left-is before
    ]
