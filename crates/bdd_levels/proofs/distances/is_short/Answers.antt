use Rattle.std.proofs.Common.{ℕ, subst, arith}
use Rattle.std.proofs.lemmas.Nat.{one_shl}
use Rattle.std.proofs.lemmas.Result.{IfOk-weaker}
use Rattle.bus_nets.specs.Numbers.{HasNumber}
use Rattle.bdd_levels.proofs.Subtraction.{short_made}
use Rattle.bdd_levels.proofs.distances.is_short.Goals as goal

pub returns-clause-value : goal.returns-clause-value
returns-clause-value c =
    let power = subst (λ (n : ℕ). HasNumber c.args.net.now c.in_ok-power.power (λ v. n)) (one_shl c.args.width 128 (omega (arith, c.requires.narrow))) c.in_ok-power.ensures.number in
    IfOk-weaker c.greater.result _ _
    (λ s bit. short_made c.args.net.now c.times.new.self c.add.new.self _ c.args.x.now c.args.y.now _ _ _ c.args.width c.args.factor s power c.in_ok-whole.ensures.number
    c.in_ok-sum.ensures.number c.in_ok-whole.ensures.begins c.in_ok-sum.ensures.begins c.greater.ensures.begins bit)
    c.greater.ensures.value
