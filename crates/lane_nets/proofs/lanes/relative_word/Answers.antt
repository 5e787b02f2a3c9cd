use Rattle.semantics.specs.declared.metric.Kind.TheVariants.{Rel}
use Rattle.std.proofs.Common.{ℕ, ◌<◌, ap, sym, ◌∙◌, arith}
use Rattle.semantics.specs.Error.{word_error}
use Rattle.lane_nets.specs.Lanes.{lane_at}
use Rattle.lane_nets.proofs.RowBits.{over_set, over_left}
use Rattle.lane_nets.proofs.LaneErrors.{no_error}
use Rattle.lane_nets.proofs.lanes.relative_word.Goals as goal
use Rattle.lane_nets.proofs.lanes.relative_word.Goals.{then-word_bit+then-is_over_relative, else-word_bit, else-word_bit-via-then-word_bit+else-is_over_relative, else-word_bit-via-else-word_bit}

pub loop-b-preserved : goal.loop-b-preserved
loop-b-preserved c =
    let P : ℕ → Type 0 = λ b. c.args.level < word_error Rel (lane_at c.args.exact.now b) (lane_at c.args.approx.now b) in
    let low = c.loop-b-test.true in
    elim c.if-word_bit.branch [
      | then-word_bit+then-is_over_relative w ↦
          rw w.over-is (over_set P c.loop-b.over c.loop-b.b low (w.is_over_relative.ensures.0 w.if-is_over_relative.true) c.loop-b.invariant)
      | else-word_bit w ↦
          rw w.over-is
          (elim w.else-word_bit.branch [
            | else-word_bit-via-then-word_bit+else-is_over_relative w' ↦
                over_left P c.loop-b.over c.loop-b.b (λ h. (let set = w'.is_over_relative.ensures.1 h in let clear = w'.if-is_over_relative.false in cc)) c.loop-b.invariant
            | else-word_bit-via-else-word_bit w' ↦
                let same = c.unequal_word-unequal.ensures c.loop-b.b low (sym c.word_bit.ensures ∙ w'.if-word_bit.false) in
                over_left P c.loop-b.over c.loop-b.b
                (λ h. omega (arith, h, ap (λ l. word_error Rel l (lane_at c.args.approx.now c.loop-b.b)) same, no_error Rel (lane_at c.args.approx.now c.loop-b.b)))
                c.loop-b.invariant
          ])
    ]
