use Rattle.std.proofs.Common.{length, true, ap, refl, sym, ◌∙◌, arith}
use Rattle.std.proofs.lemmas.List.{length-append}
use Rattle.net_tidy.proofs.Ranks.{rank_at, rank_input, number_by, numbers_more}
use Rattle.net_tidy.proofs.net_draft.numbers_of.Goals as goal

pub loop-i-init : goal.loop-i-init
loop-i-init c =
    record {
      count = c.in_ok-numbers.ensures.count ∙ omega arith;
      next = sym (rank_at c.args.inputs c.args.gone.now ∙ omega arith);
      small = omega arith;
      each = λ s below. c.in_ok-numbers.ensures.each s (omega (arith, below)) ∙ sym (rank_input c.args.inputs c.args.gone.now s (omega (arith, below)));
    }

pub loop-i-preserved : goal.loop-i-preserved
loop-i-preserved c =
    let next = number_by c.args.inputs c.loop-i.i c.loop-i.next c.number_after-next.result _ _ c.args.gone.now c.loop-i-test.true c.loop-i.invariant.next c.loop-i.invariant.small refl
    c.number_after-next.ensures in
    record {
      count = ap length c.in_ok-push.ensures.items ∙ length-append c.loop-i.numbers.items _ ∙ (let count = c.loop-i.invariant.count in omega (arith, count));
      next = next.0;
      small = next.1;
      each = numbers_more c.args.inputs c.loop-i.i c.loop-i.next c.number_after-next.result c.args.gone.now c.loop-i.numbers.items _ true c.loop-i-test.true
          c.loop-i.invariant.count c.in_ok-push.ensures.items c.loop-i.invariant.next c.loop-i.invariant.each;
    }
