use Rattle.std.proofs.Common.{◌+◌, length, ap, ◌∙◌, arith}
use Rattle.std.proofs.lemmas.List.{length_push}
use Rattle.needed_log.proofs.Keeping.{rank_more, rank_stays, rank_le, ids_more}
use Rattle.needed_log.proofs.new_ids.new_ids.Goals as goal
use Rattle.needed_log.proofs.new_ids.new_ids.Goals.{then-mark, else-mark}

pub overflow_add-next-then-mark : goal.overflow_add-next-then-mark
overflow_add-next-then-mark c = omega (arith, c.loop-mark.invariant.next, rank_le c.args.marks.now c.loop-mark.mark-index, c.requires, c.loop-mark-test.true)

pub loop-mark-preserved : goal.loop-mark-preserved
loop-mark-preserved c =
    let i = c.loop-mark.mark-index in
    let next = c.loop-mark.invariant.next in
    let items = c.in_ok-push.ensures.items in
    record {
      next = elim c.if-mark.branch [
        | then-mark w ↦ let is = w.next-is in let more = rank_more c.args.marks.now i w.if-mark.true in omega (arith, is, next, more)
        | else-mark w ↦ let is = w.next-is in let more = rank_stays c.args.marks.now i w.if-mark.false in omega (arith, is, next, more)
      ];
      count = ap length items ∙ length_push c.loop-mark.ids.items c.loop-mark.next ∙ ap (λ n. n + 1) c.loop-mark.invariant.count;
      ranks =
          ids_more c.args.clauses c.args.marks.now c.loop-mark.ids.items c.push.new.self.items i c.loop-mark.next c.loop-mark.invariant.count c.loop-mark.invariant.ranks next items;
    }
