use Rattle.std.proofs.Common.{◌≡◌, ◌-◌, length, drop, ap, subst, sym, ◌∙◌, arith, true, false}
use Rattle.std.proofs.lemmas.List.{take_at}
use Rattle.needed_log.specs.Needed.{hints_of}
use Rattle.needed_log.specs.Marks.{AreWithin, AreMarked}
use Rattle.needed_log.proofs.Steps.{hints_within}
use Rattle.needed_log.proofs.Marking.{marked_unmarked, marked_step, marked_end, read_mark}
use Rattle.needed_log.proofs.marks.needed_places.Goals as goal

pub mark_hints-requires : goal.mark_hints-requires
mark_hints-requires c =
    let test = c.loop-place-test.true in
    let within = c.loop-place.invariant.within in
    let clauses : c.len-clauses.result ≡ length c.args.formula.now.clauses = c.len-clauses.ensures ∙ ap length c.clauses.ensures.value in
    let places : length c.deref_mut.result.now ≡ length c.args.items.now = ap length c.deref_mut.ensures.value ∙ c.loop-place.invariant.marked.count in
    let item = c.index-items-place.result in
    let all = hints_within c.args.formula.now c.args.items.now (c.loop-place.place - 1) item c.requires.derivation (omega (arith, test, within)) in
    subst (AreWithin c.len-clauses.result (length c.deref_mut.result.now)) (sym c.hints_of.ensures)
    (subst (λ n. AreWithin n (length c.deref_mut.result.now) (hints_of item)) (sym clauses)
    (subst (λ n. AreWithin (length c.args.formula.now.clauses) n (hints_of item)) (sym places)
    (subst (λ it. AreWithin (length c.args.formula.now.clauses) (length c.args.items.now) (hints_of it)) (sym c.index-items-place.is) all)))

pub loop-place-preserved-then-index : goal.loop-place-preserved-then-index
loop-place-preserved-then-index c =
    let within = c.loop-place.invariant.within in
    let test = c.loop-place-test.true in
    let marks = c.loop-place.marks.items in
    let count = c.loop-place.invariant.marked.count in
    let clauses : c.len-clauses.result ≡ length c.args.formula.now.clauses = c.len-clauses.ensures ∙ ap length c.clauses.ensures.value in
    record {
      from = omega (arith, test);
      within = omega (arith, within);
      marked =
          subst (AreMarked c.len-clauses.result c.args.first (c.loop-place.place - 1) c.args.items.now)
          (sym (take_at c.mark_hints.new.marks (drop (length c.mark_hints.new.marks) marks) c.loop-place.marks.len (c.mark_hints.ensures.count ∙ c.deref_mut.ensures.len)))
          (marked_step c.args.formula.now c.args.first (c.loop-place.place - 1) c.loop-place.place c.len-clauses.result c.args.items.now c.index-items-place.result c.hints_of.result.now
          marks c.deref_mut.result.now c.mark_hints.new.marks c.requires.derivation clauses (omega (arith, test)) within c.index-items-place.is c.hints_of.ensures c.deref_mut.ensures.value
          (read_mark marks (c.loop-place.place - 1) c.index.result.now true (omega (arith, test, within, count)) c.index.ensures c.if-index.true) c.mark_hints.ensures
          c.loop-place.invariant.marked);
    }

pub loop-place-preserved : goal.loop-place-preserved
loop-place-preserved c =
    let within = c.loop-place.invariant.within in
    let test = c.loop-place-test.true in
    let count = c.loop-place.invariant.marked.count in
    record {
      from = omega (arith, test);
      within = omega (arith, within);
      marked =
          marked_unmarked c.len-clauses.result c.args.first (c.loop-place.place - 1) c.loop-place.place c.args.items.now c.loop-place.marks.items (omega (arith, test))
          (read_mark c.loop-place.marks.items (c.loop-place.place - 1) c.index.result.now false (omega (arith, test, within, count)) c.index.ensures c.if-index.false)
          c.loop-place.invariant.marked;
    }

pub returns : goal.returns
returns c =
    let from = c.loop-place.invariant.from in
    let test = c.loop-place-test.false in
    marked_end c.args.formula.now c.args.first c.loop-place.place c.len-clauses.result c.args.items.now c.loop-place.marks.items c.requires.derivation
    (c.len-clauses.ensures ∙ ap length c.clauses.ensures.value) (omega (arith, from, test)) c.loop-place.invariant.marked
