use Rattle.std.proofs.Common.{ap, arith}
use Rattle.lrat_check.specs.declared.held_clauses.Entry.{Entry}
use Rattle.lrat_check.proofs.HeldMaps.{range_above, range_below}
use Rattle.lrat_check.proofs.held_clauses.search.Goals as goal

pub halves-preserved-then-found-id-2 : goal.halves-preserved-then-found-id-2
halves-preserved-then-found-id-2 c =
    range_above c.args.entries.now c.args.id c.halves.low c.halves.high _ c.requires c.halves.invariant (omega arith) (omega (arith, c.halves-test.true))
    c.index-entries-middle.result c.index-entries-middle.is (omega (arith, c.if-found-id-2.true, ap (λ (e : Entry). e.id) c.index-entries-middle.is))

pub halves-preserved : goal.halves-preserved
halves-preserved c =
    range_below c.args.entries.now c.args.id c.halves.low c.halves.high _ c.requires c.halves.invariant (omega arith) (omega (arith, c.halves-test.true))
    c.index-entries-middle.result c.index-entries-middle.is (omega (arith, c.if-found-id.false, c.if-found-id-2.false, ap (λ (e : Entry). e.id) c.index-entries-middle.is))
