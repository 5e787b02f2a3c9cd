use Rattle.std.proofs.Common.{◌<◌, ◌∙◌, length, arith}
use Rattle.std.proofs.lemmas.List.{length-set}
use Rattle.cdcl_core.proofs.Telling.{entry_at, back_at, told_all}
use Rattle.cdcl_core.proofs.trail.untell.Goals as goal

pub index_mut-requires : goal.index_mut-requires
index_mut-requires c =
    let low : c.index.result < length c.down.told.items =
    entry_at c.down.told.items c.args.literals.now c.down.end c.index.result c.index-literals-end.result (omega arith) c.down.invariant.within c.down.invariant.told c.index-literals-end.is
    c.index.ensures in
    omega arith

pub down-preserved : goal.down-preserved
down-preserved c = record {
  order = let low = c.down.invariant.order in omega arith;
  within = let within = c.down.invariant.within in omega arith;
  told = back_at c.down.told.items c.args.literals.now c.down.end c.index.result c.index-literals-end.result c.requires.consistent (omega arith) c.down.invariant.within c.down.invariant.told
      c.index-literals-end.is c.index.ensures;
  wide = length-set c.down.told.items c.index.result _ ∙ c.down.invariant.wide;
}

pub returns-clause-told : goal.returns-clause-told
returns-clause-told c =
    told_all c.down.told.items c.args.literals.now c.down.end c.args.start c.down.invariant.told c.down.invariant.order (omega arith) c.down.invariant.within
