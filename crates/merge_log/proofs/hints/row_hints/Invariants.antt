use Rattle.std.proofs.Common.{◌≡◌, ◌+◌, ◌≤◌, drop}
use Rattle.merge_log.specs.Chains.{row_chain}
use Rattle.merge_log.proofs.hints.row_hints.Given as goal

-- what the rest makes of the chain is what the whole row makes of the first one
abbrev pub invariant-loop-i : goal.invariant-loop-i
invariant-loop-i l = record {
  next : l.next ≤ l.from.place.clause + l.i;
  rest : row_chain l.merged l.next (drop l.i l.marks) (drop l.i l.from.pins.now) (drop l.i l.to.pins.now) l.chain ≡ row_chain l.merged l.from.place.clause l.marks l.from.pins.now l.to.pins.now
      l.initial.chain;
}
