use Rattle.std.proofs.Common.{◌≡◌, ◌++◌, drop, not, ltb, find, flat_map}
use Rattle.semantics.specs.Net.{TableValue}
use Rattle.net_core.proofs.undriven.first_undriven.Given as goal

-- what is past in the rest is past in the whole
abbrev pub invariant-loop-table : goal.invariant-loop-table
invariant-loop-table l =
    find (λ s. not (ltb s l.count)) (flat_map (λ (t : TableValue). t.pins) (drop l.table-index l.tables) ++ l.outputs)
    ≡ find (λ s. not (ltb s l.count)) (flat_map (λ (t : TableValue). t.pins) l.tables ++ l.outputs)
