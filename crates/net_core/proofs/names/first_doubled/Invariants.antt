use Rattle.std.proofs.Common.{◌≡◌, ◌++◌, take, drop, map}
use Rattle.semantics.specs.Net.{TableValue}
use Rattle.semantics.specs.Refusals.{first_doubled, first_doubled_after}
use Rattle.net_core.proofs.names.first_doubled.Given as goal

abbrev pub invariant-loop-s : goal.invariant-loop-s
invariant-loop-s l = record {
  seen : l.seen ≡ take l.s (l.inputs ++ map (λ (t : TableValue). t.name) l.tables);
  rest : first_doubled_after l.seen (drop l.s (l.inputs ++ map (λ (t : TableValue). t.name) l.tables)) ≡ first_doubled (l.inputs ++ map (λ (t : TableValue). t.name) l.tables);
}
