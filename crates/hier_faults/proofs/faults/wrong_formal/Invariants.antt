use Rattle.std.proofs.Common.{◌≡◌, [], map, drop}
use Rattle.hierarchy_semantics.specs.Refusals.{wrong_formal}
use Rattle.hier_faults.proofs.faults.wrong_formal.Given as goal

abbrev pub invariant-loop-b : goal.invariant-loop-b
invariant-loop-b l = wrong_formal l.model.ports l.earlier (map (λ b. b.formal) (drop l.b-index l.b-items)) ≡ wrong_formal l.model.ports [] (map (λ b. b.formal) l.b-items)
