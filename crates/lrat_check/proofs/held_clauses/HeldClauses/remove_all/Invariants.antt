use Rattle.std.proofs.Common.{◌≡◌, drop}
use Rattle.proof_semantics.specs.Logs.{removed_from}
use Rattle.lrat_check.proofs.held_clauses.HeldClauses.remove_all.Given as goal

abbrev pub invariant-loop-id : goal.invariant-loop-id
invariant-loop-id l = (removed_from l.self.held (drop l.id-index l.ids) ≡ removed_from l.initial.self.held l.ids) × (l.self.last ≡ l.initial.self.last)
