use Rattle.std.proofs.Common.{subst, sym}
use Rattle.proof_semantics.specs.Logs.{IsDerivation}
use Rattle.worked_rows.specs.Copies.{two_copies, equal_copies}
use Rattle.worked_rows.proofs.EqualCopies.{equal_copies-derive}
use Rattle.worked_rows.proofs.merged_steps.is_refuted.Goals as goal

pub solve-requires-clause-merged : goal.solve-requires-clause-merged
solve-requires-clause-merged c =
    subst (λ f. IsDerivation f c.in_ok-merged.merged) (sym c.in_ok-cnf.ensures)
    (subst (IsDerivation two_copies) (sym c.in_ok-merged.ensures) equal_copies-derive)
