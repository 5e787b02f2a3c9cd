-- Outcomes of rounds, behind the rounds before them.
use Rattle.std.proofs.Common.{◌≡◌, Bool, List, subst}
use Rattle.proof_semantics.specs.Formula.{Formula}
use Rattle.proof_semantics.specs.Logs.{LogItem}
use Rattle.cdcl_core.specs.Answers.{IsModel}
use Rattle.cdcl_core.specs.Outcomes.{IsOpenBehind, IsRefutationBehind, IsOutcome}
use Rattle.cdcl_core.specs.declared.outcome.Outcome.{Outcome}
use Rattle.cdcl_core.specs.declared.outcome.Outcome.TheVariants.{Model, Refuted, Open}
use Rattle.cdcl_core.proofs.Renaming.{open_joined, refuted_joined}

pub next_model : (f : Formula) (whole : List LogItem) (bits : List Bool) (o : Outcome) → IsOutcome f whole o → o ≡ Model bits → IsModel f bits
next_model f whole bits o h is = subst (IsOutcome f whole) is h

pub next_refuted : (f : Formula) (derived whole log : List LogItem) (o : Outcome) → IsOpenBehind f derived whole → IsOutcome f whole o → o ≡ Refuted log → IsRefutationBehind f derived log
next_refuted f derived whole log o first h is = refuted_joined f derived whole log first.begins (subst (IsOutcome f whole) is h)

pub next_open : (f : Formula) (derived whole log : List LogItem) (o : Outcome) → IsOpenBehind f derived whole → IsOutcome f whole o → o ≡ Open log → IsOpenBehind f derived log
next_open f derived whole log o first h is = open_joined f derived whole log first.begins (subst (IsOutcome f whole) is h)
