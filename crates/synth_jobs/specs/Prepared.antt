-- What is ready before the first file is touched.
use Rattle.std.specs.Prelude.{◌≡◌, Option}
use Rattle.semantics.specs.Net.{NetValue}
use Rattle.proof_semantics.specs.declared.constraint.Constraint.{Constraint}
use Rattle.proof_semantics.specs.Formula.{Formula}
use Rattle.proof_semantics.specs.Miter.{miter}
use Rattle.proof_semantics.specs.Queries.{MaximumValue, IsMaximum}
use Rattle.job_semantics.specs.declared.version.Version.TheVariants.{Two}
use Rattle.job_semantics.specs.Bundle.{BundleValue, bundle_text}
use Rattle.job_semantics.specs.declared.growth.Growth.{Growth}
use Rattle.job_semantics.specs.declared.task.Task.{Task}
use Rattle.job_semantics.specs.Certificate.{IsNetlist, OfReport, IsOfAllowedSize, CertifiesWith}
use Rattle.job_semantics.specs.Shrinking.{Shrinking}
use Rattle.job_semantics.specs.Synthesis.{Request, Simplified, claim_of, IsTaskDone, IsSimplifiedFrom}
use Rattle.job_semantics.specs.Synthesis.{IsRefutedBy, MaximumSpent, is_shown_minimal, synth_bundle}
use Rattle.level_answers.specs.declared.query.Spent as spent
use Rattle.level_answers.specs.Exceeds.{spent_value}
use Rattle.net_search.specs.declared.search.Shrunk.{Shrunk}
use Rattle.synth_jobs.specs.declared.preparing.Findings.{Findings}
use Rattle.synth_jobs.specs.declared.preparing.Searched as searched
use Rattle.synth_jobs.specs.declared.preparing.Prepared.{Prepared}
use Rattle.synth_jobs.specs.declared.preparing.Prepared.TheVariants.{Ready, Budget}
use Rattle.synth_jobs.specs.Spent.{told_query}

-- b is the bundle of what the task makes of the beginning; its log refutes its formula, and its texts are a
-- certificate for each growth that the net's size allows, whose report is of version 2
pub record IsReady (r : Request) (b : BundleValue) (spent : Option spent.Spent) : Type 0 where
  pub result : Simplified
  pub right : IsSimplifiedFrom r result
  pub is_spent : told_query spent ≡ result.spent
  pub refuted : IsRefutedBy (miter r.exact result.net r.aim.metric result.maximum.error) result.maximum.log
  pub is : b ≡ synth_bundle r result
  pub netlist : IsNetlist (bundle_text b) result.net
  pub certificate : (growth : Growth) → IsOfAllowedSize growth r.exact result.net
      → CertifiesWith (claim_of r.aim growth) r.exact (bundle_text b)
  pub version : OfReport r.aim.metric r.aim.bound r.exact (bundle_text b) (λ told. told.version ≡ Two)

-- the bundle of what was found, with its formula
abbrev pub bundle_of : Task → Constraint → NetValue → Findings → Formula → BundleValue
bundle_of task aim exact found goal = record {
  version = Two;
  exact = exact;
  approx = found.shrunk.net;
  metric = aim.metric;
  bound = aim.bound;
  maximum = found.maximum;
  witness = found.witness;
  pool = found.shrunk.pool.vectors;
  minimal = is_shown_minimal task (told_query found.shrunk.spent);
  goal = goal;
  log = found.log;
}

-- what is told of the net that was reached, its vectors and the spent query
abbrev pub told_shrinking : Shrunk → Shrinking
told_shrinking s = record { net = s.net; pool = s.pool.vectors; spent = told_query s.spent }

-- the greatest error that was found
abbrev pub found_maximum : Findings → MaximumValue
found_maximum found = record { error = found.maximum; witness = found.witness; log = found.log }

-- the task came to this net, whose greatest error this is
pub record AreFound (r : Request) (found : Findings) : Type 0 where
  pub search : IsTaskDone r.task r.aim r.exact r.begin (told_shrinking found.shrunk)
  pub most : IsMaximum r.aim.metric r.exact found.shrunk.net (found_maximum found)

-- what the task and the search for the greatest error come to
abbrev pub IsSearched : Request → searched.Searched → Type 0
IsSearched r (searched.TheVariants.Found found) = AreFound r found
IsSearched r (searched.TheVariants.Budget level spent)
    = MaximumSpent r (told_query spent) (spent_value level)

abbrev pub IsPrepared : Request → Prepared → Type 0
IsPrepared r (Ready bundle spent) = IsReady r bundle spent
IsPrepared r (Budget level spent) = MaximumSpent r (told_query spent) (spent_value level)
