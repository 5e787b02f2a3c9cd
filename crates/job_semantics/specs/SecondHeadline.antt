-- The promise about second netlists as sentences about one run: the job, what was answered, and what files
-- and sink told at entry and at exit. Source: this tool's own promise.
--
-- When `confirm` verifies a bundle, on every input the approximate circuit's error against the original is at
-- most the stated maximum, which is within the bound and attained at the witness; unless the stated conflicts
-- were spent, every second netlist within the bound gets a bundle that `confirm` verifies: from `certify` for
-- the netlist as it is, from `refine` for one that admits no further single simplification. To refine IN
-- itself is a synthesis, of which the headline speaks.
use Rattle.std.specs.Prelude.{◌≡◌, ◌⊎◌, ℕ, ◌≤◌, Bool, Some, None, List, length, Contains}
use Rattle.semantics.specs.Texts.{Bytes}
use Rattle.semantics.specs.Net.{NetValue, input_count, table_count, literal_count, HasSamePorts}
use Rattle.semantics.specs.Error.{net_error, IsWithin}
use Rattle.semantics.specs.declared.metric.Metric.{Metric}
use Rattle.outside_semantics.specs.Outside.{Held, WhereTold, bytes_of}
use Rattle.chain_semantics.specs.declared.moves.Move.{Move}
use Rattle.chain_semantics.specs.Moves.{moves_of, moved}
use Rattle.chain_semantics.specs.Simplification.{IsInSimplificationFrom, IsSimplificationEndFrom}
use Rattle.proof_semantics.specs.Queries.{SpentValue, IsSpentQuery}
use Rattle.job_semantics.specs.declared.growth.Growth.TheVariants.{Allowed}
use Rattle.job_semantics.specs.declared.task.Task.{Task}
use Rattle.job_semantics.specs.declared.task.Task.TheVariants.{Certify, Refine}
use Rattle.job_semantics.specs.Job.{against, confirm, job_of, TaskNames}
use Rattle.job_semantics.specs.Input.{IsReadAs}
use Rattle.job_semantics.specs.Report.{Report}
use Rattle.job_semantics.specs.Certificate.{Texts, texts_of, IsNetlist, IsReport, CertifiesWith}
use Rattle.job_semantics.specs.Checking.{Verifies, VerifiesWith}
use Rattle.job_semantics.specs.SecondNetlist.{AreRead, IsQuietTask}
use Rattle.proof_semantics.specs.declared.constraint.Constraint.{Constraint}
use Rattle.job_semantics.specs.Call.{Call}
use Rattle.job_semantics.specs.Synthesis.{Request, claim_of, request_of}
use Rattle.job_semantics.specs.Headline.{Answered}

-- The texts name one circuit, which has the original's inputs and outputs by their names, and state one
-- maximum with a witness; on every input the circuit's error is at most that maximum.
pub record KeepsTheBound (metric : Metric) (bound : ℕ) (exact : NetValue) (texts : Texts) : Type 0 where
  pub approx : NetValue
  pub report : Report
  pub netlist : IsNetlist texts approx
  pub reported : IsReport metric bound exact texts report
  pub the_same_ports : HasSamePorts exact approx
  pub on_every_input : (x : List Bool) → length x ≡ input_count exact
      → net_error metric exact approx x ≤ report.maximum
  pub within_the_bound : report.maximum ≤ bound
  pub attained_at_the_witness : net_error metric exact approx report.witness ≡ report.maximum

-- the circuit is the second netlist's as it is, or the end of the chain of simplifications that begins with
-- it: no single move of that keeps the bound
abbrev pub IsAsAsked : Task → Constraint → NetValue → NetValue → NetValue → Type 0
IsAsAsked Certify aim exact begin approx = approx ≡ begin
IsAsAsked Refine aim exact begin approx = IsSimplificationEndFrom aim.metric exact aim.bound begin approx

-- The files hold a bundle that verifies: its texts are a certificate, by which the circuit may be larger than
-- the original, and each quiet confirm job over these files is verified, where each of the five has fewer
-- than 2^40 bytes, unless memory is wanting. So is each quiet check where the circuit is not larger. The
-- circuit has the original's inputs and outputs by their names, and is what was asked for.
pub record IsCertifiedAs (r : Request) (input stem : Bytes) (held : Held) : Type 0 where
  pub certificate : CertifiesWith (claim_of r.aim Allowed) r.exact (texts_of held stem)
  pub confirmed : VerifiesWith (claim_of r.aim Allowed) input stem held
  pub approx : NetValue
  pub netlist : IsNetlist (texts_of held stem) approx
  pub the_same_ports : HasSamePorts r.exact approx
  pub as_asked : IsAsAsked r.task r.aim r.exact r.begin approx
  pub checked : table_count approx ≤ table_count r.exact → literal_count approx ≤ literal_count r.exact
      → Verifies r.aim.metric r.aim.bound input stem held

-- the net is a member of the chain that begins with `begin`, or comes of a member by one move
pub record IsOfTheChainFrom (metric : Metric) (exact : NetValue) (bound : ℕ)
    (begin N : NetValue) : Type 0 where
  pub member : NetValue
  pub in_the_chain : IsInSimplificationFrom metric exact bound begin member
  pub at_most_a_move : (N ≡ member) ⊎ ((m : Move) × Contains (moves_of member) m × (N ≡ moved member m))

-- the nets that a task asks about: the second net and, to refine it, those of its chain
abbrev pub IsAskedAbout : Task → Constraint → NetValue → NetValue → NetValue → Type 0
IsAskedAbout Certify aim exact begin N = N ≡ begin
IsAskedAbout Refine aim exact begin N
    = (N ≡ begin) ⊎ IsOfTheChainFrom aim.metric exact aim.bound begin N

-- The stated conflicts were spent on the question whether the error of such a net exceeds a level within the
-- bound: the log is a chain of exactly `limit` conflicts over the miter of that question, and `limit`
-- conflicts are not enough for the inputs.
pub record AreSpentOnSecond (r : Request) (q : SpentValue) : Type 0 where
  pub level : q.k ≤ r.aim.bound
  pub net : IsAskedAbout r.task r.aim r.exact r.begin q.net
  pub query : IsSpentQuery r.aim.metric r.exact r.aim.limit q

-- The files are told at entry and at exit; memory was there, and no call on the files or the sink that the
-- job needs failed.
pub record SecondHeadline (words : List Bytes) (answered : Answered) (call : Call) : Type 0 where
  pub when_confirm_verifies : (metric : Metric) (bound : ℕ) (input stem : Bytes)
      → job_of words ≡ Some (confirm metric bound input stem) → answered.Verified
      → WhereTold call.old call.new (λ a b. (exact : NetValue) × IsReadAs (bytes_of a input) exact
      × KeepsTheBound metric bound exact (texts_of b stem))
  pub unless_conflicts_were_spent : (task : Task) (aim : Constraint) (names : TaskNames)
      → job_of words ≡ Some (against task aim names)
      → IsQuietTask names call → ¬ answered.NoMemory → answered.spent ≡ None → answered.level ≡ None
      → WhereTold call.old call.new (λ a b. (exact begin : NetValue) → IsReadAs (bytes_of a names.input) exact
      → IsReadAs (bytes_of a names.second) begin → HasSamePorts exact begin
      → IsWithin aim.metric exact aim.bound begin
      → answered.Done × IsCertifiedAs (request_of task aim exact begin) names.input names.stem b)
  pub the_conflicts_that_were_spent : (task : Task) (aim : Constraint) (names : TaskNames)
      → job_of words ≡ Some (against task aim names)
      → (q : SpentValue) → (answered.spent ≡ Some q) ⊎ (answered.level ≡ Some q)
      → (exact : NetValue) × (begin : NetValue) × AreRead names.input names.second call exact begin
      × AreSpentOnSecond (request_of task aim exact begin) q
