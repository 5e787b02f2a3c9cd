-- What a synth or a demo job comes to, by its answer, and what the bundle of every job holds. Source: SALSA,
-- simplification within a bound on the error.
use Rattle.std.specs.Prelude.{◌≡◌, ◌⊎◌, ◌≤◌, Bool, false, IsTrue, Option, Some, None, is_none, List, []}
use Rattle.std.specs.FinMap.{contains_key}
use Rattle.semantics.specs.Texts.{Bytes}
use Rattle.semantics.specs.Net.{NetValue, table_count, literal_count}
use Rattle.proof_semantics.specs.Clauses.{IsUnsatisfiable}
use Rattle.proof_semantics.specs.Formula.{Formula}
use Rattle.proof_semantics.specs.Miter.{miter}
use Rattle.proof_semantics.specs.Logs.{LogItem, Refutes, IsDerivation}
use Rattle.proof_semantics.specs.Queries.{SpentValue, IsMaximum, IsSpentLevel, MaximumValue}
use Rattle.outside_semantics.specs.Outside.{Held, FilesTold, Goes, Rose, WhereTold, Took}
use Rattle.outside_semantics.specs.Outside.{TakeFailed, bytes_of}
use Rattle.outside_semantics.specs.WrittenFiles.{File, FilesWritten, FilesCutShort}
use Rattle.job_semantics.specs.declared.ending.Ending.TheVariants.{Report}
use Rattle.job_semantics.specs.declared.version.Version.TheVariants.{Two}
use Rattle.job_semantics.specs.Endings.{bundle_files, are_bundle_names_steady}
use Rattle.job_semantics.specs.Bundle.{BundleValue, bundle_text}
use Rattle.job_semantics.specs.Certificate.{OfBundle, OfReport, IsNetlist, IsOfAllowedSize, CertifiesWith}
use Rattle.job_semantics.specs.declared.growth.Growth.{Growth}
use Rattle.job_semantics.specs.declared.task.Task.{Task}
use Rattle.job_semantics.specs.declared.task.Task.TheVariants.{Certify, Refine}
use Rattle.job_semantics.specs.Shrinking.{Shrinking, IsShrinking}
use Rattle.job_semantics.specs.Input.{IsReadAs, IsAccepted}
use Rattle.proof_semantics.specs.declared.constraint.Constraint.{Constraint}
use Rattle.job_semantics.specs.Call.{Call}
use Rattle.job_semantics.specs.declared.claim.Claim.{Claim}

-- What is to be done with two nets: `begin` is certified, or refined, against `exact`.
pub record Request : Type 0 where
  pub task : Task
  pub aim : Constraint
  pub exact : NetValue
  pub begin : NetValue

abbrev pub request_of : Task → Constraint → NetValue → NetValue → Request
request_of task aim exact begin = record { task = task; aim = aim; exact = exact; begin = begin }

-- to simplify a net is to refine it against itself
abbrev pub simplifying : Constraint → NetValue → Request
simplifying aim exact = request_of Refine aim exact exact

-- what a certificate claims of the net that comes of a request
abbrev pub claim_of : Constraint → Growth → Claim
claim_of aim growth = record { metric = aim.metric; bound = aim.bound; growth = growth }

-- What a net comes to within a limit of conflicts for each query: the net itself, or the member of the chain
-- that was reached; the vectors that broke moves; the spent query, where a query was spent; and the greatest
-- error.
pub record Simplified : Type 0 where
  pub net : NetValue
  pub pool : List (List Bool)
  pub spent : Option SpentValue
  pub maximum : MaximumValue

abbrev pub shrinking_of : Simplified → Shrinking
shrinking_of s = record { net = s.net; pool = s.pool; spent = s.spent }

-- What is done with the beginning: it is certified as it is, without a vector; or it is refined along the
-- chain that begins with it.
abbrev pub IsTaskDone : Task → Constraint → NetValue → NetValue → Shrinking → Type 0
IsTaskDone Certify aim exact begin s = s ≡ record { net = begin; pool = []; spent = None }
IsTaskDone Refine aim exact begin s = IsShrinking aim exact begin s

-- The net is the beginning, or a member of its chain, and the end of the chain unless a query was spent. The
-- maximum is the greatest error, is attained at its witness and is within the bound; its log shows that no
-- error exceeds it; no count of the net grew from the beginning.
pub record IsSimplifiedFrom (r : Request) (s : Simplified) : Type 0 where
  pub search : IsTaskDone r.task r.aim r.exact r.begin (shrinking_of s)
  pub most : IsMaximum r.aim.metric r.exact s.net s.maximum
  pub within : s.maximum.error ≤ r.aim.bound
  pub tables : table_count s.net ≤ table_count r.begin
  pub literals : literal_count s.net ≤ literal_count r.begin

-- The log refutes the formula and is a derivation over the formula; so no assignment satisfies the formula.
pub record IsRefutedBy (f : Formula) (log : List LogItem) : Type 0 where
  pub refutes : Refutes f.clauses log
  pub derivation : IsDerivation f log
  pub unsatisfiable : IsUnsatisfiable f.clauses

-- whether the report says that no further move is allowed: where the net was refined and no query was spent
abbrev pub is_shown_minimal : Task → Option SpentValue → Bool
is_shown_minimal Certify spent = false
is_shown_minimal Refine spent = is_none spent

-- The bundle is of version 2. The formula says that some error exceeds the maximum. Behind the witness stand
-- the vectors that break moves.
abbrev pub synth_bundle : Request → Simplified → BundleValue
synth_bundle r s = record {
  version = Two;
  exact = r.exact;
  approx = s.net;
  metric = r.aim.metric;
  bound = r.aim.bound;
  maximum = s.maximum.error;
  witness = s.maximum.witness;
  pool = s.pool;
  minimal = is_shown_minimal r.task s.spent;
  goal = miter r.exact s.net r.aim.metric s.maximum.error;
  log = s.maximum.log;
}

-- the files of a bundle in the order in which they are written
abbrev pub synth_files : Request → Bytes → Simplified → List File
synth_files r stem s = bundle_files stem (bundle_text (synth_bundle r s))

abbrev pub synth_report : Request → Simplified → Bytes
synth_report r s = bundle_text (synth_bundle r s) Report

-- P of the files at entry, where they are told and hold the name
abbrev pub WhereHeld : FilesTold → Bytes → (Held → Type 0) → Type 0
WhereHeld old name P = (a : Held) → old.held ≡ Some a → IsTrue (contains_key a name) → P a

-- P of the bytes of IN: once where the files are told at entry and at exit, and once where they are told at
-- entry and hold IN
pub record OfInput (call : Call) (input : Bytes) (P : Bytes → Type 0) : Type 0 where
  pub told : WhereTold call.old call.new (λ a b. P (bytes_of a input))
  pub at_entry : WhereHeld call.old input (λ a. P (bytes_of a input))

-- no file changed, no count of faults fell, no steady name was lost, what was told of a held IN is still
-- told, and the sink tells what it told
pub record IsUntouched (input : Bytes) (call : Call) : Type 0 where
  pub goes : Goes call.old call.new
  pub files : WhereTold call.old call.new (λ a b. b ≡ a)
  pub still_told : WhereHeld call.old input (λ a. call.new.held ≡ Some a)
  pub sink : call.says ≡ call.said

-- The task was done, the files were written, and then the report was put to the sink. The texts of the files
-- are a certificate, by which the net may be larger than the original; where it is not larger, they are one
-- by which it may not be. Their report is of version 2.
pub record BundleWritten (r : Request) (stem : Bytes) (spent : Option SpentValue) (call : Call) : Type 0 where
  pub result : Simplified
  pub right : IsSimplifiedFrom r result
  pub is_spent : spent ≡ result.spent
  pub refuted : IsRefutedBy (miter r.exact result.net r.aim.metric result.maximum.error) result.maximum.log
  pub files : FilesWritten call.old call.new (synth_files r stem result)
  pub report : Took call.said call.says (synth_report r result)
  pub netlist : OfBundle call.old call.new stem (λ texts. IsNetlist texts result.net)
  pub certificate : (growth : Growth) → IsOfAllowedSize growth r.exact result.net
      → OfBundle call.old call.new stem (CertifiesWith (claim_of r.aim growth) r.exact)
  pub version : OfBundle call.old call.new stem
      (λ texts. OfReport r.aim.metric r.aim.bound r.exact texts (λ report. report.version ≡ Two))

-- The task was done. Either a file could not be written whole, and nothing was put to the sink; or all files
-- were written, and a first part of the report was put.
pub record BundleCutShort (r : Request) (stem : Bytes) (call : Call) : Type 0 where
  pub result : Simplified
  pub right : IsSimplifiedFrom r result
  pub refuted : IsRefutedBy (miter r.exact result.net r.aim.metric result.maximum.error) result.maximum.log
  pub left :
      (FilesCutShort call.old call.new (synth_files r stem result) × (call.says ≡ call.said))
      ⊎ (FilesWritten call.old call.new (synth_files r stem result)
      × TakeFailed call.said call.says (synth_report r result))

-- The task was done, and the search for the maximum of its net was spent at a level within the bound. `spent`
-- is the query on a move that was spent before, where one was.
pub record MaximumSpent (r : Request) (spent : Option SpentValue) (level : SpentValue) : Type 0 where
  pub result : Shrinking
  pub search : IsTaskDone r.task r.aim r.exact r.begin result
  pub is_spent : spent ≡ result.spent
  pub query : IsSpentLevel r.aim r.exact result.net level

-- done: IN was read as the exact net, whose bundle was written
pub record SynthDone (aim : Constraint) (input stem : Bytes) (spent : Option SpentValue)
    (call : Call) : Type 0 where
  pub exact : NetValue
  pub read : OfInput call input (λ text. IsReadAs text exact)
  pub written : BundleWritten (simplifying aim exact) stem spent call

-- conflicts spent: IN was read as the exact net, the search for the maximum was spent, and nothing was
-- touched
pub record SynthBudget (aim : Constraint) (input : Bytes) (spent : Option SpentValue) (level : SpentValue)
    (call : Call) : Type 0 where
  pub untouched : IsUntouched input call
  pub exact : NetValue
  pub read : OfInput call input (λ text. IsReadAs text exact)
  pub search : MaximumSpent (simplifying aim exact) spent level

-- IN is held and is refused
pub record InputRefused (IsRefused : Bytes → Type 0) (input : Bytes) (call : Call) : Type 0 where
  pub untouched : IsUntouched input call
  pub held : WhereTold call.old call.new (λ a b. IsTrue (contains_key a input))
  pub refused : OfInput call input IsRefused

-- a fault came while IN was read, and IN is not steady
pub record InputReadFault (input : Bytes) (call : Call) : Type 0 where
  pub untouched : IsUntouched input call
  pub rose : Rose call.old.faults call.new.faults
  pub not_steady : call.old.steady_read input ≡ false

-- a file or the report could not be written
pub record SynthWriteFault (aim : Constraint) (input stem : Bytes) (call : Call) : Type 0 where
  pub exact : NetValue
  pub read : OfInput call input (λ text. IsReadAs text exact)
  pub left : BundleCutShort (simplifying aim exact) stem call

-- IN is accepted; where the files are not told both at entry and at exit, IN counts as accepted
abbrev pub CountsAs : (Bytes → Type 0) → Call → Bytes → Type 0
CountsAs IsAcceptable call input = WhereTold call.old call.new (λ a b. IsAcceptable (bytes_of a input))

-- The files that are needed by a job that turns IN into files are steady at entry: IN for reading and, where
-- IN is accepted, the files that the job writes for writing.
pub record AreFilesSteady (IsAcceptable : Bytes → Type 0) (AreWrittenSteady : Type 0) (call : Call)
    (input : Bytes) : Type 0 where
  pub read : IsTrue (call.old.steady_read input)
  pub written : CountsAs IsAcceptable call input → AreWrittenSteady

-- The sink's count of faults did not rise in the call, and the files' count rose only where every file that
-- is needed is steady.
pub record IsQuiet (NeededAreSteady : Type 0) (call : Call) : Type 0 where
  pub files : (¬ Rose call.old.faults call.new.faults) ⊎ NeededAreSteady
  pub sink : ¬ Rose call.said.faults call.says.faults

abbrev pub IsQuietSynth : Bytes → Bytes → Call → Type 0
IsQuietSynth input stem call
    = IsQuiet (AreFilesSteady IsAccepted (IsTrue (are_bundle_names_steady call.old stem)) call input) call
