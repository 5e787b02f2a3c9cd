-- What a certify or a refine job comes to, by its answer: a second netlist is judged against IN, and is
-- certified as it is or refined. The answers to IN itself are those of a synth job. Source: this tool's own
-- jobs.
use Rattle.std.specs.Prelude.{◌≡◌, ◌⊎◌, ℕ, Bool, false, IsTrue, Option, Some, None, List}
use Rattle.std.specs.FinMap.{contains_key}
use Rattle.semantics.specs.Texts.{Bytes}
use Rattle.semantics.specs.Net.{NetValue, HasSamePorts}
use Rattle.semantics.specs.declared.metric.Metric.{Metric}
use Rattle.blif_semantics.specs.Reading.{Refusal}
use Rattle.chain_semantics.specs.Simplification.{IsBeginning}
use Rattle.proof_semantics.specs.Queries.{SpentValue, IsOver, IsSpentQuery}
use Rattle.outside_semantics.specs.Outside.{Held, FilesTold, Goes, Rose, WhereTold, bytes_of}
use Rattle.job_semantics.specs.declared.task.Task.{Task}
use Rattle.job_semantics.specs.Endings.{are_bundle_names_steady}
use Rattle.job_semantics.specs.Input.{IsReadAs, IsRefusedFor, IsAccepted}
use Rattle.job_semantics.specs.Synthesis.{OfInput, CountsAs, IsQuiet, BundleWritten, BundleCutShort, Request}
use Rattle.job_semantics.specs.Synthesis.{request_of}
use Rattle.job_semantics.specs.Synthesis.{MaximumSpent}
use Rattle.proof_semantics.specs.declared.constraint.Constraint.{Constraint}
use Rattle.job_semantics.specs.Call.{Call}
use Rattle.job_semantics.specs.Job.{TaskNames}

-- P of the files at entry, where they are told and hold both names
abbrev pub WhereBothHeld : FilesTold → Bytes → Bytes → (Held → Type 0) → Type 0
WhereBothHeld old input second P = (a : Held) → old.held ≡ Some a → IsTrue (contains_key a input)
    → IsTrue (contains_key a second) → P a

-- P of the bytes of the second netlist, which is read behind IN: once where the files are told at entry and
-- at exit, and once where they are told at entry and hold both
pub record OfSecond (call : Call) (input second : Bytes) (P : Bytes → Type 0) : Type 0 where
  pub told : WhereTold call.old call.new (λ a b. P (bytes_of a second))
  pub at_entry : WhereBothHeld call.old input second (λ a. P (bytes_of a second))

-- no file changed, no count of faults fell, no steady name was lost, what was told of files that hold both
-- names is still told, and the sink tells what it told
pub record AreUntouched (input second : Bytes) (call : Call) : Type 0 where
  pub goes : Goes call.old call.new
  pub files : WhereTold call.old call.new (λ a b. b ≡ a)
  pub still_told : WhereBothHeld call.old input second (λ a. call.new.held ≡ Some a)
  pub sink : call.says ≡ call.said

-- IN was read as the exact net, and the second netlist as the beginning
pub record AreRead (input second : Bytes) (call : Call) (exact begin : NetValue) : Type 0 where
  pub input_read : OfInput call input (λ text. IsReadAs text exact)
  pub second_read : OfSecond call input second (λ text. IsReadAs text begin)

-- IN was read as a net; the second netlist is held and is refused for this reason
pub record SecondRefused (refusal : Refusal) (input second : Bytes) (call : Call) : Type 0 where
  pub untouched : AreUntouched input second call
  pub exact : NetValue
  pub input_read : OfInput call input (λ text. IsReadAs text exact)
  pub held : WhereTold call.old call.new (λ a b. IsTrue (contains_key a second))
  pub refused : OfSecond call input second (λ text. IsRefusedFor text refusal)

-- both were read as nets, and P holds of the two; nothing was touched
pub record AreBothRead (input second : Bytes) (call : Call)
    (P : NetValue → NetValue → Type 0) : Type 0 where
  pub untouched : AreUntouched input second call
  pub exact : NetValue
  pub begin : NetValue
  pub read : AreRead input second call exact begin
  pub holds : P exact begin

-- the second net's input names or its output names are not those of IN, in order
abbrev pub HasOtherPorts : NetValue → NetValue → Type 0
HasOtherPorts exact begin = ¬ HasSamePorts exact begin

-- the second net has IN's ports, and its error exceeds the bound at x; with at most eight inputs x is the
-- first such vector in counting order
pub record IsAboveBound (metric : Metric) (bound : ℕ) (x : List Bool) (exact begin : NetValue) : Type 0 where
  pub ports : HasSamePorts exact begin
  pub over : IsOver metric exact begin bound x

-- the question whether the second net's error exceeds the bound was spent
pub record IsBoundSpent (aim : Constraint) (exact begin : NetValue) (level : SpentValue) : Type 0 where
  pub ports : HasSamePorts exact begin
  pub query : IsSpentQuery aim.metric exact aim.limit level
  pub net : level.net ≡ begin
  pub at_bound : level.k ≡ aim.bound

-- The conflicts of a question were spent: of the question whether the second net's error exceeds the bound,
-- or of the one for the maximum.
abbrev pub IsTaskSpent : Request → Option SpentValue → SpentValue → Type 0
IsTaskSpent r spent level =
    (IsBoundSpent r.aim r.exact r.begin level × (spent ≡ None))
    ⊎ (IsBeginning r.aim.metric r.exact r.aim.bound r.begin × MaximumSpent r spent level)

-- done: both were read, the second net keeps the bound, and its bundle was written
pub record TaskDone (task : Task) (aim : Constraint) (names : TaskNames) (spent : Option SpentValue)
    (call : Call) : Type 0 where
  pub exact : NetValue
  pub begin : NetValue
  pub read : AreRead names.input names.second call exact begin
  pub beginning : IsBeginning aim.metric exact aim.bound begin
  pub written : BundleWritten (request_of task aim exact begin) names.stem spent call

-- a file or the report could not be written
pub record TaskWriteFault (task : Task) (aim : Constraint) (names : TaskNames) (call : Call) : Type 0 where
  pub exact : NetValue
  pub begin : NetValue
  pub read : AreRead names.input names.second call exact begin
  pub beginning : IsBeginning aim.metric exact aim.bound begin
  pub left : BundleCutShort (request_of task aim exact begin) names.stem call

-- a fault came while a needed file was read, and that file is not steady: IN or, where IN is accepted, the
-- second netlist
pub record TaskReadFault (input second : Bytes) (call : Call) : Type 0 where
  pub untouched : AreUntouched input second call
  pub rose : Rose call.old.faults call.new.faults
  pub not_steady :
      (call.old.steady_read input ≡ false)
      ⊎ (CountsAs IsAccepted call input × (call.old.steady_read second ≡ false))

-- The files that are needed are steady at entry: IN for reading; where IN is accepted, the second netlist for
-- reading; and where both are accepted, the files of the bundle for writing.
pub record AreTaskFilesSteady (names : TaskNames) (call : Call) : Type 0 where
  pub read : IsTrue (call.old.steady_read names.input)
  pub second_read : CountsAs IsAccepted call names.input → IsTrue (call.old.steady_read names.second)
  pub written : CountsAs IsAccepted call names.input → CountsAs IsAccepted call names.second
      → IsTrue (are_bundle_names_steady call.old names.stem)

abbrev pub IsQuietTask : TaskNames → Call → Type 0
IsQuietTask names call = IsQuiet (AreTaskFilesSteady names call) call
