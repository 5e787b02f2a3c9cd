-- The job that the words of the command line name. Source: this tool's own table of commands.
use Rattle.std.specs.Prelude.{ℕ, ◌≤◌, Bool, true, false, not, ◌&&◌, ◌==◌, List, [], ◌∷◌, codes, nat_le}
use Rattle.std.specs.Prelude.{bytes_eq, Option, Some, None, IfSome, if◌then◌else◌}
use Rattle.std.specs.List.{slice_split}
use Rattle.semantics.specs.Texts.{Bytes}
use Rattle.semantics.specs.Optional.{◌>>=◌}
use Rattle.semantics.specs.Decimal.{digits_number, is_decimal}
use Rattle.semantics.specs.Error.{one_word, in_words}
use Rattle.semantics.specs.declared.metric.Metric.{Metric}
use Rattle.semantics.specs.declared.metric.Kind.{Kind}
use Rattle.semantics.specs.declared.metric.Kind.TheVariants.{Abs, Rel, Ham, Sabs}
use Rattle.semantics.specs.declared.limits.TheConstants.{MOST_OUTPUTS, LARGEST_ERROR}
use Rattle.job_semantics.specs.declared.task.Task.{Task}
use Rattle.job_semantics.specs.declared.task.Task.TheVariants.{Certify, Refine}
use Rattle.job_semantics.specs.Endings.{is_bundle_name}
use Rattle.proof_semantics.specs.declared.constraint.Constraint.{Constraint}

-- the names of a certify or a refine job: IN, the second netlist, and STEM
pub record TaskNames : Type 0 where
  pub input : Bytes
  pub second : Bytes
  pub stem : Bytes

pub data Job : Type 0 where
  synth : Constraint → (input stem : Bytes) → Job
  -- a second netlist is certified or refined against the first
  against : Task → Constraint → TaskNames → Job
  check : Metric → (bound : ℕ) → (input stem : Bytes) → Job
  -- a check that allows a net that is larger than the original
  confirm : Metric → (bound : ℕ) → (input stem : Bytes) → Job
  demo : (width bound conflicts : ℕ) → Job
  -- a hierarchy of models is turned into one flat net
  flat : (input output : Bytes) → Job
  -- a net is turned into an AND circuit
  aag : (input output : Bytes) → Job
  -- an AND circuit is turned into a net
  blif : (input output : Bytes) → Job
  -- the log of a bundle is trimmed
  trim : Metric → (bound : ℕ) → (input stem output : Bytes) → Job

-- the number that the word is, if it is a decimal number from low to high
abbrev pub number_from_to : ℕ → ℕ → Bytes → Option ℕ
number_from_to low high word =
    if is_decimal word && (nat_le low (digits_number word) && nat_le (digits_number word) high)
    then Some (digits_number word)
    else None

abbrev pub bound_of : Bytes → Option ℕ
bound_of = number_from_to 0 LARGEST_ERROR

abbrev pub conflicts_of : Bytes → Option ℕ
conflicts_of = number_from_to 1 100000

abbrev pub width_of : Bytes → Option ℕ
width_of = number_from_to 1 32

abbrev pub kind_of : Bytes → Option Kind
kind_of word =
    if bytes_eq word (codes "abs") then Some Abs
    else (if bytes_eq word (codes "rel") then Some Rel
    else (if bytes_eq word (codes "ham") then Some Ham
    else (if bytes_eq word (codes "sabs") then Some Sabs
    else None)))

-- the metric that the parts of a word name, as slashes part the word: how two words are compared and, if a
-- second part stands there, the number of outputs in each word
abbrev pub metric_of_parts : List Bytes → Option Metric
metric_of_parts (k ∷ []) = do
  kind ← kind_of k
  Some (one_word kind)
metric_of_parts (k ∷ w ∷ []) = do
  kind ← kind_of k
  width ← number_from_to 1 MOST_OUTPUTS w
  Some (in_words kind width)
metric_of_parts _ = None

abbrev pub is_slash : ℕ → Bool
is_slash c = c == 47

-- the metric that the word names, as `abs`, or `abs/8` for words of eight outputs
abbrev pub metric_of : Bytes → Option Metric
metric_of word = metric_of_parts (slice_split is_slash word)

-- the number of outputs in a word, if the metric has one, is from 1 to the most outputs of a net
abbrev pub HasNamedWidth : Metric → Type 0
HasNamedWidth metric = IfSome metric.width (λ width. (1 ≤ width) × (width ≤ MOST_OUTPUTS))

abbrev pub is_empty_word : Bytes → Bool
is_empty_word [] = true
is_empty_word (c ∷ cs) = false

-- IN and STEM are not empty, and IN is no file of the bundle
abbrev pub are_file_words : Bytes → Bytes → Bool
are_file_words input stem = not (is_empty_word input)
    && (not (is_empty_word stem) && not (is_bundle_name stem input))

-- OUT is not empty, and is not IN
abbrev pub is_output_word : Bytes → Bytes → Bool
is_output_word input output = not (is_empty_word output) && not (bytes_eq input output)

-- no name is empty, and neither IN nor the second netlist is a file of the bundle
abbrev pub are_task_names : TaskNames → Bool
are_task_names names = are_file_words names.input names.stem && are_file_words names.second names.stem

-- IN and OUT of a conversion
abbrev pub are_conversion_words : Bytes → Bytes → Bool
are_conversion_words input output = not (is_empty_word input) && is_output_word input output

-- IN, STEM and OUT of a trim job: OUT is no file of the bundle either
abbrev pub are_trim_words : Bytes → Bytes → Bytes → Bool
are_trim_words input stem output
    = are_file_words input stem && (is_output_word input output && not (is_bundle_name stem output))

-- what the three words METRIC, BOUND and CONFLICTS ask for
abbrev pub constraint_of : (metric bound conflicts : Bytes) → Option Constraint
constraint_of m b c = do
  metric ← metric_of m
  bound ← bound_of b
  conflicts ← conflicts_of c
  Some (record { metric = metric; bound = bound; limit = conflicts })

abbrev pub synth_of : List Bytes → Option Job
synth_of (m ∷ b ∷ c ∷ input ∷ stem ∷ []) = do
  aim ← constraint_of m b c
  if are_file_words input stem then Some (synth aim input stem) else None
synth_of _ = None

-- the job of a task and a second netlist; to refine IN itself is to simplify it
abbrev pub task_job : Task → Constraint → TaskNames → Job
task_job Certify aim names = against Certify aim names
task_job Refine aim names =
    if bytes_eq names.input names.second then synth aim names.input names.stem
    else against Refine aim names

abbrev pub task_with_names : Task → Constraint → TaskNames → Option Job
task_with_names task aim names = if are_task_names names then Some (task_job task aim names) else None

abbrev pub task_of : Task → List Bytes → Option Job
task_of task (m ∷ b ∷ c ∷ input ∷ second ∷ stem ∷ []) = do
  aim ← constraint_of m b c
  task_with_names task aim (record { input = input; second = second; stem = stem })
task_of task _ = None

-- a check or a confirm job
abbrev pub check_of : (Metric → ℕ → Bytes → Bytes → Job) → List Bytes → Option Job
check_of job (m ∷ b ∷ input ∷ stem ∷ []) = do
  metric ← metric_of m
  bound ← bound_of b
  if are_file_words input stem then Some (job metric bound input stem) else None
check_of job _ = None

abbrev pub demo_of : List Bytes → Option Job
demo_of (w ∷ b ∷ c ∷ []) = do
  width ← width_of w
  bound ← bound_of b
  conflicts ← conflicts_of c
  Some (demo width bound conflicts)
demo_of _ = None

abbrev pub conversion_of : (Bytes → Bytes → Job) → List Bytes → Option Job
conversion_of job (input ∷ output ∷ [])
    = if are_conversion_words input output then Some (job input output) else None
conversion_of job _ = None

abbrev pub trim_of : List Bytes → Option Job
trim_of (m ∷ b ∷ input ∷ stem ∷ output ∷ []) = do
  metric ← metric_of m
  bound ← bound_of b
  if are_trim_words input stem output then Some (trim metric bound input stem output) else None
trim_of _ = None

unfoldable pub job_of : List Bytes → Option Job
job_of [] = None
job_of (command ∷ words) =
    if bytes_eq command (codes "synth") then synth_of words
    else (if bytes_eq command (codes "certify") then task_of Certify words
    else (if bytes_eq command (codes "refine") then task_of Refine words
    else (if bytes_eq command (codes "check") then check_of check words
    else (if bytes_eq command (codes "confirm") then check_of confirm words
    else (if bytes_eq command (codes "demo") then demo_of words
    else (if bytes_eq command (codes "flat") then conversion_of flat words
    else (if bytes_eq command (codes "aag") then conversion_of aag words
    else (if bytes_eq command (codes "blif") then conversion_of blif words
    else (if bytes_eq command (codes "trim") then trim_of words
    else None)))))))))
