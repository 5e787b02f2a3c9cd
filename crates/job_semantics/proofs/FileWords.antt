-- What the words of a job say of its files.
use Rattle.std.proofs.Common.{◌≡◌, ℕ, Bool, true, false, ◌&&◌, List, [], ◌∷◌, Option, Some, None, refl, subst, if◌then◌else◌}
use Rattle.std.specs.Prelude.{IsTrue, IfSome, bytes_eq, codes}
use Rattle.std.proofs.lemmas.Slice.Eq.{bytes_eq-Decides}
use Rattle.semantics.specs.declared.metric.Metric.{Metric}
use Rattle.job_semantics.specs.declared.task.Task.{Task}
use Rattle.job_semantics.specs.declared.task.Task.TheVariants.{Certify, Refine}
use Rattle.semantics.specs.Texts.{Bytes}
use Rattle.semantics.specs.Optional.{◌>>=◌}
use Rattle.job_semantics.specs.Job.{Job, synth, against, check, confirm, demo, flat, aag, blif, trim, metric_of, bound_of, conflicts_of, width_of, are_file_words, are_task_names, TaskNames}
use Rattle.job_semantics.specs.Job.{constraint_of, task_with_names}
use Rattle.job_semantics.specs.Job.{are_conversion_words, are_trim_words, synth_of, task_job, task_of, check_of, demo_of, conversion_of, trim_of, job_of}
use Rattle.job_semantics.specs.CheckingLaws.{FileWordsLaw}
use Rattle.proof_semantics.specs.declared.constraint.Constraint.{Constraint}

-- the job's files are named as they must be
abbrev NamesFiles : Job → Type 0
NamesFiles (synth aim input stem) = IsTrue (are_file_words input stem)
NamesFiles (against task aim names) = IsTrue (are_task_names names)
NamesFiles (check metric bound input stem) = IsTrue (are_file_words input stem)
NamesFiles (confirm metric bound input stem) = IsTrue (are_file_words input stem)
NamesFiles (demo width bound conflicts) = Unit {0}
NamesFiles (flat input output) = IsTrue (are_conversion_words input output)
NamesFiles (aag input output) = IsTrue (are_conversion_words input output)
NamesFiles (blif input output) = IsTrue (are_conversion_words input output)
NamesFiles (trim metric bound input stem output) = IsTrue (are_trim_words input stem output)

after : {A : Type 0} (o : Option A) (f : A → Option Job) → ((a : A) → IfSome (f a) NamesFiles) → IfSome (o >>= f) NamesFiles
after None f each = tt
after (Some a) f each = each a

either : (t : Bool) (x y : Option Job) → (t ≡ true → IfSome x NamesFiles) → IfSome y NamesFiles → IfSome (if t then x else y) NamesFiles
either true x y h k = h refl
either false x y h k = k

synth_names : (words : List Bytes) → IfSome (synth_of words) NamesFiles
synth_names [] = tt
synth_names (m ∷ []) = tt
synth_names (m ∷ b ∷ []) = tt
synth_names (m ∷ b ∷ c ∷ []) = tt
synth_names (m ∷ b ∷ c ∷ input ∷ []) = tt
synth_names (m ∷ b ∷ c ∷ input ∷ stem ∷ []) =
    after (constraint_of m b c) _ (λ aim. either (are_file_words input stem) (Some (synth aim input stem)) None (λ is. is) tt)
synth_names (m ∷ b ∷ c ∷ input ∷ stem ∷ w ∷ words) = tt

job_names_files : (task : Task) (aim : Constraint) (names : TaskNames) → IsTrue (are_task_names names) → NamesFiles (task_job task aim names)
job_names_files Certify aim names is = is
job_names_files Refine aim names is = one_name (bytes_eq names.input names.second)
  where
    first : (p q : Bool) → (p && q) ≡ true → p ≡ true
    first true q both = refl
    first false q both = cc

    one_name : (t : Bool) → NamesFiles (if t then synth aim names.input names.stem else against Refine aim names)
    one_name true = first (are_file_words names.input names.stem) (are_file_words names.second names.stem) is
    one_name false = is

task_names : (task : Task) (words : List Bytes) → IfSome (task_of task words) NamesFiles
task_names task [] = tt
task_names task (m ∷ []) = tt
task_names task (m ∷ b ∷ []) = tt
task_names task (m ∷ b ∷ c ∷ []) = tt
task_names task (m ∷ b ∷ c ∷ input ∷ []) = tt
task_names task (m ∷ b ∷ c ∷ input ∷ second ∷ []) = tt
task_names task (m ∷ b ∷ c ∷ input ∷ second ∷ stem ∷ []) =
    after (constraint_of m b c) _ (λ aim. let names : TaskNames = record { input = input; second = second; stem = stem } in
    either (are_task_names names) (Some (task_job task aim names)) None (job_names_files task aim names) tt)
task_names task (m ∷ b ∷ c ∷ input ∷ second ∷ stem ∷ w ∷ words) = tt

check_names : (job : Metric → ℕ → Bytes → Bytes → Job)
    → ((metric : Metric) (bound : ℕ) (input stem : Bytes) → IsTrue (are_file_words input stem) → NamesFiles (job metric bound input stem))
    → (words : List Bytes) → IfSome (check_of job words) NamesFiles
check_names job names [] = tt
check_names job names (m ∷ []) = tt
check_names job names (m ∷ b ∷ []) = tt
check_names job names (m ∷ b ∷ input ∷ []) = tt
check_names job names (m ∷ b ∷ input ∷ stem ∷ []) =
    after (metric_of m) _ (λ metric. after (bound_of b) _ (λ bound.
    either (are_file_words input stem) (Some (job metric bound input stem)) None (names metric bound input stem) tt))
check_names job names (m ∷ b ∷ input ∷ stem ∷ w ∷ words) = tt

demo_names : (words : List Bytes) → IfSome (demo_of words) NamesFiles
demo_names [] = tt
demo_names (w ∷ []) = tt
demo_names (w ∷ b ∷ []) = tt
demo_names (w ∷ b ∷ c ∷ []) = after (width_of w) _ (λ width. after (bound_of b) _ (λ bound. after (conflicts_of c) _ (λ conflicts. tt)))
demo_names (w ∷ b ∷ c ∷ d ∷ words) = tt

conversion_names : (job : Bytes → Bytes → Job) → ((input output : Bytes) → IsTrue (are_conversion_words input output) → NamesFiles (job input output))
    → (words : List Bytes) → IfSome (conversion_of job words) NamesFiles
conversion_names job names [] = tt
conversion_names job names (input ∷ []) = tt
conversion_names job names (input ∷ output ∷ []) = either (are_conversion_words input output) (Some (job input output)) None (names input output) tt
conversion_names job names (input ∷ output ∷ w ∷ words) = tt

trim_names : (words : List Bytes) → IfSome (trim_of words) NamesFiles
trim_names [] = tt
trim_names (m ∷ []) = tt
trim_names (m ∷ b ∷ []) = tt
trim_names (m ∷ b ∷ input ∷ []) = tt
trim_names (m ∷ b ∷ input ∷ stem ∷ []) = tt
trim_names (m ∷ b ∷ input ∷ stem ∷ output ∷ []) =
    after (metric_of m) _ (λ metric. after (bound_of b) _ (λ bound.
    either (are_trim_words input stem output) (Some (trim metric bound input stem output)) None (λ is. is) tt))
trim_names (m ∷ b ∷ input ∷ stem ∷ output ∷ w ∷ words) = tt

job_names : (words : List Bytes) → IfSome (job_of words) NamesFiles
unfolding job_of
job_names [] = tt
job_names (command ∷ words) =
    either (bytes_eq command (codes "synth")) (synth_of words) _ (λ is. synth_names words)
    (either (bytes_eq command (codes "certify")) (task_of Certify words) _ (λ is. task_names Certify words)
    (either (bytes_eq command (codes "refine")) (task_of Refine words) _ (λ is. task_names Refine words)
    (either (bytes_eq command (codes "check")) (check_of check words) _ (λ is. check_names check (λ metric bound input stem named. named) words)
    (either (bytes_eq command (codes "confirm")) (check_of confirm words) _ (λ is. check_names confirm (λ metric bound input stem named. named) words)
    (either (bytes_eq command (codes "demo")) (demo_of words) _ (λ is. demo_names words)
    (either (bytes_eq command (codes "flat")) (conversion_of flat words) _ (λ is. conversion_names flat (λ input output named. named) words)
    (either (bytes_eq command (codes "aag")) (conversion_of aag words) _ (λ is. conversion_names aag (λ input output named. named) words)
    (either (bytes_eq command (codes "blif")) (conversion_of blif words) _ (λ is. conversion_names blif (λ input output named. named) words)
    (either (bytes_eq command (codes "trim")) (trim_of words) None (λ is. trim_names words) tt)))))))))

names_of : (words : List Bytes) (job : Job) → job_of words ≡ Some job → NamesFiles job
names_of words job named = subst (λ (o : Option Job). IfSome o NamesFiles) named (job_names words)

-- ---- to refine IN itself

both_the_same : (p : Bool) → (p && p) ≡ p
both_the_same true = refl
both_the_same false = refl

same_bytes : (word : Bytes) → bytes_eq word word ≡ true
same_bytes word = (bytes_eq-Decides word word).1 refl

same_job : (aim : Constraint) (input stem : Bytes)
    → task_with_names Refine aim (record { input = input; second = input; stem = stem })
    ≡ (if are_file_words input stem then Some (synth aim input stem) else None)
same_job aim input stem = λ i.
    if both_the_same (are_file_words input stem) i
    then Some (if same_bytes input i then synth aim input stem else against Refine aim (record { input = input; second = input; stem = stem }))
    else None

refined_itself : (metric bound conflicts input stem : Bytes)
    → job_of (codes "refine" ∷ metric ∷ bound ∷ conflicts ∷ input ∷ input ∷ stem ∷ [])
    ≡ job_of (codes "synth" ∷ metric ∷ bound ∷ conflicts ∷ input ∷ stem ∷ [])
unfolding job_of
refined_itself m b c input stem = λ i. constraint_of m b c >>= (λ aim. same_job aim input stem i)

pub file_words_law : FileWordsLaw
file_words_law = record {
  synthesis = λ words aim input stem named. names_of words _ named;
  checking = λ words metric bound input stem named. names_of words _ named;
  confirming = λ words metric bound input stem named. names_of words _ named;
  tasks = λ words task aim names named. names_of words _ named;
  refined_itself = refined_itself;
  flat_conversion = λ words input output named. names_of words _ named;
  conversion = λ words input output named. names_of words _ named;
  blif_conversion = λ words input output named. names_of words _ named;
  trimming = λ words metric bound input stem output named. names_of words _ named;
}
