-- Worked examples, computed from the definitions.
use Rattle.std.specs.Prelude.{◌≡◌, ℕ, ◌-◌, ◌^◌, true, false, List, [], ◌∷◌, codes, Some, None}
use Rattle.semantics.specs.Texts.{Bytes}
use Rattle.semantics.specs.declared.metric.Kind.TheVariants.{Abs, Rel, Ham, Sabs}
use Rattle.semantics.specs.Error.{one_word, in_words}
use Rattle.semantics.specs.Vectors.{all_vectors}
use Rattle.semantics.specs.Examples.{text, half_adder, both_constant, constant_one}
use Rattle.job_semantics.specs.declared.task.Task.TheVariants.{Certify, Refine}
use Rattle.job_semantics.specs.declared.version.Version.TheVariants.{One, Two}
use Rattle.job_semantics.specs.Report.{report_text, report_of, vectors_text}
use Rattle.job_semantics.specs.Job.{synth, against, check, confirm, demo, flat, aag, blif, trim}
use Rattle.job_semantics.specs.Job.{metric_of, job_of}
use Rattle.proof_semantics.specs.declared.constraint.Constraint.{Constraint}

pub record ReportExamples : Type 0 where
  pub both_constant_report :
      report_text (report_of Two (one_word Abs) 3 2 (true ∷ true ∷ []) half_adder both_constant false)
      ≡ text (codes "salsa 2" ∷ codes "metric abs" ∷ codes "bound 3" ∷ codes "maximum 2" ∷ codes "witness 11"
      ∷ codes "tables 2 2" ∷ codes "literals 6 0" ∷ codes "minimal no" ∷ [])
  pub both_constant_vectors :
      vectors_text (true ∷ true ∷ []) (all_vectors 2)
      ≡ text (codes "11" ∷ codes "00" ∷ codes "10" ∷ codes "01" ∷ codes "11" ∷ [])
  pub report :
      report_text (report_of Two (one_word Abs) 1 1 (true ∷ false ∷ []) half_adder half_adder true)
      ≡ text (codes "salsa 2" ∷ codes "metric abs" ∷ codes "bound 1" ∷ codes "maximum 1" ∷ codes "witness 10"
      ∷ codes "tables 2 2" ∷ codes "literals 6 6" ∷ codes "minimal yes" ∷ [])
  pub first_version :
      report_text (report_of One (one_word Abs) 1 1 (true ∷ false ∷ []) half_adder half_adder true)
      ≡ text (codes "salsa 1" ∷ codes "metric abs" ∷ codes "bound 1" ∷ codes "maximum 1" ∷ codes "witness 10"
      ∷ codes "tables 2 2" ∷ codes "literals 6 6" ∷ codes "minimal yes" ∷ [])
  pub in_words_of_two :
      report_text (report_of Two (in_words Abs 2) 1 1 (true ∷ false ∷ []) half_adder half_adder true)
      ≡ text (codes "salsa 2" ∷ codes "metric abs/2" ∷ codes "bound 1" ∷ codes "maximum 1"
      ∷ codes "witness 10" ∷ codes "tables 2 2" ∷ codes "literals 6 6" ∷ codes "minimal yes" ∷ [])
  pub in_words_of_64 :
      report_text (report_of Two (in_words Sabs 64) 0 0 [] constant_one constant_one false)
      ≡ text (codes "salsa 2" ∷ codes "metric sabs/64" ∷ codes "bound 0" ∷ codes "maximum 0"
      ∷ codes "witness " ∷ codes "tables 1 1" ∷ codes "literals 0 0" ∷ codes "minimal no" ∷ [])
  pub no_bits :
      report_text (report_of Two (one_word Abs) 0 0 [] constant_one constant_one false)
      ≡ text (codes "salsa 2" ∷ codes "metric abs" ∷ codes "bound 0" ∷ codes "maximum 0" ∷ codes "witness "
      ∷ codes "tables 1 1" ∷ codes "literals 0 0" ∷ codes "minimal no" ∷ [])
  pub vectors :
      vectors_text (true ∷ false ∷ []) (all_vectors 2)
      ≡ text (codes "10" ∷ codes "00" ∷ codes "10" ∷ codes "01" ∷ codes "11" ∷ [])
  pub empty_vectors : vectors_text [] (all_vectors 0) ≡ 10 ∷ 10 ∷ []

-- words that name metrics, and words that name none
pub record MetricExamples : Type 0 where
  pub all_outputs : metric_of (codes "ham") ≡ Some (one_word Ham)
  pub single_outputs : metric_of (codes "abs/1") ≡ Some (in_words Abs 1)
  pub nine_outputs : metric_of (codes "sabs/9") ≡ Some (in_words Sabs 9)
  pub most_outputs : metric_of (codes "rel/64") ≡ Some (in_words Rel 64)
  pub no_width : metric_of (codes "abs/") ≡ None
  pub zero : metric_of (codes "abs/0") ≡ None
  pub leading_zero : metric_of (codes "abs/08") ≡ None
  pub wide : metric_of (codes "abs/65") ≡ None
  pub two_widths : metric_of (codes "abs/8/8") ≡ None
  pub other_kind : metric_of (codes "max/8") ≡ None
  pub no_kind : metric_of (codes "/8") ≡ None
  pub blank : metric_of (codes "abs /8") ≡ None
  pub no_bytes : metric_of [] ≡ None

abbrev pub synth_words : List ℕ → List ℕ → List ℕ → List ℕ → List ℕ → List Bytes
synth_words metric bound conflicts input stem = codes "synth" ∷ metric ∷ bound ∷ conflicts ∷ input ∷ stem ∷ []

abbrev pub trim_words : List ℕ → List ℕ → List ℕ → List Bytes
trim_words input stem output = codes "trim" ∷ codes "sabs" ∷ codes "7" ∷ input ∷ stem ∷ output ∷ []

abbrev pub task_words : List ℕ → List ℕ → List ℕ → List ℕ → List Bytes
task_words task input second stem
    = task ∷ codes "abs" ∷ codes "3" ∷ codes "10" ∷ input ∷ second ∷ stem ∷ []

-- what the words of `task_words` ask for
abbrev pub within_three : Constraint
within_three = record { metric = one_word Abs; bound = 3; limit = 10 }

pub record JobExamples : Type 0 where
  pub no_words : job_of [] ≡ None
  pub other_word : job_of (codes "--help" ∷ []) ≡ None
  pub leading_zero : job_of (synth_words (codes "abs") (codes "01") (codes "1") (codes "a") (codes "b"))
      ≡ None
  pub large_bound : job_of (synth_words (codes "abs") (codes "19342813113834066795298816") (codes "1")
      (codes "a") (codes "b")) ≡ None
  pub largest_bound :
      job_of (synth_words (codes "abs") (codes "19342813113834066795298815") (codes "1") (codes "a")
      (codes "b"))
      ≡ Some (synth (record { metric = one_word Abs; bound = 2 ^ 84 - 1; limit = 1 }) (codes "a") (codes "b"))
  pub no_conflicts : job_of (synth_words (codes "abs") (codes "1") (codes "0") (codes "a") (codes "b")) ≡ None
  pub many_conflicts : job_of
      (synth_words (codes "abs") (codes "1") (codes "100001") (codes "a") (codes "b")) ≡ None
  pub other_metric : job_of (synth_words (codes "max") (codes "1") (codes "1") (codes "a") (codes "b")) ≡ None
  pub bundle_name : job_of (synth_words (codes "abs") (codes "1") (codes "1") (codes "b.cnf") (codes "b"))
      ≡ None
  pub wide : job_of (codes "demo" ∷ codes "33" ∷ codes "1" ∷ codes "1" ∷ []) ≡ None
  pub no_width : job_of (codes "demo" ∷ codes "0" ∷ codes "1" ∷ codes "1" ∷ []) ≡ None
  pub a_demo : job_of (codes "demo" ∷ codes "32" ∷ codes "0" ∷ codes "100000" ∷ []) ≡ Some (demo 32 0 100000)
  pub a_check : job_of (codes "check" ∷ codes "ham" ∷ codes "7" ∷ codes "a" ∷ codes "b" ∷ [])
      ≡ Some (check (one_word Ham) 7 (codes "a") (codes "b"))
  pub a_synth : job_of (synth_words (codes "rel") (codes "10") (codes "1000") (codes "a.blif") (codes "b"))
      ≡ Some (synth (record { metric = one_word Rel; bound = 10; limit = 1000 }) (codes "a.blif") (codes "b"))
  pub a_signed_synth : job_of
      (synth_words (codes "sabs") (codes "3") (codes "1") (codes "a.blif") (codes "b"))
      ≡ Some (synth (record { metric = one_word Sabs; bound = 3; limit = 1 }) (codes "a.blif") (codes "b"))
  pub a_synth_of_bytes : job_of
      (synth_words (codes "abs/8") (codes "3") (codes "1") (codes "a.blif") (codes "b"))
      ≡ Some (synth (record { metric = in_words Abs 8; bound = 3; limit = 1 }) (codes "a.blif") (codes "b"))
  pub no_outputs_in_a_word : job_of
      (synth_words (codes "abs/0") (codes "1") (codes "1") (codes "a") (codes "b")) ≡ None
  pub empty_input : job_of (synth_words (codes "abs") (codes "1") (codes "1") [] (codes "b")) ≡ None
  pub empty_stem : job_of (synth_words (codes "abs") (codes "1") (codes "1") (codes "a") []) ≡ None
  pub sign : job_of (synth_words (codes "abs") (codes "-1") (codes "1") (codes "a") (codes "b")) ≡ None
  pub a_flat : job_of (codes "flat" ∷ codes "a" ∷ codes "b" ∷ []) ≡ Some (flat (codes "a") (codes "b"))
  pub an_aag : job_of (codes "aag" ∷ codes "a" ∷ codes "b" ∷ []) ≡ Some (aag (codes "a") (codes "b"))
  pub a_blif : job_of (codes "blif" ∷ codes "a" ∷ codes "b" ∷ []) ≡ Some (blif (codes "a") (codes "b"))
  pub a_trim : job_of (trim_words (codes "a") (codes "b") (codes "c"))
      ≡ Some (trim (one_word Sabs) 7 (codes "a") (codes "b") (codes "c"))
  pub onto_itself : job_of (codes "aag" ∷ codes "a" ∷ codes "a" ∷ []) ≡ None
  pub flattened_onto_itself : job_of (codes "flat" ∷ codes "a" ∷ codes "a" ∷ []) ≡ None
  pub read_back_onto_itself : job_of (codes "blif" ∷ codes "a" ∷ codes "a" ∷ []) ≡ None
  pub from_nothing : job_of (codes "aag" ∷ [] ∷ codes "b" ∷ []) ≡ None
  pub into_nothing : job_of (codes "aag" ∷ codes "a" ∷ [] ∷ []) ≡ None
  pub one_name : job_of (codes "aag" ∷ codes "a" ∷ []) ≡ None
  pub three_names : job_of (codes "aag" ∷ codes "a" ∷ codes "b" ∷ codes "c" ∷ []) ≡ None
  pub trimmed_onto_itself : job_of (trim_words (codes "a") (codes "b") (codes "a")) ≡ None
  pub trimmed_into_the_bundle : job_of (trim_words (codes "a") (codes "b") (codes "b.lrat")) ≡ None
  pub trimmed_from_the_bundle : job_of (trim_words (codes "b.blif") (codes "b") (codes "c")) ≡ None
  pub trimmed_into_nothing : job_of (trim_words (codes "a") (codes "b") []) ≡ None
  pub a_certify : job_of (task_words (codes "certify") (codes "a") (codes "b") (codes "c"))
      ≡ Some (against Certify within_three
      (record { input = codes "a"; second = codes "b"; stem = codes "c" }))
  pub a_refine : job_of (task_words (codes "refine") (codes "a") (codes "b") (codes "c"))
      ≡ Some (against Refine within_three
      (record { input = codes "a"; second = codes "b"; stem = codes "c" }))
  pub certified_itself : job_of (task_words (codes "certify") (codes "a") (codes "a") (codes "c"))
      ≡ Some (against Certify within_three
      (record { input = codes "a"; second = codes "a"; stem = codes "c" }))
  pub refined_itself : job_of (task_words (codes "refine") (codes "a") (codes "a") (codes "c"))
      ≡ Some (synth within_three (codes "a") (codes "c"))
  pub certified_from_the_bundle : job_of
      (task_words (codes "certify") (codes "a") (codes "c.blif") (codes "c")) ≡ None
  pub refined_against_the_bundle : job_of
      (task_words (codes "refine") (codes "c.wit") (codes "a") (codes "c")) ≡ None
  pub no_second : job_of (task_words (codes "refine") (codes "a") [] (codes "c")) ≡ None
  pub a_confirm : job_of (codes "confirm" ∷ codes "ham" ∷ codes "7" ∷ codes "a" ∷ codes "b" ∷ [])
      ≡ Some (confirm (one_word Ham) 7 (codes "a") (codes "b"))
