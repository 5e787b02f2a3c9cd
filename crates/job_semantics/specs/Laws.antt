-- The laws about jobs, each the contract of a function without parameters.
use Rattle.std.specs.Prelude.{◌≡◌, ◌≢◌, ◌↔◌, Some}
use Rattle.std.specs.List.{AllByRecursion}
use Rattle.std.specs.FinMap.{get}
use Rattle.semantics.specs.Texts.{Bytes}
use Rattle.outside_semantics.specs.Outside.{Held}
use Rattle.outside_semantics.specs.WrittenFiles.{with_files}
use Rattle.job_semantics.specs.declared.ending.Ending.{Ending}
use Rattle.semantics.specs.declared.metric.Metric.{Metric}
use Rattle.job_semantics.specs.Job.{metric_of, HasNamedWidth}
use Rattle.job_semantics.specs.Report.{metric_word}
use Rattle.job_semantics.specs.Endings.{bundle_endings, bundle_name, bundle_files}

-- one stem with two endings makes two names; once the files of a bundle were written, each is held with its
-- text, and every other name is held as before
pub record BundleFilesLaw : Type 0 where
  pub differ : (stem : Bytes) (a b : Ending) → a ≢ b → bundle_name stem a ≢ bundle_name stem b
  pub holds : (held : Held) (stem : Bytes) (text : Ending → Bytes)
      → AllByRecursion (λ e. get (with_files held (bundle_files stem text)) (bundle_name stem e)
      ≡ Some (text e)) bundle_endings
  pub others : (held : Held) (stem : Bytes) (text : Ending → Bytes) (name : Bytes)
      → AllByRecursion (λ e. bundle_name stem e ≢ name) bundle_endings
      → get (with_files held (bundle_files stem text)) name ≡ get held name

-- a word names a metric exactly where it is the word by which a report names that metric, and the metric's
-- words, if it has a number of outputs in each, are of one output at least and of no more than a net may have
abbrev pub MetricWordLaw : Type 0
MetricWordLaw = (word : Bytes) (metric : Metric)
    → (metric_of word ≡ Some metric) ↔ ((word ≡ metric_word metric) × HasNamedWidth metric)
