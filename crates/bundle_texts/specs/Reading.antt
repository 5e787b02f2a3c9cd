-- What was read back from a bundle's texts.
use Rattle.std.specs.Prelude.{◌≡◌, ℕ, ◌^◌, ◌<◌, Bool, List, ◌∷◌, IfSome}
use Rattle.semantics.specs.Texts.{Bytes}
use Rattle.semantics.specs.declared.metric.Metric.{Metric}
use Rattle.job_semantics.specs.Report.{Report}
use Rattle.bundle_texts.specs.declared.report_reading.ReportRead.{ReportRead}
use Rattle.job_semantics.specs.Certificate.{IsVectorsText}

-- these are the vectors of the text, of which the witness is the first
pub record HoldsVectors (inputs : ℕ) (text : Bytes) (witness : List Bool)
    (vectors : List (List Bool)) : Type 0 where
  pub pool : List (List Bool)
  pub vectors_are : vectors ≡ witness ∷ pool
  pub read : IsVectorsText inputs text witness pool

-- the number of outputs in each word, if the metric has one, is a number of 32 bits, as in code
abbrev pub HasShortWidth : Metric → Type 0
HasShortWidth metric = IfSome metric.width (λ width. width < 2 ^ 32)

-- the report that was read, with its metric and its bound
abbrev pub report_read : Metric → ℕ → ReportRead → Report
report_read metric bound read = record {
  version = read.version;
  metric = metric;
  bound = bound;
  maximum = read.maximum;
  witness = read.witness;
  old_tables = read.counts.old_tables;
  new_tables = read.counts.new_tables;
  old_literals = read.counts.old_literals;
  new_literals = read.counts.new_literals;
  minimal = read.counts.minimal;
}
