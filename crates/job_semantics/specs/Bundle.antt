-- What a bundle holds, and its five texts. Source: this tool's own bundles.
use Rattle.std.specs.Prelude.{ℕ, Bool, List}
use Rattle.semantics.specs.Texts.{Bytes}
use Rattle.semantics.specs.Net.{NetValue}
use Rattle.semantics.specs.declared.metric.Metric.{Metric}
use Rattle.semantics.specs.Blif.{blif_text}
use Rattle.proof_semantics.specs.Formula.{Formula, dimacs_text}
use Rattle.proof_semantics.specs.Logs.{LogItem}
use Rattle.proof_semantics.specs.Lrat.{lrat_text}
use Rattle.job_semantics.specs.declared.ending.Ending.{Ending}
use Rattle.job_semantics.specs.declared.ending.Ending.TheVariants as file
use Rattle.job_semantics.specs.declared.version.Version.{Version}
use Rattle.job_semantics.specs.Report.{Report, report_of, report_text, vectors_text}

-- The version; the net as it was read and the simplified net; the metric, the bound and the maximum; an input
-- that attains the maximum, and the vectors that stand behind that input in `.wit`; whether no further move
-- of that version is allowed; the formula that says that some error exceeds the maximum, and the log that
-- refutes the formula.
pub record BundleValue : Type 0 where
  pub version : Version
  pub exact : NetValue
  pub approx : NetValue
  pub metric : Metric
  pub bound : ℕ
  pub maximum : ℕ
  pub witness : List Bool
  pub pool : List (List Bool)
  pub minimal : Bool
  pub goal : Formula
  pub log : List LogItem

abbrev pub bundle_report : BundleValue → Report
bundle_report b = report_of b.version b.metric b.bound b.maximum b.witness b.exact b.approx b.minimal

-- the text of each file
abbrev pub bundle_text : BundleValue → Ending → Bytes
bundle_text b file.Netlist = blif_text b.approx
bundle_text b file.Formula = dimacs_text b.goal
bundle_text b file.Log = lrat_text b.log
bundle_text b file.Vectors = vectors_text b.witness b.pool
bundle_text b file.Report = report_text (bundle_report b)
