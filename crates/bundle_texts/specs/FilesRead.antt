-- What is read of a bundle's files.
use Rattle.std.specs.Prelude.{◌≡◌, ℕ, Option, None, Some, Ok}
use Rattle.semantics.specs.declared.limits.TheConstants.{MOST_BUNDLE_BYTES}
use Rattle.semantics.specs.Texts.{Bytes}
use Rattle.semantics.specs.Net.{NetValue}
use Rattle.semantics.specs.declared.metric.Metric.{Metric}
use Rattle.blif_semantics.specs.Reading.{blif_reading}
use Rattle.job_semantics.specs.Report.{Report}
use Rattle.job_semantics.specs.Certificate.{IsReportText}
use Rattle.bundle_texts.specs.declared.report_reading.ReportRead.{ReportRead}
use Rattle.bundle_texts.specs.Reading.{report_read}

-- the text is the net's, or that of no net
abbrev pub IsNetIn : Option NetValue → Bytes → Type 0
IsNetIn None text = (M : NetValue) → ¬ (blif_reading text MOST_BUNDLE_BYTES ≡ Ok M)
IsNetIn (Some M) text = blif_reading text MOST_BUNDLE_BYTES ≡ Ok M

-- the text is the report's, or that of none
abbrev pub IsReportIn : ℕ → Metric → ℕ → Option ReportRead → Bytes → Type 0
IsReportIn inputs metric bound None text = (r : Report) → ¬ IsReportText inputs metric bound text r
IsReportIn inputs metric bound (Some read) text
    = IsReportText inputs metric bound text (report_read metric bound read)
