-- What a bundle in memory is.
use Rattle.std.specs.Prelude.{Bool, ◌^◌, ◌<◌, ◌≤◌, List, length}
use Rattle.semantics.specs.declared.limits.TheConstants.{MOST_INPUTS}
use Rattle.semantics.specs.Texts.{Bytes}
use Rattle.semantics.specs.Net.{NetValue, literal_count}
use Rattle.outside_semantics.specs.WrittenFiles.{File}
use Rattle.job_semantics.specs.declared.ending.Ending.{Ending}
use Rattle.job_semantics.specs.Endings.{bundle_name, bundle_files}
use Rattle.job_semantics.specs.Report.{report_text}
use Rattle.job_semantics.specs.Bundle.{BundleValue, bundle_report, bundle_text}

-- the file with this ending, and its text
abbrev pub file_of : Bytes → BundleValue → Ending → File
file_of stem b ending = record { name = bundle_name stem ending; text = bundle_text b ending }

-- the five files, each with its text, in the order in which they are written
abbrev pub files_of : Bytes → BundleValue → List File
files_of stem b = bundle_files stem (bundle_text b)

abbrev pub report_of_bundle : BundleValue → Bytes
report_of_bundle b = report_text (bundle_report b)

-- two nets and a witness small enough for a report
pub record FitsReport (exact approx : NetValue) (witness : List Bool) : Type 0 where
  pub few_bits : length witness ≤ MOST_INPUTS
  pub few_exact : literal_count exact < 2 ^ 63
  pub few_approx : literal_count approx < 2 ^ 63
