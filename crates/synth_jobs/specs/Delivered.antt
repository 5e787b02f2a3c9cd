-- What the writing of a bundle and the putting of its report come to.
use Rattle.std.specs.Prelude.{◌≡◌, ◌⊎◌}
use Rattle.semantics.specs.Texts.{Bytes}
use Rattle.outside_semantics.specs.Outside.{Took, TakeFailed}
use Rattle.outside_semantics.specs.WrittenFiles.{FilesWritten, FilesCutShort}
use Rattle.job_semantics.specs.Bundle.{BundleValue}
use Rattle.job_semantics.specs.Call.{Call}
use Rattle.bundle_writing.specs.Value.{files_of, report_of_bundle}

abbrev pub IsDelivered : BundleValue → Bytes → Call → Type 0
IsDelivered b stem call = FilesWritten call.old call.new (files_of stem b)
    × Took call.said call.says (report_of_bundle b)

-- a file could not be written whole, and nothing was put to the sink; or all files were written, and a first
-- part of the report was put
abbrev pub IsDeliveredInPart : BundleValue → Bytes → Call → Type 0
IsDeliveredInPart b stem call =
    (FilesCutShort call.old call.new (files_of stem b) × (call.says ≡ call.said))
    ⊎ (FilesWritten call.old call.new (files_of stem b)
    × TakeFailed call.said call.says (report_of_bundle b))
