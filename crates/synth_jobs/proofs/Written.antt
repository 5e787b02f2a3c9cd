-- That a bundle was written, whole or in part, from what was made ready and what was delivered.
use Rattle.std.proofs.Common.{◌≡◌, [], Option, inl, inr, ap, sym, subst, ◌∙◌}
use Rattle.std.specs.Prelude.{unwrap_or}
use Rattle.semantics.specs.Texts.{Bytes}
use Rattle.outside_semantics.specs.Outside.{Held, FilesTold, Took, TakeFailed}
use Rattle.outside_semantics.specs.WrittenFiles.{with_files, FilesWritten, FilesCutShort}
use Rattle.job_semantics.specs.declared.ending.Ending.{Ending}
use Rattle.job_semantics.specs.declared.ending.Ending.TheVariants as file
use Rattle.job_semantics.specs.declared.version.Version.TheVariants.{Two}
use Rattle.job_semantics.specs.Endings.{bundle_files}
use Rattle.job_semantics.specs.Bundle.{BundleValue, bundle_text}
use Rattle.job_semantics.specs.Certificate.{Texts, texts_of, OfBundle, OfReport, IsNetlist, CertifiesWith}
use Rattle.job_semantics.proofs.BundleFiles.{bundle_files-holds}
use Rattle.job_semantics.specs.Call.{Call}
use Rattle.job_semantics.specs.Synthesis.{Request, claim_of, BundleWritten, BundleCutShort}
use Rattle.level_answers.specs.declared.query.Spent as spent
use Rattle.bundle_writing.specs.Value.{files_of}
use Rattle.synth_jobs.specs.Spent.{told_query}
use Rattle.synth_jobs.specs.Prepared.{IsReady}
use Rattle.synth_jobs.specs.Delivered.{IsDelivered, IsDeliveredInPart}

-- the texts of a bundle's files, once they were written
text_is : (held : Held) (stem : Bytes) (text : Texts) (ending : Ending) → texts_of (with_files held (bundle_files stem text)) stem ending ≡ text ending
text_is held stem text file.Netlist = ap (λ found. unwrap_or found []) (bundle_files-holds held stem text).0
text_is held stem text file.Formula = ap (λ found. unwrap_or found []) (bundle_files-holds held stem text).1.0
text_is held stem text file.Log = ap (λ found. unwrap_or found []) (bundle_files-holds held stem text).1.1.0
text_is held stem text file.Vectors = ap (λ found. unwrap_or found []) (bundle_files-holds held stem text).1.1.1.0
text_is held stem text file.Report = ap (λ found. unwrap_or found []) (bundle_files-holds held stem text).1.1.1.1.0

texts_are : (held : Held) (stem : Bytes) (text : Texts) → texts_of (with_files held (bundle_files stem text)) stem ≡ text
texts_are held stem text = λ i ending. text_is held stem text ending i

-- what holds of a bundle's texts holds of the files, once they were written
of_written : (P : Texts → Type 0) (stem : Bytes) {old new : FilesTold} (b : BundleValue) → FilesWritten old new (files_of stem b) → P (bundle_text b) → OfBundle old new stem P
of_written P stem {old} {new} b written p =
    λ a held told tells.
    let texts = ap (λ h. texts_of h stem) (written.held a held told tells) ∙ texts_are a stem (bundle_text b) in
    subst P (sym texts) p

module _ {r : Request} {stem names : Bytes} {call : Call} {b : BundleValue} {spent : Option spent.Spent} (same : names ≡ stem) (ready : IsReady r b spent) where
  pub BundleWritten-from : IsDelivered b names call → BundleWritten r stem (told_query spent) call
  BundleWritten-from delivered =
      let all : FilesWritten call.old call.new (files_of stem b) = subst (λ s. FilesWritten call.old call.new (files_of s b)) same delivered.0 in
      record {
        result = ready.result;
        right = ready.right;
        is_spent = ready.is_spent;
        refuted = ready.refuted;
        files = subst (λ v. FilesWritten call.old call.new (bundle_files stem (bundle_text v))) ready.is all;
        report = subst (λ v. Took call.said call.says (bundle_text v file.Report)) ready.is delivered.1;
        netlist = of_written (λ texts. IsNetlist texts ready.result.net) stem b all ready.netlist;
        certificate = λ growth size. of_written (CertifiesWith (claim_of r.aim growth) r.exact) stem b all (ready.certificate growth size);
        version = of_written (λ texts. OfReport r.aim.metric r.aim.bound r.exact texts (λ told. told.version ≡ Two)) stem b all ready.version;
      }

  pub BundleCutShort-from : IsDeliveredInPart b names call → BundleCutShort r stem call
  BundleCutShort-from part = record {
    result = ready.result;
    right = ready.right;
    refuted = ready.refuted;
    left = elim part [
      | inl cut ↦ inl (
        subst (λ v. FilesCutShort call.old call.new (bundle_files stem (bundle_text v))) ready.is (subst (λ s. FilesCutShort call.old call.new (files_of s b)) same cut.0),
        cut.1,
      )
      | inr put ↦ inr (
        subst (λ v. FilesWritten call.old call.new (bundle_files stem (bundle_text v))) ready.is (subst (λ s. FilesWritten call.old call.new (files_of s b)) same put.0),
        subst (λ v. TakeFailed call.said call.says (bundle_text v file.Report)) ready.is put.1,
      )
    ];
  }
