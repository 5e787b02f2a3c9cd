-- A file that is none of a bundle leaves the bundle's texts as they are.
use Rattle.std.proofs.Common.{◌≡◌, ◌≢◌, false, [], ◌∷◌, ap, sym}
use Rattle.std.specs.Prelude.{unwrap_or}
use Rattle.std.specs.List.{AllByRecursion}
use Rattle.std.specs.FinMap.{get, insert}
use Rattle.semantics.specs.Texts.{Bytes}
use Rattle.outside_semantics.specs.Outside.{Held}
use Rattle.outside_semantics.proofs.HeldFiles.{with_files-others}
use Rattle.job_semantics.specs.declared.ending.Ending.{Ending}
use Rattle.job_semantics.specs.declared.ending.Ending.TheVariants as file
use Rattle.job_semantics.specs.Endings.{bundle_endings, bundle_name, is_bundle_name}
use Rattle.job_semantics.specs.Certificate.{texts_of}
use Rattle.job_semantics.specs.Conversion.{output_file}
use Rattle.job_semantics.proofs.CheckedFiles.{apart}

each_ending : (P : Ending → Type 0) → AllByRecursion P bundle_endings → (ending : Ending) → P ending
each_ending P all file.Netlist = all.0
each_ending P all file.Formula = all.1.0
each_ending P all file.Log = all.1.1.0
each_ending P all file.Vectors = all.1.1.1.0
each_ending P all file.Report = all.1.1.1.1.0

module _ (held : Held) (stem output text : Bytes) (other : is_bundle_name stem output ≡ false) where
  stays : (ending : Ending) → get (insert held output text) (bundle_name stem ending) ≡ get held (bundle_name stem ending)
  stays ending =
      with_files-others held (output_file output text ∷ []) (bundle_name stem ending)
      ((λ same. each_ending (λ e. bundle_name stem e ≢ output) (apart output stem bundle_endings other) ending (sym same)), tt)

  pub texts_stay : texts_of (insert held output text) stem ≡ texts_of held stem
  texts_stay = λ i ending. ap (λ found. unwrap_or found []) (stays ending) i
