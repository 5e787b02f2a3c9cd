-- What the writing of one file comes to where another file was read before it.
use Rattle.std.proofs.Common.{◌≡◌, true, false, ◌&&◌, List, [], ◌∷◌, Some, refl, ap, subst, ◌∙◌, arith}
use Rattle.std.proofs.lemmas.Bool.{false_from_ne_true}
use Rattle.outside_semantics.specs.Outside.{Held, FilesTold, Goes}
use Rattle.outside_semantics.specs.WrittenFiles.{File, with_files, are_steady, FilesWritten, IsCutShort, FilesCutShort}
use Rattle.file_core.proofs.OneFile.{not_steady_one}
use Rattle.file_core.proofs.Told.{Goes-Goes, held_before}

pub one_steady : (a : FilesTold) (f : File) → are_steady a (f ∷ []) ≡ false → a.steady_write f.name ≡ false
one_steady a f fails =
    elim (a.steady_write f.name) as (λ s. (s && true) ≡ false → s ≡ false) [
      | true ↦ λ h. h
      | false ↦ λ h. refl
    ] fails

-- calls before changed no file
module _ {old mid new : FilesTold} (goes : Goes old mid) (stays : (a b : Held) → old.held ≡ Some a → mid.held ≡ Some b → b ≡ a) where
  pub written_after : (files : List File) → FilesWritten mid new files → FilesWritten old new files
  written_after files w = record {
    goes = Goes-Goes goes w.goes;
    held = λ h k told tells.
        let m = held_before mid new w.goes k tells in
        w.held m.0 k m.1 tells ∙ ap (λ x. with_files x files) (stays h m.0 told m.1);
  }

  pub cut_after : (f : File) → FilesCutShort mid new (f ∷ []) → FilesCutShort old new (f ∷ [])
  cut_after f cut = record {
    goes = Goes-Goes goes cut.goes;
    rose = omega (arith, goes.counts, cut.rose);
    not_steady = not_steady_one old f (false_from_ne_true _ (λ steady. cc (goes.steady_write f.name steady, one_steady mid f cut.not_steady)));
    held = λ h k told tells.
        let m = held_before mid new cut.goes k tells in
        subst (λ x. IsCutShort x k (f ∷ [])) (stays h m.0 told m.1) (cut.held m.0 k m.1 tells);
  }
