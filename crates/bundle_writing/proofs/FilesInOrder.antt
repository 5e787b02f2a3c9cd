-- How the writing of one file after another joins, and what a fault leaves.
use Rattle.std.proofs.Common.{◌≡◌, true, false, ◌&&◌, List, [], ◌∷◌, ◌++◌, Result, Err, append_assoc, refl, sym, ap, subst, ◌∙◌, arith}
use Rattle.std.specs.Prelude.{IsTrue}
use Rattle.std.proofs.lemmas.Bool.{false_from_ne_true}
use Rattle.std.proofs.lemmas.Result.{on_ok_weaker, on_err_weaker}
use Rattle.outside_semantics.specs.Outside.{Held, FilesTold, Goes}
use Rattle.outside_semantics.specs.WrittenFiles.{File, with_files, are_steady, FilesWritten, IsCutAt, IsCutShort, FilesCutShort}
use Rattle.outside_semantics.proofs.HeldFiles.{with_files-append}
use Rattle.file_core.specs.Page.{WritesFiles}
use Rattle.file_core.proofs.Told.{Goes-Goes, held_before}

are_steady-append_left : (a : FilesTold) (fs gs : List File) → are_steady a fs ≡ false → are_steady a (fs ++ gs) ≡ false
are_steady-append_left a [] gs fails = absurd (let e : true ≡ false = fails in cc)
are_steady-append_left a (f ∷ fs) gs fails =
    elim (a.steady_write f.name) as (λ s. (s && are_steady a fs) ≡ false → (s && are_steady a (fs ++ gs)) ≡ false) [
      | true ↦ λ h. are_steady-append_left a fs gs h
      | false ↦ λ h. refl
    ] fails

are_steady-append_right : (a : FilesTold) (fs gs : List File) → are_steady a gs ≡ false → are_steady a (fs ++ gs) ≡ false
are_steady-append_right a [] gs fails = fails
are_steady-append_right a (f ∷ fs) gs fails =
    elim (a.steady_write f.name) as (λ s. (s && are_steady a (fs ++ gs)) ≡ false) [
      | true ↦ are_steady-append_right a fs gs fails
      | false ↦ refl
    ]

-- names that were steady stay so
are_steady-later : (a b : FilesTold) → Goes a b → (fs : List File) → IsTrue (are_steady a fs) → IsTrue (are_steady b fs)
are_steady-later a b goes [] holds = holds
are_steady-later a b goes (f ∷ fs) holds =
    elim (a.steady_write f.name) as (λ s. a.steady_write f.name ≡ s → (s && are_steady a fs) ≡ true → (b.steady_write f.name && are_steady b fs) ≡ true) [
      | true ↦ λ is h. ap (λ s. s && are_steady b fs) (goes.steady_write f.name is) ∙ are_steady-later a b goes fs h
      | false ↦ λ is h. absurd (cc)
    ] refl holds

pub FilesWritten-then : {a b c : FilesTold} {fs gs : List File} → FilesWritten a b fs → FilesWritten b c gs → FilesWritten a c (fs ++ gs)
FilesWritten-then {a} {b} {c} {fs} {gs} first second = record {
  goes = Goes-Goes first.goes second.goes;
  held = λ h k told tells.
      let m = held_before b c second.goes k tells in
      second.held m.0 k m.1 tells ∙ ap (λ x. with_files x gs) (first.held h m.0 told m.1) ∙ sym (with_files-append h fs gs);
}

append_middle : (fs whole later gs : List File) (f : File) → gs ≡ whole ++ f ∷ later → fs ++ gs ≡ (fs ++ whole) ++ f ∷ later
append_middle fs whole later gs f is = ap (λ x. fs ++ x) is ∙ sym (append_assoc fs whole (f ∷ later))

pub IsCutShort-after : {h m k : Held} (fs : List File) {gs : List File} → m ≡ with_files h fs → IsCutShort m k gs → IsCutShort h k (fs ++ gs)
IsCutShort-after {h} {m} {k} fs {gs} is short = record {
  whole = fs ++ short.whole;
  failed = short.failed;
  later = short.later;
  order = append_middle fs short.whole short.later gs short.failed short.order;
  cut = subst (λ x. IsCutAt x short.failed k) (ap (λ x. with_files x short.whole) is ∙ sym (with_files-append h fs short.whole)) short.cut;
}

pub IsCutShort-more : {h k : Held} {fs : List File} (gs : List File) → IsCutShort h k fs → IsCutShort h k (fs ++ gs)
IsCutShort-more {h} {k} {fs} gs short = record {
  whole = short.whole;
  failed = short.failed;
  later = short.later ++ gs;
  order = ap (λ x. x ++ gs) short.order ∙ append_assoc short.whole (short.failed ∷ short.later) gs;
  cut = short.cut;
}

pub FilesCutShort-after : {a b c : FilesTold} {fs gs : List File} → FilesWritten a b fs → FilesCutShort b c gs → FilesCutShort a c (fs ++ gs)
FilesCutShort-after {a} {b} {c} {fs} {gs} first second = record {
  goes = Goes-Goes first.goes second.goes;
  rose = omega (arith, first.goes.counts, second.rose);
  not_steady = are_steady-append_right a fs gs (false_from_ne_true _ (λ steady. cc (are_steady-later a b first.goes gs steady, second.not_steady)));
  held = λ h k told tells.
      let m = held_before b c second.goes k tells in
      IsCutShort-after fs (first.held h m.0 told m.1) (second.held m.0 k m.1 tells);
}

pub FilesCutShort-more : {a b : FilesTold} {fs : List File} (gs : List File) → FilesCutShort a b fs → FilesCutShort a b (fs ++ gs)
FilesCutShort-more {a} {b} {fs} gs short = record {
  goes = short.goes;
  rose = short.rose;
  not_steady = are_steady-append_left a fs gs short.not_steady;
  held = λ h k told tells. IsCutShort-more gs (short.held h k told tells);
}

-- some files were written, and then the others
pub WritesFiles-then : {T E : Type 0} {r : Result T E} {a b c : FilesTold} {fs gs : List File} → FilesWritten a b fs → WritesFiles r b c gs → WritesFiles r a c (fs ++ gs)
WritesFiles-then {r = r} first w = record {
  ok = on_ok_weaker r (λ second. FilesWritten-then first second) w.ok;
  err = on_err_weaker r (λ short. FilesCutShort-after first short) w.err;
}

-- a fault among the first files is answered by the writing of all
pub WritesFiles-first : {S T E F : Type 0} {e : E} {f : F} {a b : FilesTold} {fs : List File} (gs : List File) → WritesFiles {T = S} (Err e) a b fs → WritesFiles {T = T} (Err f) a b (fs ++ gs)
WritesFiles-first gs w = record { ok = tt; err = FilesCutShort-more gs w.err }
