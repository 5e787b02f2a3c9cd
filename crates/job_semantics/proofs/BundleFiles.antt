-- What is held after the files of a bundle were written.
use Rattle.std.proofs.Common.{◌≡◌, ◌≢◌, ℕ, List, [], ◌∷◌, map, get_or, Some, refl, sym, ap, ◌∙◌}
use Rattle.std.specs.Prelude.{⊤, ◌==◌, if◌then◌else◌}
use Rattle.std.specs.List.{AllByRecursion}
use Rattle.std.specs.FinMap.{get, insert}
use Rattle.std.proofs.lemmas.List.{append_cancel_left}
use Rattle.semantics.specs.Texts.{Bytes}
use Rattle.outside_semantics.specs.Outside.{Held}
use Rattle.outside_semantics.specs.WrittenFiles.{File, with_files}
use Rattle.outside_semantics.proofs.HeldFiles.{with_files-holds, with_files-others}
use Rattle.job_semantics.specs.declared.ending.Ending.{Ending}
use Rattle.job_semantics.specs.declared.ending.Ending.TheVariants.{Netlist, Formula, Log, Vectors, Report}
use Rattle.job_semantics.specs.Endings.{bundle_endings, ending_word, bundle_name, bundle_files}

-- the ending whose word has this byte at place 1
abbrev ending_with : ℕ → Ending
ending_with c =
    if c == 98 then Netlist
    else (if c == 99 then Formula
    else (if c == 108 then Log
    else (if c == 119 then Vectors
    else Report)))

ending_from_word : (e : Ending) → ending_with (get_or (ending_word e) 1 0) ≡ e
ending_from_word Netlist = refl
ending_from_word Formula = refl
ending_from_word Log = refl
ending_from_word Vectors = refl
ending_from_word Report = refl

pub bundle_names-differ : (stem : Bytes) (a b : Ending) → a ≢ b → bundle_name stem a ≢ bundle_name stem b
bundle_names-differ stem a b differ same =
    let words : ending_word a ≡ ending_word b = append_cancel_left stem (ending_word a) (ending_word b) same in
    differ (sym (ending_from_word a) ∙ ap (λ w. ending_with (get_or w 1 0)) words ∙ ending_from_word b)

abbrev file_of : Bytes → (Ending → Bytes) → Ending → File
file_of stem text e = record { name = bundle_name stem e; text = text e }

abbrev files_of : Bytes → (Ending → Bytes) → List Ending → List File
files_of stem text endings = map (file_of stem text) endings

-- each ending differs from the later ones
abbrev AreDistinct : List Ending → Type 0
AreDistinct [] = ⊤
AreDistinct (e ∷ endings) = AllByRecursion (λ f. f ≢ e) endings × AreDistinct endings

bundle_endings-AreDistinct : AreDistinct bundle_endings
bundle_endings-AreDistinct = (
  ((λ e. cc), ((λ e. cc), ((λ e. cc), ((λ e. cc), tt)))),
  (((λ e. cc), ((λ e. cc), ((λ e. cc), tt))), (((λ e. cc), ((λ e. cc), tt)), (((λ e. cc), tt), (tt, tt)))),
)

later_names : (stem : Bytes) (text : Ending → Bytes) (e : Ending) (endings : List Ending) → AllByRecursion (λ f. f ≢ e) endings
    → AllByRecursion (λ f. f.name ≢ bundle_name stem e) (files_of stem text endings)
later_names stem text e [] differ = tt
later_names stem text e (f ∷ endings) differ = (bundle_names-differ stem f e differ.0, later_names stem text e endings differ.1)

pub held_texts : (h : Held) (stem : Bytes) (text : Ending → Bytes) (endings : List Ending) → AreDistinct endings
    → AllByRecursion (λ e. get (with_files h (files_of stem text endings)) (bundle_name stem e) ≡ Some (text e)) endings
held_texts h stem text [] distinct = tt
held_texts h stem text (e ∷ endings) distinct = (
  with_files-holds h [] (files_of stem text endings) (file_of stem text e) (later_names stem text e endings distinct.0),
  held_texts (insert h (bundle_name stem e) (text e)) stem text endings distinct.1,
)

other_names : (stem : Bytes) (text : Ending → Bytes) (name : Bytes) (endings : List Ending) → AllByRecursion (λ e. bundle_name stem e ≢ name) endings
    → AllByRecursion (λ f. f.name ≢ name) (files_of stem text endings)
other_names stem text name [] differ = tt
other_names stem text name (e ∷ endings) differ = (differ.0, other_names stem text name endings differ.1)

pub bundle_files-holds : (held : Held) (stem : Bytes) (text : Ending → Bytes)
    → AllByRecursion (λ e. get (with_files held (bundle_files stem text)) (bundle_name stem e) ≡ Some (text e)) bundle_endings
bundle_files-holds held stem text = held_texts held stem text bundle_endings bundle_endings-AreDistinct

pub bundle_files-others : (held : Held) (stem : Bytes) (text : Ending → Bytes) (name : Bytes)
    → AllByRecursion (λ e. bundle_name stem e ≢ name) bundle_endings → get (with_files held (bundle_files stem text)) name ≡ get held name
bundle_files-others held stem text name differ =
    with_files-others held (bundle_files stem text) name (other_names stem text name bundle_endings differ)
