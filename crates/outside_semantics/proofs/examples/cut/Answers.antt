use Rattle.std.proofs.Common.{◌≡◌, ◌⊎◌, inl, inr, ⊎_elim, ℕ, zero, suc, ◌≤◌, List, [], ◌∷◌, ◌++◌, length, get_or, take, Option, Some, codes, refl, sym, ap, subst, ◌∙◌, arith, rules, length-append}
use Rattle.std.proofs.lemmas.Option.{none-some, same_Some}
use Rattle.std.specs.FinMap.{get, insert, gets}
use Rattle.semantics.specs.Texts.{Bytes}
use Rattle.outside_semantics.specs.Outside.{Held}
use Rattle.outside_semantics.specs.WrittenFiles.{File, with_files, IsCutAt}
use Rattle.outside_semantics.specs.Examples.{three}
use Rattle.outside_semantics.proofs.examples.cut.Goals as goal

abbrev EitherCut : Held → Held → File → File → Type 0
EitherCut before now f g = IsCutAt before f now ⊎ IsCutAt (insert before f.name f.text) g now

-- of two files the first was cut, or the second
either_cut : (before now : Held) (f g failed : File) (whole later : List File) → f ∷ g ∷ [] ≡ whole ++ failed ∷ later → IsCutAt (with_files before whole) failed now → EitherCut before now f g
either_cut before now f g failed [] later order cut =
    inl (subst (λ x. IsCutAt before x now) (sym (ap (λ l. get_or l 0 f) order)) cut)
either_cut before now f g failed (w ∷ []) later order cut =
    let first : f ≡ w = ap (λ l. get_or l 0 f) order in
    let second : g ≡ failed = ap (λ l. get_or l 1 f) order in
    inr (subst (λ x. IsCutAt (insert before x.name x.text) g now) (sym first) (subst (λ x. IsCutAt (insert before w.name w.text) x now) (sym second) cut))
either_cut before now f g failed (v ∷ w ∷ whole) later order cut =
    let size : 2 ≡ suc (suc (length (whole ++ failed ∷ later))) = ap length order in
    absurd (omega (arith, length-append {A = File}))

-- a name is held now as it was, or as a first part of the file that was cut
held_now : (before now : Held) (f : File) (name : Bytes) (P : Option Bytes → Type 0) → IsCutAt before f now → P (get before name) → ((n : ℕ) → P (get (insert before f.name (take n f.text)) name))
    → P (get now name)
held_now before now f name P cut untouched part = ⊎_elim
    (λ (same : now ≡ before). subst (λ h. P (get h name)) (sym same) untouched)
    (λ (some : (n : ℕ) × (n ≤ length f.text) × (now ≡ insert before f.name (take n f.text))). subst (λ h. P (get h name)) (sym some.2) (part some.0))
    cut

apart : {o : Option Bytes} (xs ys : Bytes) → o ≡ Some xs → (xs ≡ ys → ⊥) → o ≡ Some ys → ⊥
apart xs ys is differ e = differ (same_Some xs ys (sym is ∙ e))

no_first_part : (n : ℕ) → take n (codes "xy") ≡ codes "y" → ⊥
no_first_part zero e = cc
no_first_part (suc n) e = let h : ◌≡◌ {A = ℕ} 120 121 = ap (λ (l : List ℕ). get_or l 0 0) e in omega arith

shorter : {x y z : ℕ} → x ∷ y ∷ [] ≡ z ∷ [] → ⊥
shorter e = let h : ◌≡◌ {A = ℕ} 2 1 = ap length e in omega arith

pub returns : goal.returns
returns c = record {
  not_created = record { whole = []; failed = _; later = _; order = refl; cut = inl refl };
  emptied = record { whole = []; failed = _; later = _; order = refl; cut = inr (0, omega arith, refl) };
  first_part = record { whole = []; failed = _; later = _; order = refl; cut = inr (1, omega arith, refl) };
  second_emptied = record { whole = _ ∷ []; failed = _; later = []; order = refl; cut = inr (0, omega arith, refl) };
  no_other_part = λ left.
      ⊎_elim
      (λ cut. held_now three _ _ (codes "b") (λ o. o ≡ Some (codes "y") → ⊥) cut (λ e. none-some _ (sym (search (rules, gets)) ∙ e))
      (λ n. apart (take n (codes "xy")) _ (search (rules, gets)) (no_first_part n)) (search (rules, gets)))
      (λ cut. held_now _ _ _ (codes "b") (λ o. o ≡ Some (codes "y") → ⊥) cut (apart (codes "xy") _ (search (rules, gets)) shorter) (λ n. apart (codes "xy") _ (search (rules, gets)) shorter)
      (search (rules, gets)))
      (either_cut three _ _ _ left.failed left.whole left.later left.order left.cut);
  no_later_file = λ left.
      ⊎_elim
      (λ cut. held_now three _ _ (codes "c") (λ o. o ≡ Some [] → ⊥) cut (λ e. none-some _ (sym (search (rules, gets)) ∙ e)) (λ n e. none-some _ (sym (search (rules, gets)) ∙ e))
      (search (rules, gets)))
      (λ cut. held_now _ _ _ (codes "b") (λ o. o ≡ Some (codes "x") → ⊥) cut (apart (codes "xy") _ (search (rules, gets)) shorter) (λ n. apart (codes "xy") _ (search (rules, gets)) shorter)
      (search (rules, gets)))
      (either_cut three _ _ _ left.failed left.whole left.later left.order left.cut);
}
