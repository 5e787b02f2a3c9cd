-- Forms as the keys of a set.
use Rattle.std.proofs.Common.{◌≡◌, ℕ, zero, suc, ◌+◌, ◌<◌, Bool, true, false, cond, not, ◌||◌, ◌&&◌, eqb, List, [], ◌∷◌, ◌++◌, length, get_or, map, refl, ap, subst, sym, ◌∙◌, inl, inr, arith, Option}
use Rattle.std.proofs.Common.{None, Some}
use Rattle.std.specs.Prelude.{slice_get}
use Rattle.std.specs.List.{list_any, position_or_len}
use Rattle.std.proofs.lemmas.List.{length-map}
use mathlib.Core.Bool.{beq}
use lib.Pointwise.{pointwise}
use Rattle.std.specs.Option.{option_eq}
use Rattle.std.proofs.lemmas.Bool.{eqb-true, eq-eqb}
use Rattle.std.proofs.lemmas.Bool.Decides.{Decides-eqb}
use Rattle.std.proofs.lemmas.Slice.Eq.{slice_eq-Decides}
use Rattle.merge_log.specs.declared.form.Form.{Form}
use Rattle.merge_log.specs.Forms.{form_value, IsNumbered}

map-push : (forms : List Form) (form : Form) → map form_value (forms ++ form ∷ []) ≡ map form_value forms ++ form_value form ∷ []
map-push [] form = refl
map-push (f ∷ forms) form = ap (λ rest. form_value f ∷ rest) (map-push forms form)

slice_get-map : (forms : List Form) (k : ℕ) (form : Form) → slice_get forms k ≡ Some form → slice_get (map form_value forms) k ≡ Some (form_value form)
slice_get-map [] k form e = cc
slice_get-map (f ∷ forms) zero form e = let same : f ≡ form = cc e in ap (λ x. Some (form_value x)) same
slice_get-map (f ∷ forms) (suc k) form e = slice_get-map forms k form e

module _ (eq : Form → Form → Bool) (same : (a b : Form) → eq a b ≡ true → form_value a ≡ form_value b) (told : (a b : Form) → form_value a ≡ form_value b → eq a b ≡ true) where
  none_passes : (forms : List Form) (form : Form) → list_any (eq form) forms ≡ false → position_or_len (eq form) forms ≡ length forms
  none_passes [] form e = refl
  none_passes (f ∷ forms) form e = by_test (eq form f) e (none_passes forms form) where
    by_test : (t : Bool) → (t || list_any (eq form) forms) ≡ false → (list_any (eq form) forms ≡ false → position_or_len (eq form) forms ≡ length forms)
        → cond (not t) (1 + position_or_len (eq form) forms) 0 ≡ suc (length forms)
    by_test true e' rest = cc
    by_test false e' rest = let all = rest e' in omega (arith, all)

  some_passes : (forms : List Form) (form : Form) (k : ℕ) → k < length (map form_value forms) → get_or (map form_value forms) k (form_value form) ≡ form_value form → list_any (eq form) forms ≡ true
  some_passes [] form k low e = absurd (omega (arith, low))
  some_passes (f ∷ forms) form zero low e = ap (λ b. b || list_any (eq form) forms) (told form f (sym e))
  some_passes (f ∷ forms) form (suc k) low e = by_test (eq form f) (some_passes forms form k (omega (arith, low)) e) where
    by_test : (t : Bool) → list_any (eq form) forms ≡ true → (t || list_any (eq form) forms) ≡ true
    by_test true h = refl
    by_test false h = h

  pub numbered : (old new : List Form) (form k : Form) (at : ℕ) → new ≡ cond (list_any (eq form) old) old (old ++ form ∷ []) → at ≡ position_or_len (eq form) old → at < length new
      → slice_get new at ≡ Some k → eq form k ≡ true → IsNumbered (map form_value old) (map form_value new) (form_value form) at
  numbered old new form k at is index within stored like = by_test (list_any (eq form) old) refl is where
    by_test : (t : Bool) → list_any (eq form) old ≡ t → new ≡ cond t old (old ++ form ∷ []) → IsNumbered (map form_value old) (map form_value new) (form_value form) at
    by_test true e kept =
        inl (
          omega (arith, within, ap length kept, length-map old form_value),
          ap (map form_value) kept,
          slice_get-map old at k (ap (λ l. slice_get l at) (sym kept) ∙ stored) ∙ ap Some (sym (same form k like)),
        )
    by_test false e grown =
        inr (
          index ∙ none_passes old form e ∙ sym (length-map old form_value),
          ap (map form_value) grown ∙ map-push old form,
          λ c. let found = some_passes old form c.0 c.1 c.2 in cc (found, e),
        )

-- ---- how two forms are compared

abbrev pub are_alike : Form → Form → Bool
are_alike a b = beq a.plane b.plane && (eqb a.rows b.rows && (pointwise (option_eq beq) a.marks.items b.marks.items && pointwise eqb a.pins.items b.pins.items))

both_true : (p q : Bool) → (p && q) ≡ true → (p ≡ true) × (q ≡ true)
both_true true q e = (refl, e)
both_true false q e = cc

true_both : (p q : Bool) → p ≡ true → q ≡ true → (p && q) ≡ true
true_both true q e k = k
true_both false q e k = cc

beq_true : (a b : Bool) → beq a b ≡ true → a ≡ b
beq_true true true e = refl
beq_true true false e = cc
beq_true false true e = cc
beq_true false false e = refl

beq_same : (b : Bool) → beq b b ≡ true
beq_same true = refl
beq_same false = refl

asked_true : (a b : Option Bool) → option_eq beq a b ≡ true → a ≡ b
asked_true None None e = refl
asked_true None (Some y) e = cc
asked_true (Some x) None e = cc
asked_true (Some x) (Some y) e = ap Some (beq_true x y e)

asked_same : (a b : Option Bool) → a ≡ b → option_eq beq a b ≡ true
asked_same None b e = subst (λ o. option_eq beq None o ≡ true) e refl
asked_same (Some x) b e = subst (λ o. option_eq beq (Some x) o ≡ true) e (beq_same x)

pub alike_same : (a b : Form) → are_alike a b ≡ true → form_value a ≡ form_value b
alike_same a b e =
    let one = both_true (beq a.plane b.plane) _ e in
    let two = both_true (eqb a.rows b.rows) _ one.1 in
    let three = both_true (pointwise (option_eq beq) a.marks.items b.marks.items) _ two.1 in
    let plane : a.plane ≡ b.plane = beq_true a.plane b.plane one.0 in
    let rows : a.rows ≡ b.rows = eqb-true a.rows b.rows two.0 in
    let marks : a.marks.items ≡ b.marks.items = (slice_eq-Decides (λ x y. (asked_true x y, asked_same x y)) a.marks.items b.marks.items _ refl).0 three.0 in
    let pins : a.pins.items ≡ b.pins.items = (slice_eq-Decides Decides-eqb a.pins.items b.pins.items _ refl).0 three.1 in
    λ i. record { plane = plane i; rows = rows i; marks = marks i; pins = pins i }

pub same_alike : (a b : Form) → form_value a ≡ form_value b → are_alike a b ≡ true
same_alike a b e =
    let plane : beq a.plane b.plane ≡ true = subst (λ p. beq a.plane p ≡ true) (ap (λ f. f.plane) e) (beq_same a.plane) in
    let rows : eqb a.rows b.rows ≡ true = eq-eqb a.rows b.rows (ap (λ f. f.rows) e) in
    let marks = (slice_eq-Decides (λ x y. (asked_true x y, asked_same x y)) a.marks.items b.marks.items _ refl).1 (ap (λ f. f.marks) e) in
    let pins = (slice_eq-Decides Decides-eqb a.pins.items b.pins.items _ refl).1 (ap (λ f. f.pins) e) in
    true_both (beq a.plane b.plane) _ plane (true_both (eqb a.rows b.rows) _ rows (true_both (pointwise (option_eq beq) a.marks.items b.marks.items) _ marks pins))
