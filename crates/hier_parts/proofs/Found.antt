-- Models found by their names, and tests of sets of names.
use Rattle.std.proofs.Common.{◌≡◌, ℕ, suc, ◌+◌, ◌<◌, ltb, Bool, true, false, not, ◌||◌, cond, List, [], ◌∷◌, length, get_or, bytes_eq, Option, Some, None, find, refl, sym, ap, ◌∙◌, arith}
use Rattle.std.specs.List.{position_or_len}
use Rattle.std.proofs.lemmas.List.{length-map}
use Rattle.std.proofs.lemmas.Option.{none-some, same_Some}
use Rattle.std.proofs.lemmas.Slice.Eq.{bytes_eq-Decides}
use Rattle.std.proofs.lemmas.Bool.{ltb-true, false≢true}
use Rattle.semantics.specs.Texts.{Bytes}
use Rattle.semantics.specs.Refusals.{has_name}
use Rattle.blif_text.specs.Names.{place_of}
use Rattle.blif_text.proofs.Places.{has_name-unplaced}
use Rattle.hierarchy_semantics.specs.Models.{BlifModel, Hierarchy, no_model, model_named}
use Rattle.hierarchy_semantics.specs.Refusals.{model_names}

-- tests that agree find the same
pub find-same : {X : Type 0} (p q : X → Bool) (xs : List X) → ((x : X) → p x ≡ q x) → find p xs ≡ find q xs
find-same p q [] same = refl
find-same p q (x ∷ xs) same = ap (λ (b : Bool). cond b (Some x) (find p xs)) (same x) ∙ ap (λ o. cond (q x) (Some x) o) (find-same p q xs same)

-- ---- models found by their names

pub sym_eq : (a b : Bytes) → bytes_eq a b ≡ bytes_eq b a
sym_eq a b = at_test (bytes_eq a b) refl (bytes_eq b a) refl
  where
    at_test : (x : Bool) → bytes_eq a b ≡ x → (y : Bool) → bytes_eq b a ≡ y → x ≡ y
    at_test true is true other = refl
    at_test false is false other = refl
    at_test true is false other = sym ((bytes_eq-Decides b a).1 (sym ((bytes_eq-Decides a b).0 is))) ∙ other
    at_test false is true other = sym is ∙ (bytes_eq-Decides a b).1 (sym ((bytes_eq-Decides b a).0 other))

pub found_at : {X : Type 0} (p : X → Bool) (xs : List X) (d : X) → position_or_len p xs < length xs → find p xs ≡ Some (get_or xs (position_or_len p xs) d)
found_at p [] d within = absurd (omega (arith, within))
found_at {X} p (x ∷ xs) d within = at_test (p x) (position_or_len p xs) within (found_at p xs d)
  where
    at_test : (b : Bool) (m : ℕ) → cond (not b) (1 + m) 0 < suc (length xs) → (m < length xs → find p xs ≡ Some (get_or xs m d))
        → cond b (Some x) (find p xs) ≡ Some (get_or (x ∷ xs) (cond (not b) (1 + m) 0) d)
    at_test true m small rest = refl
    at_test false m small rest =
        let more : 1 + m ≡ suc m = omega arith in
        rest (omega (arith, small)) ∙ ap (λ k. Some (get_or (x ∷ xs) k d)) (sym more)

same_place : (word : Bytes) (h : Hierarchy) → position_or_len (λ name. bytes_eq word name) (model_names h) ≡ position_or_len (λ (m : BlifModel). bytes_eq word m.name) h
same_place word [] = refl
same_place word (m ∷ h) = ap (λ (k : ℕ). cond (not (bytes_eq word m.name)) (1 + k) 0) (same_place word h)

abbrev model_or_none : Option BlifModel → BlifModel
model_or_none o = elim o [ None ↦ no_model | Some m ↦ m ]

pub placed : (p n : ℕ) (i : ℕ) → Some i ≡ cond (ltb p n) (Some p) None → (p ≡ i) × (p < n)
placed p n i e = at_test (ltb p n) refl e
  where
    at_test : (b : Bool) → ltb p n ≡ b → Some i ≡ cond b (Some p) None → (p ≡ i) × (p < n)
    at_test true is e = (same_Some p i (sym e), ltb-true p n is)
    at_test false is e = absurd (none-some i (sym e))

pub model-at : (h : Hierarchy) (name : Bytes) (i : ℕ) (d : BlifModel) → Some i ≡ place_of (model_names h) name → get_or h i d ≡ model_named h name
model-at h name i d e =
    let at = placed (position_or_len (λ word. bytes_eq name word) (model_names h)) (length (model_names h)) i e in
    let size : length (model_names h) ≡ length h = length-map h (λ m. m.name) in
    let same : position_or_len (λ (m : BlifModel). bytes_eq name m.name) h ≡ i = sym (same_place name h) ∙ at.0 in
    let within : position_or_len (λ (m : BlifModel). bytes_eq name m.name) h < length h = omega (arith, same, at.0, at.1, size) in
    sym
    (ap model_or_none
    (find-same (λ (m : BlifModel). bytes_eq m.name name) (λ (m : BlifModel). bytes_eq name m.name) h (λ m. sym_eq m.name name) ∙ found_at (λ (m : BlifModel). bytes_eq name m.name) h d within)
    ∙ ap (λ k. get_or h k d) same)

none_there : (name : Bytes) (h : Hierarchy) → has_name (model_names h) name ≡ false → find (λ (m : BlifModel). bytes_eq name m.name) h ≡ None
none_there name [] e = refl
none_there name (m ∷ h) e = at_test (bytes_eq name m.name) e (none_there name h)
  where
    at_test : (b : Bool) → b || has_name (model_names h) name ≡ false → (has_name (model_names h) name ≡ false → find (λ (m : BlifModel). bytes_eq name m.name) h ≡ None)
        → cond b (Some m) (find (λ (m : BlifModel). bytes_eq name m.name) h) ≡ None
    at_test true e rest = absurd (false≢true (sym e))
    at_test false e rest = rest e

pub model-none : (h : Hierarchy) (name : Bytes) → None ≡ place_of (model_names h) name → no_model ≡ model_named h name
model-none h name e =
    sym
    (ap model_or_none
    (find-same (λ (m : BlifModel). bytes_eq m.name name) (λ (m : BlifModel). bytes_eq name m.name) h (λ m. sym_eq m.name name) ∙ none_there name h (has_name-unplaced (model_names h) name e)))
