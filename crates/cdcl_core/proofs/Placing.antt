-- The places of variables in the trail.
use Rattle.std.specs.Prelude.{ℤ, neg_ℤ, pos, negsuc, ◌≢◌, ◌⊎◌, All, AllPairs, nat_abs}
use Rattle.std.proofs.Common.{◌≡◌, ℕ, zero, suc, true, map, ◌-◌, ◌<◌, ◌≤◌, List, [], ◌∷◌, ◌++◌, take, length, get_or, refl, ap, subst, sym, ◌∙◌, inl, inr, length-append, arith}
use Rattle.std.specs.List.{AllByRecursion, list_any}
use Rattle.std.proofs.Math.Dec.{eqb}
use Rattle.std.proofs.lemmas.List.Elements.{All-map, recursion_from_All}
use Rattle.std.proofs.lemmas.Bool.Decides.{eqb_tells, Decides-eqb}
use Rattle.std.proofs.lemmas.Map.Made.{IsDistinct-from_AllPairs}
use Rattle.std.proofs.lemmas.Map.Steps.{length-le_from_distinct_below}
use Rattle.std.proofs.lemmas.Bool.{cases_lt}
use Rattle.std.proofs.lemmas.List.{get_or-take, length-take, get_or-set_other, get_or-set_same, get_or_default, get_or-map, length-map}
use Rattle.std.proofs.Math.ListN.{get_or-append, set, length-set}
use Rattle.std.proofs.Math.Seq.{get_or-append_seam}
use Rattle.cdcl_core.specs.Settled.{IsOpen}
use Rattle.cdcl_core.specs.Trail.{literal_at, IsConsistent}
use Rattle.cdcl_core.specs.Explained.{Holds}
use Rattle.proof_semantics.specs.Clauses.{IsLiteralOf}
use Rattle.cdcl_core.specs.Placed.{IsPlaced}

pub nat_abs-neg : (a : ℤ) → nat_abs (neg_ℤ a) ≡ nat_abs a
nat_abs-neg (pos zero) = refl
nat_abs-neg (pos (suc n)) = refl
nat_abs-neg (negsuc n) = refl

pub literal-neg : (n : ℕ) (a : ℤ) → IsLiteralOf n a → IsLiteralOf n (neg_ℤ a)
literal-neg n a h = record { not_zero = rw (nat_abs-neg a) h.not_zero; within = rw (nat_abs-neg a) h.within }

pub same_variable : (a b : ℤ) → nat_abs a ≡ nat_abs b → (a ≡ b) ⊎ (a ≡ neg_ℤ b)
same_variable (pos m) (pos n) e = inl (ap pos e)
same_variable (pos m) (negsuc n) e = inr (ap pos e)
same_variable (negsuc m) (pos zero) e = absurd (omega arith)
same_variable (negsuc m) (pos (suc n)) e = let same : m ≡ n = omega arith in inr (ap negsuc same)
same_variable (negsuc m) (negsuc n) e = let same : m ≡ n = omega arith in inl (ap negsuc same)

not_own_negation : (a : ℤ) → 0 < nat_abs a → a ≡ neg_ℤ a → ⊥
not_own_negation (pos zero) h e = omega arith
not_own_negation (pos (suc n)) h e = cc
not_own_negation (negsuc n) h e = cc

pub placed-consistent : (places : List ℕ) (trail : List ℤ) → IsPlaced places trail → IsConsistent trail
placed-consistent places trail h = record {
  distinct = λ i j low high e. sym (h.at i low) ∙ ap (λ a. get_or places (nat_abs a) 0) e ∙ h.at j high;
  consistent = λ i j low high e.
      let same : nat_abs (literal_at trail i) ≡ nat_abs (literal_at trail j) = ap nat_abs e ∙ nat_abs-neg (literal_at trail j) in
      let here : i ≡ j = sym (h.at i low) ∙ ap (λ v. get_or places v 0) same ∙ h.at j high in
      not_own_negation (literal_at trail j) ((h.literal j high).0) (ap (literal_at trail) (sym here) ∙ e);
}

-- the variable of an open literal stands nowhere in the trail
pub open-nowhere : (trail : List ℤ) (l : ℤ) (i : ℕ) → IsOpen (Holds trail) l → i < length trail → nat_abs (literal_at trail i) ≡ nat_abs l → ⊥
open-nowhere trail l i o within e =
    elim (same_variable (literal_at trail i) l e) [
      | inl same ↦ o.not_true (record { place = i; below = within; within = within; is = same })
      | inr opposite ↦ o.not_false (record { place = i; below = within; within = within; is = opposite })
    ]

-- writing the place of a variable that stands nowhere
pub placed-set : (places : List ℕ) (trail : List ℤ) (l : ℤ) (n : ℕ) → IsOpen (Holds trail) l → IsPlaced places trail → IsPlaced (set places (nat_abs l) n) trail
placed-set places trail l n o h = record {
  some = let some = h.some in omega (arith, length-set places (nat_abs l) n);
  literal = λ i within. let e = length-set places (nat_abs l) n in let this = h.literal i within in (this.0, omega arith);
  at = λ i within. get_or-set_other places (nat_abs l) (nat_abs (literal_at trail i)) n 0 (open-nowhere trail l i o within) ∙ h.at i within;
}

-- the place of the next entry was written before
pub placed-push : (places : List ℕ) (trail : List ℤ) (l : ℤ) → 0 < nat_abs l → nat_abs l < length places → get_or places (nat_abs l) 0 ≡ length trail → IsPlaced places trail
    → IsPlaced places (trail ++ l ∷ [])
placed-push places trail l positive inside place h =
    let at_end : literal_at (trail ++ l ∷ []) (length trail) ≡ l = get_or-append_seam trail l [] (pos zero) in
    record {
      some = h.some;
      literal = λ i within. elim (cases_lt i (length trail)) [
        | inl low ↦ let e : literal_at (trail ++ l ∷ []) i ≡ literal_at trail i = get_or-append trail (l ∷ []) (pos zero) i low in rw e (h.literal i low)
        | inr high ↦ let last : i ≡ length trail = omega (arith, length-append trail (l ∷ [])) in rw (last, at_end) (positive, inside)
      ];
      at = λ i within. elim (cases_lt i (length trail)) [
        | inl low ↦ let e : literal_at (trail ++ l ∷ []) i ≡ literal_at trail i = get_or-append trail (l ∷ []) (pos zero) i low in rw e (h.at i low)
        | inr high ↦ let last : i ≡ length trail = omega (arith, length-append trail (l ∷ [])) in rw (last, at_end) place
      ];
    }

pub placed-take : (places : List ℕ) (trail : List ℤ) (q : ℕ) → IsPlaced places trail → IsPlaced places (take q trail)
placed-take places trail q h = record {
  some = h.some;
  literal = λ i within.
      let low : i < q = omega (arith, length-take q trail) in
      let in_trail : i < length trail = omega (arith, length-take q trail) in
      let e : literal_at (take q trail) i ≡ literal_at trail i = get_or-take q trail i (pos zero) low in rw e (h.literal i in_trail);
  at = λ i within.
      let low : i < q = omega (arith, length-take q trail) in
      let in_trail : i < length trail = omega (arith, length-take q trail) in
      let e : literal_at (take q trail) i ≡ literal_at trail i = get_or-take q trail i (pos zero) low in rw e (h.at i in_trail);
}

-- one entry more
pub placed_next : (places : List ℕ) (trail after : List ℤ) (l : ℤ) (v n : ℕ) → IsPlaced places trail → IsOpen (Holds trail) l → IsLiteralOf (length places - 1) l
    → v ≡ nat_abs l → n ≡ length trail → after ≡ trail ++ l ∷ [] → IsPlaced (set places v n) after
placed_next places trail after l v n h o ok e m more =
    let low = ok.within in
    let positive = ok.not_zero in
    let inside : nat_abs l < length places = omega arith in
    rw (more, e, m) (placed-push (set places (nat_abs l) (length trail)) trail l (omega arith) (omega (arith, length-set places (nat_abs l) (length trail)))
    (get_or-set_same places (nat_abs l) (length trail) 0 inside) (placed-set places trail l (length trail) o h))

-- at most one entry a variable
any_below : (xs : List ℕ) (q n : ℕ) → AllByRecursion (λ x. x < n) xs → list_any (eqb q) xs ≡ true → q < n
any_below [] q n h e = cc
any_below (x ∷ xs) q n h e =
    elim (eqb_tells q x) [
      | inl t ↦ let low = h.0 in let same = t.1 in omega arith
      | inr f ↦ any_below xs q n h.1 (rw (f.0) at e)
    ]

pub placed_few : (places : List ℕ) (trail : List ℤ) → IsPlaced places trail → length trail ≤ length places
placed_few places trail h =
    let variables : List ℕ = map nat_abs trail in
    let each : All (λ v. v < length places) variables
    = All-map (λ v. v < length places) nat_abs trail (λ k d within. subst (λ x. nat_abs x < length places) (get_or_default trail k (pos zero) d within) ((h.literal k within).1)) in
    let differ : AllPairs (λ x y. x ≢ y) variables = λ i j d low high e.
    let within : i < length trail = omega (arith, length-map trail nat_abs) in
    let within' : j < length trail = omega (arith, length-map trail nat_abs) in
    let one : get_or variables i d ≡ nat_abs (literal_at trail i) = get_or-map nat_abs trail i (pos zero) d within in
    let two : get_or variables j d ≡ nat_abs (literal_at trail j) = get_or-map nat_abs trail j (pos zero) d within' in
    let place : i ≡ j = sym (h.at i within) ∙ ap (λ v. get_or places v 0) (sym one ∙ e ∙ two) ∙ h.at j within' in
    omega arith in
    let few : length variables ≤ length places = length-le_from_distinct_below variables (length places) (IsDistinct-from_AllPairs Decides-eqb variables differ)
    (λ q. any_below variables q (length places) (recursion_from_All (λ v. v < length places) variables each)) in
    omega (arith, length-map trail nat_abs)
