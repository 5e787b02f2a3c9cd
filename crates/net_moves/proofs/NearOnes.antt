-- Near signals, one after another: what one signal more makes of those that are there.
use Rattle.std.proofs.Common.{◌≡◌, ◌≢◌, ℕ, ◌+◌, ◌<◌, ◌≤◌, Bool, true, false, not, ◌||◌, cond, eqb, List, [], ◌∷◌, ◌++◌, length, take, refl, ap, sym, subst, ◌∙◌, append_assoc, inl, inr, arith}
use Rattle.std.specs.List.{filter, flat_map}
use Rattle.std.proofs.lemmas.Bool.{cases_lt, cond-true, cond-false, eqb-true, eq-eqb, not_from_true, not_from_false, false_from_ne_true}
use Rattle.std.proofs.lemmas.List.{length-take-le, length-append, take_all, take-append-le, append-nil}
use Rattle.std.proofs.lemmas.List.Elements.{filter-append}
use Rattle.semantics.specs.Net.{TableValue, NetValue}
use Rattle.chain_semantics.specs.declared.moves.TheConstants.{MOST_NEAR_SIGNALS}
use Rattle.chain_semantics.specs.TidyRules.{has}
use Rattle.chain_semantics.specs.Moves.{each_once, pins_of, near_signals}
use Rattle.net_moves.specs.Left.{first_once, with_signal}

abbrev differs : ℕ → ℕ → Bool
differs x u = not (eqb u x)

has-step : (x s k : ℕ) (K L : List ℕ) (b : Bool) → eqb k x ≡ b → s ≢ x → has L s ≡ has K s → has (cond (not b) (k ∷ L) L) s ≡ (eqb s k || has K s)
has-step x s k K L true e ne rest =
    let other : eqb s k ≡ false = false_from_ne_true (eqb s k) (λ h. ne (eqb-true s k h ∙ eqb-true k x e)) in rest ∙ ap (λ b. b || has K s) (sym other)
has-step x s k K L false e ne rest = ap (λ b. eqb s k || b) rest

-- what is not taken out is still there
has-filter : (x s : ℕ) (K : List ℕ) → s ≢ x → has (filter (differs x) K) s ≡ has K s
has-filter x s [] ne = refl
has-filter x s (k ∷ K) ne = has-step x s k K (filter (differs x) K) (eqb k x) refl ne (has-filter x s K ne)

-- one number more behind those that differ from x, by whether it is there and whether it is x
grown : (x s : ℕ) (K : List ℕ) (there same : Bool) → has K s ≡ there → eqb s x ≡ same
    → x ∷ filter (differs x) (cond there K (K ++ s ∷ []))
    ≡ cond (same || has (filter (differs x) K) s) (x ∷ filter (differs x) K) (x ∷ (filter (differs x) K ++ s ∷ []))
grown x s K true true h e = refl
grown x s K false true h e =
    let gone : filter (differs x) (s ∷ []) ≡ [] = cond-false (differs x s) (s ∷ []) [] (not_from_true (eqb s x) e) in
    ap (λ l. x ∷ l) (filter-append (differs x) K (s ∷ []) ∙ ap (λ l. filter (differs x) K ++ l) gone ∙ append-nil (filter (differs x) K))
grown x s K true false h e =
    let ne : s ≢ x = λ same. (let t : eqb s x ≡ true = eq-eqb s x same in cc) in
    let kept : has (filter (differs x) K) s ≡ true = has-filter x s K ne ∙ h in
    sym (cond-true (has (filter (differs x) K) s) (x ∷ filter (differs x) K) (x ∷ (filter (differs x) K ++ s ∷ [])) kept)
grown x s K false false h e =
    let ne : s ≢ x = λ same. (let t : eqb s x ≡ true = eq-eqb s x same in cc) in
    let none : has (filter (differs x) K) s ≡ false = has-filter x s K ne ∙ h in
    let stays : filter (differs x) (s ∷ []) ≡ s ∷ [] = cond-true (differs x s) (s ∷ []) [] (not_from_false (eqb s x) e) in
    ap (λ l. x ∷ l) (filter-append (differs x) K (s ∷ []) ∙ ap (λ l. filter (differs x) K ++ l) stays)
    ∙ sym (cond-false (has (filter (differs x) K) s) (x ∷ filter (differs x) K) (x ∷ (filter (differs x) K ++ s ∷ [])) none)

once-grown : (xs : List ℕ) (s : ℕ) → each_once (xs ++ s ∷ []) ≡ cond (has (each_once xs) s) (each_once xs) (each_once xs ++ s ∷ [])
once-grown [] s = refl
once-grown (x ∷ xs) s =
    ap (λ l. x ∷ filter (differs x) l) (once-grown xs s) ∙ grown x s (each_once xs) (has (each_once xs) s) (eqb s x) refl refl

-- cut after n numbers, by whether there is room and whether the number is there
cut-room : (n : ℕ) (K : List ℕ) (s : ℕ) (there : Bool) → length K < n → has K s ≡ there
    → cond (eqb (length K) n || has K s) K (K ++ s ∷ []) ≡ take n (cond there K (K ++ s ∷ []))
cut-room n K s there room h =
    let unequal : eqb (length K) n ≡ false = false_from_ne_true (eqb (length K) n) (λ e. omega (arith, room, eqb-true (length K) n e)) in
    ap (λ b. cond (b || has K s) K (K ++ s ∷ [])) unequal ∙ ap (λ b. cond b K (K ++ s ∷ [])) h ∙ whole there
  where
    whole : (b : Bool) → cond b K (K ++ s ∷ []) ≡ take n (cond b K (K ++ s ∷ []))
    whole true = sym (take_all n K (omega arith))
    whole false = sym (take_all n (K ++ s ∷ []) (omega (arith, length-append K (s ∷ []), room)))

cut-full : (n : ℕ) (K : List ℕ) (s : ℕ) (there : Bool) → n ≤ length K → take n K ≡ take n (cond there K (K ++ s ∷ []))
cut-full n K s true full = refl
cut-full n K s false full = sym (take-append-le n K (s ∷ []) full)

cut : (n : ℕ) (K : List ℕ) (s : ℕ)
    → cond (eqb (length (take n K)) n || has (take n K) s) (take n K) (take n K ++ s ∷ []) ≡ take n (cond (has K s) K (K ++ s ∷ []))
cut n K s =
    elim (cases_lt (length K) n) [
      | inl room ↦
          let whole : K ≡ take n K = sym (take_all n K (omega arith)) in
          subst (λ l. cond (eqb (length l) n || has l s) l (l ++ s ∷ []) ≡ take n (cond (has K s) K (K ++ s ∷ []))) whole
          (cut-room n K s (has K s) room refl)
      | inr full ↦
          let equal : eqb (length (take n K)) n ≡ true = eq-eqb (length (take n K)) n (length-take-le n K full) in
          ap (λ b. cond (b || has (take n K) s) (take n K) (take n K ++ s ∷ [])) equal ∙ cut-full n K s (has K s) full
    ]

pub first_once-more : (before : List ℕ) (s : ℕ) → with_signal (first_once before) s ≡ first_once (before ++ s ∷ [])
first_once-more before s = cut MOST_NEAR_SIGNALS (each_once before) s ∙ ap (take MOST_NEAR_SIGNALS) (sym (once-grown before s))

-- after i + 1 of these signals
pub first_once-step : (before signals near : List ℕ) (i s : ℕ) → i < length signals → take (i + 1) signals ≡ take i signals ++ s ∷ []
    → near ≡ first_once (before ++ take i signals) → with_signal near s ≡ first_once (before ++ take (i + 1) signals)
first_once-step before signals near i s low more is =
    ap (λ l. with_signal l s) is ∙ first_once-more (before ++ take i signals) s
    ∙ ap first_once (append_assoc before (take i signals) (s ∷ []) ∙ ap (λ l. before ++ l) (sym more))

-- after the pins of all pins
pub near-found : (N : NetValue) (table : TableValue) (pins near : List ℕ) (i : ℕ) → near ≡ first_once (pins ++ flat_map (pins_of N) (take i pins)) → length pins ≤ i
    → pins ≡ table.pins → near ≡ near_signals N table
unfolding near_signals
near-found N table pins near i is past same =
    is ∙ ap (λ l. first_once (pins ++ flat_map (pins_of N) l)) (take_all i pins past) ∙ ap (λ l. first_once (l ++ flat_map (pins_of N) l)) same
