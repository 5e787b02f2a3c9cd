-- What holds of all moves of a list, and that the list holds each: the parts of the list of moves.
use Rattle.std.proofs.Common.{◌≡◌, ℕ, zero, suc, ◌+◌, ◌-◌, ◌<◌, ◌≤◌, Bool, true, cond, List, [], ◌∷◌, map, length, All, refl, ap, sym, subst, ◌∙◌, inl, inr, ◌⊎◌, arith}
use Rattle.std.specs.List.{Contains, filter, flat_map, range_with_len}
use Rattle.std.proofs.lemmas.Bool.{cond_both, cond-true}
use Rattle.std.proofs.lemmas.List.FromFn.{length-range_with_len, get_or-range_with_len}
use Rattle.std.proofs.lemmas.List.Elements.{All-nil, All-cons, All-append, All-map, All-from_get_or, Contains-append_left, Contains-append_right}
use Rattle.semantics.specs.declared.mark.Mark.{Mark}
use Rattle.semantics.specs.Net.{is_literal}
use Rattle.chain_semantics.specs.declared.moves.Move.{Move}
use Rattle.chain_semantics.specs.declared.moves.Move.TheVariants.{DropLiteral}
use Rattle.chain_semantics.specs.Moves.{literal_pins, literal_moves, row_at}
use Rattle.chain_semantics.specs.MoveLaws.{mark_at}

-- of a list that stands under a condition
pub All-when : {X : Type 0} (P : X → Type 0) (b : Bool) (xs : List X) → (b ≡ true → All P xs) → All P (cond b xs [])
All-when P b xs f = cond_both b xs [] (All P) f (λ e. All-nil P)

pub All-range : (P : ℕ → Type 0) (a n : ℕ) → ((r : ℕ) → r < a + n → P r) → All P (range_with_len a n)
All-range P a n f =
    All-from_get_or P (range_with_len a n) 0
    (λ i low. let within : i < n = omega (arith, length-range_with_len a n) in rw (get_or-range_with_len a n i 0 within) (f (a + i) (omega arith)))

pub All-filtered : {X : Type 0} (P : X → Type 0) (test : X → Bool) (xs : List X) → All (λ x. test x ≡ true → P x) xs → All P (filter test xs)
All-filtered P test [] h = All-nil P
All-filtered P test (x ∷ xs) h =
    cond_both (test x) (x ∷ filter test xs) (filter test xs) (All P)
    (λ e. All-cons P x (filter test xs) (h 0 x (omega arith) e) (All-filtered P test xs (λ k d low. h (suc k) d (omega arith))))
    (λ e. All-filtered P test xs (λ k d low. h (suc k) d (omega arith)))

pub All-flat_map : {X Y : Type 0} (P : Y → Type 0) (f : X → List Y) (xs : List X) → All (λ x. All P (f x)) xs → All P (flat_map f xs)
All-flat_map P f [] h = All-nil P
All-flat_map P f (x ∷ xs) h = All-append P (f x) (flat_map f xs) (h 0 x (omega arith)) (All-flat_map P f xs (λ k d low. h (suc k) d (omega arith)))

pub All-literal_pins : (P : ℕ → Type 0) (p : ℕ) (marks : List Mark) → ((k : ℕ) → is_literal (mark_at marks k) ≡ true → P (p + k)) → All P (literal_pins p marks)
All-literal_pins P p [] f = All-nil P
All-literal_pins P p (m ∷ marks) f =
    let rest : All P (literal_pins (p + 1) marks) =
    All-literal_pins P (p + 1) marks (λ k literal. let place : p + suc k ≡ (p + 1) + k = omega arith in subst P place (f (suc k) literal)) in
    cond_both (is_literal m) (p ∷ literal_pins (p + 1) marks) (literal_pins (p + 1) marks) (All P)
    (λ literal. let place : p + 0 ≡ p = omega arith in All-cons P p (literal_pins (p + 1) marks) (subst P place (f 0 literal)) rest)
    (λ e. rest)

pub All-literal_moves : (P : Move → Type 0) (t r : ℕ) (rows : List (List Mark)) → ((i k : ℕ) → i < length rows → is_literal (mark_at (row_at rows i) k) ≡ true → P (DropLiteral t (r + i) k))
    → All P (literal_moves t r rows)
All-literal_moves P t r [] f = All-nil P
All-literal_moves P t r (marks ∷ rows) f =
    All-append P (map (DropLiteral t r) (literal_pins 0 marks)) (literal_moves t (r + 1) rows)
    (All-map P (DropLiteral t r) (literal_pins 0 marks) (All-literal_pins (λ k. P (DropLiteral t r k)) 0 marks
    (λ k literal.
    let place : r + 0 ≡ r = omega arith in
    let pin : k ≡ 0 + k = omega arith in
    subst (λ q. P (DropLiteral t r q)) pin (subst (λ q. P (DropLiteral t q k)) place (f 0 k (omega arith) literal)))))
    (All-literal_moves P t (r + 1) rows
    (λ i k low literal. let place : r + suc i ≡ (r + 1) + i = omega arith in subst (λ q. P (DropLiteral t q k)) place (f (suc i) k (omega arith) literal)))

pub Contains-when : {X : Type 0} (b : Bool) (xs : List X) (x : X) → b ≡ true → Contains xs x → Contains (cond b xs []) x
Contains-when b xs x e c = rw (cond-true b xs [] e) c

pub Contains-here : {X : Type 0} (x : X) (xs : List X) → Contains (x ∷ xs) x
Contains-here x xs = (0, omega arith, refl)

pub Contains-later : {X : Type 0} (y : X) (xs : List X) (x : X) → Contains xs x → Contains (y ∷ xs) x
Contains-later y xs x c = (suc c.0, omega (arith, c.1), c.2)

pub Contains-cases : {X : Type 0} (y : X) (xs : List X) (x : X) → Contains (y ∷ xs) x → (y ≡ x) ⊎ Contains xs x
Contains-cases y xs x (zero, low, is) = inl is
Contains-cases y xs x (suc k, low, is) = inr (k, omega arith, is)

pub Contains-range : (a n r : ℕ) → a ≤ r → r < a + n → Contains (range_with_len a n) r
Contains-range a n r past low =
    (r - a, omega (arith, length-range_with_len a n), get_or-range_with_len a n (r - a) r (omega arith) ∙ omega arith)

pub Contains-map : {X Y : Type 0} (f : X → Y) (xs : List X) (x : X) → Contains xs x → Contains (map f xs) (f x)
Contains-map f [] x c = absurd (omega (arith, c.1))
Contains-map f (y ∷ xs) x c =
    elim (Contains-cases y xs x c) [
      | inl e ↦ (0, omega arith, ap f e)
      | inr later ↦ Contains-later (f y) (map f xs) (f x) (Contains-map f xs x later)
    ]

pub Contains-filter : {X : Type 0} (test : X → Bool) (xs : List X) (x : X) → test x ≡ true → Contains xs x → Contains (filter test xs) x
Contains-filter test [] x passes c = absurd (omega (arith, c.1))
Contains-filter test (y ∷ xs) x passes c =
    elim (Contains-cases y xs x c) [
      | inl e ↦ rw (cond-true (test y) (y ∷ filter test xs) (filter test xs) (ap test e ∙ passes)) (0, omega arith, e)
      | inr later ↦
          cond_both (test y) (y ∷ filter test xs) (filter test xs) (λ l. Contains l x)
          (λ keeps. Contains-later y (filter test xs) x (Contains-filter test xs x passes later)) (λ drops. Contains-filter test xs x passes later)
    ]

pub Contains-flat_map : {X Y : Type 0} (f : X → List Y) (xs : List X) (x : X) (y : Y) → Contains xs x → Contains (f x) y → Contains (flat_map f xs) y
Contains-flat_map f [] x y c d = absurd (omega (arith, c.1))
Contains-flat_map f (z ∷ xs) x y c d =
    elim (Contains-cases z xs x c) [
      | inl e ↦ Contains-append_left (f z) (flat_map f xs) y (subst (λ w. Contains (f w) y) (sym e) d)
      | inr later ↦ Contains-append_right (f z) (flat_map f xs) y (Contains-flat_map f xs x y later d)
    ]

no_literal : (k : ℕ) → is_literal (mark_at [] k) ≡ true → ⊥
no_literal k e = cc

pub Contains-literal_pins : (p : ℕ) (marks : List Mark) (k : ℕ) → is_literal (mark_at marks k) ≡ true → Contains (literal_pins p marks) (p + k)
Contains-literal_pins p [] k literal = absurd (no_literal k literal)
Contains-literal_pins p (m ∷ marks) zero literal =
    let place : p ≡ p + 0 = omega arith in
    rw (cond-true (is_literal m) (p ∷ literal_pins (p + 1) marks) (literal_pins (p + 1) marks) literal) (0, omega arith, place)
Contains-literal_pins p (m ∷ marks) (suc k) literal =
    let place : (p + 1) + k ≡ p + suc k = omega arith in
    let rest : Contains (literal_pins (p + 1) marks) (p + suc k) = subst (Contains (literal_pins (p + 1) marks)) place (Contains-literal_pins (p + 1) marks k literal) in
    cond_both (is_literal m) (p ∷ literal_pins (p + 1) marks) (literal_pins (p + 1) marks) (λ l. Contains l (p + suc k))
    (λ keeps. Contains-later p (literal_pins (p + 1) marks) (p + suc k) rest) (λ drops. rest)

pub Contains-literal_moves : (t r : ℕ) (rows : List (List Mark)) (i k : ℕ) → i < length rows → is_literal (mark_at (row_at rows i) k) ≡ true
    → Contains (literal_moves t r rows) (DropLiteral t (r + i) k)
Contains-literal_moves t r [] i k low literal = absurd (omega arith)
Contains-literal_moves t r (marks ∷ rows) zero k low literal =
    let place : r ≡ r + 0 = omega arith in
    let pin : 0 + k ≡ k = omega arith in
    Contains-append_left (map (DropLiteral t r) (literal_pins 0 marks)) (literal_moves t (r + 1) rows) (DropLiteral t (r + 0) k)
    (subst (λ q. Contains (map (DropLiteral t r) (literal_pins 0 marks)) (DropLiteral t q k)) place
    (Contains-map (DropLiteral t r) (literal_pins 0 marks) k (subst (Contains (literal_pins 0 marks)) pin (Contains-literal_pins 0 marks k literal))))
Contains-literal_moves t r (marks ∷ rows) (suc i) k low literal =
    let place : (r + 1) + i ≡ r + suc i = omega arith in
    Contains-append_right (map (DropLiteral t r) (literal_pins 0 marks)) (literal_moves t (r + 1) rows) (DropLiteral t (r + suc i) k)
    (subst (λ q. Contains (literal_moves t (r + 1) rows) (DropLiteral t q k)) place (Contains-literal_moves t (r + 1) rows i k (omega arith) literal))
