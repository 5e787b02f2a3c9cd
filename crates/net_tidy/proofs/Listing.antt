-- Lists of the places that read each signal.
use Rattle.std.proofs.Common.{◌≡◌, ℕ, zero, suc, ◌<◌, Bool, true, false, ◌||◌, eqb, List, [], ◌∷◌, ◌++◌, length, get_or, set, refl, ap, sym, ◌∙◌, inl, inr, arith}
use Rattle.std.proofs.lemmas.Bool.{cases_eq, false≢true}
use Rattle.std.proofs.lemmas.List.{get_or-set_same, get_or-set_other, length-set, get_or_read}
use Rattle.std.proofs.lemmas.List.Folds.{list_any-append}
use Rattle.chain_semantics.specs.TidyRules.{has}
use Rattle.net_tidy.specs.Readers.{list_at, IsWider}

or_left : (a b : Bool) → a ≡ true → (a || b) ≡ true
or_left true b e = refl
or_left false b e = absurd (false≢true e)

or_right : (a b : Bool) → b ≡ true → (a || b) ≡ true
or_right true b e = refl
or_right false b e = e

pub has-left : (xs ys : List ℕ) (j : ℕ) → has xs j ≡ true → has (xs ++ ys) j ≡ true
has-left xs ys j e = list_any-append (λ p. eqb j p) xs ys ∙ or_left (has xs j) (has ys j) e

pub has-right : (xs ys : List ℕ) (j : ℕ) → has ys j ≡ true → has (xs ++ ys) j ≡ true
has-right xs ys j e = list_any-append (λ p. eqb j p) xs ys ∙ or_right (has xs j) (has ys j) e

-- one list in the place of another
pub wider_set : (lists : List (List ℕ)) (s : ℕ) (new : List ℕ) → s < length lists → ((j : ℕ) → has (list_at lists s) j ≡ true → has new j ≡ true) → IsWider lists (set lists s new)
wider_set lists s new h f = record {
  keeps = λ u j e. elim (cases_eq u s) [
    | inl same ↦
        ap (λ l. has l j) (ap (λ k. get_or (set lists s new) k []) same ∙ get_or-set_same lists s new [] h) ∙ f j (ap (λ k. has (list_at lists k) j) (sym same) ∙ e)
    | inr other ↦ ap (λ l. has l j) (get_or-set_other lists s u new [] other) ∙ e
  ];
}

restored : {X : Type 0} (xs : List X) (i : ℕ) (y d : X) → i < length xs → set (set xs i y) i (get_or xs i d) ≡ xs
restored [] i y d h = absurd (omega arith)
restored (x ∷ xs) zero y d h = refl
restored (x ∷ xs) (suc i) y d h = ap (λ l. x ∷ l) (restored xs i y d (omega arith))

set_own : {X : Type 0} (xs : List X) (i : ℕ) (d : X) → i < length xs → set xs i (get_or xs i d) ≡ xs
set_own [] i d h = absurd (omega arith)
set_own (x ∷ xs) zero d h = refl
set_own (x ∷ xs) (suc i) d h = ap (λ l. x ∷ l) (set_own xs i d (omega arith))

-- a list is taken out, added to another and put back
pub shared : (lists : List (List ℕ)) (f t : ℕ) → (f ≡ t → ⊥) → f < length lists → t < length lists
    → set (set (set lists f []) t (get_or (set lists f []) t [] ++ get_or lists f [])) f (get_or lists f []) ≡ set lists t (get_or lists t [] ++ get_or lists f [])
shared [] f t ne h k = absurd (omega arith)
shared (x ∷ lists) zero zero ne h k = absurd (ne refl)
shared (x ∷ lists) zero (suc t) ne h k = refl
shared (x ∷ lists) (suc f) zero ne h k = ap (λ l. (x ++ get_or lists f []) ∷ l) (restored lists f [] [] (omega arith))
shared (x ∷ lists) (suc f) (suc t) ne h k = ap (λ l. x ∷ l) (shared lists f t (λ e. ne (ap suc e)) (omega arith) (omega arith))

pub put_back : (lists : List (List ℕ)) (f t : ℕ) → (f ≡ t → ⊥) → f < length lists → t < length lists
    → set (set (set lists f []) t (get_or (set lists f []) t [])) f (get_or lists f []) ≡ lists
put_back lists f t ne h k =
    ap (λ l. set l f (get_or lists f [])) (set_own (set lists f []) t [] (omega (arith, length-set lists f [])))
    ∙ restored lists f [] [] h

-- the lists after `share`, by the terms of the code
pub share_done : (first lists : List (List ℕ)) (f t : ℕ) (dest m k taken places new : List ℕ) → (f ≡ t → ⊥) → f < length first → t < length first → lists ≡ first → dest ≡ []
    → m ≡ get_or lists f m → taken ≡ m → k ≡ get_or (set lists f dest) t k → places ≡ taken → new ≡ k ++ places
    → set (set (set lists f dest) t new) f taken ≡ set first t (list_at first t ++ list_at first f)
share_done first lists f t dest m k taken places new ne h l same none at is there own made =
    let one : m ≡ get_or first f [] = get_or_read lists f m (omega (arith, h, ap length same)) at [] ∙ ap (λ ls. get_or ls f []) same in
    let bare : set lists f dest ≡ set first f [] = cc in
    let two : k ≡ get_or (set first f []) t [] =
    get_or_read (set lists f dest) t k (omega (arith, l, length-set first f [], ap length bare)) there [] ∙ ap (λ ls. get_or ls t []) bare in
    let all : set (set (set lists f dest) t new) f taken ≡ set (set (set first f []) t (get_or (set first f []) t [] ++ get_or first f [])) f (get_or first f []) = cc in
    all ∙ shared first f t ne h l

pub share_failed : (first lists : List (List ℕ)) (f t : ℕ) (dest m k taken new : List ℕ) → (f ≡ t → ⊥) → f < length first → t < length first → lists ≡ first → dest ≡ []
    → m ≡ get_or lists f m → taken ≡ m → k ≡ get_or (set lists f dest) t k → new ≡ k → set (set (set lists f dest) t new) f taken ≡ first
share_failed first lists f t dest m k taken new ne h l same none at is there made =
    let one : m ≡ get_or first f [] = get_or_read lists f m (omega (arith, h, ap length same)) at [] ∙ ap (λ ls. get_or ls f []) same in
    let bare : set lists f dest ≡ set first f [] = cc in
    let two : k ≡ get_or (set first f []) t [] =
    get_or_read (set lists f dest) t k (omega (arith, l, length-set first f [], ap length bare)) there [] ∙ ap (λ ls. get_or ls t []) bare in
    let all : set (set (set lists f dest) t new) f taken ≡ set (set (set first f []) t (get_or (set first f []) t [])) f (get_or first f []) = cc in
    all ∙ put_back first f t ne h l
