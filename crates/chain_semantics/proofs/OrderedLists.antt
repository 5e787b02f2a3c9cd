-- Lists each of whose elements is before all later ones: parts joined, and one list for given members.
use Rattle.std.proofs.Common.{◌≡◌, ◌↔◌, ℕ, suc, ◌<◌, Bool, cond, List, [], ◌∷◌, ◌++◌, map, get_or, All, refl, ap, sym, subst, ◌∙◌, inl, inr, arith}
use Rattle.std.specs.Prelude.{AllPairs}
use Rattle.std.specs.List.{Contains, flat_map, range_with_len}
use Rattle.std.proofs.lemmas.Bool.{cond_both}
use Rattle.std.proofs.lemmas.List.FromFn.{length-range_with_len, get_or-range_with_len}
use Rattle.std.proofs.lemmas.List.Elements.{All-append, All-map, All-weaker, All-contains}
use Rattle.std.proofs.lemmas.List.Kept.{AllPairs-cons}
use Rattle.chain_semantics.proofs.MoveLists.{All-flat_map, Contains-here, Contains-later, Contains-cases}

pub AllPairs-nil : {X : Type 0} (R : X → X → Type 0) → AllPairs R []
AllPairs-nil R i j d before low = absurd (omega arith)

pub AllPairs-one : {X : Type 0} (R : X → X → Type 0) (x : X) → AllPairs R (x ∷ [])
AllPairs-one R x i j d before low = absurd (omega arith)

pub AllPairs-head : {X : Type 0} (R : X → X → Type 0) (x : X) (xs : List X) → AllPairs R (x ∷ xs) → All (R x) xs
AllPairs-head R x xs h k d low = h 0 (suc k) d (omega arith) (omega arith)

pub AllPairs-tail : {X : Type 0} (R : X → X → Type 0) (x : X) (xs : List X) → AllPairs R (x ∷ xs) → AllPairs R xs
AllPairs-tail R x xs h i j d before low = h (suc i) (suc j) d (omega arith) (omega arith)

-- what is before each element of one list and each of another is before each of both
pub AllPairs-append : {X : Type 0} (R : X → X → Type 0) (xs ys : List X) → AllPairs R xs → AllPairs R ys → All (λ x. All (R x) ys) xs → AllPairs R (xs ++ ys)
AllPairs-append R [] ys left right cross = right
AllPairs-append R (x ∷ xs) ys left right cross =
    AllPairs-cons R x (xs ++ ys) (All-append (R x) xs ys (AllPairs-head R x xs left) (cross 0 x (omega arith)))
    (AllPairs-append R xs ys (AllPairs-tail R x xs left) right (λ k d low. cross (suc k) d (omega arith)))

pub AllPairs-when : {X : Type 0} (R : X → X → Type 0) (b : Bool) (xs : List X) → AllPairs R xs → AllPairs R (cond b xs [])
AllPairs-when R b xs h = cond_both b xs [] (AllPairs R) (λ e. h) (λ e. AllPairs-nil R)

pub AllPairs-map : {X Y : Type 0} (R : X → X → Type 0) (S : Y → Y → Type 0) (f : X → Y) → ((x y : X) → R x y → S (f x) (f y)) → (xs : List X) → AllPairs R xs → AllPairs S (map f xs)
AllPairs-map R S f keeps [] h = AllPairs-nil S
AllPairs-map R S f keeps (x ∷ xs) h =
    AllPairs-cons S (f x) (map f xs)
    (All-map (S (f x)) f xs (All-weaker (R x) (λ y. S (f x) (f y)) (λ y r. keeps x y r) xs (AllPairs-head R x xs h)))
    (AllPairs-map R S f keeps xs (AllPairs-tail R x xs h))

pub AllPairs-flat_map : {X Y : Type 0} (R : X → X → Type 0) (S : Y → Y → Type 0) (f : X → List Y) → ((x : X) → AllPairs S (f x))
    → ((x y : X) → R x y → All (λ a. All (S a) (f y)) (f x)) → (xs : List X) → AllPairs R xs → AllPairs S (flat_map f xs)
AllPairs-flat_map R S f each apart [] h = AllPairs-nil S
AllPairs-flat_map R S f each apart (x ∷ xs) h =
    AllPairs-append S (f x) (flat_map f xs) (each x) (AllPairs-flat_map R S f each apart xs (AllPairs-tail R x xs h))
    (λ k d low. All-flat_map (S (get_or (f x) k d)) f xs (λ i e within. apart x (get_or xs i e) (AllPairs-head R x xs h i e within) k d low))

pub AllPairs-range : (a n : ℕ) → AllPairs ◌<◌ (range_with_len a n)
AllPairs-range a n i j d before low =
    let within : j < n = omega (arith, length-range_with_len a n) in
    omega (arith, get_or-range_with_len a n i d (omega (arith, before, within)), get_or-range_with_len a n j d within)

-- ---- one list for given members, where nothing is before what is before it

module _ {X : Type 0} (R : X → X → Type 0) (asymmetric : (x y : X) → R x y → ¬ R y x) where
  not_later : (x : X) (xs : List X) → AllPairs R (x ∷ xs) → ¬ Contains xs x
  not_later x xs h c = let itself : R x x = All-contains (R x) xs x (AllPairs-head R x xs h) c in asymmetric x x itself itself

  heads_agree : (x y : X) (xs ys : List X) → AllPairs R (x ∷ xs) → AllPairs R (y ∷ ys) → Contains (y ∷ ys) x → Contains (x ∷ xs) y → x ≡ y
  heads_agree x y xs ys h k c d =
      elim (Contains-cases y ys x c) [
        | inl e ↦ sym e
        | inr late ↦ elim (Contains-cases x xs y d) [
          | inl e ↦ e
          | inr later ↦ absurd (asymmetric x y (All-contains (R x) xs y (AllPairs-head R x xs h) later) (All-contains (R y) ys x (AllPairs-head R y ys k) late))
        ]
      ]

  abbrev SameMembers : List X → List X → Type 0
  SameMembers xs ys = (z : X) → Contains xs z ↔ Contains ys z

  tail_within : (x : X) (xs ys : List X) → AllPairs R (x ∷ xs) → ((z : X) → Contains (x ∷ xs) z → Contains (x ∷ ys) z) → (z : X) → Contains xs z → Contains ys z
  tail_within x xs ys h f z c =
      elim (Contains-cases x ys z (f z (Contains-later x xs z c))) [
        | inl e ↦ absurd (not_later x xs h (subst (Contains xs) (sym e) c))
        | inr later ↦ later
      ]

  pub one_list : (xs ys : List X) → AllPairs R xs → AllPairs R ys → SameMembers xs ys → xs ≡ ys
  one_list [] [] h k same = refl
  one_list [] (y ∷ ys) h k same = absurd (let c = (same y).1 (Contains-here y ys) in omega (arith, c.1))
  one_list (x ∷ xs) [] h k same = absurd (let c = (same x).0 (Contains-here x xs) in omega (arith, c.1))
  one_list (x ∷ xs) (y ∷ ys) h k same =
      let first : x ≡ y = heads_agree x y xs ys h k ((same x).0 (Contains-here x xs)) ((same y).1 (Contains-here y ys)) in
      ap (λ z. z ∷ xs) first
      ∙ ap (λ l. y ∷ l) (one_list xs ys (AllPairs-tail R x xs h) (AllPairs-tail R y ys k)
      (λ z. (
        tail_within x xs ys h (λ w c. subst (λ u. Contains (u ∷ ys) w) (sym first) ((same w).0 c)) z,
        tail_within x ys xs (subst (λ u. AllPairs R (u ∷ ys)) (sym first) k) (λ w c. (same w).1 (subst (λ u. Contains (u ∷ ys) w) first c)) z,
      )))
