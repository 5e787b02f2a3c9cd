-- Members of lists: one further, of a filter, and that two rising lists with the same members are one.
use Rattle.std.proofs.Common.{◌≡◌, ℕ, zero, suc, ◌<◌, Bool, true, false, cond, List, [], ◌∷◌, get_or, refl, ap, subst, sym, ◌∙◌, arith, inl, inr}
use Rattle.std.specs.Prelude.{◌⊎◌, map, filter}
use Rattle.std.specs.List.{Contains, All, AllPairs}
use Rattle.std.proofs.lemmas.List.Elements.{Contains-get_or}

pub contains_first : {X : Type 0} (x : X) (xs : List X) → Contains (x ∷ xs) x
contains_first x xs = (0, omega arith, refl)

pub contains_later : {X : Type 0} (y : X) (xs : List X) (x : X) → Contains xs x → Contains (y ∷ xs) x
contains_later y xs x (k, within, e) = (suc k, omega (arith, within), e)

pub contains_cases : {X : Type 0} (y : X) (xs : List X) (x : X) → Contains (y ∷ xs) x → (y ≡ x) ⊎ Contains xs x
contains_cases y xs x (zero, within, e) = inl e
contains_cases y xs x (suc k, within, e) = inr (k, omega (arith, within), e)

pub contains_none : {X : Type 0} (x : X) → ¬ Contains [] x
contains_none x (k, within, e) = omega (arith, within)

pub all_contained : {X : Type 0} (P : X → Type 0) (xs : List X) → ((x : X) → Contains xs x → P x) → All P xs
all_contained P xs h = λ k d within. h (get_or xs k d) (Contains-get_or xs k d within)

-- ---- filters and maps

pub filter_contains : {X : Type 0} (p : X → Bool) (xs : List X) (x : X) → Contains xs x → p x ≡ true → Contains (filter p xs) x
filter_contains p [] x h e = absurd (contains_none x h)
filter_contains p (y ∷ xs) x h e = at_test (p y) refl (contains_cases y xs x h) (λ later. filter_contains p xs x later e) where
  at_test : (t : Bool) → p y ≡ t → (y ≡ x) ⊎ Contains xs x → (Contains xs x → Contains (filter p xs) x) → Contains (cond t (y ∷ filter p xs) (filter p xs)) x
  at_test true is (inl same) rest = subst (λ z. Contains (y ∷ filter p xs) z) same (contains_first y (filter p xs))
  at_test true is (inr later) rest = contains_later y (filter p xs) x (rest later)
  at_test false is (inl same) rest = let bad : false ≡ true = sym is ∙ ap p same ∙ e in cc
  at_test false is (inr later) rest = rest later

pub contains_filter : {X : Type 0} (p : X → Bool) (xs : List X) (x : X) → Contains (filter p xs) x → Contains xs x × (p x ≡ true)
contains_filter p [] x h = absurd (contains_none x h)
contains_filter p (y ∷ xs) x h = at_test (p y) refl h (contains_filter p xs x) where
  at_test : (t : Bool) → p y ≡ t → Contains (cond t (y ∷ filter p xs) (filter p xs)) x → (Contains (filter p xs) x → Contains xs x × (p x ≡ true))
      → Contains (y ∷ xs) x × (p x ≡ true)
  at_test true is m rest = elim (contains_cases y (filter p xs) x m) [
    | inl same ↦ (subst (λ z. Contains (y ∷ xs) z) same (contains_first y xs), sym (ap p same) ∙ is)
    | inr later ↦ (contains_later y xs x (rest later).0, (rest later).1)
  ]
  at_test false is m rest = (contains_later y xs x (rest m).0, (rest m).1)

pub map_contains : {X Y : Type 0} (f : X → Y) (xs : List X) (x : X) → Contains xs x → Contains (map f xs) (f x)
map_contains f [] x h = absurd (contains_none x h)
map_contains f (y ∷ xs) x h = elim (contains_cases y xs x h) [
  | inl same ↦ subst (λ z. Contains (f y ∷ map f xs) (f z)) same (contains_first (f y) (map f xs))
  | inr later ↦ contains_later (f y) (map f xs) (f x) (map_contains f xs x later)
]

pub contains_map : {X Y : Type 0} (f : X → Y) (xs : List X) (y : Y) → Contains (map f xs) y → (x : X) × Contains xs x × (f x ≡ y)
contains_map f [] y h = absurd (contains_none y h)
contains_map f (x ∷ xs) y h = elim (contains_cases (f x) (map f xs) y h) [
  | inl same ↦ (x, contains_first x xs, same)
  | inr later ↦ let found = contains_map f xs y later in (found.0, contains_later x xs found.0 found.1, found.2)
]

-- ---- rising lists

pub pairs_head : {X : Type 0} (R : X → X → Type 0) (x : X) (xs : List X) → AllPairs R (x ∷ xs) → (z : X) → Contains xs z → R x z
pairs_head R x xs h z (k, within, e) = subst (R x) e (h 0 (suc k) z (omega arith) (omega (arith, within)))

pub pairs_tail : {X : Type 0} (R : X → X → Type 0) (x : X) (xs : List X) → AllPairs R (x ∷ xs) → AllPairs R xs
pairs_tail R x xs h = λ i j d low within. h (suc i) (suc j) d (omega (arith, low)) (omega (arith, within))

abbrev pub Rises : {X : Type 0} → (X → ℕ) → List X → Type 0
Rises key xs = AllPairs (λ a b. key a < key b) xs

same_head : {X : Type 0} (key : X → ℕ) (x y : X) (xs ys : List X) → Rises key (x ∷ xs) → Rises key (y ∷ ys) → Contains (y ∷ ys) x → Contains (x ∷ xs) y → x ≡ y
same_head key x y xs ys hx hy there back = elim (contains_cases y ys x there) [
  | inl same ↦ sym same
  | inr later ↦ elim (contains_cases x xs y back) [
    | inl same ↦ same
    | inr behind ↦
        let one = pairs_head (λ a b. key a < key b) y ys hy x later in
        let two = pairs_head (λ a b. key a < key b) x xs hx y behind in
        absurd (omega (arith, one, two))
  ]
]

same_tail : {X : Type 0} (key : X → ℕ) (x y : X) (xs ys : List X) → x ≡ y → Rises key (x ∷ xs) → ((z : X) → Contains (x ∷ xs) z → Contains (y ∷ ys) z) → (z : X) → Contains xs z → Contains ys z
same_tail key x y xs ys e hx there z m = elim (contains_cases y ys z (there z (contains_later x xs z m))) [
  | inl same ↦
      let low = pairs_head (λ a b. key a < key b) x xs hx z m in
      let equal : key x ≡ key z = ap key (e ∙ same) in
      absurd (omega (arith, low, equal))
  | inr later ↦ later
]

-- two rising lists with the same members are one
pub same_list : {X : Type 0} (key : X → ℕ) (xs ys : List X) → Rises key xs → Rises key ys → ((z : X) → Contains xs z → Contains ys z) → ((z : X) → Contains ys z → Contains xs z) → xs ≡ ys
same_list key [] [] hx hy there back = refl
same_list key [] (y ∷ ys) hx hy there back = absurd (contains_none y (back y (contains_first y ys)))
same_list key (x ∷ xs) [] hx hy there back = absurd (contains_none x (there x (contains_first x xs)))
same_list key (x ∷ xs) (y ∷ ys) hx hy there back =
    let e : x ≡ y = same_head key x y xs ys hx hy (there x (contains_first x xs)) (back y (contains_first y ys)) in
    let rest : xs ≡ ys =
    same_list key xs ys (pairs_tail (λ a b. key a < key b) x xs hx) (pairs_tail (λ a b. key a < key b) y ys hy) (same_tail key x y xs ys e hx there) (same_tail key y x ys xs (sym e) hy back) in
    cc
