-- Members of lists, by recursion.
use Rattle.std.proofs.Common.{◌≡◌, ◌⊎◌, ℕ, Bool, true, false, ◌&&◌, ◌||◌, cond, List, [], ◌∷◌, ◌++◌, map, filter, find, bytes_eq, Some, None, refl, ap, sym, subst, ◌∙◌, inl, inr}
use Rattle.std.specs.List.{AllByRecursion, list_all}
use Rattle.std.proofs.lemmas.Bool.{false≢true}
use Rattle.std.proofs.lemmas.Option.{none-some, same_Some}
use Rattle.std.proofs.lemmas.Slice.Eq.{bytes_eq-Decides}
use Rattle.semantics.specs.Texts.{Bytes}
use Rattle.semantics.specs.Refusals.{has_name, first_doubled_after}
use Rattle.semantics.proofs.FirstFound.{none_if}

abbrev pub IsIn : {X : Type 0} → X → List X → Type 0
IsIn y [] = ⊥
IsIn y (x ∷ xs) = (x ≡ y) ⊎ IsIn y xs

pub in_left : {X : Type 0} (y : X) (xs ys : List X) → IsIn y xs → IsIn y (xs ++ ys)
in_left y [] ys h = absurd h
in_left y (x ∷ xs) ys (inl e) = inl e
in_left y (x ∷ xs) ys (inr h) = inr (in_left y xs ys h)

pub in_right : {X : Type 0} (y : X) (xs ys : List X) → IsIn y ys → IsIn y (xs ++ ys)
in_right y [] ys h = h
in_right y (x ∷ xs) ys h = inr (in_right y xs ys h)

pub in_append : {X : Type 0} (y : X) (xs ys : List X) → IsIn y (xs ++ ys) → IsIn y xs ⊎ IsIn y ys
in_append y [] ys h = inr h
in_append y (x ∷ xs) ys (inl e) = inl (inl e)
in_append y (x ∷ xs) ys (inr h) = elim (in_append y xs ys h) [ inl l ↦ inl (inr l) | inr r ↦ inr r ]

pub in_map : {X Y : Type 0} (f : X → Y) (x : X) (xs : List X) → IsIn x xs → IsIn (f x) (map f xs)
in_map f x [] h = absurd h
in_map f x (z ∷ xs) (inl e) = inl (ap f e)
in_map f x (z ∷ xs) (inr h) = inr (in_map f x xs h)

pub record IsFrom {X Y : Type 0} (f : X → Y) (xs : List X) (y : Y) : Type 0 where
  pub from : X
  pub inside : IsIn from xs
  pub is : f from ≡ y

pub from_map : {X Y : Type 0} (f : X → Y) (y : Y) (xs : List X) → IsIn y (map f xs) → IsFrom f xs y
from_map f y [] h = absurd h
from_map f y (z ∷ xs) (inl e) = record { from = z; inside = inl refl; is = e }
from_map f y (z ∷ xs) (inr h) = let rest = from_map f y xs h in record { from = rest.from; inside = inr rest.inside; is = rest.is }

pub in_filter : {X : Type 0} (p : X → Bool) (x : X) (xs : List X) → IsIn x xs → p x ≡ true → IsIn x (filter p xs)
in_filter p x [] h t = absurd h
in_filter p x (z ∷ xs) (inl e) t = rw (ap p e ∙ t) (inl e)
in_filter p x (z ∷ xs) (inr h) t = at_test (p z) (in_filter p x xs h t)
  where
    at_test : (b : Bool) → IsIn x (filter p xs) → IsIn x (cond b (z ∷ filter p xs) (filter p xs))
    at_test true rest = inr rest
    at_test false rest = rest

pub from_filter : {X : Type 0} (p : X → Bool) (x : X) (xs : List X) → IsIn x (filter p xs) → IsIn x xs × (p x ≡ true)
from_filter p x [] h = absurd h
from_filter p x (z ∷ xs) h = at_test (p z) refl h (from_filter p x xs)
  where
    at_test : (b : Bool) → p z ≡ b → IsIn x (cond b (z ∷ filter p xs) (filter p xs)) → (IsIn x (filter p xs) → IsIn x xs × (p x ≡ true)) → IsIn x (z ∷ xs) × (p x ≡ true)
    at_test true is (inl e) others = (inl e, ap p (sym e) ∙ is)
    at_test true is (inr rest) others = let found = others rest in (inr found.0, found.1)
    at_test false is rest others = let found = others rest in (inr found.0, found.1)

pub found_in : {X : Type 0} (p : X → Bool) (x : X) (xs : List X) → find p xs ≡ Some x → IsIn x xs × (p x ≡ true)
found_in p x [] h = absurd (none-some x h)
found_in p x (z ∷ xs) h = at_test (p z) refl h (found_in p x xs)
  where
    at_test : (b : Bool) → p z ≡ b → cond b (Some z) (find p xs) ≡ Some x → (find p xs ≡ Some x → IsIn x xs × (p x ≡ true)) → IsIn x (z ∷ xs) × (p x ≡ true)
    at_test true is e others = let same = same_Some z x e in (inl same, ap p (sym same) ∙ is)
    at_test false is e others = let found = others e in (inr found.0, found.1)

pub find_there : {X : Type 0} (p : X → Bool) (x : X) (xs : List X) → IsIn x xs → p x ≡ true → (y : X) × (find p xs ≡ Some y)
find_there p x [] h t = absurd h
find_there p x (z ∷ xs) (inl e) t = (z, rw (ap p e ∙ t) refl)
find_there p x (z ∷ xs) (inr h) t = at_test (p z) (find_there p x xs h t)
  where
    at_test : (b : Bool) → (y : _) × (find p xs ≡ Some y) → (y : _) × (cond b (Some z) (find p xs) ≡ Some y)
    at_test true rest = (z, refl)
    at_test false rest = rest

pub none_found : {X : Type 0} (p : X → Bool) (x : X) (xs : List X) → find p xs ≡ None → IsIn x xs → p x ≡ false
none_found p x [] e h = absurd h
none_found p x (z ∷ xs) e (inl is) = ap p (sym is) ∙ (none_if (p z) z (find p xs) e).0
none_found p x (z ∷ xs) e (inr h) = none_found p x xs (none_if (p z) z (find p xs) e).1 h

pub all_in : {X : Type 0} (P : X → Type 0) (x : X) (xs : List X) → AllByRecursion P xs → IsIn x xs → P x
all_in P x [] all h = absurd h
all_in P x (z ∷ xs) all (inl e) = subst P e all.0
all_in P x (z ∷ xs) all (inr h) = all_in P x xs all.1 h

pub each_in : {X : Type 0} (P : X → Type 0) (xs : List X) → ((x : X) → IsIn x xs → P x) → AllByRecursion P xs
each_in P [] f = tt
each_in P (z ∷ xs) f = (f z (inl refl), each_in P xs (λ x h. f x (inr h)))

pub passed_in : {X : Type 0} (p : X → Bool) (x : X) (xs : List X) → list_all p xs ≡ true → IsIn x xs → p x ≡ true
passed_in p x [] e h = absurd h
passed_in p x (z ∷ xs) e h = at_test (p z) refl e h (passed_in p x xs)
  where
    at_test : (b : Bool) → p z ≡ b → b && list_all p xs ≡ true → IsIn x (z ∷ xs) → (list_all p xs ≡ true → IsIn x xs → p x ≡ true) → p x ≡ true
    at_test true is e (inl same) others = ap p (sym same) ∙ is
    at_test true is e (inr h) others = others e h
    at_test false is e h others = absurd (false≢true e)

pub same_bytes : (a b : List ℕ) → bytes_eq a b ≡ true → a ≡ b
same_bytes a b = (bytes_eq-Decides a b).0

pub equal_bytes : (a b : List ℕ) → a ≡ b → bytes_eq a b ≡ true
equal_bytes a b = (bytes_eq-Decides a b).1

-- ---- names

pub named_in : (names : List Bytes) (word : Bytes) → has_name names word ≡ true → IsIn word names
named_in [] word e = absurd (false≢true e)
named_in (name ∷ names) word e = at_test (bytes_eq word name) refl e (named_in names word)
  where
    at_test : (b : Bool) → bytes_eq word name ≡ b → b || has_name names word ≡ true → (has_name names word ≡ true → IsIn word names) → IsIn word (name ∷ names)
    at_test true is e others = inl (sym (same_bytes word name is))
    at_test false is e others = inr (others e)

pub in_named : (names : List Bytes) (word : Bytes) → IsIn word names → has_name names word ≡ true
in_named [] word h = absurd h
in_named (name ∷ names) word (inl e) = rw (equal_bytes word name (sym e)) refl
in_named (name ∷ names) word (inr h) = at_test (bytes_eq word name) (in_named names word h)
  where
    at_test : (b : Bool) → has_name names word ≡ true → b || has_name names word ≡ true
    at_test true e = refl
    at_test false e = e

-- where no name is doubled, none stands before
pub not_before : (earlier names : List Bytes) (name : Bytes) → first_doubled_after earlier names ≡ None → IsIn name names → IsIn name earlier → ⊥
not_before earlier [] name e h old = h
not_before earlier (n ∷ names) name e (inl is) old =
    false≢true (sym (none_if (has_name earlier n) n (first_doubled_after (earlier ++ n ∷ []) names) e).0 ∙ in_named earlier n (subst (λ m. IsIn m earlier) (sym is) old))
not_before earlier (n ∷ names) name e (inr h) old =
    not_before (earlier ++ n ∷ []) names name (none_if (has_name earlier n) n (first_doubled_after (earlier ++ n ∷ []) names) e).1 h (in_left name earlier (n ∷ []) old)

-- and things of one name are one
pub one_of_name : {X : Type 0} (name : X → Bytes) (earlier : List Bytes) (xs : List X) (x y : X) → first_doubled_after earlier (map name xs) ≡ None → IsIn x xs → IsIn y xs → name x ≡ name y → x ≡ y
one_of_name name earlier [] x y e hx hy same = absurd hx
one_of_name name earlier (z ∷ xs) x y e (inl ex) (inl ey) same = sym ex ∙ ey
one_of_name name earlier (z ∷ xs) x y e (inl ex) (inr hy) same =
    absurd (not_before (earlier ++ name z ∷ []) (map name xs) (name y) (none_if (has_name earlier (name z)) (name z) (first_doubled_after (earlier ++ name z ∷ []) (map name xs)) e).1
    (in_map name y xs hy)
    (in_right (name y) earlier (name z ∷ []) (inl (ap name ex ∙ same))))
one_of_name name earlier (z ∷ xs) x y e (inr hx) (inl ey) same =
    absurd (not_before (earlier ++ name z ∷ []) (map name xs) (name x) (none_if (has_name earlier (name z)) (name z) (first_doubled_after (earlier ++ name z ∷ []) (map name xs)) e).1
    (in_map name x xs hx)
    (in_right (name x) earlier (name z ∷ []) (inl (ap name ey ∙ sym same))))
one_of_name name earlier (z ∷ xs) x y e (inr hx) (inr hy) same =
    one_of_name name (earlier ++ name z ∷ []) xs x y (none_if (has_name earlier (name z)) (name z) (first_doubled_after (earlier ++ name z ∷ []) (map name xs)) e).1 hx hy same
