-- Tables that are all edited: sums, pins, and which steps ground them.
use Rattle.std.proofs.Common.{◌≡◌, ℕ, zero, suc, ◌+◌, ◌-◌, ◌<◌, ◌≤◌, List, [], ◌∷◌, map, length, get_or, take, drop, ap, sym, subst, ◌∙◌, inl, inr, arith}
use Rattle.std.specs.Prelude.{All, Contains}
use Rattle.std.specs.List.{sum_by, AllByRecursion, remove}
use Rattle.std.proofs.lemmas.Bool.{cases_lt}
use Rattle.std.proofs.lemmas.List.{length-map, get_or-map, map-append, take-map, drop-map}
use Rattle.std.proofs.lemmas.List.Elements.{All-weaker, All-from_get_or, All-from_recursion, recursion_from_All, Contains-get_or}
use Rattle.std.proofs.lemmas.List.Sums.{sum_by-cons}
use Rattle.semantics.specs.Net.{TableValue, no_table, table_at, IsGroundedIn, IsAcyclic}
use Rattle.semantics.proofs.Depends.{each_member, each_weaker, pin_is_signal}
use Rattle.chain_semantics.proofs.TidyTables.{all_remove}

pub sum-map-le : (f : TableValue → ℕ) (g : TableValue → TableValue) → ((t : TableValue) → f (g t) ≤ f t) → (tables : List TableValue) → sum_by f (map g tables) ≤ sum_by f tables
sum-map-le f g less [] = omega arith
sum-map-le f g less (t ∷ tables) = omega (arith, sum_by-cons f t tables, sum_by-cons f (g t) (map g tables), less t, sum-map-le f g less tables)

pub All-remove : {X : Type 0} (P : X → Type 0) (xs : List X) (i : ℕ) → All P xs → All P (remove xs i)
All-remove P xs i h = All-from_recursion P (remove xs i) (all_remove P xs i (recursion_from_All P xs h))

pub map-remove : {X Y : Type 0} (f : X → Y) (xs : List X) (i : ℕ) → map f (remove xs i) ≡ remove (map f xs) i
map-remove f xs i = let first = take-map f i xs in let rest = drop-map f (suc i) xs in let whole = map-append f (take i xs) (drop (suc i) xs) in cc

-- in acyclic tables each pin is a signal
pub acyclic-pins : (n : ℕ) (tables : List TableValue) → IsAcyclic n tables → All (λ t. All (λ s. s < n + length tables) t.pins) tables
acyclic-pins n tables acyclic =
    All-from_get_or (λ t. All (λ s. s < n + length tables) t.pins) tables no_table
    (λ i within. All-from_recursion (λ s. s < n + length tables) (table_at tables i).pins
    (each_member (λ s. s < n + length tables) (table_at tables i).pins (λ p c. pin_is_signal n tables i p acyclic within c)))

-- only the pins ground a table
pub grounded_by_pins : (n : ℕ) (a b : List TableValue) → length b ≡ length a → ((i : ℕ) → i < length a → (table_at b i).pins ≡ (table_at a i).pins) → (k s : ℕ) → IsGroundedIn n a k s
    → IsGroundedIn n b k s
grounded_by_pins n a b count pins zero s h = h
grounded_by_pins n a b count pins (suc k) s (inl h) = inl h
grounded_by_pins n a b count pins (suc k) s (inr h) =
    elim (cases_lt s n) [
      | inl low ↦ inl low
      | inr high ↦ inr (
        omega (arith, h.0),
        subst (AllByRecursion (IsGroundedIn n b k)) (sym (pins (s - n) (omega (arith, h.0))))
            (each_weaker (IsGroundedIn n a k) (IsGroundedIn n b k) (table_at a (s - n)).pins (grounded_by_pins n a b count pins k) h.1),
      )
    ]

pub acyclic_by_pins : (n : ℕ) (a b : List TableValue) → length b ≡ length a → ((i : ℕ) → i < length a → (table_at b i).pins ≡ (table_at a i).pins) → IsAcyclic n a → IsAcyclic n b
acyclic_by_pins n a b count pins acyclic i within =
    subst (λ k. IsGroundedIn n b k (n + i)) (sym count) (grounded_by_pins n a b count pins (length a) (n + i) (acyclic i (omega arith)))

pub Contains-map : (f : ℕ → ℕ) (xs : List ℕ) (x : ℕ) → Contains xs x → Contains (map f xs) (f x)
Contains-map f xs x c = (c.0, omega (arith, c.1, length-map xs f), get_or-map f xs c.0 x (f x) c.1 ∙ ap f c.2)

pub record IsImage (f : ℕ → ℕ) (xs : List ℕ) (y : ℕ) : Type 0 where
  pub of : ℕ
  pub inside : Contains xs of
  pub is : f of ≡ y

pub Contains-from_map : (f : ℕ → ℕ) (xs : List ℕ) (y : ℕ) → Contains (map f xs) y → IsImage f xs y
Contains-from_map f xs y c =
    let within : c.0 < length xs = omega (arith, c.1, length-map xs f) in
    record { of = get_or xs c.0 0; inside = Contains-get_or xs c.0 0 within; is = sym (get_or-map f xs c.0 0 y within) ∙ c.2 }

pub all-pins : (P : ℕ → Type 0) (n : ℕ) (tables : List TableValue) → IsAcyclic n tables → ((s : ℕ) → s < n + length tables → P s) → AllByRecursion (λ t. AllByRecursion P t.pins) tables
all-pins P n tables acyclic f =
    recursion_from_All (λ t. AllByRecursion P t.pins) tables
    (All-weaker (λ t. All (λ s. s < n + length tables) t.pins) (λ t. AllByRecursion P t.pins)
    (λ t h. each_weaker (λ s. s < n + length tables) P t.pins f (recursion_from_All (λ s. s < n + length tables) t.pins h)) tables (acyclic-pins n tables acyclic))
