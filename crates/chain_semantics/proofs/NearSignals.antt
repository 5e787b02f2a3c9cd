-- Near signals: numbers where they first stand, few of them, and none that depends on the table.
use Rattle.std.proofs.Common.{◌≡◌, ◌≢◌, ℕ, zero, suc, ◌-◌, ◌<◌, ◌≤◌, Bool, true, false, not, eqb, ltb, List, [], ◌∷◌, length, get_or, take, All, refl, ap, sym, subst, ◌∙◌, inl, inr, arith}
use Rattle.std.specs.Prelude.{AllPairs}
use Rattle.std.specs.List.{Contains, filter, flat_map}
use Rattle.std.proofs.lemmas.Bool.{cases_lt, cases_eq, cond_both, cond-true, cond-false, eqb-true, eq-eqb, ltb-false, not-true, not_from_false, false_from_ne_true}
use Rattle.std.proofs.lemmas.List.{length-take, get_or-take, get_or_default}
use Rattle.std.proofs.lemmas.List.Elements.{All-weaker, All-take, All-filter, All-contains, All-contains_itself, filter_passes, Contains-append_left, Contains-append_right, Contains-append_cases}
use Rattle.std.proofs.lemmas.List.Kept.{AllPairs-cons, AllPairs-filter}
use Rattle.semantics.specs.Net.{TableValue, NetValue, table_at, input_count, table_count, signal_count, IsAcyclic}
use Rattle.semantics.specs.Dependence.{DependsOn}
use Rattle.semantics.specs.Dependence.DependsOn.{by_pin}
use Rattle.semantics.proofs.Depends.{pin_is_signal, no_cycle}
use Rattle.chain_semantics.specs.declared.moves.TheConstants.{MOST_NEAR_SIGNALS}
use Rattle.chain_semantics.specs.TidyRules.{first_place_of}
use Rattle.chain_semantics.specs.Moves.{each_once, pins_of, pins_and_theirs, near_signals}
use Rattle.chain_semantics.specs.NearLaws.{StandsBefore, IsNear}
use Rattle.chain_semantics.proofs.MoveLists.{All-flat_map, Contains-later, Contains-cases, Contains-filter, Contains-flat_map}
use Rattle.chain_semantics.proofs.OrderedLists.{AllPairs-nil}

-- ---- what lists that are made of others hold

pub Contains-filtered : {X : Type 0} (test : X → Bool) (xs : List X) (x : X) → Contains (filter test xs) x → Contains xs x × (test x ≡ true)
Contains-filtered test xs x c = (
  All-contains (Contains xs) (filter test xs) x (All-filter test (Contains xs) xs (All-contains_itself xs)) c,
  All-contains (λ y. test y ≡ true) (filter test xs) x (filter_passes test xs) c,
)

Contains-taken : {X : Type 0} (n : ℕ) (xs : List X) (x : X) → Contains (take n xs) x → Contains xs x
Contains-taken n xs x c = All-contains (Contains xs) (take n xs) x (All-take (Contains xs) n xs (All-contains_itself xs)) c

abbrev IsFrom : {X Y : Type 0} → (X → List Y) → List X → Y → Type 0
IsFrom {X = X} f xs y = (x : X) × Contains xs x × Contains (f x) y

Contains-flat_mapped : {X Y : Type 0} (f : X → List Y) (xs : List X) (y : Y) → Contains (flat_map f xs) y → IsFrom f xs y
Contains-flat_mapped f xs y c =
    All-contains (IsFrom f xs) (flat_map f xs) y
    (All-flat_map (IsFrom f xs) f xs (λ i d low k e within. (get_or xs i d, All-contains_itself xs i d low, All-contains_itself (f (get_or xs i d)) k e within))) c

AllPairs-take : {X : Type 0} (R : X → X → Type 0) (n : ℕ) (xs : List X) → AllPairs R xs → AllPairs R (take n xs)
AllPairs-take R n xs h i j d before low =
    let within : j < length xs = omega (arith, length-take n xs) in
    let few : j < n = omega (arith, length-take n xs) in
    let first : get_or (take n xs) i d ≡ get_or xs i d = get_or-take n xs i d (omega arith) in
    let second : get_or (take n xs) j d ≡ get_or xs j d = get_or-take n xs j d few in
    subst (λ x. R x (get_or (take n xs) j d)) (sym first) (subst (R (get_or xs i d)) (sym second) (h i j d before within))

-- ---- each number where it first stands

abbrev differs : ℕ → ℕ → Bool
differs s u = not (eqb u s)

differs-true : (s u : ℕ) → u ≢ s → differs s u ≡ true
differs-true s u ne = not_from_false (eqb u s) (false_from_ne_true (eqb u s) (λ e. ne (eqb-true u s e)))

differs-ne : (s u : ℕ) → differs s u ≡ true → u ≢ s
differs-ne s u e same = let equal : eqb u s ≡ true = eq-eqb u s same in let unequal : eqb u s ≡ false = not-true (eqb u s) e in cc

once-in : (xs : List ℕ) (s : ℕ) → Contains (each_once xs) s → Contains xs s
once-in [] s c = c
once-in (x ∷ xs) s c =
    elim (Contains-cases x (filter (differs x) (each_once xs)) s c) [
      | inl e ↦ (0, omega arith, e)
      | inr later ↦ Contains-later x xs s (once-in xs s (Contains-filtered (differs x) (each_once xs) s later).0)
    ]

once-all : (xs : List ℕ) (s : ℕ) → Contains xs s → Contains (each_once xs) s
once-all [] s c = c
once-all (x ∷ xs) s c =
    elim (cases_eq s x) [
      | inl e ↦ (0, omega arith, sym e)
      | inr ne ↦ elim (Contains-cases x xs s c) [
        | inl e ↦ absurd (ne (sym e))
        | inr later ↦ Contains-later x (filter (differs x) (each_once xs)) s (Contains-filter (differs x) (each_once xs) s (differs-true x s ne) (once-all xs s later))
      ]
    ]

place-here : (x : ℕ) (xs : List ℕ) → first_place_of (x ∷ xs) x ≡ 0
place-here x xs = cond-true (eqb x x) 0 (suc (first_place_of xs x)) (eq-eqb x x refl)

place-later : (x : ℕ) (xs : List ℕ) (s : ℕ) → s ≢ x → first_place_of (x ∷ xs) s ≡ suc (first_place_of xs s)
place-later x xs s ne = cond-false (eqb s x) 0 (suc (first_place_of xs s)) (false_from_ne_true (eqb s x) (λ e. ne (eqb-true s x e)))

pub once-ordered : (xs : List ℕ) → AllPairs (StandsBefore xs) (each_once xs)
once-ordered [] = AllPairs-nil (StandsBefore [])
once-ordered (x ∷ xs) =
    let kept : List ℕ = filter (differs x) (each_once xs) in
    let passes : All (λ s. differs x s ≡ true) kept = filter_passes (differs x) (each_once xs) in
    AllPairs-cons (StandsBefore (x ∷ xs)) x kept
    (All-weaker (λ s. differs x s ≡ true) (StandsBefore (x ∷ xs) x) (λ s e. omega (arith, place-here x xs, place-later x xs s (differs-ne x s e))) kept passes)
    (λ i j d before low.
    let first : ℕ = get_or kept i d in
    let second : ℕ = get_or kept j d in
    let rest : StandsBefore xs first second = AllPairs-filter (StandsBefore xs) (differs x) (each_once xs) (once-ordered xs) i j d before low in
    omega (
      arith,
      rest,
      place-later x xs first (differs-ne x first (passes i d (omega arith))),
      place-later x xs second (differs-ne x second (passes j d low)),
    ))

-- a number in a list without a number twice first stands where it stands
pub place-at : (xs : List ℕ) (i d : ℕ) → AllPairs ◌≢◌ xs → i < length xs → first_place_of xs (get_or xs i d) ≡ i
place-at [] i d apart low = absurd (omega arith)
place-at (x ∷ xs) zero d apart low = place-here x xs
place-at (x ∷ xs) (suc i) d apart low =
    let other : get_or xs i d ≢ x = λ same. apart 0 (suc i) d (omega arith) low (sym same) in
    let rest : first_place_of xs (get_or xs i d) ≡ i = place-at xs i d (λ j k e before within. apart (suc j) (suc k) e (omega arith) (omega arith)) (omega arith) in
    omega (arith, rest, place-later x xs (get_or xs i d) other)

-- ---- near signals

module _ (N : NetValue) (table : TableValue) where
  abbrev kept : List ℕ
  kept = each_once (pins_and_theirs N table)

  pub near-ordered : AllPairs (StandsBefore (pins_and_theirs N table)) (near_signals N table)
  unfolding near_signals
  near-ordered = AllPairs-take (StandsBefore (pins_and_theirs N table)) MOST_NEAR_SIGNALS kept (once-ordered (pins_and_theirs N table))

  pub near-once : AllPairs ◌≢◌ (near_signals N table)
  near-once i j d before low same =
      let first : ℕ = get_or (near_signals N table) i d in
      let second : ℕ = get_or (near_signals N table) j d in
      let order : StandsBefore (pins_and_theirs N table) first second = near-ordered i j d before low in
      omega (arith, order, ap (first_place_of (pins_and_theirs N table)) same)

  pub near-few : length (near_signals N table) ≤ MOST_NEAR_SIGNALS
  unfolding near_signals
  near-few = omega (arith, length-take MOST_NEAR_SIGNALS kept)

  pub near-is : (s : ℕ) → Contains (near_signals N table) s → IsNear N table s
  unfolding near_signals
  near-is s c =
      let there : Contains (pins_and_theirs N table) s = once-in (pins_and_theirs N table) s (Contains-taken MOST_NEAR_SIGNALS kept s c) in
      elim (Contains-append_cases table.pins (flat_map (pins_of N) table.pins) s there) [
        | inl pin ↦ inl pin
        | inr theirs ↦ inr (Contains-flat_mapped (pins_of N) table.pins s theirs)
      ]

  is-kept : (s : ℕ) → IsNear N table s → Contains kept s
  is-kept s (inl pin) = once-all (pins_and_theirs N table) s (Contains-append_left table.pins (flat_map (pins_of N) table.pins) s pin)
  is-kept s (inr (p, c, d)) =
      once-all (pins_and_theirs N table) s
      (Contains-append_right table.pins (flat_map (pins_of N) table.pins) s (Contains-flat_map (pins_of N) table.pins p s c d))

  -- a kept number that stands among the first few is near
  kept-near : (s i : ℕ) → i < MOST_NEAR_SIGNALS → i < length kept → get_or kept i s ≡ s → Contains (near_signals N table) s
  unfolding near_signals
  kept-near s i few low is = (i, omega (arith, length-take MOST_NEAR_SIGNALS kept), get_or-take MOST_NEAR_SIGNALS kept i s few ∙ is)

  pub near-left_out : (s u : ℕ) → IsNear N table s → ¬ Contains (near_signals N table) s → Contains (near_signals N table) u → StandsBefore (pins_and_theirs N table) u s
  unfolding near_signals
  near-left_out s u near out (i, low, is) =
      let at = is-kept s near in
      let before : i < MOST_NEAR_SIGNALS = omega (arith, length-take MOST_NEAR_SIGNALS kept) in
      elim (cases_lt at.0 MOST_NEAR_SIGNALS) [
        | inl few ↦ absurd (out (kept-near s at.0 few at.1 at.2))
        | inr past ↦
            let first : get_or kept i s ≡ u =
            get_or_default kept i s u (omega (arith, length-take MOST_NEAR_SIGNALS kept)) ∙ sym (get_or-take MOST_NEAR_SIGNALS kept i u before) ∙ is in
            let order : StandsBefore (pins_and_theirs N table) (get_or kept i s) (get_or kept at.0 s) =
            once-ordered (pins_and_theirs N table) i at.0 s (omega (arith, before, past)) at.1 in
            omega (arith, order, ap (first_place_of (pins_and_theirs N table)) first, ap (first_place_of (pins_and_theirs N table)) at.2)
      ]

  pub near-all : (s : ℕ) → length (near_signals N table) < MOST_NEAR_SIGNALS → IsNear N table s → Contains (near_signals N table) s
  unfolding near_signals
  near-all s few near =
      let at = is-kept s near in
      kept-near s at.0 (omega (arith, few, at.1, length-take MOST_NEAR_SIGNALS kept)) at.1 at.2

-- a signal that has pins is a table
pin-of-table : (N : NetValue) (p s : ℕ) → Contains (pins_of N p) s → (input_count N ≤ p) × Contains (table_at N.tables (p - input_count N)).pins s
pin-of-table N p s =
    let pins : List ℕ = (table_at N.tables (p - input_count N)).pins in
    cond_both (ltb p (input_count N)) [] pins (λ l. Contains l s → (input_count N ≤ p) × Contains pins s)
    (λ e c. absurd (omega (arith, c.1))) (λ e c. (ltb-false p (input_count N) e, c))

module _ (N : NetValue) (t : ℕ) (acyclic : IsAcyclic (input_count N) N.tables) (within : t < table_count N) where
  abbrev table : TableValue
  table = table_at N.tables t

  near-signal : (s : ℕ) → IsNear N table s → s < signal_count N
  near-signal s (inl c) = pin_is_signal (input_count N) N.tables t s acyclic within c
  near-signal s (inr (p, c, d)) =
      let pin : p < signal_count N = pin_is_signal (input_count N) N.tables t p acyclic within c in
      let own = pin-of-table N p s d in
      pin_is_signal (input_count N) N.tables (p - input_count N) s acyclic (omega (arith, pin, own.0)) own.1

  near-apart : (s : ℕ) → IsNear N table s → ¬ DependsOn (input_count N) N.tables t s
  near-apart s (inl c) path = no_cycle (input_count N) N.tables t acyclic within s c path
  near-apart s (inr (p, c, d)) path =
      let pin : p < signal_count N = pin_is_signal (input_count N) N.tables t p acyclic within c in
      let own = pin-of-table N p s d in
      no_cycle (input_count N) N.tables t acyclic within p c (by_pin own.0 pin own.1 path)

  pub near-are_signals : (s : ℕ) → Contains (near_signals N table) s → s < signal_count N
  near-are_signals s c = near-signal s (near-is N table s c)

  pub near-are_apart : (s : ℕ) → Contains (near_signals N table) s → ¬ DependsOn (input_count N) N.tables t s
  near-are_apart s c = near-apart s (near-is N table s c)

pub once-members : (xs : List ℕ) (s : ℕ) → (Contains (each_once xs) s → Contains xs s) × (Contains xs s → Contains (each_once xs) s)
once-members xs s = (once-in xs s, once-all xs s)
