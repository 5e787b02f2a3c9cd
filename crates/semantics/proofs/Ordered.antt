-- Tables have an order exactly where they are acyclic.
use Rattle.std.proofs.Common.{◌≡◌, ◌⊎◌, ℕ, zero, suc, ◌+◌, ◌-◌, ◌<◌, ◌≤◌, true, false, eqb, List, [], ◌∷◌, ◌++◌, length, refl, sym, subst, ◌∙◌, inl, inr, append_assoc, arith}
use Rattle.std.specs.List.{AllByRecursion, Contains, IsDistinct, list_any}
use Rattle.std.proofs.lemmas.Bool.{cases_Bool, cases_eq, cases_lt, eq-eqb, eqb-true, ne_eqb}
use Rattle.std.proofs.lemmas.List.{append-nil}
use Rattle.std.proofs.lemmas.List.Elements.{All-contains, All-from_recursion, Contains-append_left, Contains-push, Contains-push_cases}
use Rattle.std.proofs.lemmas.List.Folds.{list_any-from_Any}
use Rattle.std.proofs.lemmas.Map.Keys.{IsDistinct-cons}
use Rattle.std.proofs.lemmas.Map.Steps.{le-length_from_below, length-le_from_distinct_below}
use Rattle.std.proofs.lemmas.Map.Views.{Contains-from_any}
use Rattle.semantics.specs.Net.{TableValue, table_at, IsGroundedIn, IsAcyclic}
use Rattle.semantics.proofs.Values.{IsGroundedIn-input}
use Rattle.semantics.specs.Order.{IsKnown, IsNext, IsOrderAfter, IsOrderOf}
use Rattle.semantics.proofs.Depends.{each_weaker, IsGroundedIn-more}

is_listed : (xs : List ℕ) (q : ℕ) → Contains xs q → list_any (eqb q) xs ≡ true
is_listed xs q c = list_any-from_Any (eqb q) xs (c.0, q, c.1, c.2, eq-eqb q q refl)

pub cases_Contains : (xs : List ℕ) (q : ℕ) → Contains xs q ⊎ (Contains xs q → ⊥)
cases_Contains xs q =
    elim (cases_Bool (list_any (eqb q) xs)) [
      | inl found ↦ inl (Contains-from_any {eq = eqb} eqb-true q xs found)
      | inr missed ↦ inr (λ c. let found = is_listed xs q c in cc)
    ]

pub order-next : (n : ℕ) (tables : List TableValue) (before order : List ℕ) (i : ℕ) → IsOrderAfter n tables before order → IsNext n tables (before ++ order) i
    → IsOrderAfter n tables before (order ++ i ∷ [])
order-next n tables before [] i h next = (rw append-nil at next, tt)
order-next n tables before (j ∷ order) i h next =
    (h.0, order-next n tables (before ++ j ∷ []) order i h.1 (subst (λ l. IsNext n tables l i) (sym (append_assoc before (j ∷ []) order)) next))

-- every table in it is a table, and does not stand before
pub order-tables : (n : ℕ) (tables : List TableValue) (before order : List ℕ) → IsOrderAfter n tables before order → AllByRecursion (λ i. i < length tables) order
order-tables n tables before [] h = tt
order-tables n tables before (i ∷ order) h = (h.0.table, order-tables n tables (before ++ i ∷ []) order h.1)

order-fresh : (n : ℕ) (tables : List TableValue) (before order : List ℕ) → IsOrderAfter n tables before order → AllByRecursion (λ i. Contains before i → ⊥) order
order-fresh n tables before [] h = tt
order-fresh n tables before (i ∷ order) h = (
  h.0.new,
  each_weaker (λ j. Contains (before ++ i ∷ []) j → ⊥) (λ j. Contains before j → ⊥) order
      (λ j f c. f (Contains-append_left before (i ∷ []) j c)) (order-fresh n tables (before ++ i ∷ []) order h.1),
)

order-distinct : (n : ℕ) (tables : List TableValue) (before order : List ℕ) → IsOrderAfter n tables before order → IsDistinct eqb order
unfolding IsDistinct
order-distinct n tables before [] h = tt
order-distinct n tables before (i ∷ order) h =
    IsDistinct-cons eqb i order
    (each_weaker (λ j. Contains (before ++ i ∷ []) j → ⊥) (λ j. eqb i j ≡ false) order
    (λ j f. ne_eqb i j (λ e. f (subst (Contains (before ++ i ∷ [])) e (Contains-push before i)))) (order-fresh n tables (before ++ i ∷ []) order h.1))
    (order-distinct n tables (before ++ i ∷ []) order h.1)

pub order-at_most : (n : ℕ) (tables : List TableValue) (order : List ℕ) → IsOrderAfter n tables [] order → length order ≤ length tables
order-at_most n tables order h =
    length-le_from_distinct_below order (length tables) (order-distinct n tables [] order h)
    (λ q e. All-contains (λ i. i < length tables) order q (All-from_recursion (λ i. i < length tables) order (order-tables n tables [] order h)) (Contains-from_any {eq = eqb} eqb-true q order e))

pub order-count : (n : ℕ) (tables : List TableValue) (order : List ℕ) → IsOrderOf n tables order → length order ≡ length tables
order-count n tables order h =
    let most : length order ≤ length tables = order-at_most n tables order h.in_turn in
    let least : length tables ≤ length order = le-length_from_below order (length tables) (λ q l. is_listed order q (h.all q l)) in
    omega arith

-- what is known is grounded where the tables before are
known-grounded : (n : ℕ) (tables : List TableValue) (before : List ℕ) (k s : ℕ) → ((j : ℕ) → Contains before j → IsGroundedIn n tables k (n + j)) → IsKnown n before s → IsGroundedIn n tables k s
known-grounded n tables before k s g (inl low) = IsGroundedIn-input n tables k s low
known-grounded n tables before k s g (inr c) =
    elim (cases_lt s n) [
      | inl low ↦ IsGroundedIn-input n tables k s low
      | inr high ↦ let place : n + (s - n) ≡ s = omega arith in subst (IsGroundedIn n tables k) place (g (s - n) c)
    ]

pub order-grounded : (n : ℕ) (tables : List TableValue) (before order : List ℕ) (k : ℕ) → IsOrderAfter n tables before order → ((j : ℕ) → Contains before j → IsGroundedIn n tables k (n + j))
    → (j : ℕ) → Contains (before ++ order) j → IsGroundedIn n tables (k + length order) (n + j)
order-grounded n tables before [] k h g j c = let same : k ≡ k + 0 = omega arith in subst (λ m. IsGroundedIn n tables m (n + j)) same (g j (rw append-nil at c))
order-grounded n tables before (i ∷ order) k h g j c =
    let place : i ≡ (n + i) - n = omega arith in
    let reads : AllByRecursion (IsGroundedIn n tables k) (table_at tables i).pins =
    each_weaker (IsKnown n before) (IsGroundedIn n tables k) (table_at tables i).pins (λ s. known-grounded n tables before k s g) h.0.reads in
    let here : IsGroundedIn n tables (suc k) (n + i) = inr (omega (arith, h.0.table), subst (λ m. AllByRecursion (IsGroundedIn n tables k) (table_at tables m).pins) place reads) in
    let grown : ((m : ℕ) → Contains (before ++ i ∷ []) m → IsGroundedIn n tables (suc k) (n + m)) =
    λ m d. elim (Contains-push_cases before i m d) [
      | inl old ↦ IsGroundedIn-more n tables k (n + m) (g m old)
      | inr e ↦ subst (λ l. IsGroundedIn n tables (suc k) (n + l)) e here
    ] in
    let sum : suc k + length order ≡ k + length (i ∷ order) = omega arith in
    subst (λ m. IsGroundedIn n tables m (n + j)) sum
    (order-grounded n tables (before ++ i ∷ []) order (suc k) h.1 grown j (subst (λ l. Contains l j) (sym (append_assoc before (i ∷ []) order)) c))

pub order-acyclic : (n : ℕ) (tables : List TableValue) (order : List ℕ) → IsOrderOf n tables order → IsAcyclic n tables
order-acyclic n tables order h i within =
    let none : ((j : ℕ) → Contains {X = ℕ} [] j → IsGroundedIn n tables 0 (n + j)) = λ j c. absurd (omega (arith, c.1)) in
    let sum : 0 + length order ≡ length tables = omega (arith, order-count n tables order h) in
    subst (λ m. IsGroundedIn n tables m (n + i)) sum (order-grounded n tables [] order 0 h.in_turn none i (h.all i within))

-- an order so far that has grown to where P holds
record Grown (n : ℕ) (tables : List TableValue) (old : List ℕ) (P : List ℕ → Type 0) : Type 0 where
  now : List ℕ
  in_turn : IsOrderAfter n tables [] now
  keeps : (j : ℕ) → Contains old j → Contains now j
  holds : P now

known-keeps : (n : ℕ) (old now : List ℕ) (s : ℕ) → ((j : ℕ) → Contains old j → Contains now j) → IsKnown n old s → IsKnown n now s
known-keeps n old now s keeps (inl low) = inl low
known-keeps n old now s keeps (inr c) = inr (keeps (s - n) c)

-- pins one after another
grown-pins : (n : ℕ) (tables : List TableValue) (Q : ℕ → Type 0) (pins : List ℕ) → ((p : ℕ) → Q p → (old : List ℕ) → IsOrderAfter n tables [] old → Grown n tables old (λ l. IsKnown n l p))
    → AllByRecursion Q pins → (old : List ℕ) → IsOrderAfter n tables [] old → Grown n tables old (λ l. AllByRecursion (IsKnown n l) pins)
grown-pins n tables Q [] f h old o = record { now = old; in_turn = o; keeps = λ j c. c; holds = tt }
grown-pins n tables Q (p ∷ pins) f h old o =
    let first : Grown n tables old (λ l. IsKnown n l p) = f p h.0 old o in
    let rest : Grown n tables first.now (λ l. AllByRecursion (IsKnown n l) pins) = grown-pins n tables Q pins f h.1 first.now first.in_turn in
    record {
      now = rest.now;
      in_turn = rest.in_turn;
      keeps = λ j c. rest.keeps j (first.keeps j c);
      holds = (known-keeps n first.now rest.now p rest.keeps first.holds, rest.holds);
    }

-- the table whose pins are known joins, unless it stands there
grown-table : (n : ℕ) (tables : List TableValue) (s : ℕ) → s < n + length tables → (old : List ℕ) → Grown n tables old (λ l. AllByRecursion (IsKnown n l) (table_at tables (s - n)).pins)
    → Grown n tables old (λ l. IsKnown n l s)
grown-table n tables s within old g =
    elim (cases_lt s n) [
      | inl low ↦ record { now = g.now; in_turn = g.in_turn; keeps = g.keeps; holds = inl low }
      | inr high ↦ elim (cases_Contains g.now (s - n)) [
        | inl there ↦ record { now = g.now; in_turn = g.in_turn; keeps = g.keeps; holds = inr there }
        | inr missing ↦ record {
          now = g.now ++ (s - n) ∷ [];
          in_turn = order-next n tables [] g.now (s - n) g.in_turn (record { table = omega arith; new = missing; reads = g.holds });
          keeps = λ j c. Contains-append_left g.now ((s - n) ∷ []) j (g.keeps j c);
          holds = inr (Contains-push g.now (s - n));
        }
      ]
    ]

grown-signal : (n : ℕ) (tables : List TableValue) (k s : ℕ) → IsGroundedIn n tables k s → (old : List ℕ) → IsOrderAfter n tables [] old → Grown n tables old (λ l. IsKnown n l s)
grown-signal n tables zero s h old o = record { now = old; in_turn = o; keeps = λ j c. c; holds = inl h }
grown-signal n tables (suc k) s (inl h) old o = record { now = old; in_turn = o; keeps = λ j c. c; holds = inl h }
grown-signal n tables (suc k) s (inr h) old o =
    grown-table n tables s h.0 old (grown-pins n tables (IsGroundedIn n tables k) (table_at tables (s - n)).pins (grown-signal n tables k) h.1 old o)

-- the first m tables
grown-tables : (n : ℕ) (tables : List TableValue) → ((i : ℕ) → i < length tables → (steps : ℕ) × IsGroundedIn n tables steps (n + i)) → (m : ℕ) → m ≤ length tables
    → Grown n tables [] (λ l. (i : ℕ) → i < m → Contains l i)
grown-tables n tables h zero within = record { now = []; in_turn = tt; keeps = λ j c. c; holds = λ i l. absurd (omega arith) }
grown-tables n tables h (suc m) within =
    let first : Grown n tables [] (λ l. (i : ℕ) → i < m → Contains l i) = grown-tables n tables h m (omega arith) in
    let steps = h m (omega arith) in
    let next : Grown n tables first.now (λ l. IsKnown n l (n + m)) = grown-signal n tables steps.0 (n + m) steps.1 first.now first.in_turn in
    let place : (n + m) - n ≡ m = omega arith in
    record {
      now = next.now;
      in_turn = next.in_turn;
      keeps = λ j c. next.keeps j (first.keeps j c);
      holds = λ i l. elim (cases_eq i m) [
        | inl e ↦ elim next.holds [
          | inl low ↦ absurd (omega arith)
          | inr c ↦ subst (Contains next.now) (place ∙ sym e) c
        ]
        | inr ne ↦ next.keeps i (first.holds i (omega arith))
      ];
    }

order_from_steps : (n : ℕ) (tables : List TableValue) → ((i : ℕ) → i < length tables → (steps : ℕ) × IsGroundedIn n tables steps (n + i)) → (order : List ℕ) × IsOrderOf n tables order
order_from_steps n tables h =
    let all : Grown n tables [] (λ l. (i : ℕ) → i < length tables → Contains l i) = grown-tables n tables h (length tables) (omega arith) in
    (all.now, record { all = all.holds; in_turn = all.in_turn })

pub order-exists : (n : ℕ) (tables : List TableValue) → IsAcyclic n tables → (order : List ℕ) × IsOrderOf n tables order
order-exists n tables acyclic = order_from_steps n tables (λ i within. (length tables, acyclic i within))

pub acyclic_from_steps : (n : ℕ) (tables : List TableValue) → ((i : ℕ) → i < length tables → (steps : ℕ) × IsGroundedIn n tables steps (n + i)) → IsAcyclic n tables
acyclic_from_steps n tables h = let found = order_from_steps n tables h in order-acyclic n tables found.0 found.1
