-- The tests of the rules of tidying, and the conditions that they decide.
use Rattle.std.proofs.Common.{◌≡◌, ℕ, zero, suc, ◌-◌, ◌<◌, Bool, true, false, cond, not, eqb, leb, List, [], ◌∷◌, length, get_or, take, All, refl, ap, sym, ◌∙◌, inl, inr, arith}
use Rattle.std.specs.Prelude.{◌||◌}
use Rattle.std.specs.List.{list_any, list_all}
use Rattle.std.proofs.lemmas.Bool.{false≢true, and_parts, and_from, or_cases, or_left, or_right, leb-true, le-leb, not-true, eqb-true, eq-eqb, both_ways}
use Rattle.std.proofs.lemmas.List.Folds.{Any-from_list_any, list_any-from_Any}
use Rattle.std.proofs.lemmas.List.Sums.{AllPass-from_list_all, list_all-from_AllPass}
use Rattle.semantics.specs.declared.mark.Mark.{Mark}
use Rattle.semantics.specs.declared.mark.Mark.TheVariants.{Zero, One, Dash}
use Rattle.semantics.specs.Texts.{Bytes}
use Rattle.semantics.specs.Net.{TableValue, NetValue, table_at, input_count, is_literal, row_literals, constant_table}
use Rattle.chain_semantics.specs.TidyRules.{is_empty, has, mark_at, is_dash, first_place_of, is_constant_signal, is_canonical, is_one_literal, has_one_literal}
use Rattle.chain_semantics.specs.TidyChoices.{IsConstantSignal, IsCanonical, HasConstantValue, HasOneLiteral}
use Rattle.chain_semantics.proofs.TidyTriples.{no_elements}

pub empty-is : {X : Type 0} (xs : List X) → xs ≡ [] → is_empty xs ≡ true
empty-is [] e = refl
empty-is (x ∷ xs) e = absurd (omega (arith, ap length e))

pub some_elements : {X : Type 0} (xs : List X) → not (is_empty xs) ≡ true → ¬ (xs ≡ [])
some_elements xs e none = both_ways (is_empty xs) (not-true (is_empty xs) e) (empty-is xs none)

-- ---- rule 1

pub constant_signal-is : (N : NetValue) (s : ℕ) → is_constant_signal (input_count N) N.tables s ≡ true → IsConstantSignal N s
constant_signal-is N s e =
    let pins : List ℕ = (table_at N.tables (s - input_count N)).pins in
    let parts = and_parts (leb (input_count N) s) (is_empty pins) e in
    (leb-true (input_count N) s parts.0, no_elements pins parts.1)

pub is-constant_signal : (N : NetValue) (s : ℕ) → IsConstantSignal N s → is_constant_signal (input_count N) N.tables s ≡ true
is-constant_signal N s h =
    let pins : List ℕ = (table_at N.tables (s - input_count N)).pins in
    and_from (leb (input_count N) s) (is_empty pins) (le-leb (input_count N) s h.0) (empty-is pins h.1)

-- ---- rule 2

dash-is : (m : Mark) → is_dash m ≡ true → m ≡ Dash
dash-is Zero e = absurd (false≢true e)
dash-is One e = absurd (false≢true e)
dash-is Dash e = refl

is-dash : (m : Mark) → m ≡ Dash → is_dash m ≡ true
is-dash m e = ap is_dash e

pub dashes-are : (q : ℕ) (rows : List (List Mark)) → list_all (λ marks. is_dash (mark_at marks q)) rows ≡ true → All (λ marks. mark_at marks q ≡ Dash) rows
dashes-are q rows e k d low = dash-is (mark_at (get_or rows k d) q) (AllPass-from_list_all (λ marks. is_dash (mark_at marks q)) rows e k d low)

pub are-dashes : (q : ℕ) (rows : List (List Mark)) → All (λ marks. mark_at marks q ≡ Dash) rows → list_all (λ marks. is_dash (mark_at marks q)) rows ≡ true
are-dashes q rows h =
    list_all-from_AllPass (λ marks. is_dash (mark_at marks q)) rows (λ k d low. is-dash (mark_at (get_or rows k d) q) (h k d low))

-- ---- rule 3

-- a number that stands among the first q does so at a place below q
pub stands_before : (pins : List ℕ) (s p q : ℕ) → p < q → p < length pins → get_or pins p 0 ≡ s → has (take q pins) s ≡ true
stands_before [] s p q low within e = absurd (omega arith)
stands_before (x ∷ pins) s p zero low within e = absurd (omega arith)
stands_before (x ∷ pins) s zero (suc q) low within e = or_left (eqb s x) (has (take q pins) s) (eq-eqb s x (sym e))
stands_before (x ∷ pins) s (suc p) (suc q) low within e = or_right (eqb s x) (has (take q pins) s) (stands_before pins s p q (omega arith) (omega arith) e)

place_at : (s x : ℕ) (later p : ℕ) (pins : List ℕ) → ((r : ℕ) → r < later → r < length pins → get_or pins r 0 ≡ s → ⊥) → (t : Bool) → eqb s x ≡ t
    → p < cond t 0 (suc later) → p < suc (length pins) → get_or (x ∷ pins) p 0 ≡ s → ⊥
place_at s x later p pins rest true e low within is = omega arith
place_at s x later zero pins rest false e low within is = both_ways (eqb s x) e (eq-eqb s x (sym is))
place_at s x later (suc p) pins rest false e low within is = rest p (omega arith) (omega arith) is

-- the first place is before every other
pub place_is_first : (pins : List ℕ) (s p : ℕ) → p < first_place_of pins s → p < length pins → get_or pins p 0 ≡ s → ⊥
place_is_first [] s p low within is = omega arith
place_is_first (x ∷ pins) s p low within is =
    place_at s x (first_place_of pins s) p pins (place_is_first pins s) (eqb s x) refl low within is

-- ---- rule 4

canonical_by : (name : Bytes) (pins : List ℕ) (rows : List (List Mark)) (plane : Bool)
    → is_canonical (record { name = name; pins = pins; rows = rows; plane = plane }) ≡ true → IsCanonical (record { name = name; pins = pins; rows = rows; plane = plane })
canonical_by name [] [] true e = (false, refl)
canonical_by name [] ([] ∷ []) true e = (true, refl)
canonical_by name [] ([] ∷ row ∷ rows) true e = absurd (false≢true e)
canonical_by name [] ((m ∷ marks) ∷ rows) true e = absurd (false≢true e)
canonical_by name [] rows false e = absurd (false≢true e)
canonical_by name (p ∷ pins) rows plane e = absurd (false≢true e)

pub canonical-is : (t : TableValue) → is_canonical t ≡ true → IsCanonical t
canonical-is t e = canonical_by t.name t.pins t.rows t.plane e

constant-canonical : (name : Bytes) (value : Bool) → is_canonical (constant_table name value) ≡ true
constant-canonical name false = refl
constant-canonical name true = refl

pub is-canonical : (t : TableValue) → IsCanonical t → is_canonical t ≡ true
is-canonical t h = ap is_canonical h.1 ∙ constant-canonical t.name h.0

pub one_value-is : (t : TableValue) → (is_empty t.rows || list_any (λ marks. eqb (row_literals marks) 0) t.rows) ≡ true → HasConstantValue t
one_value-is t e =
    elim (or_cases (is_empty t.rows) (list_any (λ marks. eqb (row_literals marks) 0) t.rows) e) [
      | inl none ↦ inl (no_elements t.rows none)
      | inr some ↦
          let found = Any-from_list_any (λ marks. eqb (row_literals marks) 0) t.rows some in
          inr (found.0, found.1, found.2, found.3, eqb-true (row_literals found.1) 0 found.4)
    ]

pub is-one_value : (t : TableValue) → HasConstantValue t → (is_empty t.rows || list_any (λ marks. eqb (row_literals marks) 0) t.rows) ≡ true
is-one_value t (inl none) = or_left (is_empty t.rows) (list_any (λ marks. eqb (row_literals marks) 0) t.rows) (empty-is t.rows none)
is-one_value t (inr found) =
    or_right (is_empty t.rows) (list_any (λ marks. eqb (row_literals marks) 0) t.rows)
    (list_any-from_Any (λ marks. eqb (row_literals marks) 0) t.rows (found.0, found.1, found.2, found.3, eq-eqb (row_literals found.1) 0 found.4))

-- ---- rule 5

record IsOneLiteral (pins : List ℕ) (rows : List (List Mark)) : Type 0 where
  pin : ℕ
  mark : Mark
  are_pins : pins ≡ pin ∷ []
  are_rows : rows ≡ (mark ∷ []) ∷ []
  literal : is_literal mark ≡ true

one_literal_by : (pins : List ℕ) (rows : List (List Mark)) → is_one_literal pins rows ≡ true → IsOneLiteral pins rows
one_literal_by [] rows e = absurd (false≢true e)
one_literal_by (p ∷ []) [] e = absurd (false≢true e)
one_literal_by (p ∷ []) ([] ∷ rows) e = absurd (false≢true e)
one_literal_by (p ∷ []) ((m ∷ []) ∷ []) e = record { pin = p; mark = m; are_pins = refl; are_rows = refl; literal = e }
one_literal_by (p ∷ []) ((m ∷ []) ∷ row ∷ rows) e = absurd (false≢true e)
one_literal_by (p ∷ []) ((m ∷ n ∷ marks) ∷ rows) e = absurd (false≢true e)
one_literal_by (p ∷ q ∷ pins) rows e = absurd (false≢true e)

pub one_literal-is : (t : TableValue) → has_one_literal t ≡ true → HasOneLiteral t
one_literal-is t e =
    let h = one_literal_by t.pins t.rows e in
    record { pin = h.pin; mark = h.mark; pins = h.are_pins; rows = h.are_rows; literal = h.literal }

pub is-one_literal : (t : TableValue) → HasOneLiteral t → has_one_literal t ≡ true
is-one_literal t h = ap (λ pins. is_one_literal pins t.rows) h.pins ∙ ap (is_one_literal (h.pin ∷ [])) h.rows ∙ h.literal
