-- The literals of the signals of acyclic tables.
use Rattle.std.proofs.Common.{◌≡◌, ℕ, zero, suc, ◌+◌, ◌-◌, ◌<◌, ◌≤◌, cond, List, [], ◌∷◌, ◌++◌, map, length, refl, sym, ap, ◌∙◌, inl, inr, arith}
use Rattle.std.specs.List.{AllByRecursion}
use Rattle.std.proofs.lemmas.Bool.{lt-ltb, le-ltb, cases_lt}
use Rattle.semantics.specs.declared.mark.Mark.{Mark}
use Rattle.semantics.specs.Net.{TableValue, table_at, IsGroundedIn, IsAcyclic}
use Rattle.semantics.proofs.Members.{each_weaker}
use Rattle.semantics.proofs.Values.{IsGroundedIn-signal}
use Rattle.aiger_semantics.specs.Circuit.{negated}
use Rattle.aiger_semantics.specs.NetCircuit.{Literals, joined, marked, row_inputs, row_ands, rows_ands, rows_joined, disjunction, table_literal, first_variable, input_literal, after_rounds}
use Rattle.aiger_semantics.specs.NetCircuit.{signal_literal}
use Rattle.aiger_semantics.specs.Laws.{AreLiterals}

-- a table's literal is made of those of its pins alone
pub row_inputs-same : (k l : Literals) (marks : List Mark) (pins : List ℕ) → AllByRecursion (λ s. k s ≡ l s) pins → row_inputs k marks pins ≡ row_inputs l marks pins
row_inputs-same k l [] pins same = refl
row_inputs-same k l (m ∷ marks) [] same = refl
row_inputs-same k l (m ∷ marks) (s ∷ pins) same =
    ap (λ x. marked m x ++ row_inputs k marks pins) same.0 ∙ ap (λ x. marked m (l s) ++ x) (row_inputs-same k l marks pins same.1)

rows_joined-same : (k l : Literals) (next : ℕ) (pins : List ℕ) (rows : List (List Mark)) → AllByRecursion (λ s. k s ≡ l s) pins
    → rows_joined k next pins rows ≡ rows_joined l next pins rows
rows_joined-same k l next pins [] same = refl
rows_joined-same k l next pins (marks ∷ rows) same =
    ap (λ x. joined next x ∷ rows_joined k (next + row_ands marks) pins rows) (row_inputs-same k l marks pins same)
    ∙ ap (λ x. joined next (row_inputs l marks pins) ∷ x) (rows_joined-same k l (next + row_ands marks) pins rows same)

pub table_literal-same : (k l : Literals) (next : ℕ) (t : TableValue) → AllByRecursion (λ s. k s ≡ l s) t.pins → table_literal k next t ≡ table_literal l next t
table_literal-same k l next t same =
    let whole : disjunction k next t ≡ disjunction l next t = ap (λ x. negated (joined (next + rows_ands t.rows) (map negated x))) (rows_joined-same k l next t.pins t.rows same) in
    ap (λ d. cond t.plane d (negated d)) whole

module _ (n : ℕ) (tables : List TableValue) where
  round_input : (rounds s : ℕ) → s < n → after_rounds n tables rounds s ≡ input_literal s
  unfolding after_rounds
  round_input zero s low = refl
  round_input (suc rounds) s low = rw (lt-ltb s n low) refl

  round_table : (rounds s : ℕ) → n ≤ s → after_rounds n tables (suc rounds) s ≡ table_literal (after_rounds n tables rounds) (first_variable n tables (s - n)) (table_at tables (s - n))
  unfolding after_rounds
  round_table rounds s high = rw (le-ltb s n high) refl

  -- more rounds than the steps that ground a signal change nothing
  rounds_agree : (k r q s : ℕ) → IsGroundedIn n tables k s → k ≤ r → k ≤ q → after_rounds n tables r s ≡ after_rounds n tables q s
  rounds_agree zero r q s h low low' = round_input r s h ∙ sym (round_input q s h)
  rounds_agree (suc k) r q s (inl h) low low' = round_input r s h ∙ sym (round_input q s h)
  rounds_agree (suc k) zero q s (inr h) low low' = absurd (omega arith)
  rounds_agree (suc k) (suc r) zero s (inr h) low low' = absurd (omega arith)
  rounds_agree (suc k) (suc r) (suc q) s (inr h) low low' =
      elim (cases_lt s n) [
        | inl input ↦ round_input (suc r) s input ∙ sym (round_input (suc q) s input)
        | inr high ↦
            round_table r s high
            ∙ table_literal-same (after_rounds n tables r) (after_rounds n tables q) (first_variable n tables (s - n)) (table_at tables (s - n))
            (each_weaker (IsGroundedIn n tables k) (λ p. after_rounds n tables r p ≡ after_rounds n tables q p) (table_at tables (s - n)).pins
            (λ p g. rounds_agree k r q p g (omega arith) (omega arith)) h.1)
            ∙ sym (round_table q s high)
      ]

  pub are_literals : IsAcyclic n tables → AreLiterals n tables (signal_literal n tables)
  unfolding signal_literal
  are_literals acyclic = record {
    input = round_input (length tables);
    table = λ i within.
        let place : (n + i) - n ≡ i = omega arith in
        rounds_agree (length tables) (length tables) (suc (length tables)) (n + i) (acyclic i within) (omega arith) (omega arith)
        ∙ round_table (length tables) (n + i) (omega arith)
        ∙ ap (λ j. table_literal (after_rounds n tables (length tables)) (first_variable n tables j) (table_at tables j)) place;
  }

  literal_agrees : (k l : Literals) → AreLiterals n tables k → AreLiterals n tables l → (steps s : ℕ) → IsGroundedIn n tables steps s → k s ≡ l s
  literal_agrees k l is is' zero s h = is.input s h ∙ sym (is'.input s h)
  literal_agrees k l is is' (suc steps) s (inl h) = is.input s h ∙ sym (is'.input s h)
  literal_agrees k l is is' (suc steps) s (inr h) =
      elim (cases_lt s n) [
        | inl input ↦ is.input s input ∙ sym (is'.input s input)
        | inr high ↦
            let place : s ≡ n + (s - n) = omega arith in
            let within : s - n < length tables = omega (arith, h.0) in
            ap k place ∙ is.table (s - n) within
            ∙ table_literal-same k l (first_variable n tables (s - n)) (table_at tables (s - n))
            (each_weaker (IsGroundedIn n tables steps) (λ p. k p ≡ l p) (table_at tables (s - n)).pins (literal_agrees k l is is' steps) h.1)
            ∙ sym (ap l place ∙ is'.table (s - n) within)
      ]

  pub only_literals : (literals : Literals) → IsAcyclic n tables → AreLiterals n tables literals → (s : ℕ) → s < n + length tables → literals s ≡ signal_literal n tables s
  only_literals literals acyclic is s within =
      literal_agrees literals (signal_literal n tables) is (are_literals acyclic) (length tables) s (IsGroundedIn-signal n tables acyclic s within)
