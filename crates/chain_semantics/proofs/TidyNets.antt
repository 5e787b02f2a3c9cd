-- The first table at which a rule applies, and nets to which no rule applies.
use Rattle.std.proofs.Common.{◌≡◌, ℕ, zero, suc, ◌+◌, ◌<◌, ◌≤◌, Bool, true, false, cond, not, eqb, Option, Some, None, List, [], ◌∷◌, length, refl, ap, sym, subst, ◌∙◌, inl, inr, arith}
use Rattle.std.specs.Prelude.{◌&&◌, ◌||◌, ◌⊎◌, All}
use Rattle.std.specs.List.{list_any, list_all, AllByRecursion}
use Rattle.std.specs.Option.{option_map}
use Rattle.std.proofs.lemmas.Bool.{and_cases, or_parts, not-false, cases_lt, eqb-false}
use Rattle.std.proofs.lemmas.List.{length-map}
use Rattle.std.proofs.lemmas.List.Elements.{All-from_recursion, All-from_get_or}
use Rattle.std.proofs.lemmas.List.Folds.{Any-from_list_any}
use Rattle.semantics.specs.declared.mark.Mark.{Mark}
use Rattle.semantics.specs.Net.{TableValue, NetValue, no_table, table_at, input_count, table_count, signal_names, name_of, is_literal, row_literals, IsSmall}
use Rattle.chain_semantics.specs.TidyRules.{is_empty, first_from, mark_at, is_dash, dashed_pin, without_pin, is_canonical, is_constant, made_canonical}
use Rattle.semantics.specs.Replaced.{with_table}
use Rattle.chain_semantics.specs.Tidy.{some_if, first_some, by_constant_pin, by_dashed_pin, by_repeated_pin, by_constant, by_bypass, by_removal, step_at, step_from, tidy_step}
use Rattle.chain_semantics.specs.TidyLaws.{KeepsNet, DoesNotGrow, IsFirstStep, HasLiterals}

-- the first that is there, or that none is
first_of_two : {X : Type 0} (o rest : Option X) (x : X) → first_some (o ∷ rest ∷ []) ≡ Some x → (o ≡ Some x) ⊎ ((o ≡ None) × (rest ≡ Some x))
first_of_two (Some y) rest x e = inl e
first_of_two None (Some y) x e = inr (refl, e)
first_of_two None None x e = cc

none_of_two : {X : Type 0} (o rest : Option X) → first_some (o ∷ rest ∷ []) ≡ None → (o ≡ None) × (rest ≡ None)
none_of_two (Some y) rest e = cc
none_of_two None (Some y) e = cc
none_of_two None None e = (refl, refl)

record IsFirstFrom (N M : NetValue) (start count : ℕ) : Type 0 where
  table : ℕ
  past : start ≤ table
  within : table < start + count
  step : step_at N table ≡ Some M
  first : (i : ℕ) → start ≤ i → i < table → step_at N i ≡ None

first_from-start : (N M : NetValue) (start count : ℕ) → step_from N start count ≡ Some M → IsFirstFrom N M start count
first_from-start N M start zero e = cc
first_from-start N M start (suc count) e =
    elim (first_of_two (step_at N start) (step_from N (start + 1) count) M e) [
      | inl here ↦ record { table = start; past = omega arith; within = omega arith; step = here; first = λ i low high. absurd (omega arith) }
      | inr later ↦
          let rest : IsFirstFrom N M (start + 1) count = first_from-start N M (start + 1) count later.1 in
          record {
            table = rest.table;
            past = omega (arith, rest.past);
            within = omega (arith, rest.within);
            step = rest.step;
            first = λ i low high. elim (cases_lt start i) [
              | inl after ↦ rest.first i (omega arith) high
              | inr not_after ↦ let at : start ≡ i = omega arith in subst (λ j. step_at N j ≡ None) at later.0
            ];
          }
    ]

pub first-step : (N M : NetValue) → tidy_step N ≡ Some M → IsFirstStep N M
unfolding tidy_step
first-step N M e =
    let found : IsFirstFrom N M 0 (table_count N) = first_from-start N M 0 (table_count N) e in
    record { table = found.table; within = omega (arith, found.within); step = found.step; first = λ i h. found.first i (omega arith) h }

none_from : (N : NetValue) (start count : ℕ) → step_from N start count ≡ None → (i : ℕ) → start ≤ i → i < start + count → step_at N i ≡ None
none_from N start zero e i low high = absurd (omega arith)
none_from N start (suc count) e i low high =
    let both = none_of_two (step_at N start) (step_from N (start + 1) count) e in
    elim (cases_lt start i) [
      | inl after ↦ none_from N (start + 1) count both.1 i (omega arith) (omega arith)
      | inr not_after ↦ let at : start ≡ i = omega arith in subst (λ j. step_at N j ≡ None) at both.0
    ]

pub none-at : (N : NetValue) → tidy_step N ≡ None → (i : ℕ) → i < table_count N → step_at N i ≡ None
unfolding tidy_step
none-at N e i h = none_from N 0 (table_count N) e i (omega arith) (omega arith)

none_more : (N : NetValue) (start count : ℕ) → ((i : ℕ) → start ≤ i → i < start + count → step_at N i ≡ None) → step_from N start count ≡ None
none_more N start zero f = refl
none_more N start (suc count) f =
    let here : step_at N start ≡ None = f start (omega arith) (omega arith) in
    let later : step_from N (start + 1) count ≡ None = none_more N (start + 1) count (λ i low high. f i (omega arith) (omega arith)) in
    ap (λ o. first_some (o ∷ step_from N (start + 1) count ∷ [])) here ∙ ap (λ o. first_some (o ∷ [])) later

-- where no rule applies at any table, there is no step
pub none-anywhere : (N : NetValue) → ((i : ℕ) → i < table_count N → step_at N i ≡ None) → tidy_step N ≡ None
unfolding tidy_step
none-anywhere N f = none_more N 0 (table_count N) (λ i low high. f i (omega arith))

-- a step at a table before which no rule applies is the step of the net
step_further : (N M : NetValue) (start count i : ℕ) → start ≤ i → i < start + count → ((j : ℕ) → j < i → step_at N j ≡ None) → step_at N i ≡ Some M → step_from N start count ≡ Some M
step_further N M start zero i low high none e = absurd (omega arith)
step_further N M start (suc count) i low high none e =
    elim (cases_lt start i) [
      | inl before ↦
          ap (λ o. first_some (o ∷ step_from N (start + 1) count ∷ [])) (none start before)
          ∙ ap (λ o. first_some (o ∷ [])) (step_further N M (start + 1) count i (omega arith) (omega arith) none e)
      | inr here ↦
          let at : start ≡ i = omega arith in
          ap (λ o. first_some (o ∷ step_from N (start + 1) count ∷ [])) (ap (step_at N) at ∙ e)
    ]

pub step-first : (N M : NetValue) (i : ℕ) → i < table_count N → ((j : ℕ) → j < i → step_at N j ≡ None) → step_at N i ≡ Some M → tidy_step N ≡ Some M
unfolding tidy_step
step-first N M i h none e = step_further N M 0 (table_count N) i (omega arith) (omega arith) none e

none_of_six : {X : Type 0} (o1 o2 o3 o4 o5 o6 : Option X) → first_some (o1 ∷ o2 ∷ o3 ∷ o4 ∷ o5 ∷ o6 ∷ []) ≡ None → (o2 ≡ None) × (o4 ≡ None)
none_of_six (Some a) o2 o3 o4 o5 o6 e = cc
none_of_six None (Some a) o3 o4 o5 o6 e = cc
none_of_six None None (Some a) o4 o5 o6 e = cc
none_of_six None None None (Some a) o5 o6 e = cc
none_of_six None None None None o5 o6 e = (refl, refl)

map_is_none : {X Y : Type 0} (f : X → Y) (o : Option X) → option_map f o ≡ None → o ≡ None
map_is_none f None e = refl
map_is_none f (Some x) e = cc

some_if_none : {X : Type 0} (b : Bool) (x : X) → some_if b x ≡ None → b ≡ false
some_if_none true x e = cc
some_if_none false x e = refl

none_passes_at : (test : ℕ → Bool) (start count : ℕ) (b : Bool) → test start ≡ b → cond b (Some start) (first_from test (start + 1) count) ≡ None
    → (b ≡ false) × (first_from test (start + 1) count ≡ None)
none_passes_at test start count true e h = cc
none_passes_at test start count false e h = (refl, h)

pub none_passes : (test : ℕ → Bool) (start count : ℕ) → first_from test start count ≡ None → (q : ℕ) → start ≤ q → q < start + count → test q ≡ false
none_passes test start zero e q low high = absurd (omega arith)
none_passes test start (suc count) e q low high =
    let both = none_passes_at test start count (test start) refl e in
    elim (cases_lt start q) [
      | inl after ↦ none_passes test (start + 1) count both.1 q (omega arith) (omega arith)
      | inr not_after ↦ let at : start ≡ q = omega arith in subst (λ j. test j ≡ false) at both.0
    ]

-- rows each of which has a literal
all_literals : (rows : List (List Mark)) → list_any (λ marks. eqb (row_literals marks) 0) rows ≡ false → AllByRecursion (λ marks. 0 < row_literals marks) rows
all_literals [] e = tt
all_literals (marks ∷ rows) e =
    let both = or_parts (eqb (row_literals marks) 0) (list_any (λ m. eqb (row_literals m) 0) rows) e in
    let some : (row_literals marks ≡ 0 → ⊥) = eqb-false (row_literals marks) 0 both.0 in
    (omega arith, all_literals rows both.1)

at_mark : (b c d : Bool) → (c ≡ false → d ≡ true) → (not b && c) ≡ false → (b || d) ≡ true
at_mark true c d f e = refl
at_mark false c d f e = f e

some_literal : (q : ℕ) (rows : List (List Mark)) → list_all (λ marks. is_dash (mark_at marks q)) rows ≡ false → list_any (λ marks. is_literal (mark_at marks q)) rows ≡ true
some_literal q [] e = cc
some_literal q (marks ∷ rows) e = at_mark (is_literal (mark_at marks q)) (list_all (λ m. is_dash (mark_at m q)) rows) (list_any (λ m. is_literal (mark_at m q)) rows) (some_literal q rows) e

tidy_at : (N : NetValue) (i : ℕ) → step_at N i ≡ None → (is_canonical (table_at N.tables i) ≡ true) ⊎ HasLiterals (table_at N.tables i)
tidy_at N i e =
    let t : TableValue = table_at N.tables i in
    let both = none_of_six
    (option_map (with_table N i) (by_constant_pin (input_count N) N.tables (table_at N.tables i)))
    (option_map (with_table N i) (by_dashed_pin (table_at N.tables i)))
    (option_map (with_table N i) (by_repeated_pin (table_at N.tables i)))
    (option_map (with_table N i) (by_constant (table_at N.tables i)))
    (by_bypass N i) (by_removal N i) e in
    let no_column : dashed_pin (table_at N.tables i) ≡ None =
    map_is_none (λ q. without_pin q (table_at N.tables i)) (dashed_pin (table_at N.tables i)) (map_is_none (with_table N i) (by_dashed_pin (table_at N.tables i)) both.0) in
    let other : is_constant (table_at N.tables i) ≡ false =
    some_if_none (is_constant (table_at N.tables i)) (made_canonical (table_at N.tables i)) (map_is_none (with_table N i) (by_constant (table_at N.tables i)) both.1) in
    elim (and_cases (not (is_canonical (table_at N.tables i))) (is_empty (table_at N.tables i).rows || list_any (λ marks. eqb (row_literals marks) 0) (table_at N.tables i).rows) other) [
      | inl canonical ↦ inl (not-false (is_canonical (table_at N.tables i)) canonical)
      | inr none ↦
          let parts = or_parts (is_empty (table_at N.tables i).rows) (list_any (λ marks. eqb (row_literals marks) 0) (table_at N.tables i).rows) none in
          inr (record {
            rows = All-from_recursion (λ marks. 0 < row_literals marks) (table_at N.tables i).rows (all_literals (table_at N.tables i).rows parts.1);
            pins = λ q h.
                let test = none_passes (λ p. not (is_empty (table_at N.tables i).rows) && list_all (λ marks. is_dash (mark_at marks p)) (table_at N.tables i).rows) 0
                (length (table_at N.tables i).pins) no_column q (omega arith) (omega arith) in
                let column : list_all (λ marks. is_dash (mark_at marks q)) (table_at N.tables i).rows ≡ false =
                ap (λ b. not b && list_all (λ marks. is_dash (mark_at marks q)) (table_at N.tables i).rows) (sym parts.0) ∙ test in
                Any-from_list_any (λ marks. is_literal (mark_at marks q)) (table_at N.tables i).rows (some_literal q (table_at N.tables i).rows column);
          })
    ]

pub tidy-literals : (N : NetValue) → tidy_step N ≡ None → All (λ t. (is_canonical t ≡ true) ⊎ HasLiterals t) N.tables
tidy-literals N e = All-from_get_or (λ t. (is_canonical t ≡ true) ⊎ HasLiterals t) N.tables no_table (λ i h. tidy_at N i (none-at N e i h))

pub small : (N M : NetValue) → IsSmall N → KeepsNet N M → DoesNotGrow N M → IsSmall M
small N M h keeps fewer = record {
  inputs = subst (λ inputs. length inputs ≤ 256) keeps.ports.inputs h.inputs;
  outputs = omega (arith, h.outputs, sym (length-map N.outputs (name_of (signal_names N))) ∙ ap length keeps.ports.outputs ∙ length-map M.outputs (name_of (signal_names M)));
  tables = omega (arith, h.tables, fewer.tables);
  table_pins = fewer.table_pins 256 h.table_pins;
  all_pins = omega (arith, h.all_pins, fewer.pins);
  all_rows = omega (arith, h.all_rows, fewer.rows);
}
