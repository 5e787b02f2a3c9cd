-- The clauses of a net are satisfied exactly where each variable has the value of what it stands for.
use Rattle.std.proofs.Common.{◌≡◌, ℕ, zero, suc, ◌+◌, ◌-◌, ◌<◌, ◌≤◌, Bool, true, false, ◌&&◌, ◌||◌, List, [], ◌∷◌, length, get_or, map, refl, ap, subst, sym, ◌∙◌, inl, inr, arith, sum_by}
use Rattle.std.proofs.Common.{length-append}
use Rattle.std.specs.List.{AllByRecursion}
use Rattle.std.proofs.Math.ListN.{length-map}
use Rattle.std.proofs.lemmas.List.{get_or-map}
use Rattle.std.proofs.lemmas.List.Folds.{list_all-append}
use Rattle.std.proofs.lemmas.List.Sums.{sum_by-cons}
use Rattle.std.proofs.lemmas.Bool.{and_parts, and_from, lt-ltb, le-ltb, cases_lt}
use Rattle.semantics.specs.declared.mark.Mark.{Mark}
use Rattle.semantics.specs.Net.{TableValue, no_table, table_at, IsAcyclic}
use Rattle.semantics.specs.Value.{Assignment, row_matches, table_value, value_of, IsConsistent}
use Rattle.semantics.proofs.Depends.{each_member, each_weaker, pin_is_signal}
use Rattle.semantics.proofs.Values.{row_matches-same, table_value-same, value_law}
use Rattle.proof_semantics.specs.Clauses.{Satisfies, clause_value, clauses_value}
use Rattle.proof_semantics.specs.NetClauses.{literal_at, table_clauses, tables_clauses, net_clauses, goal_clauses}
use Rattle.proof_semantics.specs.Variables.{row_values, place_value, by_place, IsModelAt, HasPlaceValues}
use Rattle.proof_semantics.specs.Laws.{NetClauseLaw, GoalLaw}
use Rattle.proof_semantics.proofs.Agreement.{AgreesFrom, AgreesFrom-append, AgreesFrom-parts, AgreesFrom-at, AgreesFrom-from, values_from, length-values_from, AgreesFrom-values_from}
use Rattle.proof_semantics.proofs.TableClauses.{signals, table_agrees, table_holds}
use Rattle.proof_semantics.proofs.TruthValues.{and_end, or_false}

rows_count : (a : Assignment) (t : TableValue) → length (map (λ marks. row_matches marks t.pins (signals a)) t.rows) ≡ length t.rows
rows_count a t = length-map t.rows _

tables_agree : (a : Assignment) (place first : ℕ) (tables : List TableValue) → clauses_value a (tables_clauses place first tables) ≡ true
    → AgreesFrom a place (map (λ t. table_value t (signals a)) tables) × AgreesFrom a first (row_values tables (signals a))
unfolding AgreesFrom
tables_agree a place first [] h = (tt, tt)
tables_agree a place first (t ∷ tables) h =
    let both = and_parts _ _ (sym (list_all-append (clause_value a) (table_clauses place first t) (tables_clauses (suc place) (first + length t.rows) tables)) ∙ h) in
    let here = table_agrees a place first t both.0 in
    let rest = tables_agree a (suc place) (first + length t.rows) tables both.1 in
    let count = rows_count a t in
    ((here.0, rest.0), AgreesFrom-append a _ _ first _ (omega (arith, count)) here.1 rest.1)

tables_hold : (a : Assignment) (place first : ℕ) (tables : List TableValue)
    → AgreesFrom a place (map (λ t. table_value t (signals a)) tables) → AgreesFrom a first (row_values tables (signals a))
    → clauses_value a (tables_clauses place first tables) ≡ true
unfolding AgreesFrom
tables_hold a place first [] h k = refl
tables_hold a place first (t ∷ tables) h k =
    let count = rows_count a t in
    let rows = AgreesFrom-parts a (map (λ (marks : List Mark). row_matches marks t.pins (signals a)) t.rows) (row_values tables (signals a)) first (first + length t.rows) (omega (arith, count)) k in
    list_all-append (clause_value a) (table_clauses place first t) (tables_clauses (suc place) (first + length t.rows) tables)
    ∙ and_from _ _ (table_holds a place first t h.0 rows.0) (tables_hold a (suc place) (first + length t.rows) tables h.1 rows.1)

-- two assignments that agree at each table's pins
PinsAgree : (v w : Assignment) → List TableValue → Type 0
PinsAgree v w tables = AllByRecursion (λ t. AllByRecursion (λ s. v s ≡ w s) t.pins) tables

map-same : (f g : List Mark → Bool) (rows : List (List Mark)) → ((marks : List Mark) → f marks ≡ g marks) → map f rows ≡ map g rows
map-same f g [] h = refl
map-same f g (marks ∷ rows) h = let rest = map-same f g rows h in let here = h marks in cc

row_values-same : (v w : Assignment) (tables : List TableValue) → PinsAgree v w tables → row_values tables v ≡ row_values tables w
unfolding PinsAgree
row_values-same v w [] h = refl
row_values-same v w (t ∷ tables) h =
    let here = map-same (λ marks. row_matches marks t.pins v) (λ marks. row_matches marks t.pins w) t.rows (λ marks. row_matches-same marks t.pins v w h.0) in
    let rest = row_values-same v w tables h.1 in
    cc (here, rest)

table_values-same : (v w : Assignment) (tables : List TableValue) → PinsAgree v w tables → map (λ t. table_value t v) tables ≡ map (λ t. table_value t w) tables
unfolding PinsAgree
table_values-same v w [] h = refl
table_values-same v w (t ∷ tables) h =
    let here = table_value-same t v w h.0 in
    let rest = table_values-same v w tables h.1 in
    cc (here, rest)

row_values-length : (v : Assignment) (tables : List TableValue) → length (row_values tables v) ≡ sum_by (λ t. length t.rows) tables
row_values-length v [] = refl
row_values-length v (t ∷ tables) =
    let here : length (map (λ marks. row_matches marks t.pins v) t.rows) ≡ length t.rows = length-map t.rows _ in
    let rest = row_values-length v tables in
    length-append (map (λ marks. row_matches marks t.pins v) t.rows) (row_values tables v) ∙ cc (here, rest, sum_by-cons (λ (u : TableValue). length u.rows) t tables)

each_table : (P : TableValue → Type 0) (tables : List TableValue) → ((i : ℕ) → i < length tables → P (table_at tables i)) → AllByRecursion P tables
each_table P [] h = tt
each_table P (t ∷ tables) h = (h zero (omega arith), each_table P tables (λ i within. h (suc i) (omega arith)))

-- each table of acyclic tables reads signals
pins_within : (n : ℕ) (tables : List TableValue) → IsAcyclic n tables → AllByRecursion (λ t. AllByRecursion (λ s. s < n + length tables) t.pins) tables
pins_within n tables h =
    each_table (λ t. AllByRecursion (λ s. s < n + length tables) t.pins) tables
    (λ i within. each_member (λ s. s < n + length tables) (table_at tables i).pins (λ p c. pin_is_signal n tables i p h within c))

each_table_weaker : (P Q : TableValue → Type 0) → ((t : TableValue) → P t → Q t) → (tables : List TableValue) → AllByRecursion P tables → AllByRecursion Q tables
each_table_weaker P Q f [] h = tt
each_table_weaker P Q f (t ∷ tables) h = (f t h.0, each_table_weaker P Q f tables h.1)

-- what holds of each signal holds of each pin of acyclic tables
pub each_pin : (P : ℕ → Type 0) (n : ℕ) (tables : List TableValue) → IsAcyclic n tables → ((s : ℕ) → s < n + length tables → P s)
    → AllByRecursion (λ t. AllByRecursion P t.pins) tables
each_pin P n tables h each =
    each_table_weaker (λ t. AllByRecursion (λ s. s < n + length tables) t.pins) (λ t. AllByRecursion P t.pins)
    (λ t pins. each_weaker (λ s. s < n + length tables) P t.pins each pins) tables (pins_within n tables h)

-- assignments that agree on all signals of acyclic tables agree at each pin
pins_agree : (n : ℕ) (tables : List TableValue) → IsAcyclic n tables → (v w : Assignment) → ((s : ℕ) → s < n + length tables → v s ≡ w s) → PinsAgree v w tables
unfolding PinsAgree
pins_agree n tables h v w same = each_pin (λ s. v s ≡ w s) n tables h same

model_values : (n : ℕ) (tables : List TableValue) (x : List Bool) → IsAcyclic n tables → (a : Assignment) → IsModelAt n tables x a → HasPlaceValues n tables x a
unfolding net_clauses
model_values n tables x h a m =
    let agree = tables_agree a n (n + length tables) tables m.satisfies in
    let count : length (map (λ t. table_value t (signals a)) tables) ≡ length tables = length-map tables _ in
    let consistent : IsConsistent n tables x (signals a) = record {
      input = m.inputs;
      table = λ i within.
          AgreesFrom-at a (map (λ t. table_value t (signals a)) tables) n i (n + i) agree.0 (omega arith) refl
          ∙ get_or-map (λ t. table_value t (signals a)) tables i no_table false within;
    } in
    let only = (value_law n tables x h).only (signals a) consistent in
    let rows = row_values-same (signals a) (value_of n tables x) tables (pins_agree n tables h (signals a) (value_of n tables x) only) in
    let wide = row_values-length (signals a) tables in
    λ k within.
    elim (cases_lt k (n + length tables)) [
      | inl low ↦ rw (lt-ltb k (n + length tables) low) (only k low)
      | inr high ↦ rw (le-ltb k (n + length tables) high)
          (AgreesFrom-at a (row_values tables (signals a)) (n + length tables) (k - (n + length tables)) k agree.1 (omega arith) (omega arith)
          ∙ ap (λ l. get_or l (k - (n + length tables)) false) rows)
    ]

-- where each variable has the value of what it stands for, the rows' variables say whether the rows match
pub rows_have_values : (n : ℕ) (tables : List TableValue) (x : List Bool) (a : Assignment) → HasPlaceValues n tables x a
    → AgreesFrom a (n + length tables) (row_values tables (value_of n tables x))
rows_have_values n tables x a m =
    let v : Assignment = value_of n tables x in
    let wide = row_values-length v tables in
    AgreesFrom-from a (row_values tables v) (n + length tables)
    (λ j within.
    let past : n + length tables ≤ n + length tables + j = omega arith in
    let place : (n + length tables + j) - (n + length tables) ≡ j = omega arith in
    let is = rw (le-ltb (n + length tables + j) (n + length tables) past) at (m (n + length tables + j) (omega arith)) in
    is ∙ ap (λ i. get_or (row_values tables v) i false) place)

values_model : (n : ℕ) (tables : List TableValue) (x : List Bool) → IsAcyclic n tables → (a : Assignment) → HasPlaceValues n tables x a → IsModelAt n tables x a
unfolding net_clauses
values_model n tables x h a m =
    let v : Assignment = value_of n tables x in
    let consistent = (value_law n tables x h).consistent in
    let same = λ (s : ℕ) (low : s < n + length tables). rw (lt-ltb s (n + length tables) low) at (m s (omega arith)) in
    let agree = pins_agree n tables h (signals a) v same in
    let count : length (map (λ t. table_value t v) tables) ≡ length tables = length-map tables _ in
    let of_tables : AgreesFrom a n (map (λ t. table_value t v) tables) =
    AgreesFrom-from a (map (λ t. table_value t v) tables) n
    (λ j within. same (n + j) (omega arith) ∙ consistent.table j (omega arith) ∙ sym (get_or-map (λ t. table_value t v) tables j no_table false (omega arith))) in
    record {
      satisfies = tables_hold a n (n + length tables) tables
          (subst (AgreesFrom a n) (sym (table_values-same (signals a) v tables agree)) of_tables)
          (subst (AgreesFrom a (n + length tables)) (sym (row_values-same (signals a) v tables agree)) (rows_have_values n tables x a m));
      inputs = λ s low. same s (omega arith) ∙ consistent.input s low;
    }

place_values_model : (n : ℕ) (tables : List TableValue) (x : List Bool) → IsAcyclic n tables → IsModelAt n tables x (by_place (place_value n tables x))
place_values_model n tables x h = values_model n tables x h (by_place (place_value n tables x)) (λ k within. refl)

pub goal_clauses-value : (n : ℕ) (tables : List TableValue) (signal : ℕ) (a : Assignment) → clauses_value a (goal_clauses n tables signal) ≡ (clauses_value a (net_clauses n tables) && a (suc signal))
unfolding goal_clauses
goal_clauses-value n tables signal a =
    list_all-append (clause_value a) (net_clauses n tables) ((literal_at signal true ∷ []) ∷ [])
    ∙ ap (λ b. clauses_value a (net_clauses n tables) && b) (and_end (a (suc signal) || false) ∙ or_false (a (suc signal)))

pub at_signal : (n : ℕ) (tables : List TableValue) (x : List Bool) (a : Assignment) (signal : ℕ) → signal < n + length tables → HasPlaceValues n tables x a
    → a (suc signal) ≡ value_of n tables x signal
at_signal n tables x a signal within v = rw (lt-ltb signal (n + length tables) within) at (v signal (omega arith))

goal_vector : (n : ℕ) (tables : List TableValue) (signal : ℕ) → IsAcyclic n tables → signal < n + length tables → (a : Assignment) → clauses_value a (goal_clauses n tables signal) ≡ true
    → (x : List Bool) × (length x ≡ n) × (value_of n tables x signal ≡ true)
goal_vector n tables signal h within a e =
    let both = and_parts _ _ (sym (goal_clauses-value n tables signal a) ∙ e) in
    let wide = length-values_from a 0 n in
    let m : IsModelAt n tables (values_from a 0 n) a = record {
      satisfies = both.0;
      inputs = λ s low. AgreesFrom-at a (values_from a 0 n) 0 s s (AgreesFrom-values_from a 0 n) (omega (arith, wide)) (omega arith);
    } in
    (values_from a 0 n, wide, sym (at_signal n tables (values_from a 0 n) a signal within (model_values n tables (values_from a 0 n) h a m)) ∙ both.1)

goal_model : (n : ℕ) (tables : List TableValue) (signal : ℕ) → IsAcyclic n tables → signal < n + length tables → (x : List Bool) → value_of n tables x signal ≡ true
    → Satisfies (by_place (place_value n tables x)) (goal_clauses n tables signal)
goal_model n tables signal h within x e =
    goal_clauses-value n tables signal (by_place (place_value n tables x))
    ∙ and_from _ _ (place_values_model n tables x h).satisfies
    (at_signal n tables x (by_place (place_value n tables x)) signal within (λ k low. refl) ∙ e)

pub net_clause_law : NetClauseLaw
net_clause_law = record {
  exactly = λ n tables x h a. (model_values n tables x h a, values_model n tables x h a);
  some = place_values_model;
  only = λ n tables x h a b m k place within. model_values n tables x h a m place within ∙ sym (model_values n tables x h b k place within);
  signals = λ n tables x h a m s within. at_signal n tables x a s within (model_values n tables x h a m);
}

pub goal_law : GoalLaw
goal_law = λ n tables signal h within. (
  λ m. goal_vector n tables signal h within m.0 m.1,
  λ m. (by_place (place_value n tables m.0), goal_model n tables signal h within m.0 m.2),
)
