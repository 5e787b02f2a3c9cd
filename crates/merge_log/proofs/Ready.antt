-- What is at hand where a table is made equal to another.
use Rattle.std.proofs.Common.{◌≡◌, ℕ, zero, suc, ◌+◌, ◌*◌, ◌<◌, ◌≤◌, ◌^◌, true, false, List, [], ◌∷◌, ◌++◌, length, get_or, take, drop, set, refl, ap, subst, sym, ◌∙◌, arith, sum_by, inl, inr, Some}
use Rattle.std.specs.Prelude.{All, Contains, slice_get}
use Rattle.std.specs.List.{AllZip, AllByRecursion}
use Rattle.std.proofs.lemmas.List.{take-append-drop, take-take, take_more}
use Rattle.std.proofs.lemmas.List.Elements.{All-append, All-from_recursion, All-weaker, All-contains_itself}
use Rattle.std.proofs.lemmas.List.Sums.{sum_by-append, sum_by-cons}
use Rattle.semantics.specs.Net.{TableValue, NetValue, input_count, table_count, signal_count, no_table, table_at, IsTable}
use Rattle.semantics.proofs.Depends.{pin_is_signal}
use Rattle.net_core.specs.Built.{IsBuilt}
use Rattle.proof_semantics.specs.Clauses.{Clause}
use Rattle.proof_semantics.specs.NetClauses.{literal_at, table_clauses}
use Rattle.proof_semantics.specs.Variables.{table_clause_count}
use Rattle.proof_semantics.specs.Formula.{goal_of}
use Rattle.proof_semantics.specs.Conflicts.{clauses_with}
use Rattle.proof_semantics.specs.Merges.{IsPair}
use Rattle.proof_semantics.proofs.Counts.{length-goal_clauses, length-net_clauses}
use Rattle.merge_log.specs.Chains.{MergedValue, first_of}
use Rattle.merge_log.specs.Ids.{HaveIds, forth, back}
use Rattle.merge_log.specs.Steps.{Adds, IsTableAt, AreToMerge, row_pairs, first_row, first_clause}
use Rattle.merge_log.specs.Places.{place_of}
use Rattle.merge_log.specs.declared.placed.PlacedTable.{PlacedTable}
use Rattle.merge_log.specs.Forms.{FormValue, form_of, IsNumbered}
use Rattle.merge_log.specs.Levels.{AreLevels}
use Rattle.merge_log.specs.Merging.{MergingValue, IsMerging, IsFound, level_at}
use Rattle.merge_log.proofs.ClauseIds.{ids-parts}
use Rattle.merge_log.proofs.TableParts.{pairs_stand, length-pairs}
use Rattle.merge_log.proofs.TablePlaces.{placed}
use Rattle.merge_log.proofs.Merging.{found_plane, found_pins, found_rows, found_earlier, merging_found, merging_new}

-- ---- sizes

-- the rows of a table end where those of the next begin, and before those of a later one
sum_more : (f : TableValue → ℕ) (tables : List TableValue) (i : ℕ) → i < length tables → sum_by f (take (i + 1) tables) ≡ sum_by f (take i tables) + f (table_at tables i)
sum_more f tables i low =
    ap (sum_by f) (take_more tables i no_table low) ∙ sum_by-append f (take i tables) (table_at tables i ∷ []) ∙ omega (arith, sum_by-cons f (table_at tables i) [])

sum_most : (f : TableValue → ℕ) (tables : List TableValue) (i : ℕ) → sum_by f (take i tables) ≤ sum_by f tables
sum_most f tables i =
    let whole : sum_by f (take i tables ++ drop i tables) ≡ sum_by f tables = ap (sum_by f) (take-append-drop i tables) in
    omega (arith, whole, sum_by-append f (take i tables) (drop i tables))

sum_up : (f : TableValue → ℕ) (tables : List TableValue) (i j : ℕ) → i ≤ j → sum_by f (take i tables) ≤ sum_by f (take j tables)
sum_up f tables i j low =
    let both : take i (take j tables) ≡ take i tables = take-take i j tables low in
    let most = sum_most f (take j tables) i in
    omega (arith, most, ap (sum_by f) both)

module _ (N : NetValue) (built : IsBuilt N) where
  formed : All IsTable N.tables
  formed = built.sound.tables_formed

  widths : All (λ t. All (λ marks. length marks ≡ length t.pins) t.rows) N.tables
  widths = All-weaker IsTable (λ t. All (λ marks. length marks ≡ length t.pins) t.rows) (λ t h. h.widths) N.tables formed

  pub pins_inside : (k i : ℕ) → k ≡ signal_count N → i < table_count N → All (λ p. p < k) (table_at N.tables i).pins
  pins_inside k i count low =
      All-weaker (Contains (table_at N.tables i).pins) (λ p. p < k)
      (λ p c. omega (arith, count, pin_is_signal (input_count N) N.tables i p built.sound.acyclic low c)) (table_at N.tables i).pins (All-contains_itself (table_at N.tables i).pins)

  pub clauses_at : (i : ℕ) → i < table_count N → HaveIds (goal_of N).clauses (first_clause N.tables i) (table_clauses (input_count N + i) (first_row (input_count N) N.tables i) (table_at N.tables i))
  clauses_at i low = placed (input_count N) N.tables _ i widths low

  pub row_within : (i : ℕ) → i < table_count N → first_row (input_count N) N.tables i + length (table_at N.tables i).rows ≤ (goal_of N).variables
  row_within i low =
      let more = sum_more (λ (t : TableValue). length t.rows) N.tables i low in
      let most = sum_most (λ (t : TableValue). length t.rows) N.tables (i + 1) in
      omega (arith, more, most)

  pub signal_within : (i : ℕ) → i < table_count N → input_count N + i < (goal_of N).variables
  signal_within i low = omega (arith, low)

  pub clause_few : (i : ℕ) → sum_by table_clause_count N.tables < 2 ^ 60 → i < table_count N → first_clause N.tables i + table_clause_count (table_at N.tables i) < 2 ^ 61
  clause_few i few low =
      let more = sum_more table_clause_count N.tables i low in
      let most = sum_most table_clause_count N.tables (i + 1) in
      omega (arith, more, most, few)

  pub rows_apart : (i j : ℕ) → i < table_count N → i < j → first_row (input_count N) N.tables i + length (table_at N.tables i).rows ≤ first_row (input_count N) N.tables j
  rows_apart i j low before =
      let more = sum_more (λ (t : TableValue). length t.rows) N.tables i low in
      let up = sum_up (λ (t : TableValue). length t.rows) N.tables (i + 1) j (omega (arith, before)) in
      omega (arith, more, up)

  -- a table with its place stands in the goal
  pub table_stands : sum_by table_clause_count N.tables < 2 ^ 60 → (m : MergedValue) → length m.firsts ≡ signal_count N → (t : ℕ) → t < table_count N → (p : PlacedTable)
      → p.signal ≡ input_count N + t → p.table.now ≡ table_at N.tables t → p.place ≡ place_of (input_count N) N.tables t → IsTableAt (goal_of N) m p
  table_stands few m count t low p signal table place = record {
    pins_in = rw table (pins_inside (length m.firsts) t count low);
    clauses = rw (signal, table, place) (clauses_at t low);
    signal = rw signal (signal_within t low);
    rows_in = rw (table, place) (row_within t low);
    few = rw (table, place) (clause_few t few low);
  }

-- ---- pairs

pub forth_pair : (s u : ℕ) → (s ≡ u → ⊥) → IsPair (forth s u)
forth_pair s u ne = (literal_at s false, literal_at u true, refl, λ e. ne (omega (arith, e)))

pub back_pair : (s u : ℕ) → (s ≡ u → ⊥) → IsPair (back s u)
back_pair s u ne = (literal_at s true, literal_at u false, refl, λ e. ne (omega (arith, e)))

pairs_rec : (count row other : ℕ) → other + count ≤ row → AllByRecursion IsPair (row_pairs row other count)
pairs_rec zero row other apart = tt
pairs_rec (suc count) row other apart =
    let ne : row ≡ other → ⊥ = λ e. omega (arith, e, apart) in (forth_pair row other ne, (back_pair row other ne, pairs_rec count (suc row) (suc other) (omega (arith, apart))))

pub all_pairs : (count row other s u : ℕ) → other + count ≤ row → (s ≡ u → ⊥) → All IsPair (row_pairs row other count ++ forth s u ∷ back s u ∷ [])
all_pairs count row other s u apart ne =
    All-append IsPair (row_pairs row other count) (forth s u ∷ back s u ∷ []) (All-from_recursion IsPair (row_pairs row other count) (pairs_rec count row other apart))
    (All-from_recursion IsPair (forth s u ∷ back s u ∷ []) (forth_pair s u ne, (back_pair s u ne, tt)))

-- ---- one table made equal

module _ (N : NetValue) (built : IsBuilt N) (levels : List ℕ) (t : ℕ) (g : MergingValue) (kind : ℕ) (h : IsFound N levels t g kind) where
  pub other : ℕ
  other = get_or g.tables kind 0

  pub other_within : get_or g.tables kind 0 < table_count N
  other_within = (h.merging.kinds kind h.within).table

  pub ready_plane : (table_at N.tables t).plane ≡ (table_at N.tables (get_or g.tables kind 0)).plane
  ready_plane = found_plane N built.sound.acyclic levels h.levels_are (level_at N levels t) t g h.merging h.table refl kind h.within h.form (formed N built)

  pub ready_rows : (table_at N.tables t).rows ≡ (table_at N.tables (get_or g.tables kind 0)).rows
  ready_rows = found_rows N built.sound.acyclic levels h.levels_are (level_at N levels t) t g h.merging h.table refl kind h.within h.form (formed N built)

  pub ready_pins : AllZip (λ p q. first_of g.merged p ≡ first_of g.merged q) (table_at N.tables t).pins (table_at N.tables (get_or g.tables kind 0)).pins
  ready_pins = found_pins N built.sound.acyclic levels h.levels_are (level_at N levels t) t g h.merging h.table refl kind h.within h.form (formed N built)

  pub ready_alike : AreToMerge g.merged (table_at N.tables t) (table_at N.tables (get_or g.tables kind 0))
  ready_alike = record { plane = ready_plane; rows = ready_rows; pins = ready_pins }

  pub ready_earlier : get_or g.tables kind 0 < t
  ready_earlier =
      let before = found_earlier N built.sound.acyclic levels h.levels_are (level_at N levels t) t g h.merging h.table refl kind h.within h.form (formed N built) in omega (arith, before)

  pub ready_merged : (later : MergingValue) (id : ℕ) → later.forms ≡ g.forms → later.tables ≡ g.tables
      → later.merged ≡ record { firsts = set g.merged.firsts (input_count N + t) (input_count N + get_or g.tables kind 0); ids = set g.merged.ids (input_count N + t) id }
      → length g.merged.ids ≡ length g.merged.firsts
      → Adds (goal_of N) g.log later.log
      (row_pairs (first_row (input_count N) N.tables t) (first_row (input_count N) N.tables (get_or g.tables kind 0)) (length (table_at N.tables t).rows)
      ++ forth (input_count N + t) (input_count N + get_or g.tables kind 0) ∷ back (input_count N + t) (input_count N + get_or g.tables kind 0) ∷ [])
      → id ≡ length (goal_of N).clauses + length g.log + 2 * length (table_at N.tables t).rows + 1 → IsMerging N levels (level_at N levels t) (t + 1) later
  ready_merged later id forms tables merged room adds is =
      let count : ℕ = length (table_at N.tables t).rows in
      let i : ℕ = get_or g.tables kind 0 in
      let s : ℕ = input_count N + t in
      let u : ℕ = input_count N + i in
      let row : ℕ = first_row (input_count N) N.tables t in
      let other_row : ℕ = first_row (input_count N) N.tables i in
      let next : suc t ≡ t + 1 = omega arith in
      let first : ℕ = length (goal_of N).clauses + length g.log + 1 in
      let all : List Clause = clauses_with (goal_of N).clauses later.log in
      let stand = pairs_stand (goal_of N) g.log later.log _ first h.merging.derivation adds refl in
      let parts = ids-parts all (row_pairs row other_row count) (forth s u ∷ back s u ∷ []) first id (omega (arith, is, length-pairs row other_row count)) stand in
      let apart : other_row + count ≤ row =
      omega (arith, rows_apart N built i t other_within ready_earlier, ap length ready_rows) in
      subst (λ k. IsMerging N levels (level_at N levels t) k later) next
      (merging_found N built.sound.acyclic levels h.levels_are (level_at N levels t) t g h.merging h.table refl kind h.within h.form (formed N built) later id _ forms tables merged room
      (omega (arith, is)) adds
      (all_pairs count row other_row s u apart (λ e. omega (arith, e, ready_earlier))) parts.1.0 parts.1.1.0)

-- ---- the number of a form

pub numbered_found : (N : NetValue) (levels : List ℕ) (level t : ℕ) (g : MergingValue) (forms : List FormValue) (form : FormValue) (kind : ℕ) → AreLevels (input_count N) N.tables levels
    → t < table_count N → get_or levels (input_count N + t) 0 ≡ level → IsMerging N levels level t g → form ≡ form_of g.merged (table_at N.tables t) → IsNumbered g.forms forms form kind
    → kind < length g.tables → IsFound N levels t (record { log = g.log; merged = g.merged; forms = forms; tables = g.tables }) kind
numbered_found N levels level t g forms form kind are low here h is (inl old) within = record {
  levels_are = are;
  table = low;
  merging = subst (λ l. IsMerging N levels (level_at N levels t) t (record { log = g.log; merged = g.merged; forms = l; tables = g.tables })) (sym old.1)
      (subst (λ k. IsMerging N levels k t g) (sym here) h);
  within = within;
  form = ap (λ l. slice_get l kind) old.1 ∙ old.2 ∙ ap Some is;
}
numbered_found N levels level t g forms form kind are low here h is (inr new) within = absurd (omega (arith, new.0, h.forms_count, within))

-- at a level that is the table's
pub at_level : {N : NetValue} {levels : List ℕ} {level next : ℕ} {g : MergingValue} (t : ℕ) → level_at N levels t ≡ level → IsMerging N levels (level_at N levels t) next g
    → IsMerging N levels level next g
at_level {N} {levels} {next = next} {g = g} t here h = subst (λ k. IsMerging N levels k next g) here h

pub numbered_new : (N : NetValue) (built : IsBuilt N) (levels : List ℕ) (level t : ℕ) (g : MergingValue) (forms : List FormValue) (form : FormValue) (tables : List ℕ) (kind : ℕ)
    → AreLevels (input_count N) N.tables levels → t < table_count N → get_or levels (input_count N + t) 0 ≡ level → IsMerging N levels level t g
    → form ≡ form_of g.merged (table_at N.tables t) → IsNumbered g.forms forms form kind → length g.tables ≤ kind → tables ≡ g.tables ++ t ∷ []
    → IsMerging N levels level (t + 1) (record { log = g.log; merged = g.merged; forms = forms; tables = tables })
numbered_new N built levels level t g forms form tables kind are low here h is (inl old) past grown = absurd (omega (arith, old.0, h.forms_count, past))
numbered_new N built levels level t g forms form tables kind are low here h is (inr new) past grown =
    let next : suc t ≡ t + 1 = omega arith in
    let later : MergingValue = record { log = g.log; merged = g.merged; forms = forms; tables = tables } in
    subst (λ k. IsMerging N levels level k later) next
    (merging_new N built.sound.acyclic levels are level t g h low here later refl refl (new.1 ∙ ap (λ f. g.forms ++ f ∷ []) is) grown (subst (λ f. ¬ Contains g.forms f) is new.2))

-- ---- how many clauses there are

pub clauses_counted : (N : NetValue) → IsBuilt N → length (goal_of N).clauses ≡ sum_by table_clause_count N.tables + 1
clauses_counted N built =
    length-goal_clauses (input_count N) N.tables _ ∙ ap (λ k. k + 1) (length-net_clauses (input_count N) N.tables (widths N built))
