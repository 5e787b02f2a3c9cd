-- A refutation by cases: for each input vector a step that derives the negation of the vector from the
-- clauses of the net; then these clauses are joined two at a time. A step names only the clauses of the
-- tables on which the output's value depends at its vector. Source: Shannon's expansion, unit propagation in
-- an order in which tables can be evaluated, and the cone of influence under given values.
use Rattle.std.specs.Prelude.{ℕ, zero, suc, ◌+◌, Bool, true, false, not, if◌then◌else◌, List, [], ◌∷◌, ◌++◌}
use Rattle.std.specs.Prelude.{length, replicate, slice_index, slice_index_or, slice_set}
use Rattle.semantics.specs.declared.mark.Mark.{Mark}
use Rattle.semantics.specs.Net.{TableValue, is_literal, row_literals, table_literals, table_at}
use Rattle.semantics.specs.Value.{Assignment, mark_matches, row_matches, value_of}
use Rattle.proof_semantics.specs.declared.item.Item.TheVariants.{Add}
use Rattle.proof_semantics.specs.Clauses.{Clause}
use Rattle.proof_semantics.specs.NetClauses.{literal_at}
use Rattle.proof_semantics.specs.Variables.{table_clause_count}
use Rattle.proof_semantics.specs.Logs.{StepValue, LogItem}

-- the clause that is false exactly where the inputs from a place on have these bits
abbrev pub negation_from : ℕ → List Bool → Clause
negation_from place [] = []
negation_from place (bit ∷ bits) = literal_at place (not bit) ∷ negation_from (suc place) bits

abbrev pub negation : List Bool → Clause
negation bits = negation_from 0 bits

-- The clause that decides a row's variable, among the row's clauses, which have the ids from `next` on: the
-- clause of the first literal that is false, and where none is, the last clause, of all literals.
abbrev pub row_hint : ℕ → List Mark → List ℕ → Assignment → ℕ
row_hint next [] pins v = next
row_hint next (m ∷ marks) [] v = next
row_hint next (m ∷ marks) (s ∷ pins) v =
    if mark_matches m (v s) then row_hint (if is_literal m then next + 1 else next) marks pins v else next

-- The hints of a row that matches: the clause that decides its variable, and the clause that says that the
-- row implies the plane. The clauses of the rows have the ids from `next` on, and the clauses that say that a
-- row implies the plane have the ids from `implied` on.
abbrev pub match_hints : ℕ → ℕ → List ℕ → List (List Mark) → Assignment → List ℕ
match_hints next implied pins [] v = []
match_hints next implied pins (marks ∷ rows) v =
    if row_matches marks pins v then row_hint next marks pins v ∷ implied ∷ []
    else match_hints (next + row_literals marks + 1) (implied + 1) pins rows v

-- The hints where no row matches: the clause that decides each row, and the clause behind the implications,
-- which says that some row matches or the table has the opposite of its plane.
abbrev pub failing_hints : ℕ → ℕ → List ℕ → List (List Mark) → Assignment → List ℕ
failing_hints next implied pins [] v = implied ∷ []
failing_hints next implied pins (marks ∷ rows) v
    = row_hint next marks pins v ∷ failing_hints (next + row_literals marks + 1) (implied + 1) pins rows v

-- whether a table of this plane and this value has a row that matches
abbrev pub has_match : Bool → Bool → Bool
has_match plane value = if plane then value else not value

-- The signals whose values hints rest on, by a flag for each signal: those that are needed already, and those
-- that a row asks for a value,
abbrev pub asked_by_row : List Mark → List ℕ → List Bool → List Bool
asked_by_row [] pins needed = needed
asked_by_row (m ∷ marks) [] needed = needed
asked_by_row (m ∷ marks) (s ∷ pins) needed
    = asked_by_row marks pins (if is_literal m then slice_set needed s true else needed)

-- that of a row's first literal that is false,
abbrev pub asked_by_failing : List Mark → List ℕ → Assignment → List Bool → List Bool
asked_by_failing [] pins v needed = needed
asked_by_failing (m ∷ marks) [] v needed = needed
asked_by_failing (m ∷ marks) (s ∷ pins) v needed =
    if mark_matches m (v s) then asked_by_failing marks pins v needed else slice_set needed s true

-- those of the first row that matches,
abbrev pub asked_by_match : List ℕ → List (List Mark) → Assignment → List Bool → List Bool
asked_by_match pins [] v needed = needed
asked_by_match pins (marks ∷ rows) v needed =
    if row_matches marks pins v then asked_by_row marks pins needed else asked_by_match pins rows v needed

-- and one for each row.
abbrev pub asked_by_rows : List ℕ → List (List Mark) → Assignment → List Bool → List Bool
asked_by_rows pins [] v needed = needed
asked_by_rows pins (marks ∷ rows) v needed = asked_by_failing marks pins v (asked_by_rows pins rows v needed)

-- the id of the first clause of each table, and then the id of the clause behind those of all tables
abbrev pub first_ids : ℕ → List TableValue → List ℕ
first_ids next [] = next ∷ []
first_ids next (t ∷ tables) = next ∷ first_ids (next + table_clause_count t) tables

-- the hints of the table of signal s whose clauses have the ids from `next` on
abbrev pub hints_from : ℕ → ℕ → TableValue → Assignment → List ℕ
hints_from next s t v =
    if has_match t.plane (v s) then match_hints next (next + table_literals t + length t.rows) t.pins t.rows v
    else failing_hints next (next + table_literals t + length t.rows) t.pins t.rows v

-- the signals on which these hints depend join the signals that are needed
abbrev pub asked_by_table : ℕ → TableValue → Assignment → List Bool → List Bool
asked_by_table s t v needed
    = if has_match t.plane (v s) then asked_by_match t.pins t.rows v needed
    else asked_by_rows t.pins t.rows v needed

-- Over n inputs: the signals that are needed before the tables of an order, where `needed` are needed behind
-- them. A needed table is known from its hints, and needs the signals on which its hints depend.
abbrev pub needed_before : ℕ → List TableValue → Assignment → List Bool → List ℕ → List Bool
needed_before n tables v needed [] = needed
needed_before n tables v needed (i ∷ order) =
    let behind : List Bool = needed_before n tables v needed order in
    if slice_index_or behind (n + i) false
    then asked_by_table (n + i) (table_at tables i) v (slice_set behind (n + i) false) else behind

-- the hints of the needed tables of an order, and then the clause behind those of all tables, which says that
-- the output is true
abbrev pub hints_before : ℕ → List TableValue → Assignment → List Bool → List ℕ → List ℕ
hints_before n tables v needed [] = slice_index (first_ids 1 tables) (length tables) ∷ []
hints_before n tables v needed (i ∷ order) =
    (if slice_index_or (needed_before n tables v needed order) (n + i) false
    then hints_from (slice_index (first_ids 1 tables) i) (n + i) (table_at tables i) v else [])
    ++ hints_before n tables v needed order

-- only this signal is needed
abbrev pub only_needed : ℕ → ℕ → List Bool
only_needed signals s = slice_set (replicate signals false) s true

-- the hints along which the output ends in a conflict
abbrev pub ordered_hints : ℕ → List TableValue → List ℕ → ℕ → Assignment → List ℕ
ordered_hints n tables order output v = hints_before n tables v (only_needed (n + length tables) output) order

-- the step that derives the negation of an input vector
abbrev pub vector_step : ℕ → ℕ → List TableValue → List ℕ → ℕ → List Bool → StepValue
vector_step id n tables order output x
    = record {
      id = id;
      literals = negation x;
      hints = ordered_hints n tables order output (value_of n tables x);
    }

-- The step that joins the clauses with these ids, which differ in the sign of their last literal.
abbrev pub join_step : ℕ → List Bool → ℕ → ℕ → StepValue
join_step id front half other = record { id = id; literals = negation front; hints = half ∷ other ∷ [] }

-- the number of steps that derive the negation of a front with `free` inputs behind it
abbrev pub step_count : ℕ → ℕ
step_count zero = 1
step_count (suc free) = step_count free + step_count free + 1

-- The steps after the id `last` that derive the negation of the front `front`, with `free` inputs behind it:
-- the steps of both halves, and their join.
unfoldable pub cases_from : ℕ → List TableValue → List ℕ → ℕ → ℕ → List Bool → ℕ → List LogItem
cases_from n tables order output zero front last
    = Add (vector_step (last + 1) n tables order output front) ∷ []
cases_from n tables order output (suc free) front last =
    cases_from n tables order output free (front ++ false ∷ []) last
    ++ (cases_from n tables order output free (front ++ true ∷ []) (last + step_count free)
    ++ Add (join_step (last + step_count (suc free)) front (last + step_count free)
    (last + step_count free + step_count free)) ∷ [])
