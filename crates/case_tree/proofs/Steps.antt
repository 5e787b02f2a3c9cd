-- How the code's lists of hints and steps grow.
use Rattle.std.proofs.Common.{◌≡◌, ℕ, zero, suc, ◌+◌, ◌-◌, ◌^◌, ◌<◌, ◌≤◌, Bool, true, false, cond, List, [], ◌∷◌, ◌++◌, length, get_or, set, drop, replicate, reverse, refl, ap, sym, subst, ◌∙◌}
use Rattle.std.proofs.Common.{arith, append_assoc, drop-cons, sum_by}
use Rattle.std.specs.List.{AllByRecursion}
use Rattle.std.proofs.lemmas.List.{reverse-append, reverse-reverse, drop_more}
use Rattle.std.proofs.lemmas.List.Sums.{sum_by-cons, sum_by-take-drop}
use Rattle.semantics.specs.declared.mark.Mark.{Mark}
use Rattle.semantics.specs.declared.mark.Mark.TheVariants.{Zero, One, Dash}
use Rattle.semantics.specs.Net.{TableValue, IsAcyclic, is_literal, row_literals, table_literals, no_table, table_at}
use Rattle.semantics.specs.Value.{Assignment, row_matches}
use Rattle.semantics.specs.Order.{IsOrderOf}
use Rattle.semantics.proofs.Ordered.{order-tables}
use Rattle.std.proofs.lemmas.List.Elements.{All-from_recursion}
use Rattle.semantics.proofs.Values.{row_matches-same}
use Rattle.proof_semantics.specs.Variables.{table_clause_count}
use Rattle.proof_semantics.proofs.NetValues.{each_pin}
use Rattle.case_tree.specs.Cases.{row_hint, match_hints, failing_hints, has_match, asked_by_row, asked_by_failing, asked_by_match, asked_by_rows, asked_by_table, first_ids, hints_from, needed_before}
use Rattle.case_tree.specs.Cases.{hints_before, only_needed, ordered_hints}
use Rattle.case_tree.proofs.Needs.{set_flag}
use Rattle.case_tree.proofs.Vectors.{rows_clause_count}

pub table_clauses_counted : (t : TableValue) → table_clause_count t ≡ table_literals t + length t.rows + length t.rows + 1
table_clauses_counted t = omega (arith, rows_clause_count t.rows)

-- ---- one row

row_pushed : (rows : List (List Mark)) (i : ℕ) (row : List Mark) → i < length rows → row ≡ get_or rows i row → drop i rows ≡ row ∷ drop (i + 1) rows
row_pushed rows i row within read =
    let next : i + 1 ≡ suc i = omega arith in
    drop-cons rows i row within ∙ cc (read, next)

-- a row that matches: its two hints join, the last one first
pub match_ends : (id implied : ℕ) (pins : List ℕ) (rows : List (List Mark)) (v : Assignment) (i : ℕ) (row : List Mark) (hints one two all : List ℕ) → i < length rows → row ≡ get_or rows i row
    → row_matches row pins v ≡ true → hints ++ reverse (match_hints id implied pins (drop i rows) v) ≡ all → one ≡ hints ++ implied ∷ [] → two ≡ one ++ row_hint id row pins v ∷ [] → two ≡ all
match_ends id implied pins rows v i row hints one two all within read match invariant first second =
    let rest = row_pushed rows i row within read in
    second ∙ ap (λ l. l ++ row_hint id row pins v ∷ []) first ∙ append_assoc hints (implied ∷ []) (row_hint id row pins v ∷ [])
    ∙ (rw (rest, match) at invariant)

pub match_asked : (pins : List ℕ) (rows : List (List Mark)) (v : Assignment) (i : ℕ) (row : List Mark) (needed one all : List Bool) → i < length rows → row ≡ get_or rows i row
    → row_matches row pins v ≡ true → asked_by_match pins (drop i rows) v needed ≡ all → one ≡ asked_by_row row pins needed → one ≡ all
match_asked pins rows v i row needed one all within read match invariant is =
    let rest = row_pushed rows i row within read in
    is ∙ (rw (rest, match) at invariant)

-- a row that does not
pub match_continues : (id implied : ℕ) (pins : List ℕ) (rows : List (List Mark)) (v : Assignment) (i : ℕ) (row : List Mark) (hints all : List ℕ) → i < length rows → row ≡ get_or rows i row
    → row_matches row pins v ≡ false → hints ++ reverse (match_hints id implied pins (drop i rows) v) ≡ all
    → hints ++ reverse (match_hints (id + (row_literals row + 1)) (implied + 1) pins (drop (i + 1) rows) v) ≡ all
match_continues id implied pins rows v i row hints all within read match invariant =
    let rest = row_pushed rows i row within read in
    let place : id + (row_literals row + 1) ≡ id + row_literals row + 1 = omega arith in
    rw place (rw (rest, match) at invariant)

pub match_asks : (pins : List ℕ) (rows : List (List Mark)) (v : Assignment) (i : ℕ) (row : List Mark) (needed all : List Bool) → i < length rows → row ≡ get_or rows i row
    → row_matches row pins v ≡ false → asked_by_match pins (drop i rows) v needed ≡ all → asked_by_match pins (drop (i + 1) rows) v needed ≡ all
match_asks pins rows v i row needed all within read match invariant =
    let rest = row_pushed rows i row within read in
    rw (rest, match) at invariant

pub rows_left : (rows : List (List Mark)) (i : ℕ) (row : List Mark) → i < length rows → row ≡ get_or rows i row
    → sum_by (λ marks. row_literals marks + 1) (drop i rows) ≡ row_literals row + 1 + sum_by (λ marks. row_literals marks + 1) (drop (i + 1) rows)
rows_left rows i row within read =
    ap (sum_by (λ (marks : List Mark). row_literals marks + 1)) (row_pushed rows i row within read) ∙ sum_by-cons (λ (marks : List Mark). row_literals marks + 1) row (drop (i + 1) rows)

-- one more mark of a row that asks for signals
pub row_asks : (marks : List Mark) (pins : List ℕ) (i : ℕ) (d : Mark) (asks : Bool) (needed one all : List Bool) → i < length marks → length marks ≡ length pins
    → asks ≡ is_literal (get_or marks i d) → one ≡ cond asks (set needed (get_or pins i 0) true) needed
    → asked_by_row (drop i marks) (drop i pins) needed ≡ all → asked_by_row (drop (i + 1) marks) (drop (i + 1) pins) one ≡ all
row_asks marks pins i d asks needed one all within wide is set before =
    let first = drop_more marks i d within in
    let pin = drop_more pins i 0 (omega (arith, within, wide)) in
    let whole : asked_by_row (drop (i + 1) marks) (drop (i + 1) pins) (cond (is_literal (get_or marks i d)) (set_flag needed (get_or pins i 0)) needed) ≡ all = rw (first, pin) at before in
    let here : one ≡ cond (is_literal (get_or marks i d)) (set_flag needed (get_or pins i 0)) needed = set ∙ ap (λ b. cond b (set_flag needed (get_or pins i 0)) needed) is in
    ap (asked_by_row (drop (i + 1) marks) (drop (i + 1) pins)) here ∙ whole

-- one more row from the end on, where none matches
pub failing_more : (next id implied : ℕ) (pins : List ℕ) (rows : List (List Mark)) (v : Assignment) (i : ℕ) (row : List Mark) (hints one old : List ℕ) → i < length rows → row ≡ get_or rows i row
    → next + row_literals row + 1 ≡ id → one ≡ hints ++ row_hint next row pins v ∷ [] → hints ≡ old ++ reverse (failing_hints id (implied + (i + 1)) pins (drop (i + 1) rows) v)
    → one ≡ old ++ reverse (failing_hints next (implied + i) pins (drop i rows) v)
failing_more next id implied pins rows v i row hints one old within read place pushed invariant =
    let rest = row_pushed rows i row within read in
    let count : implied + (i + 1) ≡ implied + i + 1 = omega arith in
    let later : List ℕ = failing_hints id (implied + i + 1) pins (drop (i + 1) rows) v in
    let before : hints ≡ old ++ reverse later = rw count at invariant in
    let turned : reverse (row_hint next row pins v ∷ later) ≡ reverse later ++ row_hint next row pins v ∷ [] = reverse-append (row_hint next row pins v ∷ []) later in
    rw (rest, place, turned)
    (pushed ∙ ap (λ l. l ++ row_hint next row pins v ∷ []) before ∙ append_assoc old (reverse later) (row_hint next row pins v ∷ []))

pub failing_asked : (pins : List ℕ) (rows : List (List Mark)) (v : Assignment) (i : ℕ) (row : List Mark) (needed one old : List Bool) → i < length rows → row ≡ get_or rows i row
    → one ≡ asked_by_failing row pins v needed → needed ≡ asked_by_rows pins (drop (i + 1) rows) v old → one ≡ asked_by_rows pins (drop i rows) v old
failing_asked pins rows v i row needed one old within read is invariant =
    let rest = row_pushed rows i row within read in
    rw rest (is ∙ ap (asked_by_failing row pins v) invariant)

-- the clauses of the rows from one on are some of all
pub rows_within : (rows : List (List Mark)) (i : ℕ) → sum_by (λ marks. row_literals marks + 1) (drop i rows) ≤ sum_by (λ marks. row_literals marks + 1) rows
rows_within rows i =
    omega (arith, sum_by-take-drop (λ (marks : List Mark). row_literals marks + 1) rows i)

-- the hints of the last of the `left` rows, by the terms of the code
pub failing_last : (next id implied : ℕ) (pins : List ℕ) (rows : List (List Mark)) (v : Assignment) (left : ℕ) (row : List Mark) (hints one old : List ℕ) → 0 < left → left ≤ length rows
    → row ≡ get_or rows (left - 1) row → next + row_literals row + 1 ≡ id → one ≡ hints ++ row_hint next row pins v ∷ []
    → hints ≡ old ++ reverse (failing_hints id (implied + left) pins (drop left rows) v)
    → one ≡ old ++ reverse (failing_hints next (implied + (left - 1)) pins (drop (left - 1) rows) v)
failing_last next id implied pins rows v left row hints one old some within read place pushed invariant =
    let e : left - 1 + 1 ≡ left = omega (arith, some) in
    failing_more next id implied pins rows v (left - 1) row hints one old (omega (arith, some, within)) read place pushed (rw e invariant)

pub failing_asks : (pins : List ℕ) (rows : List (List Mark)) (v : Assignment) (left : ℕ) (row : List Mark) (needed one old : List Bool) → 0 < left → left ≤ length rows
    → row ≡ get_or rows (left - 1) row → one ≡ asked_by_failing row pins v needed → needed ≡ asked_by_rows pins (drop left rows) v old → one ≡ asked_by_rows pins (drop (left - 1) rows) v old
failing_asks pins rows v left row needed one old some within read is invariant =
    let e : left - 1 + 1 ≡ left = omega (arith, some) in
    failing_asked pins rows v (left - 1) row needed one old (omega (arith, some, within)) read is (rw e invariant)

pub rows_last : (rows : List (List Mark)) (left : ℕ) (row : List Mark) → 0 < left → left ≤ length rows → row ≡ get_or rows (left - 1) row
    → sum_by (λ marks. row_literals marks + 1) (drop (left - 1) rows) ≡ row_literals row + 1 + sum_by (λ marks. row_literals marks + 1) (drop left rows)
rows_last rows left row some within read =
    let e : left - 1 + 1 ≡ left = omega (arith, some) in
    subst (λ k. sum_by (λ marks. row_literals marks + 1) (drop (left - 1) rows) ≡ row_literals row + 1 + sum_by (λ marks. row_literals marks + 1) (drop k rows)) e
    (rows_left rows (left - 1) row (omega (arith, some, within)) read)

-- ---- the ids of the first clauses

pub length-first_ids : (next : ℕ) (tables : List TableValue) → length (first_ids next tables) ≡ length tables + 1
length-first_ids next [] = refl
length-first_ids next (t ∷ tables) = omega (arith, length-first_ids (next + table_clause_count t) tables)

pub first_id-near : (next : ℕ) (tables : List TableValue) (i : ℕ) → i < length tables
    → get_or (first_ids next tables) i 0 + table_clause_count (table_at tables i) ≤ next + sum_by table_clause_count tables
first_id-near next [] i within = absurd (omega arith)
first_id-near next (t ∷ tables) zero within = omega (arith, sum_by-cons table_clause_count t tables)
first_id-near next (t ∷ tables) (suc i) within =
    omega (arith, sum_by-cons table_clause_count t tables, first_id-near (next + table_clause_count t) tables i (omega (arith, within)))

-- each table has its clauses between two ids
pub first_id-next : (next : ℕ) (tables : List TableValue) (i : ℕ) → i < length tables
    → get_or (first_ids next tables) (i + 1) 0 ≡ get_or (first_ids next tables) i 0 + table_clause_count (table_at tables i)
first_id-next next [] i within = absurd (omega arith)
first_id-next next (t ∷ []) zero within = refl
first_id-next next (t ∷ u ∷ tables) zero within = refl
first_id-next next (t ∷ tables) (suc i) within = let e : suc i + 1 ≡ suc (i + 1) = omega arith in rw e (first_id-next (next + table_clause_count t) tables i (omega (arith, within)))

pub first_ids-few : (tables : List TableValue) (firsts : List ℕ) (i : ℕ) → firsts ≡ first_ids 1 tables → i < length tables → sum_by table_clause_count tables < 2 ^ 62
    → get_or firsts (i + 1) 0 < 2 ^ 63
first_ids-few tables firsts i ids within few = rw ids (omega (arith, first_id-next 1 tables i within, first_id-near 1 tables i within, few))

pub order-within : (n : ℕ) (tables : List TableValue) (order : List ℕ) (k d : ℕ) → IsOrderOf n tables order → k < length order → get_or order k d < length tables
order-within n tables order k d h within = All-from_recursion (λ i. i < length tables) order (order-tables n tables [] order h.in_turn) k d within

-- ---- one table of an order

-- where the clauses of a table end
pub last_id : (tables : List TableValue) (firsts : List ℕ) (i : ℕ) (t : TableValue) (rows : List (List Mark)) → firsts ≡ first_ids 1 tables → i < length tables → t ≡ table_at tables i → rows ≡ t.rows
    → get_or firsts (i + 1) 0 ≡ get_or firsts i 0 + (sum_by (λ marks. row_literals marks + 1) rows + length rows + 1)
last_id tables firsts i t rows ids within is down = rw (ids, down, is) (first_id-next 1 tables i within)

module _ (tables : List TableValue) (firsts : List ℕ) (n i place : ℕ) (needed : List Bool) (t : TableValue) (plane : Bool) (pins : List ℕ) (rows : List (List Mark)) (v : Assignment) (old new : List ℕ)
    (ids : firsts ≡ first_ids 1 tables) (within : i < length tables) (here : place ≡ n + i) (flag : get_or needed place false ≡ true)
    (is : t ≡ table_at tables i) (up : plane ≡ t.plane) (along : pins ≡ t.pins) (down : rows ≡ t.rows) where
  abbrev pub hints_here : List ℕ
  hints_here = hints_from (get_or (first_ids 1 tables) i 0) (n + i) (table_at tables i) v

  behind_rows : get_or firsts (i + 1) 0 - 1 - length rows ≡ get_or (first_ids 1 tables) i 0 + table_literals (table_at tables i) + length (table_at tables i).rows
  behind_rows =
      let end = last_id tables firsts i t rows ids within is down in
      let first : get_or firsts i 0 ≡ get_or (first_ids 1 tables) i 0 = ap (λ l. get_or l i 0) ids in
      let same : rows ≡ (table_at tables i).rows = down ∙ ap (λ (u : TableValue). u.rows) is in
      let count : sum_by (λ marks. row_literals marks + 1) rows ≡ table_literals (table_at tables i) + length (table_at tables i).rows =
      ap (sum_by (λ (marks : List Mark). row_literals marks + 1)) same ∙ rows_clause_count (table_at tables i).rows in
      omega (arith, end, first, count)

  needed_hints : hints_here ≡ cond (get_or needed (n + i) false) hints_here []
  needed_hints = let on : get_or needed (n + i) false ≡ true = subst (λ s. get_or needed s false ≡ true) here flag in rw on refl

  pub match_pushed : has_match plane (v place) ≡ true → new ≡ old ++ reverse (match_hints (get_or firsts i 0) (get_or firsts (i + 1) 0 - 1 - length rows) pins rows v)
      → new ≡ old ++ reverse (cond (get_or needed (n + i) false) hints_here [])
  match_pushed has pushed =
      let T : TableValue = table_at tables i in
      let next : ℕ = get_or (first_ids 1 tables) i 0 in
      let implied : ℕ = next + table_literals T + length T.rows in
      let matches : has_match T.plane (v (n + i)) ≡ true
      = subst (λ s. has_match T.plane (v s) ≡ true) here (subst (λ b. has_match b (v place) ≡ true) (up ∙ ap (λ (u : TableValue). u.plane) is) has) in
      let whole : hints_here ≡ match_hints next implied T.pins T.rows v = ap (λ b. cond b (match_hints next implied T.pins T.rows v) (failing_hints next implied T.pins T.rows v)) matches in
      let first : get_or firsts i 0 ≡ next = ap (λ l. get_or l i 0) ids in
      let rows_same : rows ≡ T.rows = down ∙ ap (λ (u : TableValue). u.rows) is in
      let pins_same : pins ≡ T.pins = along ∙ ap (λ (u : TableValue). u.pins) is in
      let same : match_hints (get_or firsts i 0) (get_or firsts (i + 1) 0 - 1 - length rows) pins rows v ≡ match_hints next implied T.pins T.rows v = cc (first, behind_rows, rows_same, pins_same) in
      pushed ∙ ap (λ l. old ++ reverse l) (same ∙ sym whole ∙ needed_hints)

  pub failing_pushed : has_match plane (v place) ≡ false
      → new ≡ old ++ reverse (failing_hints (get_or firsts (i + 1) 0 - 1 - length rows - sum_by (λ marks. row_literals marks + 1) rows) (get_or firsts (i + 1) 0 - 1 - length rows) pins rows v)
      → new ≡ old ++ reverse (cond (get_or needed (n + i) false) hints_here [])
  failing_pushed has pushed =
      let T : TableValue = table_at tables i in
      let next : ℕ = get_or (first_ids 1 tables) i 0 in
      let implied : ℕ = next + table_literals T + length T.rows in
      let fails : has_match T.plane (v (n + i)) ≡ false
      = subst (λ s. has_match T.plane (v s) ≡ false) here (subst (λ b. has_match b (v place) ≡ false) (up ∙ ap (λ (u : TableValue). u.plane) is) has) in
      let whole : hints_here ≡ failing_hints next implied T.pins T.rows v = ap (λ b. cond b (match_hints next implied T.pins T.rows v) (failing_hints next implied T.pins T.rows v)) fails in
      let first : get_or firsts (i + 1) 0 - 1 - length rows - sum_by (λ marks. row_literals marks + 1) rows ≡ next =
      omega (arith, last_id tables firsts i t rows ids within is down, ap (λ l. get_or l i 0) ids) in
      let rows_same : rows ≡ T.rows = down ∙ ap (λ (u : TableValue). u.rows) is in
      let pins_same : pins ≡ T.pins = along ∙ ap (λ (u : TableValue). u.pins) is in
      let same : failing_hints (get_or firsts (i + 1) 0 - 1 - length rows - sum_by (λ marks. row_literals marks + 1) rows) (get_or firsts (i + 1) 0 - 1 - length rows) pins rows v
      ≡ failing_hints next implied T.pins T.rows v = cc (first, behind_rows, rows_same, pins_same) in
      pushed ∙ ap (λ l. old ++ reverse l) (same ∙ sym whole ∙ needed_hints)

-- the hints of a table, and what they ask for, where it is needed and where not
pub table_pushed : (n : ℕ) (tables : List TableValue) (v : Assignment) (needed : List Bool) (order : List ℕ) (k i : ℕ) (flags one : List Bool) (hints two : List ℕ) → k < length order
    → get_or order k 0 ≡ i
    → flags ≡ needed_before n tables v needed (drop (k + 1) order) → hints ≡ reverse (hints_before n tables v needed (drop (k + 1) order))
    → one ≡ cond (get_or flags (n + i) false) (asked_by_table (n + i) (table_at tables i) v (set flags (n + i) false)) flags
    → two ≡ hints ++ reverse (cond (get_or flags (n + i) false) (hints_from (get_or (first_ids 1 tables) i 0) (n + i) (table_at tables i) v) [])
    → (one ≡ needed_before n tables v needed (drop k order)) × (two ≡ reverse (hints_before n tables v needed (drop k order)))
table_pushed n tables v needed order k i flags one hints two within read are pushed first second =
    let rest : drop k order ≡ i ∷ drop (k + 1) order = drop_more order k 0 within ∙ ap (λ j. j ∷ drop (k + 1) order) read in
    let later : List ℕ = hints_before n tables v needed (drop (k + 1) order) in
    let here : List ℕ = cond (get_or flags (n + i) false) (hints_from (get_or (first_ids 1 tables) i 0) (n + i) (table_at tables i) v) [] in
    let turned : reverse (here ++ later) ≡ reverse later ++ reverse here = reverse-append here later in
    let second' : two ≡ reverse (here ++ later) = second ∙ ap (λ l. l ++ reverse here) pushed ∙ sym turned in (
      rw (rest, ← are) first,
      rw (rest, ← are) second',
    )

-- the hints of the last of the `left` tables, by the terms of the code
pub table_last : (n : ℕ) (tables : List TableValue) (v : Assignment) (needed : List Bool) (order : List ℕ) (left i : ℕ) (flags one : List Bool) (hints two : List ℕ) → 0 < left → left ≤ length order
    → get_or order (left - 1) 0 ≡ i
    → flags ≡ needed_before n tables v needed (drop left order) → hints ≡ reverse (hints_before n tables v needed (drop left order))
    → one ≡ cond (get_or flags (n + i) false) (asked_by_table (n + i) (table_at tables i) v (set flags (n + i) false)) flags
    → two ≡ hints ++ reverse (cond (get_or flags (n + i) false) (hints_from (get_or (first_ids 1 tables) i 0) (n + i) (table_at tables i) v) [])
    → (one ≡ needed_before n tables v needed (drop (left - 1) order)) × (two ≡ reverse (hints_before n tables v needed (drop (left - 1) order)))
table_last n tables v needed order left i flags one hints two some within read are pushed first second =
    let e : left - 1 + 1 ≡ left = omega (arith, some) in
    table_pushed n tables v needed order (left - 1) i flags one hints two (omega (arith, some, within)) read (rw e are) (rw e pushed) first second

-- the hints of an input vector, in their order
pub hints_turned : (n : ℕ) (tables : List TableValue) (order : List ℕ) (count out output : ℕ) (values old filled : List Bool) (ids turned hints : List ℕ) → values ≡ old
    → filled ≡ replicate count false
    → count ≡ n + length tables → out ≡ output → hints ≡ reverse (hints_before n tables (λ s. get_or values s false) (set filled out true) order) → turned ≡ hints → ids ≡ reverse turned
    → ids ≡ ordered_hints n tables order output (λ s. get_or old s false)
hints_turned n tables order count out output values old filled ids turned hints same cleared as_many here pushed is back =
    let whole : List ℕ = hints_before n tables (λ s. get_or values s false) (set filled out true) order in
    let flags : set filled out true ≡ only_needed (n + length tables) output = cc (cleared, as_many, here) in
    back ∙ ap reverse (is ∙ pushed) ∙ reverse-reverse whole
    ∙ ap (λ l. hints_before n tables (λ s. get_or l s false) (set filled out true) order) same
    ∙ ap (λ f. hints_before n tables (λ s. get_or old s false) f order) flags

-- ---- hints at values that agree on the signals

row_hint-same : (next : ℕ) (marks : List Mark) (pins : List ℕ) (v w : Assignment) → AllByRecursion (λ s. v s ≡ w s) pins → row_hint next marks pins v ≡ row_hint next marks pins w
row_hint-same next [] pins v w h = refl
row_hint-same next (m ∷ marks) [] v w h = refl
row_hint-same next (Zero ∷ marks) (s ∷ pins) v w h = let rest = row_hint-same (next + 1) marks pins v w h.1 in cc (h.0, rest)
row_hint-same next (One ∷ marks) (s ∷ pins) v w h = let rest = row_hint-same (next + 1) marks pins v w h.1 in cc (h.0, rest)
row_hint-same next (Dash ∷ marks) (s ∷ pins) v w h = row_hint-same next marks pins v w h.1

match_hints-same : (next implied : ℕ) (pins : List ℕ) (rows : List (List Mark)) (v w : Assignment) → AllByRecursion (λ s. v s ≡ w s) pins
    → match_hints next implied pins rows v ≡ match_hints next implied pins rows w
match_hints-same next implied pins [] v w h = refl
match_hints-same next implied pins (marks ∷ rows) v w h =
    let here = row_hint-same next marks pins v w h in
    let matches = row_matches-same marks pins v w h in
    let rest = match_hints-same (next + row_literals marks + 1) (implied + 1) pins rows v w h in
    cc (here, matches, rest)

failing_hints-same : (next implied : ℕ) (pins : List ℕ) (rows : List (List Mark)) (v w : Assignment) → AllByRecursion (λ s. v s ≡ w s) pins
    → failing_hints next implied pins rows v ≡ failing_hints next implied pins rows w
failing_hints-same next implied pins [] v w h = refl
failing_hints-same next implied pins (marks ∷ rows) v w h =
    let here = row_hint-same next marks pins v w h in
    let rest = failing_hints-same (next + row_literals marks + 1) (implied + 1) pins rows v w h in
    cc (here, rest)

asked_by_failing-same : (marks : List Mark) (pins : List ℕ) (v w : Assignment) (needed : List Bool) → AllByRecursion (λ s. v s ≡ w s) pins
    → asked_by_failing marks pins v needed ≡ asked_by_failing marks pins w needed
asked_by_failing-same [] pins v w needed h = refl
asked_by_failing-same (m ∷ marks) [] v w needed h = refl
asked_by_failing-same (m ∷ marks) (s ∷ pins) v w needed h = let rest = asked_by_failing-same marks pins v w needed h.1 in cc (h.0, rest)

asked_by_match-same : (pins : List ℕ) (rows : List (List Mark)) (v w : Assignment) (needed : List Bool) → AllByRecursion (λ s. v s ≡ w s) pins
    → asked_by_match pins rows v needed ≡ asked_by_match pins rows w needed
asked_by_match-same pins [] v w needed h = refl
asked_by_match-same pins (marks ∷ rows) v w needed h =
    let matches = row_matches-same marks pins v w h in
    let rest = asked_by_match-same pins rows v w needed h in
    cc (matches, rest)

asked_by_rows-same : (pins : List ℕ) (rows : List (List Mark)) (v w : Assignment) (needed : List Bool) → AllByRecursion (λ s. v s ≡ w s) pins
    → asked_by_rows pins rows v needed ≡ asked_by_rows pins rows w needed
asked_by_rows-same pins [] v w needed h = refl
asked_by_rows-same pins (marks ∷ rows) v w needed h =
    ap (asked_by_failing marks pins v) (asked_by_rows-same pins rows v w needed h) ∙ asked_by_failing-same marks pins v w (asked_by_rows pins rows w needed) h

asked_by_table-same : (s : ℕ) (t : TableValue) (v w : Assignment) (needed : List Bool) → v s ≡ w s → AllByRecursion (λ s. v s ≡ w s) t.pins
    → asked_by_table s t v needed ≡ asked_by_table s t w needed
asked_by_table-same s t v w needed here h =
    let matches = asked_by_match-same t.pins t.rows v w needed h in
    let fails = asked_by_rows-same t.pins t.rows v w needed h in
    cc (here, matches, fails)

hints_from-same : (next s : ℕ) (t : TableValue) (v w : Assignment) → v s ≡ w s → AllByRecursion (λ s. v s ≡ w s) t.pins → hints_from next s t v ≡ hints_from next s t w
hints_from-same next s t v w here h =
    let matches = match_hints-same next (next + table_literals t + length t.rows) t.pins t.rows v w h in
    let fails = failing_hints-same next (next + table_literals t + length t.rows) t.pins t.rows v w h in
    cc (here, matches, fails)

-- what holds of each table holds of the table at a place
at_each : (P : TableValue → Type 0) → P no_table → (tables : List TableValue) → AllByRecursion P tables → (i : ℕ) → P (table_at tables i)
at_each P none [] h i = none
at_each P none (t ∷ tables) h zero = h.0
at_each P none (t ∷ tables) h (suc i) = at_each P none tables h.1 i

needed-same : (n : ℕ) (tables : List TableValue) (v w : Assignment) (needed : List Bool) → ((i : ℕ) → i < length tables → v (n + i) ≡ w (n + i))
    → ((i : ℕ) → AllByRecursion (λ s. v s ≡ w s) (table_at tables i).pins) → (order : List ℕ) → AllByRecursion (λ i. i < length tables) order
    → needed_before n tables v needed order ≡ needed_before n tables w needed order
needed-same n tables v w needed values h [] within = refl
needed-same n tables v w needed values h (i ∷ order) within =
    let behind : List Bool = needed_before n tables v needed order in
    let here = asked_by_table-same (n + i) (table_at tables i) v w (set behind (n + i) false) (values i within.0) (h i) in
    let rest = needed-same n tables v w needed values h order within.1 in
    ap (λ flags. cond (get_or behind (n + i) false) flags behind) here
    ∙ ap (λ flags. cond (get_or flags (n + i) false) (asked_by_table (n + i) (table_at tables i) w (set flags (n + i) false)) flags) rest

hints-same : (n : ℕ) (tables : List TableValue) (v w : Assignment) (needed : List Bool) → ((i : ℕ) → i < length tables → v (n + i) ≡ w (n + i))
    → ((i : ℕ) → AllByRecursion (λ s. v s ≡ w s) (table_at tables i).pins) → (order : List ℕ) → AllByRecursion (λ i. i < length tables) order
    → hints_before n tables v needed order ≡ hints_before n tables w needed order
hints-same n tables v w needed values h [] within = refl
hints-same n tables v w needed values h (i ∷ order) within =
    let flags = needed-same n tables v w needed values h order within.1 in
    let here = hints_from-same (get_or (first_ids 1 tables) i 0) (n + i) (table_at tables i) v w (values i within.0) (h i) in
    let rest = hints-same n tables v w needed values h order within.1 in
    cc (flags, here, rest)

pub hints-evaluated : (n : ℕ) (tables : List TableValue) (order : List ℕ) (output : ℕ) (v w : Assignment) → IsAcyclic n tables → AllByRecursion (λ i. i < length tables) order
    → ((s : ℕ) → s < n + length tables → v s ≡ w s) → ordered_hints n tables order output v ≡ ordered_hints n tables order output w
hints-evaluated n tables order output v w h within same =
    hints-same n tables v w (only_needed (n + length tables) output) (λ i low. same (n + i) (omega (arith, low)))
    (at_each (λ t. AllByRecursion (λ s. v s ≡ w s) t.pins) tt tables (each_pin (λ s. v s ≡ w s) n tables h same)) order within
