-- The clauses of a table: of its rows, that these imply it, and that one of them does.
use Rattle.std.proofs.Common.{◌≡◌, ℕ, zero, suc, ◌+◌, ◌*◌, not, List, [], ◌∷◌, ◌++◌, length, refl, ap, subst, sym, ◌∙◌, arith, append_assoc, length-append}
use Rattle.std.proofs.lemmas.List.{append-nil}
use Rattle.semantics.specs.Net.{TableValue, IsTable}
use Rattle.proof_semantics.specs.Clauses.{Clause}
use Rattle.proof_semantics.specs.NetClauses.{literal_at, rows_clauses, implications, variables_from, table_clauses}
use Rattle.proof_semantics.specs.Variables.{table_clause_count}
use Rattle.proof_semantics.specs.Formula.{Formula}
use Rattle.proof_semantics.specs.Logs.{LogItem, IsDerivation}
use Rattle.proof_semantics.specs.Conflicts.{added_clauses, clauses_with}
use Rattle.proof_semantics.proofs.Counts.{length-rows_clauses}
use Rattle.proof_semantics.proofs.Conflicts.{length-added}
use Rattle.merge_log.specs.Ids.{HaveIds, forth, back}
use Rattle.merge_log.specs.Steps.{Adds, row_pairs}
use Rattle.merge_log.proofs.ClauseIds.{ids-parts, ids-middle, ids-more}
use Rattle.merge_log.proofs.Adding.{adds-with}

pub table_rows : (clauses : List Clause) (at place first : ℕ) (t : TableValue) → IsTable t → HaveIds clauses at (table_clauses place first t) → HaveIds clauses at (rows_clauses first t.pins t.rows)
table_rows clauses at place first t formed ids =
    (ids-parts clauses (rows_clauses first t.pins t.rows) _ at (at + length (rows_clauses first t.pins t.rows)) refl ids).0

pub table_implied : (clauses : List Clause) (at place first behind : ℕ) (t : TableValue) → IsTable t → HaveIds clauses at (table_clauses place first t)
    → behind + length t.rows + 1 ≡ at + table_clause_count t
    → HaveIds clauses behind (implications first (length t.rows) (literal_at place t.plane) ++ (literal_at place (not t.plane) ∷ variables_from first (length t.rows)) ∷ [])
table_implied clauses at place first behind t formed ids is =
    (ids-parts clauses (rows_clauses first t.pins t.rows) _ at behind (omega (arith, is, length-rows_clauses first t.pins t.rows formed.widths)) ids).1

-- ---- the pairs of rows

pub length-pairs : (row other count : ℕ) → length (row_pairs row other count) ≡ 2 * count
length-pairs row other zero = refl
length-pairs row other (suc count) = let rest = length-pairs (suc row) (suc other) count in omega (arith, rest)

pub pairs_stand : (f : Formula) (old new : List LogItem) (list : List Clause) (equal : ℕ) → IsDerivation f old → Adds f old new list → equal ≡ length f.clauses + length old + 1
    → HaveIds (clauses_with f.clauses new) equal list
pairs_stand f old new list equal h adds is =
    let front : List Clause = clauses_with f.clauses old in
    let count : length front ≡ length f.clauses + length old = length-append f.clauses (added_clauses old) ∙ ap (λ k. length f.clauses + k) (length-added f old h) in
    subst (λ cs. HaveIds cs equal list) (ap (λ l. front ++ l) (append-nil list) ∙ sym (adds-with f old new list adds)) (ids-middle front list [] equal (omega (arith, is, count)))

pub still_stand : (f : Formula) (old new : List LogItem) (more list : List Clause) (equal : ℕ) → Adds f old new more → HaveIds (clauses_with f.clauses old) equal list
    → HaveIds (clauses_with f.clauses new) equal list
still_stand f old new more list equal adds h = subst (λ cs. HaveIds cs equal list) (sym (adds-with f old new more adds)) (ids-more (clauses_with f.clauses old) more list equal h)

-- how long the log is behind the rows
pub pairs_counted : (f : Formula) (old new : List LogItem) (row other count : ℕ) → IsDerivation f old → Adds f old new (row_pairs row other count) → length new ≡ length old + 2 * count
pairs_counted f old new row other count h adds =
    sym (length-added f new adds.derivation) ∙ ap length adds.added ∙ length-append (added_clauses old) (row_pairs row other count)
    ∙ omega (arith, length-added f old h, length-pairs row other count)

-- all steps of a table
pub table_steps : (f : Formula) (old a b c : List LogItem) (pairs : List Clause) (s u : ℕ) → Adds f old a pairs → Adds f a b (forth s u ∷ []) → Adds f b c (back s u ∷ [])
    → Adds f old c (pairs ++ forth s u ∷ back s u ∷ [])
table_steps f old a b c pairs s u one two three = record {
  derivation = three.derivation;
  added = three.added ∙ ap (λ l. l ++ back s u ∷ []) (two.added ∙ ap (λ l. l ++ forth s u ∷ []) one.added)
      ∙ append_assoc (added_clauses old ++ pairs) (forth s u ∷ []) (back s u ∷ []) ∙ append_assoc (added_clauses old) pairs (forth s u ∷ back s u ∷ []);
}
