-- The rows of a table, one after another.
use Rattle.std.proofs.Common.{◌≡◌, ℕ, zero, suc, ◌+◌, ◌<◌, List, [], ◌∷◌, ◌++◌, length, drop, get_or, ap, subst, sym, ◌∙◌, arith, drop-cons, sum_by}
use Rattle.std.specs.Prelude.{All}
use Rattle.std.specs.List.{AllZip}
use Rattle.std.proofs.lemmas.List.Sums.{sum_by-cons}
use Rattle.semantics.specs.declared.mark.Mark.{Mark}
use Rattle.semantics.specs.Net.{row_literals}
use Rattle.proof_semantics.specs.Clauses.{Clause}
use Rattle.proof_semantics.specs.NetClauses.{literals_of_row, row_clauses, rows_clauses}
use Rattle.proof_semantics.proofs.Counts.{length-literals_of_row, length-row_clauses}
use Rattle.merge_log.specs.Ids.{HaveIds, forth, back}
use Rattle.merge_log.specs.Steps.{row_pairs}
use Rattle.merge_log.proofs.ClauseIds.{ids-parts}

cut : {X : Type 0} (xs : List X) (i : ℕ) (x : X) → i < length xs → x ≡ get_or xs i x → drop i xs ≡ x ∷ drop (i + 1) xs
cut xs i x within read =
    let next : i + 1 ≡ suc i = omega arith in
    drop-cons xs i x within ∙ cc (read, next)

pub zip_turned : (f : ℕ → ℕ) (pins others : List ℕ) → AllZip (λ p q. f p ≡ f q) pins others → AllZip (λ p q. f p ≡ f q) others pins
zip_turned f [] [] h = tt
zip_turned f [] (q ∷ others) h = absurd h
zip_turned f (p ∷ pins) [] h = absurd h
zip_turned f (p ∷ pins) (q ∷ others) h = (sym h.0, zip_turned f pins others h.1)

-- the clauses of one row, and those of the rows behind it
pub rows_turn : (clauses : List Clause) (row j id : ℕ) (pins : List ℕ) (rows : List (List Mark)) (marks : List Mark) → j < length rows → marks ≡ get_or rows j marks
    → length marks ≡ length pins → HaveIds clauses id (rows_clauses (row + j) pins (drop j rows))
    → HaveIds clauses id (row_clauses (row + j) (literals_of_row marks pins)) × HaveIds clauses (id + (row_literals marks + 1)) (rows_clauses (row + (j + 1)) pins (drop (j + 1) rows))
rows_turn clauses row j id pins rows marks within read width ids =
    let own : List Clause = row_clauses (row + j) (literals_of_row marks pins) in
    let rest : List Clause = rows_clauses (suc (row + j)) pins (drop (j + 1) rows) in
    let count : id + (row_literals marks + 1) ≡ id + length own =
    ap (λ k. id + k) (sym (length-row_clauses (row + j) (literals_of_row marks pins) ∙ ap (λ k. k + 1) (length-literals_of_row marks pins width))) in
    let next : suc (row + j) ≡ row + (j + 1) = omega arith in
    let parts = ids-parts clauses own rest id (id + (row_literals marks + 1)) count (subst (λ l. HaveIds clauses id (rows_clauses (row + j) pins l)) (cut rows j marks within read) ids) in
    (parts.0, subst (λ r. HaveIds clauses (id + (row_literals marks + 1)) (rows_clauses r pins (drop (j + 1) rows))) next parts.1)

pub few_turn : (id all j : ℕ) (rows : List (List Mark)) (marks : List Mark) → j < length rows → marks ≡ get_or rows j marks
    → id + sum_by (λ (m : List Mark). row_literals m + 1) (drop j rows) ≡ all
    → id + (row_literals marks + 1) + sum_by (λ (m : List Mark). row_literals m + 1) (drop (j + 1) rows) ≡ all
few_turn id all j rows marks within read before =
    let opened : sum_by (λ (m : List Mark). row_literals m + 1) (drop j rows) ≡ row_literals marks + 1 + sum_by (λ (m : List Mark). row_literals m + 1) (drop (j + 1) rows) =
    ap (sum_by (λ (m : List Mark). row_literals m + 1)) (cut rows j marks within read) ∙ sum_by-cons (λ (m : List Mark). row_literals m + 1) marks (drop (j + 1) rows) in
    omega (arith, opened, before)

pub width_at : (rows : List (List Mark)) (pins : List ℕ) (j : ℕ) (marks : List Mark) → j < length rows → marks ≡ get_or rows j marks → All (λ m. length m ≡ length pins) rows
    → length marks ≡ length pins
width_at rows pins j marks within read h = subst (λ (m : List Mark). length m ≡ length pins) (sym read) (h j marks within)

-- one more pair of rows
pairs_suc : (row other j : ℕ) → row_pairs row other (suc j) ≡ row_pairs row other j ++ forth (row + j) (other + j) ∷ back (row + j) (other + j) ∷ []
pairs_suc row other zero =
    let a : row ≡ row + 0 = omega arith in
    let b : other ≡ other + 0 = omega arith in
    ap (λ r. forth r other ∷ back r other ∷ []) a ∙ ap (λ o. forth (row + 0) o ∷ back (row + 0) o ∷ []) b
pairs_suc row other (suc j) =
    let a : suc row + j ≡ row + suc j = omega arith in
    let b : suc other + j ≡ other + suc j = omega arith in
    ap (λ l. forth row other ∷ back row other ∷ l)
    (pairs_suc (suc row) (suc other) j
    ∙ ap (λ r. row_pairs (suc row) (suc other) j ++ forth r (suc other + j) ∷ back r (suc other + j) ∷ []) a
    ∙ ap (λ o. row_pairs (suc row) (suc other) j ++ forth (row + suc j) o ∷ back (row + suc j) o ∷ []) b)

pub pairs_more : (row other j : ℕ) → row_pairs row other (j + 1) ≡ row_pairs row other j ++ forth (row + j) (other + j) ∷ back (row + j) (other + j) ∷ []
pairs_more row other j = let next : j + 1 ≡ suc j = omega arith in ap (row_pairs row other) next ∙ pairs_suc row other j
