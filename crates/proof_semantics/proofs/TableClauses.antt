-- The clauses of a table are satisfied exactly where each row's variable says whether the row matches and the table's has its value.
use Rattle.std.proofs.Common.{◌≡◌, ℕ, zero, suc, Bool, true, false, cond, not, ◌&&◌, ◌||◌, List, [], ◌∷◌, ◌++◌, length, map, refl, ap, sym, ◌∙◌, ℤ, pos, neg_ℤ}
use Rattle.std.specs.List.{list_any, list_all}
use Rattle.std.specs.Ordering.{int_eq}
use Rattle.std.proofs.lemmas.List.Folds.{list_any-append, list_all-append}
use Rattle.std.proofs.lemmas.Bool.Decides.{Decides-int_eq}
use Rattle.std.proofs.lemmas.Bool.{and_parts, and_from}
use Rattle.semantics.specs.declared.mark.Mark.{Mark}
use Rattle.semantics.specs.declared.mark.Mark.TheVariants.{Zero, One, Dash}
use Rattle.semantics.specs.Net.{TableValue}
use Rattle.semantics.specs.Value.{Assignment, row_matches, table_value}
use Rattle.proof_semantics.specs.Clauses.{Clause, literal_value, clause_value, clauses_value, has_literal, with_literals}
use Rattle.proof_semantics.specs.NetClauses.{literal_at, literals_of_row, implication, row_clauses, rows_clauses, implications, variables_from, table_clauses}
use Rattle.proof_semantics.proofs.Agreement.{AgreesFrom}
use Rattle.proof_semantics.proofs.TruthValues.{or_assoc, or_end, or_here, or_there, each_then, some_then, not_and, not_not_and, not_not, same_from, if_same, only_same, signed, value_from_signed}
use Rattle.proof_semantics.proofs.TruthValues.{signed_from_value, and_end, or_false, or_true, or_swap}

-- a literal that stands in a clause already adds nothing to it
has_literal-value : (a : Assignment) (l : ℤ) (clause : Clause) → has_literal clause l ≡ true → (clause_value a clause || literal_value a l) ≡ clause_value a clause
has_literal-value a l [] h = cc
has_literal-value a l (y ∷ ys) h = at_test (int_eq y l) refl h (has_literal-value a l ys) where
  at_test : (t : Bool) → int_eq y l ≡ t → (t || has_literal ys l) ≡ true → (has_literal ys l ≡ true → (clause_value a ys || literal_value a l) ≡ clause_value a ys)
      → (clause_value a (y ∷ ys) || literal_value a l) ≡ clause_value a (y ∷ ys)
  at_test true e k rest = let same : y ≡ l = (Decides-int_eq y l).0 e in rw same (or_here (literal_value a l) (clause_value a ys))
  at_test false e k rest = or_there (literal_value a y) (clause_value a ys) (literal_value a l) (rest k)

one_more-value : (a : Assignment) (clause : Clause) (l : ℤ) (t : Bool) → has_literal clause l ≡ t
    → clause_value a (cond t clause (clause ++ (l ∷ []))) ≡ (clause_value a clause || literal_value a l)
one_more-value a clause l true e = sym (has_literal-value a l clause e)
one_more-value a clause l false e = list_any-append (literal_value a) clause (l ∷ []) ∙ or_end (clause_value a clause) (literal_value a l)

pub with_literals-value : (a : Assignment) (clause : Clause) (literals : List ℤ) → clause_value a (with_literals clause literals) ≡ (clause_value a clause || clause_value a literals)
with_literals-value a clause [] = sym (or_false (clause_value a clause))
with_literals-value a clause (l ∷ literals) =
    with_literals-value a (cond (has_literal clause l) clause (clause ++ (l ∷ []))) literals
    ∙ ap (λ b. b || clause_value a literals) (one_more-value a clause l (has_literal clause l) refl)
    ∙ or_assoc (clause_value a clause) (literal_value a l) (clause_value a literals)

-- the values of the signals' variables
abbrev pub signals : Assignment → Assignment
signals a = λ s. a (suc s)

literals_of_row-value : (a : Assignment) (marks : List Mark) (pins : List ℕ) → list_all (literal_value a) (literals_of_row marks pins) ≡ row_matches marks pins (signals a)
literals_of_row-value a [] pins = refl
literals_of_row-value a (m ∷ marks) [] = refl
literals_of_row-value a (Zero ∷ marks) (s ∷ pins) = ap (λ b. not (a (suc s)) && b) (literals_of_row-value a marks pins)
literals_of_row-value a (One ∷ marks) (s ∷ pins) = ap (λ b. a (suc s) && b) (literals_of_row-value a marks pins)
literals_of_row-value a (Dash ∷ marks) (s ∷ pins) = literals_of_row-value a marks pins

negations_of_row-value : (a : Assignment) (marks : List Mark) (pins : List ℕ) → clause_value a (map neg_ℤ (literals_of_row marks pins)) ≡ not (row_matches marks pins (signals a))
negations_of_row-value a [] pins = refl
negations_of_row-value a (m ∷ marks) [] = refl
negations_of_row-value a (Zero ∷ marks) (s ∷ pins) = ap (λ b. a (suc s) || b) (negations_of_row-value a marks pins) ∙ not_not_and (a (suc s)) (row_matches marks pins (signals a))
negations_of_row-value a (One ∷ marks) (s ∷ pins) = ap (λ b. not (a (suc s)) || b) (negations_of_row-value a marks pins) ∙ not_and (a (suc s)) (row_matches marks pins (signals a))
negations_of_row-value a (Dash ∷ marks) (s ∷ pins) = negations_of_row-value a marks pins

each_literal-value : (a : Assignment) (r : ℕ) (literals : List ℤ)
    → clauses_value a (map (implication r) literals) ≡ (not (a (suc r)) || list_all (literal_value a) literals)
each_literal-value a r [] = or_true (a (suc r))
each_literal-value a r (l ∷ literals) =
    ap (λ b. (not (a (suc r)) || (literal_value a l || false)) && b) (each_literal-value a r literals)
    ∙ each_then (a (suc r)) (literal_value a l) (list_all (literal_value a) literals)

row_clauses-value : (a : Assignment) (r : ℕ) (marks : List Mark) (pins : List ℕ)
    → clauses_value a (row_clauses r (literals_of_row marks pins))
    ≡ ((not (a (suc r)) || row_matches marks pins (signals a)) && (a (suc r) || not (row_matches marks pins (signals a))))
row_clauses-value a r marks pins =
    let lits : List ℤ = literals_of_row marks pins in
    let one : Clause = with_literals (pos (suc r) ∷ []) (map neg_ℤ lits) in
    let apart = list_all-append (clause_value a) (map (implication r) lits) (one ∷ []) in
    let each = each_literal-value a r lits ∙ ap (λ b. not (a (suc r)) || b) (literals_of_row-value a marks pins) in
    let last : clause_value a one ≡ ((a (suc r) || false) || not (row_matches marks pins (signals a))) =
    with_literals-value a (pos (suc r) ∷ []) (map neg_ℤ lits) ∙ ap (λ b. (a (suc r) || false) || b) (negations_of_row-value a marks pins) in
    let plain : ((a (suc r) || false) || not (row_matches marks pins (signals a))) ≡ (a (suc r) || not (row_matches marks pins (signals a))) = or_assoc (a (suc r)) false _ in
    let end = and_end (clause_value a one) in
    cc (apart, each, last, plain, end)

rows_agree : (a : Assignment) (first : ℕ) (pins : List ℕ) (rows : List (List Mark)) → clauses_value a (rows_clauses first pins rows) ≡ true
    → AgreesFrom a first (map (λ marks. row_matches marks pins (signals a)) rows)
unfolding AgreesFrom
rows_agree a first pins [] h = tt
rows_agree a first pins (marks ∷ rows) h =
    let apart = list_all-append (clause_value a) (row_clauses first (literals_of_row marks pins)) (rows_clauses (suc first) pins rows) in
    let both = and_parts _ _ (sym apart ∙ h) in
    let halves = and_parts _ _ (sym (row_clauses-value a first marks pins) ∙ both.0) in
    (same_from _ _ halves.0 halves.1, rows_agree a (suc first) pins rows both.1)

rows_hold : (a : Assignment) (first : ℕ) (pins : List ℕ) (rows : List (List Mark)) → AgreesFrom a first (map (λ marks. row_matches marks pins (signals a)) rows)
    → clauses_value a (rows_clauses first pins rows) ≡ true
unfolding AgreesFrom
rows_hold a first pins [] h = refl
rows_hold a first pins (marks ∷ rows) h =
    let apart = list_all-append (clause_value a) (row_clauses first (literals_of_row marks pins)) (rows_clauses (suc first) pins rows) in
    let here = row_clauses-value a first marks pins ∙ and_from _ _ (if_same _ _ h.0) (only_same _ _ h.0) in
    apart ∙ and_from _ _ here (rows_hold a (suc first) pins rows h.1)

-- some variable of the rows is true exactly where some row matches
some_row-value : (a : Assignment) (first : ℕ) (f : List Mark → Bool) (rows : List (List Mark)) → AgreesFrom a first (map f rows)
    → clause_value a (variables_from first (length rows)) ≡ list_any f rows
unfolding AgreesFrom
some_row-value a first f [] h = refl
some_row-value a first f (marks ∷ rows) h =
    let rest = some_row-value a (suc first) f rows h.1 in
    cc (h.0, rest)

each_row-implies : (a : Assignment) (l : ℤ) (first count : ℕ)
    → clauses_value a (implications first count l) ≡ (not (clause_value a (variables_from first count)) || literal_value a l)
each_row-implies a l first zero = refl
each_row-implies a l first (suc count) =
    ap (λ b. (not (a (suc first)) || (literal_value a l || false)) && b) (each_row-implies a l (suc first) count)
    ∙ some_then (a (suc first)) (literal_value a l) (clause_value a (variables_from (suc first) count))

literal_at-value : (a : Assignment) (place : ℕ) (plane : Bool) → literal_value a (literal_at place plane) ≡ signed plane (a (suc place))
unfolding signed
literal_at-value a place true = refl
literal_at-value a place false = refl

opposite-value : (a : Assignment) (place : ℕ) (plane : Bool) → literal_value a (literal_at place (not plane)) ≡ not (signed plane (a (suc place)))
unfolding signed
opposite-value a place true = refl
opposite-value a place false = not_not (a (suc place))

-- what the clauses of a table say, with its literal's value b and the disjunction m of its rows' variables
table_clauses-value : (a : Assignment) (place first : ℕ) (t : TableValue)
    → clauses_value a (table_clauses place first t)
    ≡ (clauses_value a (rows_clauses first t.pins t.rows)
    && ((not (clause_value a (variables_from first (length t.rows))) || signed t.plane (a (suc place)))
    && (not (signed t.plane (a (suc place))) || clause_value a (variables_from first (length t.rows)))))
table_clauses-value a place first t =
    let l : ℤ = literal_at place t.plane in
    let rs : List ℤ = variables_from first (length t.rows) in
    let implied : List Clause = implications first (length t.rows) l in
    let back : List Clause = (literal_at place (not t.plane) ∷ rs) ∷ [] in
    let apart = list_all-append (clause_value a) (rows_clauses first t.pins t.rows) (implied ++ back) in
    let within = list_all-append (clause_value a) implied back in
    let each = each_row-implies a l first (length t.rows) in
    let is = literal_at-value a place t.plane in
    let opposite = opposite-value a place t.plane in
    let end = and_end (literal_value a (literal_at place (not t.plane)) || clause_value a rs) in
    cc (apart, within, each, is, opposite, end)

pub table_agrees : (a : Assignment) (place first : ℕ) (t : TableValue) → clauses_value a (table_clauses place first t) ≡ true
    → (a (suc place) ≡ table_value t (signals a)) × AgreesFrom a first (map (λ marks. row_matches marks t.pins (signals a)) t.rows)
table_agrees a place first t h =
    let both = and_parts _ _ (sym (table_clauses-value a place first t) ∙ h) in
    let halves = and_parts _ _ both.1 in
    let agree = rows_agree a first t.pins t.rows both.0 in
    let some = some_row-value a first (λ marks. row_matches marks t.pins (signals a)) t.rows agree in
    let same = same_from _ _ halves.1 (or_swap _ _ halves.0) in
    (value_from_signed t.plane (a (suc place)) _ (same ∙ some), agree)

pub table_holds : (a : Assignment) (place first : ℕ) (t : TableValue)
    → a (suc place) ≡ table_value t (signals a) → AgreesFrom a first (map (λ marks. row_matches marks t.pins (signals a)) t.rows)
    → clauses_value a (table_clauses place first t) ≡ true
table_holds a place first t value agree =
    let some = some_row-value a first (λ marks. row_matches marks t.pins (signals a)) t.rows agree in
    let same = signed_from_value t.plane (a (suc place)) _ value ∙ sym some in
    table_clauses-value a place first t
    ∙ and_from _ _ (rows_hold a first t.pins t.rows agree) (and_from _ _ (if_same _ _ (sym same)) (if_same _ _ same))
