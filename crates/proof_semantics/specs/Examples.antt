-- Worked examples, computed from the definitions.
use Rattle.std.specs.Prelude.{◌≡◌, ℕ, true, false, List, [], ◌∷◌, ◌++◌, map, length, codes, pos, Result, Ok}
use Rattle.std.specs.Prelude.{Err, ⊤}
use Rattle.semantics.specs.declared.mark.Mark.{Mark}
use Rattle.semantics.specs.declared.mark.Mark.TheVariants.{Zero, One, Dash}
use Rattle.semantics.specs.Net.{TableValue, constant_table}
use Rattle.semantics.specs.declared.metric.Kind.TheVariants.{Abs, Sabs}
use Rattle.semantics.specs.Error.{one_word}
use Rattle.semantics.specs.Examples.{text, minus, half_adder, constant_sum, wire}
use Rattle.proof_semantics.specs.declared.item.Item.TheVariants.{Add, Remove}
use Rattle.proof_semantics.specs.declared.step_refusal.StepRefusal.{StepRefusal}
use Rattle.proof_semantics.specs.declared.step_refusal.StepRefusal.TheVariants.{NotRising, UnknownId}
use Rattle.proof_semantics.specs.declared.step_refusal.StepRefusal.TheVariants.{NotUnit, NoConflict}
use Rattle.proof_semantics.specs.Clauses.{Clause}
use Rattle.proof_semantics.specs.NetClauses.{net_clauses}
use Rattle.proof_semantics.specs.Miter.{miter}
use Rattle.proof_semantics.specs.Variables.{table_clause_count}
use Rattle.proof_semantics.specs.Formula.{formula_of, goal_of, dimacs_text}
use Rattle.proof_semantics.specs.Logs.{StepValue, LogItem, held_of, step_answer, removed_from, Refutes}
use Rattle.proof_semantics.specs.Logs.{IsSoundLog, IsDerivation}
use Rattle.proof_semantics.specs.Lrat.{lrat_text}

abbrev pub half_adder_clauses : List Clause
half_adder_clauses =
    (minus 5 ∷ pos 1 ∷ []) ∷ (minus 5 ∷ minus 2 ∷ []) ∷ (pos 5 ∷ minus 1 ∷ pos 2 ∷ [])
    ∷ (minus 6 ∷ minus 1 ∷ []) ∷ (minus 6 ∷ pos 2 ∷ []) ∷ (pos 6 ∷ pos 1 ∷ minus 2 ∷ [])
    ∷ (minus 5 ∷ pos 3 ∷ []) ∷ (minus 6 ∷ pos 3 ∷ []) ∷ (minus 3 ∷ pos 5 ∷ pos 6 ∷ [])
    ∷ (minus 7 ∷ pos 1 ∷ []) ∷ (minus 7 ∷ pos 2 ∷ []) ∷ (pos 7 ∷ minus 1 ∷ minus 2 ∷ [])
    ∷ (minus 7 ∷ pos 4 ∷ []) ∷ (minus 4 ∷ pos 7 ∷ []) ∷ []

-- a table with plane 1
abbrev pub table : List ℕ → List (List Mark) → TableValue
table pins rows = record { name = []; pins = pins; rows = rows; plane = true }

pub record ClauseExamples : Type 0 where
  pub of_half_adder : formula_of half_adder ≡ record { variables = 7; clauses = half_adder_clauses }
  pub with_goal : goal_of half_adder
      ≡ record { variables = 7; clauses = half_adder_clauses ++ (pos 3 ∷ []) ∷ [] }
  -- a pin that stands twice with one mark, and with two
  pub doubled_pin : net_clauses 1 (table (0 ∷ 0 ∷ []) ((One ∷ One ∷ []) ∷ []) ∷ [])
      ≡ (minus 3 ∷ pos 1 ∷ []) ∷ (minus 3 ∷ pos 1 ∷ []) ∷ (pos 3 ∷ minus 1 ∷ []) ∷ (minus 3 ∷ pos 2 ∷ [])
      ∷ (minus 2 ∷ pos 3 ∷ []) ∷ []
  pub against_itself : net_clauses 1 (table (0 ∷ 0 ∷ []) ((One ∷ Zero ∷ []) ∷ []) ∷ [])
      ≡ (minus 3 ∷ pos 1 ∷ []) ∷ (minus 3 ∷ minus 1 ∷ []) ∷ (pos 3 ∷ minus 1 ∷ pos 1 ∷ [])
      ∷ (minus 3 ∷ pos 2 ∷ []) ∷ (minus 2 ∷ pos 3 ∷ []) ∷ []
  -- plane 0, with a dash
  pub plane_0 : net_clauses 2 (record (table (0 ∷ 1 ∷ []) ((Dash ∷ Zero ∷ []) ∷ [])) { plane = false } ∷ [])
      ≡ (minus 4 ∷ minus 2 ∷ []) ∷ (pos 4 ∷ pos 2 ∷ []) ∷ (minus 4 ∷ minus 3 ∷ []) ∷ (pos 3 ∷ pos 4 ∷ []) ∷ []
  pub constants : net_clauses 0 (constant_table [] false ∷ constant_table [] true ∷ [])
      ≡ (minus 1 ∷ []) ∷ (pos 3 ∷ []) ∷ (minus 3 ∷ pos 2 ∷ []) ∷ (minus 2 ∷ pos 3 ∷ []) ∷ []
  -- the disjunction and the majority of their pins, and the exclusive or of three
  pub counts : map table_clause_count
      (table (0 ∷ 1 ∷ []) ((One ∷ Dash ∷ []) ∷ (Dash ∷ One ∷ []) ∷ [])
      ∷ table (0 ∷ 1 ∷ 2 ∷ []) ((One ∷ One ∷ Dash ∷ []) ∷ (One ∷ Dash ∷ One ∷ []) ∷ (Dash ∷ One ∷ One ∷ [])
      ∷ [])
      ∷ table (0 ∷ 1 ∷ 2 ∷ []) ((One ∷ Zero ∷ Zero ∷ []) ∷ (Zero ∷ One ∷ Zero ∷ [])
      ∷ (Zero ∷ Zero ∷ One ∷ []) ∷ (One ∷ One ∷ One ∷ []) ∷ []) ∷ [])
      ≡ 7 ∷ 13 ∷ 21 ∷ []

pub record DimacsExamples : Type 0 where
  pub of_half_adder : dimacs_text (formula_of half_adder) ≡ text
      (codes "p cnf 7 14" ∷ codes "-5 1 0" ∷ codes "-5 -2 0" ∷ codes "5 -1 2 0" ∷ codes "-6 -1 0"
      ∷ codes "-6 2 0"
      ∷ codes "6 1 -2 0" ∷ codes "-5 3 0" ∷ codes "-6 3 0" ∷ codes "-3 5 6 0" ∷ codes "-7 1 0"
      ∷ codes "-7 2 0"
      ∷ codes "7 -1 -2 0" ∷ codes "-7 4 0" ∷ codes "-4 7 0" ∷ [])
  pub no_clauses : dimacs_text (record { variables = 0; clauses = [] }) ≡ text (codes "p cnf 0 0" ∷ [])
  pub empty_clause : dimacs_text (record { variables = 120; clauses = [] ∷ (minus 120 ∷ []) ∷ [] })
      ≡ text (codes "p cnf 120 2" ∷ codes "0" ∷ codes "-120 0" ∷ [])

-- the clauses 1, -1 2 and -2, which have the ids 1 to 3
abbrev pub three_clauses : List Clause
three_clauses = (pos 1 ∷ []) ∷ (minus 1 ∷ pos 2 ∷ []) ∷ (minus 2 ∷ []) ∷ []

abbrev pub step : ℕ → Clause → List ℕ → StepValue
step id literals hints = record { id = id; literals = literals; hints = hints }

-- the answer to a step over the three clauses
abbrev pub answer : ℕ → Clause → List ℕ → Result ⊤ StepRefusal
answer id literals hints = step_answer (held_of three_clauses) 3 (step id literals hints)

-- the empty clause in one step, and by way of the clause 2, with removals
abbrev pub refutation : List LogItem
refutation = Add (step 4 [] (1 ∷ 2 ∷ 3 ∷ [])) ∷ []

abbrev pub refutation_with_removals : List LogItem
refutation_with_removals = Add (step 7 (pos 2 ∷ []) (1 ∷ 2 ∷ [])) ∷ Remove (1 ∷ 9 ∷ [])
    ∷ Add (step 10 [] (7 ∷ 3 ∷ [])) ∷ Remove [] ∷ []

pub record LogExamples : Type 0 where
  pub in_order : answer 4 [] (1 ∷ 2 ∷ 3 ∷ []) ≡ Ok tt
  pub in_another_order : answer 4 [] (1 ∷ 3 ∷ 2 ∷ []) ≡ Ok tt
  pub two_open : answer 4 [] (2 ∷ 1 ∷ 3 ∷ []) ≡ Err (NotUnit 2)
  pub no_conflict : answer 4 [] (1 ∷ 2 ∷ []) ≡ Err NoConflict
  pub no_hints : answer 4 [] [] ≡ Err NoConflict
  pub not_rising : answer 3 [] (1 ∷ 2 ∷ 3 ∷ []) ≡ Err (NotRising 3)
  pub not_held : answer 4 [] (1 ∷ 9 ∷ 3 ∷ []) ≡ Err (UnknownId 9)
  pub removed : step_answer (removed_from (held_of three_clauses) (1 ∷ [])) 3 (step 4 [] (1 ∷ 2 ∷ 3 ∷ []))
      ≡ Err (UnknownId 1)
  -- a conflict before the last hint; a literal that is in the set already; the clause -1, from two of the
  -- three
  pub early_conflict : answer 4 [] (1 ∷ 2 ∷ 3 ∷ 1 ∷ []) ≡ Err (NotUnit 3)
  pub twice : answer 4 [] (1 ∷ 1 ∷ 2 ∷ 3 ∷ []) ≡ Ok tt
  pub from_one : answer 4 (minus 1 ∷ []) (2 ∷ 3 ∷ []) ≡ Ok tt
  pub refutes : Refutes three_clauses refutation × Refutes three_clauses refutation_with_removals
  pub past_the_empty_clause : ¬ IsSoundLog three_clauses (refutation ++ Add (step 5 (pos 1 ∷ []) []) ∷ [])
  pub derivation : IsDerivation (record { variables = 2; clauses = three_clauses }) refutation
  pub no_derivation : ¬ IsDerivation (record { variables = 2; clauses = three_clauses })
      refutation_with_removals

pub record LratExamples : Type 0 where
  pub addition : lrat_text refutation ≡ text (codes "4 0 1 2 3 0" ∷ [])
  pub removals : lrat_text (Remove (1 ∷ []) ∷ refutation_with_removals)
      ≡ text (codes "0 d 1 0" ∷ codes "7 2 0 1 2 0" ∷ codes "7 d 1 9 0" ∷ codes "10 0 7 3 0" ∷ codes "10 d 0"
      ∷ [])
  pub literals : lrat_text (Add (step 12 (minus 3 ∷ pos 40 ∷ []) (11 ∷ [])) ∷ [])
      ≡ text (codes "12 -3 40 0 11 0" ∷ [])

-- one wire against itself, and the half adder whose sum is constant against the half adder
pub record MiterExamples : Type 0 where
  pub of_wires : ((miter wire wire (one_word Abs) 0).variables ≡ 41)
      × (length (miter wire wire (one_word Abs) 0).clauses ≡ 132)
  pub of_adders : ((miter half_adder constant_sum (one_word Abs) 1).variables ≡ 76)
      × (length (miter half_adder constant_sum (one_word Abs) 1).clauses ≡ 246)
  pub of_signed_adders : ((miter half_adder constant_sum (one_word Sabs) 1).variables ≡ 80)
      × (length (miter half_adder constant_sum (one_word Sabs) 1).clauses ≡ 254)
