-- Formulas and their text. Source: DIMACS, as this tool writes it: no comment line, single blanks, each line
-- ended by LF.
use Rattle.std.specs.Prelude.{ℕ, List, [], ◌∷◌, ◌++◌, map, length, slice_index_or, codes}
use Rattle.std.specs.Fmt.{decimal, signed_decimal}
use Rattle.semantics.specs.Texts.{Bytes, Line, text_of}
use Rattle.semantics.specs.Net.{NetValue, input_count}
use Rattle.proof_semantics.specs.Clauses.{Clause}
use Rattle.proof_semantics.specs.NetClauses.{net_clauses, goal_clauses}
use Rattle.proof_semantics.specs.Variables.{variable_count}

-- how many variables there are, and the clauses over them
pub record Formula : Type 0 where
  pub variables : ℕ
  pub clauses : List Clause

-- the clauses of a net
abbrev pub formula_of : NetValue → Formula
formula_of N = record {
  variables = variable_count (input_count N) N.tables;
  clauses = net_clauses (input_count N) N.tables;
}

-- the clauses of a net, and that its first output is true
abbrev pub goal_of : NetValue → Formula
goal_of N = record {
  variables = variable_count (input_count N) N.tables;
  clauses = goal_clauses (input_count N) N.tables (slice_index_or N.outputs 0 0);
}

-- `p cnf`, the number of variables and the number of clauses
abbrev pub header_line : Formula → Line
header_line f = codes "p" ∷ codes "cnf" ∷ decimal f.variables ∷ decimal (length f.clauses) ∷ []

-- the literals, and `0`
abbrev pub clause_line : Clause → Line
clause_line clause = map signed_decimal clause ++ codes "0" ∷ []

unfoldable pub dimacs_text : Formula → Bytes
dimacs_text f = text_of (header_line f ∷ map clause_line f.clauses)
