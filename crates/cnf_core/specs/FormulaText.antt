-- The parts of a formula's text, one behind another. Source: DIMACS, as this tool writes it.
use Rattle.std.specs.Prelude.{List, ◌++◌, flat_map, codes, Option}
use Rattle.std.specs.Borrow.{Bor}
use Rattle.std.specs.Fmt.{signed_decimal}
use Rattle.semantics.specs.Texts.{Bytes, line_text}
use Rattle.proof_semantics.specs.Clauses.{Clause}
use Rattle.proof_semantics.specs.Formula.{clause_line}
use Rattle.cnf_core.specs.NumberList.{list_rest}

abbrev pub clauses_text : List Clause → Bytes
clauses_text clauses = flat_map (λ clause. line_text (clause_line clause)) clauses

-- what is left of the clause at hand, and the clauses behind it
abbrev pub clauses_rest : Option (Bor Clause) → List Clause → Bytes
clauses_rest clause clauses = list_rest signed_decimal (codes "0\n") clause ++ clauses_text clauses
