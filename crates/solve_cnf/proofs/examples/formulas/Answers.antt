-- by computation
use Rattle.std.proofs.Common.{refl}
use Rattle.std.specs.Fmt.{digits}
use Rattle.semantics.specs.Texts.{text_of}
use Rattle.proof_semantics.specs.Formula.{dimacs_text}
use Rattle.solve_cnf.specs.Reading.{formula_of_text}
use Rattle.solve_cnf.proofs.examples.formulas.Goals as goal

pub returns : goal.returns
unfolding formula_of_text digits text_of dimacs_text
returns c = record {
  plain = refl;
  comments = refl;
  over_lines = refl;
  comment_in_a_clause = refl;
  blanks = refl;
  without_last_end = refl;
  leading_zeros = refl;
  no_clauses = refl;
  empty_clause = refl;
  doubled_literal = refl;
  most_variables = refl;
  as_it_is_written = refl;
}
