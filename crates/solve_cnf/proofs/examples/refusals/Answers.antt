-- by computation
use Rattle.std.proofs.Common.{refl}
use Rattle.solve_cnf.specs.Reading.{formula_of_text}
use Rattle.solve_cnf.specs.Counts.{clause_counts}
use Rattle.solve_cnf.proofs.examples.refusals.Goals as goal

pub returns : goal.returns
unfolding formula_of_text clause_counts
returns c = record {
  empty_text = refl;
  comments_alone = refl;
  without_header = refl;
  short_header = refl;
  long_header = refl;
  other_problem = refl;
  negative_count = refl;
  too_many_variables = refl;
  second_header = refl;
  no_comment = refl;
  plus = refl;
  minus_alone = refl;
  second_variable = refl;
  large = refl;
  first_wrong_word = refl;
  cut = refl;
  cut_behind_clauses = refl;
  too_few = refl;
  too_many = refl;
  too_few_counts = refl;
  too_many_counts = refl;
  large_count = refl;
  no_counts = refl;
}
