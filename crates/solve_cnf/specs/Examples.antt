-- Worked examples, computed from the definitions.
use Rattle.std.specs.Prelude.{◌≡◌, ℕ, true, false, List, [], ◌∷◌, ◌++◌, codes, pos, None, Some, Result, Ok}
use Rattle.std.specs.Prelude.{Err}
use Rattle.semantics.specs.Texts.{Bytes}
use Rattle.semantics.specs.Examples.{text, minus}
use Rattle.proof_semantics.specs.Clauses.{Clause}
use Rattle.proof_semantics.specs.Formula.{Formula, dimacs_text}
use Rattle.proof_semantics.specs.declared.item.Item.TheVariants.{Add}
use Rattle.cdcl_core.specs.declared.answer.Answer.TheVariants.{Model, Refuted, Spent}
use Rattle.solve_cnf.specs.Reading.{Refusal, no_header, bad_header, no_number, no_variable, unended}
use Rattle.solve_cnf.specs.Reading.{wrong_count, formula_of_text}
use Rattle.solve_cnf.specs.Counts.{clause_counts}
use Rattle.solve_cnf.specs.Writing.{answer_text}
use Rattle.solve_cnf.specs.Run.{limit_of}

-- what the text of these lines means
abbrev pub said : List Bytes → Result Formula Refusal
said lines = formula_of_text (text lines)

-- what the text of these lines means behind the header of one variable and one clause
abbrev pub said_of_one : List Bytes → Result Formula Refusal
said_of_one lines = said (codes "p cnf 1 1" ∷ lines)

abbrev pub means : ℕ → List Clause → Result Formula Refusal
means variables clauses = Ok (record { variables = variables; clauses = clauses })

abbrev pub two_clauses : List Clause
two_clauses = (pos 1 ∷ minus 2 ∷ []) ∷ (pos 2 ∷ []) ∷ []

pub record FormulaExamples : Type 0 where
  pub plain : said (codes "p cnf 2 2" ∷ codes "1 -2 0" ∷ codes "2 0" ∷ []) ≡ means 2 two_clauses
  pub comments : said (codes "c two clauses" ∷ codes "p cnf 2 2" ∷ codes "1 -2 0" ∷ codes "c 1 x 0"
      ∷ codes "2 0" ∷ codes "c" ∷ []) ≡ means 2 two_clauses
  pub over_lines : said (codes "p cnf 2 2" ∷ codes "1" ∷ [] ∷ codes "-2 0 2" ∷ codes "0" ∷ [])
      ≡ means 2 two_clauses
  pub comment_in_a_clause : said (codes "p cnf 2 2" ∷ codes "1" ∷ codes "cut" ∷ codes "-2 0 2 0" ∷ [])
      ≡ means 2 two_clauses
  pub blanks : said ((13 ∷ []) ∷ (9 ∷ codes "p cnf  2 " ++ 9 ∷ codes "2" ++ 13 ∷ [])
      ∷ (codes "1" ++ 9 ∷ codes "-2 0 " ++ 13 ∷ []) ∷ codes " 2 0 " ∷ []) ≡ means 2 two_clauses
  pub without_last_end : formula_of_text (codes "p cnf 2 2\n1 -2 0\n2 0") ≡ means 2 two_clauses
  pub leading_zeros : said (codes "p cnf 02 002" ∷ codes "01 -002 00" ∷ codes "2 -0" ∷ [])
      ≡ means 2 two_clauses
  pub no_clauses : said (codes "p cnf 3 0" ∷ []) ≡ means 3 []
  pub empty_clause : said (codes "p cnf 0 1" ∷ codes "0" ∷ []) ≡ means 0 ([] ∷ [])
  pub doubled_literal : said_of_one (codes "1 1 -1 0" ∷ []) ≡ means 1 ((pos 1 ∷ pos 1 ∷ minus 1 ∷ []) ∷ [])
  pub most_variables : said (codes "p cnf 2147483647 1" ∷ codes "-2147483647 0" ∷ [])
      ≡ means 2147483647 ((minus 2147483647 ∷ []) ∷ [])
  pub as_it_is_written : formula_of_text (dimacs_text (record { variables = 2; clauses = two_clauses }))
      ≡ means 2 two_clauses

pub record RefusalExamples : Type 0 where
  pub empty_text : formula_of_text [] ≡ Err no_header
  pub comments_alone : said (codes "c p cnf 1 1" ∷ codes " " ∷ []) ≡ Err no_header
  pub without_header : said (codes "1 0" ∷ []) ≡ Err bad_header
  pub short_header : said (codes "p cnf 1" ∷ codes "1 1 0" ∷ []) ≡ Err bad_header
  pub long_header : said (codes "p cnf 1 1 1 0" ∷ []) ≡ Err bad_header
  pub other_problem : said (codes "p wcnf 1 1" ∷ codes "1 0" ∷ []) ≡ Err bad_header
  pub negative_count : said (codes "p cnf 1 -1" ∷ codes "1 0" ∷ []) ≡ Err bad_header
  pub too_many_variables : said (codes "p cnf 2147483648 0" ∷ []) ≡ Err bad_header
  pub second_header : said_of_one (codes "p cnf 1 1" ∷ codes "1 0" ∷ []) ≡ Err no_number
  pub no_comment : said_of_one (codes "1 c 0" ∷ []) ≡ Err no_number
  pub plus : said_of_one (codes "+1 0" ∷ []) ≡ Err no_number
  pub minus_alone : said_of_one (codes "- 1 0" ∷ []) ≡ Err no_number
  pub second_variable : said_of_one (codes "2 0" ∷ []) ≡ Err no_variable
  pub large : said_of_one (codes "-18446744073709551617 0" ∷ []) ≡ Err no_variable
  pub first_wrong_word : said_of_one (codes "-2 x" ∷ []) ≡ Err no_variable
  pub cut : said_of_one (codes "1" ∷ []) ≡ Err unended
  pub cut_behind_clauses : said_of_one (codes "1 0 -1" ∷ []) ≡ Err unended
  pub too_few : said_of_one [] ≡ Err wrong_count
  pub too_many : said_of_one (codes "1 0 0" ∷ []) ≡ Err wrong_count
  pub too_few_counts : clause_counts (text (codes "p cnf 1 3" ∷ codes "1 0 -1 0" ∷ [])) ≡ Some (3, 2)
  pub too_many_counts : clause_counts (text (codes "p cnf 1 0" ∷ codes "1 0 0" ∷ [])) ≡ Some (0, 2)
  pub large_count : clause_counts (text (codes "p cnf 1 18446744073709551616" ∷ codes "1 0" ∷ []))
      ≡ Some (18446744073709551615, 1)
  pub no_counts : clause_counts (text (codes "p cnf 1 3" ∷ codes "1" ∷ [])) ≡ None

pub record AnswerExamples : Type 0 where
  pub model : answer_text (Model (true ∷ false ∷ true ∷ []))
      ≡ text (codes "s SATISFIABLE" ∷ codes "v 1 -2 3 0" ∷ [])
  pub no_variables : answer_text (Model []) ≡ text (codes "s SATISFIABLE" ∷ codes "v 0" ∷ [])
  pub refuted : answer_text (Refuted (Add (record { id = 3; literals = []; hints = 1 ∷ 2 ∷ [] }) ∷ []))
      ≡ text (codes "s UNSATISFIABLE" ∷ codes "3 0 1 2 0" ∷ [])
  pub spent : answer_text (Spent (Add (record { id = 3; literals = minus 2 ∷ []; hints = 1 ∷ 2 ∷ [] }) ∷ []))
      ≡ text (codes "s UNKNOWN" ∷ codes "3 -2 0 1 2 0" ∷ [])

pub record LimitExamples : Type 0 where
  pub one : limit_of (codes "1") ≡ Some 1
  pub leading_zero : limit_of (codes "010") ≡ Some 10
  pub large : limit_of (codes "18446744073709551616") ≡ Some 18446744073709551615
  pub nothing : limit_of (codes "0") ≡ None
  pub empty : limit_of [] ≡ None
  pub plus : limit_of (codes "+1") ≡ None
