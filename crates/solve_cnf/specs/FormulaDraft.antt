-- Clauses on the way: those that are ended, and the literals of the one that is not.
use Rattle.std.specs.Prelude.{ℕ, ◌^◌, ◌<◌, List, [], ◌∷◌, ◌++◌, map, filter_map, Bool, true, false, ℤ, pos}
use Rattle.std.specs.Prelude.{All, Result}
use Rattle.std.specs.List.{slice_split}
use Rattle.std.specs.Ordering.{int_eq}
use Rattle.semantics.specs.Texts.{Bytes}
use Rattle.proof_semantics.specs.Clauses.{Clause, IsLiteralOf, AreClausesOf}
use Rattle.solve_cnf.specs.Reading.{Refusal, number_of, wrong_word, ended_parts, unless_refused}

pub record DraftValue : Type 0 where
  pub variables : ℕ
  pub ended : List Clause
  pub begun : Clause

pub record IsDraft (d : DraftValue) : Type 0 where
  pub few_variables : d.variables < 2 ^ 31
  pub literals : AreClausesOf d.variables d.ended
  pub begun_literals : All (IsLiteralOf d.variables) d.begun

-- the first part goes on behind the literals of the clause that is not ended
abbrev pub gone_on : Clause → List Clause → List Clause
gone_on clause [] = clause ∷ []
gone_on clause (part ∷ parts) = (clause ++ part) ∷ parts

-- what the clauses are where these words come next and are the last
abbrev pub clauses_with : DraftValue → List Bytes → Result (List Clause) Refusal
clauses_with d words =
    unless_refused (filter_map (wrong_word d.variables) words)
    (ended_parts (d.ended ++ gone_on d.begun (slice_split (λ n. int_eq n (pos 0)) (map number_of words))))

-- a literal joins the clause, and 0 ends it
abbrev pub after_number : DraftValue → ℤ → Bool → DraftValue
after_number d n true = record d { ended = d.ended ++ d.begun ∷ []; begun = [] }
after_number d n false = record d { begun = d.begun ++ n ∷ [] }

abbrev pub with_number : DraftValue → ℤ → DraftValue
with_number d n = after_number d n (int_eq n (pos 0))
