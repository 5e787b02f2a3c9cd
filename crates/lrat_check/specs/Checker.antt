-- What a checker of logs holds, and the log that it has accepted.
use Rattle.std.specs.Prelude.{◌≡◌, ℕ, Bool, true, false, List, [], ◌∷◌, length, refl}
use Rattle.std.specs.FinMap.{insert, code as map_code}
use Rattle.std.specs.Coded.{Coded, code_by, coded×, coded_ℕ, coded_ℤ, coded_bool, coded_list}
use Rattle.proof_semantics.specs.declared.item.Item.TheVariants.{Add, Remove}
use Rattle.proof_semantics.specs.Clauses.{Clause}
use Rattle.proof_semantics.specs.Logs.{Held, StepValue, LogItem, held_of, removed_from, IsSoundLog}

-- the held clauses by their ids, the greatest id so far, and whether the step that was accepted last is the
-- empty clause
pub record CheckerValue : Type 0 where
  pub held : Held
  pub last : ℕ
  pub done : Bool

abbrev pub checker_code : Coded CheckerValue
checker_code =
    code_by (Held × (ℕ × Bool)) (coded× (map_code coded_ℕ (coded_list coded_ℤ)) (coded× coded_ℕ coded_bool))
    (λ k. (k.held, (k.last, k.done))) (λ p. record { held = p.0; last = p.1.0; done = p.1.1 }) (λ _. refl)

abbrev pub is_empty_clause : Clause → Bool
is_empty_clause [] = true
is_empty_clause (l ∷ literals) = false

-- before the first item
abbrev pub start_of : List Clause → CheckerValue
start_of formula = record { held = held_of formula; last = length formula; done = false }

-- after an accepted step
abbrev pub stepped : CheckerValue → StepValue → CheckerValue
stepped k s = record { held = insert k.held s.id s.literals; last = s.id; done = is_empty_clause s.literals }

-- after a removal
abbrev pub removed : CheckerValue → List ℕ → CheckerValue
removed k ids = record k { held = removed_from k.held ids }

abbrev pub after : CheckerValue → List LogItem → CheckerValue
after k [] = k
after k (Add s ∷ log) = after (stepped k s) log
after k (Remove ids ∷ log) = after (removed k ids) log

-- the log is sound over the formula, and the checker is what the log's items make of a new checker
pub record StandsAfter (formula : List Clause) (log : List LogItem) (k : CheckerValue) : Type 0 where
  pub sound : IsSoundLog formula log
  pub value : k ≡ after (start_of formula) log
