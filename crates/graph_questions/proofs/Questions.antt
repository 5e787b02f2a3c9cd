-- What a refuted formula says of a literal.
use Rattle.std.proofs.Common.{◌≡◌, ℕ, Bool, true, false, List, refl, ◌∙◌}
use Rattle.aig_core.specs.Graph.{GraphValue, node_count, truth_of}
use Rattle.proof_semantics.specs.Formula.{Formula}
use Rattle.proof_semantics.specs.Logs.{LogItem, Refutes}
use Rattle.proof_semantics.proofs.Refutations.{refutes_sound}
use Rattle.cdcl_core.specs.Answers.{IsAnswer}
use Rattle.cdcl_core.specs.Outcomes.{IsOutcome}
use Rattle.cdcl_core.specs.declared.answer.Answer.{Answer}
use Rattle.cdcl_core.specs.declared.answer.Answer.TheVariants.{Model, Refuted, Spent}
use Rattle.cdcl_core.specs.declared.outcome.Outcome.{Outcome}
use Rattle.cdcl_core.specs.declared.outcome.Outcome.TheVariants as outcome
use Rattle.graph_questions.specs.GraphClauses.{node_values, AreNeededFor, IsAnsweredOf, answer_of}

-- a refuted formula that is needed for a literal shows that the literal is never true
never_true : (g : GraphValue) (l : ℕ) (f : Formula) (log : List LogItem) → AreNeededFor g l f.clauses → Refutes f.clauses log → (x : List Bool) → truth_of g x l ≡ false
never_true g l f log needed refutes x = at_value (truth_of g x l) refl where
  at_value : (b : Bool) → truth_of g x l ≡ b → truth_of g x l ≡ false
  at_value true is = absurd (refutes_sound f.clauses log refutes (node_values g x) (needed x is))
  at_value false is = is

-- what the solver's answer to a formula that is needed for a literal says of the graph
pub answered : (g : GraphValue) (l : ℕ) (f : Formula) (merged : List LogItem) (limit : ℕ) (answer : Answer) → AreNeededFor g l f.clauses → f.variables ≡ node_count g
    → IsAnswer f merged limit answer → IsAnsweredOf g l answer
answered g l f merged limit (Model bits) needed count is = is.width ∙ count
answered g l f merged limit (Refuted log) needed count is = never_true g l f log needed is.refutes
answered g l f merged limit (Spent log) needed count is = tt

-- what the outcome of a search that forgets says of the graph
pub came_to : (g : GraphValue) (l : ℕ) (f : Formula) (derived : List LogItem) (o : Outcome) → AreNeededFor g l f.clauses → f.variables ≡ node_count g
    → IsOutcome f derived o → IsAnsweredOf g l (answer_of o)
came_to g l f derived (outcome.Model bits) needed count is = is.width ∙ count
came_to g l f derived (outcome.Refuted log) needed count is = never_true g l f log needed is.refutes
came_to g l f derived (outcome.Open log) needed count is = tt
