-- The clauses of a graph's gates, and the formula that a literal of the graph is true. Source: Tseitin's
-- encoding. Variable n + 1 belongs to node n.
use Rattle.std.specs.Prelude.{◌≡◌, ℕ, ◌/◌, ◌%◌, ◌==◌, ◌⊎◌, Bool, true, false, not, if◌then◌else◌, List}
use Rattle.std.specs.Prelude.{[], ◌∷◌, ◌++◌, length, ℤ}
use Rattle.semantics.specs.Value.{Assignment}
use Rattle.aig_core.specs.declared.gate.Gate.{Gate}
use Rattle.aig_core.specs.Graph.{GraphValue, node_count, value_of, truth_of}
use Rattle.proof_semantics.specs.Clauses.{Clause, Satisfies, AreClausesOf}
use Rattle.proof_semantics.specs.NetClauses.{literal_at}
use Rattle.proof_semantics.specs.Variables.{by_place}
use Rattle.cdcl_core.specs.declared.answer.Answer.{Answer}
use Rattle.cdcl_core.specs.declared.answer.Answer.TheVariants.{Model, Refuted, Spent}
use Rattle.cdcl_core.specs.declared.outcome.Outcome.{Outcome}
use Rattle.cdcl_core.specs.declared.outcome.Outcome.TheVariants as outcome

-- the literal of the formula that is true where a literal of the graph has this value
abbrev pub where_is : ℕ → Bool → ℤ
where_is l value = literal_at (l / 2) (if l % 2 == 1 then not value else value)

-- the node is the conjunction of the gate's two literals
abbrev pub gate_clauses : ℕ → Gate → List Clause
gate_clauses node gate =
    (literal_at node false ∷ where_is gate.left true ∷ [])
    ∷ (literal_at node false ∷ where_is gate.right true ∷ [])
    ∷ (literal_at node true ∷ where_is gate.left false ∷ where_is gate.right false ∷ [])
    ∷ []

-- each variable has the value of its node at the input vector x
abbrev pub node_values : GraphValue → List Bool → Assignment
node_values g x = by_place (value_of g x)

-- clauses that are true wherever the first ones are, at each input vector
abbrev pub StayTrue : GraphValue → List Clause → List Clause → Type 0
StayTrue g old new = (x : List Bool) → Satisfies (node_values g x) old → Satisfies (node_values g x) new

-- clauses over the graph's variables, where the first ones are
abbrev pub StayWithin : GraphValue → List Clause → List Clause → Type 0
StayWithin g old new = AreClausesOf (node_count g) old → AreClausesOf (node_count g) new

-- nothing is added, or the clauses of this gate
abbrev pub AddsGate : List Clause → ℕ → Gate → List Clause → Type 0
AddsGate old node gate new = (new ≡ old) ⊎ (new ≡ old ++ gate_clauses node gate)

-- each input vector at which the literal is true satisfies the clauses
abbrev pub AreNeededFor : GraphValue → ℕ → List Clause → Type 0
AreNeededFor g l clauses = (x : List Bool) → truth_of g x l ≡ true → Satisfies (node_values g x) clauses

-- what an answer of the solver to the question whether the literal is ever true says of the graph: a model
-- has a bit for each node, and where the formula is refuted the literal is true at no input vector
abbrev pub IsAnsweredOf : GraphValue → ℕ → Answer → Type 0
IsAnsweredOf g l (Model bits) = length bits ≡ node_count g
IsAnsweredOf g l (Refuted log) = (x : List Bool) → truth_of g x l ≡ false
IsAnsweredOf g l (Spent log) = Unit {0}

-- what a search that forgets came to, as an answer
abbrev pub answer_of : Outcome → Answer
answer_of (outcome.Model bits) = Model bits
answer_of (outcome.Refuted log) = Refuted log
answer_of (outcome.Open log) = Spent log
