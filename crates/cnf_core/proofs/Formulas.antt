-- The clauses of a net in memory, and its goal, are formulas.
use Rattle.std.proofs.Common.{◌≡◌, ℕ, ◌<◌, ◌^◌, true, List, [], ◌∷◌, ◌++◌, length, get_or, subst, sym, arith}
use Rattle.semantics.specs.Net.{NetValue, input_count, signal_count}
use Rattle.net_core.specs.Built.{IsBuilt}
use Rattle.proof_semantics.specs.Clauses.{Clause}
use Rattle.proof_semantics.specs.NetClauses.{literal_at, net_clauses, goal_clauses}
use Rattle.proof_semantics.specs.Variables.{variable_count}
use Rattle.proof_semantics.specs.Formula.{Formula, formula_of, goal_of}
use Rattle.proof_semantics.proofs.Bounds.{AreClausesOf-net, AreClausesOf-goal}
use Rattle.proof_parts.specs.Cnf.{IsCnf}

pub IsCnf-net : (N : NetValue) (f : Formula) → IsBuilt N → variable_count (input_count N) N.tables < 2 ^ 31 → f ≡ formula_of N → IsCnf f
IsCnf-net N f built few is = subst IsCnf (sym is) (record { few_variables = few; literals = AreClausesOf-net (input_count N) N.tables built.sound.acyclic })

-- the one output is a signal
pub output-within : (N : NetValue) → IsBuilt N → length N.outputs ≡ 1 → get_or N.outputs 0 0 < signal_count N
output-within N built one = built.sound.outputs_are_signals 0 0 (omega (arith, one))

pub IsCnf-goal : (N : NetValue) (f : Formula) → IsBuilt N → length N.outputs ≡ 1 → variable_count (input_count N) N.tables < 2 ^ 31 → f ≡ goal_of N → IsCnf f
IsCnf-goal N f built one few is =
    subst IsCnf (sym is)
    (record { few_variables = few; literals = AreClausesOf-goal (input_count N) N.tables (get_or N.outputs 0 0) built.sound.acyclic (output-within N built one) })

-- a net's clauses, pushed to an empty list
pub formula_of-parts : (N : NetValue) (variables : ℕ) (start clauses : List Clause) → variables ≡ variable_count (input_count N) N.tables
    → start ≡ [] → clauses ≡ start ++ net_clauses (input_count N) N.tables → record { variables = variables; clauses = clauses } ≡ formula_of N
formula_of-parts N variables start clauses count none is = cc (count, none, is)

-- a net's clauses, and behind them the clause of its output
pub goal_of-parts : (N : NetValue) (variables signal : ℕ) (start clauses all : List Clause) → variables ≡ variable_count (input_count N) N.tables
    → start ≡ [] → clauses ≡ start ++ net_clauses (input_count N) N.tables → signal ≡ get_or N.outputs 0 0 → all ≡ clauses ++ (literal_at signal true ∷ []) ∷ []
    → record { variables = variables; clauses = all } ≡ goal_of N
unfolding goal_clauses
goal_of-parts N variables signal start clauses all count none is at whole = cc (count, none, is, at, whole)
