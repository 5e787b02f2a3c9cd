-- What is asked of the solver, and what its answers say to the query whether some input's error exceeds a
-- level.
use Rattle.std.specs.Prelude.{◌≡◌, ℕ, take}
use Rattle.semantics.specs.Net.{NetValue, input_count}
use Rattle.quality_semantics.specs.Joint.{joint_net, AreComparable}
use Rattle.proof_semantics.specs.declared.constraint.Constraint.{Constraint}
use Rattle.proof_semantics.specs.Conflicts.{IsConflictChain}
use Rattle.proof_semantics.specs.Merges.{IsMergeLog}
use Rattle.proof_semantics.specs.Miter.{miter}
use Rattle.proof_semantics.specs.Queries.{IsOver, IsNever}
use Rattle.cdcl_core.specs.declared.answer.Answer.{Answer}
use Rattle.cdcl_core.specs.declared.answer.Answer.TheVariants as answer
use Rattle.level_answers.specs.declared.query.Spent as spent
use Rattle.level_answers.specs.declared.query.Exceed.{Exceed}
use Rattle.level_answers.specs.declared.query.Exceed.TheVariants.{Over, Never, Spent}
use Rattle.worst_case.specs.declared.solver_query.Question.{Question}

-- the merges of the joint net of these two nets at the level that is asked about, and behind them as many
-- conflicts over the miter as are allowed
pub record IsChainOn (aim : Constraint) (exact approx : NetValue) (s : spent.Spent) : Type 0 where
  pub net : s.net ≡ approx
  pub level : s.k ≡ aim.bound
  pub merged : IsMergeLog (joint_net exact s.net aim.metric s.k) (take s.merged s.log)
  pub chain : IsConflictChain (miter exact s.net aim.metric s.k) s.merged aim.limit s.log

-- what an answer of the solver behind `merged` merged steps says of two nets: the first bits of a model are
-- an input vector
abbrev pub told : NetValue → NetValue → ℕ → ℕ → Answer → Exceed
told exact approx k merged (answer.Model bits) = Over (take (input_count exact) bits)
told exact approx k merged (answer.Refuted log) = Never log
told exact approx k merged (answer.Spent log)
    = Spent (record { net = approx; k = k; merged = merged; log = log })

-- the question is about the miter of these two nets, behind the merges of their joint net
pub record IsPosed (exact approx : NetValue) (q : Question) : Type 0 where
  pub comparable : AreComparable exact approx
  pub formula : q.joint.formula ≡ miter exact approx q.aim.metric q.aim.bound
  pub merged : IsMergeLog (joint_net exact approx q.aim.metric q.aim.bound) q.merged

-- the solver was asked
abbrev pub IsAsked : Constraint → NetValue → NetValue → Exceed → Type 0
IsAsked aim exact approx (Over x) = IsOver aim.metric exact approx aim.bound x
IsAsked aim exact approx (Never log) = IsNever aim.metric exact approx aim.bound log
IsAsked aim exact approx (Spent s) = IsChainOn aim exact approx s
