-- The miter of two nets: the clauses of their joint net, and that its output is true. Source: miters, as in
-- equivalence checking by SAT.
use Rattle.std.specs.Prelude.{ℕ, Bool, List, slice_index_or}
use Rattle.semantics.specs.Net.{NetValue, input_count}
use Rattle.semantics.specs.Value.{Assignment}
use Rattle.semantics.specs.declared.metric.Metric.{Metric}
use Rattle.quality_semantics.specs.Joint.{joint_net}
use Rattle.proof_semantics.specs.Formula.{Formula, goal_of}
use Rattle.proof_semantics.specs.Variables.{IsModelAt}

abbrev pub miter : NetValue → NetValue → Metric → ℕ → Formula
miter exact approx metric k = goal_of (joint_net exact approx metric k)

-- the assignment satisfies the clauses of the joint net, and the variables of the inputs have the bits of x
abbrev pub IsJointModelAt : NetValue → NetValue → Metric → ℕ → List Bool → Assignment → Type 0
IsJointModelAt exact approx metric k x a
    = IsModelAt (input_count exact) (joint_net exact approx metric k).tables x a

-- the signal that says whether the error exceeds the level
abbrev pub joint_output : NetValue → NetValue → Metric → ℕ → ℕ
joint_output exact approx metric k = slice_index_or (joint_net exact approx metric k).outputs 0 0
