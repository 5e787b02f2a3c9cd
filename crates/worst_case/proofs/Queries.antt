-- What the joint net and the miter say of the two nets.
use Rattle.std.proofs.Common.{◌≡◌, ℕ, ◌<◌, ◌≤◌, Bool, false, List, length, take, get_or, refl, sym, subst, ◌∙◌, arith}
use Rattle.std.proofs.lemmas.Bool.{and_parts, ltb-true}
use Rattle.std.proofs.lemmas.List.{get_or-take, length-take-le}
use Rattle.semantics.specs.Net.{NetValue, input_count}
use Rattle.semantics.specs.Value.{Assignment}
use Rattle.semantics.specs.declared.metric.Metric.{Metric}
use Rattle.semantics.specs.Error.{net_error}
use Rattle.quality_semantics.specs.Joint.{joint_net, AreComparable}
use Rattle.quality_semantics.proofs.Joint.{joint_inputs}
use Rattle.proof_semantics.specs.declared.constraint.Constraint.{Constraint}
use Rattle.proof_semantics.specs.Clauses.{Satisfies}
use Rattle.proof_semantics.specs.NetClauses.{net_clauses}
use Rattle.proof_semantics.specs.Formula.{Formula}
use Rattle.proof_semantics.specs.Variables.{by_place}
use Rattle.proof_semantics.specs.Logs.{LogItem, Refutes, IsDerivation}
use Rattle.proof_semantics.specs.Miter.{miter, joint_output, IsJointModelAt}
use Rattle.proof_semantics.specs.Merges.{IsMergeLog, BeginsWithMerges}
use Rattle.proof_semantics.specs.Queries.{IsOver, IsNever}
use Rattle.proof_semantics.proofs.NetValues.{goal_clauses-value}
use Rattle.proof_semantics.proofs.Miters.{miter_law}
use Rattle.proof_semantics.specs.Conflicts.{IsConflictChain}
use Rattle.cdcl_core.specs.Answers.{IsModel, IsAnswer}
use Rattle.cdcl_core.specs.declared.answer.Answer.{Answer}
use Rattle.cdcl_core.specs.declared.answer.Answer.TheVariants.{Model, Refuted, Spent}
use Rattle.level_answers.specs.declared.query.Exceed.{Exceed}
use Rattle.worst_case.specs.Exceeds.{IsAsked, told}

module _ (metric : Metric) (N M : NetValue) (k : ℕ) (h : AreComparable N M) where
  -- a model of the miter has a bit for each input
  pub model_wide : (f : Formula) (bits : List Bool) → f ≡ miter N M metric k → IsModel f bits → input_count N ≤ length bits
  model_wide f bits is found =
      let model : IsModel (miter N M metric k) bits = subst (λ g. IsModel g bits) is found in
      omega (arith, model.width, joint_inputs N M metric k)

  -- the first bits of a model of the miter are an input whose error exceeds the level
  pub IsOver-from_model : 8 < input_count N → (f : Formula) (bits : List Bool) → f ≡ miter N M metric k → IsModel f bits → IsOver metric N M k (take (input_count N) bits)
  IsOver-from_model many f bits is found =
      let n : ℕ = input_count N in
      let J : NetValue = joint_net N M metric k in
      let x : List Bool = take n bits in
      let a : Assignment = by_place (λ place. get_or bits place false) in
      let model : IsModel (miter N M metric k) bits = subst (λ g. IsModel g bits) is found in
      let both = and_parts _ _ (sym (goal_clauses-value (input_count J) J.tables (joint_output N M metric k) a) ∙ model.satisfies) in
      let at : IsJointModelAt N M metric k x a = record {
        satisfies = subst (λ m. Satisfies a (net_clauses m J.tables)) (joint_inputs N M metric k) both.0;
        inputs = λ s low. sym (get_or-take n bits s false low);
      } in
      record {
        width = length-take-le n bits (model_wide f bits is found);
        exceeds = ltb-true k (net_error metric N M x) (sym (miter_law.output N M metric k h x a at) ∙ both.1);
        first = λ few. absurd (omega (arith, few, many));
      }

  -- the merges of the joint net, which a log begins with
  pub merges_of : (merged log : List LogItem) → IsMergeLog (joint_net N M metric k) merged → take (length merged) log ≡ merged → IsMergeLog (joint_net N M metric k) (take (length merged) log)
  merges_of merged log h begins = subst (IsMergeLog (joint_net N M metric k)) (sym begins) h

  -- a log that refutes the miter, and begins with the merges of the joint net
  pub IsNever-from : (f : Formula) → f ≡ miter N M metric k → (log : List LogItem) → Refutes f.clauses log → IsDerivation f log → BeginsWithMerges (joint_net N M metric k) log
      → IsNever metric N M k log
  IsNever-from f is log refutes derivation merged =
      let shown : Refutes (miter N M metric k).clauses log = subst (λ g. Refutes g.clauses log) is refutes in
      record {
        refutes = shown;
        derivation = subst (λ g. IsDerivation g log) is derivation;
        within = miter_law.refuted N M metric k h log shown;
        merged = λ many. merged;
      }

-- an answer to the miter behind the merges of the joint net is one to the question about the nets
module _ (aim : Constraint) (N M : NetValue) (h : AreComparable N M) where
  pub asked_of : 8 < input_count N → (f : Formula) → f ≡ miter N M aim.metric aim.bound → (merged : List LogItem) → IsMergeLog (joint_net N M aim.metric aim.bound) merged
      → (answer : Answer) → IsAnswer f merged aim.limit answer → IsAsked aim N M (told N M aim.bound (length merged) answer)
  asked_of many f is merged merges (Model bits) model = IsOver-from_model aim.metric N M aim.bound h many f bits is model
  asked_of many f is merged merges (Refuted log) found =
      IsNever-from aim.metric N M aim.bound h f is log found.refutes found.derivation (length merged, merges_of aim.metric N M aim.bound h merged log merges found.begins)
  asked_of many f is merged merges (Spent log) found = record {
    net = refl;
    level = refl;
    merged = merges_of aim.metric N M aim.bound h merged log merges found.begins;
    chain = subst (λ g. IsConflictChain g (length merged) aim.limit log) is found.chain;
  }

-- a question asks what it was made for
pub asked_at : (aim asked : Constraint) (N M : NetValue) (e : Exceed) → asked ≡ aim → IsAsked asked N M e → IsAsked aim N M e
asked_at aim asked N M e same answer = subst (λ a. IsAsked a N M e) same answer
