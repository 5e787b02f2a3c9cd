use Rattle.std.proofs.Common.{◌≡◌, ◌^◌, ◌∙◌, ap, length, arith}
use Rattle.std.proofs.lemmas.Nat.{pow_pos}
use Rattle.std.proofs.lemmas.Result.{IfOk-weaker}
use Rattle.semantics.proofs.Vectors.{length-all_vectors}
use Rattle.worst_case.proofs.vectors_tried.trial_vectors.Goals as goal

pub returns-then-inputs-le-LANE_INPUTS : goal.returns-then-inputs-le-LANE_INPUTS
returns-then-inputs-le-LANE_INPUTS c =
    IfOk-weaker c.exhaustive.result _ _
    (λ s is. record {
      inputs_are = ap (λ t. t.inputs) is;
      some = let count : length s.vectors ≡ 2 ^ c.args.inputs = ap (λ t. length t.vectors) is ∙ length-all_vectors c.args.inputs in omega (arith, count, pow_pos c.args.inputs);
      all = λ few. ap (λ t. t.vectors) is;
    })
    c.exhaustive.ensures
