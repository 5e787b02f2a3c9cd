use Rattle.std.proofs.lemmas.Result.{IfOk-weaker}
use Rattle.synth_core.proofs.Pools.{IsPool-all}
use Rattle.synth_core.proofs.tester.first_pool.Goals as goal

pub returns-then-inputs-le-FEW_INPUTS : goal.returns-then-inputs-le-FEW_INPUTS
returns-then-inputs-le-FEW_INPUTS c =
    IfOk-weaker c.exhaustive.result _ _ (λ s all. IsPool-all c.args.net.now s c.inputs-inputs.result all c.inputs-inputs.ensures.value) c.exhaustive.ensures
