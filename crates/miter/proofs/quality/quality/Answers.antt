use Rattle.std.proofs.lemmas.Result.{IfOk-weaker}
use Rattle.miter.proofs.Words.{all_words}
use Rattle.miter.proofs.quality.quality.Goals as goal

pub returns : goal.returns
returns c =
    IfOk-weaker c.finish.result _ _
    (λ n is. all_words c.args.metric c.args.outputs c.args.k _ _ n c.in_ok-output.ensures.ok c.in_ok-output.ensures.signal is) c.finish.ensures
