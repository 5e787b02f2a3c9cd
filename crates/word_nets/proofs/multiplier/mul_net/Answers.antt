use Rattle.std.proofs.lemmas.Result.{IfOk-weaker}
use Rattle.word_nets.proofs.Multiplying.{product_some, multiplier_made, multiplies_made}
use Rattle.word_nets.proofs.multiplier.mul_net.Goals as goal

pub finish-requires-clause-some : goal.finish-requires-clause-some
finish-requires-clause-some c = product_some _ _ _ _ _ _ _ _ c.requires.some c.in_ok-net.ensures c.in_ok-first.ensures.value c.in_ok-second.ensures.value c.in_ok-rows.ensures.ok
    c.in_ok-rows.ensures.rows c.in_ok-product.ensures.bus c.as_slice.ensures

pub returns-clause-net : goal.returns-clause-net
returns-clause-net c =
    IfOk-weaker c.finish.result _ _ (λ n e. multiplier_made _ _ _ _ _ _ _ _ _ n c.in_ok-net.ensures c.in_ok-first.ensures.value c.in_ok-second.ensures.value c.in_ok-rows.ensures.ok
    c.in_ok-rows.ensures.rows c.in_ok-product.ensures.ok c.in_ok-product.ensures.bus c.as_slice.ensures e) c.finish.ensures

pub returns-clause-multiplies : goal.returns-clause-multiplies
returns-clause-multiplies c =
    IfOk-weaker c.finish.result _ _ (λ n e. multiplies_made _ n
    (multiplier_made _ _ _ _ _ _ _ _ _ n c.in_ok-net.ensures c.in_ok-first.ensures.value c.in_ok-second.ensures.value c.in_ok-rows.ensures.ok c.in_ok-rows.ensures.rows c.in_ok-product.ensures.ok
    c.in_ok-product.ensures.bus c.as_slice.ensures e)) c.finish.ensures
