use Rattle.std.proofs.Common.{◌-◌, ap}
use Rattle.std.proofs.lemmas.Result.{IfOk-weaker}
use Rattle.bus_nets.proofs.Numbers.{flipped_made}
use Rattle.bus_nets.proofs.word_net.WordNet.flip_top.Goals as goal

pub returns-clause-number : goal.returns-clause-number
returns-clause-number c =
    IfOk-weaker c.copy_with.result _ _ (λ bus e. flipped_made _ _ _ bus _ _ _ c.requires.some (ap (λ n. n - 1) c.len-top.ensures) c.bit.ensures.value c.in_ok-sign.ensures.ok
    c.in_ok-sign.ensures.signal e) c.copy_with.ensures
