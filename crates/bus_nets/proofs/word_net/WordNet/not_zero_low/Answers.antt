use Rattle.std.proofs.Common.{arith}
use Rattle.std.proofs.lemmas.Grind.{common_steps}
use Rattle.std.proofs.lemmas.Result.{IfOk-weaker}
use Rattle.bus_nets.proofs.Numbers.{not_zero_made}
use Rattle.bus_nets.proofs.word_net.WordNet.not_zero_low.Goals as goal

pub returns-clause-number : goal.returns-clause-number
returns-clause-number c =
    IfOk-weaker c.with_front.result _ _ (λ bus e. not_zero_made _ _ _ _ bus _ _ _ c.requires.some c.in_ok-pins.ensures (rw (← c.len.ensures) c.in_ok-rows.ensures) c.in_ok-low.ensures.ok
    c.in_ok-low.ensures.signal (grind (arith, common_steps, c.as_slice.ensures)) e) c.with_front.ensures
