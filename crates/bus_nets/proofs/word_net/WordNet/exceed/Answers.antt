use Rattle.bus_nets.proofs.Numbers.{exceed_made, both_ok}
use Rattle.bus_nets.proofs.word_net.WordNet.exceed.Goals as goal

pub returns-clause-value : goal.returns-clause-value
returns-clause-value c =
    both_ok c.append_form.result _ _ (λ s signal net. exceed_made _ _ _ _ _ _ _ _ _ _ _ _ _ s c.in_ok-upper.ensures.ok c.in_ok-upper.ensures.bus c.in_ok-over.ensures.ok c.in_ok-over.ensures.signal
    c.in_ok-upper-2.ensures.ok c.in_ok-upper-2.ensures.bus c.in_ok-under.ensures.ok c.in_ok-under.ensures.signal net signal) c.append_form.ensures.signal c.append_form.ensures.ok
