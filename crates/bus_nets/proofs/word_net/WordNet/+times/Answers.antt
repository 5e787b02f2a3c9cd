use Rattle.std.proofs.lemmas.Result.{IfOk-weaker}
use Rattle.bus_nets.proofs.Numbers.{odd_has, even_has, double_is}
use Rattle.bus_nets.proofs.word_net.WordNet.+times.Goals as goal

pub returns-then-k-eq1-2-clause-number : goal.returns-then-k-eq1-2-clause-number
returns-then-k-eq1-2-clause-number m c =
    let double = double_is _ _ _ _ _ _ c.in_ok-double.ensures c.as_slice.ensures c.self-2.view_is in
    IfOk-weaker c.add.result _ _ (λ bus sum. odd_has _ _ _ _ _ bus _ c.in_ok-half.ensures.number double c.add.ensures.begins sum c.if-k-eq1-2.true) c.add.ensures.number

pub returns-clause-number : goal.returns-clause-number
returns-clause-number m c =
    let double = double_is _ _ _ _ _ _ c.in_ok-double.ensures c.as_slice.ensures c.self-2.view_is in
    even_has _ _ _ _ _ c.in_ok-half.ensures.number double c.if-k-eq1-2.false
