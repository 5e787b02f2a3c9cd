use Rattle.std.proofs.Common.{◌∙◌}
use Rattle.std.proofs.lemmas.Result.{IfOk-weaker}
use Rattle.demo_adder.proofs.Parts.{parts-net, parts-acyclic, parts-wired, Adds-made, IsSmall-made}
use Rattle.demo_adder.proofs.adder.demo_net.Goals as goal

pub from_sound-requires-clause-wired : goal.from_sound-requires-clause-wired
from_sound-requires-clause-wired c =
    parts-wired c.args.width _ _ _ _ c.in_ok-model.ensures c.in_ok-inputs.ensures c.in_ok-tables.ensures c.in_ok-outputs.ensures c.requires.some c.requires.narrow

pub from_sound-requires-clause-acyclic : goal.from_sound-requires-clause-acyclic
from_sound-requires-clause-acyclic c =
    parts-acyclic c.args.width _ _ _ _ c.in_ok-model.ensures c.in_ok-inputs.ensures c.in_ok-tables.ensures c.in_ok-outputs.ensures

pub returns-clause-net : goal.returns-clause-net
returns-clause-net c =
    let whole = parts-net c.args.width _ _ _ _ c.in_ok-model.ensures c.in_ok-inputs.ensures c.in_ok-tables.ensures c.in_ok-outputs.ensures in
    IfOk-weaker c.from_sound.result _ _ (λ n e. e ∙ whole) c.from_sound.ensures

pub returns-clause-adds : goal.returns-clause-adds
returns-clause-adds c =
    let whole = parts-net c.args.width _ _ _ _ c.in_ok-model.ensures c.in_ok-inputs.ensures c.in_ok-tables.ensures c.in_ok-outputs.ensures in
    IfOk-weaker c.from_sound.result _ _ (λ n e. Adds-made c.args.width n c.requires.some (e ∙ whole)) c.from_sound.ensures

pub returns-clause-small : goal.returns-clause-small
returns-clause-small c =
    let whole = parts-net c.args.width _ _ _ _ c.in_ok-model.ensures c.in_ok-inputs.ensures c.in_ok-tables.ensures c.in_ok-outputs.ensures in
    IfOk-weaker c.from_sound.result _ _ (λ n e. IsSmall-made c.args.width n c.requires.narrow (e ∙ whole)) c.from_sound.ensures
