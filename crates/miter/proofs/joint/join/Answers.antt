use Rattle.std.proofs.Common.{sym, subst, ◌∙◌}
use Rattle.std.proofs.lemmas.Result.{IfOk-weaker}
use Rattle.semantics.specs.Net.{NetValue, input_count, IsAcyclic}
use Rattle.net_core.specs.Built.{IsWired}
use Rattle.miter.proofs.Placed.{is_joined}
use Rattle.miter.proofs.joint.join.Goals as goal

pub from_sound-requires-clause-wired : goal.from_sound-requires-clause-wired
from_sound-requires-clause-wired c =
    let e = c.in_ok-model.ensures in
    subst IsWired (sym (is_joined c.args.exact.now c.args.approx.now c.args.quality.now _ _ _ _ e.model e.inputs e.tables e.outputs)) c.requires.wired

pub from_sound-requires-clause-acyclic : goal.from_sound-requires-clause-acyclic
from_sound-requires-clause-acyclic c =
    let e = c.in_ok-model.ensures in
    subst (λ (P : NetValue). IsAcyclic (input_count P) P.tables) (sym (is_joined c.args.exact.now c.args.approx.now c.args.quality.now _ _ _ _ e.model e.inputs e.tables e.outputs)) c.requires.acyclic

pub returns : goal.returns
returns c =
    let e = c.in_ok-model.ensures in
    IfOk-weaker c.from_sound.result _ _ (λ n is. is ∙ is_joined c.args.exact.now c.args.approx.now c.args.quality.now _ _ _ _ e.model e.inputs e.tables e.outputs) c.from_sound.ensures
