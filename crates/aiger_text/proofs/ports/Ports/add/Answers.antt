use Rattle.std.proofs.Common.{ap, ◌∙◌}
use Rattle.aiger_text.proofs.PortSteps.{port, with_new, added-keys}
use Rattle.aiger_text.proofs.ports.Ports.add.Goals as goal

pub returns : goal.returns
returns c =
    added-keys c.self.inside.ports c.add.new.self (c.bytes.result, c.args.literal) c.in_ok-add.ensures.keys
    ∙ ap (λ ps. with_new ps (port c.bytes.result.now c.args.literal)) c.self.view_is
    ∙ ap (λ n. with_new c.args.self.now (port n c.args.literal)) c.bytes.ensures.value
