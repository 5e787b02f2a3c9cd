use Rattle.std.proofs.Common.{ap, sym, ◌∙◌}
use Rattle.std.specs.List.{position}
use Rattle.aiger_semantics.specs.ReadNet.{is_port, place_or_end}
use Rattle.aiger_text.proofs.PortSteps.{port, position-keys}
use Rattle.aiger_text.proofs.ports.Ports.place.Goals as goal

pub returns-in-Some : goal.returns-in-Some
returns-in-Some c =
    let p = port c.bytes.result.now c.args.literal in
    ap place_or_end
    (sym c.in-Some.is ∙ c.place.ensures ∙ position-keys p c.self.inside.ports ∙ ap (λ ps. position (is_port p) ps) c.self.view_is
    ∙ ap (λ n. position (is_port (port n c.args.literal)) c.args.self.now) c.bytes.ensures.value)

pub returns-in-None : goal.returns-in-None
returns-in-None c =
    let p = port c.bytes.result.now c.args.literal in
    ap place_or_end
    (sym c.in-None.is ∙ c.place.ensures ∙ position-keys p c.self.inside.ports ∙ ap (λ ps. position (is_port p) ps) c.self.view_is
    ∙ ap (λ n. position (is_port (port n c.args.literal)) c.args.self.now) c.bytes.ensures.value)
