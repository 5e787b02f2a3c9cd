use Rattle.std.proofs.Common.{◌<◌, length, ap, subst, ◌∙◌}
use Rattle.semantics.specs.Net.{NetValue, HasSamePorts}
use Rattle.graph_questions.proofs.nearness.enough_places.Goals as goal

pub is_small_change-requires-clause-ports : goal.is_small_change-requires-clause-ports
is_small_change-requires-clause-ports g c =
    subst (HasSamePorts c.args.change.now.before.now) c.approx.ensures.value (c.same_ports.ensures.0 c.if-not-same_ports.false)

pub is_small_change-requires-clause-spared : goal.is_small_change-requires-clause-spared
is_small_change-requires-clause-spared g c =
    let p = c.in-Some.places in
    subst (λ n. p < n) (c.outputs.ensures.value ∙ ap (λ (N : NetValue). length N.outputs) c.exact.ensures.value) c.in-Some.ensures.1
