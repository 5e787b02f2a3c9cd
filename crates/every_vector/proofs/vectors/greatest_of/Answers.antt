use Rattle.std.proofs.Common.{[], ap, slice_index_or, subst, ◌∙◌}
use Rattle.semantics.specs.Net.{NetValue}
use Rattle.semantics.specs.Error.{net_error}
use Rattle.lane_bits.specs.Patterns.{PatternSet}
use Rattle.lane_nets.specs.Errors.{IsFirstGreatest}
use Rattle.every_vector.proofs.FirstGreatest.{IsFirstGreatestIn-at}
use Rattle.every_vector.proofs.vectors.greatest_of.Goals as goal

pub returns-clause-greatest : goal.returns-clause-greatest
returns-clause-greatest c =
    let nets = c.args.nets.now in
    let held = c.args.held.now in
    let at = c.in_ok-found.found.at in
    let found = subst (λ (B : NetValue). IsFirstGreatest (net_error c.args.metric nets.exact B) held.patterns.vectors c.in_ok-found.found.error at) c.approx.ensures.value
    (subst (λ (E : NetValue). IsFirstGreatest (net_error c.args.metric E c.approx.result.now) held.patterns.vectors c.in_ok-found.found.error at) c.requires.exact c.in_ok-found.ensures) in
    IsFirstGreatestIn-at c.args.metric nets.exact nets.approx held.patterns.vectors c.in_ok-found.found.error at c.in_ok-vector_at.field-0 found
    (c.in_ok-vector_at.ensures.is ∙ ap (λ (s : PatternSet). slice_index_or s.vectors at []) c.patterns.ensures)

pub returns-clause-width : goal.returns-clause-width
returns-clause-width c = c.in_ok-vector_at.ensures.width ∙ ap (λ (s : PatternSet). s.inputs) c.patterns.ensures ∙ c.requires.inputs
