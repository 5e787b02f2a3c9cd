use Rattle.std.proofs.Common.{◌∙◌, [], ap, slice_index_or}
use Rattle.lane_bits.specs.Patterns.{PatternSet}
use Rattle.every_vector.proofs.Tried.{IsFirstExceeded-at, IsWithin-all, found_held}
use Rattle.every_vector.proofs.vectors.try_vectors.Goals as goal

pub first_over-requires : goal.first_over-requires
first_over-requires c = rw (c.requires.exact, c.approx.ensures.value) c.approx.ensures.candidate

pub returns-in_ok-vector_at-in-Some-clause-tried : goal.returns-in_ok-vector_at-in-Some-clause-tried
returns-in_ok-vector_at-in-Some-clause-tried c =
    let nets = c.args.nets.now in
    let held = c.args.held.now in
    let found = rw c.in-Some.is at (found_held c.args.aim.metric nets.exact nets.approx c.approx.result.now c.args.aim.bound held _ c.requires.exact c.approx.ensures.value c.in_ok-at.ensures) in
    IsFirstExceeded-at c.args.aim nets.exact nets.approx held.patterns.vectors c.in-Some.at c.in_ok-vector_at-in-Some.field-0 found
    (c.in_ok-vector_at-in-Some.ensures.is ∙ ap (λ (s : PatternSet). slice_index_or s.vectors c.in-Some.at []) c.patterns.ensures)
    (c.in_ok-vector_at-in-Some.ensures.width ∙ ap (λ (s : PatternSet). s.inputs) c.patterns.ensures ∙ c.requires.inputs)

pub returns-in-None-clause-tried : goal.returns-in-None-clause-tried
returns-in-None-clause-tried c = λ all.
    let nets = c.args.nets.now in
    let held = c.args.held.now in
    let none = rw c.in-None.is at (found_held c.args.aim.metric nets.exact nets.approx c.approx.result.now c.args.aim.bound held _ c.requires.exact c.approx.ensures.value c.in_ok-at.ensures) in
    IsWithin-all c.args.aim nets.exact nets.approx held.patterns.vectors all none

pub returns-in-None-clause-none : goal.returns-in-None-clause-none
returns-in-None-clause-none c =
    let nets = c.args.nets.now in
    rw c.in-None.is at (found_held c.args.aim.metric nets.exact nets.approx c.approx.result.now c.args.aim.bound c.args.held.now _ c.requires.exact c.approx.ensures.value c.in_ok-at.ensures)
