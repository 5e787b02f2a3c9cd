use Rattle.std.proofs.Common.{◌≡◌, ◌-◌, ◌*◌, ℕ, List, min, [], length, ap, sym, subst, ◌∙◌, arith}
use Rattle.std.proofs.lemmas.List.{get_or_default}
use Rattle.lane_bits.specs.Patterns.{PatternSet}
use Rattle.lane_nets.specs.Wide.{AreWideOutputs, wides_at}
use Rattle.lane_nets.proofs.BlockErrors.{first_in_block, none_in_block, wide_held, wide_width}
use Rattle.lane_nets.proofs.trials.first_over.Goals as goal

pub reach-requires-clause-within : goal.reach-requires-clause-within
reach-requires-clause-within c =
    let all : length c.loop-q.wide.patterns.vectors ≡ length c.args.patterns.now.vectors = ap (λ (s : PatternSet). length s.vectors) c.loop-q.invariant.patterns in
    omega (arith, c.loop-q-test.true, c.requires.outputs.count, all)

pub block_over-over-requires-clause-exact : goal.block_over-over-requires-clause-exact
block_over-over-requires-clause-exact c =
    let exact : c.as_slice-exact.result.now ≡ wides_at c.args.outputs.now c.loop-q.q =
    c.as_slice-exact.ensures ∙ c.index-outputs-q.is ∙ get_or_default c.args.outputs.now c.loop-q.q c.index-outputs-q.result [] c.loop-q-test.true in
    let right : AreWideOutputs c.args.nets.now.exact c.args.patterns.now.vectors c.loop-q.q c.as_slice-exact.result.now =
    subst (λ (l : List (List ℕ)). AreWideOutputs c.args.nets.now.exact c.args.patterns.now.vectors c.loop-q.q l) (sym exact) (c.requires.outputs.are c.loop-q.q c.loop-q-test.true) in
    wide_width c.args.nets.now.exact c.args.patterns.now.vectors c.loop-q.q c.as_slice-exact.result.now right

pub block_over-over-requires-clause-wides : goal.block_over-over-requires-clause-wides
block_over-over-requires-clause-wides c =
    let block : AreWideOutputs c.args.nets.now.approx c.args.patterns.now.vectors c.loop-q.q c.outputs.result.now =
    wide_held c.args.nets.now.approx c.loop-q.wide.net c.loop-q.wide.patterns c.args.patterns.now c.loop-q.q c.reach.new.self.outputs c.outputs.result.now c.loop-q.invariant.net
    c.loop-q.invariant.patterns c.outputs.ensures.outputs c.reach.ensures.outputs in
    wide_width c.args.nets.now.approx c.args.patterns.now.vectors c.loop-q.q c.outputs.result.now block

pub returns-in-Some : goal.returns-in-Some
returns-in-Some c =
    let exact : c.as_slice-exact.result.now ≡ wides_at c.args.outputs.now c.loop-q.q =
    c.as_slice-exact.ensures ∙ c.index-outputs-q.is ∙ get_or_default c.args.outputs.now c.loop-q.q c.index-outputs-q.result [] c.loop-q-test.true in
    let right : AreWideOutputs c.args.nets.now.exact c.args.patterns.now.vectors c.loop-q.q c.as_slice-exact.result.now =
    subst (λ (l : List (List ℕ)). AreWideOutputs c.args.nets.now.exact c.args.patterns.now.vectors c.loop-q.q l) (sym exact) (c.requires.outputs.are c.loop-q.q c.loop-q-test.true) in
    let block : AreWideOutputs c.args.nets.now.approx c.args.patterns.now.vectors c.loop-q.q c.outputs.result.now =
    wide_held c.args.nets.now.approx c.loop-q.wide.net c.loop-q.wide.patterns c.args.patterns.now c.loop-q.q c.reach.new.self.outputs c.outputs.result.now c.loop-q.invariant.net
    c.loop-q.invariant.patterns c.outputs.ensures.outputs c.reach.ensures.outputs in
    first_in_block c.args.metric c.args.nets.now.exact c.args.nets.now.approx c.args.patterns.now.vectors c.loop-q.q c.as_slice-exact.result.now c.outputs.result.now right block
    c.args.level c.min.result c.block_over-over.result
    (c.min.ensures ∙ ap (λ (n : ℕ). min (n - 512 * c.loop-q.q) 512) c.count-count.ensures.value) c.block_over-over.ensures.bits c.loop-q.invariant.none c.in-Some.p
    c.in-Some.ensures

pub loop-q-preserved : goal.loop-q-preserved
loop-q-preserved c =
    let exact : c.as_slice-exact.result.now ≡ wides_at c.args.outputs.now c.loop-q.q =
    c.as_slice-exact.ensures ∙ c.index-outputs-q.is ∙ get_or_default c.args.outputs.now c.loop-q.q c.index-outputs-q.result [] c.loop-q-test.true in
    let right : AreWideOutputs c.args.nets.now.exact c.args.patterns.now.vectors c.loop-q.q c.as_slice-exact.result.now =
    subst (λ (l : List (List ℕ)). AreWideOutputs c.args.nets.now.exact c.args.patterns.now.vectors c.loop-q.q l) (sym exact) (c.requires.outputs.are c.loop-q.q c.loop-q-test.true) in
    let block : AreWideOutputs c.args.nets.now.approx c.args.patterns.now.vectors c.loop-q.q c.outputs.result.now =
    wide_held c.args.nets.now.approx c.loop-q.wide.net c.loop-q.wide.patterns c.args.patterns.now c.loop-q.q c.reach.new.self.outputs c.outputs.result.now c.loop-q.invariant.net
    c.loop-q.invariant.patterns c.outputs.ensures.outputs c.reach.ensures.outputs in
    record {
      net = c.reach.ensures.net ∙ c.loop-q.invariant.net;
      patterns = c.reach.ensures.patterns ∙ c.loop-q.invariant.patterns;
      none =
          none_in_block c.args.metric c.args.nets.now.exact c.args.nets.now.approx c.args.patterns.now.vectors c.loop-q.q c.as_slice-exact.result.now c.outputs.result.now right block
          c.args.level c.min.result c.block_over-over.result
          (c.min.ensures ∙ ap (λ (n : ℕ). min (n - 512 * c.loop-q.q) 512) c.count-count.ensures.value) c.block_over-over.ensures.bits c.loop-q.invariant.none
          c.in_default.ensures;
    }
