use Rattle.std.proofs.Common.{◌≡◌, ◌-◌, ◌*◌, ℕ, List, min, [], length, ap, sym, subst, ◌∙◌, arith}
use Rattle.std.proofs.lemmas.List.{get_or_default}
use Rattle.semantics.specs.Error.{net_error}
use Rattle.lane_bits.specs.Patterns.{PatternSet}
use Rattle.lane_nets.specs.Blocks.{vector_at}
use Rattle.lane_nets.specs.Wide.{AreWideOutputs, wides_at}
use Rattle.lane_nets.proofs.BlockErrors.{error_in_block, block_all, wide_held, wide_width}
use Rattle.lane_nets.proofs.trials.greatest_error.Goals as goal

pub reach-requires-clause-within : goal.reach-requires-clause-within
reach-requires-clause-within c =
    let all : length c.loop-q.wide.patterns.vectors ≡ length c.args.patterns.now.vectors = ap (λ (s : PatternSet). length s.vectors) c.loop-q.invariant.patterns in
    omega (arith, c.loop-q-test.true, c.requires.outputs.count, all)

pub greatest_in_block-greatest-requires-clause-exact : goal.greatest_in_block-greatest-requires-clause-exact
greatest_in_block-greatest-requires-clause-exact c =
    let exact : c.as_slice.result.now ≡ wides_at c.args.outputs.now c.loop-q.q =
    c.as_slice.ensures ∙ c.index-outputs-q.is ∙ get_or_default c.args.outputs.now c.loop-q.q c.index-outputs-q.result [] c.loop-q-test.true in
    let right : AreWideOutputs c.args.nets.now.exact c.args.patterns.now.vectors c.loop-q.q c.as_slice.result.now =
    subst (λ (l : List (List ℕ)). AreWideOutputs c.args.nets.now.exact c.args.patterns.now.vectors c.loop-q.q l) (sym exact) (c.requires.outputs.are c.loop-q.q c.loop-q-test.true) in
    wide_width c.args.nets.now.exact c.args.patterns.now.vectors c.loop-q.q c.as_slice.result.now right

pub greatest_in_block-greatest-requires-clause-wides : goal.greatest_in_block-greatest-requires-clause-wides
greatest_in_block-greatest-requires-clause-wides c =
    let block : AreWideOutputs c.args.nets.now.approx c.args.patterns.now.vectors c.loop-q.q c.outputs.result.now =
    wide_held c.args.nets.now.approx c.loop-q.wide.net c.loop-q.wide.patterns c.args.patterns.now c.loop-q.q c.reach.new.self.outputs c.outputs.result.now c.loop-q.invariant.net
    c.loop-q.invariant.patterns c.outputs.ensures.outputs c.reach.ensures.outputs in
    wide_width c.args.nets.now.approx c.args.patterns.now.vectors c.loop-q.q c.outputs.result.now block

pub loop-q-preserved : goal.loop-q-preserved
loop-q-preserved c =
    let f : ℕ → ℕ = λ k. net_error c.args.metric c.args.nets.now.exact c.args.nets.now.approx (vector_at c.args.patterns.now.vectors k) in
    let exact : c.as_slice.result.now ≡ wides_at c.args.outputs.now c.loop-q.q =
    c.as_slice.ensures ∙ c.index-outputs-q.is ∙ get_or_default c.args.outputs.now c.loop-q.q c.index-outputs-q.result [] c.loop-q-test.true in
    let right : AreWideOutputs c.args.nets.now.exact c.args.patterns.now.vectors c.loop-q.q c.as_slice.result.now =
    subst (λ (l : List (List ℕ)). AreWideOutputs c.args.nets.now.exact c.args.patterns.now.vectors c.loop-q.q l) (sym exact) (c.requires.outputs.are c.loop-q.q c.loop-q-test.true) in
    let block : AreWideOutputs c.args.nets.now.approx c.args.patterns.now.vectors c.loop-q.q c.outputs.result.now =
    wide_held c.args.nets.now.approx c.loop-q.wide.net c.loop-q.wide.patterns c.args.patterns.now c.loop-q.q c.reach.new.self.outputs c.outputs.result.now c.loop-q.invariant.net
    c.loop-q.invariant.patterns c.outputs.ensures.outputs c.reach.ensures.outputs in
    record {
      net = c.reach.ensures.net ∙ c.loop-q.invariant.net;
      patterns = c.reach.ensures.patterns ∙ c.loop-q.invariant.patterns;
      greatest =
          block_all f c.loop-q.q (length c.args.patterns.now.vectors) c.min-used.result c.loop-q.greatest.at c.loop-q.greatest.error c.greatest_in_block-greatest.result.at
          c.greatest_in_block-greatest.result.error (omega (arith, c.loop-q-test.true, c.requires.outputs.count))
          (c.min-used.ensures ∙ ap (λ (n : ℕ). min (n - 512 * c.loop-q.q) 512) c.count-count.ensures.value)
          (c.greatest_in_block-greatest.ensures f
          (λ p low. sym (error_in_block c.args.metric c.args.nets.now.exact c.args.nets.now.approx c.args.patterns.now.vectors c.loop-q.q c.as_slice.result.now c.outputs.result.now right block p low)))
          c.loop-q.invariant.greatest;
    }
