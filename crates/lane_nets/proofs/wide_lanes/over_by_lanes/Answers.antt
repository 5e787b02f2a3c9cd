use Rattle.std.proofs.Common.{ℕ, ◌<◌, refl, ◌∙◌, arith}
use Rattle.std.proofs.Math.ListN.{length-set}
use Rattle.semantics.specs.Error.{word_error}
use Rattle.lane_nets.specs.Lanes.{lane_at}
use Rattle.lane_nets.specs.Wide.{lane_words}
use Rattle.lane_nets.proofs.WideErrors.{lanes_more}
use Rattle.lane_nets.proofs.wide_lanes.over_by_lanes.Goals as goal

pub loop-j-init : goal.loop-j-init
loop-j-init c = record { long = refl; each = λ i b none low. absurd (omega (arith, none)) }

pub loop-j-preserved : goal.loop-j-preserved
loop-j-preserved c =
    let P : ℕ → ℕ → Type 0 = λ i b. c.args.level < word_error c.args.kind (lane_at (lane_words c.args.exact.now i) b) (lane_at (lane_words c.args.approx.now i) b) in
    record {
      long = length-set c.loop-j.words c.loop-j.j c.lane_over.result ∙ c.loop-j.invariant.long;
      each = lanes_more P c.loop-j.words c.loop-j.j c.lane_over.result (omega (arith, c.loop-j-test.true, c.loop-j.invariant.long)) c.lane_over.ensures c.loop-j.invariant.each;
    }

pub returns : goal.returns
returns c = λ i b lane low. c.loop-j.invariant.each i b (omega (arith, lane, c.loop-j-test.false)) low
