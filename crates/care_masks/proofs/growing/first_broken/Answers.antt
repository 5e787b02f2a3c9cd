use Rattle.std.proofs.Common.{refl}
use Rattle.care_masks.proofs.Breaking.{broken_first, broken_none}
use Rattle.care_masks.proofs.growing.first_broken.Goals as goal

pub returns-in_err-broken-clause-cared : goal.returns-in_err-broken-clause-cared
returns-in_err-broken-clause-cared c = λ vectors long are before. c.reach_broken_word.ensures.cared vectors long are (c.loop-k.invariant.cared vectors long are before)

pub returns-in-Some-clause-broken : goal.returns-in-Some-clause-broken
returns-in-Some-clause-broken c =
    let j = c.args.known.now.judged.now in
    λ vectors long are before.
    broken_first j.metric j.nets.exact j.nets.approx j.bound c.args.a_move vectors c.loop-k.k c.in_ok-broken.broken c.in-Some.b _ refl
    (c.in_ok-broken.ensures.broken vectors long are (c.loop-k.invariant.cared vectors long are before)) c.in-Some.ensures (c.loop-k.invariant.none vectors long are before)

pub returns-in-Some-clause-cared : goal.returns-in-Some-clause-cared
returns-in-Some-clause-cared c = λ vectors long are before. c.reach_broken_word.ensures.cared vectors long are (c.loop-k.invariant.cared vectors long are before)

pub loop-k-preserved : goal.loop-k-preserved
loop-k-preserved c =
    let j = c.args.known.now.judged.now in
    record {
      few = c.reach_broken_word.ensures.few;
      room = c.reach_broken_word.ensures.room;
      cared = λ vectors long are before. c.reach_broken_word.ensures.cared vectors long are (c.loop-k.invariant.cared vectors long are before);
      none = λ vectors long are before.
          broken_none j.metric j.nets.exact j.nets.approx j.bound c.args.a_move vectors c.loop-k.k c.in_ok-broken.broken
          (c.in_ok-broken.ensures.broken vectors long are (c.loop-k.invariant.cared vectors long are before)) c.in_default.ensures (c.loop-k.invariant.none vectors long are before);
    }
