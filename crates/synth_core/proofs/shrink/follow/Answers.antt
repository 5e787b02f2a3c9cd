use Rattle.std.proofs.Common.{refl, subst, ◌∙◌}
use Rattle.synth_core.specs.Turns.{IsNextMember}
use Rattle.synth_core.proofs.shrink.follow.Goals as goal

pub loop-next-init : goal.loop-next-init
loop-next-init g c = record { aim = refl; judge = refl; member = c.requires.member; pool = c.requires.pool }

-- k is the lifetimes of the call, since the judge is generic in one
pub take_turn-requires : goal.take_turn-requires
take_turn-requires g c = λ k.
    let so_far = c.loop-next.invariant in
    rw so_far.aim (rw so_far.judge ((refl, tt), (c.requires.ready, (c.requires.limit, (so_far.member, so_far.pool)))))

pub loop-next-smaller : goal.loop-next-smaller
loop-next-smaller g c = let turned = rw c.in-Next.is at c.in_ok-next.ensures.turn in turned.fewer

pub loop-next-preserved : goal.loop-next-preserved
loop-next-preserved g c =
    let turned =
    subst (λ a. IsNextMember a c.args.nets.now c.loop-next.member c.in-Next.next) c.loop-next.invariant.aim (rw c.in-Next.is at c.in_ok-next.ensures.turn) in
    record {
      aim = c.take_turn.ensures.aim ∙ c.loop-next.invariant.aim;
      judge = c.take_turn.ensures.judge ∙ c.loop-next.invariant.judge;
      member = turned.member;
      pool = c.in_ok-next.ensures.pool;
    }
