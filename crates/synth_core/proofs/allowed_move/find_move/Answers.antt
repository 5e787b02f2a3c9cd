use Rattle.std.proofs.Common.{refl, ap, subst, ◌∙◌}
use Rattle.chain_semantics.specs.Moves.{moves_of}
use Rattle.synth_core.specs.AllowedMoves.{masks_over, IsMaskedPool, IsWeighed}
use Rattle.synth_core.proofs.Searching.{searched-none, searched-next, searched-broken, searched-first, searched-spent}
use Rattle.synth_core.proofs.allowed_move.find_move.Goals as goal

pub loop-trials-init : goal.loop-trials-init
loop-trials-init g c = record {
  aim = refl;
  judge = refl;
  searched =
      searched-none (masks_over c.args.tester.now.aim c.args.nets.now c.args.tester.now.pool.vectors) c.in_ok-moves.moves (c.in_ok-moves.ensures ∙ ap moves_of c.approx.ensures.value);
  scratch = c.in_ok-trials.ensures.scratch;
  masked = c.in_ok-trials.ensures.masked;
}

pub loop-trials-preserved : goal.loop-trials-preserved
loop-trials-preserved g c =
    let nets = c.args.nets.now in
    let aim = c.args.tester.now.aim in
    let so_far = c.loop-trials.invariant in
    let same = so_far.aim in
    let next =
    searched-next aim nets c.loop-trials.tester.pool c.loop-trials.trials.masks c.next_unbroken.new.moves c.in_ok-candidate.field-0 c.in-Some.candidate so_far.masked
    c.in_ok-candidate.ensures.next c.in-Some.is in
    let weighed = subst (λ a. IsWeighed a nets c.weigh.new.tester.pool.vectors c.in-Some.candidate c.in_ok-weigh.field-0) same c.in_ok-weigh.ensures.weighed in
    record {
      aim = c.weigh.ensures.aim ∙ so_far.aim;
      judge = c.weigh.ensures.judge ∙ so_far.judge;
      searched =
          searched-broken aim nets c.loop-trials.tester.pool.vectors c.weigh.new.tester.pool.vectors c.next_unbroken.new.moves c.in-Some.candidate next c.in_ok-weigh.ensures.among
          (rw c.in-Refused.is at weighed);
      scratch = rw c.in-Refused.is at c.in_ok-weigh.ensures.scratch;
      masked = subst (λ a. IsMaskedPool a nets c.weigh.new.tester.pool c.weigh.new.trials.masks) same c.in_ok-weigh.ensures.masked;
    }

pub returns-in-Allowed-clause-found : goal.returns-in-Allowed-clause-found
returns-in-Allowed-clause-found g c =
    let nets = c.args.nets.now in
    let aim = c.args.tester.now.aim in
    let so_far = c.loop-trials.invariant in
    let same = so_far.aim in
    let next =
    searched-next aim nets c.loop-trials.tester.pool c.loop-trials.trials.masks c.next_unbroken.new.moves c.in_ok-candidate.field-0 c.in-Some.candidate so_far.masked
    c.in_ok-candidate.ensures.next c.in-Some.is in
    let weighed = subst (λ a. IsWeighed a nets c.weigh.new.tester.pool.vectors c.in-Some.candidate c.in_ok-weigh.field-0) same c.in_ok-weigh.ensures.weighed in
    searched-first aim nets c.loop-trials.tester.pool.vectors c.weigh.new.tester.pool.vectors c.next_unbroken.new.moves c.in-Some.candidate next c.in_ok-weigh.ensures.among
    so_far.masked.pool.widths c.weigh.new.trials.scratch (rw c.in-Allowed.is at weighed) (rw c.in-Allowed.is at c.in_ok-weigh.ensures.scratch)

pub returns-in-Spent-clause-found : goal.returns-in-Spent-clause-found
returns-in-Spent-clause-found g c =
    let nets = c.args.nets.now in
    let aim = c.args.tester.now.aim in
    let so_far = c.loop-trials.invariant in
    let same = so_far.aim in
    let next =
    searched-next aim nets c.loop-trials.tester.pool c.loop-trials.trials.masks c.next_unbroken.new.moves c.in_ok-candidate.field-0 c.in-Some.candidate so_far.masked
    c.in_ok-candidate.ensures.next c.in-Some.is in
    let weighed = subst (λ a. IsWeighed a nets c.weigh.new.tester.pool.vectors c.in-Some.candidate c.in_ok-weigh.field-0) same c.in_ok-weigh.ensures.weighed in
    searched-spent aim nets c.loop-trials.tester.pool.vectors c.weigh.new.tester.pool.vectors c.next_unbroken.new.moves c.in-Some.candidate next c.in_ok-weigh.ensures.among
    c.in-Spent.spent (rw c.in-Spent.is at weighed)
