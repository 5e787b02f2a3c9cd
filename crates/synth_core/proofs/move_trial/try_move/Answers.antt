use Rattle.std.proofs.Common.{◌≡◌, ◌+◌, refl, ap, subst, sym, ◌∙◌}
use Rattle.std.specs.List.{Contains}
use Rattle.semantics.specs.Net.{input_count, IsSound}
use Rattle.semantics.specs.Error.{IsWithin}
use Rattle.chain_semantics.specs.Moves.{moves_of, table_of, moved}
use Rattle.net_search.specs.Judging.{IsChange}
use Rattle.synth_core.specs.MoveTrials.{IsFoundOver}
use Rattle.synth_core.proofs.MovedChanges.{moved-change}
use Rattle.synth_core.proofs.Trying.{moved-candidate, made_in}
use Rattle.synth_core.proofs.move_trial.try_move.Goals as goal

pub moved_signal-signal-requires : goal.moved_signal-signal-requires
moved_signal-signal-requires g c = subst (λ N. Contains (moves_of N) c.args.candidate) (sym c.approx.ensures.value) c.requires.offered

pub make-requires : goal.make-requires
make-requires g c = rw c.requires.scratch c.requires.offered

-- k is the lifetimes of the call, since the judge is generic in one
pub keeps_bound-requires : goal.keeps_bound-requires
keeps_bound-requires g c = λ k.
    let nets = c.args.nets.now in
    let aim = c.args.tester.now.aim in
    let sound = subst IsSound c.approx.ensures.value c.moved_signal-signal.ensures.sound in
    let made = c.in_ok-table.ensures.ok ∙ ap (λ N. moved N c.args.candidate) c.requires.scratch in
    let signal = c.moved_signal-signal.ensures.signal ∙ ap (λ N. input_count N + table_of c.args.candidate) c.approx.ensures.value in
    let change = moved-change nets.approx c.args.candidate sound c.requires.offered in
    let changed = subst (λ M. IsChange nets.approx M c.moved_signal-signal.result) (sym made) (subst (IsChange nets.approx (moved nets.approx c.args.candidate)) (sym signal) change) in
    let pair = moved-candidate nets.exact nets.approx c.args.candidate c.make.new.net made sound c.requires.offered c.approx.ensures.candidate in
    ((refl, tt), (c.requires.judge, (c.requires.limit, (c.requires.within, (changed, (pair, λ few. subst (IsWithin aim.metric nets.exact aim.bound) (sym made) (c.requires.known few)))))))

pub take_back-requires : goal.take_back-requires
take_back-requires g c = (
  c.args.nets.now.approx,
  made_in c.args.nets.now.approx c.args.scratch.now c.make.new.net c.args.candidate c.in_ok-table.table c.requires.scratch (subst IsSound c.approx.ensures.value c.moved_signal-signal.ensures.sound)
      c.requires.offered c.in_ok-table.ensures.ok c.in_ok-table.ensures.taken,
)

pub returns-in_ok-take_back-in-Over-clause-trial : goal.returns-in_ok-take_back-in-Over-clause-trial
returns-in_ok-take_back-in-Over-clause-trial g c =
    let made : c.make.new.net ≡ moved c.args.nets.now.approx c.args.candidate = c.in_ok-table.ensures.ok ∙ ap (λ N. moved N c.args.candidate) c.requires.scratch in
    record {
      over = subst (λ M. IsFoundOver c.args.tester.now.aim c.args.nets.now.exact M c.in-Over.x) made (rw c.in-Over.is at c.in_ok-x.ensures.judged);
      back = c.in_ok-take_back-in-Over.ensures.ok c.args.nets.now.approx
          (made_in c.args.nets.now.approx c.args.scratch.now c.make.new.net c.args.candidate c.in_ok-table.table c.requires.scratch
          (subst IsSound c.approx.ensures.value c.moved_signal-signal.ensures.sound) c.requires.offered c.in_ok-table.ensures.ok c.in_ok-table.ensures.taken);
    }
