use Rattle.std.proofs.Common.{refl, subst, ◌∙◌}
use Rattle.semantics.specs.Net.{IsSound}
use Rattle.chain_semantics.specs.Chain.IsInChain.{first}
use Rattle.chain_semantics.specs.Simplification.{IsInSimplificationFrom}
use Rattle.chain_semantics.specs.Tidy.{IsTidiedFrom}
use Rattle.synth_core.specs.AllowedMoves.{IsPool}
use Rattle.synth_core.specs.Turns.{IsReadyFor}
use Rattle.synth_core.proofs.shrink.shrink_from.Goals as goal

-- k is the lifetimes of the call, since the judge is generic in one
pub follow-requires : goal.follow-requires
follow-requires g c = λ k.
    let P = c.args.nets.now in
    let aim = c.args.aim in
    let ready : IsReadyFor aim P (g.J.Judging.exact c.in_ok-tester.tester.judge) = record {
      beginning = record { sound = subst IsSound c.approx.ensures.value c.see_sound.ensures.sound; ports = c.approx.ensures.candidate.ports; within = c.requires.within };
      small = c.requires.begin;
      judge = c.in_ok-tester.ensures.judge ∙ c.exact.ensures.value;
    } in
    let member : IsInSimplificationFrom aim.metric P.exact aim.bound P.approx c.in_ok-member.member = record {
      start = c.in_ok-member.member;
      tidied = subst (λ N. IsTidiedFrom N c.in_ok-member.member) (c.in_ok-copy.ensures ∙ c.approx-2.ensures.value) c.in_ok-member.ensures;
      member = first;
    } in
    let pool = subst (λ E. IsPool E c.in_ok-tester.tester.pool) c.exact.ensures.value c.in_ok-tester.ensures.pool in
    rw c.in_ok-tester.ensures.aim ((refl, tt), (ready, (c.requires.limit, (member, pool))))
