use Rattle.std.proofs.Common.{refl, subst, sym, ap, ◌∙◌, arith}
use Rattle.semantics.specs.Net.{IsSmall}
use Rattle.semantics.specs.Error.{IsCandidate, IsWithin}
use Rattle.chain_semantics.proofs.Simplifications.{simplified_from, simplified_from-small}
use Rattle.job_semantics.proofs.SmallNets.{literals_at_most}
use Rattle.synth_core.specs.AllowedMoves.{IsPool, IsFound}
use Rattle.synth_core.proofs.Shrinkings.{next-member, shrinking-end, shrinking-spent, beside_member}
use Rattle.synth_core.proofs.turn.take_turn.Goals as goal

pub literals-requires : goal.literals-requires
literals-requires g c =
    let P = c.args.nets.now in
    let aim = c.args.tester.now.aim in
    let N = c.args.member.now in
    let begin = c.requires.ready.beginning in
    let small = simplified_from-small aim.metric P.exact aim.bound P.approx begin N c.requires.ready.small c.requires.member in
    omega (arith, literals_at_most N small (simplified_from aim.metric P.exact aim.bound P.approx begin N c.requires.member).sound.tables_formed)

pub new-pair-requires : goal.new-pair-requires
new-pair-requires g c =
    let P = c.args.nets.now in
    let aim = c.args.tester.now.aim in
    subst (λ E. IsCandidate E c.args.member.now) (sym c.exact.ensures.value)
    (record {
      ports = (simplified_from aim.metric P.exact aim.bound P.approx c.requires.ready.beginning c.args.member.now c.requires.member).ports;
      few_outputs = c.exact.ensures.candidate.few_outputs;
    })

-- k is the lifetimes of the call, since the judge is generic in one
pub find_move-requires : goal.find_move-requires
find_move-requires g c = λ k.
    let P = c.args.nets.now in
    let aim = c.args.tester.now.aim in
    let N = c.args.member.now in
    let begin = c.requires.ready.beginning in
    let beside = beside_member c.new-pair.result c.exact.result.now P.exact N c.new-pair.ensures c.exact.ensures.value in
    let judge = c.requires.ready.judge ∙ sym (ap (λ Q. Q.exact) beside) in
    let small = subst (λ Q. IsSmall Q.approx) (sym beside) (simplified_from-small aim.metric P.exact aim.bound P.approx begin N c.requires.ready.small c.requires.member) in
    let keeps = (simplified_from aim.metric P.exact aim.bound P.approx begin N c.requires.member).within in
    let within = subst (λ Q. IsWithin aim.metric Q.exact aim.bound Q.approx) (sym beside) keeps in
    let pool = subst (λ Q. IsPool Q.exact c.args.tester.now.pool) (sym beside) c.requires.pool in
    ((refl, tt), (judge, (small, (c.requires.limit, (within, pool)))))

pub returns-in_ok-tidy-in-Moved-clause-turn : goal.returns-in_ok-tidy-in-Moved-clause-turn
returns-in_ok-tidy-in-Moved-clause-turn g c =
    let P = c.args.nets.now in
    let aim = c.args.tester.now.aim in
    let beside = beside_member c.new-pair.result c.exact.result.now P.exact c.args.member.now c.new-pair.ensures c.exact.ensures.value in
    let told = subst (λ Q. IsFound aim Q c.find_move.new.tester.pool.vectors c.in_ok-moved.field-0) beside c.in_ok-moved.ensures.found in
    next-member aim P c.args.member.now c.in-Moved.moved c.in_ok-tidy-in-Moved.field-0 c.requires.ready.beginning c.requires.member (rw c.in-Moved.is at told)
    c.in_ok-tidy-in-Moved.ensures

pub returns-in-End-clause-turn : goal.returns-in-End-clause-turn
returns-in-End-clause-turn g c =
    let P = c.args.nets.now in
    let aim = c.args.tester.now.aim in
    let beside = beside_member c.new-pair.result c.exact.result.now P.exact c.args.member.now c.new-pair.ensures c.exact.ensures.value in
    let told = subst (λ Q. IsFound aim Q c.find_move.new.tester.pool.vectors c.in_ok-moved.field-0) beside c.in_ok-moved.ensures.found in
    shrinking-end aim P c.args.member.now c.find_move.new.tester.pool c.requires.member (subst (λ Q. IsPool Q.exact c.find_move.new.tester.pool) beside c.in_ok-moved.ensures.pool)
    (rw c.in-End.is at told)

pub returns-in-Spent-clause-turn : goal.returns-in-Spent-clause-turn
returns-in-Spent-clause-turn g c =
    let P = c.args.nets.now in
    let aim = c.args.tester.now.aim in
    let beside = beside_member c.new-pair.result c.exact.result.now P.exact c.args.member.now c.new-pair.ensures c.exact.ensures.value in
    let told = subst (λ Q. IsFound aim Q c.find_move.new.tester.pool.vectors c.in_ok-moved.field-0) beside c.in_ok-moved.ensures.found in
    shrinking-spent aim P c.args.member.now c.find_move.new.tester.pool c.requires.member (subst (λ Q. IsPool Q.exact c.find_move.new.tester.pool) beside c.in_ok-moved.ensures.pool)
    c.in-Spent.spent (rw c.in-Spent.is at told)
