use Rattle.std.proofs.Common.{refl, ap, subst, sym, ◌∙◌, arith}
use Rattle.std.proofs.lemmas.Result.{IfOk-weaker}
use Rattle.semantics.specs.Net.{input_count}
use Rattle.semantics.specs.Error.{IsCandidate, IsWithin}
use Rattle.level_answers.specs.Levels.{IsLevelAnswer}
use Rattle.net_search.specs.Judging.{IsChange}
use Rattle.synth_core.proofs.Trying.{judged-by}
use Rattle.synth_core.proofs.move_trial.keeps_bound.Goals as goal

pub returns-then-inputs-le-FEW_INPUTS-clause-judged : goal.returns-then-inputs-le-FEW_INPUTS-clause-judged
returns-then-inputs-le-FEW_INPUTS-clause-judged g c =
    c.requires.known (omega (arith, c.inputs.ensures.value ∙ ap input_count c.exact.ensures.value, c.if-inputs-le-FEW_INPUTS.true))

pub new-moved_nets-requires : goal.new-moved_nets-requires
new-moved_nets-requires g c = subst (λ E. IsCandidate E c.args.moved.now) (sym c.exact-2.ensures.value) c.requires.candidate

-- k is the lifetimes of the call, since the judge is generic in one
pub judge-requires : goal.judge-requires
judge-requires g c = λ k.
    let aim = c.args.tester.now.aim in
    let exact = ap (λ P. P.exact) c.new-moved_nets.ensures ∙ c.exact-2.ensures.value in
    let approx = ap (λ P. P.approx) c.new-moved_nets.ensures in
    let within = subst (λ N. IsWithin aim.metric c.args.nets.now.exact aim.bound N) (sym c.approx.ensures.value) c.requires.within in
    let before = subst (λ E. IsWithin aim.metric E aim.bound c.approx.result.now) (sym exact) within in
    let changed = subst (λ N. IsChange N c.args.moved.now c.args.signal) (sym c.approx.ensures.value) c.requires.change in
    let change = subst (λ M. IsChange c.approx.result.now M c.args.signal) (sym approx) changed in
    ((refl, tt), (c.requires.judge ∙ sym exact, (c.requires.limit, (before, change))))

pub returns-clause-judged : goal.returns-clause-judged
returns-clause-judged g c =
    let exact = c.args.nets.now.exact in
    let aim = c.args.tester.now.aim in
    let count = c.inputs.ensures.value ∙ ap input_count c.exact.ensures.value in
    IfOk-weaker c.judge.result _ _
    (λ m answer.
    judged-by aim exact c.args.moved.now m (omega (arith, count, c.if-inputs-le-FEW_INPUTS.false))
    (subst (λ E. IsLevelAnswer aim E c.args.moved.now m) c.exact-2.ensures.value (subst (λ P. IsLevelAnswer aim P.exact P.approx m) c.new-moved_nets.ensures answer)))
    c.judge.ensures.answer
