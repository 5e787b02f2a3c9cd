use Rattle.std.proofs.Common.{subst, ◌∙◌}
use Rattle.every_vector.specs.Vectors.{IsEveryVectorHeld}
use Rattle.every_vector.proofs.FirstGreatest.{every_some, every_greatest}
use Rattle.worst_case.proofs.judge.Judge.greatest_of_every.Goals as goal

pub greatest_of-requires-clause-some : goal.greatest_of-requires-clause-some
greatest_of-requires-clause-some c = every_some c.self.inside.exact.now c.in-Some.every (rw c.in-Some.is at c.in_ok-every.ensures)

pub returns-clause-greatest : goal.returns-clause-greatest
returns-clause-greatest c =
    let nets = c.args.nets.now in
    let held = subst (λ N. IsEveryVectorHeld N c.in-Some.every) (c.self.view_is ∙ c.requires.judge) (rw c.in-Some.is at c.in_ok-every.ensures) in
    every_greatest c.args.metric nets.exact nets.approx c.in-Some.every c.in_ok-greatest_of.field-0.error c.in_ok-greatest_of.field-0.witness held c.in_ok-greatest_of.ensures.greatest
