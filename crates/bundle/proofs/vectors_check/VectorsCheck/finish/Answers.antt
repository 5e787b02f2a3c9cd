use Rattle.std.proofs.Common.{sym, ◌∙◌}
use Rattle.bundle.proofs.VectorsSoFar.{finished_wrong, finished_early, finished_right}
use Rattle.bundle.proofs.vectors_check.VectorsCheck.finish.Goals as goal

pub returns-then-not-is_right : goal.returns-then-not-is_right
returns-then-not-is_right c = finished_wrong c.self.inside c.args.self c.self.view_is c.self.invariant c.if-not-is_right.true

pub returns-then-not-is_whole : goal.returns-then-not-is_whole
returns-then-not-is_whole c = finished_early c.self.inside c.args.self c.self.view_is c.self.invariant c.if-not-is_right.false (sym c.is_whole.ensures ∙ c.if-not-is_whole.true)

pub returns : goal.returns
returns c =
    finished_right c.self.inside c.args.self c.self.view_is c.self.invariant c.if-not-is_right.false (sym c.is_whole.ensures ∙ c.if-not-is_whole.false) c.in_ok-finish.field-0 c.in_ok-finish.ensures
