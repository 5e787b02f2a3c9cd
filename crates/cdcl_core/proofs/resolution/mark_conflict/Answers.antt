use Rattle.std.proofs.Common.{neg_ℤ, refl, arith}
use Rattle.cdcl_core.specs.Explained.{IsMarked}
use Rattle.cdcl_core.proofs.Derived.{marks-conflict}
use Rattle.cdcl_core.proofs.FromConflict.{conflict_marked, conflict_some, conflict_empty}
use Rattle.cdcl_core.proofs.resolution.mark_conflict.Goals as goal

pub returns-clause-explained : goal.returns-clause-explained
returns-clause-explained c =
    marks-conflict c.args.clauses.now.list c.args.trail.now.literals c.mark_others.new.marks c.args.conflict c.requires.conflict.within
    (conflict_marked c.args.clauses.now.list c.args.trail.now c.mark_others.new.marks c.args.conflict 0 c.get-clause.result.now c.get-clause.result.now c.literal-true_one.result
    c.consistent.ensures.consistent (omega arith) c.requires.conflict c.get-clause.ensures refl c.literal-true_one.ensures c.mark_others.ensures.marked)

pub returns-clause-reaches : goal.returns-clause-reaches
returns-clause-reaches c start settled =
    conflict_some c.args.clauses.now.list c.args.trail.now c.mark_others.new.marks c.args.conflict start c.consistent.ensures.consistent c.requires.conflict settled
    (conflict_marked c.args.clauses.now.list c.args.trail.now c.mark_others.new.marks c.args.conflict 0 c.get-clause.result.now c.get-clause.result.now c.literal-true_one.result
    c.consistent.ensures.consistent (omega arith) c.requires.conflict c.get-clause.ensures refl c.literal-true_one.ensures c.mark_others.ensures.marked)

pub returns-clause-same : goal.returns-clause-same
returns-clause-same c = c.mark_others.ensures.same_length

pub returns-then-len-eq0-clause-explained : goal.returns-then-len-eq0-clause-explained
returns-then-len-eq0-clause-explained c =
    marks-conflict c.args.clauses.now.list c.args.trail.now.literals c.args.marks.now c.args.conflict c.requires.conflict.within
    (conflict_empty (λ a. IsMarked c.args.trail.now.literals c.args.marks.now (neg_ℤ a)) c.args.clauses.now.list c.args.trail.now c.args.conflict c.requires.conflict (omega arith))

pub returns-then-len-eq0-clause-reaches : goal.returns-then-len-eq0-clause-reaches
returns-then-len-eq0-clause-reaches c start settled =
    conflict_some c.args.clauses.now.list c.args.trail.now c.args.marks.now c.args.conflict start c.consistent.ensures.consistent c.requires.conflict settled
    (conflict_empty (λ a. IsMarked c.args.trail.now.literals c.args.marks.now (neg_ℤ a)) c.args.clauses.now.list c.args.trail.now c.args.conflict c.requires.conflict (omega arith))
