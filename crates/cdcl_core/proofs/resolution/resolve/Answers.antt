use Rattle.std.proofs.Common.{◌≡◌, ℕ, Bool, true, List, refl, ap, subst, length, arith}
use Rattle.std.proofs.Math.ListN.{length-set}
use Rattle.cdcl_core.specs.Analysis.{mark_at}
use Rattle.cdcl_core.proofs.Resolving.{resolved_explained, replaced_kept, replaced_below}
use Rattle.cdcl_core.proofs.resolution.resolve.Goals as goal

pub returns-clause-explained : goal.returns-clause-explained
returns-clause-explained c h =
    resolved_explained c.args.clauses.now.list c.args.trail.now.literals c.args.marks.now c.mark_others.new.marks c.args.hints.now.items c.push_reserved.new.self.items c.args.entry c.args.reason
    c.id_of.result
    c.get-clause.result.now c.get-clause.result.now c.literal.result c.consistent.ensures.consistent c.requires.entry c.requires.reason c.get-clause.ensures refl c.literal.ensures
    (subst (λ (marks : List Bool). (p : ℕ) → mark_at marks p ≡ true → mark_at c.mark_others.new.marks p ≡ true) c.unset.ensures c.mark_others.ensures.kept)
    c.mark_others.ensures.marked c.id_of.ensures c.push_reserved.ensures.items h

pub returns-clause-same : goal.returns-clause-same
returns-clause-same c = let same = c.mark_others.ensures.same_length in let e = ap length c.unset.ensures in omega (arith, length-set c.args.marks.now c.args.entry)

pub returns-clause-kept : goal.returns-clause-kept
returns-clause-kept c =
    replaced_kept c.args.trail.now.literals c.args.marks.now c.unset.new.self c.mark_others.new.marks c.get-clause.result.now c.literal.result c.args.entry c.unset.ensures c.mark_others.ensures

pub returns-clause-below : goal.returns-clause-below
returns-clause-below c =
    replaced_below c.args.trail.now.literals c.args.marks.now c.unset.new.self c.mark_others.new.marks c.get-clause.result.now c.literal.result c.args.entry c.unset.ensures (omega arith)
    c.mark_others.ensures
