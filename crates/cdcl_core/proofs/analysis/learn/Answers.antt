use Rattle.std.proofs.Common.{◌≡◌, ◌∙◌, ℕ, ◌-◌, get_or, ap, subst, arith}
use Rattle.cdcl_core.specs.Placed.{last_start}
use Rattle.cdcl_core.specs.Analysis.{IsShortened, IsOneFrom}
use Rattle.cdcl_core.specs.Analysed.{IsAnalysed}
use Rattle.cdcl_core.specs.declared.analysis.Learned.{Learned}
use Rattle.cdcl_core.proofs.FromConflict.{last_settled, analysed, one_shortened}
use Rattle.cdcl_core.proofs.Resolving.{shortened_more, shortened_later}
use Rattle.cdcl_core.proofs.analysis.learn.Goals as goal

pub reach_one-learned-requires-clause-some : goal.reach_one-learned-requires-clause-some
reach_one-learned-requires-clause-some c =
    c.mark_conflict.ensures.reaches c.start-start.result
    (last_settled c.args.clauses.now.list c.args.trail.now c.levels.result c.start-start.result c.requires.running.settled c.requires.levels c.levels.ensures c.start-start.ensures)

pub returns-clause-analysed : goal.returns-clause-analysed
returns-clause-analysed c =
    let shortened : IsShortened c.reach_one-learned.new.marks c.resolve_base.new.marks c.start-start.result =
    shortened_more c.reach_one-learned.new.marks c.shorten-places.new.marks c.resolve_base.new.marks c.start-start.result c.shorten-places.ensures.shortened
    (shortened_later c.shorten-places.new.marks c.resolve_base.new.marks c.min-first.result c.start-start.result (omega arith) c.resolve_base.ensures.shortened) in
    let one : IsOneFrom c.args.trail.now.literals c.resolve_base.new.marks c.start-start.result c.reach_one-learned.result =
    one_shortened c.args.trail.now.literals c.reach_one-learned.new.marks c.resolve_base.new.marks c.start-start.result c.reach_one-learned.result c.reach_one-learned.ensures.one shortened in
    let start_is : c.start-start.result ≡ last_start c.args.trail.now = c.start-start.ensures ∙ ap (λ (levels : ℕ). get_or c.args.trail.now.starts (levels - 1) 0) c.levels.ensures in
    let r : Learned = record { clause = c.gather_clause.new.clause; hints = c.resolve_base.new.hints; place = c.reach_one-learned.result; levels = c.count_levels-learned.result } in
    subst (λ start. IsAnalysed c.args.clauses.now.list c.args.trail.now start r) start_is
    (analysed c.args.clauses.now.list c.args.trail.now c.resolve_base.new.marks c.start-start.result r c.consistent.ensures.consistent c.consistent.ensures.literals
    (last_settled c.args.clauses.now.list c.args.trail.now c.levels.result c.start-start.result c.requires.running.settled c.requires.levels c.levels.ensures c.start-start.ensures)
    one c.gather_clause.ensures.clause c.resolve_base.ensures.explained)
