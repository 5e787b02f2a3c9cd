use Rattle.std.proofs.Common.{sym, subst, ◌∙◌, arith, ap, ◌++◌}
use Rattle.hier_parts.specs.Sections.{Begins, models_from}
use Rattle.hier_parts.proofs.Cuts.{begins-next, models-all, only_model, some_lines, hierarchy-next}
use Rattle.hier_parts.proofs.models.hierarchy_of.Goals as goal

pub returns-then-is_empty : goal.returns-then-is_empty
returns-then-is_empty c = only_model c.args.lines.now _ _ _ c.if-is_empty.ensures c.new-models.ensures.items c.in_ok-push.ensures.items c.in_ok-model_from.ensures

pub loop-start-init : goal.loop-start-init
loop-start-init c =
    let lines = c.args.lines.now in
    record { some = some_lines lines c.if-is_empty.ensures; within = omega arith; begins = tt; same = ap (λ v. v ++ models_from lines 0) c.new-models.ensures.items ∙ models-all lines }

pub loop-start-preserved : goal.loop-start-preserved
loop-start-preserved c =
    let lines = c.args.lines.now in
    let end = c.section_end-end.ensures in
    record {
      some = c.loop-start.invariant.some;
      within = end.within;
      begins = subst (Begins lines) (sym end.is) (begins-next lines c.loop-start.start);
      same = hierarchy-next lines c.loop-start.start c.section_end-end.result c.loop-start.models.items _ _ _ c.loop-start-test.true c.loop-start.invariant.begins end.is c.in_ok-push-2.ensures.items
          c.in_ok-model_from-2.ensures c.loop-start.invariant.same;
    }
