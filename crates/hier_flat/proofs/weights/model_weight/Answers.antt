use Rattle.std.proofs.Common.{◌≡◌, ap, sym, subst, ◌∙◌, map, flat_map, sum_by, arith}
use Rattle.hierarchy_semantics.specs.Models.{BlifModel, Subcircuit, model_named, part_uses}
use Rattle.hierarchy_semantics.specs.Counts.{part_weight}
use Rattle.hier_parts.specs.Sections.{part_value}
use Rattle.hier_flat.specs.Weights.{weight_of, capped, weight_named, AreWeights}
use Rattle.hier_flat.proofs.Weighed.{capped_next, capped_all, uses_at}
use Rattle.hier_flat.proofs.weights.model_weight.Goals as goal

pub loop-part-preserved : goal.loop-part-preserved
loop-part-preserved c = (
  omega (arith, c.saturating_add-total.ensures),
  λ weight are.
      let h = c.args.models.now in
      let xs = c.deref-part-items.result.now in
      let k = c.loop-part.part-index in
      let weighed : Subcircuit → Type 0 = λ u. weight_named h c.args.inside.now u.model ≡ capped (weight (model_named h u.model)) in
      let used = uses_at weighed part_value xs k c.part-item.result c.loop-part-test.true (sym c.part-item.is) are in
      capped_next part_value (part_weight h (weight_of c.args.measure) weight) xs k c.part-item.result c.loop-part.total c.part_weight.result c.saturating_add-total.result _
      c.loop-part-test.true (sym c.part-item.is) (c.part_weight.ensures weight used) c.saturating_add-total.ensures (c.loop-part.invariant.1 weight are),
)

pub returns : goal.returns
returns c = λ weight are.
    let f = part_weight c.args.models.now (weight_of c.args.measure) weight in
    let items = ap (map part_value) c.deref-part-items.ensures.value ∙ ap (λ (m : BlifModel). m.parts) c.m.view_is in
    let used = subst (λ ps. AreWeights c.args.models.now c.args.inside.now weight (flat_map part_uses ps)) (sym items) are in
    capped_all part_value f c.deref-part-items.result.now c.loop-part.part-index c.loop-part.total _ (omega (arith, c.loop-part-test.false)) c.loop-part.invariant.0
    (c.loop-part.invariant.1 weight used)
    ∙ ap (λ ps. capped (sum_by f ps)) items
