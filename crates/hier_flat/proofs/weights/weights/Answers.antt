use Rattle.std.proofs.Common.{length, get_or, refl, ap, subst, ◌∙◌, arith}
use Rattle.std.proofs.lemmas.List.{length-replicate, length-set}
use Rattle.hierarchy_semantics.specs.Models.{Hierarchy}
use Rattle.hier_flat.specs.Weights.{weight_of}
use Rattle.hier_flat.proofs.Settled.{Weighs, model_within, settled_none, settled_more, settled_all}
use Rattle.hier_flat.proofs.weights.weights.Goals as goal

pub loop-place-init : goal.loop-place-init
loop-place-init c =
    let h = c.args.models.now in (
      ap length (c.in_ok-weights.ensures.items_if_clones_equal (λ y h. h)) ∙ length-replicate (length h) 0,
      omega arith,
      settled_none h (weight_of c.args.measure) c.args.order.now c.requires.order c.in_ok-weights.weights.items,
    )

pub bounds-models-at : goal.bounds-models-at
bounds-models-at c = model_within c.args.models.now (weight_of c.args.measure) c.args.order.now c.requires.order c.loop-place.place-index _ c.loop-place-test.true refl

pub index_mut-requires : goal.index_mut-requires
index_mut-requires c =
    let within = model_within c.args.models.now (weight_of c.args.measure) c.args.order.now c.requires.order c.loop-place.place-index (get_or c.args.order.now c.loop-place.place-index 0)
    c.loop-place-test.true refl in
    omega (arith, within, c.loop-place.invariant.0)

pub loop-place-preserved : goal.loop-place-preserved
loop-place-preserved c =
    let h = c.args.models.now in
    let w = weight_of c.args.measure in
    let m = c.index-models-at.result in
    let n = c.model_weight-weight.result in
    let read : Weighs h w c.deref.result.now m n = subst (λ (k : Hierarchy). Weighs k w c.deref.result.now m n) c.requires.found c.model_weight-weight.ensures in
    let weighed : Weighs h w c.loop-place.weights.items m n = subst (λ v. Weighs h w v m n) c.deref.ensures.value read in (
      length-set c.loop-place.weights.items _ n ∙ c.loop-place.invariant.0,
      omega (arith, c.loop-place-test.true),
      settled_more h w c.args.order.now c.requires.order c.loop-place.weights.items c.loop-place.place-index _ m n c.loop-place-test.true refl c.index-models-at.is c.loop-place.invariant.0
          weighed c.loop-place.invariant.2,
    )

pub returns : goal.returns
returns c =
    settled_all c.args.models.now (weight_of c.args.measure) c.args.order.now c.requires.order c.loop-place.weights.items c.loop-place.place-index c.loop-place-test.false c.loop-place.invariant.1
    c.loop-place.invariant.0 c.loop-place.invariant.2
