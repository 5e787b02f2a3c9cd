use Rattle.std.proofs.Common.{◌≡◌, ◌++◌, ◌+◌, map, length, ap, sym, ◌∙◌, arith}
use Rattle.std.specs.List.{range_with_len}
use Rattle.std.proofs.lemmas.List.{length-map}
use Rattle.hierarchy_semantics.specs.Models.{BlifModel}
use Rattle.hier_flat.proofs.Planned.{main_frame}
use Rattle.hier_flat.proofs.flat_net.main_signals.Goals as goal

pub returns : goal.returns
returns c =
    let count : c.len-count.result ≡ length c.model.inside.inputs.items = omega (arith, c.len-count.ensures) in
    let size = count ∙ sym (length-map c.model.inside.inputs.items (λ w. w.now)) ∙ ap (λ (k : BlifModel). length k.inputs) c.model.view_is in
    main_frame c.args.plans.now c.main-plan.result.now.model.now c.in_ok-signals.signals c.in-Some.offsets c.main-plan.ensures.model
    (c.main-plan.ensures.is.offsets c.in-Some.offsets c.in-Some.is)
    (c.in_ok-signals.ensures
    ∙ ap (λ l. l ++ map (λ s. c.len-count.result + s) c.in-Some.offsets) c.in_ok-inputs.ensures
    ∙ ap (λ k. range_with_len 0 k ++ map (λ s. k + s) c.in-Some.offsets) size)
