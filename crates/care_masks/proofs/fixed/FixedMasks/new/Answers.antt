use Rattle.std.proofs.Common.{◌≡◌, ℕ, List, Bool, length, ap, sym, subst, ◌∙◌, arith}
use Rattle.std.specs.List.{AllByRecursion}
use Rattle.semantics.specs.Net.{NetValue, input_count}
use Rattle.lane_bits.specs.Rows.{word_count}
use Rattle.care_masks.specs.Masks.{Masks}
use Rattle.lane_nets.specs.Blocks.{AreBlocksOf}
use Rattle.care_masks.specs.Filled.{vectors_in}
use Rattle.lane_nets.proofs.FirstOver.{same_inputs}
use Rattle.care_masks.proofs.CareBits.{outputs_fit}
use Rattle.care_masks.proofs.Filling.{vectors_are, filled, masked}
use Rattle.care_masks.proofs.fixed.FixedMasks.new.Goals as goal

pub exceeding_row-requires-clause-limit : goal.exceeding_row-requires-clause-limit
exceeding_row-requires-clause-limit c =
    outputs_fit c.args.exact.now c.args.approx.now c.args.patterns.now.vectors c.count.result c.in_ok-output_rows.field-0 c.requires.ports c.count.ensures.value c.in_ok-output_rows.ensures

pub care_rows-requires-clause-limit : goal.care_rows-requires-clause-limit
care_rows-requires-clause-limit c =
    outputs_fit c.args.exact.now c.args.approx.now c.args.patterns.now.vectors c.count.result c.in_ok-output_rows.field-0 c.requires.ports c.count.ensures.value c.in_ok-output_rows.ensures

pub of_parts-requires : goal.of_parts-requires
of_parts-requires c =
    let inputs = c.requires.inputs ∙ sym (same_inputs c.args.exact.now c.args.approx.now c.requires.ports) in
    let long : length c.in_ok-differs.differs.items ≡ c.word_count.result = omega (arith, c.in_ok-differs.ensures.len) in
    let room : length c.in_ok-differs.differs.items ≡ word_count c.count-3.result = long ∙ c.word_count.ensures ∙ ap word_count (c.count-2.ensures.value ∙ sym c.count-3.ensures.value) in
    rw c.in_ok-net.ensures
    (filled c.args.metric c.args.exact.now c.args.approx.now c.args.bound c.args.patterns.now.vectors c.in_ok-blocks.blocks c.in_ok-care.care c.in_ok-exceeds.exceeds c.count-3.result
    c.in_ok-care.ensures.built.sound c.count-3.ensures.value c.in_ok-blocks.ensures
    (subst (λ (n : ℕ). AllByRecursion (λ (x : List Bool). length x ≡ n) c.args.patterns.now.vectors) inputs c.count.ensures.formed.widths)
    (c.in_ok-care.ensures.rows c.args.exact.now c.args.patterns.now.vectors (sym c.count.ensures.value) c.in_ok-output_rows.ensures
    (subst (AreBlocksOf c.args.approx.now c.args.patterns.now.vectors) (sym c.as_slice-2.ensures) c.in_ok-blocks.ensures))
    (c.in_ok-exceeds.ensures c.args.exact.now c.args.patterns.now.vectors (sym c.count.ensures.value) c.in_ok-output_rows.ensures
    (subst (AreBlocksOf c.args.approx.now c.args.patterns.now.vectors) (sym c.as_slice.ensures) c.in_ok-blocks.ensures))
    c.in_ok-differs.differs.items c.count-3.type_inv c.in_ok-care.ensures.count room)

pub returns-clause-vectors : goal.returns-clause-vectors
returns-clause-vectors c =
    let inputs = c.requires.inputs ∙ sym (same_inputs c.args.exact.now c.args.approx.now c.requires.ports) in
    ap (λ (m : Masks). m.vectors) c.of_parts.ensures
    ∙ ap (λ (N : NetValue). vectors_in (input_count N) c.count-3.result c.in_ok-blocks.blocks) c.in_ok-net.ensures
    ∙ vectors_are c.args.metric c.args.exact.now c.args.approx.now c.args.bound c.args.patterns.now.vectors c.in_ok-blocks.blocks c.in_ok-care.care c.in_ok-exceeds.exceeds c.count-3.result
    c.in_ok-care.ensures.built.sound c.count-3.ensures.value c.in_ok-blocks.ensures
    (subst (λ (n : ℕ). AllByRecursion (λ (x : List Bool). length x ≡ n) c.args.patterns.now.vectors) inputs c.count.ensures.formed.widths)
    (c.in_ok-care.ensures.rows c.args.exact.now c.args.patterns.now.vectors (sym c.count.ensures.value) c.in_ok-output_rows.ensures
    (subst (AreBlocksOf c.args.approx.now c.args.patterns.now.vectors) (sym c.as_slice-2.ensures) c.in_ok-blocks.ensures))
    (c.in_ok-exceeds.ensures c.args.exact.now c.args.patterns.now.vectors (sym c.count.ensures.value) c.in_ok-output_rows.ensures
    (subst (AreBlocksOf c.args.approx.now c.args.patterns.now.vectors) (sym c.as_slice.ensures) c.in_ok-blocks.ensures))

pub returns-clause-masks : goal.returns-clause-masks
returns-clause-masks c =
    let inputs = c.requires.inputs ∙ sym (same_inputs c.args.exact.now c.args.approx.now c.requires.ports) in
    rw (c.of_parts.ensures, c.in_ok-net.ensures)
    (masked c.args.metric c.args.exact.now c.args.approx.now c.args.bound c.args.patterns.now.vectors c.in_ok-blocks.blocks c.in_ok-care.care c.in_ok-exceeds.exceeds c.count-3.result
    c.in_ok-care.ensures.built.sound c.count-3.ensures.value c.in_ok-blocks.ensures
    (subst (λ (n : ℕ). AllByRecursion (λ (x : List Bool). length x ≡ n) c.args.patterns.now.vectors) inputs c.count.ensures.formed.widths)
    (c.in_ok-care.ensures.rows c.args.exact.now c.args.patterns.now.vectors (sym c.count.ensures.value) c.in_ok-output_rows.ensures
    (subst (AreBlocksOf c.args.approx.now c.args.patterns.now.vectors) (sym c.as_slice-2.ensures) c.in_ok-blocks.ensures))
    (c.in_ok-exceeds.ensures c.args.exact.now c.args.patterns.now.vectors (sym c.count.ensures.value) c.in_ok-output_rows.ensures
    (subst (AreBlocksOf c.args.approx.now c.args.patterns.now.vectors) (sym c.as_slice.ensures) c.in_ok-blocks.ensures)))
