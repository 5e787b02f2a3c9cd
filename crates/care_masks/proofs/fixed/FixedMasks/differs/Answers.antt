use Rattle.std.proofs.Common.{◌≡◌, refl, length, ap, sym, subst, ◌∙◌, arith}
use Rattle.std.proofs.lemmas.List.{with_items_is}
use Rattle.chain_semantics.specs.Care.{Changes}
use Rattle.lane_bits.specs.Rows.{word_count}
use Rattle.semantics.specs.Net.{input_count}
use Rattle.care_masks.specs.Masks.{Masks}
use Rattle.lane_nets.specs.Blocks.{IsRowWhere, AreBlocksOf}
use Rattle.care_masks.specs.Filled.{vectors_in}
use Rattle.care_masks.proofs.Filling.{vectors-count}
use Rattle.care_masks.proofs.fixed.FixedMasks.differs.Goals as goal

pub set_differences-requires-clause-count : goal.set_differences-requires-clause-count
set_differences-requires-clause-count c =
    ap length c.as_slice.ensures ∙ c.self.invariant.blocks.count ∙ ap word_count (vectors-count c.self.inside.net c.self.inside.count c.self.inside.blocks)

pub returns : goal.returns
returns c =
    let row : c.deref.result.now ≡ c.set_differences.new.row =
    c.deref.ensures.value ∙ with_items_is c.self.inside.differs c.set_differences.new.row (omega (arith, c.set_differences.auto.row, c.deref_mut.ensures.len)) in (
      (refl, (λ _. tt), c.self.view_is),
      record {
        masks = tt;
        row = rw row
            (subst (λ (m : Masks). IsRowWhere m.vectors (Changes m.net c.args.a_move) c.set_differences.new.row) c.self.view_is
            (c.set_differences.ensures (vectors_in (input_count c.self.inside.net) c.self.inside.count c.self.inside.blocks)
            (vectors-count c.self.inside.net c.self.inside.count c.self.inside.blocks)
            (subst (AreBlocksOf c.self.inside.net (vectors_in (input_count c.self.inside.net) c.self.inside.count c.self.inside.blocks)) (sym c.as_slice.ensures) c.self.invariant.blocks)));
      },
    )
