use Rattle.std.proofs.Common.{◌≡◌, ℕ, ◌/◌, List, Bool, length, map, take, ap, sym, subst, ◌∙◌, arith}
use Rattle.std.specs.List.{AllByRecursion}
use Rattle.std.specs.Vec.{with_items}
use Rattle.std.proofs.lemmas.List.{length-take, with_items_is}
use Rattle.semantics.specs.Net.{IsSound, input_count}
use Rattle.lane_bits.specs.Rows.{word_count}
use Rattle.lane_nets.proofs.FirstOver.{same_inputs}
use Rattle.care_masks.specs.Growing.{GrowingValue, IsFrontOf, AreBlocksFor, AreGrowing, vectors_in_blocks}
use Rattle.care_masks.specs.declared.growing_blocks.Block.{Block}
use Rattle.care_masks.proofs.Filling.{vectors-count}
use Rattle.care_masks.proofs.GrownBlocks.{blocks_kept, growing_grown, growing_none, grown_view, vectors_are_back}
use Rattle.care_masks.proofs.growing.GrowingMasks.grow.Goals as goal

pub add_blocks-requires-clause-few : goal.add_blocks-requires-clause-few
add_blocks-requires-clause-few c =
    let old : List (List Bool) = vectors_in_blocks (input_count c.self.inside.judged.nets.approx) c.self.inside.count c.self.inside.blocks.items in
    let front : IsFrontOf old c.args.patterns.now.vectors = subst (λ (m : GrowingValue). IsFrontOf m.vectors c.args.patterns.now.vectors) (sym c.self.view_is) c.requires.front in
    let long : length old ≡ c.self.inside.count = vectors-count c.self.inside.judged.nets.approx c.self.inside.count (map (λ (b : Block). b.words) c.self.inside.blocks.items) in
    omega (arith, ap length c.truncate.ensures.items, length-take (c.self.inside.count / 64) c.self.inside.blocks.items, long, front.shorter)

pub add_blocks-requires-clause-known : goal.add_blocks-requires-clause-known
add_blocks-requires-clause-known c =
    let old : List (List Bool) = vectors_in_blocks (input_count c.self.inside.judged.nets.approx) c.self.inside.count c.self.inside.blocks.items in
    let front : IsFrontOf old c.args.patterns.now.vectors = subst (λ (m : GrowingValue). IsFrontOf m.vectors c.args.patterns.now.vectors) (sym c.self.view_is) c.requires.front in
    let long : length old ≡ c.self.inside.count = vectors-count c.self.inside.judged.nets.approx c.self.inside.count (map (λ (b : Block). b.words) c.self.inside.blocks.items) in
    subst (AreBlocksFor c.self.inside.judged c.args.patterns.now.vectors) (sym c.truncate.ensures.items)
    (blocks_kept c.self.inside.judged old c.args.patterns.now.vectors c.self.inside.blocks.items (c.self.inside.count / 64) front (ap (λ n. n / 64) (sym long)) c.self.invariant.blocks)

pub invariant_of-self : goal.invariant_of-self
invariant_of-self c =
    let j = c.self.inside.judged in
    let new : List (List Bool) = c.args.patterns.now.vectors in
    let old : List (List Bool) = vectors_in_blocks (input_count c.self.inside.judged.nets.approx) c.self.inside.count c.self.inside.blocks.items in
    let front : IsFrontOf old c.args.patterns.now.vectors = subst (λ (m : GrowingValue). IsFrontOf m.vectors c.args.patterns.now.vectors) (sym c.self.view_is) c.requires.front in
    let long : length old ≡ c.self.inside.count = vectors-count c.self.inside.judged.nets.approx c.self.inside.count (map (λ (b : Block). b.words) c.self.inside.blocks.items) in
    let inputs = c.requires.inputs ∙ ap (λ (m : GrowingValue). input_count m.exact) (sym c.self.view_is)
    ∙ sym (same_inputs c.self.inside.judged.nets.exact c.self.inside.judged.nets.approx c.approx.ensures.candidate.ports) in
    let rows = with_items_is c.self.inside.care c.cut_rows.new.rows (omega (arith, c.cut_rows.auto.rows, c.deref_mut.ensures.len))
    ∙ c.cut_rows.ensures ∙ ap (map (take (c.self.inside.count / 64))) c.deref_mut.ensures.value in
    subst (λ (r : List (List ℕ)). AreGrowing c.self.inside.judged c.count-self-inside.result c.add_blocks.new.blocks.items r c.self.inside.room) (sym rows)
    (growing_grown j c.count-self-inside.result (c.self.inside.count / 64) old new c.add_blocks.new.blocks.items c.self.inside.care.items c.self.inside.room
    (subst IsSound c.approx.ensures.value c.see_sound.ensures.sound) c.count-self-inside.ensures.value c.count-self-inside.type_inv c.in-Ok.ensures.count c.in-Ok.ensures.known
    (subst (λ (n : ℕ). AllByRecursion (λ (x : List Bool). length x ≡ n) c.args.patterns.now.vectors) inputs c.count-self-inside.ensures.formed.widths)
    front (ap (λ n. n / 64) (sym long)) c.self.invariant.tables c.self.invariant.care c.self.invariant.room)

pub invariant_of-self-in-Err : goal.invariant_of-self-in-Err
invariant_of-self-in-Err c =
    let first = with_items c.self.inside.care c.cut_rows.new.rows in
    let one = with_items_is c.self.inside.care c.cut_rows.new.rows (omega (arith, c.cut_rows.auto.rows, c.deref_mut.ensures.len)) in
    let rows = with_items_is first c.cut_rows-in-Err.new.rows (omega (arith, c.cut_rows-in-Err.auto.rows, c.deref_mut-in-Err.ensures.len))
    ∙ c.cut_rows-in-Err.ensures in
    subst (λ (r : List (List ℕ)). AreGrowing c.self.inside.judged 0 c.clear.new.self.items r c.self.inside.room) (sym rows)
    (growing_none c.self.inside.judged c.clear.new.self.items c.deref_mut-in-Err.result.now c.self.inside.room c.clear.ensures.items
    (omega (arith, c.deref_mut-in-Err.ensures.len, c.self.invariant.tables, c.self.inside.care.ok.0)) c.self.invariant.room)

pub returns-in-Ok-clause-ok : goal.returns-in-Ok-clause-ok
returns-in-Ok-clause-ok c =
    let j = c.self.inside.judged in
    let new : List (List Bool) = c.args.patterns.now.vectors in
    let old : List (List Bool) = vectors_in_blocks (input_count c.self.inside.judged.nets.approx) c.self.inside.count c.self.inside.blocks.items in
    let inputs = c.requires.inputs ∙ ap (λ (m : GrowingValue). input_count m.exact) (sym c.self.view_is)
    ∙ sym (same_inputs c.self.inside.judged.nets.exact c.self.inside.judged.nets.approx c.approx.ensures.candidate.ports) in
    grown_view c.args.self.now j old (vectors_in_blocks (input_count c.self.inside.judged.nets.approx) c.count-self-inside.result c.add_blocks.new.blocks.items) new c.self.view_is
    (vectors_are_back j new c.count-self-inside.result c.add_blocks.new.blocks.items (subst IsSound c.approx.ensures.value c.see_sound.ensures.sound) c.count-self-inside.ensures.value
    (c.in-Ok.ensures.count ∙ ap word_count (sym c.count-self-inside.ensures.value)) c.in-Ok.ensures.known
    (subst (λ (n : ℕ). AllByRecursion (λ (x : List Bool). length x ≡ n) c.args.patterns.now.vectors) inputs c.count-self-inside.ensures.formed.widths))
