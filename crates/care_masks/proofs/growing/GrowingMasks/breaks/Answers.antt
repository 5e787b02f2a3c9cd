use Rattle.std.proofs.Common.{◌≡◌, ◌<◌, List, Bool, [], length, map, ap, sym, subst, ◌∙◌, arith}
use Rattle.std.specs.List.{Contains}
use Rattle.std.proofs.lemmas.List.{get_or_default}
use Rattle.std.proofs.lemmas.Result.{IfOk-weaker}
use Rattle.semantics.specs.Net.{NetValue, IsSound, input_count, table_count}
use Rattle.chain_semantics.specs.Moves.{moves_of, table_of}
use Rattle.chain_semantics.specs.MoveLaws.{IsMoveOf}
use Rattle.chain_semantics.proofs.MoveMembers.{move_is}
use Rattle.chain_semantics.proofs.MovedNets.{move-within}
use Rattle.lane_nets.specs.Blocks.{row_at}
use Rattle.care_masks.specs.Masks.{FindsFirstBroken}
use Rattle.care_masks.specs.Growing.{GrowingValue, AreBlocksFor, AreCareWords, vectors_in_blocks}
use Rattle.care_masks.specs.declared.growing_blocks.Block.{Block}
use Rattle.care_masks.proofs.Filling.{vectors-count}
use Rattle.care_masks.proofs.GrownBlocks.{growing_set}
use Rattle.care_masks.proofs.growing.GrowingMasks.breaks.Goals as goal

pub index_mut-requires : goal.index_mut-requires
index_mut-requires c =
    let N : NetValue = c.self.inside.judged.nets.approx in
    let offered = subst (λ (M : NetValue). Contains (moves_of M) c.args.a_move) (sym (ap (λ (m : GrowingValue). m.net) c.self.view_is)) c.requires in
    let sound : IsSound N = subst IsSound c.approx.ensures.value c.see_sound.ensures.sound in
    let is : IsMoveOf N c.args.a_move = move_is N sound.acyclic c.args.a_move offered in
    omega (arith, c.table_of.ensures, move-within N c.args.a_move is, c.self.invariant.tables, c.self.inside.care.ok.0)

pub first_broken-requires-clause-few : goal.first_broken-requires-clause-few
first_broken-requires-clause-few c =
    let N : NetValue = c.self.inside.judged.nets.approx in
    let offered = subst (λ (M : NetValue). Contains (moves_of M) c.args.a_move) (sym (ap (λ (m : GrowingValue). m.net) c.self.view_is)) c.requires in
    let sound : IsSound N = subst IsSound c.approx.ensures.value c.see_sound.ensures.sound in
    let is : IsMoveOf N c.args.a_move = move_is N sound.acyclic c.args.a_move offered in
    let within : c.table_of.result < table_count N = omega (arith, c.table_of.ensures, move-within N c.args.a_move is) in
    let row : c.index_mut.result.now ≡ row_at c.self.inside.care.items c.table_of.result =
    c.index_mut.ensures.value ∙ get_or_default c.self.inside.care.items c.table_of.result c.index_mut.result.now [] (omega (arith, within, c.self.invariant.tables)) in
    omega (arith, ap length row, c.self.invariant.few c.table_of.result within, ap length c.as_slice.ensures.value)

pub invariant_of-self : goal.invariant_of-self
invariant_of-self c =
    let N : NetValue = c.self.inside.judged.nets.approx in
    let offered = subst (λ (M : NetValue). Contains (moves_of M) c.args.a_move) (sym (ap (λ (m : GrowingValue). m.net) c.self.view_is)) c.requires in
    let sound : IsSound N = subst IsSound c.approx.ensures.value c.see_sound.ensures.sound in
    let is : IsMoveOf N c.args.a_move = move_is N sound.acyclic c.args.a_move offered in
    let within : c.table_of.result < table_count N = omega (arith, c.table_of.ensures, move-within N c.args.a_move is) in
    let row : c.index_mut.result.now ≡ row_at c.self.inside.care.items c.table_of.result =
    c.index_mut.ensures.value ∙ get_or_default c.self.inside.care.items c.table_of.result c.index_mut.result.now [] (omega (arith, within, c.self.invariant.tables)) in
    let vectors : List (List Bool) = vectors_in_blocks (input_count N) c.self.inside.count c.self.inside.blocks.items in
    let before : AreCareWords c.self.inside.judged vectors (table_of c.args.a_move) c.index_mut.result.now =
    subst (λ t. AreCareWords c.self.inside.judged vectors t c.index_mut.result.now) c.table_of.ensures
    (subst (AreCareWords c.self.inside.judged vectors c.table_of.result) (sym row) (c.self.invariant.care c.table_of.result within)) in
    let after = c.first_broken.ensures.cared vectors (vectors-count N c.self.inside.count (map (λ (b : Block). b.words) c.self.inside.blocks.items))
    (subst (AreBlocksFor c.self.inside.judged vectors) (sym c.as_slice.ensures.value) c.self.invariant.blocks) before in
    growing_set c.self.inside.judged c.self.inside.count c.self.inside.blocks.items c.self.inside.care.items c.self.inside.room c.first_broken.new.room c.table_of.result c.first_broken.new.row
    c.self.invariant within (omega (arith, c.first_broken.ensures.few, ap length c.as_slice.ensures.value))
    (subst (λ t. AreCareWords c.self.inside.judged vectors t c.first_broken.new.row) (sym c.table_of.ensures) after) c.first_broken.ensures.room

pub returns-clause-broken : goal.returns-clause-broken
returns-clause-broken c =
    let N : NetValue = c.self.inside.judged.nets.approx in
    let offered = subst (λ (M : NetValue). Contains (moves_of M) c.args.a_move) (sym (ap (λ (m : GrowingValue). m.net) c.self.view_is)) c.requires in
    let sound : IsSound N = subst IsSound c.approx.ensures.value c.see_sound.ensures.sound in
    let is : IsMoveOf N c.args.a_move = move_is N sound.acyclic c.args.a_move offered in
    let within : c.table_of.result < table_count N = omega (arith, c.table_of.ensures, move-within N c.args.a_move is) in
    let row : c.index_mut.result.now ≡ row_at c.self.inside.care.items c.table_of.result =
    c.index_mut.ensures.value ∙ get_or_default c.self.inside.care.items c.table_of.result c.index_mut.result.now [] (omega (arith, within, c.self.invariant.tables)) in
    let vectors : List (List Bool) = vectors_in_blocks (input_count N) c.self.inside.count c.self.inside.blocks.items in
    let before : AreCareWords c.self.inside.judged vectors (table_of c.args.a_move) c.index_mut.result.now =
    subst (λ t. AreCareWords c.self.inside.judged vectors t c.index_mut.result.now) c.table_of.ensures
    (subst (AreCareWords c.self.inside.judged vectors c.table_of.result) (sym row) (c.self.invariant.care c.table_of.result within)) in
    IfOk-weaker c.first_broken.result _ (FindsFirstBroken c.args.self.now c.args.a_move)
    (λ found h. subst (λ (m : GrowingValue). FindsFirstBroken m c.args.a_move found) c.self.view_is
    (h vectors (vectors-count N c.self.inside.count (map (λ (b : Block). b.words) c.self.inside.blocks.items))
    (subst (AreBlocksFor c.self.inside.judged vectors) (sym c.as_slice.ensures.value) c.self.invariant.blocks) before))
    c.first_broken.ensures.broken
