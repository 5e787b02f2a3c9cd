use Rattle.std.proofs.Common.{◌≡◌, ◌<◌, [], length, ap, sym, subst, ◌∙◌, arith}
use Rattle.std.specs.List.{Contains}
use Rattle.std.proofs.lemmas.List.{get_or_default}
use Rattle.semantics.specs.Net.{NetValue, input_count, table_count}
use Rattle.chain_semantics.specs.Moves.{moves_of, table_of}
use Rattle.chain_semantics.specs.Care.{IsCaredFor, Exceeds}
use Rattle.chain_semantics.specs.MoveLaws.{IsMoveOf}
use Rattle.chain_semantics.proofs.MoveMembers.{move_is}
use Rattle.chain_semantics.proofs.MovedNets.{move-within}
use Rattle.lane_bits.specs.Rows.{word_count}
use Rattle.care_masks.specs.Masks.{Masks, AreMasksOf, FindsFirstBroken}
use Rattle.lane_nets.specs.Blocks.{row_at, IsRowWhere, AreBlocksOf}
use Rattle.care_masks.specs.Filled.{vectors_in}
use Rattle.care_masks.proofs.Filling.{vectors-count}
use Rattle.care_masks.proofs.fixed.FixedMasks.breaks.Goals as goal

pub get-requires : goal.get-requires
get-requires c =
    let offered = subst (λ (N : NetValue). Contains (moves_of N) c.args.a_move) (sym (ap (λ (m : Masks). m.net) c.self.view_is)) c.requires in
    let is : IsMoveOf c.self.inside.net c.args.a_move = move_is c.self.inside.net c.self.invariant.sound.acyclic c.args.a_move offered in
    omega (arith, c.table_of.ensures, c.self.invariant.tables, move-within c.self.inside.net c.args.a_move is)

pub first_broken-requires-clause-few : goal.first_broken-requires-clause-few
first_broken-requires-clause-few c =
    omega (arith, ap length c.as_slice.ensures, c.self.invariant.blocks.count ∙ ap word_count (vectors-count c.self.inside.net c.self.inside.count c.self.inside.blocks), c.self.invariant.few)

pub first_broken-requires-clause-care : goal.first_broken-requires-clause-care
first_broken-requires-clause-care c =
    let offered = subst (λ (N : NetValue). Contains (moves_of N) c.args.a_move) (sym (ap (λ (m : Masks). m.net) c.self.view_is)) c.requires in
    let is : IsMoveOf c.self.inside.net c.args.a_move = move_is c.self.inside.net c.self.invariant.sound.acyclic c.args.a_move offered in
    let within : c.table_of.result < table_count c.self.inside.net = omega (arith, c.table_of.ensures, move-within c.self.inside.net c.args.a_move is) in
    let row : c.as_slice-care.result.now ≡ row_at c.self.inside.care c.table_of.result =
    c.as_slice-care.ensures ∙ c.get.ensures ∙ get_or_default c.self.inside.care c.table_of.result c.get.result.now [] (omega (arith, within, c.self.invariant.tables)) in
    ap length row ∙ (c.self.invariant.care c.table_of.result within).words
    ∙ sym (ap length c.as_slice.ensures ∙ c.self.invariant.blocks.count ∙ ap word_count (vectors-count c.self.inside.net c.self.inside.count c.self.inside.blocks))

pub first_broken-requires-clause-exceeds : goal.first_broken-requires-clause-exceeds
first_broken-requires-clause-exceeds c =
    ap length c.as_slice-2.ensures ∙ c.self.invariant.exceeds.words
    ∙ sym (ap length c.as_slice.ensures ∙ c.self.invariant.blocks.count ∙ ap word_count (vectors-count c.self.inside.net c.self.inside.count c.self.inside.blocks))

pub returns : goal.returns
returns c =
    let offered = subst (λ (N : NetValue). Contains (moves_of N) c.args.a_move) (sym (ap (λ (m : Masks). m.net) c.self.view_is)) c.requires in
    let is : IsMoveOf c.self.inside.net c.args.a_move = move_is c.self.inside.net c.self.invariant.sound.acyclic c.args.a_move offered in
    let within : table_of c.args.a_move < table_count c.self.inside.net = move-within c.self.inside.net c.args.a_move is in
    let row : c.as_slice-care.result.now ≡ row_at c.self.inside.care (table_of c.args.a_move) =
    c.as_slice-care.ensures ∙ c.get.ensures
    ∙ get_or_default c.self.inside.care c.table_of.result c.get.result.now [] (omega (arith, c.table_of.ensures, within, c.self.invariant.tables))
    ∙ ap (row_at c.self.inside.care) c.table_of.ensures in
    let vectors = vectors_in (input_count c.self.inside.net) c.self.inside.count c.self.inside.blocks in
    λ metric exact bound masks.
    let inside = subst (AreMasksOf metric exact bound) (sym c.self.view_is) masks in
    subst (λ (m : Masks). FindsFirstBroken (record { exact = exact; net = m.net; metric = metric; bound = bound; vectors = m.vectors }) c.args.a_move c.first_broken.result) c.self.view_is
    (c.first_broken.ensures metric exact bound vectors (subst (AreBlocksOf c.self.inside.net vectors) (sym c.as_slice.ensures) c.self.invariant.blocks)
    (subst (IsRowWhere vectors (IsCaredFor metric exact bound c.self.inside.net (table_of c.args.a_move))) (sym row) (inside.care (table_of c.args.a_move) within))
    (subst (IsRowWhere vectors (Exceeds metric exact bound c.self.inside.net)) (sym c.as_slice-2.ensures) inside.exceeds))
