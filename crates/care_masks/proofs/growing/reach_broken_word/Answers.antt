use Rattle.std.proofs.Common.{◌↔◌, ℕ, ◌<◌, List, Bool, IsTrue, get_or, sym, subst, arith}
use Rattle.semantics.specs.Net.{NetValue, IsSound}
use Rattle.chain_semantics.specs.Moves.{table_of}
use Rattle.chain_semantics.specs.Care.{IsCaredFor, Changes}
use Rattle.chain_semantics.specs.MoveLaws.{IsMoveOf}
use Rattle.chain_semantics.proofs.MoveMembers.{move_is}
use Rattle.chain_semantics.proofs.MovedNets.{move-within}
use Rattle.lane_nets.specs.Words.{word_bit, HasValues}
use Rattle.lane_nets.specs.Blocks.{IsBlock, IsWordWhere}
use Rattle.care_masks.specs.Growing.{AreCareWords, IsBlockOf}
use Rattle.care_masks.specs.Overlaps.{AreOverlapsOf}
use Rattle.care_masks.proofs.Breaking.{broken_bits}
use Rattle.care_masks.proofs.GrownBlocks.{broken_told, left_told, overlaps_read}
use Rattle.care_masks.proofs.growing.reach_broken_word.Goals as goal

pub returns-then-differs-eq0-clause-broken : goal.returns-then-differs-eq0-clause-broken
returns-then-differs-eq0-clause-broken c =
    let j = c.args.known.now.judged.now in
    let sound : IsSound j.nets.approx = subst IsSound c.approx.ensures.value c.block_difference-differs.ensures.built.sound in
    let is : IsMoveOf j.nets.approx c.args.a_move = move_is j.nets.approx sound.acyclic c.args.a_move c.requires.offered in
    λ vectors long are care.
    let block : IsBlockOf j vectors c.args.k c.index-blocks-k.result =
    subst (IsBlockOf j vectors c.args.k) (sym c.index-blocks-k.is) (are c.args.k c.index-blocks-k.result c.requires.within) in
    let tells = subst (λ (N : NetValue). AreOverlapsOf N c.as_slice-words.result.now c.as_slice-overlaps.result.now → (b : ℕ) (x : List Bool) → b < 64
    → HasValues N c.as_slice-words.result.now b x → IsTrue (word_bit c.block_difference-differs.result b) ↔ Changes N c.args.a_move x) c.approx.ensures.value
    c.block_difference-differs.ensures.bits
    (overlaps_read j.nets.approx _ c.as_slice-words.result.now _ c.as_slice-overlaps.result.now c.as_slice-words.ensures c.as_slice-overlaps.ensures
    block.overlaps) in
    left_told j.metric j.nets.exact j.nets.approx j.bound c.args.a_move sound is vectors c.args.k c.as_slice-words.result.now _
    (subst (IsBlock j.nets.approx vectors c.args.k) (sym c.as_slice-words.ensures) block.values)
    block.exceeds
    c.block_difference-differs.result c.if-differs-eq0.true tells

pub reach_care_words-requires-clause-table : goal.reach_care_words-requires-clause-table
reach_care_words-requires-clause-table c =
    let j = c.args.known.now.judged.now in
    let sound : IsSound j.nets.approx = subst IsSound c.approx.ensures.value c.block_difference-differs.ensures.built.sound in
    let is : IsMoveOf j.nets.approx c.args.a_move = move_is j.nets.approx sound.acyclic c.args.a_move c.requires.offered in
    omega (arith, c.table_of.ensures, move-within j.nets.approx c.args.a_move is)

pub returns-in_err-reach_care_words-clause-cared : goal.returns-in_err-reach_care_words-clause-cared
returns-in_err-reach_care_words-clause-cared c = λ vectors long are before.
    subst (λ t. AreCareWords c.args.known.now.judged.now vectors t c.reach_care_words.new.row) c.table_of.ensures
    (c.reach_care_words.ensures.cared vectors long are (subst (λ t. AreCareWords c.args.known.now.judged.now vectors t c.args.row.now) (sym c.table_of.ensures) before))

pub returns-clause-broken : goal.returns-clause-broken
returns-clause-broken c =
    let j = c.args.known.now.judged.now in
    let sound : IsSound j.nets.approx = subst IsSound c.approx.ensures.value c.block_difference-differs.ensures.built.sound in
    let is : IsMoveOf j.nets.approx c.args.a_move = move_is j.nets.approx sound.acyclic c.args.a_move c.requires.offered in
    λ vectors long are before.
    let block : IsBlockOf j vectors c.args.k c.index-blocks-k.result =
    subst (IsBlockOf j vectors c.args.k) (sym c.index-blocks-k.is) (are c.args.k c.index-blocks-k.result c.requires.within) in
    let tells = subst (λ (N : NetValue). AreOverlapsOf N c.as_slice-words.result.now c.as_slice-overlaps.result.now → (b : ℕ) (x : List Bool) → b < 64
    → HasValues N c.as_slice-words.result.now b x → IsTrue (word_bit c.block_difference-differs.result b) ↔ Changes N c.args.a_move x) c.approx.ensures.value
    c.block_difference-differs.ensures.bits
    (overlaps_read j.nets.approx _ c.as_slice-words.result.now _ c.as_slice-overlaps.result.now c.as_slice-words.ensures c.as_slice-overlaps.ensures
    block.overlaps) in
    let row = subst (λ t. AreCareWords c.args.known.now.judged.now vectors t c.reach_care_words.new.row) c.table_of.ensures
    (c.reach_care_words.ensures.cared vectors long are (subst (λ t. AreCareWords c.args.known.now.judged.now vectors t c.args.row.now) (sym c.table_of.ensures) before)) in
    let care : IsWordWhere vectors (IsCaredFor j.metric j.nets.exact j.bound j.nets.approx (table_of c.args.a_move)) c.args.k (get_or c.as_slice.result.now c.args.k 0) =
    subst (λ (r : List ℕ). IsWordWhere vectors (IsCaredFor j.metric j.nets.exact j.bound j.nets.approx (table_of c.args.a_move)) c.args.k (get_or r c.args.k 0)) (sym c.as_slice.ensures)
    (row c.args.k (omega (arith, c.in_ok-reach_care_words.ensures.ok))) in
    broken_told j.metric j.nets.exact j.nets.approx j.bound c.args.a_move sound is vectors c.args.k c.as_slice-words.result.now _
    (subst (IsBlock j.nets.approx vectors c.args.k) (sym c.as_slice-words.ensures) block.values)
    block.exceeds
    (get_or c.as_slice.result.now c.args.k 0) _ care
    (λ b x low values. broken_bits j.nets.approx c.args.a_move x _ _ _ _ (tells b x low values) (c.broken_word.ensures b low))

pub returns-clause-cared : goal.returns-clause-cared
returns-clause-cared c = λ vectors long are before.
    subst (λ t. AreCareWords c.args.known.now.judged.now vectors t c.reach_care_words.new.row) c.table_of.ensures
    (c.reach_care_words.ensures.cared vectors long are (subst (λ t. AreCareWords c.args.known.now.judged.now vectors t c.args.row.now) (sym c.table_of.ensures) before))
