use Rattle.std.proofs.Common.{◌≡◌, ℕ, ◌*◌, ◌<◌, ◌≤◌, List, Bool, length}
use Rattle.chain_semantics.specs.Moves.{table_of}
use Rattle.chain_semantics.specs.Care.{IsBrokenAt}
use Rattle.lane_nets.specs.Blocks.{vector_at}
use Rattle.care_masks.specs.Growing.{AreBlocksFor, AreCareWords, FitsRoom}
use Rattle.care_masks.proofs.growing.first_broken.Given as goal

abbrev pub invariant-loop-k : goal.invariant-loop-k
invariant-loop-k l = record {
  few : length l.row ≤ length l.known.blocks.now;
  room : FitsRoom l.known.judged.now l.room;
  cared : (vectors : List (List Bool)) → length vectors ≡ l.known.count → AreBlocksFor l.known.judged.now vectors l.known.blocks.now
      → AreCareWords l.known.judged.now vectors (table_of l.a_move) l.fn.row → AreCareWords l.known.judged.now vectors (table_of l.a_move) l.row;
  none : (vectors : List (List Bool)) → length vectors ≡ l.known.count → AreBlocksFor l.known.judged.now vectors l.known.blocks.now → AreCareWords l.known.judged.now vectors (table_of l.a_move) l.fn.row
      → (p : ℕ) → p < 64 * l.k → p < length vectors → ¬ IsBrokenAt l.known.judged.now.metric l.known.judged.now.nets.exact l.known.judged.now.bound l.known.judged.now.nets.approx l.a_move (vector_at
      vectors p);
}
