use Rattle.std.proofs.Common.{◌≡◌, ◌≤◌, length}
use Rattle.synth_core.specs.AllowedMoves.{IsSearched}
use Rattle.synth_core.proofs.unbroken.next_unbroken.Given as goal

-- some vector breaks each move so far
abbrev pub invariant-loop-candidate : goal.invariant-loop-candidate
invariant-loop-candidate g l = record {
  masks : l.masks ≡ l.fn.masks;
  fewer : length l.moves ≤ length l.fn.moves;
  searched : IsSearched l.fn.masks l.moves;
}

abbrev pub decreases-loop-candidate : goal.decreases-loop-candidate
decreases-loop-candidate g l = length l.moves
