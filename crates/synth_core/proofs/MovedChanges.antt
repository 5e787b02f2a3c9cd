-- A move is a change of its table's function: where that table has the same value before and after, so have all signals.
use Rattle.std.proofs.Common.{◌≡◌, ◌+◌, ◌<◌, Bool, List, refl, sym, ◌∙◌, arith}
use Rattle.std.specs.List.{Contains}
use Rattle.std.proofs.lemmas.List.{length-set}
use Rattle.semantics.specs.Net.{NetValue, table_at, input_count, table_count, IsSound}
use Rattle.semantics.specs.Value.{outputs_of}
use Rattle.semantics.proofs.Replaced.{replaced-new}
use Rattle.chain_semantics.specs.declared.moves.Move.{Move}
use Rattle.chain_semantics.specs.Care.{moved_value}
use Rattle.chain_semantics.specs.Moves.{moves_of, table_of, moved_table, moved}
use Rattle.chain_semantics.specs.MoveLaws.{IsMoveOf}
use Rattle.chain_semantics.proofs.MoveMembers.{move_is}
use Rattle.chain_semantics.proofs.MovedFlips.{move-left}
use Rattle.chain_semantics.proofs.MovedNets.{move-within, moved-acyclic}
use Rattle.net_search.specs.Judging.{signal_value, IsChange}

module _ (N : NetValue) (move : Move) (sound : IsSound N) (is : IsMoveOf N move) where
  -- the moved table's value after the move
  value-after : (x : List Bool) → signal_value (moved N move) x (input_count N + table_of move) ≡ moved_value N move x
  value-after x =
      replaced-new (input_count N) N.tables (table_of move) (moved_table (table_at N.tables (table_of move)) move) x sound.acyclic (moved-acyclic N move sound is) (move-within N move is)

  outputs-same : (x : List Bool) → signal_value N x (input_count N + table_of move) ≡ signal_value (moved N move) x (input_count N + table_of move)
      → outputs_of N x ≡ outputs_of (moved N move) x
  outputs-same x same = sym (move-left N move x sound is (λ changes. changes (sym (value-after x) ∙ sym same)))

  moved-is_change : IsChange N (moved N move) (input_count N + table_of move)
  moved-is_change =
      let within : table_of move < table_count N = move-within N move is in
      record {
        inputs = refl;
        in_before = omega (arith, within);
        in_after = omega (arith, within, length-set N.tables (table_of move) (moved_table (table_at N.tables (table_of move)) move));
        same = λ x width same. outputs-same x same;
      }

pub moved-change : (N : NetValue) (move : Move) → IsSound N → Contains (moves_of N) move → IsChange N (moved N move) (input_count N + table_of move)
moved-change N move sound offered = moved-is_change N move sound (move_is N sound.acyclic move offered)

pub moved-table : (N : NetValue) (move : Move) → IsSound N → Contains (moves_of N) move → table_of move < table_count N
moved-table N move sound offered = move-within N move (move_is N sound.acyclic move offered)
