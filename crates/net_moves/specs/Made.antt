-- A move that was made in a net, so that it can be taken back.
use Rattle.std.specs.Prelude.{◌≡◌, Contains}
use Rattle.semantics.specs.Net.{TableValue, NetValue, table_at, IsSound}
use Rattle.chain_semantics.specs.declared.moves.Move.{Move}
use Rattle.chain_semantics.specs.Moves.{moves_of, table_of, moved}

-- `now` is what the move made of the net `before`, in which `table` stood at the place of the move
pub record IsMadeIn (before : NetValue) (move : Move) (table : TableValue) (now : NetValue) : Type 0 where
  pub sound : IsSound before
  pub offered : Contains (moves_of before) move
  pub made : now ≡ moved before move
  pub stood : table ≡ table_at before.tables (table_of move)
