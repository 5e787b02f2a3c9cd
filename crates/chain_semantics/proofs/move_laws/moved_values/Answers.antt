use Rattle.chain_semantics.proofs.MovedValues.{moved-itself, moved-others, moved_table-name, constant-value, copied-value, row_dropped-other, other-row_dropped, literal_dropped-row}
use Rattle.chain_semantics.proofs.MovedValues.{row-literal_dropped, rows-left, literals-left, becomes-copy, becomes-pair, pair-value}
use Rattle.std.proofs.Common.{refl}
use Rattle.chain_semantics.proofs.move_laws.moved_values.Goals as goal

pub returns : goal.returns
returns c = record {
  itself = moved-itself;
  others = moved-others;
  name = moved_table-name;
  becomes_constant = λ t i value. refl;
  becomes_copy = becomes-copy;
  becomes_pair = becomes-pair;
  constant = constant-value;
  row = λ t i r v within. (row_dropped-other t i r v within, other-row_dropped t i r v within);
  literal = λ t i r p v within. (literal_dropped-row t i r p v within, row-literal_dropped t i r p v within);
  signal = copied-value;
  pair = pair-value;
  rows_left = rows-left;
  literals_left = literals-left;
}
