-- by computation
use Rattle.std.proofs.Common.{refl}
use Rattle.blif_semantics.specs.Lines.{logical_lines}
use Rattle.blif_semantics.proofs.examples.lines.Goals as goal

pub returns : goal.returns
unfolding logical_lines
returns c = record {
  a_comment_joins_nothing = refl;
  empty = refl;
  in_mid_word = refl;
  at_the_end = refl;
  only_one_is_removed = refl;
  three_lines = refl;
  a_comment_ends_a_join = refl;
  tabs = refl;
}
