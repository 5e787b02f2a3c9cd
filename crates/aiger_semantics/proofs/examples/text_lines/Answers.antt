-- by computation
use Rattle.std.proofs.Common.{refl}
use Rattle.aiger_semantics.proofs.examples.text_lines.Goals as goal

pub returns : goal.returns
returns c = record { empty = refl; one = refl; ended = refl; empty_line = refl; returns = refl }
