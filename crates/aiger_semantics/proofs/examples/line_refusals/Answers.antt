-- by computation
use Rattle.std.proofs.Common.{refl}
use Rattle.std.specs.Fmt.{digits}
use Rattle.semantics.specs.Refusals.{first_ungrounded}
use Rattle.aiger_semantics.specs.ReadNet.{net_of}
use Rattle.aiger_semantics.specs.Reading.{aiger_reading}
use Rattle.aiger_semantics.proofs.examples.line_refusals.Goals as goal

pub returns : goal.returns
unfolding digits first_ungrounded net_of aiger_reading
returns c = record {
  empty = refl;
  too_long = refl;
  binary = refl;
  leading_zero = refl;
  two_blanks = refl;
  greatest = refl;
  above_greatest = refl;
  latches = refl;
  above_literals = refl;
  missing = refl;
  odd_input = refl;
  constant_defined = refl;
  no_symbol = refl;
  out_of_range = refl;
  symbol_twice = refl;
  without_text = refl;
  defined_twice = refl;
}
