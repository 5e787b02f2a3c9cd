-- by computation
use Rattle.std.proofs.Common.{refl}
use Rattle.std.specs.Fmt.{digits}
use Rattle.semantics.specs.Texts.{text_of}
use Rattle.semantics.specs.Refusals.{first_ungrounded}
use Rattle.aiger_semantics.specs.NetCircuit.{after_rounds, signal_literal, ands_of}
use Rattle.aiger_semantics.specs.Text.{aiger_text}
use Rattle.aiger_semantics.specs.ReadNet.{net_of}
use Rattle.aiger_semantics.specs.Reading.{aiger_reading}
use Rattle.aiger_semantics.proofs.examples.readings.Goals as goal

pub returns : goal.returns
unfolding text_of digits first_ungrounded after_rounds signal_literal ands_of aiger_text net_of aiger_reading
returns c = record { circuit_back = refl; half_adder_back = refl; half_adder_counts = (refl, refl); without_symbols = refl; some_symbols = refl; constants = refl }
