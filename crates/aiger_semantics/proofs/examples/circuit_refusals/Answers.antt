-- by computation
use Rattle.std.proofs.Common.{refl}
use Rattle.std.specs.Fmt.{digits}
use Rattle.semantics.specs.Refusals.{first_ungrounded}
use Rattle.aiger_semantics.specs.ReadNet.{net_of}
use Rattle.aiger_semantics.specs.Reading.{aiger_reading}
use Rattle.aiger_semantics.proofs.examples.circuit_refusals.Goals as goal

pub returns : goal.returns
unfolding digits first_ungrounded net_of aiger_reading
returns c = record { input_and_line = refl; operand = refl; output = refl; itself = refl; named_twice = refl; named_as_a_line = refl }
