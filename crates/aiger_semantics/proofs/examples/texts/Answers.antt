-- by computation
use Rattle.std.proofs.Common.{refl}
use Rattle.std.specs.Fmt.{digits}
use Rattle.semantics.specs.Texts.{text_of}
use Rattle.aiger_semantics.specs.NetCircuit.{after_rounds, signal_literal, ands_of}
use Rattle.aiger_semantics.specs.Text.{aiger_text}
use Rattle.aiger_semantics.proofs.examples.texts.Goals as goal

pub returns : goal.returns
unfolding text_of digits after_rounds signal_literal ands_of aiger_text
returns c = record { of_half_adder = refl; of_wire = refl; of_constant = refl }
