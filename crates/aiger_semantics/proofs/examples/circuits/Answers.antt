-- by computation
use Rattle.std.proofs.Common.{refl}
use Rattle.aiger_semantics.specs.NetCircuit.{after_rounds, signal_literal, ands_of}
use Rattle.aiger_semantics.proofs.examples.circuits.Goals as goal

pub returns : goal.returns
unfolding after_rounds signal_literal ands_of
returns c = record { of_half_adder = refl; of_two_rows = refl; of_zeros = refl; of_inverters = refl; of_constant = refl; of_constant_sum = refl }
