use Rattle.aiger_semantics.proofs.SignalLiterals.{are_literals, only_literals}
use Rattle.aiger_semantics.proofs.NetOutputs.{net_outputs}
use Rattle.aiger_semantics.proofs.laws.net_circuits.Goals as goal

pub returns : goal.returns
returns c = record { literals = are_literals; only = only_literals; outputs = net_outputs }
