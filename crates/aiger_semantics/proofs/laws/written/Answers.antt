use Rattle.aiger_semantics.proofs.WrittenNets.{net-read, same-circuit, net-of-text}
use Rattle.aiger_semantics.proofs.laws.written.Goals as goal

pub returns : goal.returns
returns c = record { read = net-read; only = same-circuit; net = net-of-text }
