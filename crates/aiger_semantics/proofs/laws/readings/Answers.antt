use Rattle.aiger_semantics.proofs.TextLong.{long}
use Rattle.std.proofs.Common.{subst}
use Rattle.semantics.specs.Value.{outputs_of}
use Rattle.aiger_semantics.specs.Circuit.{HasOutputs}
use Rattle.aiger_semantics.proofs.ReadOutputs.{circuit-outputs}
use Rattle.aiger_semantics.proofs.ReadSound.{read-circuit, read-sound, read-small}
use Rattle.aiger_semantics.proofs.laws.readings.Goals as goal

pub returns : goal.returns
returns c = record {
  short = λ text most N e. (read-circuit text most N e).0;
  long = long;
  sound = read-sound;
  small = read-small;
  circuit = λ text most N e. let read = (read-circuit text most N e).1 in (
    read.0,
    read.1.0,
    read.1.1.1,
    λ x. subst (λ M. HasOutputs read.0 x (outputs_of M x)) read.1.1.1 (circuit-outputs read.0 read.1.1.0.0 read.1.1.0.1 x),
  );
}
