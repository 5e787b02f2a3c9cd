use Rattle.std.proofs.Common.{arith}
use Rattle.job_semantics.proofs.DemoTables.{demo_inputs, demo_outputs, demo_tables, demo_literals}
use Rattle.job_semantics.proofs.DemoSum.{demo_adds}
use Rattle.job_semantics.proofs.DemoSound.{demo_acyclic, demo_sound, demo_small}
use Rattle.job_semantics.proofs.demo_laws.adds.Goals as goal

pub returns : goal.returns
returns c = record {
  sound = demo_sound;
  small = demo_small;
  adds = λ w some. demo_adds w some (demo_acyclic w);
  inputs = λ w. omega (arith, demo_inputs w);
  outputs = demo_outputs;
  tables = demo_tables;
  literals = demo_literals;
}
