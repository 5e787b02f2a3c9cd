use Rattle.quality_semantics.proofs.Joint.{joint_inputs, joint_acyclic, joint_exact, joint_approximate, joint_quality, joint_output, comparable}
use Rattle.quality_semantics.proofs.JointSound.{joint_sound}
use Rattle.quality_semantics.proofs.laws.joint_nets.Goals as goal

pub returns : goal.returns
returns c = record {
  comparable = comparable;
  inputs = joint_inputs;
  acyclic = joint_acyclic;
  exact = joint_exact;
  approximate = joint_approximate;
  quality = joint_quality;
  output = joint_output;
  sound = joint_sound;
}
