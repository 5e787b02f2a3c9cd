use Rattle.std.proofs.Common.{arith}
use Rattle.synth_core.proofs.MovedChanges.{moved-table}
use Rattle.synth_core.proofs.move_trial.moved_signal.Goals as goal

pub overflow_add-result : goal.overflow_add-result
overflow_add-result c =
    omega (arith, c.inputs.ensures.value, c.table_of.ensures, c.see_sound.ensures.built.few_signals, moved-table c.args.net.now c.args.candidate c.see_sound.ensures.sound c.requires)
