use Rattle.std.proofs.Common.{sym, subst}
use Rattle.chain_semantics.specs.Simplification.{IsBeginning}
use Rattle.chain_semantics.proofs.Simplifications.{itself}
use Rattle.synth_jobs.proofs.demonstration.demonstrate.Goals as goal

pub finish-requires-clause-beginning : goal.finish-requires-clause-beginning
finish-requires-clause-beginning g c =
    subst (IsBeginning c.args.aim.metric c.in-Ok.exact c.args.aim.bound) (sym c.in-Ok-copy.ensures) (itself c.args.aim.metric c.in-Ok.exact c.args.aim.bound c.see_sound.ensures.sound)
