use Rattle.std.proofs.Common.{sym, subst}
use Rattle.chain_semantics.specs.Simplification.{IsBeginning}
use Rattle.chain_semantics.proofs.Simplifications.{itself}
use Rattle.job_runs.proofs.SynthAnswers.{SynthAnswer-of}
use Rattle.job_runs.proofs.synthesis.synthesize.Goals as goal

pub deliver-requires-clause-beginning : goal.deliver-requires-clause-beginning
deliver-requires-clause-beginning g c =
    subst (IsBeginning c.args.job.aim.metric c.in-Ok.net c.args.job.aim.bound) (sym c.in-Ok-copy.ensures)
    (itself c.args.job.aim.metric c.in-Ok.net c.args.job.aim.bound c.in-Ok.ensures.ok.sound)

pub returns : goal.returns
returns g c =
    SynthAnswer-of c.args.job.aim c.args.job.input.now c.args.job.stem.now (g.F.Files.told c.deliver.new.files) (g.K.Sink.told c.args.say.now)
    (g.K.Sink.told c.deliver.new.say) c.deliver.result c.in-Ok-copy.ensures c.in-Ok.ensures.ok c.deliver.ensures
