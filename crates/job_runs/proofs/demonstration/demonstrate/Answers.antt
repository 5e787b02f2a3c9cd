use Rattle.std.proofs.Common.{refl}
use Rattle.job_semantics.specs.Demo.{demo_net}
use Rattle.job_semantics.specs.Demonstration.{demo_stem}
use Rattle.job_semantics.specs.Synthesis.{simplifying}
use Rattle.synth_jobs.specs.Calls.{told_call}
use Rattle.job_runs.proofs.BundleAnswers.{BundleAnswer-told_at}
use Rattle.job_runs.proofs.demonstration.demonstrate.Goals as goal

pub returns : goal.returns
returns g c =
    BundleAnswer-told_at (simplifying c.args.aim (demo_net c.args.width)) demo_stem
    (told_call (g.F.Files.told c.args.files.now) (g.F.Files.told c.demonstrate.new.files) (g.K.Sink.told c.args.say.now) (g.K.Sink.told c.demonstrate.new.say))
    c.outcome_of.result c.demonstrate.result refl c.outcome_of.ensures c.demonstrate.ensures
