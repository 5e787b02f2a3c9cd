use Rattle.std.proofs.Common.{subst}
use Rattle.bundle.specs.Loading.{of_stem, IsLoaded}
use Rattle.check_jobs.proofs.TrimAnswers.{trim-no_net, trim-no_names, trim-refuted_at, trim-unread_at, trim-stands_at}
use Rattle.check_jobs.proofs.trimming.trim_bundle.Goals as goal

pub returns-in-Err : goal.returns-in-Err
returns-in-Err g c = λ said. trim-no_net c.args.claim c.args.input.now c.args.stem.now c.args.output.now _ _ said c.in-Err.answer c.in-Err.ensures.err

pub returns-in_default : goal.returns-in_default
returns-in_default g c = λ said. trim-no_names c.args.claim c.args.input.now c.args.stem.now c.args.output.now _ _ said _ c.in-Ok.ensures.ok

pub returns-in-Ok-Good : goal.returns-in-Ok-Good
returns-in-Ok-Good g c = λ said.
    trim-stands_at c.args.claim c.args.input.now c.args.stem.now c.args.output.now c.in-Ok-new.names _ _ _ said c.in-Ok.net c.in-Ok-new.ensures c.in-Ok.ensures.ok
    c.in-Ok-Good.ensures.kept c.requires c.in-Ok-Good.goal c.in-Ok-Good.log
    (subst (IsLoaded (of_stem c.args.claim c.in-Ok.net c.in-Ok-new.names) (g.F.Files.told c.read_net.new.files) (g.F.Files.told c.load_bundle.new.files)) c.in-Ok-Good.field-0-is
    c.in-Ok-Good.ensures.loaded)
    _ c.write_trimmed.result c.write_trimmed.ensures

pub returns-in-Ok-Refuted : goal.returns-in-Ok-Refuted
returns-in-Ok-Refuted g c = λ said.
    trim-refuted_at c.args.claim c.args.input.now c.args.stem.now c.args.output.now c.in-Ok-new.names _ _ _ said c.in-Ok.net c.in-Ok-new.ensures c.in-Ok.ensures.ok
    c.in-Ok-Refuted.ensures.kept c.in-Ok-Refuted.number
    (subst (IsLoaded (of_stem c.args.claim c.in-Ok.net c.in-Ok-new.names) (g.F.Files.told c.read_net.new.files) (g.F.Files.told c.load_bundle.new.files)) c.in-Ok-Refuted.field-0-is
    c.in-Ok-Refuted.ensures.loaded)

pub returns : goal.returns
returns g c = λ said.
    trim-unread_at c.args.claim c.args.input.now c.args.stem.now c.args.output.now c.in-Ok-new.names _ _ _ said c.in-Ok.net c.in-Ok-new.ensures c.in-Ok.ensures.ok
    c.in-Err-load_bundle.ensures.kept c.in-Err-load_bundle.reason c.answer_of_unread.result c.in-Err-load_bundle.ensures.cause c.answer_of_unread.ensures
