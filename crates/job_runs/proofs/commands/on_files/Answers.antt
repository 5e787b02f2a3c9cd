use Rattle.std.proofs.Common.{◌∙◌, ap, sym, subst, refl, Some}
use Rattle.job_semantics.proofs.FileWords.{file_words_law}
use Rattle.command_words.specs.declared.words.Command.{Command}
use Rattle.command_words.specs.Words.{job_meaning}
use Rattle.job_answers.specs.OnFiles.{on_files}
use Rattle.job_runs.specs.Outcome.{without_query}
use Rattle.job_runs.specs.Run.{JobAnswer}
use Rattle.job_runs.proofs.Runs.{check-job, trim-job, trim_ranges}
use Rattle.job_runs.proofs.commands.on_files.Goals as goal

pub returns-in-Check : goal.returns-in-Check
returns-in-Check g c = λ said.
    subst
    (λ (f : Command). JobAnswer (job_meaning f) (on_files (g.F.Files.told c.args.files.now) (g.F.Files.told c.check.new.files) said) (without_query c.check.result))
    (sym c.in-Check.is)
    (check-job c.check.result c.in-Check.claim (c.check.ensures said))

pub returns-in-Flat : goal.returns-in-Flat
returns-in-Flat g c = λ said.
    subst
    (λ (f : Command). JobAnswer (job_meaning f) (on_files (g.F.Files.told c.args.files.now) (g.F.Files.told c.flat.new.files) said) (without_query c.flat.result))
    (sym c.in-Flat.is)
    (c.flat.ensures said, (refl, refl))

pub returns-in-Aag : goal.returns-in-Aag
returns-in-Aag g c = λ said.
    subst
    (λ (f : Command). JobAnswer (job_meaning f) (on_files (g.F.Files.told c.args.files.now) (g.F.Files.told c.aag.new.files) said) (without_query c.aag.result))
    (sym c.in-Aag.is)
    (c.aag.ensures said, (refl, refl))

pub returns-in-Blif : goal.returns-in-Blif
returns-in-Blif g c = λ said.
    subst
    (λ (f : Command). JobAnswer (job_meaning f) (on_files (g.F.Files.told c.args.files.now) (g.F.Files.told c.blif.new.files) said) (without_query c.blif.result))
    (sym c.in-Blif.is)
    (c.blif.ensures said, (refl, refl))

pub returns-in-Trim : goal.returns-in-Trim
returns-in-Trim g c = λ said.
    subst
    (λ (f : Command). JobAnswer (job_meaning f) (on_files (g.F.Files.told c.args.files.now) (g.F.Files.told c.trim_bundle.new.files) said) (without_query c.trim_bundle.result))
    (sym c.in-Trim.is)
    (trim-job c.trim_bundle.result c.in-Trim.claim (trim_ranges c.in-Trim.is c.requires.ranges) (c.trim_bundle.ensures said))

pub trim_bundle-requires : goal.trim_bundle-requires
trim_bundle-requires g c =
    file_words_law.trimming c.requires.named.0 _ _ _ _ _ (c.requires.named.1 ∙ ap (λ (f : Command). Some (job_meaning f)) c.in-Trim.is)
