use Rattle.std.proofs.Common.{ap, ◌∙◌}
use Rattle.bundle.specs.Loading.{of_stem}
use Rattle.bundle.specs.Judging.{verdict_of}
use Rattle.bundle.proofs.ToldAnswers.{verdict_told}
use Rattle.bundle.proofs.check.check_bundle.Goals as goal

pub returns-clause-verdict : goal.returns-clause-verdict
returns-clause-verdict g c =
    verdict_told (λ kept log. Unit {0}) (of_stem c.args.claim c.args.net.now c.args.stem.now) (g.F.Files.told c.args.files.now) (g.F.Files.told c.check_netlist.new.files)
    c.in_ok-judged.judged c.of.result
    (c.of.ensures ∙ ap verdict_of c.failing.ensures) c.in_ok-judged.ensures
