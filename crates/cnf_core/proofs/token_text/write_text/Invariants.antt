use Rattle.std.proofs.Common.{length}
use Rattle.cnf_core.proofs.Pages.{WrittenUpTo}
use Rattle.cnf_core.proofs.token_text.write_text.Given as goal

abbrev pub invariant-loop-page : goal.invariant-loop-page
invariant-loop-page g l = WrittenUpTo (g.F.Files.told l.fn.files) (g.F.Files.told l.files) l.text l.fn.text

abbrev pub decreases-loop-page : goal.decreases-loop-page
decreases-loop-page g l = length l.text
