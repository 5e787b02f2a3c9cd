use Rattle.std.proofs.Common.{◌∙◌}
use Rattle.cnf_core.proofs.LogTexts.{addition_begun, removal_begun}
use Rattle.cnf_core.proofs.lrat_text.LratTokens.begin.Goals as goal

pub returns-in-Add-clause-line : goal.returns-in-Add-clause-line
returns-in-Add-clause-line c =
    addition_begun c.args.item.now c.args.self.now.greatest c.in-Add.step c.id-in-Add.result c.set_number.new.self c.as_slice.result.now c.as_slice-in-Add.result.now c.in-Add.is c.set_number.ensures
    c.id-in-Add.ensures (c.as_slice.ensures.value ∙ c.lits.ensures) (c.as_slice-in-Add.ensures ∙ c.hints.ensures)

pub returns-in-Remove-clause-line : goal.returns-in-Remove-clause-line
returns-in-Remove-clause-line c =
    removal_begun c.args.item.now c.args.self.now.greatest c.in-Remove.ids c.set_number-in-Remove.new.self c.args.self.now.literals c.as_slice-in-Remove.result c.in-Remove.is
    c.set_number-in-Remove.ensures c.requires.0 c.as_slice-in-Remove.ensures
