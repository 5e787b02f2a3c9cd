use Rattle.std.proofs.Common.{sym, ◌∙◌}
use Rattle.aiger_text.proofs.UsedVariables.{undefined-operand, undefined-output}
use Rattle.aiger_text.proofs.variables.Variables.first_undefined.Goals as goal

pub returns-then-is_some : goal.returns-then-is_some
returns-then-is_some c =
    undefined-operand c.args.circuit.now c.args.self.now c.requires c.lines.result.now c.lines.ensures c.first_unknown_operand-operand.result c.first_unknown_operand-operand.ensures
    (sym c.is_some.ensures ∙ c.if-is_some.true)

pub returns : goal.returns
returns c =
    undefined-output c.args.circuit.now c.args.self.now c.requires c.lines.result.now c.lines.ensures c.first_unknown_operand-operand.result c.first_unknown_operand-operand.ensures
    (sym c.is_some.ensures ∙ c.if-is_some.false) c.outputs.result.now c.outputs.ensures _ c.first_unknown_literal.ensures
