use Rattle.std.proofs.Common.{◌≡◌, ◌==◌, not, ◌||◌, drop, find, flat_map}
use Rattle.aiger_semantics.specs.Reading.{has_variable, operands}
use Rattle.aiger_text.proofs.variables.Variables.first_unknown_operand.Given as goal

abbrev pub invariant-loop-line : goal.invariant-loop-line
invariant-loop-line l =
    find (λ v. not (v == 0 || has_variable l.self v)) (flat_map operands (drop l.line-index l.lines))
    ≡ find (λ v. not (v == 0 || has_variable l.self v)) (flat_map operands l.lines)
