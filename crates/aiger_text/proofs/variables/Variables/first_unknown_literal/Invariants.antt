use Rattle.std.proofs.Common.{◌≡◌, ◌==◌, ◌/◌, not, ◌||◌, drop, find, map}
use Rattle.aiger_semantics.specs.Reading.{has_variable}
use Rattle.aiger_text.proofs.variables.Variables.first_unknown_literal.Given as goal

abbrev pub invariant-loop-literal : goal.invariant-loop-literal
invariant-loop-literal l =
    find (λ v. not (v == 0 || has_variable l.self v)) (map (λ literal. literal / 2) (drop l.literal-index l.literals))
    ≡ find (λ v. not (v == 0 || has_variable l.self v)) (map (λ literal. literal / 2) l.literals)
