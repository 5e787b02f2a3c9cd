use Rattle.std.proofs.Common.{◌≡◌, ◌/◌, map, take}
use Rattle.aiger_semantics.specs.ReadNet.{signal_of_variable, asked}
use Rattle.aiger_text.proofs.conjunctions.asked_pins.Given as goal

abbrev pub invariant-loop-literal : goal.invariant-loop-literal
invariant-loop-literal l = l.pins ≡ map (λ k. signal_of_variable l.variables (k / 2)) (asked (take l.literal-index l.literals))
