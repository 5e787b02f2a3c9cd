use Rattle.std.proofs.Common.{◌≡◌, take, drop}
use Rattle.aiger_semantics.specs.Reading.{first_repeated, first_repeated_after}
use Rattle.aiger_text.proofs.variables.Variables.of.Given as goal

abbrev pub invariant-loop-variable : goal.invariant-loop-variable
invariant-loop-variable l = record {
  all : l.all ≡ take l.variable-index l.variables;
  same : first_repeated_after l.all (drop l.variable-index l.variables) ≡ first_repeated l.variables;
}
