use Rattle.std.proofs.Common.{◌≡◌, ◌++◌, map, take}
use Rattle.aiger_semantics.specs.declared.and_line.AndLine.{AndLine}
use Rattle.aiger_text.proofs.ands.Ands.defined.Given as goal

abbrev pub invariant-loop-line : goal.invariant-loop-line
invariant-loop-line l = l.defined.items ≡ l.self.inputs ++ map (λ (a : AndLine). a.variable) (take l.line-index l.self.ands)
