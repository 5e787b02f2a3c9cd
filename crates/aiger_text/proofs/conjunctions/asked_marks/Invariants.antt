use Rattle.std.proofs.Common.{◌≡◌, map, take}
use Rattle.aiger_semantics.specs.ReadNet.{literal_mark, asked}
use Rattle.aiger_text.proofs.conjunctions.asked_marks.Given as goal

abbrev pub invariant-loop-literal : goal.invariant-loop-literal
invariant-loop-literal l = l.marks ≡ map literal_mark (asked (take l.literal-index l.literals))
