use Rattle.std.proofs.Common.{◌≡◌, map, take}
use Rattle.aiger_semantics.specs.TextLines.{without_return}
use Rattle.text_words.specs.Slices.{texts}
use Rattle.aiger_text.proofs.text_lines.without_returns.Given as goal

abbrev pub invariant-loop-line : goal.invariant-loop-line
invariant-loop-line l = texts l.cut.items ≡ map without_return (texts (take l.line-index l.lines))
