use Rattle.std.proofs.Common.{◌≡◌, [], List}
use Rattle.aiger_semantics.specs.CircuitLines.{Symbol, symbols_after}
use Rattle.text_words.specs.Slices.{texts}
use Rattle.aiger_text.specs.SymbolTexts.{IsSymbolTexts}
use Rattle.aiger_text.proofs.SymbolSteps.{rest_symbols}
use Rattle.aiger_text.proofs.symbols.read_symbols.Given as goal

abbrev pub invariant-loop-i : goal.invariant-loop-i
invariant-loop-i l =
    (so_far : List Symbol) × (IsSymbolTexts l.header so_far l.given
    × (rest_symbols l.header l.first (texts l.lines) l.i so_far ≡ symbols_after l.header l.first [] (texts l.lines)))
