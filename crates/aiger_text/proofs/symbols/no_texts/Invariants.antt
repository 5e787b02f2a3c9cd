use Rattle.std.proofs.Common.{◌≡◌, ℕ, ◌<◌, [], length, get_or}
use Rattle.text_words.specs.Slices.{texts}
use Rattle.aiger_text.proofs.symbols.no_texts.Given as goal

abbrev pub invariant-loop : goal.invariant-loop
invariant-loop l = record {
  size : length l.none.items ≡ l.counter;
  empty : (place : ℕ) → place < length l.none.items → get_or (texts l.none.items) place [] ≡ [];
}
