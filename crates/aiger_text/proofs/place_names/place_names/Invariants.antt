use Rattle.std.proofs.Common.{◌≡◌, [], get_or, map}
use Rattle.std.specs.List.{range_with_len}
use Rattle.text_words.specs.Slices.{texts}
use Rattle.aiger_text.specs.SymbolTexts.{name_or}
use Rattle.aiger_text.proofs.place_names.place_names.Given as goal

abbrev pub invariant-loop-place : goal.invariant-loop-place
invariant-loop-place l = l.names ≡ map (λ k. name_or l.letter k (get_or (texts l.given) k [])) (range_with_len 0 l.place)
