use Rattle.std.proofs.Common.{◌≡◌, ◌++◌, length, drop}
use Rattle.std.specs.Option.{option_map}
use Rattle.aiger_semantics.specs.TextLines.{pieces, all_numbers}
use Rattle.aiger_text.proofs.numbers.line_numbers.Given as goal

abbrev pub invariant-loop-word : goal.invariant-loop-word
invariant-loop-word l = option_map (λ rest. l.numbers.items ++ rest) (all_numbers l.most (drop (length l.yielded) (pieces l.line))) ≡ all_numbers l.most (pieces l.line)
