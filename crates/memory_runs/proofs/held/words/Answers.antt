use Rattle.std.proofs.Common.{◌≡◌, ◌∙◌, ◌==◌, [], ◌∷◌, refl, sym, rules, tests}
use Rattle.std.proofs.lemmas.Iterator.Consumers.{YieldsList-at, YieldsList-end}
use Rattle.std.proofs.lemmas.Iterator.Splits.{YieldsList-from_slice_split}
use Rattle.std.specs.List.{slice_split}
use Rattle.std.specs.Prelude.{ℕ, List, length, false}
use Rattle.memory_runs.specs.Words.{words_of}
use Rattle.memory_runs.proofs.held.words.Goals as goal

-- a line that is not empty is cut at its blanks
words_of-some : (line : List ℕ) → (length line == 0) ≡ false → slice_split (λ byte. byte == 32) line ≡ words_of line
words_of-some [] h = search (rules, tests)
words_of-some (first ∷ rest) h = refl

pub returns : goal.returns
returns c =
    c.loop-word.invariant
    ∙ (YieldsList-end
    (YieldsList-at c.into_iter-word-iterator.ensures.into_iter_gives
    (YieldsList-from_slice_split _ (λ byte. byte == 32) c.args.line.now c.split-word-items.ensures.rest c.split-word-items.ensures.done c.split-word-items.ensures.closure
    (λ x b q k. search (rules, tests))))
    c.loop-word.yielded _ c.loop-word.yielded_by _ _ c.in-None.is c.next.ensures.steps).0
    ∙ words_of-some c.args.line.now (sym c.is_empty.ensures ∙ c.if-is_empty.false)
