use Rattle.std.proofs.Common.{ℕ, ◌==◌, not, List, length, ◌∙◌, rules, tests}
use Rattle.std.proofs.lemmas.Iterator.Search.{any_from_yields_List}
use Rattle.std.proofs.lemmas.Iterator.Splits.{YieldsList-from_slice_split}
use Rattle.std.specs.List.{slice_split}
use Rattle.blif_semantics.specs.Lines.{is_blank}
use Rattle.blif_text.proofs.LineSteps.{list_any-filter}
use Rattle.blif_text.proofs.lines.has_words.Goals as goal

pub returns : goal.returns
returns c =
    any_from_yields_List (λ (w : List ℕ). not (length w == 0)) _ _ _ c.any.ensures.ran
    (YieldsList-from_slice_split _ is_blank c.args.line.now c.split.ensures.rest c.split.ensures.done c.split.ensures.closure (λ x b q k. search (rules, tests)))
    (λ x b q k. search (rules, tests))
    ∙ list_any-filter (λ (w : List ℕ). not (length w == 0)) (slice_split is_blank c.args.line.now)
