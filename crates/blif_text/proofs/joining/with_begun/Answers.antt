use Rattle.std.proofs.Common.{[], ◌++◌, append-nil, sym, ap, ◌∙◌}
use Rattle.blif_text.specs.LogicalLines.{after_begun, with_words}
use Rattle.blif_text.proofs.joining.with_begun.Goals as goal

pub returns : goal.returns
returns c =
    sym (append-nil _) ∙ c.in_ok-keep.ensures [] ∙ ap (λ b. c.args.lines.items ++ with_words (after_begun b [])) (sym c.in-Some.is)
