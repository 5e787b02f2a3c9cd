use Rattle.std.proofs.Common.{◌++◌, ap, ◌∙◌}
use Rattle.cnf_core.specs.FormulaText.{clauses_text}
use Rattle.cnf_core.proofs.FormulaTexts.{dimacs_text-parts}
use Rattle.cnf_core.proofs.dimacs_text.TokenText+DimacsTokens.new.Goals as goal

pub returns : goal.returns
returns c =
    c.from_tokens.ensures ∙ ap (λ t. t ++ clauses_text c.as_slice.result.now) c.header.ensures
    ∙ dimacs_text-parts c.args.cnf.now c.as_slice.result.now (c.as_slice.ensures ∙ c.clauses.ensures.value)
