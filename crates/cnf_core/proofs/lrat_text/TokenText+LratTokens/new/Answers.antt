use Rattle.std.proofs.Common.{◌++◌, ap, ◌∙◌}
use Rattle.cnf_core.specs.LogText.{items_text}
use Rattle.cnf_core.proofs.LogTexts.{lrat_text-items}
use Rattle.cnf_core.proofs.lrat_text.TokenText+LratTokens.new.Goals as goal

pub returns : goal.returns
returns c = c.from_tokens.ensures ∙ ap (λ t. t ++ items_text 0 c.args.log.now) c.of.ensures ∙ lrat_text-items c.args.log.now
