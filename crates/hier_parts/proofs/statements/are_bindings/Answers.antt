use Rattle.std.proofs.Common.{sym, ◌∙◌, rules, tests}
use Rattle.std.proofs.lemmas.Iterator.{YieldsList-from_slice}
use Rattle.std.proofs.lemmas.Iterator.Search.{all_from_yields_List}
use Rattle.std.proofs.lemmas.List.Folds.{list_all-map}
use Rattle.hierarchy_semantics.specs.ModelLines.{is_binding}
use Rattle.hier_parts.proofs.statements.are_bindings.Goals as goal

pub returns : goal.returns
returns c =
    all_from_yields_List (λ s. is_binding s.now) _ _ _ c.all.ensures.ran (YieldsList-from_slice c.args.words.now cc) (λ x b q k. search (rules, tests))
    ∙ sym (list_all-map is_binding (λ s. s.now) c.args.words.now)
