use Rattle.std.proofs.Common.{◌∙◌, ◌++◌, ◌∷◌, [], ap, refl, map, get_or}
use Rattle.cdcl_core.proofs.Nested.{inner_set, inner_at}
use Rattle.cdcl_core.proofs.watches.push_reserved.Goals as goal

pub returns-clause-items : goal.returns-clause-items
returns-clause-items c =
    inner_set c.args.lists.now.items (λ v. v.items) c.args.at c.args.at c.push_reserved.new.self (map (λ v. v.items) c.args.lists.now.items)
    (get_or (map (λ v. v.items) c.args.lists.now.items) c.args.at [] ++ c.args.watch ∷ []) refl refl
    (c.push_reserved.ensures.items
    ∙ ap (λ xs. xs ++ c.args.watch ∷ []) (inner_at c.args.lists.now.items (λ v. v.items) c.args.at c.args.at c.index_mut.result.now (map (λ v. v.items) c.args.lists.now.items) refl refl
    c.requires.within c.index_mut.ensures.value))
