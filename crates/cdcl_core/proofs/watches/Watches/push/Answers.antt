use Rattle.std.proofs.Common.{◌≡◌, length, map, set, ap, sym, ◌∙◌, List, ◌++◌, [], ◌∷◌, arith}
use Rattle.std.proofs.lemmas.List.{length-map}
use Rattle.cdcl_core.specs.declared.watches.Watch.{Watch}
use Rattle.cdcl_core.specs.Watched.{index_of}
use Rattle.cdcl_core.specs.Watches.{WatchesValue, list_at}
use Rattle.cdcl_core.proofs.Nested.{inner_set, inner_at}
use Rattle.cdcl_core.proofs.watches.Watches.push.Goals as goal

pub returns : goal.returns
returns c =
    let lists_is = ap (λ (x : WatchesValue). x.lists) c.self.view_is in
    let wide : length c.args.self.now.lists ≡ length c.self.inside.lists.items = ap (λ (x : List (List Watch)). length x) (sym lists_is) ∙ length-map c.self.inside.lists.items (λ v. v.items) in
    let here : c.index_mut.result.now.items ≡ list_at c.args.self.now.lists c.args.literal =
    inner_at c.self.inside.lists.items (λ v. v.items) c.index.result (index_of c.args.literal) c.index_mut.result.now c.args.self.now.lists lists_is c.index.ensures
    (let low = c.requires in let same = c.index.ensures in omega arith) c.index_mut.ensures.value in
    ap (λ (x : WatchesValue). record x { lists = map (λ v. v.items) (set c.self.inside.lists.items c.index.result c.push.new.self) }) c.self.view_is
    ∙ ap (λ (ls : List (List Watch)). record c.args.self.now { lists = ls })
    (inner_set c.self.inside.lists.items (λ v. v.items) c.index.result (index_of c.args.literal) c.push.new.self c.args.self.now.lists
    (list_at c.args.self.now.lists c.args.literal ++ c.args.watch ∷ []) lists_is c.index.ensures
    (c.in_ok-push.ensures.items ∙ ap (λ xs. xs ++ c.args.watch ∷ []) here))
