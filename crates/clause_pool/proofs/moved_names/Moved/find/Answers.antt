use Rattle.std.proofs.Common.{ap, subst, take, rules}
use Rattle.std.specs.List.Sorted.{IsBinarySearchResult}
use Rattle.std.specs.Ordering.{nat_cmp}
use Rattle.clause_pool.proofs.Rising.{find_ok, find_err}
use Rattle.clause_pool.proofs.moved_names.Moved.find.Goals as goal

pub returns-in-Ok : goal.returns-in-Ok
returns-in-Ok c =
    find_ok c.self.inside.olds.items c.self.inside.news.items (take c.self.inside.count c.deref.result.now) c.self.inside.count c.args.self.now.olds c.args.self.now.news c.self.invariant
    (ap (λ m. m.olds) c.self.view_is) (ap (λ m. m.news) c.self.view_is) (search rules) c.args.old c.binary_search.result (search rules) c.in-Ok.i c.in-Ok.is c.new.result (search rules)

pub returns-in-Err : goal.returns-in-Err
returns-in-Err c =
    find_err c.self.inside.olds.items c.self.inside.news.items (take c.self.inside.count c.deref.result.now) c.self.inside.count c.args.self.now.olds c.args.self.now.news c.self.invariant
    (ap (λ m. m.olds) c.self.view_is) (ap (λ m. m.news) c.self.view_is) (search rules) c.args.old c.binary_search.result
    (subst (λ a. IsBinarySearchResult (λ y. nat_cmp y a) (take c.self.inside.count c.deref.result.now) c.binary_search.result) c.place.ensures c.binary_search.ensures.position) c.in-Err.field-0
    c.in-Err.is
