use Rattle.std.proofs.Common.{arith, sym, subst, ap, ◌∙◌, ℕ, List, [], ◌+◌, ◌<◌, length, get_or, All}
use Rattle.std.proofs.lemmas.List.Elements.{All-from_recursion}
use Rattle.std.proofs.lemmas.Result.{on_ok_weaker}
use Rattle.semantics.proofs.Ordered.{order-tables}
use Rattle.net_core.specs.Sorting.{Sorting, waiters_of, without_waiters, IsSorting, IsSettled}
use Rattle.net_core.proofs.Sorting.{IsSorting-taken, IsSettled-taken}
use Rattle.net_core.proofs.order.Sorting.step.Goals as goal

pub take_waiters-waiters-requires : goal.take_waiters-waiters-requires
take_waiters-waiters-requires c =
    let h = c.requires.sorting in
    let small = All-from_recursion (λ i. i < length c.args.tables.now) c.args.self.now.order (order-tables c.args.inputs c.args.tables.now [] c.args.self.now.order h.in_turn) in
    omega (arith, c.member-t.ensures, h.size, small c.args.head 0 c.requires.within)

pub visit_all-requires-clause-sorting : goal.visit_all-requires-clause-sorting
visit_all-requires-clause-sorting c =
    subst (IsSorting c.args.inputs c.args.tables.now) (sym c.take_waiters-waiters.ensures.rest)
    (IsSorting-taken c.args.inputs c.args.tables.now c.args.self.now c.member-t.result c.requires.sorting)

pub visit_all-requires-clause-within : goal.visit_all-requires-clause-within
visit_all-requires-clause-within c =
    subst (λ (list : List ℕ). All (λ i. i < length c.args.tables.now) list) (sym (c.deref.ensures.value ∙ c.take_waiters-waiters.ensures.taken)) (c.requires.sorting.waiting c.member-t.result)

pub returns-clause-settled : goal.returns-clause-settled
returns-clause-settled c =
    let n = c.args.inputs in
    let tables = c.args.tables.now in
    let S = c.args.self.now in
    let taken = IsSettled-taken n tables S c.args.head c.requires.sorting c.requires.within c.requires.settled in
    let list = c.deref.ensures.value ∙ c.take_waiters-waiters.ensures.taken ∙ ap (waiters_of S) c.member-t.ensures in
    let state = c.take_waiters-waiters.ensures.rest ∙ ap (without_waiters S) c.member-t.ensures in
    on_ok_weaker c.visit_all.result
    (λ after.
    after (c.args.head + 1)
    (subst (λ (T : Sorting). IsSettled n tables T (c.args.head + 1) c.deref.result.now) (sym state)
    (subst (IsSettled n tables (without_waiters S (get_or S.order c.args.head 0)) (c.args.head + 1)) (sym list) taken)))
    c.visit_all.ensures.settled
