use Rattle.std.proofs.Common.{sym, subst, ◌∙◌, ℕ, List, All, ◌-◌, take, get_or, true≢false}
use Rattle.std.proofs.lemmas.Result.{on_ok_weaker}
use Rattle.semantics.specs.Order.{IsKnown}
use Rattle.net_core.specs.Sorting.{Sorting, IsSorting, IsSettled}
use Rattle.net_core.proofs.Sorting.{IsSorting-placed, IsSorting-waiting, IsSettled-placed, IsSettled-unknown, pins_of}
use Rattle.net_core.proofs.order.Sorting.visit.Goals as goal

pub first_unknown-requires-clause-ready : goal.first_unknown-requires-clause-ready
first_unknown-requires-clause-ready c =
    let known = IsKnown c.args.inputs c.args.self.now.order in
    let pins = pins_of c.args.tables.now c.args.i c.index-tables-i.result c.pins.result.now c.as_slice-pins.result.now c.requires.within c.index-tables-i.is c.pins.ensures.value
    c.as_slice-pins.ensures in
    subst (λ (m : ℕ). All known (take m c.as_slice-pins.result.now)) (sym c.checked.ensures)
    (subst (λ (ps : List ℕ). All known (take (get_or c.args.self.now.checked c.args.i 0) ps)) (sym pins) (c.requires.sorting.ready c.args.i))

pub returns-in-Some-clause-settled : goal.returns-in-Some-clause-settled
returns-in-Some-clause-settled c =
    let pins = pins_of c.args.tables.now c.args.i c.index-tables-i.result c.pins.result.now c.as_slice-pins.result.now c.requires.within c.index-tables-i.is c.pins.ensures.value
    c.as_slice-pins.ensures in
    on_ok_weaker c.wait.result
    (λ e head rest s.
    subst (λ (T : Sorting). IsSettled c.args.inputs c.args.tables.now T head rest) (sym e)
    (IsSettled-unknown c.args.inputs c.args.tables.now c.args.self.now c.args.i c.in-Some.k c.as_slice-pins.result.now c.requires.pins c.requires.within pins c.requires.sorting c.in-Some.ensures head
    rest s))
    c.wait.ensures

pub returns-in-Some-clause-sorting : goal.returns-in-Some-clause-sorting
returns-in-Some-clause-sorting c =
    let known = IsKnown c.args.inputs c.args.self.now.order in
    let pins = pins_of c.args.tables.now c.args.i c.index-tables-i.result c.pins.result.now c.as_slice-pins.result.now c.requires.within c.index-tables-i.is c.pins.ensures.value
    c.as_slice-pins.ensures in
    on_ok_weaker c.wait.result
    (λ e.
    subst (IsSorting c.args.inputs c.args.tables.now) (sym e)
    (IsSorting-waiting c.args.inputs c.args.tables.now c.args.self.now (get_or c.as_slice-pins.result.now c.in-Some.k 0 - c.args.inputs) c.args.i c.in-Some.k c.requires.within
    (subst (λ (ps : List ℕ). All known (take c.in-Some.k ps)) pins c.in-Some.ensures.known) c.requires.sorting))
    c.wait.ensures

pub returns-in-None-clause-sorting : goal.returns-in-None-clause-sorting
returns-in-None-clause-sorting c =
    let pins = pins_of c.args.tables.now c.args.i c.index-tables-i.result c.pins.result.now c.as_slice-pins.result.now c.requires.within c.index-tables-i.is c.pins.ensures.value
    c.as_slice-pins.ensures in
    on_ok_weaker c.place.result
    (λ e.
    subst (IsSorting c.args.inputs c.args.tables.now) (sym e)
    (IsSorting-placed c.args.inputs c.args.tables.now c.args.self.now c.args.i c.requires.sorting c.requires.within
    (λ placed. true≢false (sym (c.has_place.ensures.1 placed) ∙ c.if-has_place.false))
    (subst (All (IsKnown c.args.inputs c.args.self.now.order)) pins c.in-None.ensures)))
    c.place.ensures

pub returns-in-None-clause-settled : goal.returns-in-None-clause-settled
returns-in-None-clause-settled c =
    on_ok_weaker c.place.result
    (λ e head rest s.
    subst (λ (T : Sorting). IsSettled c.args.inputs c.args.tables.now T head rest) (sym e)
    (IsSettled-placed c.args.inputs c.args.tables.now c.args.self.now c.args.i head rest s))
    c.place.ensures
