use Rattle.std.proofs.Common.{◌≡◌, ℕ, ◌+◌, List, length, get_or, take, false, ap, refl, ◌∙◌, arith}
use Rattle.semantics.specs.Net.{TableValue, table_at}
use Rattle.semantics.specs.Order.{IsNext}
use Rattle.net_core.proofs.InOrder.{next_at, holds_none, holds_more, holds_all}
use Rattle.net_core.proofs.Dependents.{IsMarkOf, IsMarkOf-input, IsMarkOf-next}
use Rattle.net_core.proofs.net.Net.mark_dependents.Goals as goal

pub loop-i-init : goal.loop-i-init
loop-i-init c =
    holds_none _ c.args.self.now.tables c.order-i-items.result.now c.order-i-items.ensures
    (IsMarkOf (length c.args.self.now.inputs) c.args.self.now.tables c.args.t) false c.clear.new.marks
    (λ s low. IsMarkOf-input (length c.args.self.now.inputs) c.args.self.now.tables c.args.t s (get_or c.clear.new.marks s false) low (c.clear.ensures s))

pub table-requires : goal.table-requires
table-requires c =
    let next = next_at (length c.args.self.now.inputs) c.args.self.now.tables c.order-i-items.result.now c.order-i-items.ensures c.loop-i.i-index
    (get_or c.order-i-items.result.now c.loop-i.i-index 0) c.loop-i-test.true refl in
    omega (arith, next.table)

pub loop-i-preserved : goal.loop-i-preserved
loop-i-preserved c =
    let tables : List TableValue = c.args.self.now.tables in
    let n : ℕ = length c.args.self.now.inputs in
    let order : List ℕ = c.order-i-items.result.now in
    let k : ℕ = c.loop-i.i-index in
    let i : ℕ = get_or order k 0 in
    let next : IsNext n tables (take k order) i = next_at n tables order c.order-i-items.ensures k i c.loop-i-test.true refl in
    let pins : c.as_slice.result.now ≡ (table_at tables i).pins = c.as_slice.ensures ∙ c.pins.ensures.value ∙ ap (λ (u : TableValue). u.pins) c.table.ensures.value in
    let mark : IsMarkOf n tables c.args.t (n + i) c.is_dependent-depends.result =
    IsMarkOf-next n tables c.args.t c.loop-i.marks (take k order) i c.as_slice.result.now c.is_dependent-depends.result pins c.is_dependent-depends.ensures next c.loop-i.invariant in
    rw c.inputs-inputs.ensures.value
    (holds_more n tables order c.order-i-items.ensures (IsMarkOf n tables c.args.t) false c.loop-i.marks k i c.is_dependent-depends.result
    c.loop-i-test.true refl (omega (arith, c.requires.room)) mark c.loop-i.invariant)

pub returns-clause-marks : goal.returns-clause-marks
returns-clause-marks c =
    holds_all (length c.args.self.now.inputs) c.args.self.now.tables c.order-i-items.result.now c.order-i-items.ensures
    (IsMarkOf (length c.args.self.now.inputs) c.args.self.now.tables c.args.t) false c.loop-i.marks c.loop-i.i-index c.loop-i-test.false c.loop-i.invariant
