use Rattle.std.proofs.Common.{◌≡◌, ℕ, ◌+◌, List, length, get_or, take, suc, ap, refl, sym, subst, ◌∙◌, arith}
use Rattle.std.proofs.lemmas.List.{length-set, length-replicate}
use Rattle.semantics.specs.Net.{TableValue, table_at, input_count}
use Rattle.semantics.specs.Order.{IsNext}
use Rattle.net_core.proofs.InOrder.{next_at, holds_none, holds_more, holds_all}
use Rattle.merge_log.specs.Levels.{IsLevel, highest}
use Rattle.merge_log.proofs.LevelSteps.{level-input, level-next, level-most, get_or_zeros}
use Rattle.merge_log.proofs.Ready.{pins_inside}
use Rattle.merge_log.proofs.levels.levels.Goals as goal

pub loop-i-init : goal.loop-i-init
loop-i-init c = record {
  count = ap length c.in_ok-levels.ensures ∙ length-replicate _ _ ∙ c.signals.ensures.value;
  holds = holds_none (input_count c.args.net.now) c.args.net.now.tables c.order-i-items.result.now c.order-i-items.ensures (IsLevel (input_count c.args.net.now) c.args.net.now.tables) 0
      c.in_ok-levels.levels.items
      (λ s low. subst (IsLevel (input_count c.args.net.now) c.args.net.now.tables s) (sym (ap (λ l. get_or l s 0) c.in_ok-levels.ensures ∙ get_or_zeros _ s))
      (level-input (input_count c.args.net.now) c.args.net.now.tables s low));
}

pub table-requires : goal.table-requires
table-requires c =
    let next = next_at (input_count c.args.net.now) c.args.net.now.tables c.order-i-items.result.now c.order-i-items.ensures c.loop-i.i-index
    (get_or c.order-i-items.result.now c.loop-i.i-index 0) c.loop-i-test.true refl in
    omega (arith, next.table)

pub highest-below-requires : goal.highest-below-requires
highest-below-requires c =
    let next = next_at (input_count c.args.net.now) c.args.net.now.tables c.order-i-items.result.now c.order-i-items.ensures c.loop-i.i-index
    (get_or c.order-i-items.result.now c.loop-i.i-index 0) c.loop-i-test.true refl in
    rw (c.deref.ensures.value, c.as_slice.ensures, c.pins.ensures.value, c.table.ensures.value)
    (pins_inside c.args.net.now c.inputs-inputs.ensures.built (length c.loop-i.levels.items) (get_or c.order-i-items.result.now c.loop-i.i-index 0) c.loop-i.invariant.count next.table)

pub overflow_add-below : goal.overflow_add-below
overflow_add-below c =
    let n : ℕ = input_count c.args.net.now in
    let tables : List TableValue = c.args.net.now.tables in
    let i : ℕ = get_or c.order-i-items.result.now c.loop-i.i-index 0 in
    let next : IsNext n tables (take c.loop-i.i-index c.order-i-items.result.now) i =
    next_at n tables c.order-i-items.result.now c.order-i-items.ensures c.loop-i.i-index i c.loop-i-test.true refl in
    let level = level-next n tables c.loop-i.levels.items (take c.loop-i.i-index c.order-i-items.result.now) i next c.loop-i.invariant.holds in
    let most = level-most n tables (n + i) _ c.inputs-inputs.ensures.built.sound.acyclic (omega (arith, next.table)) level in
    let pins : c.as_slice.result.now ≡ (table_at tables i).pins = c.as_slice.ensures ∙ c.pins.ensures.value ∙ ap (λ (u : TableValue). u.pins) c.table.ensures.value in
    let below : c.highest-below.result ≡ highest c.loop-i.levels.items (table_at tables i).pins =
    c.highest-below.ensures ∙ ap (λ l. highest l c.as_slice.result.now) c.deref.ensures.value ∙ ap (highest c.loop-i.levels.items) pins in
    omega (arith, most, below, c.inputs-inputs.ensures.built.few_signals)

pub loop-i-preserved : goal.loop-i-preserved
loop-i-preserved c =
    let n : ℕ = input_count c.args.net.now in
    let tables : List TableValue = c.args.net.now.tables in
    let order : List ℕ = c.order-i-items.result.now in
    let k : ℕ = c.loop-i.i-index in
    let i : ℕ = get_or order k 0 in
    let next : IsNext n tables (take k order) i = next_at n tables order c.order-i-items.ensures k i c.loop-i-test.true refl in
    let level = level-next n tables c.loop-i.levels.items (take k order) i next c.loop-i.invariant.holds in
    let pins : c.as_slice.result.now ≡ (table_at tables i).pins = c.as_slice.ensures ∙ c.pins.ensures.value ∙ ap (λ (u : TableValue). u.pins) c.table.ensures.value in
    let below : c.highest-below.result ≡ highest c.loop-i.levels.items (table_at tables i).pins =
    c.highest-below.ensures ∙ ap (λ l. highest l c.as_slice.result.now) c.deref.ensures.value ∙ ap (highest c.loop-i.levels.items) pins in
    let more : suc (highest c.loop-i.levels.items (table_at tables i).pins) ≡ c.highest-below.result + 1 = omega (arith, below) in
    record {
      count = length-set c.loop-i.levels.items _ _ ∙ c.loop-i.invariant.count;
      holds = rw c.inputs-inputs.ensures.value
          (holds_more n tables order c.order-i-items.ensures (IsLevel n tables) 0 c.loop-i.levels.items k i (c.highest-below.result + 1) c.loop-i-test.true refl
          (omega (arith, c.loop-i.invariant.count)) (subst (IsLevel n tables (n + i)) more level) c.loop-i.invariant.holds);
    }

pub returns-clause-levels : goal.returns-clause-levels
returns-clause-levels c =
    holds_all (input_count c.args.net.now) c.args.net.now.tables c.order-i-items.result.now c.order-i-items.ensures (IsLevel (input_count c.args.net.now) c.args.net.now.tables) 0
    c.loop-i.levels.items c.loop-i.i-index c.loop-i-test.false c.loop-i.invariant.holds
