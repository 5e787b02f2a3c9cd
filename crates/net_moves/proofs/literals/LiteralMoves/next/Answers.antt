use Rattle.std.proofs.Common.{◌<◌, ◌^◌, List, length, ap, sym, subst, ◌∙◌, arith}
use Rattle.semantics.specs.declared.mark.Mark.{Mark}
use Rattle.net_moves.proofs.Lists.{literals-more, literals-row_end, literals-end}
use Rattle.net_moves.proofs.literals.LiteralMoves.next.Goals as goal

pub loop-self-init : goal.loop-self-init
loop-self-init c = (c.self.invariant, c.self.view_is)

pub invariant_of-self : goal.invariant_of-self
invariant_of-self c = c.loop-self.invariant.0

pub first_literal-requires : goal.first_literal-requires
first_literal-requires c =
    subst (λ (marks : List Mark). length marks < 2 ^ 32) (sym c.as_slice.ensures)
    (c.loop-self.invariant.0.few_pins c.loop-self.self-inside.row c.index-self-self.result c.loop-self-test.true)

pub overflow_add-self : goal.overflow_add-self
overflow_add-self c =
    omega (
      arith,
      c.in-Some.ensures.within,
      ap length c.as_slice.ensures,
      c.loop-self.invariant.0.few_pins c.loop-self.self-inside.row c.index-self-self.result c.loop-self-test.true,
    )

pub invariant_of-self-in-Some : goal.invariant_of-self-in-Some
invariant_of-self-in-Some c = c.loop-self.invariant.0

pub returns-in-Some : goal.returns-in-Some
returns-in-Some c =
    sym c.loop-self.invariant.1
    ∙ literals-more c.loop-self.self-inside.t c.loop-self.self-inside.row c.loop-self.self-inside.pin c.in-Some.pin c.loop-self.self-inside.rows.now
    c.as_slice.result.now c.index-self-self.result c.loop-self-test.true c.as_slice.ensures c.in-Some.ensures.found

pub overflow_add-self-in-loop-self : goal.overflow_add-self-in-loop-self
overflow_add-self-in-loop-self c = omega (arith, c.loop-self.invariant.0.few_rows, c.loop-self-test.true)

pub loop-self-smaller : goal.loop-self-smaller
loop-self-smaller c = omega (arith, c.loop-self-test.true)

pub loop-self-preserved : goal.loop-self-preserved
loop-self-preserved c = (
  c.loop-self.invariant.0,
  sym (literals-row_end c.loop-self.self-inside.t c.loop-self.self-inside.row c.loop-self.self-inside.pin c.loop-self.self-inside.rows.now
      c.as_slice.result.now c.index-self-self.result c.loop-self-test.true c.as_slice.ensures c.in_default.ensures.found)
      ∙ c.loop-self.invariant.1,
)

pub returns : goal.returns
returns c =
    let none = literals-end c.loop-self.self-inside.t c.loop-self.self-inside.row c.loop-self.self-inside.pin c.loop-self.self-inside.rows.now c.loop-self-test.false in
    (sym c.loop-self.invariant.1 ∙ none, none)
