use Rattle.std.proofs.Common.{◌≡◌, IfOk, sym, subst, ◌∙◌}
use Rattle.semantics.specs.Net.{TableValue}
use Rattle.aiger_text.proofs.AskedLiterals.{same-width, conjunction-constant, conjunction-row}
use Rattle.aiger_text.proofs.conjunctions.conjunction_table.Goals as goal

pub returns-then-has_zero : goal.returns-then-has_zero
returns-then-has_zero c =
    subst (λ (t : TableValue). IfOk c.constant_table.result (λ r. r ≡ t)) (conjunction-constant c.args.variables.now c.args.name c.args.literals.now (sym c.has_zero.ensures ∙ c.if-has_zero.true))
    c.constant_table.ensures

pub row_table-requires : goal.row_table-requires
row_table-requires c = same-width c.args.variables.now c.args.literals.now c.in_ok-pins.pins c.in_ok-marks.marks c.in_ok-pins.ensures c.in_ok-marks.ensures

pub returns : goal.returns
returns c =
    subst (λ (t : TableValue). IfOk c.row_table.result (λ r. r ≡ t))
    (conjunction-row c.args.variables.now c.args.name c.args.literals.now c.in_ok-pins.pins c.in_ok-marks.marks (sym c.has_zero.ensures ∙ c.if-has_zero.false) c.in_ok-pins.ensures
    c.in_ok-marks.ensures) c.row_table.ensures
