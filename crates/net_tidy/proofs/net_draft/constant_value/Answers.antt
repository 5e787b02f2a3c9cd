use Rattle.std.proofs.Common.{◌≡◌, ◌-◌, ◌<◌, ◌≤◌, Bool, false, eqb, cond, not, List, length, ap, sym, ◌∙◌, arith}
use Rattle.std.specs.Prelude.{nat_le}
use Rattle.std.proofs.lemmas.Bool.{and_parts, leb-true}
use Rattle.std.proofs.lemmas.List.{get_or_read}
use Rattle.semantics.specs.declared.mark.Mark.{Mark}
use Rattle.semantics.specs.Net.{no_table, table_at}
use Rattle.chain_semantics.specs.TidyRules.{is_empty}
use Rattle.net_tidy.proofs.First.{is_empty_length}
use Rattle.net_tidy.proofs.Fixing.{constant_value-rows}
use Rattle.net_tidy.proofs.net_draft.constant_value.Goals as goal

pub returns-else-is_empty : goal.returns-else-is_empty
returns-else-is_empty c =
    let past : c.args.inputs ≤ c.args.s = leb-true c.args.inputs c.args.s
    (and_parts (nat_le c.args.inputs c.args.s) (is_empty (table_at c.args.tables.now (c.args.s - c.args.inputs)).pins) c.requires.constant).0 in
    let within : c.args.s - c.args.inputs < length c.args.tables.now = omega (arith, c.requires.table, past) in
    let table : c.index-tables-s.result ≡ table_at c.args.tables.now (c.args.s - c.args.inputs)
    = get_or_read c.args.tables.now (c.args.s - c.args.inputs) c.index-tables-s.result within c.index-tables-s.is no_table in
    let some : is_empty c.index-tables-s.result.rows ≡ false =
    is_empty_length c.index-tables-s.result.rows ∙ ap (λ (rows : List (List Mark)). eqb (length rows) 0) (sym c.rows.ensures) ∙ sym c.is_empty.ensures ∙ c.if-is_empty.false in
    c.plane-else-is_empty.ensures
    ∙ ap (λ (b : Bool). cond b (not c.index-tables-s.result.plane) c.index-tables-s.result.plane) (sym some)
    ∙ constant_value-rows c.args.inputs c.args.s c.args.tables.now c.index-tables-s.result table c.requires.constant
