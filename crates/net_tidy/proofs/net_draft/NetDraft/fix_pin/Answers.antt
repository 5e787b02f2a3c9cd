use Rattle.std.proofs.Common.{◌≡◌, All, length, refl, ap, sym, subst, ◌∙◌}
use Rattle.std.proofs.lemmas.List.Elements.{All-filter, All-get_or}
use Rattle.semantics.specs.Net.{TableValue, IsTable, no_table, table_at}
use Rattle.net_tidy.specs.Places.{DraftValue}
use Rattle.net_tidy.proofs.Fixing.{stands, fixed_then, fixed_else, one_step, two_steps}
use Rattle.net_tidy.proofs.net_draft.NetDraft.fix_pin.Goals as goal

pub remove_pin-requires-clause-widths : goal.remove_pin-requires-clause-widths
remove_pin-requires-clause-widths c =
    let formed : IsTable (table_at c.args.self.now.net.tables c.args.t) = All-get_or IsTable c.args.self.now.net.tables c.args.t no_table c.requires.within c.requires.sound.tables_formed in
    subst (λ (u : TableValue). All (λ marks. length marks ≡ length u.pins) u.rows) (sym (stands _ _ _ _ c.requires.within (ap (λ (D : DraftValue). D.net) c.keep_rows.ensures)))
    (All-filter _ (λ marks. length marks ≡ length (table_at c.args.self.now.net.tables c.args.t).pins) _ formed.widths)

pub returns-then-allows : goal.returns-then-allows
returns-then-allows c =
    two_steps c.args.self.now _ _ _ _ _ c.keep_rows.ensures c.remove_pin.ensures
    (fixed_then c.args.self.now.net c.args.t c.args.q c.inputs.result c.constant_value-value.result c.as_slice.result.now c.table-table.result.now c.pins.result.now c.requires.within
    c.inputs.ensures (c.as_slice.ensures ∙ ap (λ (D : DraftValue). D.net.tables) c.self.view_is) c.table-table.ensures c.pins.ensures c.constant_value-value.ensures
    _ _ (sym c.allows.ensures ∙ c.if-allows.true) (ap (λ (D : DraftValue). D.net) c.keep_rows.ensures) refl)

pub returns-else-allows : goal.returns-else-allows
returns-else-allows c =
    one_step c.args.self.now _ _ _ c.make_opposite.ensures
    (fixed_else c.args.self.now.net c.args.t c.args.q c.inputs.result c.constant_value-value.result c.as_slice.result.now c.table-table.result.now c.pins.result.now c.requires.within
    c.inputs.ensures (c.as_slice.ensures ∙ ap (λ (D : DraftValue). D.net.tables) c.self.view_is) c.table-table.ensures c.pins.ensures c.constant_value-value.ensures
    _ (table_at c.args.self.now.net.tables c.args.t).plane (sym c.allows.ensures ∙ c.if-allows.false) (ap (λ (u : TableValue). u.plane) (sym c.table-table.ensures)) refl)
