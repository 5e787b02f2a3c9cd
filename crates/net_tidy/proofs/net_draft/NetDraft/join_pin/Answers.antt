use Rattle.std.proofs.Common.{◌≡◌, All, length, refl, ap, sym, subst, ◌∙◌, arith}
use Rattle.std.proofs.lemmas.List.{length-set}
use Rattle.std.proofs.lemmas.List.Elements.{All-filter, All-map, All-weaker, All-get_or}
use Rattle.semantics.specs.Net.{TableValue, IsTable, no_table, table_at}
use Rattle.chain_semantics.specs.TidyRules.{pin_at, mark_at, joined, with_marks_joined}
use Rattle.chain_semantics.proofs.TidyRows.{first_place}
use Rattle.net_tidy.specs.Places.{DraftValue}
use Rattle.net_tidy.proofs.Fixing.{stands, place_is, joined_then, joined_else, one_step, two_steps}
use Rattle.net_tidy.proofs.net_draft.NetDraft.join_pin.Goals as goal

pub join_rows-requires-clause-pin : goal.join_rows-requires-clause-pin
join_rows-requires-clause-pin c =
    let place = place_is c.args.self.now.net c.args.t c.first_place-p.result c.args.q c.table-table.result.now c.pins-pins.result.now c.requires.within c.table-table.ensures c.pins-pins.ensures
    c.first_place-p.ensures in
    let earlier = first_place (table_at c.args.self.now.net.tables c.args.t).pins (pin_at (table_at c.args.self.now.net.tables c.args.t) c.args.q) c.args.q c.requires.repeated in
    let low = c.requires.pin in
    omega (arith, place, earlier.0, low)

pub remove_pin-requires-clause-widths : goal.remove_pin-requires-clause-widths
remove_pin-requires-clause-widths c =
    let formed : IsTable (table_at c.args.self.now.net.tables c.args.t) = All-get_or IsTable c.args.self.now.net.tables c.args.t no_table c.requires.within c.requires.sound.tables_formed in
    subst (λ (u : TableValue). All (λ marks. length marks ≡ length u.pins) u.rows) (sym (stands _ _ _ _ c.requires.within (ap (λ (D : DraftValue). D.net) c.join_rows.ensures)))
    (All-map (λ marks. length marks ≡ length (table_at c.args.self.now.net.tables c.args.t).pins) (with_marks_joined c.first_place-p.result c.args.q) _
    (All-filter _ (λ marks. length (with_marks_joined c.first_place-p.result c.args.q marks) ≡ length (table_at c.args.self.now.net.tables c.args.t).pins) _
    (All-weaker (λ marks. length marks ≡ length (table_at c.args.self.now.net.tables c.args.t).pins)
    (λ marks. length (with_marks_joined c.first_place-p.result c.args.q marks) ≡ length (table_at c.args.self.now.net.tables c.args.t).pins)
    (λ marks w. length-set marks c.first_place-p.result (joined (mark_at marks c.first_place-p.result) (mark_at marks c.args.q)) ∙ w) _ formed.widths)))

pub returns-then-agrees : goal.returns-then-agrees
returns-then-agrees c =
    two_steps c.args.self.now _ _ _ _ _ c.join_rows.ensures c.remove_pin.ensures
    (joined_then c.args.self.now.net c.args.t c.first_place-p.result c.args.q c.table-table.result.now c.pins-pins.result.now c.requires.within c.table-table.ensures c.pins-pins.ensures
    c.first_place-p.ensures
    _ _ (sym c.agrees.ensures ∙ c.if-agrees.true) (ap (λ (D : DraftValue). D.net) c.join_rows.ensures) refl)

pub returns-else-agrees : goal.returns-else-agrees
returns-else-agrees c =
    one_step c.args.self.now _ _ _ c.make_opposite.ensures
    (joined_else c.args.self.now.net c.args.t c.first_place-p.result c.args.q c.table-table.result.now c.pins-pins.result.now c.requires.within c.table-table.ensures c.pins-pins.ensures
    c.first_place-p.ensures
    _ (table_at c.args.self.now.net.tables c.args.t).plane (sym c.agrees.ensures ∙ c.if-agrees.false) (ap (λ (u : TableValue). u.plane) (sym c.table-table.ensures)) refl)
