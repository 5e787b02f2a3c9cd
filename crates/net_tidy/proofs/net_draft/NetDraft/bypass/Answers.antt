use Rattle.std.proofs.Common.{◌≡◌, ◌+◌, ◌<◌, true, length, get_or, refl, ap, sym, subst, ◌∙◌, arith}
use Rattle.std.proofs.lemmas.List.{length-map}
use Rattle.semantics.specs.Net.{IsSound, input_count, table_count, table_at}
use Rattle.chain_semantics.specs.TidyRules.{is_bypassed, reading_past}
use Rattle.net_tidy.specs.Places.{DraftValue}
use Rattle.net_tidy.proofs.Passing.{flagged-bypassed, own_pin}
use Rattle.net_tidy.proofs.net_draft.NetDraft.bypass.Goals as goal

pub bypass-requires-clause-differ : goal.bypass-requires-clause-differ
bypass-requires-clause-differ c =
    own_pin c.args.self.now.net c.args.t _ _ c.table-table.result.now c.pins.result.now c.requires.sound c.requires.within c.requires.rule c.signal-from.ensures c.table-table.ensures c.pins.ensures
    refl

pub invariant_of-self-2 : goal.invariant_of-self-2
invariant_of-self-2 c =
    let within : c.args.t < length c.self.inside.tables = (let low = c.requires.within in omega (arith, low, ap (λ (D : DraftValue). table_count D.net) c.self.view_is)) in
    let count = length-map c.self.inside.tables (reading_past c.signal-from.result (get_or c.pins.result.now 0 0) c.inverts-inverted.result) in
    let past = c.in_ok-bypass.ensures.tables in (
      flagged-bypassed (record { model = c.self.inside.model; inputs = c.self.inside.inputs; tables = c.self.inside.tables; outputs = c.self.inside.outputs.items }) c.args.t
          _ _ c.inverts-inverted.result c.table-table.result.now c.pins.result.now c.self.inside.tables _ c.self.inside.gone.items c.self.inside.flags c.bypass.new.flags c.raise.new.self
          (subst (λ (D : DraftValue). IsSound D.net) (sym c.self.view_is) c.requires.sound) within (subst (λ (D : DraftValue). is_bypassed D.net c.args.t ≡ true) (sym c.self.view_is) c.requires.rule)
          (c.signal-from.ensures ∙ ap (λ (D : DraftValue). input_count D.net + c.args.t) (sym c.self.view_is))
          (c.table-table.ensures ∙ ap (λ (D : DraftValue). table_at D.net.tables c.args.t) (sym c.self.view_is))
          c.pins.ensures refl c.inverts-inverted.ensures refl past c.self.invariant.0 c.bypass.ensures.count c.in_ok-bypass.ensures.others c.raise.ensures,
      c.self.invariant.1 ∙ sym (ap length past ∙ count),
      (let few = c.self.invariant.2 in omega (arith, few, ap length past, count)),
    )
