use Rattle.std.proofs.Common.{◌+◌, ◌<◌, ℕ, Bool, List, length, map, ap, sym, subst, ◌∙◌}
use Rattle.std.specs.Prelude.{All}
use Rattle.std.proofs.lemmas.Result.{IfOk-weaker}
use Rattle.semantics.specs.Net.{NetValue, IsTable, IsSound, IsAcyclic, input_count, table_count}
use Rattle.semantics.specs.Renamed.{renamed}
use Rattle.net_tidy.specs.Places.{DraftValue, kept, number_at, dense}
use Rattle.net_tidy.proofs.Tidied.{formed_renamed, dense_parts, wired_from}
use Rattle.net_tidy.proofs.net_draft.NetDraft.into_net.Goals as goal

pub table_list-requires-clause-formed : goal.table_list-requires-clause-formed
table_list-requires-clause-formed c =
    let is = c.deref-3.ensures.value ∙ c.into_numbered.ensures ∙ ap (λ (ns : List ℕ). map (renamed (number_at ns)) c.self.inside.tables) c.deref-2.ensures.value in
    subst (All IsTable) (sym is)
    (formed_renamed (number_at c.in_ok-numbers.numbers.items) c.self.inside.tables
    (subst (λ (E : DraftValue). All IsTable E.net.tables) (sym c.self.view_is) c.requires.draft.tables_formed))

pub from_sound-requires-clause-wired : goal.from_sound-requires-clause-wired
from_sound-requires-clause-wired c =
    let parts = dense_parts (record {
      net = record { model = c.self.inside.model; inputs = c.self.inside.inputs; tables = c.self.inside.tables; outputs = c.self.inside.outputs.items };
      gone = c.self.inside.gone.items;
    })
    c.len.result c.deref.result.now c.in_ok-numbers.numbers.items c.deref-3.result.now c.in_ok-tables.tables c.deref-5.result.now c.in_ok-outputs.outputs
    (subst (λ (E : DraftValue). IsSound E.net) (sym c.self.view_is) c.requires.draft) c.self.invariant.1 c.len.ensures c.deref.ensures.value c.in_ok-numbers.ensures
    (c.deref-3.ensures.value ∙ c.into_numbered.ensures ∙ ap (λ (ns : List ℕ). map (renamed (number_at ns)) c.self.inside.tables) c.deref-2.ensures.value)
    (c.in_ok-tables.ensures ∙ ap (λ (g : List Bool). kept g c.deref-3.result.now) (c.deref-4.ensures.value ∙ sym c.deref.ensures.value))
    c.deref-5.ensures.value (c.in_ok-outputs.ensures ∙ ap (λ (ns : List ℕ). map (number_at ns) c.deref-5.result.now) c.deref-6.ensures.value)
    ∙ ap dense c.self.view_is in
    wired_from c.args.self _ parts c.requires.sound (subst (λ (E : DraftValue). input_count E.net + table_count E.net < 2147483648) c.self.view_is c.self.invariant.2) c.requires.few_outputs

pub from_sound-requires-clause-acyclic : goal.from_sound-requires-clause-acyclic
from_sound-requires-clause-acyclic c =
    let parts = dense_parts (record {
      net = record { model = c.self.inside.model; inputs = c.self.inside.inputs; tables = c.self.inside.tables; outputs = c.self.inside.outputs.items };
      gone = c.self.inside.gone.items;
    })
    c.len.result c.deref.result.now c.in_ok-numbers.numbers.items c.deref-3.result.now c.in_ok-tables.tables c.deref-5.result.now c.in_ok-outputs.outputs
    (subst (λ (E : DraftValue). IsSound E.net) (sym c.self.view_is) c.requires.draft) c.self.invariant.1 c.len.ensures c.deref.ensures.value c.in_ok-numbers.ensures
    (c.deref-3.ensures.value ∙ c.into_numbered.ensures ∙ ap (λ (ns : List ℕ). map (renamed (number_at ns)) c.self.inside.tables) c.deref-2.ensures.value)
    (c.in_ok-tables.ensures ∙ ap (λ (g : List Bool). kept g c.deref-3.result.now) (c.deref-4.ensures.value ∙ sym c.deref.ensures.value))
    c.deref-5.ensures.value (c.in_ok-outputs.ensures ∙ ap (λ (ns : List ℕ). map (number_at ns) c.deref-5.result.now) c.deref-6.ensures.value)
    ∙ ap dense c.self.view_is in
    subst (λ (N : NetValue). IsAcyclic (length N.inputs) N.tables) (sym parts) c.requires.sound.acyclic

pub returns : goal.returns
returns c =
    let parts = dense_parts (record {
      net = record { model = c.self.inside.model; inputs = c.self.inside.inputs; tables = c.self.inside.tables; outputs = c.self.inside.outputs.items };
      gone = c.self.inside.gone.items;
    })
    c.len.result c.deref.result.now c.in_ok-numbers.numbers.items c.deref-3.result.now c.in_ok-tables.tables c.deref-5.result.now c.in_ok-outputs.outputs
    (subst (λ (E : DraftValue). IsSound E.net) (sym c.self.view_is) c.requires.draft) c.self.invariant.1 c.len.ensures c.deref.ensures.value c.in_ok-numbers.ensures
    (c.deref-3.ensures.value ∙ c.into_numbered.ensures ∙ ap (λ (ns : List ℕ). map (renamed (number_at ns)) c.self.inside.tables) c.deref-2.ensures.value)
    (c.in_ok-tables.ensures ∙ ap (λ (g : List Bool). kept g c.deref-3.result.now) (c.deref-4.ensures.value ∙ sym c.deref.ensures.value))
    c.deref-5.ensures.value (c.in_ok-outputs.ensures ∙ ap (λ (ns : List ℕ). map (number_at ns) c.deref-5.result.now) c.deref-6.ensures.value)
    ∙ ap dense c.self.view_is in
    IfOk-weaker c.from_sound.result _ _ (λ n e. e ∙ parts) c.from_sound.ensures
