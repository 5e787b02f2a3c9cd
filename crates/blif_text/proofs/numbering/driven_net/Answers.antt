use Rattle.std.proofs.Common.{List, map, IfOk, IfErr, Ok, sym, ap, subst, ◌≡◌, ◌∙◌}
use Rattle.std.proofs.lemmas.Result.{err_from_is_err_and}
use Rattle.semantics.specs.Texts.{Bytes}
use Rattle.semantics.specs.Net.{NetValue}
use Rattle.blif_semantics.specs.Reading.{NamedNet, signal_named, numbered, grounded}
use Rattle.blif_semantics.specs.Named.{with_signals, IsDriven}
use Rattle.blif_semantics.proofs.ReadNet.{net_driven}
use Rattle.blif_text.specs.Refusals.{Tells}
use Rattle.text_words.specs.Slices.{texts}
use Rattle.blif_text.proofs.Numbered.{passed_on, pin_told, output_told, none_undriven, numbered_as, driven-grounded, single-driven}
use Rattle.blif_text.proofs.numbering.driven_net.Goals as goal

pub returns-in_err-tables-clause-err : goal.returns-in_err-tables-clause-err
returns-in_err-tables-clause-err c =
    passed_on _ _ _ (err_from_is_err_and c.from_residual-in_err-tables.result c.from_residual-in_err-tables.ensures.1)
    (subst (Tells c.in_err-tables.field-0.0) (sym (single-driven c.args.named c.requires.differ c.requires.output))
    (pin_told c.args.named c.args.names.now c.named.inside.tables.items _ c.requires.names (ap (λ d. d.tables) c.named.view_is) c.in_err-tables.ensures.err))

pub returns-in_err-outputs-clause-err : goal.returns-in_err-outputs-clause-err
returns-in_err-outputs-clause-err c =
    passed_on _ _ _ (err_from_is_err_and c.from_residual-in_err-outputs.result c.from_residual-in_err-outputs.ensures.1)
    (subst (Tells c.in_err-outputs.field-0.0) (sym (single-driven c.args.named c.requires.differ c.requires.output))
    (output_told c.args.named c.args.names.now (texts c.deref-2.result.now) c.named.inside.tables.items _ c.requires.names (ap (λ d. d.tables) c.named.view_is)
    (ap texts c.deref-2.ensures.value ∙ ap (λ d. d.outputs) c.named.view_is) c.in_ok-tables.ensures.known c.in_err-outputs.ensures.err))

pub ordered_net-requires-clause-driven : goal.ordered_net-requires-clause-driven
ordered_net-requires-clause-driven c =
    let d : NamedNet = c.args.named in
    let names : List Bytes = c.args.names.now in
    let tables : c.named.inside.tables.items ≡ d.tables = ap (λ v. v.tables) c.named.view_is in
    let outputs : texts c.deref-2.result.now ≡ d.outputs = ap texts c.deref-2.ensures.value ∙ ap (λ v. v.outputs) c.named.view_is in
    let N : NetValue = record { model = c.in_ok-model.model; inputs = c.in_ok-inputs.inputs; tables = c.in_ok-tables.tables; outputs = c.in_ok-outputs.outputs } in
    let same : N ≡ numbered d =
    numbered_as d names N c.requires.names
    (c.in_ok-model.ensures ∙ ap (λ v. v.model) c.named.view_is)
    (c.in_ok-inputs.ensures ∙ ap texts c.deref.ensures.value ∙ ap (λ v. v.inputs) c.named.view_is)
    (c.in_ok-tables.ensures.ok ∙ ap (map (with_signals names)) tables)
    (c.in_ok-outputs.ensures.ok ∙ ap (map (signal_named names)) outputs) in
    let none = none_undriven d names (texts c.deref-2.result.now) c.named.inside.tables.items c.requires.names tables outputs c.in_ok-tables.ensures.known c.in_ok-outputs.ensures.known in
    subst IsDriven (sym same) (net_driven d c.requires.differ c.requires.output none)

pub returns-clause-ok : goal.returns-clause-ok
returns-clause-ok c =
    let d : NamedNet = c.args.named in
    let names : List Bytes = c.args.names.now in
    let tables : c.named.inside.tables.items ≡ d.tables = ap (λ v. v.tables) c.named.view_is in
    let outputs : texts c.deref-2.result.now ≡ d.outputs = ap texts c.deref-2.ensures.value ∙ ap (λ v. v.outputs) c.named.view_is in
    let N : NetValue = record { model = c.in_ok-model.model; inputs = c.in_ok-inputs.inputs; tables = c.in_ok-tables.tables; outputs = c.in_ok-outputs.outputs } in
    let same : N ≡ numbered d =
    numbered_as d names N c.requires.names
    (c.in_ok-model.ensures ∙ ap (λ v. v.model) c.named.view_is)
    (c.in_ok-inputs.ensures ∙ ap texts c.deref.ensures.value ∙ ap (λ v. v.inputs) c.named.view_is)
    (c.in_ok-tables.ensures.ok ∙ ap (map (with_signals names)) tables)
    (c.in_ok-outputs.ensures.ok ∙ ap (map (signal_named names)) outputs) in
    let none = none_undriven d names (texts c.deref-2.result.now) c.named.inside.tables.items c.requires.names tables outputs c.in_ok-tables.ensures.known c.in_ok-outputs.ensures.known in
    subst (λ g. IfOk c.ordered_net.result (λ n. g ≡ Ok n)) (ap grounded same ∙ sym (driven-grounded d none) ∙ sym (single-driven d c.requires.differ c.requires.output)) c.ordered_net.ensures.ok

pub returns-clause-err : goal.returns-clause-err
returns-clause-err c =
    let d : NamedNet = c.args.named in
    let names : List Bytes = c.args.names.now in
    let tables : c.named.inside.tables.items ≡ d.tables = ap (λ v. v.tables) c.named.view_is in
    let outputs : texts c.deref-2.result.now ≡ d.outputs = ap texts c.deref-2.ensures.value ∙ ap (λ v. v.outputs) c.named.view_is in
    let N : NetValue = record { model = c.in_ok-model.model; inputs = c.in_ok-inputs.inputs; tables = c.in_ok-tables.tables; outputs = c.in_ok-outputs.outputs } in
    let same : N ≡ numbered d =
    numbered_as d names N c.requires.names
    (c.in_ok-model.ensures ∙ ap (λ v. v.model) c.named.view_is)
    (c.in_ok-inputs.ensures ∙ ap texts c.deref.ensures.value ∙ ap (λ v. v.inputs) c.named.view_is)
    (c.in_ok-tables.ensures.ok ∙ ap (map (with_signals names)) tables)
    (c.in_ok-outputs.ensures.ok ∙ ap (map (signal_named names)) outputs) in
    let none = none_undriven d names (texts c.deref-2.result.now) c.named.inside.tables.items c.requires.names tables outputs c.in_ok-tables.ensures.known c.in_ok-outputs.ensures.known in
    subst (λ g. IfErr c.ordered_net.result (λ told. Tells told g)) (ap grounded same ∙ sym (driven-grounded d none) ∙ sym (single-driven d c.requires.differ c.requires.output))
    c.ordered_net.ensures.err
