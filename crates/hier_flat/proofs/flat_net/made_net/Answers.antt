use Rattle.std.proofs.Common.{length, refl, ap, ◌∙◌}
use Rattle.text_words.specs.Slices.{texts}
use Rattle.hierarchy_semantics.specs.Models.{BlifModel, Hierarchy}
use Rattle.hier_flat.proofs.Readings.{reading_all_formed}
use Rattle.hier_flat.proofs.NetMade.{few_at, name_at, inputs_at, net_at, few_signals, limit_at, ok_at, err_at}
use Rattle.hier_flat.proofs.flat_net.made_net.Goals as goal

pub known-requires : goal.known-requires
known-requires c = name_at c.args.models.now _ c.requires.reading (c.main.view_is ∙ c.requires.main)

pub name_list-requires : goal.name_list-requires
name_list-requires c =
    inputs_at c.args.models.now c.args.main.now (texts c.deref.result.now) c.requires.reading c.requires.main
    (ap texts c.deref.ensures.value ∙ ap (λ (k : BlifModel). k.inputs) c.main.view_is)

pub new-requires-clause-formed : goal.new-requires-clause-formed
new-requires-clause-formed c = reading_all_formed c.args.models.now c.requires.reading

pub main_parts-requires : goal.main_parts-requires
main_parts-requires c = record { few = few_at c.args.models.now c.in_ok-plans.plans c.requires.limit c.in_ok-plans.ensures }

pub acyclic_net-requires-clause-few : goal.acyclic_net-requires-clause-few
acyclic_net-requires-clause-few c =
    let h : Hierarchy = c.args.models.now in
    let same =
    net_at h c.in_ok-plans.plans c.args.main.now (length h) c.in_ok-model.model c.in_ok-inputs.inputs c.in_ok-tables.tables c.in_ok-tables.outputs c.requires.reading c.in_ok-plans.ensures
    c.requires.main refl
    (c.in_ok-model.ensures ∙ ap (λ (k : BlifModel). k.name) c.main.view_is)
    (c.in_ok-inputs.ensures ∙ ap texts c.deref.ensures.value ∙ ap (λ (k : BlifModel). k.inputs) c.main.view_is)
    c.in_ok-tables.ensures.tables
    c.in_ok-tables.ensures.outputs in
    few_signals h c.in_ok-model.model c.in_ok-inputs.inputs c.in_ok-tables.tables c.in_ok-tables.outputs c.requires.limit same

pub acyclic_net-requires-clause-limit : goal.acyclic_net-requires-clause-limit
acyclic_net-requires-clause-limit c =
    let h : Hierarchy = c.args.models.now in
    let same =
    net_at h c.in_ok-plans.plans c.args.main.now (length h) c.in_ok-model.model c.in_ok-inputs.inputs c.in_ok-tables.tables c.in_ok-tables.outputs c.requires.reading c.in_ok-plans.ensures
    c.requires.main refl
    (c.in_ok-model.ensures ∙ ap (λ (k : BlifModel). k.name) c.main.view_is)
    (c.in_ok-inputs.ensures ∙ ap texts c.deref.ensures.value ∙ ap (λ (k : BlifModel). k.inputs) c.main.view_is)
    c.in_ok-tables.ensures.tables
    c.in_ok-tables.ensures.outputs in
    limit_at h (record { model = c.in_ok-model.model; inputs = c.in_ok-inputs.inputs; tables = c.in_ok-tables.tables; outputs = c.in_ok-tables.outputs }) c.requires.limit same

pub returns-clause-ok : goal.returns-clause-ok
returns-clause-ok c =
    let h : Hierarchy = c.args.models.now in
    let same =
    net_at h c.in_ok-plans.plans c.args.main.now (length h) c.in_ok-model.model c.in_ok-inputs.inputs c.in_ok-tables.tables c.in_ok-tables.outputs c.requires.reading c.in_ok-plans.ensures
    c.requires.main refl
    (c.in_ok-model.ensures ∙ ap (λ (k : BlifModel). k.name) c.main.view_is)
    (c.in_ok-inputs.ensures ∙ ap texts c.deref.ensures.value ∙ ap (λ (k : BlifModel). k.inputs) c.main.view_is)
    c.in_ok-tables.ensures.tables
    c.in_ok-tables.ensures.outputs in
    ok_at h (record { model = c.in_ok-model.model; inputs = c.in_ok-inputs.inputs; tables = c.in_ok-tables.tables; outputs = c.in_ok-tables.outputs }) c.acyclic_net.result same
    c.acyclic_net.ensures.ok

pub returns-clause-err : goal.returns-clause-err
returns-clause-err c =
    let h : Hierarchy = c.args.models.now in
    let same =
    net_at h c.in_ok-plans.plans c.args.main.now (length h) c.in_ok-model.model c.in_ok-inputs.inputs c.in_ok-tables.tables c.in_ok-tables.outputs c.requires.reading c.in_ok-plans.ensures
    c.requires.main refl
    (c.in_ok-model.ensures ∙ ap (λ (k : BlifModel). k.name) c.main.view_is)
    (c.in_ok-inputs.ensures ∙ ap texts c.deref.ensures.value ∙ ap (λ (k : BlifModel). k.inputs) c.main.view_is)
    c.in_ok-tables.ensures.tables
    c.in_ok-tables.ensures.outputs in
    err_at h (record { model = c.in_ok-model.model; inputs = c.in_ok-inputs.inputs; tables = c.in_ok-tables.tables; outputs = c.in_ok-tables.outputs }) c.acyclic_net.result same
    c.acyclic_net.ensures.err
