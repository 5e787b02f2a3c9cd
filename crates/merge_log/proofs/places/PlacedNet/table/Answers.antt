use Rattle.std.proofs.Common.{◌+◌, ◌<◌, ◌^◌, ap, sym, subst, ◌∙◌, arith, sum_by}
use Rattle.std.proofs.lemmas.List.{get_or_default}
use Rattle.semantics.specs.Net.{NetValue, input_count, table_count, table_at}
use Rattle.net_core.specs.Built.{IsBuilt}
use Rattle.proof_semantics.specs.Variables.{table_clause_count}
use Rattle.merge_log.specs.Places.{no_place, place_of}
use Rattle.merge_log.proofs.Ready.{table_stands}
use Rattle.merge_log.proofs.places.PlacedNet.table.Goals as goal

pub table-table-requires : goal.table-table-requires
table-table-requires c = subst (λ (N : NetValue). c.args.t < table_count N) (sym c.self.view_is) c.requires

pub index-place-requires : goal.index-place-requires
index-place-requires c =
    let low = subst (λ (N : NetValue). c.args.t < table_count N) (sym c.self.view_is) c.requires in
    omega (arith, low, c.self.invariant.places_are.count)

pub overflow_add-result : goal.overflow_add-result
overflow_add-result c =
    let low = subst (λ (N : NetValue). c.args.t < table_count N) (sym c.self.view_is) c.requires in
    omega (arith, low, c.inputs-inputs.ensures.value, c.inputs-inputs.ensures.built.few_signals)

pub returns-clause-signal : goal.returns-clause-signal
returns-clause-signal c = ap (λ k. k + c.args.t) (c.inputs-inputs.ensures.value ∙ ap input_count c.self.view_is)

pub returns-clause-table : goal.returns-clause-table
returns-clause-table c = c.table-table.ensures.value ∙ ap (λ (N : NetValue). table_at N.tables c.args.t) c.self.view_is

pub returns-clause-place : goal.returns-clause-place
returns-clause-place c =
    let low = subst (λ (N : NetValue). c.args.t < table_count N) (sym c.self.view_is) c.requires in
    c.index-place.ensures ∙ get_or_default c.self.inside.places.items c.args.t c.index-place.result.now no_place (omega (arith, low, c.self.invariant.places_are.count))
    ∙ c.self.invariant.places_are.are c.args.t low ∙ ap (λ (N : NetValue). place_of (input_count N) N.tables c.args.t) c.self.view_is

pub returns-clause-stands : goal.returns-clause-stands
returns-clause-stands c = λ m count.
    let low = subst (λ (N : NetValue). c.args.t < table_count N) (sym c.self.view_is) c.requires in
    let place = c.index-place.ensures ∙ get_or_default c.self.inside.places.items c.args.t c.index-place.result.now no_place (omega (arith, low, c.self.invariant.places_are.count))
    ∙ c.self.invariant.places_are.are c.args.t low ∙ ap (λ (N : NetValue). place_of (input_count N) N.tables c.args.t) c.self.view_is in
    table_stands c.args.self.now (subst IsBuilt c.self.view_is c.inputs-inputs.ensures.built)
    (subst (λ (N : NetValue). sum_by table_clause_count N.tables < 2 ^ 60) c.self.view_is c.self.invariant.few) m count c.args.t c.requires _
    (ap (λ k. k + c.args.t) (c.inputs-inputs.ensures.value ∙ ap input_count c.self.view_is))
    (c.table-table.ensures.value ∙ ap (λ (N : NetValue). table_at N.tables c.args.t) c.self.view_is) place

pub returns-clause-built : goal.returns-clause-built
returns-clause-built c = subst IsBuilt c.self.view_is c.inputs-inputs.ensures.built
