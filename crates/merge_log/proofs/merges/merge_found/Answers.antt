use Rattle.std.proofs.Common.{◌≡◌, ◌<◌, get_or, refl, subst, sym, ◌∙◌, arith}
use Rattle.std.proofs.lemmas.List.{get_or_default}
use Rattle.semantics.specs.Net.{NetValue, table_count}
use Rattle.merge_log.specs.Merging.{MergingValue, IsFound}
use Rattle.merge_log.proofs.Ready.{other_within, ready_alike, ready_merged}
use Rattle.merge_log.proofs.merges.merge_found.Goals as goal

pub table-own-requires : goal.table-own-requires
table-own-requires c = c.requires.1.table

pub table-first-requires : goal.table-first-requires
table-first-requires c =
    let g : MergingValue = record { log = c.merging.inside.log; merged = c.merging.inside.merged; forms = c.merging.inside.forms; tables = c.merging.inside.tables.items } in
    let N : NetValue = c.args.placed.now in
    let f : IsFound N c.requires.0 c.args.t g c.args.kind = subst (λ x. IsFound N c.requires.0 c.args.t x c.args.kind) (sym c.merging.view_is) c.requires.1 in
    let first : get_or c.merging.inside.tables.items c.args.kind 0 ≡ c.index.result.now = get_or_default c.merging.inside.tables.items c.args.kind 0 _ f.within ∙ sym c.index.ensures in
    subst (λ j. j < table_count N) first (other_within N c.table-own.ensures.built c.requires.0 c.args.t g c.args.kind f)

pub merge_tables-requires : goal.merge_tables-requires
merge_tables-requires c =
    let g : MergingValue = record { log = c.merging.inside.log; merged = c.merging.inside.merged; forms = c.merging.inside.forms; tables = c.merging.inside.tables.items } in
    let N : NetValue = c.args.placed.now in
    let f : IsFound N c.requires.0 c.args.t g c.args.kind = subst (λ x. IsFound N c.requires.0 c.args.t x c.args.kind) (sym c.merging.view_is) c.requires.1 in
    let first : get_or c.merging.inside.tables.items c.args.kind 0 ≡ c.index.result.now = get_or_default c.merging.inside.tables.items c.args.kind 0 _ f.within ∙ sym c.index.ensures in
    record {
      derivation = rw c.goal.ensures f.merging.derivation;
      merged = rw c.goal.ensures f.merging.merged;
      own = rw c.goal.ensures (c.table-own.ensures.stands g.merged f.merging.count);
      other = rw c.goal.ensures (c.table-first.ensures.stands g.merged f.merging.count);
      alike = rw (c.table-own.ensures.table, c.table-first.ensures.table, sym first) (ready_alike N c.table-own.ensures.built c.requires.0 c.args.t g c.args.kind f);
    }

pub merge-requires : goal.merge-requires
merge-requires c =
    let g : MergingValue = record { log = c.merging.inside.log; merged = c.merging.inside.merged; forms = c.merging.inside.forms; tables = c.merging.inside.tables.items } in
    let N : NetValue = c.args.placed.now in
    let f : IsFound N c.requires.0 c.args.t g c.args.kind = subst (λ x. IsFound N c.requires.0 c.args.t x c.args.kind) (sym c.merging.view_is) c.requires.1 in
    let first : get_or c.merging.inside.tables.items c.args.kind 0 ≡ c.index.result.now = get_or_default c.merging.inside.tables.items c.args.kind 0 _ f.within ∙ sym c.index.ensures in
    let low : c.index.result.now < table_count N = subst (λ j. j < table_count N) first (other_within N c.table-own.ensures.built c.requires.0 c.args.t g c.args.kind f) in
    record {
      s_within = omega (arith, c.table-own.ensures.signal, f.merging.count, f.table);
      u_within = omega (arith, c.table-first.ensures.signal, f.merging.count, low);
      few = omega (arith, c.in_ok-id.ensures.few);
    }

pub returns : goal.returns
returns c = λ levels found.
    let g : MergingValue = record { log = c.merging.inside.log; merged = c.merging.inside.merged; forms = c.merging.inside.forms; tables = c.merging.inside.tables.items } in
    let N : NetValue = c.args.placed.now in
    let f : IsFound N levels c.args.t g c.args.kind = subst (λ x. IsFound N levels c.args.t x c.args.kind) (sym c.merging.view_is) found in
    let first : get_or c.merging.inside.tables.items c.args.kind 0 ≡ c.index.result.now = get_or_default c.merging.inside.tables.items c.args.kind 0 _ f.within ∙ sym c.index.ensures in
    ready_merged N c.table-own.ensures.built levels c.args.t g c.args.kind f _ c.in_ok-id.id refl refl
    (rw (c.table-own.ensures.signal, c.table-first.ensures.signal, sym first) at c.merge.ensures.merged) c.merge.ensures.room
    (rw (c.goal.ensures, c.table-own.ensures.signal, c.table-own.ensures.table, c.table-own.ensures.place, c.table-first.ensures.signal, c.table-first.ensures.place, sym first) at
    c.in_ok-id.ensures.adds)
    (rw (c.goal.ensures, c.table-own.ensures.table) at c.in_ok-id.ensures.id)
