use Rattle.std.proofs.Common.{sym, ap, subst, ◌∙◌, arith}
use Rattle.std.proofs.lemmas.Result.{on_ok_weaker}
use Rattle.semantics.specs.Net.{NetValue}
use Rattle.merge_log.specs.Forms.{form_of}
use Rattle.merge_log.specs.Merging.{MergingValue, IsMerging}
use Rattle.merge_log.proofs.Ready.{at_level, numbered_found, numbered_new}
use Rattle.merge_log.proofs.merges.take_table.Goals as goal

pub form_of-requires : goal.form_of-requires
form_of-requires c =
    let merging : IsMerging c.args.placed.now c.requires.merging.0 c.requires.merging.1 c.args.t _ = subst (IsMerging c.args.placed.now c.requires.merging.0 c.requires.merging.1 c.args.t)
    (sym c.merging.view_is) c.requires.merging.4 in
    (c.table-own.ensures.stands c.merging.inside.merged merging.count).pins_in

pub returns-then-kind-len : goal.returns-then-kind-len
returns-then-kind-len c =
    let g : MergingValue = record { log = c.merging.inside.log; merged = c.merging.inside.merged; forms = c.merging.inside.forms; tables = c.merging.inside.tables.items } in
    let N : NetValue = c.args.placed.now in
    on_ok_weaker c.merge_found.result
    (λ done levels level are here h. at_level c.args.t here (done levels
    (numbered_found N levels level c.args.t g c.number.new.self _ c.in_ok-kind.kind are c.requires.table here (subst (IsMerging N levels level c.args.t) (sym c.merging.view_is) h)
    (c.in_ok-form.ensures ∙ ap (form_of c.merging.inside.merged) c.table-own.ensures.table) c.in_ok-kind.ensures (omega (arith, c.if-kind-len.true, c.len.ensures)))))
    c.merge_found.ensures

pub returns-in_ok-push : goal.returns-in_ok-push
returns-in_ok-push c = λ levels level are here h.
    let g : MergingValue = record { log = c.merging.inside.log; merged = c.merging.inside.merged; forms = c.merging.inside.forms; tables = c.merging.inside.tables.items } in
    let N : NetValue = c.args.placed.now in
    numbered_new N c.table-own.ensures.built levels level c.args.t g c.number.new.self _ c.push.new.self.items c.in_ok-kind.kind are c.requires.table here
    (subst (IsMerging N levels level c.args.t) (sym c.merging.view_is) h) (c.in_ok-form.ensures ∙ ap (form_of c.merging.inside.merged) c.table-own.ensures.table) c.in_ok-kind.ensures
    (omega (arith, c.if-kind-len.false, c.len.ensures)) c.in_ok-push.ensures.items
