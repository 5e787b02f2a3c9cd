use Rattle.std.proofs.Common.{◌≡◌, ◌<◌, All, length, sym, subst, ◌∙◌, arith}
use Rattle.std.proofs.lemmas.List.Elements.{All-filter, All-weaker}
use Rattle.semantics.specs.Net.{TableValue}
use Rattle.net_tidy.proofs.table_draft.TableDraft.join_rows.Goals as goal

pub join_marks-requires : goal.join_marks-requires
join_marks-requires c =
    subst (All (λ marks. c.args.p < length marks)) (sym (c.deref_mut.ensures.value ∙ c.keep_agreeing.ensures))
    (All-filter _ (λ marks. c.args.p < length marks) _
    (subst (λ (t : TableValue). All (λ marks. c.args.p < length marks) t.rows) (sym c.self.view_is)
    (All-weaker (λ marks. length marks ≡ length c.args.self.now.pins) (λ marks. c.args.p < length marks) (λ marks w. let within = c.requires.within in omega (arith, w)) _ c.requires.widths)))
