use Rattle.std.proofs.Common.{◌≡◌, ◌<◌, All, length, sym, subst, arith}
use Rattle.std.proofs.lemmas.List.Elements.{All-weaker}
use Rattle.semantics.specs.Net.{TableValue}
use Rattle.net_tidy.proofs.table_draft.TableDraft.remove_pin.Goals as goal

pub remove_marks-requires : goal.remove_marks-requires
remove_marks-requires c =
    subst (All (λ marks. c.args.q < length marks)) (sym c.deref_mut.ensures.value)
    (subst (λ (t : TableValue). All (λ marks. c.args.q < length marks) t.rows) (sym c.self.view_is)
    (All-weaker (λ marks. length marks ≡ length c.args.self.now.pins) (λ marks. c.args.q < length marks) (λ marks w. let within = c.requires.within in omega (arith, w)) _ c.requires.widths))
