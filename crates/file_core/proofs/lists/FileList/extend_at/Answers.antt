use Rattle.std.proofs.Common.{length, sym, ap, ◌∙◌}
use Rattle.std.proofs.lemmas.Result.{on_ok_weaker}
use Rattle.file_core.proofs.Entries.{SetsFile-extended}
use Rattle.file_core.proofs.lists.FileList.extend_at.Goals as goal

pub returns-clause-ok : goal.returns-clause-ok
returns-clause-ok c =
    on_ok_weaker _
    (SetsFile-extended _ _ _ _ _ _ _ c.requires (sym (ap length c.self.view_is) ∙ sym c.self.inside.items.ok.0) (c.deref_mut.ensures.value ∙ c.self.view_is))
    c.extend_at.ensures.ok
