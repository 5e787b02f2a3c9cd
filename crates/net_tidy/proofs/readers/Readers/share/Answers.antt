use Rattle.std.proofs.Common.{◌∙◌}
use Rattle.std.proofs.lemmas.Result.{on_ok_weaker, on_err_weaker}
use Rattle.net_tidy.proofs.Listing.{share_done, share_failed}
use Rattle.net_tidy.proofs.readers.Readers.share.Goals as goal

pub returns-clause-ok : goal.returns-clause-ok
returns-clause-ok c =
    on_ok_weaker c.extend-done.result
    (λ made. share_done c.args.self.now c.self.inside.lists.items c.args.from c.args.to _ _ _ _ _ _ c.requires.differ c.requires.from c.requires.to c.self.view_is
    (c.replace-places.ensures.after ∙ c.new.ensures) c.index_mut.ensures.value c.replace-places.ensures.value c.index_mut-2.ensures.value c.as_slice.ensures made)
    c.extend-done.ensures.ok

pub returns-clause-err : goal.returns-clause-err
returns-clause-err c =
    on_err_weaker c.extend-done.result
    (λ made. share_failed c.args.self.now c.self.inside.lists.items c.args.from c.args.to _ _ _ _ _ c.requires.differ c.requires.from c.requires.to c.self.view_is
    (c.replace-places.ensures.after ∙ c.new.ensures) c.index_mut.ensures.value c.replace-places.ensures.value c.index_mut-2.ensures.value made)
    c.extend-done.ensures.err
