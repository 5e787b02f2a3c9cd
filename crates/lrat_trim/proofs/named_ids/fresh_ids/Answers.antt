use Rattle.std.proofs.Common.{subst, sym}
use Rattle.std.proofs.lemmas.Result.{IfOk-weaker}
use Rattle.lrat_trim.specs.Backwards.{is_in, AreFresh}
use Rattle.lrat_trim.proofs.Fresh.{are_fresh}
use Rattle.lrat_trim.proofs.named_ids.fresh_ids.Goals as goal

pub returns : goal.returns
returns c =
    let fresh = are_fresh c.args.clauses c.args.hints.now (is_in c.args.named.now) _ _ _ c.in_ok-fresh.ensures c.sort_unstable.ensures.permutation c.sort_unstable.ensures.sorted
    c.dedup.ensures.filtered in
    IfOk-weaker _ _ _ (λ ids is. subst (AreFresh c.args.clauses c.args.hints.now (is_in c.args.named.now)) (sym is)
    (subst (AreFresh c.args.clauses c.args.hints.now (is_in c.args.named.now)) (sym c.deref.ensures.value) fresh)) c.from_slice.ensures
