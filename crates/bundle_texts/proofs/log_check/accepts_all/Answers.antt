use Rattle.std.proofs.Common.{[], ◌∷◌, ◌++◌, ap, subst, ◌∙◌}
use Rattle.cnf_core.specs.LratReads.{LogRead}
use Rattle.bundle_texts.specs.LogTold.{AreJudged}
use Rattle.bundle_texts.specs.LogJudged.{HasTaken}
use Rattle.bundle_texts.proofs.LogChecks.{HasGiven-none, HasGiven-next, HasGiven-refused, given_falls, given_all, last_is, all_stand}
use Rattle.bundle_texts.proofs.log_check.accepts_all.Goals as goal

pub loop-item-init : goal.loop-item-init
loop-item-init g c = HasGiven-none (HasTaken g.L.ItemSink.holds) _ _ c.requires

pub returns-then-not-branch-clause-judged : goal.returns-then-not-branch-clause-judged
returns-then-not-branch-clause-judged g c =
    HasGiven-refused (HasTaken g.L.ItemSink.holds) c.in-Some.item c.loop-item.invariant c.in-Some.ensures.item
    (λ clauses log h. subst (λ b. AreJudged (HasTaken g.L.ItemSink.holds) b clauses (log ++ c.in-Some.item ∷ []) c.accepts.new.self) c.if-not-branch.true (c.in_ok-accepts.ensures clauses log h))

pub loop-item-smaller : goal.loop-item-smaller
loop-item-smaller g c = given_falls (HasTaken g.L.ItemSink.holds) c.in-Some.item c.loop-item.invariant c.in-Some.ensures.item c.in-Some.ensures.given

pub loop-item-preserved : goal.loop-item-preserved
loop-item-preserved g c =
    HasGiven-next (HasTaken g.L.ItemSink.holds) c.in-Some.item c.loop-item.invariant c.in-Some.ensures.item c.in-Some.ensures.given
    (λ clauses log h. subst (λ b. AreJudged (HasTaken g.L.ItemSink.holds) b clauses (log ++ c.in-Some.item ∷ []) c.accepts.new.self) c.if-not-branch.false (c.in_ok-accepts.ensures clauses log h))

pub returns-clause-all_given : goal.returns-clause-all_given
returns-clause-all_given g c _ =
    ap (λ (v : LogRead). v.given) (last_is _ _ c.in_default.ensures.item c.in_default.ensures.given) ∙ given_all (HasTaken g.L.ItemSink.holds) c.loop-item.invariant c.in_default.ensures.item

pub returns-clause-judged : goal.returns-clause-judged
returns-clause-judged g c = all_stand (HasTaken g.L.ItemSink.holds) c.loop-item.invariant (given_all (HasTaken g.L.ItemSink.holds) c.loop-item.invariant c.in_default.ensures.item)
