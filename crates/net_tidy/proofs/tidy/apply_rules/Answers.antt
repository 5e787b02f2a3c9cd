use Rattle.std.proofs.Common.{ap, sym, subst, ◌∙◌}
use Rattle.std.proofs.lemmas.Result.{IfOk-weaker}
use Rattle.net_tidy.specs.Places.{DraftValue, dense, drafted}
use Rattle.net_tidy.proofs.Tidied.{IsUnderWay, way_start, way_sound, way_next, way_falls, way_few, way_end}
use Rattle.net_tidy.proofs.tidy.apply_rules.Goals as goal

pub loop-t-init : goal.loop-t-init
loop-t-init c = way_start c.args.net.now c.in_ok-draft.draft c.in_ok-draft.ensures.built c.in_ok-draft.ensures.ok

pub loop-t-smaller : goal.loop-t-smaller
loop-t-smaller c =
    way_falls c.args.net.now c.loop-t.draft c.apply.new.self _ _ c.loop-t.invariant c.in-Some.ensures.found
    (c.in_ok-apply.ensures ∙ ap (λ (D : DraftValue). drafted D c.in-Some.t c.in-Some.rule) c.first_rule.ensures.same)

pub loop-t-preserved : goal.loop-t-preserved
loop-t-preserved c =
    way_next c.args.net.now c.loop-t.draft c.apply.new.self _ _ c.loop-t.invariant c.in-Some.ensures.found
    (c.in_ok-apply.ensures ∙ ap (λ (D : DraftValue). drafted D c.in-Some.t c.in-Some.rule) c.first_rule.ensures.same)

pub into_net-requires-clause-sound : goal.into_net-requires-clause-sound
into_net-requires-clause-sound c = way_sound c.args.net.now c.first_rule.new.self (subst (IsUnderWay c.args.net.now) (sym c.first_rule.ensures.same) c.loop-t.invariant)

pub into_net-requires-clause-few_outputs : goal.into_net-requires-clause-few_outputs
into_net-requires-clause-few_outputs c = way_few c.args.net.now c.first_rule.new.self (subst (IsUnderWay c.args.net.now) (sym c.first_rule.ensures.same) c.loop-t.invariant)

pub returns : goal.returns
returns c =
    IfOk-weaker c.into_net.result _ _
    (λ M e. way_end c.args.net.now c.loop-t.draft M c.loop-t.invariant c.in_default.ensures.found (e ∙ ap dense c.first_rule.ensures.same)) c.into_net.ensures
