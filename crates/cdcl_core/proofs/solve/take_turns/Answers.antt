use Rattle.std.proofs.Common.{◌≡◌, ◌∙◌, subst, arith}
use Rattle.cdcl_core.specs.Searched.{IsSearch}
use Rattle.cdcl_core.specs.Turned.{IsReady, IsTurn}
use Rattle.cdcl_core.specs.declared.search_turns.Turn.TheVariants.{Further}
use Rattle.cdcl_core.proofs.solve.take_turns.Goals as goal

pub returns-in-Refuted-clause-shown : goal.returns-in-Refuted-clause-shown
returns-in-Refuted-clause-shown g c f merged h =
    subst (IsTurn f merged c.loop-conflicts.conflicts c.take_turn.new.search) c.in-Refuted.is
    (c.in_ok-take_turn.ensures.shown f merged c.loop-conflicts.conflicts (c.loop-conflicts.invariant.search f merged h)) c.args.limit c.loop-conflicts-test.true

pub returns-in-Full-clause-shown : goal.returns-in-Full-clause-shown
returns-in-Full-clause-shown g c f merged h = (
  c.loop-conflicts.conflicts,
  subst (IsTurn f merged c.loop-conflicts.conflicts c.take_turn.new.search) c.in-Full.is
      (c.in_ok-take_turn.ensures.shown f merged c.loop-conflicts.conflicts (c.loop-conflicts.invariant.search f merged h)),
)

pub loop-conflicts-preserved : goal.loop-conflicts-preserved
loop-conflicts-preserved g c =
    let ready : IsReady c.take_turn.new.search Further = subst (IsReady c.take_turn.new.search) c.in-Further.is c.in_ok-take_turn.ensures.ready in
    record {
      searching = ready.0;
      watching = ready.1;
      variables = c.in_ok-take_turn.ensures.variables ∙ c.loop-conflicts.invariant.variables;
      search = λ f merged h.
          subst (IsTurn f merged c.loop-conflicts.conflicts c.take_turn.new.search) c.in-Further.is
          (c.in_ok-take_turn.ensures.shown f merged c.loop-conflicts.conflicts (c.loop-conflicts.invariant.search f merged h));
    }

pub returns-clause-shown : goal.returns-clause-shown
returns-clause-shown g c f merged h =
    let end : c.loop-conflicts.conflicts ≡ c.args.limit = omega arith in
    subst (λ k. IsSearch f merged k c.loop-conflicts.search) end (c.loop-conflicts.invariant.search f merged h)
