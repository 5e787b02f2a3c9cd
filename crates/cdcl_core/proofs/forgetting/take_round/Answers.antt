use Rattle.cdcl_core.proofs.forgetting.take_round.Goals as goal

pub outcome-requires-clause-answer : goal.outcome-requires-clause-answer
outcome-requires-clause-answer g c = record { conflicts = c.args.conflicts; room = c.requires.room; right = c.in_ok-answer.ensures }
