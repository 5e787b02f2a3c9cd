use Rattle.cdcl_core.proofs.Renaming.{within_refuted, within_spent, within_open, refuted_behind}
use Rattle.cdcl_core.proofs.forgetting.outcome.Goals as goal

pub append_round-requires : goal.append_round-requires
append_round-requires c = (within_refuted c.args.cnf.now c.args.round.formula c.args.whole c.in-Refuted.log c.args.answer c.requires.answer c.in-Refuted.is).room

pub returns-in-Refuted : goal.returns-in-Refuted
returns-in-Refuted c =
    refuted_behind c.args.cnf.now c.args.round.formula c.args.whole c.append_round.new.whole c.in-Refuted.log c.append_round.new.ids c.args.answer c.requires.answer c.in-Refuted.is
    (within_open c.args.cnf.now c.args.round.formula c.args.whole c.append_round.new.whole c.in-Refuted.log c.args.round.ids c.append_round.new.ids
    c.requires.derivation c.requires.round
    (within_refuted c.args.cnf.now c.args.round.formula c.args.whole c.in-Refuted.log c.args.answer c.requires.answer c.in-Refuted.is) c.in_ok-append_round-in-Refuted.ensures.ids
    c.in_ok-append_round-in-Refuted.ensures.items) c.in_ok-append_round-in-Refuted.ensures.items

pub go_on-requires-clause-steps : goal.go_on-requires-clause-steps
go_on-requires-clause-steps c = within_spent c.args.cnf.now c.args.round.formula c.args.whole c.in-Spent.log c.args.answer c.requires.answer c.in-Spent.is
