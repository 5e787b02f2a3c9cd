use Rattle.cdcl_core.proofs.Renaming.{within_open}
use Rattle.cdcl_core.proofs.forgetting.go_on.Goals as goal

pub append_round-requires : goal.append_round-requires
append_round-requires c = c.requires.steps.room

pub kept_after-requires : goal.kept_after-requires
kept_after-requires c =
    (within_open c.args.cnf.now c.args.round.formula c.args.whole.now c.append_round.new.whole c.args.log.now c.args.round.ids c.append_round.new.ids
    c.requires.derivation c.requires.round c.requires.steps c.in_ok-append_round.ensures.ids c.in_ok-append_round.ensures.items).derivation

pub returns : goal.returns
returns c =
    within_open c.args.cnf.now c.args.round.formula c.args.whole.now c.append_round.new.whole c.args.log.now c.args.round.ids c.append_round.new.ids
    c.requires.derivation c.requires.round c.requires.steps c.in_ok-append_round.ensures.ids c.in_ok-append_round.ensures.items
