use Rattle.std.proofs.Common.{sym, ◌∙◌}
use Rattle.net_tidy.proofs.Flagged.{flagged-net}
use Rattle.net_tidy.proofs.first_flags.settle_at.Goals as goal

pub returns : goal.returns
returns c =
    rw c.take_down.ensures
    (flagged-net c.args.net.now c.args.flags.now c.args.t c.requires.flagged (sym c.marked_rule_at.ensures ∙ c.in-None.is))
