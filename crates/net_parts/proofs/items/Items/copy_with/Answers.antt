use Rattle.std.proofs.Common.{◌-◌, ◌+◌, length, arith}
use Rattle.std.proofs.lemmas.Grind.{common_steps}
use Rattle.net_parts.proofs.Copying.{copied_with}
use Rattle.net_parts.proofs.items.Items.copy_with.Goals as goal

pub returns : goal.returns
returns g c =
    copied_with c.args.self.now c.push_copies.new.self c.push.new.self _ c.args.i (length c.args.self.now - (c.args.i + 1)) c.args.item c.requires (omega (arith, c.requires))
    (grind (arith, common_steps)) c.in_ok-push.ensures.ok (grind (arith, common_steps))
