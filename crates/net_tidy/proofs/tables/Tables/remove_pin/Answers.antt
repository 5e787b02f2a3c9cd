use Rattle.std.proofs.Common.{length, ap, arith}
use Rattle.net_tidy.proofs.Reading.{listed_removed}
use Rattle.net_tidy.proofs.tables.Tables.remove_pin.Goals as goal

pub invariant_of-self : goal.invariant_of-self
invariant_of-self c =
    listed_removed _ _ _ c.args.q _ _ c.self.invariant (let within = c.requires.within in omega (arith, within, ap length c.self.view_is)) c.index_mut.ensures.value c.remove_pin.ensures
