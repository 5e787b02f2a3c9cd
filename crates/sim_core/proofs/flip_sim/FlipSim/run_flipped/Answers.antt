use Rattle.std.proofs.Common.{length, ap, sym, ◌∙◌}
use Rattle.sim_core.specs.NetRows.{FlipValue}
use Rattle.sim_core.proofs.NetValues.{flips_written}
use Rattle.sim_core.proofs.flip_sim.FlipSim.run_flipped.Goals as goal

pub returns-clause-flipped : goal.returns-clause-flipped
returns-clause-flipped c =
    flips_written c.args.net.now c.args.t c.self.inside.flipped.len c.self.inside.count c.self.inside.rows.items c.self.inside.flipped.items c.restore_rows.new.flipped c.deref-2.result.now
    c.deref_mut-3.result.now c.flip_rows.new.rows c.args.self.now (ap length (sym c.deref_mut.ensures.value) ∙ c.deref_mut.ensures.len)
    (c.restore_rows.auto.flipped ∙ ap length c.deref_mut.ensures.value) c.restore_rows.ensures c.deref-2.ensures.value c.deref_mut-3.ensures.value c.flip_rows.auto.rows
    (ap (λ (s : FlipValue). s.count) c.self.view_is) (ap (λ (s : FlipValue). s.rows) c.self.view_is) c.flip_rows.ensures.flipped
