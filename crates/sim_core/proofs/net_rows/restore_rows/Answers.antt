use Rattle.std.proofs.Common.{[], ◌∙◌, arith}
use Rattle.std.proofs.lemmas.List.{ext_get_or}
use Rattle.sim_core.proofs.net_rows.restore_rows.Goals as goal

pub returns : goal.returns
returns c =
    ext_get_or [] c.loop-s.flipped c.args.rows.now (c.loop-s.auto.flipped ∙ c.requires.1.as_many)
    (λ j low. c.loop-s.invariant.restored j (omega (arith, low, c.loop-s-test.false, c.loop-s.auto.flipped, c.requires.1.as_many)))
