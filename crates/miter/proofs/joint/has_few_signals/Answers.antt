use Rattle.std.proofs.Common.{arith}
use Rattle.std.proofs.lemmas.Bool.{lt-ltb}
use Rattle.miter.proofs.Small.{few_signals}
use Rattle.miter.proofs.joint.has_few_signals.Goals as goal

pub returns-clause-small : goal.returns-clause-small
returns-clause-small c =
    λ metric k exact approx is. lt-ltb _ _ (omega (
      arith,
      few_signals c.args.exact.now c.args.approx.now c.args.quality.now metric k exact approx is,
      c.signals.ensures.value,
      c.tables.ensures.value,
      c.tables-2.ensures.value,
      c.from.ensures,
      c.from-2.ensures,
      c.from-3.ensures,
      c.from-4.ensures,
    ))
