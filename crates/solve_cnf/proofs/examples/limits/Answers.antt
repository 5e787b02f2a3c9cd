-- by computation
use Rattle.std.proofs.Common.{refl}
use Rattle.solve_cnf.proofs.examples.limits.Goals as goal

pub returns : goal.returns
returns c = record {
  one = refl;
  leading_zero = refl;
  large = refl;
  nothing = refl;
  empty = refl;
  plus = refl;
}
