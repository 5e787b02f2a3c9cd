use Rattle.solve_cnf.proofs.Written.{formula_back}
use Rattle.solve_cnf.proofs.laws.written.Goals as goal

pub returns : goal.returns
returns c = record { read = formula_back }
