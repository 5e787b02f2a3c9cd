use Rattle.std.proofs.lemmas.Result.{err_from_is_err_and}
use Rattle.file_core.proofs.OneFile.{WritesFiles-one, WritesFiles-not_created}
use Rattle.bundle_writing.proofs.writing.write_formula.Goals as goal

pub returns-in_err-create : goal.returns-in_err-create
returns-in_err-create g c =
    let p = err_from_is_err_and c.from_residual.result c.from_residual.ensures.1 in
    rw p.1 (WritesFiles-not_created _ c.in_err-create.ensures.err)

pub returns : goal.returns
returns g c = rw (← c.b.view_is) (WritesFiles-one c.in_ok-create.ensures.ok c.write_dimacs.ensures)
