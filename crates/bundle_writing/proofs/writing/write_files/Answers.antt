use Rattle.std.proofs.lemmas.Result.{err_from_is_err_and}
use Rattle.bundle_writing.proofs.FilesInOrder.{WritesFiles-then, WritesFiles-first}
use Rattle.bundle_writing.proofs.writing.write_files.Goals as goal

pub returns-in_err-write_netlist : goal.returns-in_err-write_netlist
returns-in_err-write_netlist g c =
    let p = err_from_is_err_and c.from_residual.result c.from_residual.ensures.1 in
    rw p.1 (WritesFiles-first _ c.in_err-write_netlist.ensures)

pub returns-in_err-write_formula : goal.returns-in_err-write_formula
returns-in_err-write_formula g c =
    let p = err_from_is_err_and c.from_residual-in_err-write_formula.result c.from_residual-in_err-write_formula.ensures.1 in
    rw p.1 (WritesFiles-then c.in_ok-write_netlist.ensures.ok (WritesFiles-first _ c.in_err-write_formula.ensures))

pub returns-in_err-write_log : goal.returns-in_err-write_log
returns-in_err-write_log g c =
    let p = err_from_is_err_and c.from_residual-in_err-write_log.result c.from_residual-in_err-write_log.ensures.1 in
    rw p.1 (WritesFiles-then c.in_ok-write_netlist.ensures.ok (WritesFiles-then c.in_ok-write_formula.ensures.ok (WritesFiles-first _ c.in_err-write_log.ensures)))

pub returns-in_err-write_vectors_file : goal.returns-in_err-write_vectors_file
returns-in_err-write_vectors_file g c =
    let p = err_from_is_err_and c.from_residual-in_err-write_vectors_file.result c.from_residual-in_err-write_vectors_file.ensures.1 in
    rw p.1
    (WritesFiles-then c.in_ok-write_netlist.ensures.ok (WritesFiles-then c.in_ok-write_formula.ensures.ok
    (WritesFiles-then c.in_ok-write_log.ensures.ok (WritesFiles-first _ c.in_err-write_vectors_file.ensures))))

pub returns : goal.returns
returns g c =
    WritesFiles-then c.in_ok-write_netlist.ensures.ok (WritesFiles-then c.in_ok-write_formula.ensures.ok
    (WritesFiles-then c.in_ok-write_log.ensures.ok (WritesFiles-then c.in_ok-write_vectors_file.ensures.ok c.write_report.ensures)))
