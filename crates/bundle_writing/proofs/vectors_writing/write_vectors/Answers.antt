use Rattle.std.specs.Prelude.{⊤}
use Rattle.std.proofs.lemmas.Result.{err_from_is_err_and}
use Rattle.file_core.proofs.Outcomes.{Gathers-first, Gathers-last, Writes-failed, Writes-from_empty, Writes-gathered}
use Rattle.file_core.proofs.Parts.{Gathered-in}
use Rattle.bundle_writing.proofs.VectorTexts.{vectors_text-is}
use Rattle.bundle_writing.proofs.vectors_writing.write_vectors.Goals as goal

pub returns-in_err-write_vector : goal.returns-in_err-write_vector
returns-in_err-write_vector g c =
    let p = err_from_is_err_and c.from_residual.result c.from_residual.ensures.1 in
    rw p.1 (Writes-failed {S = ⊤} {E = ⊤} {e = tt} c.new-page.ensures (Gathers-first _ _ (vectors_text-is c.args.witness.now c.args.pool.now.vectors) c.in_err-write_vector.ensures))

pub returns-in_err-write_pool : goal.returns-in_err-write_pool
returns-in_err-write_pool g c =
    let p = err_from_is_err_and c.from_residual-in_err-write_pool.result c.from_residual-in_err-write_pool.ensures.1 in
    rw p.1 (Writes-failed {S = ⊤} {E = ⊤} {e = tt} c.new-page.ensures
    (Gathers-last _ (vectors_text-is c.args.witness.now c.args.pool.now.vectors) c.in_ok-write_vector.ensures.ok c.in_err-write_pool.ensures))

pub returns : goal.returns
returns g c =
    Writes-from_empty _ _ c.new-page.ensures
    (Writes-gathered (Gathered-in _ (vectors_text-is c.args.witness.now c.args.pool.now.vectors) c.in_ok-write_vector.ensures.ok c.in_ok-write_pool.ensures.ok) c.send.ensures.writes)
