use Rattle.std.proofs.Common.{[], ap, ◌∙◌, arith, rules}
use Rattle.std.proofs.lemmas.Result.{err_from_is_err_and}
use Rattle.file_core.proofs.Gathering.{Gathered-nil}
use Rattle.file_core.proofs.Outcomes.{Gathers-next}
use Rattle.file_core.proofs.Parts.{Gathered-next}
use Rattle.bundle_writing.specs.VectorLines.{vector_line}
use Rattle.bundle_writing.proofs.vectors_writing.write_pool.Goals as goal

pub loop-i-init : goal.loop-i-init
loop-i-init g c = record { width = search rules; gathered = Gathered-nil _ _ }

pub loop-i-preserved : goal.loop-i-preserved
loop-i-preserved g c = record {
  width = c.get.auto.x ∙ c.loop-i.invariant.width;
  gathered =
      Gathered-next vector_line c.args.pool.now.vectors c.loop-i.i [] (omega (arith, c.loop-i.auto.i-end)) (ap vector_line c.get.ensures) c.loop-i.invariant.gathered c.in_ok-write_vector.ensures.ok;
}

pub returns-in_err-write_vector : goal.returns-in_err-write_vector
returns-in_err-write_vector g c =
    let p = err_from_is_err_and c.from_residual.result c.from_residual.ensures.1 in
    rw p.1
    (Gathers-next vector_line c.args.pool.now.vectors c.loop-i.i [] (omega (arith, c.loop-i.auto.i-end)) (ap vector_line c.get.ensures) c.loop-i.invariant.gathered
    c.in_err-write_vector.ensures)
