use Rattle.std.proofs.Common.{ℤ, to_z, of_z, w32}
use Rattle.cnf_core.proofs.Steps.{implications_step}
use Rattle.cnf_core.proofs.table_clauses.push_implications.Goals as goal

pub loop-j-preserved : goal.loop-j-preserved
loop-j-preserved c =
    let l : ℤ = to_z w32 (of_z w32 c.args.literal) in
    implications_step c.args.clauses.now c.loop-j.clauses c.push.new.self c.in_ok-implication.field-0 l c.args.first c.loop-j.j
    c.loop-j.invariant c.in_ok-implication.ensures c.in_ok-push.ensures.ok
