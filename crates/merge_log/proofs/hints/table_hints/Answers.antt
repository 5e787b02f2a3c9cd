use Rattle.std.proofs.Common.{◌+◌, ◌*◌, false, ap, ◌∙◌}
use Rattle.proof_semantics.specs.NetClauses.{literal_at}
use Rattle.merge_log.specs.Chains.{implied}
use Rattle.merge_log.proofs.Loops.{table_turn}
use Rattle.merge_log.proofs.hints.table_hints.Goals as goal

pub loop-j-preserved : goal.loop-j-preserved
loop-j-preserved c =
    table_turn c.args.rows.row c.args.equal.row c.args.rows.clause c.args.equal.clause c.args.count c.loop-j.j c.loop-j.chain c.imply.new.self c.imply-in-loop-j.new.self _ c.loop-j-test.true
    c.loop-j.invariant
    (c.in_ok-imply.ensures ∙ ap (λ x. implied c.loop-j.chain (c.args.rows.clause + x) (literal_at (c.args.rows.row + c.loop-j.j) false)) c.from.ensures)
    (c.in_ok-imply-2.ensures ∙ ap (λ x. implied c.imply.new.self (c.args.equal.clause + 2 * x) (literal_at (c.args.equal.row + c.loop-j.j) false)) c.from-in-loop-j.ensures)
