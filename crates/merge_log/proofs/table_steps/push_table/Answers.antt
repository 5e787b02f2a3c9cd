use Rattle.std.proofs.Common.{◌∙◌}
use Rattle.std.proofs.lemmas.Result.{on_ok_weaker}
use Rattle.merge_log.proofs.TablesBy.{pushed_direct, pushed_turned}
use Rattle.merge_log.proofs.table_steps.push_table.Goals as goal
use Rattle.merge_log.proofs.table_steps.push_table.Goals.{then-sign-pair+in_ok-hints, else-sign-pair+in_ok-hints-2}

pub returns : goal.returns
returns c =
    let pair = c.args.pair.now in
    let own = c.requires.own in
    let other = c.requires.other in
    elim c.if-sign-pair.branch [
      | then-sign-pair+in_ok-hints w ↦
          on_ok_weaker c.push_step.result
          (pushed_direct c.args.goal.now c.args.log.now c.push_step.new.log c.requires.derivation pair.own.signal pair.other.signal pair.own.place.row pair.other.place.row pair.own.place.clause
          pair.other.place.clause pair.equal pair.rows c.if-sign-pair.hints own.signal other.signal c.requires.equal c.push_step.ensures.few c.args.sign pair.plane w.if-sign-pair.true
          c.in_ok-chain.chain c.in_ok-link.field-0 own.clauses other.clauses c.in_ok-chain.ensures (rw c.from-count.ensures at (w.hints-is ∙ w.in_ok-hints.ensures)) c.in_ok-link.ensures)
          c.push_step.ensures.pushed
      | else-sign-pair+in_ok-hints-2 w ↦
          on_ok_weaker c.push_step.result
          (pushed_turned c.args.goal.now c.args.log.now c.push_step.new.log c.requires.derivation pair.own.signal pair.other.signal pair.own.place.row pair.other.place.row pair.own.place.clause
          pair.other.place.clause pair.equal pair.rows c.if-sign-pair.hints own.signal other.signal c.requires.equal c.push_step.ensures.few c.args.sign pair.plane w.if-sign-pair.false
          c.in_ok-chain.chain c.in_ok-link.field-0 own.clauses other.clauses c.in_ok-chain.ensures (rw c.from-count.ensures at (w.hints-is ∙ w.in_ok-hints-2.ensures)) c.in_ok-link.ensures)
          c.push_step.ensures.pushed
    ]
