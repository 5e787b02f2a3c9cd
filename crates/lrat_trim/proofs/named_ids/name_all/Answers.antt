use Rattle.std.proofs.Common.{◌≡◌, ◌+◌, ◌∙◌, arith}
use Rattle.lrat_trim.specs.Backwards.{is_in}
use Rattle.lrat_trim.proofs.Named.{named_next}
use Rattle.lrat_trim.proofs.named_ids.name_all.Goals as goal

pub loop-hint-preserved : goal.loop-hint-preserved
loop-hint-preserved c = λ id.
    named_next c.args.hints.now c.loop-hint.hint-index (c.loop-hint.hint-index + 1) (is_in c.loop-hint.named) (is_in c.insert.new.self) (omega arith) c.loop-hint-test.true
    c.in_ok-insert.ensures.updates.0 id
    ∙ c.loop-hint.invariant id
