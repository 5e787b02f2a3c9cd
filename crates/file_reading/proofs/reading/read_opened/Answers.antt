use Rattle.std.proofs.Common.{◌≡◌, rules, subst, sym, refl, ◌∙◌, arith}
use Rattle.std.proofs.lemmas.Result.{err_from_is_err_and}
use Rattle.file_reading.specs.declared.unread.Unread.TheVariants.{Fault}
use Rattle.file_reading.specs.Refused.{TurnRefused}
use Rattle.file_reading.proofs.Turns.{SoFar-none, SoFar-more, FileRead-from, IsFrontOf-at_fault, FileEndless-from, FileUnread-from}
use Rattle.file_reading.proofs.reading.read_opened.Goals as goal

pub loop-turn-init : goal.loop-turn-init
loop-turn-init g c = (SoFar-none _ _ c.requires, refl)

pub returns-in_err-read_turn-clause-err : goal.returns-in_err-read_turn-clause-err
returns-in_err-read_turn-clause-err g c before name opened =
    let p = err_from_is_err_and c.from_residual.result c.from_residual.ensures.1 in
    let refused = subst (TurnRefused (g.F.Files.told c.loop-turn.files) (g.F.Files.told c.read_turn.new.files)) (sym p.2) c.in_err-read_turn.ensures.err in
    rw p.1 (FileUnread-from _ _ p.0 opened c.loop-turn.invariant.0.keeps refused)

pub returns-in_err-read_turn-clause-front : goal.returns-in_err-read_turn-clause-front
returns-in_err-read_turn-clause-front g c before name opened is =
    let p = err_from_is_err_and c.from_residual.result c.from_residual.ensures.1 in
    let fault : p.0 ≡ Fault = cc (p.1, is) in
    let refused = subst (TurnRefused (g.F.Files.told c.loop-turn.files) (g.F.Files.told c.read_turn.new.files)) (sym p.2) c.in_err-read_turn.ensures.err in
    IsFrontOf-at_fault (g.F.Files.told c.read_turn.new.files) (g.I.Intake.text c.read_turn.new.intake) p.0 opened c.loop-turn.invariant.0 refused fault (c.in_err-read_turn.ensures.fault (cc (p.2, fault)))

pub returns-then-not-branch-clause-ok : goal.returns-then-not-branch-clause-ok
returns-then-not-branch-clause-ok g c before name opened = FileRead-from opened c.loop-turn.invariant.0 c.in_ok-read_turn.ensures.ok (search rules)

pub loop-turn-preserved : goal.loop-turn-preserved
loop-turn-preserved g c =
    let turn = c.in_ok-read_turn.ensures.ok in
    (SoFar-more c.loop-turn.invariant.0 turn (search rules), c.in_ok-read_turn.ensures.aim ∙ c.loop-turn.invariant.1)

pub returns-clause-err : goal.returns-clause-err
returns-clause-err g c before name opened = FileEndless-from opened c.loop-turn.invariant.0 (omega arith)
