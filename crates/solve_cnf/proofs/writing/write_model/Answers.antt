use Rattle.std.proofs.Common.{[], ◌∷◌, ◌+◌, refl, sym}
use Rattle.solve_cnf.proofs.Appended.{none_appended, next_appended}
use Rattle.solve_cnf.proofs.AnswerTexts.{model_line-parts, literal_text, literals_left, literals_left-next}
use Rattle.solve_cnf.proofs.writing.write_model.Goals as goal

pub loop-place-init : goal.loop-place-init
loop-place-init g c =
    next_appended (118 ∷ 32 ∷ []) (literals_left c.args.bits.now 0) (sym (model_line-parts c.args.bits.now)) (none_appended _ refl) c.in_ok-write_all.ensures.bytes

pub loop-place-preserved : goal.loop-place-preserved
loop-place-preserved g c =
    next_appended (literal_text c.args.bits.now c.loop-place.place) (literals_left c.args.bits.now (c.loop-place.place + 1))
    (literals_left-next c.args.bits.now c.loop-place.place c.loop-place-test.true) c.loop-place.invariant c.in_ok-write_literal.ensures
