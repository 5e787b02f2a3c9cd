use Rattle.std.proofs.Common.{◌≡◌, ℕ, false, List, Bool, length, get_or, sym, ap, subst, arith}
use Rattle.std.proofs.lemmas.List.{length_push}
use Rattle.bundle.proofs.Marks.{push_false}
use Rattle.bundle.proofs.minimality.first_marks.Goals as goal

pub loop-a_move-preserved : goal.loop-a_move-preserved
loop-a_move-preserved c = record {
  same = omega (arith, ap length c.in_ok-push.ensures.items, length_push c.loop-a_move.marks.items false, ap length c.in-Some-next.ensures, c.loop-a_move.invariant.same);
  none = subst (λ (marks : List Bool). (i : ℕ) → get_or marks i false ≡ false) (sym c.in_ok-push.ensures.items) (push_false c.loop-a_move.marks.items c.loop-a_move.invariant.none);
}
