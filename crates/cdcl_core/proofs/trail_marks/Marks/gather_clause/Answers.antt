use Rattle.std.proofs.Common.{◌≡◌, ◌∙◌, ℕ, ◌<◌, true, false, length, get_or, ap, subst, sym, arith, vec_capacity}
use Rattle.cdcl_core.proofs.Touching.{mark_read, listed_touched}
use Rattle.cdcl_core.specs.Touched.{AreTouched}
use Rattle.cdcl_core.specs.Analysis.{IsClauseOf}
use Rattle.cdcl_core.proofs.Marking.{clause_marked, clause_skipped, clause_whole}
use Rattle.cdcl_core.proofs.trail_marks.Marks.gather_clause.Goals as goal
use Rattle.cdcl_core.proofs.trail_marks.Marks.gather_clause.Goals.{then-place-len+then-index, else-place-len, else-place-len-via-then-place-len+else-index, else-place-len-via-else-place-len}

pub loop-place-preserved : goal.loop-place-preserved
loop-place-preserved c =
    let touched : AreTouched c.self.inside.on.items c.self.inside.touched.items
    = listed_touched c.self.inside.on.items c.self.inside.listed.items c.self.inside.touched.items (vec_capacity c.self.inside.touched) (vec_capacity c.self.inside.sorted) c.self.invariant in
    let p : ℕ = get_or c.deref-place-items.result.now c.loop-place.place-index 0 in
    let place : p ≡ get_or c.self.inside.touched.items c.loop-place.place-index 0 = ap (λ xs. get_or xs c.loop-place.place-index 0) c.deref-place-items.ensures.value in
    let low : c.loop-place.place-index < length c.self.inside.touched.items = omega (arith, ap length c.deref-place-items.ensures.value) in
    let inside : p < length c.self.inside.on.items = subst (λ q. q < length c.self.inside.on.items) (sym place) (touched.within c.loop-place.place-index 0 low) in
    record {
      so_far = elim c.if-place-len.branch [
        | then-place-len+then-index w ↦
            clause_marked c.args.trail.now.literals c.self.inside.on.items c.self.inside.touched.items c.loop-place.clause.items c.if-place-len.clause.items c.loop-place.place-index p
            w.literal.result w.negated.result
            c.loop-place.invariant.so_far place (mark_read c.self.inside.on.items p w.index.result.now true inside w.index.ensures w.if-index.true) (omega arith) w.literal.ensures w.negated.ensures
            (ap (λ v. v.items) w.clause-is ∙ w.push_reserved.ensures.items)
        | else-place-len w ↦
            rw w.clause-is (clause_skipped c.args.trail.now.literals c.self.inside.on.items c.self.inside.touched.items c.loop-place.clause.items c.loop-place.place-index c.loop-place.invariant.so_far
            (λ within m. elim w.else-place-len.branch [
              | else-place-len-via-then-place-len+else-index w2 ↦
                  let off = mark_read c.self.inside.on.items p w2.index.result.now false inside w2.index.ensures w2.if-index.false in
                  let on : get_or c.self.inside.on.items p false ≡ true = subst (λ q. get_or c.self.inside.on.items q false ≡ true) (sym place) m in
                  cc
              | else-place-len-via-else-place-len w2 ↦
                  let here : p < length c.args.trail.now.literals = subst (λ q. q < length c.args.trail.now.literals) (sym place) within in
                  omega arith
            ]))
      ];
      few = let few = c.loop-place.invariant.few in elim c.if-place-len.branch [
        | then-place-len+then-index w ↦ rw w.clause-is (let one = w.push_reserved.ensures.len in omega arith)
        | else-place-len w ↦ rw w.clause-is (omega arith)
      ];
      room = let room = c.loop-place.invariant.room in elim c.if-place-len.branch [
        | then-place-len+then-index w ↦ rw w.clause-is (w.push_reserved.ensures.capacity ∙ room)
        | else-place-len w ↦ rw w.clause-is room
      ];
    }

pub returns-clause-clause : goal.returns-clause-clause
returns-clause-clause c =
    let touched : AreTouched c.self.inside.on.items c.self.inside.touched.items
    = listed_touched c.self.inside.on.items c.self.inside.listed.items c.self.inside.touched.items (vec_capacity c.self.inside.touched) (vec_capacity c.self.inside.sorted) c.self.invariant in
    subst (λ marks. IsClauseOf c.args.trail.now.literals marks c.loop-place.clause.items) c.self.view_is
    (clause_whole c.args.trail.now.literals c.self.inside.on.items c.self.inside.touched.items c.loop-place.clause.items c.loop-place.place-index c.loop-place.invariant.so_far touched
    (omega (arith, ap length c.deref-place-items.ensures.value)))
