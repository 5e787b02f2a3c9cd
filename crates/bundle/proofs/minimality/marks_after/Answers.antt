use Rattle.std.proofs.Common.{◌≡◌, ◌⊎◌, true, false, Option, None, List, length, get_or, sym, ap, subst, ◌∙◌, arith}
use Rattle.std.specs.Prelude.{◌↔◌, MatchOption}
use Rattle.std.specs.List.{Contains}
use Rattle.std.proofs.lemmas.List.{length_push}
use Rattle.chain_semantics.specs.declared.moves.Move.{Move}
use Rattle.chain_semantics.specs.Moves.{moves_of}
use Rattle.chain_semantics.specs.Minimality.{IsBrokenBySome}
use Rattle.care_masks.specs.Growing.{GrowingValue}
use Rattle.bundle.specs.Shown.{asked_moves, IsBroken}
use Rattle.bundle.proofs.Marks.{AreMarkedSoFar, claimed_move, marked_first, marked_member, marked_next, marked_whole}
use Rattle.bundle.proofs.minimality.marks_after.Goals as goal

pub loop-mark-init : goal.loop-mark-init
loop-mark-init c =
    let a = c.args.asked.now in
    let given = subst (λ (o : Option (List Move)). MatchOption o (a.version ≡ None) (λ moves. moves ≡ asked_moves a)) c.in-Some.is c.in_ok-moves.ensures in
    record {
      so_far = marked_first (IsBroken a c.args.block.now.vectors) (asked_moves a) c.in-Some.moves c.args.marks.now c.new-after.result.items given c.new-after.ensures.items;
      count = ap length c.new-after.ensures.items;
      masks = c.in_ok-masks.ensures;
    }

pub mark_after-requires : goal.mark_after-requires
mark_after-requires c =
    let a = c.args.asked.now in
    let there = marked_member (IsBroken a c.args.block.now.vectors) (asked_moves a) c.loop-mark.left c.next.new.self c.args.marks.now c.loop-mark.after.items c.in-Some-next.a_move
    c.in-Some-next.ensures c.loop-mark.invariant.so_far in
    subst (λ (m : GrowingValue). Contains (moves_of m.net) c.in-Some-next.a_move) (sym c.loop-mark.invariant.masks) (claimed_move a.version a.approx c.in-Some-next.a_move there)

pub loop-mark-preserved : goal.loop-mark-preserved
loop-mark-preserved c =
    let a = c.args.asked.now in
    let move = c.in-Some-next.a_move in
    let marks = c.args.marks.now in
    let mark = c.in_ok-mark_after.field-0 in
    let at = c.loop-mark.mark-index in
    let told =
    subst (λ (m : GrowingValue). (mark ≡ true) ↔ ((get_or marks at false ≡ true) ⊎ IsBrokenBySome m.metric m.exact m.bound m.net m.vectors move)) c.loop-mark.invariant.masks
    c.in_ok-mark_after.ensures.mark in
    let here = subst (λ n. (mark ≡ true) ↔ ((get_or marks n false ≡ true) ⊎ IsBroken a c.args.block.now.vectors move)) (sym c.loop-mark.invariant.count) told in
    record {
      so_far =
          subst (AreMarkedSoFar (IsBroken a c.args.block.now.vectors) (asked_moves a) c.next.new.self marks) (sym c.in_ok-push.ensures.items)
          (marked_next (IsBroken a c.args.block.now.vectors) (asked_moves a) c.loop-mark.left c.next.new.self marks c.loop-mark.after.items move mark c.in-Some-next.ensures
          c.loop-mark.invariant.so_far here);
      count = omega (arith, ap length c.in_ok-push.ensures.items, length_push c.loop-mark.after.items mark, c.loop-mark.invariant.count);
      masks = c.in_ok-mark_after.ensures.same ∙ c.loop-mark.invariant.masks;
    }

pub returns : goal.returns
returns c before marks =
    marked_whole c.args.asked.now c.loop-mark.left before c.args.block.now.vectors c.args.marks.now c.loop-mark.after.items (omega (arith, c.loop-mark.invariant.count)) c.loop-mark.invariant.so_far
    marks
