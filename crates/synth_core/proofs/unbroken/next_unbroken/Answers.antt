use Rattle.std.proofs.Common.{length, ap, subst, sym, ◌∙◌, arith}
use Rattle.std.specs.List.{Contains}
use Rattle.chain_semantics.specs.Moves.{moves_of}
use Rattle.care_masks.specs.Growing.{GrowingValue}
use Rattle.care_masks.specs.Masks.{FindsFirstBroken}
use Rattle.synth_core.specs.AllowedMoves.{IsSearched}
use Rattle.synth_core.proofs.Searching.{searched-more, searched-member}
use Rattle.synth_core.proofs.Trying.{found_broken, found_none}
use Rattle.synth_core.proofs.unbroken.next_unbroken.Goals as goal

pub breaks-requires : goal.breaks-requires
breaks-requires g c =
    subst (λ (k : GrowingValue). Contains (moves_of k.net) c.in-Some.candidate) (sym c.loop-candidate.invariant.masks)
    (searched-member c.args.masks.now c.loop-candidate.moves c.next.new.self c.in-Some.candidate c.in-Some.ensures c.loop-candidate.invariant.searched)

pub loop-candidate-preserved : goal.loop-candidate-preserved
loop-candidate-preserved g c =
    let m : GrowingValue = c.args.masks.now in
    let found =
    subst (λ (k : GrowingValue). FindsFirstBroken k c.in-Some.candidate c.in_ok-breaks.field-0) c.loop-candidate.invariant.masks
    c.in_ok-breaks.ensures.broken
    in
    record {
      masks = c.breaks.ensures.same ∙ c.loop-candidate.invariant.masks;
      fewer = omega (arith, ap length c.in-Some.ensures, c.loop-candidate.invariant.fewer);
      searched =
          searched-more m c.loop-candidate.moves c.next.new.self c.in-Some.candidate c.in-Some.ensures c.loop-candidate.invariant.searched
          (found_broken m c.in-Some.candidate c.in_ok-breaks.field-0 c.in-Some-2.field-0 c.in-Some-2.is found);
    }

pub returns-in_default-2-clause-next : goal.returns-in_default-2-clause-next
returns-in_default-2-clause-next g c =
    let m : GrowingValue = c.args.masks.now in
    let found =
    subst (λ (k : GrowingValue). FindsFirstBroken k c.in-Some.candidate c.in_ok-breaks.field-0) c.loop-candidate.invariant.masks
    c.in_ok-breaks.ensures.broken
    in
    record {
      searched = subst (IsSearched m) c.in-Some.ensures c.loop-candidate.invariant.searched;
      candidate =
          found_none m c.in-Some.candidate c.in_ok-breaks.field-0 c.in_default-2.is found
          (searched-member m c.loop-candidate.moves c.next.new.self c.in-Some.candidate c.in-Some.ensures c.loop-candidate.invariant.searched);
    }

pub returns-in_default-2-clause-fewer : goal.returns-in_default-2-clause-fewer
returns-in_default-2-clause-fewer g c = omega (arith, ap length c.in-Some.ensures, c.loop-candidate.invariant.fewer)
