use Rattle.std.proofs.Common.{◌≡◌, ◌-◌, [], ◌∷◌, ◌++◌, length, get_or, map, ap, subst, ◌∙◌, arith}
use Rattle.proof_semantics.specs.declared.item.Item.TheVariants.{Add}
use Rattle.trim_semantics.specs.Trimming.{kept_steps}
use Rattle.lrat_trim.specs.Backwards.{is_in, KeptSoFar, Visited}
use Rattle.lrat_trim.proofs.SoFar.{none_in, first_kept, no_root, next_kept}
use Rattle.lrat_trim.proofs.trim.kept_backwards.Goals as goal
use Rattle.lrat_trim.proofs.trim.kept_backwards.Goals.{in-Add+in_ok-keep, in_default}

pub loop-place-init : goal.loop-place-init
loop-place-init c = record {
  within = omega arith;
  so_far = elim c.match-items-root.branch [
    | in-Add+in_ok-keep w ↦
        first_kept c.args.items.now c.args.root w.in-Add.s (map (λ s. s.id) (kept_steps c.args.items.now)) (is_in c.new-named.result) (is_in c.match-items-root.named) c.match-items-root.kept.items
        c.requires.root (subst (λ item. item ≡ get_or c.args.items.now c.args.root item) w.in-Add.is c.index-items-root.is) (none_in c.new-named.result c.new-named.ensures.empty)
        (λ id. ap (λ ids. is_in ids id) w.named-is ∙ w.in_ok-keep.ensures.named id)
        (ap (λ v. v.items) w.kept-is ∙ w.in_ok-keep.ensures.kept ∙ ap (λ items. items ++ Add w.in-Add.s ∷ []) c.new-kept.ensures.items)
    | in_default w ↦
        absurd (no_root c.args.items.now c.args.root w.in_default.field-0 c.requires.root (subst (λ item. item ≡ get_or c.args.items.now c.args.root item) w.in_default.is c.index-items-root.is))
  ];
}

pub loop-place-preserved : goal.loop-place-preserved
loop-place-preserved c =
    let within = c.loop-place.invariant.within in
    let test = c.loop-place-test.true in
    let before : KeptSoFar = record { named = is_in c.loop-place.named; kept = c.loop-place.kept.items } in
    let after : KeptSoFar = record { named = is_in c.visit.new.named; kept = c.visit.new.kept.items } in
    let clauses : c.len-clauses.result ≡ length c.args.goal.now.clauses = c.len-clauses.ensures ∙ ap length c.clauses.ensures.value in
    record {
      within = omega arith;
      so_far =
          next_kept c.args.goal.now.clauses c.args.items.now c.requires.refutes c.args.root (c.loop-place.place - 1) c.loop-place.place c.index-items-place.result before after c.requires.root
          (omega (arith, within, test)) (omega (arith, test)) c.index-items-place.is c.loop-place.invariant.so_far
          (subst (λ n. Visited n c.index-items-place.result before after) clauses c.in_ok-visit.ensures);
    }
