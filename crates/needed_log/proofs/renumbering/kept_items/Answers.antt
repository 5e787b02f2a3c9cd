use Rattle.std.proofs.Common.{◌≡◌, length, ap, subst, sym, ◌∙◌}
use Rattle.needed_log.specs.Marks.{AreWithin}
use Rattle.needed_log.specs.Renumbered.{ids_of}
use Rattle.needed_log.proofs.Steps.{ids_within}
use Rattle.needed_log.proofs.renumbering.kept_items.Goals as goal

pub new_item-requires : goal.new_item-requires
new_item-requires c =
    let clauses : c.len-clauses.result ≡ length c.args.formula.now.clauses = c.len-clauses.ensures ∙ ap length c.clauses.ensures.value in
    let item = c.index-items-place.result in
    let all = ids_within c.args.formula.now c.args.items.now c.loop-place.place item c.requires.derivation c.loop-place-test.true in
    subst (λ n. AreWithin n (length c.args.ids.now) (ids_of item)) (sym clauses)
    (subst (λ places. AreWithin (length c.args.formula.now.clauses) places (ids_of item)) (sym c.requires.ids)
    (subst (λ it. AreWithin (length c.args.formula.now.clauses) (length c.args.items.now) (ids_of it)) (sym c.index-items-place.is) all))
