use Rattle.std.proofs.Common.{◌≤◌, ◌+◌, length, subst, sym, ◌∙◌}
use Rattle.std.proofs.lemmas.List.Elements.{All-tail}
use Rattle.needed_log.specs.Marks.{AreWithin}
use Rattle.needed_log.specs.Renumbered.{ids_of}
use Rattle.needed_log.proofs.renumbering.new_item.Goals as goal

pub new_hints-requires : goal.new_hints-requires
new_hints-requires c =
    let all = subst (λ item. AreWithin c.args.clauses (length c.args.ids.now) (ids_of item)) c.in-Add.is c.requires in
    subst (AreWithin c.args.clauses (length c.args.ids.now)) (sym (c.as_slice-in-Add.ensures ∙ c.hints.ensures))
    (All-tail (λ id. id ≤ c.args.clauses + length c.args.ids.now) c.in-Add.s.id c.in-Add.s.hints all)
