use Rattle.std.proofs.Common.{◌≡◌, ◌∷◌, [], ◌++◌, ap, ◌∙◌, rules}
use Rattle.std.specs.Ordering.{int_cmp}
use Rattle.std.specs.FinSet as set
use Rattle.lrat_check.proofs.LiteralSets.{set_pushed}
use Rattle.lrat_check.proofs.literal_set.LiteralSet.insert.Goals as goal

pub returns-then-index-len : goal.returns-then-index-len
returns-then-index-len c =
    let a = c.self.inside in
    let l = c.args.literal in
    let pushed : c.push.new.self.items ≡ a.members.items ++ l ∷ [] = search rules in
    ap (λ members. set.from_list {R = int_cmp} members) pushed ∙ set_pushed a.members.items l ∙ ap (λ s. set.insert s l) c.self.view_is

pub returns-in-Ok : goal.returns-in-Ok
returns-in-Ok c =
    let a = c.self.inside in
    let l = c.args.literal in
    let pushed : c.push.new.self.items ≡ a.members.items ++ l ∷ [] = search rules in
    ap (λ members. set.from_list {R = int_cmp} members) pushed ∙ set_pushed a.members.items l ∙ ap (λ s. set.insert s l) c.self.view_is
