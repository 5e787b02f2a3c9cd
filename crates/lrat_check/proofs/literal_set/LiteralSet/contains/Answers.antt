use Rattle.std.proofs.Common.{◌≡◌, ◌≤◌, ◌<◌, false, length, get_or, to_z, of_z, w32, ap, sym, ◌∙◌, rules}
use Rattle.std.proofs.lemmas.List.{get_or_default}
use Rattle.std.specs.FinSet as set
use Rattle.std.specs.Ordering.{int_eq}
use Rattle.std.specs.HashSet as hash
use Rattle.lrat_check.specs.Marks.{index_of}
use Rattle.lrat_check.proofs.LiteralSets.{near_has, far_has, set_has}
use Rattle.lrat_check.proofs.literal_set.LiteralSet.contains.Goals as goal

pub returns-then-index-len : goal.returns-then-index-len
returns-then-index-len c =
    let a = c.self.inside in
    let l = c.args.literal in
    let within : index_of l < length a.marks.items = search rules in
    let index : c.index_of-index.result ≡ index_of l = search rules in
    let inside : c.index_of-index.result < length a.marks.items = search rules in
    let value : c.index.result.now ≡ get_or a.marks.items (index_of l) false =
    c.index.ensures ∙ get_or_default a.marks.items c.index_of-index.result c.index.result.now false inside ∙ ap (λ k. get_or a.marks.items k false) index in
    value ∙ near_has a.members.items a.marks.items a.apart l c.self.invariant within ∙ sym (set_has a.members.items l) ∙ ap (λ s. set.contains s l) c.self.view_is

pub returns-else-index-len : goal.returns-else-index-len
returns-else-index-len c =
    let a = c.self.inside in
    let l = c.args.literal in
    let read : to_z w32 (of_z w32 l) ≡ l = search rules in
    let past : length a.marks.items ≤ index_of l = search rules in
    c.contains.ensures ∙ ap (hash.contains int_eq a.apart) read ∙ far_has a.members.items a.marks.items a.apart l c.self.invariant past ∙ sym (set_has a.members.items l)
    ∙ ap (λ s. set.contains s l) c.self.view_is
