use Rattle.std.proofs.Common.{◌≤◌, vec_capacity, ◌∙◌, arith}
use Rattle.cdcl_core.proofs.Touching.{listed_none}
use Rattle.cdcl_core.proofs.trail_marks.Marks.make_room.Goals as goal

pub invariant_of-self : goal.invariant_of-self
invariant_of-self c =
    let to_list = c.self.invariant.to_list in
    let to_sort = c.self.invariant.to_sort in
    let same = c.self.invariant.places in
    listed_none c.unset_places.new.places.items c.unset_places-2.new.places.items c.reserve.new.self.items (vec_capacity c.reserve.new.self) (vec_capacity c.self.inside.sorted)
    (c.reserve.ensures.items ∙ c.clear.ensures.items) (omega arith) c.unset_places.ensures.none c.unset_places-2.ensures.none (omega arith) (omega arith)

pub invariant_of-self-in_err-reserve-2 : goal.invariant_of-self-in_err-reserve-2
invariant_of-self-in_err-reserve-2 c =
    let to_list = c.self.invariant.to_list in
    let to_sort = c.self.invariant.to_sort in
    let same = c.self.invariant.places in
    listed_none c.unset_places.new.places.items c.unset_places-2.new.places.items c.reserve.new.self.items (vec_capacity c.reserve.new.self) (vec_capacity c.reserve-2.new.self)
    (c.reserve.ensures.items ∙ c.clear.ensures.items) (omega arith) c.unset_places.ensures.none c.unset_places-2.ensures.none (omega arith) (omega arith)

pub invariant_of-self-2 : goal.invariant_of-self-2
invariant_of-self-2 c =
    let to_list = c.self.invariant.to_list in
    let to_sort = c.self.invariant.to_sort in
    let same = c.self.invariant.places in
    let list_room : c.args.entries ≤ vec_capacity c.reserve.new.self = let ok = c.in_ok-reserve.ensures.ok in let none = c.clear.ensures.len in omega arith in
    let sort_room : c.args.entries ≤ vec_capacity c.reserve-2.new.self = let ok = c.in_ok-reserve-2.ensures.ok in let none = c.clear-2.ensures.len in omega arith in
    let few = c.grow_places.ensures.few in
    listed_none c.grow_places.new.on.items c.grow_places.new.listed.items c.reserve.new.self.items (vec_capacity c.reserve.new.self) (vec_capacity c.reserve-2.new.self)
    (c.reserve.ensures.items ∙ c.clear.ensures.items) c.grow_places.ensures.same c.grow_places.ensures.none c.grow_places.ensures.none_listed (omega arith) (omega arith)
