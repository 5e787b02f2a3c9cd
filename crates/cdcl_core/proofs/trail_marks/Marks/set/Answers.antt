use Rattle.std.proofs.Common.{◌≡◌, ◌<◌, true, false, length, get_or, set, vec_capacity, ap, subst, sym, arith}
use Rattle.cdcl_core.specs.Touched.{AreListed}
use Rattle.cdcl_core.proofs.Touching.{mark_read, room_to_list, listed_marked}
use Rattle.cdcl_core.proofs.trail_marks.Marks.set.Goals as goal

pub push_reserved-requires : goal.push_reserved-requires
push_reserved-requires c =
    let wide : length c.args.self.now ≡ length c.self.inside.on.items = ap length (sym c.self.view_is) in
    let inside : c.args.place < length c.self.inside.on.items = omega arith in
    let same = c.self.invariant.places in
    let off : get_or c.self.inside.listed.items c.args.place false ≡ false
    = mark_read c.self.inside.listed.items c.args.place c.index.result.now false (omega arith) c.index.ensures c.if-not-index.true in
    let room = room_to_list c.self.inside.on.items c.self.inside.listed.items c.self.inside.touched.items (vec_capacity c.self.inside.touched) (vec_capacity c.self.inside.sorted) c.args.place
    c.self.invariant inside off in
    omega (arith, c.self.inside.touched.ok.0)

pub invariant_of-self : goal.invariant_of-self
invariant_of-self c =
    let wide : length c.args.self.now ≡ length c.self.inside.on.items = ap length (sym c.self.view_is) in
    let inside : c.args.place < length c.self.inside.on.items = omega arith in
    let same = c.self.invariant.places in
    let off : get_or c.self.inside.listed.items c.args.place false ≡ false
    = mark_read c.self.inside.listed.items c.args.place c.index.result.now false (omega arith) c.index.ensures c.if-not-index.true in
    subst (λ room. AreListed (set c.self.inside.on.items c.args.place true) (set c.self.inside.listed.items c.args.place true) c.push_reserved.new.self.items room (vec_capacity c.self.inside.sorted))
    (sym c.push_reserved.ensures.capacity)
    (listed_marked c.self.inside.on.items c.self.inside.listed.items c.self.inside.touched.items c.push_reserved.new.self.items (vec_capacity c.self.inside.touched)
    (vec_capacity c.self.inside.sorted) c.args.place c.self.invariant inside off c.push_reserved.ensures.items)
