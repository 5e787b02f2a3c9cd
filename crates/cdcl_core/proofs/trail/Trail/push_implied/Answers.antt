use Rattle.std.proofs.Common.{ap, subst, sym, rules, ◌∙◌, length, length-append, vec_capacity, arith}
use Rattle.cdcl_core.specs.Explained.{Holds}
use Rattle.cdcl_core.specs.Settled.{IsOpen}
use Rattle.proof_semantics.specs.Clauses.{IsLiteralOf}
use Rattle.cdcl_core.proofs.Telling.{places_next, places_room}
use Rattle.cdcl_core.proofs.trail.Trail.push_implied.Goals as goal

pub push_reserved-requires : goal.push_reserved-requires
push_reserved-requires c =
    let room = places_room c.self.inside.places.items c.self.inside.told.items c.self.inside.literals.items (length c.self.inside.reasons.items) (vec_capacity c.self.inside.literals)
    (vec_capacity c.self.inside.reasons) c.self.invariant in
    let low = room.0 in
    omega (arith, c.self.inside.literals.ok.0)

pub push_reserved-requires-2 : goal.push_reserved-requires-2
push_reserved-requires-2 c =
    let room = places_room c.self.inside.places.items c.self.inside.told.items c.self.inside.literals.items (length c.self.inside.reasons.items) (vec_capacity c.self.inside.literals)
    (vec_capacity c.self.inside.reasons) c.self.invariant in
    let low = room.1 in
    omega (arith, c.self.inside.reasons.ok.0)

pub invariant_of-self : goal.invariant_of-self
invariant_of-self c =
    places_next c.self.inside.places.items c.self.inside.told.items c.self.inside.literals.items c.push_reserved.new.self.items c.args.literal c.variable.result c.len.result c.index.result
    (length c.self.inside.reasons.items) (length c.push_reserved-2.new.self.items) (vec_capacity c.self.inside.literals) (vec_capacity c.push_reserved.new.self) (vec_capacity c.self.inside.reasons)
    (vec_capacity c.push_reserved-2.new.self) c.self.invariant
    (subst (λ ts. IsOpen (Holds ts) c.args.literal) (sym (ap (λ t. t.literals) c.self.view_is)) c.requires.open)
    (subst (λ n. IsLiteralOf n c.args.literal) (sym (ap (λ t. t.variables) c.self.view_is)) c.requires.literal)
    (search rules) (search rules) (search rules) (search rules)
    (ap length c.push_reserved-2.ensures.items ∙ length-append c.self.inside.reasons.items _) c.push_reserved.ensures.capacity c.push_reserved-2.ensures.capacity
