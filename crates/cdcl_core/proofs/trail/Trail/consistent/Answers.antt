use Rattle.std.proofs.Common.{length, ap, arith}
use Rattle.cdcl_core.proofs.Placing.{placed_few}
use Rattle.cdcl_core.proofs.trail.Trail.consistent.Goals as goal

pub returns-clause-few : goal.returns-clause-few
returns-clause-few c =
    let few = placed_few c.self.inside.places.items c.self.inside.literals.items c.self.invariant.held.placed in
    let literals = ap (λ t. length t.literals) c.self.view_is in
    let variables = ap (λ t. t.variables) c.self.view_is in
    omega arith
