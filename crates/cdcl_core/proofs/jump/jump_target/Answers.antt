use Rattle.std.proofs.Common.{◌≡◌, ◌∙◌, ℕ, ◌-◌, get_or, ap, subst, refl}
use Rattle.cdcl_core.specs.Placed.{last_start}
use Rattle.cdcl_core.specs.Jump.{IsJump}
use Rattle.cdcl_core.proofs.Jumping.{jump_some}
use Rattle.cdcl_core.proofs.jump.jump_target.Goals as goal

pub returns-in-Some-clause-jump : goal.returns-in-Some-clause-jump
returns-in-Some-clause-jump c =
    let start_is : c.start-start.result ≡ last_start c.args.trail.now = c.start-start.ensures ∙ ap (λ (levels : ℕ). get_or c.args.trail.now.starts (levels - 1) 0) c.levels.ensures in
    subst (λ start. IsJump c.args.trail.now start c.args.clause.now c.args.own c.levels_until.result) start_is
    (jump_some c.args.trail.now c.start-start.result c.args.clause.now c.args.clause.now c.args.own c.last_other.result c.in-Some.last c.levels_until.result c.levels_until.result
    c.requires.levels start_is c.last_other.ensures refl c.in-Some.is c.levels_until.ensures.before c.levels_until.ensures.after refl)
