use Rattle.std.proofs.Common.{◌≡◌, ℤ, neg_ℤ, ◌++◌, subst, arith, rules}
use Rattle.std.specs.Prelude.{◌⊎◌, All}
use Rattle.std.proofs.lemmas.Grind.{common_steps}
use Rattle.std.proofs.lemmas.List.Elements.{All-append}
use Rattle.cdcl_core.specs.Explained.{Holds}
use Rattle.cdcl_core.proofs.visit.find_watch.Goals as goal

pub returns-in-None-clause-none : goal.returns-in-None-clause-none
returns-in-None-clause-none c none =
    let P : ℤ → Type 0 = λ a. (a ≡ c.args.first) ⊎ Holds c.args.trail.now.literals (neg_ℤ a) in
    let front : All P c.split_at.result.0.now = c.free_literal-in-None.ensures.none none in
    let back : All P c.split_at.result.1.now = c.in-None.ensures.none (search rules) in
    let whole : c.split_at.result.0.now ++ c.split_at.result.1.now ≡ c.args.clause.now = grind (arith, common_steps) in
    subst (All P) whole (All-append P c.split_at.result.0.now c.split_at.result.1.now front back)
