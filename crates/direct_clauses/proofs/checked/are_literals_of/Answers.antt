use Rattle.std.proofs.Common.{◌≡◌, All, subst, get_or, ℤ, pos, to_z, of_z, w32, rules}
use Rattle.std.proofs.lemmas.List.{take_all}
use Rattle.std.proofs.lemmas.List.Elements.{All-more}
use Rattle.proof_semantics.specs.Clauses.{IsLiteralOf}
use Rattle.direct_clauses.proofs.checked.are_literals_of.Goals as goal

pub loop-literal-preserved : goal.loop-literal-preserved
loop-literal-preserved c =
    let l : ℤ = get_or c.args.literals.now c.loop-literal.literal-index (pos 0) in
    let read : to_z w32 (of_z w32 l) ≡ l = search rules in
    All-more (IsLiteralOf c.args.variables) c.args.literals.now c.loop-literal.literal-index (pos 0) c.loop-literal-test.true c.loop-literal.invariant
    (subst (IsLiteralOf c.args.variables) read (c.is_literal_of.ensures c.if-not-is_literal_of.false))

pub returns : goal.returns
returns c = λ yes. subst (All (IsLiteralOf c.args.variables)) (take_all c.loop-literal.literal-index c.args.literals.now c.loop-literal-test.false) c.loop-literal.invariant
