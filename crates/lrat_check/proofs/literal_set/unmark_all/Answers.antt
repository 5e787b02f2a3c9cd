use Rattle.std.proofs.Common.{◌≡◌, ◌+◌, get_or, ℤ, pos, to_z, of_z, w32, subst, sym, rules, arith}
use Rattle.lrat_check.proofs.LiteralSets.{UnmarkedUpTo, next_taken, all_taken}
use Rattle.lrat_check.proofs.literal_set.unmark_all.Goals as goal

pub loop-literal-preserved : goal.loop-literal-preserved
loop-literal-preserved c =
    let l : ℤ = get_or c.args.literals.now c.loop-literal.literal-index (pos 0) in
    let read : to_z w32 (of_z w32 l) ≡ l = search rules in
    subst (λ marks. UnmarkedUpTo c.args.marks.now.items marks c.args.literals.now (c.loop-literal.literal-index + 1)) (sym c.unmark.ensures)
    (next_taken c.args.marks.now.items c.loop-literal.marks.items c.args.literals.now c.loop-literal.literal-index (to_z w32 (of_z w32 l)) (pos 0) c.loop-literal.invariant c.loop-literal-test.true
    read)

pub returns : goal.returns
returns c = all_taken c.args.marks.now.items c.loop-literal.marks.items c.args.literals.now c.loop-literal.literal-index c.loop-literal.invariant (omega arith)
