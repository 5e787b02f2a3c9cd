use Rattle.std.proofs.Common.{◌≡◌, ℕ, Bool, ◌+◌, length, get_or, nat_eq, refl, ap, sym, ◌∙◌, Ok, Some, ℤ, to_z, of_z, w32, rules}
use Rattle.std.specs.FinMap.{get}
use Rattle.std.specs.FinSet as literals
use Rattle.proof_semantics.specs.Logs.{hint_answer, open_literals}
use Rattle.lrat_check.proofs.HintAnswers.{hints_next}
use Rattle.lrat_check.proofs.hints.follow.Goals as goal

pub loop-i-preserved : goal.loop-i-preserved
loop-i-preserved c =
    let l : ℤ = c.in-Some-2.literal in
    let read : to_z w32 (of_z w32 l) ≡ l = search rules in
    let hint : ℕ = get_or c.args.hints.now c.loop-i.i 0 in
    let last : Bool = nat_eq (c.loop-i.i + 1) (length c.args.hints.now) in
    let unit : hint_answer hint last (open_literals c.loop-i.set c.in-Some.clause.now) ≡ Ok (Some l) =
    ap (λ k. hint_answer hint last (open_literals c.loop-i.set k)) (sym c.as_slice.ensures.value)
    ∙ sym c.in_ok-hint_gives.ensures.value ∙ ap Ok c.in-Some-2.is in
    hints_next (get c.args.held.now.held) c.loop-i.set c.insert.new.self c.args.hints.now c.loop-i.i hint last c.in-Some.clause.now l c.loop-i-test.true refl refl
    (sym c.in-Some.ensures) unit (c.in-Ok.ensures ∙ ap (literals.insert c.loop-i.set) read)
    ∙ c.loop-i.invariant
