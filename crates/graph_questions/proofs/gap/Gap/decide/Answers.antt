use Rattle.std.proofs.Common.{◌≡◌, ℕ, List, ◌-◌, ◌^◌, ◌≤◌, sym, subst, ap, ◌∙◌, arith}
use Rattle.std.specs.Prelude.{IfSome}
use Rattle.std.proofs.Math.Nat.{pow-le-pow_right}
use Rattle.graph_questions.specs.Levels.{question_of}
use Rattle.graph_questions.specs.GraphClauses.{IsAnsweredOf}
use Rattle.graph_questions.specs.Gaps.{GapValue, IsGapOf, IsNextOf, IsBetween, IsGapGoal}
use Rattle.graph_questions.proofs.Following.{gap_grown, next_grown, between, never_beyond}
use Rattle.graph_questions.proofs.gap.Gap.decide.Goals as goal

pub gap_goal-requires-clause-fits : goal.gap_goal-requires-clause-fits
gap_goal-requires-clause-fits g c =
    let p = c.self.inside.places in
    let old = c.args.self.now.places in
    let same : p ≡ old = ap (λ (gap : GapValue). gap.places) c.self.view_is ∙ c.in_ok-next.ensures.places in
    let grown : 2 ^ (old - 2) ≤ 2 ^ p = pow-le-pow_right {n = 2} (omega arith) (omega (arith, same)) in
    omega (arith, grown, c.requires.fits)

pub gap_goal-requires-clause-between : goal.gap_goal-requires-clause-between
gap_goal-requires-clause-between g c =
    let exact = c.args.nets.now.exact in
    let o = c.self.inside in
    let gap : GapValue =
    record { graph = o.graph; inputs = o.inputs.items; places = o.places; exact_low = o.exact_low.items; member_low = o.member_low.items; sum = o.sum } in
    let before : IsGapOf exact gap = subst (IsGapOf exact) (sym c.self.view_is) c.in_ok-next.ensures.gap in
    let low = c.in_ok-next.next.low.items in
    let sum = c.in_ok-next.next.sum in
    let next : IsNextOf gap c.args.nets.now.approx low sum = subst (λ (gap : GapValue). IsNextOf gap c.args.nets.now.approx low sum) (sym c.self.view_is) c.in_ok-next.ensures.next in
    subst (λ (ls : List ℕ). IsBetween o.graph c.args.nets.now o.places ls sum) (sym c.deref.ensures.value)
    (between o.graph c.args.nets.now o.places o.inputs.items o.exact_low.items low sum before.exact next.low next.step)

pub returns-in_default-clause-gap : goal.returns-in_default-clause-gap
returns-in_default-clause-gap g c =
    let exact = c.args.nets.now.exact in
    let o = c.self.inside in
    let gap : GapValue =
    record { graph = o.graph; inputs = o.inputs.items; places = o.places; exact_low = o.exact_low.items; member_low = o.member_low.items; sum = o.sum } in
    let before : IsGapOf exact gap = subst (IsGapOf exact) (sym c.self.view_is) c.in_ok-next.ensures.gap in
    gap_grown exact gap c.gap_goal.new.g c.gap_goal.ensures.grows before

pub go_on-requires-clause-gap : goal.go_on-requires-clause-gap
go_on-requires-clause-gap g c =
    let exact = c.args.nets.now.exact in
    let o = c.self.inside in
    let gap : GapValue =
    record { graph = o.graph; inputs = o.inputs.items; places = o.places; exact_low = o.exact_low.items; member_low = o.member_low.items; sum = o.sum } in
    let before : IsGapOf exact gap = subst (IsGapOf exact) (sym c.self.view_is) c.in_ok-next.ensures.gap in
    gap_grown exact gap c.gap_goal.new.g c.gap_goal.ensures.grows before

pub returns-in_ok-tried-in-Model-clause-gap : goal.returns-in_ok-tried-in-Model-clause-gap
returns-in_ok-tried-in-Model-clause-gap g c =
    let exact = c.args.nets.now.exact in
    let o = c.self.inside in
    let gap : GapValue =
    record { graph = o.graph; inputs = o.inputs.items; places = o.places; exact_low = o.exact_low.items; member_low = o.member_low.items; sum = o.sum } in
    let before : IsGapOf exact gap = subst (IsGapOf exact) (sym c.self.view_is) c.in_ok-next.ensures.gap in
    gap_grown exact gap c.gap_goal.new.g c.gap_goal.ensures.grows before

pub returns-in-Spent-clause-gap : goal.returns-in-Spent-clause-gap
returns-in-Spent-clause-gap g c =
    let exact = c.args.nets.now.exact in
    let o = c.self.inside in
    let gap : GapValue =
    record { graph = o.graph; inputs = o.inputs.items; places = o.places; exact_low = o.exact_low.items; member_low = o.member_low.items; sum = o.sum } in
    let before : IsGapOf exact gap = subst (IsGapOf exact) (sym c.self.view_is) c.in_ok-next.ensures.gap in
    gap_grown exact gap c.gap_goal.new.g c.gap_goal.ensures.grows before

pub go_on-requires-clause-next : goal.go_on-requires-clause-next
go_on-requires-clause-next g c =
    let exact = c.args.nets.now.exact in
    let o = c.self.inside in
    let gap : GapValue =
    record { graph = o.graph; inputs = o.inputs.items; places = o.places; exact_low = o.exact_low.items; member_low = o.member_low.items; sum = o.sum } in
    let before : IsGapOf exact gap = subst (IsGapOf exact) (sym c.self.view_is) c.in_ok-next.ensures.gap in
    let low = c.in_ok-next.next.low.items in
    let sum = c.in_ok-next.next.sum in
    let next : IsNextOf gap c.args.nets.now.approx low sum = subst (λ (gap : GapValue). IsNextOf gap c.args.nets.now.approx low sum) (sym c.self.view_is) c.in_ok-next.ensures.next in
    next_grown c.args.nets.now.approx gap c.gap_goal.new.g low sum c.gap_goal.ensures.grows next

pub go_on-requires-clause-kept : goal.go_on-requires-clause-kept
go_on-requires-clause-kept g c = λ enough.
    let exact = c.args.nets.now.exact in
    let o = c.self.inside in
    let gap : GapValue =
    record { graph = o.graph; inputs = o.inputs.items; places = o.places; exact_low = o.exact_low.items; member_low = o.member_low.items; sum = o.sum } in
    let before : IsGapOf exact gap = subst (IsGapOf exact) (sym c.self.view_is) c.in_ok-next.ensures.gap in
    let q = question_of c.args.nets.now c.args.level.now in
    let g' = c.gap_goal.new.g in
    let made : GapValue =
    record { graph = g'; inputs = o.inputs.items; places = o.places; exact_low = o.exact_low.items; member_low = o.member_low.items; sum = o.sum } in
    let asked =
    subst (λ (ls : List ℕ). IsGapGoal g' q o.places ls c.in-Some.goal) c.deref.ensures.value
    (subst (λ x. IfSome x (IsGapGoal g' q o.places c.deref.result.now)) c.in-Some.is c.in_ok-goal.ensures.goal) in
    never_beyond q made c.in-Some.goal (gap_grown exact gap c.gap_goal.new.g c.gap_goal.ensures.grows before)
    asked c.values.ensures (subst (IsAnsweredOf g' c.in-Some.goal) c.in-Refuted.is c.in_ok-model.ensures) enough
