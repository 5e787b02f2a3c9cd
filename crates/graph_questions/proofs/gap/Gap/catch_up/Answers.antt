use Rattle.std.proofs.Common.{◌≡◌, ℕ, List, sym, subst}
use Rattle.literal_sums.specs.declared.term.Term.{Term}
use Rattle.literal_sums.specs.Sums.{CountsMore, sum_value}
use Rattle.graph_questions.specs.Gaps.{GapValue, IsGapOf, IsStep}
use Rattle.graph_questions.proofs.Following.{gap_joined}
use Rattle.graph_questions.proofs.gap.Gap.catch_up.Goals as goal

pub returns-clause-gap : goal.returns-clause-gap
returns-clause-gap g c = λ N is.
    let old = c.self.inside in
    let gap : GapValue =
    record { graph = old.graph; inputs = old.inputs.items; places = old.places; exact_low = old.exact_low.items; member_low = old.member_low.items; sum = old.sum } in
    let low = c.in_ok-self-inside.field-0.items in
    let low_is : low ≡ c.args.low.now = c.in_ok-self-inside.ensures.items_if_clones_equal (λ x y h. h) in
    let before : IsGapOf N gap = subst (IsGapOf N) (sym c.self.view_is) is in
    let step : IsStep c.step_of.new.g old.places gap.member_low low c.in_ok-step.step.sum =
    subst (λ (l : List ℕ). IsStep c.step_of.new.g old.places gap.member_low l c.in_ok-step.step.sum) (sym low_is)
    (subst (λ (l : List ℕ). IsStep c.step_of.new.g old.places l c.args.low.now c.in_ok-step.step.sum) c.deref.ensures.value c.in_ok-step.ensures.step) in
    let more : CountsMore (λ v. sum_value v c.in_ok-step.step.sum) gap.sum c.add_all.new.self =
    subst (λ (ts : List Term). CountsMore (λ v. sum_value v ts) gap.sum c.add_all.new.self) c.terms.ensures c.in_ok-add_all.ensures in
    gap_joined N gap c.step_of.new.g low c.in_ok-step.step.sum c.add_all.new.self c.step_of.ensures.grows step more before
