use Rattle.std.proofs.Common.{◌≡◌, ℕ, List, sym, subst}
use Rattle.literal_sums.specs.declared.term.Term.{Term}
use Rattle.literal_sums.specs.Sums.{CountsMore, sum_value}
use Rattle.graph_questions.specs.Gaps.{GapValue, IsStep}
use Rattle.graph_questions.proofs.Following.{step_joined}
use Rattle.graph_questions.proofs.gap.Gap.next_sum.Goals as goal

pub returns-clause-step : goal.returns-clause-step
returns-clause-step g c =
    let old = c.self.inside in
    let low = c.args.low.now in
    let after = c.step_of.new.g in
    let step = c.in_ok-step.step.sum in
    let sum = c.add_all.new.self in
    let first : IsStep old.graph old.places old.exact_low.items old.member_low.items old.sum =
    subst (λ (gap : GapValue). IsStep gap.graph gap.places gap.exact_low gap.member_low gap.sum) (sym c.self.view_is) c.requires.step in
    let second : IsStep after old.places old.member_low.items low step = subst (λ (l : List ℕ). IsStep after old.places l low step) c.deref.ensures.value c.in_ok-step.ensures.step in
    let same : c.in_ok-next.next ≡ old.sum = c.in_ok-next.ensures in
    let more : CountsMore (λ v. sum_value v step) old.sum sum =
    subst (λ (ts : List Term). CountsMore (λ v. sum_value v ts) old.sum sum) c.terms.ensures
    (subst (λ (ts : List Term). CountsMore (λ v. sum_value v c.terms.result.now) ts sum) same c.in_ok-add_all.ensures) in
    subst (λ (gap : GapValue). IsStep after gap.places gap.exact_low low sum) c.self.view_is
    (step_joined old.graph after old.places old.exact_low.items old.member_low.items low old.sum step sum c.step_of.ensures.grows first second more)
