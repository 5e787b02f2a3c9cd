use Rattle.std.proofs.Common.{◌≡◌, ℕ, List, sym, subst, ap, ◌∙◌}
use Rattle.semantics.specs.Net.{NetValue}
use Rattle.aig_core.proofs.Growing.{grows_trans}
use Rattle.graph_questions.specs.Gaps.{GapValue, AreLowestOf, IsStep, IsGapOf, IsNextOf}
use Rattle.graph_questions.proofs.Following.{gap_grown, lowest_later}
use Rattle.graph_questions.proofs.gap.Gap.next.Goals as goal

pub next_sum-requires-clause-step : goal.next_sum-requires-clause-step
next_sum-requires-clause-step g c =
    let exact = c.args.nets.now.exact in
    let o = c.self.inside in
    let first : GapValue =
    record { graph = o.graph; inputs = o.inputs.items; places = o.places; exact_low = o.exact_low.items; member_low = o.member_low.items; sum = o.sum } in
    let caught : IsGapOf exact c.catch_up.new.self =
    c.in_ok-caught.ensures.gap exact (gap_grown exact first c.low_literals.new.g c.low_literals.ensures.grows (subst (IsGapOf exact) (sym c.self.view_is) c.requires.gap)) in
    let s = c.self-2.inside in
    let second : GapValue =
    record { graph = s.graph; inputs = s.inputs.items; places = s.places; exact_low = s.exact_low.items; member_low = s.member_low.items; sum = s.sum } in
    let third : GapValue =
    record { graph = c.low_literals-2.new.g; inputs = s.inputs.items; places = s.places; exact_low = s.exact_low.items; member_low = s.member_low.items; sum = s.sum } in
    let seen : IsGapOf exact second = subst (IsGapOf exact) (sym c.self-2.view_is) caught in
    let grown : IsGapOf exact third = gap_grown exact second c.low_literals-2.new.g c.low_literals-2.ensures.grows seen in
    let guessed : IsGapOf exact c.guess.new.self = subst (IsGapOf exact) (sym c.guess.ensures.same) (gap_grown exact third c.guess.new.self.graph c.guess.ensures.grows grown) in
    guessed.step

pub returns-clause-gap : goal.returns-clause-gap
returns-clause-gap g c =
    let exact = c.args.nets.now.exact in
    let o = c.self.inside in
    let first : GapValue =
    record { graph = o.graph; inputs = o.inputs.items; places = o.places; exact_low = o.exact_low.items; member_low = o.member_low.items; sum = o.sum } in
    let caught : IsGapOf exact c.catch_up.new.self =
    c.in_ok-caught.ensures.gap exact (gap_grown exact first c.low_literals.new.g c.low_literals.ensures.grows (subst (IsGapOf exact) (sym c.self.view_is) c.requires.gap)) in
    let s = c.self-2.inside in
    let second : GapValue =
    record { graph = s.graph; inputs = s.inputs.items; places = s.places; exact_low = s.exact_low.items; member_low = s.member_low.items; sum = s.sum } in
    let third : GapValue =
    record { graph = c.low_literals-2.new.g; inputs = s.inputs.items; places = s.places; exact_low = s.exact_low.items; member_low = s.member_low.items; sum = s.sum } in
    let seen : IsGapOf exact second = subst (IsGapOf exact) (sym c.self-2.view_is) caught in
    let grown : IsGapOf exact third = gap_grown exact second c.low_literals-2.new.g c.low_literals-2.ensures.grows seen in
    let guessed : IsGapOf exact c.guess.new.self = subst (IsGapOf exact) (sym c.guess.ensures.same) (gap_grown exact third c.guess.new.self.graph c.guess.ensures.grows grown) in
    subst (IsGapOf exact) (sym c.next_sum.ensures.same) (gap_grown exact c.guess.new.self c.next_sum.new.self.graph c.next_sum.ensures.grows guessed)

pub returns-clause-next : goal.returns-clause-next
returns-clause-next g c =
    let s = c.self-2.inside in
    let approx = c.args.nets.now.approx in
    let low = c.in_ok-low.low.items in
    let sum = c.in_ok-step.step.sum in
    let last = c.next_sum.new.self.graph in
    let made : GapValue =
    record { graph = last; inputs = s.inputs.items; places = s.places; exact_low = s.exact_low.items; member_low = s.member_low.items; sum = s.sum } in
    let guessed = c.guess.new.self in
    let same : c.next_sum.new.self ≡ made =
    c.next_sum.ensures.same
    ∙ ap (λ (gap : GapValue). record { graph = last; inputs = gap.inputs; places = gap.places; exact_low = gap.exact_low; member_low = gap.member_low; sum = gap.sum }) c.guess.ensures.same in
    let at_low : AreLowestOf c.low_literals-2.new.g approx s.places s.inputs.items low =
    subst (λ (ls : List ℕ). AreLowestOf c.low_literals-2.new.g approx s.places ls low) c.deref-3.ensures.value
    (subst (λ (N : NetValue). AreLowestOf c.low_literals-2.new.g N s.places c.deref-3.result.now low) c.approx.ensures.value c.in_ok-low.ensures.low) in
    let at_step : IsStep last s.places s.exact_low.items low sum =
    subst (λ (gap : GapValue). IsStep last gap.places gap.exact_low low sum) c.guess.ensures.same
    (subst (λ (ls : List ℕ). IsStep last guessed.places guessed.exact_low ls sum) c.deref-5.ensures.value c.in_ok-step.ensures.step) in
    let up = grows_trans c.low_literals-2.new.g guessed.graph last c.guess.ensures.grows c.next_sum.ensures.grows in
    let is : IsNextOf made approx low sum = record { low = lowest_later c.low_literals-2.new.g last approx s.places s.inputs.items low up at_low; step = at_step } in
    subst (λ (gap : GapValue). IsNextOf gap approx low sum) (sym same) is
