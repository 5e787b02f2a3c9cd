use Rattle.std.proofs.Common.{◌≡◌, List, ℕ, ◌-◌, ◌^◌, ◌++◌, ap, subst, ◌∙◌}
use Rattle.std.specs.Prelude.{replicate, IfSome}
use Rattle.literal_sums.specs.Words.{IsWordOf}
use Rattle.graph_questions.specs.LowPlaces.{IsApartLiteral}
use Rattle.graph_questions.proofs.Beyond.{beyond_is}
use Rattle.graph_questions.proofs.gap_question.beyond_literal.Goals as goal

pub returns-clause-beyond : goal.returns-clause-beyond
returns-clause-beyond c =
    let p = c.args.places in
    let k = c.args.k in
    let word = c.in-Some.word.items in
    let both = c.in_ok-both.both.items in
    let told = subst (λ o. IfSome o (λ w. IsWordOf c.word_of.new.g c.args.sum.now (32 - p) w.items)) c.in-Some.is c.in_ok-word.ensures.ok in
    let pair : both ≡ word ++ replicate p 0 =
    c.in_ok-both.ensures ∙ (λ i. c.deref.ensures.value i ++ c.deref-2.ensures.value i)
    ∙ ap (λ (l : List ℕ). word ++ l) (c.in_ok-zeros.ensures.items_if_clones_equal (λ y h. h) ∙ ap (replicate p) c.constant.ensures) in
    let first = subst (λ (l : List ℕ). IsApartLiteral c.apart_literal.new.g l p k c.in_ok-beyond.beyond) c.deref-3.ensures.value c.in_ok-beyond.ensures.apart in
    let most = ap (λ n. n - 1 - k) c.power_of_two.ensures in
    let second = subst (λ (l : List ℕ). IsApartLiteral c.apart_literal-2.new.g l p (2 ^ p - 1 - k) c.in_ok-around.around) c.deref-4.ensures.value
    (subst (λ n. IsApartLiteral c.apart_literal-2.new.g c.deref-4.result.now p n c.in_ok-around.around) most c.in_ok-around.ensures.apart) in
    beyond_is c.word_of.new.g c.apart_literal.new.g c.apart_literal-2.new.g c.and.new.self c.args.sum.now word both p k
    c.in_ok-beyond.beyond c.in_ok-around.around c.opposite.result c.in_ok-and.field-0
    c.in_ok-beyond.ensures.grows c.in_ok-around.ensures.grows c.and.ensures.grows c.requires.few told pair first second c.opposite.ensures.value c.in_ok-and.ensures.ok
