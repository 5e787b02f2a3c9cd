use Rattle.std.proofs.Common.{List, ℕ, ◌-◌, ◌^◌, ap, subst}
use Rattle.std.proofs.lemmas.Result.{IfOk-weaker}
use Rattle.graph_questions.specs.Levels.{question_of}
use Rattle.graph_questions.specs.LowPlaces.{IsApartLiteral}
use Rattle.graph_questions.proofs.LowPlaces.{low_over}
use Rattle.graph_questions.proofs.low_places.low_literal.Goals as goal

pub returns-clause-over : goal.returns-clause-over
returns-clause-over c =
    let q = question_of c.args.nets.now c.args.level.now in
    let p = c.args.places in
    let both = c.in_ok-both.both.items in
    let first = subst (λ (l : List ℕ). IsApartLiteral c.apart_literal.new.g l p q.k c.in_ok-beyond.beyond) c.deref.ensures.value c.in_ok-beyond.ensures.apart in
    let most = ap (λ n. n - 1 - q.k) c.power_of_two.ensures in
    let second = subst (λ (l : List ℕ). IsApartLiteral c.apart_literal-2.new.g l p (2 ^ p - 1 - q.k) c.in_ok-around.around) c.deref-2.ensures.value
    (subst (λ k. IsApartLiteral c.apart_literal-2.new.g c.deref-2.result.now p k c.in_ok-around.around) most c.in_ok-around.ensures.apart) in
    IfOk-weaker c.and.result _ _
    (λ l joined. low_over c.low_outputs.new.g c.apart_literal.new.g c.apart_literal-2.new.g c.and.new.self q p c.args.inputs.now both c.in_ok-beyond.beyond c.in_ok-around.around c.opposite.result l
    c.in_ok-beyond.ensures.grows c.in_ok-around.ensures.grows c.and.ensures.grows c.exact.ensures.candidate c.requires.count c.requires.enough c.in_ok-both.ensures.low
    first second c.opposite.ensures.value joined)
    c.and.ensures.ok
