use Rattle.std.proofs.Common.{◌≡◌, [], ◌∷◌, ◌++◌, length, get_or, map, ap, sym, ◌∙◌, arith}
use Rattle.std.specs.List.{range_with_len}
use Rattle.std.proofs.lemmas.List.{get_or-map}
use Rattle.std.proofs.lemmas.List.FromFn.{map-range_with_len_more}
use Rattle.text_words.specs.Slices.{texts}
use Rattle.aiger_text.specs.SymbolTexts.{name_or}
use Rattle.aiger_text.proofs.SymbolSteps.{names-given}
use Rattle.aiger_text.proofs.place_names.place_names.Goals as goal

pub loop-place-preserved : goal.loop-place-preserved
loop-place-preserved c =
    let letter = c.args.letter in
    let given = c.args.given.now in
    let place = c.loop-place.place in
    c.in_ok-push.ensures.ok
    ∙ ap (λ l. l ++ c.in_ok-name_or.field-0 ∷ []) c.loop-place.invariant
    ∙ ap (λ n. map (λ k. name_or letter k (get_or (texts given) k [])) (range_with_len 0 place) ++ n ∷ [])
    (c.in_ok-name_or.ensures ∙ ap (name_or letter place) (sym (get_or-map (λ s. s.now) given place _ [] c.loop-place-test.true)))
    ∙ sym (map-range_with_len_more (λ k. name_or letter k (get_or (texts given) k [])) 0 place place (omega arith))

pub returns : goal.returns
returns c = λ symbols h.
    let size : c.loop-place.place ≡ length c.args.given.now = omega (arith, c.loop-place-test.false, c.loop-place.auto.place-end) in
    c.loop-place.invariant
    ∙ ap (λ n. map (λ k. name_or c.args.letter k (get_or (texts c.args.given.now) k [])) (range_with_len 0 n)) size
    ∙ names-given symbols c.args.letter (length c.args.given.now) (texts c.args.given.now) h
