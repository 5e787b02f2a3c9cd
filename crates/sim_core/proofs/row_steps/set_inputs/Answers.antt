use Rattle.std.proofs.Common.{◌≡◌, ℕ, ◌+◌, ◌*◌, ◌≤◌, List, Bool, length, take, drop, ap, sym, subst, ◌∙◌, arith}
use Rattle.std.proofs.lemmas.List.{length-take-le}
use Rattle.lane_bits.specs.Rows.{word_count}
use Rattle.sim_core.proofs.Values.{HaveInputs, inputs_none, inputs_more, inputs_done}
use Rattle.sim_core.proofs.row_steps.set_inputs.Goals as goal

-- there is room for the first row
first_words : (rows : List ℕ) (inputs words count all : ℕ) → words ≡ word_count count → count ≡ all → (1 + inputs) * word_count all ≤ length rows → length (take words rows) ≡ words
first_words rows inputs words count all is same room =
    let e : words ≡ word_count all = is ∙ ap word_count same in
    let more : inputs * words ≡ inputs * word_count all = ap (λ w. inputs * w) e in
    length-take-le words rows (omega (arith, room, e, more))

pub loop-i-init : goal.loop-i-init
loop-i-init c =
    inputs_none c.args.patterns.now.vectors c.word_count-words.result _ c.fill.new.self (drop c.word_count-words.result c.args.rows.now) (c.fill.ensures.after (λ y e. e))
    (first_words c.args.rows.now c.args.patterns.now.inputs c.word_count-words.result c.count.result (length c.args.patterns.now.vectors) c.word_count-words.ensures c.count.ensures.value c.requires)

pub loop-i-preserved : goal.loop-i-preserved
loop-i-preserved c =
    inputs_more c.args.patterns.now.vectors c.word_count-words.result _ c.loop-i.i c.row.result.now c.loop-i.rows c.set_row.new.rows
    (c.row.ensures.words ∙ ap word_count (sym c.count.ensures.value) ∙ sym c.word_count-words.ensures) c.row.ensures.bits (omega arith) c.set_row.ensures.bits c.set_row.ensures.before
    c.loop-i.invariant

-- the words of the patterns, by the terms of the code
done : (vectors : List (List Bool)) (words count m i : ℕ) (rows : List ℕ) → count ≡ length vectors → words ≡ word_count count → m ≤ i → i ≤ m → HaveInputs vectors words rows i
    → HaveInputs vectors (word_count (length vectors)) rows m
done vectors words count m i rows same wide past within have =
    let e : words ≡ word_count (length vectors) = wide ∙ ap word_count same in
    let all : i ≡ m = omega (arith, past, within) in
    subst (λ (w : ℕ). HaveInputs vectors w rows m) e (subst (HaveInputs vectors words rows) all have)

pub returns : goal.returns
returns c = λ g graph same.
    inputs_done g c.args.patterns.now.vectors c.loop-i.rows c.args.patterns.now.inputs graph same
    (done c.args.patterns.now.vectors c.word_count-words.result c.count.result c.args.patterns.now.inputs c.loop-i.i c.loop-i.rows c.count.ensures.value c.word_count-words.ensures
    (omega (arith, c.loop-i-test.false, c.inputs-i-end.ensures.value)) (omega (arith, c.loop-i.auto.i-end, c.inputs-i-end.ensures.value)) c.loop-i.invariant)
