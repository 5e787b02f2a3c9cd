use Rattle.std.proofs.Common.{◌≡◌, ℕ, ◌+◌, ◌-◌, ◌*◌, ◌<◌, ◌≤◌, Bool, true, false, ◌&&◌, if◌then◌else◌, [], ◌∷◌, length, drop, get_or, fold, nat_le, Some, None, refl, ap, sym, arith}
use Rattle.std.proofs.lemmas.List.{at_drop_more}
use Rattle.std.proofs.lemmas.Bool.Decides.{nat_tests}
use Rattle.semantics.specs.Texts.{Bytes}
use Rattle.job_semantics.specs.Job.{number_from_to}
use Rattle.semantics.specs.Decimal.{digits_number, is_decimal}
use Rattle.decimal_words.proofs.decimal.number_from_to.Goals as goal

-- further digits make no number smaller
fold_grows : (n : ℕ) (cs : Bytes) → n ≤ fold (λ n c. 10 * n + (c - 48)) n cs
fold_grows n [] = omega arith
fold_grows n (c ∷ cs) = omega (arith, fold_grows (10 * n + (c - 48)) cs)

none_if_false : (a b c : Bool) (n : ℕ) → c ≡ false → (if a && (b && c) then Some n else None) ≡ None
none_if_false true true c n is = ap (λ t. if t then Some n else None) is
none_if_false true false c n is = refl
none_if_false false b c n is = refl

above_is_none : (low high : ℕ) (word : Bytes) → high < digits_number word → number_from_to low high word ≡ None
above_is_none low high word above =
    none_if_false (is_decimal word) (nat_le low (digits_number word)) (nat_le (digits_number word) high) (digits_number word)
    (grind (arith, nat_tests))

-- once the number is above the limit, the word's number is
stays_above : (low high : ℕ) (word : Bytes) (i n : ℕ) (d : ℕ) → i < length word →
    fold (λ n c. 10 * n + (c - 48)) n (drop i word) ≡ digits_number word → high < 10 * n + (get_or word i d - 48) → number_from_to low high word ≡ None
stays_above low high word i n d inside is above =
    let next = at_drop_more (fold (λ n c. 10 * n + (c - 48)) n) word i d inside in
    let grows = fold_grows (10 * n + (get_or word i d - 48)) (drop (i + 1) word) in
    above_is_none low high word (omega (arith, is, next, grows))

pub returns-then-number-high : goal.returns-then-number-high
returns-then-number-high c =
    sym (stays_above c.args.low c.args.high c.args.word.now c.loop-digit.digit-index c.loop-digit.number 0 c.loop-digit-test.true c.loop-digit.invariant.value (omega (arith, c.from.ensures)))
