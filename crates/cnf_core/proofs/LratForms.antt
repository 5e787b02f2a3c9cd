-- A token that is read byte by byte comes to the same as its bytes as a whole.
use Rattle.std.proofs.Common.{◌≡◌, ℕ, ◌+◌, ◌-◌, ◌*◌, ◌^◌, ◌==◌, ◌<◌, ◌≤◌, [], ◌∷◌, true, false, Bool, refl, ap, sym, ◌∙◌, Some, arith}
use Rattle.std.specs.Prelude.{if◌then◌else◌, nat_lt, fold}
use Rattle.std.specs.List.{list_all}
use Rattle.std.proofs.lemmas.Bool.{le-ltb, lt-ltb, ltb-true, ltb-false}
use Rattle.semantics.specs.Texts.{Bytes}
use Rattle.semantics.specs.Decimal.{is_digit}
use Rattle.proof_semantics.specs.declared.lrat_word.LratWord.{LratWord}
use Rattle.proof_semantics.specs.declared.lrat_word.LratWord.TheVariants.{Letter, Number, Malformed}
use Rattle.proof_semantics.specs.LratTokens.{number_word, digits_word, letter_word, token_word}
use Rattle.cnf_core.specs.declared.held_word.HeldWord.{HeldWord}
use Rattle.cnf_core.specs.declared.held_word.HeldWord.TheVariants as form
use Rattle.cnf_core.specs.LratScanning.{whole, number_with, held_with, ended_word}

ended-whole : (word : LratWord) → ended_word (whole word) ≡ Some word
ended-whole Letter = refl
ended-whole (Number negative size) = refl
ended-whole Malformed = refl

malformed : (cs : Bytes) → fold held_with (whole Malformed) cs ≡ whole Malformed
malformed [] = refl
malformed (c ∷ cs) = malformed cs

abbrev more_digits : ℕ → Bytes → ℕ
more_digits n cs = fold (λ m c. 10 * m + (c - 48)) n cs

more_digits-ge : (n : ℕ) (cs : Bytes) → n ≤ more_digits n cs
more_digits-ge n [] = omega arith
more_digits-ge n (c ∷ cs) = omega (arith, more_digits-ge (10 * n + (c - 48)) cs)

-- a number with these bytes behind it
abbrev longer : Bool → ℕ → Bytes → LratWord
longer negative n cs = if list_all is_digit cs then number_word negative (more_digits n cs) else Malformed

longer-large : (negative : Bool) (n : ℕ) (cs : Bytes) → 2 ^ 63 ≤ n → longer negative n cs ≡ Malformed
longer-large negative n cs h =
    let e : number_word negative (more_digits n cs) ≡ Malformed = rw (le-ltb (more_digits n cs) (2 ^ 63) (omega (arith, more_digits-ge n cs))) refl in
    elim (list_all is_digit cs) as (λ b. (if b then number_word negative (more_digits n cs) else Malformed) ≡ Malformed) [ true ↦ e | false ↦ refl ]

-- what the bytes behind a number below the limit come to
abbrev FoldsFrom : Bool → Bytes → Type 0
FoldsFrom negative cs = (k : ℕ) → k < 2 ^ 63 → fold held_with (whole (Number negative k)) cs ≡ whole (longer negative k cs)

fold-limit : (negative : Bool) (m : ℕ) (cs : Bytes) → FoldsFrom negative cs → (b : Bool) → nat_lt m (2 ^ 63) ≡ b
    → fold held_with (whole (number_word negative m)) cs ≡ whole (longer negative m cs)
fold-limit negative m cs rest true b = rw b (rest m (ltb-true m (2 ^ 63) b))
fold-limit negative m cs rest false b = rw b (malformed cs ∙ ap whole (sym (longer-large negative m cs (ltb-false m (2 ^ 63) b))))

fold-digit : (negative : Bool) (n c : ℕ) (cs : Bytes) → FoldsFrom negative cs → (d : Bool) → is_digit c ≡ d → fold held_with (number_with negative n c) cs ≡ whole (longer negative n (c ∷ cs))
fold-digit negative n c cs rest true d =
    let m = 10 * n + (c - 48) in
    let e : number_with negative n c ≡ whole (number_word negative m) = rw d refl in
    let f : longer negative n (c ∷ cs) ≡ longer negative m cs = rw d refl in
    ap (λ (w : HeldWord). fold held_with w cs) e ∙ fold-limit negative m cs rest (nat_lt m (2 ^ 63)) refl ∙ ap whole (sym f)
fold-digit negative n c cs rest false d =
    let e : number_with negative n c ≡ whole Malformed = rw d refl in
    let f : longer negative n (c ∷ cs) ≡ Malformed = rw d refl in
    ap (λ (w : HeldWord). fold held_with w cs) e ∙ malformed cs ∙ ap whole (sym f)

fold-number : (negative : Bool) (n : ℕ) (cs : Bytes) → n < 2 ^ 63 → fold held_with (whole (Number negative n)) cs ≡ whole (longer negative n cs)
fold-number negative n [] h = rw (lt-ltb n (2 ^ 63) h) refl
fold-number negative n (c ∷ cs) h = fold-digit negative n c cs (λ m less. fold-number negative m cs less) (is_digit c) refl

fold-letter : (cs : Bytes) → fold held_with (whole Letter) cs ≡ whole (letter_word cs)
fold-letter [] = refl
fold-letter (c ∷ cs) = malformed cs

fold-first : (negative : Bool) (c : ℕ) (cs : Bytes) → fold held_with (number_with negative 0 c) cs ≡ whole (digits_word negative (c ∷ cs))
fold-first negative c cs = fold-number negative 0 (c ∷ cs) (omega arith)

fold-minus : (cs : Bytes) → ended_word (fold held_with form.Minus cs) ≡ Some (digits_word true cs)
fold-minus [] = refl
fold-minus (c ∷ cs) = ap ended_word (fold-first true c cs) ∙ ended-whole (digits_word true (c ∷ cs))

pub word_is : (c : ℕ) (cs : Bytes) → ended_word (fold held_with form.Empty (c ∷ cs)) ≡ Some (token_word (c ∷ cs))
word_is c cs = at_letter (c == 100) where
  at_minus : (b : Bool) → ended_word (fold held_with (if b then form.Minus else number_with false 0 c) cs) ≡ Some (if b then digits_word true cs else digits_word false (c ∷ cs))
  at_minus true = fold-minus cs
  at_minus false = ap ended_word (fold-first false c cs) ∙ ended-whole (digits_word false (c ∷ cs))

  at_letter : (b : Bool) → ended_word (fold held_with (if b then form.Letter else (if c == 45 then form.Minus else number_with false 0 c)) cs)
      ≡ Some (if b then letter_word cs else (if c == 45 then digits_word true cs else digits_word false (c ∷ cs)))
  at_letter true = ap ended_word (fold-letter cs) ∙ ended-whole (letter_word cs)
  at_letter false = at_minus (c == 45)
