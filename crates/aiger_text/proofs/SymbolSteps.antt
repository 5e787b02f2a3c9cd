-- Symbols, one line further, and the texts that they give.
use Rattle.std.proofs.Common.{◌≡◌, ℕ, ◌+◌, ◌<◌, ◌≤◌, Bool, true, false, cond, ◌==◌, ◌&&◌, ltb, List, [], ◌∷◌, length, get_or, set, drop, take, map, Option, Some, None, Result, Ok, Err, refl, ap, sym}
use Rattle.std.proofs.Common.{subst, ◌∙◌, inl, inr, ◌⊎◌, arith}
use Rattle.std.specs.List.{position, position_or_len, range_with_len}
use Rattle.std.proofs.lemmas.Bool.{cases_eq, eq-eqb, ne_eqb, ltb-true, lt-ltb, le-ltb}
use Rattle.std.proofs.lemmas.List.{drop_all, drop_more, get_or-set_same, get_or-set_other, length-set}
use Rattle.std.proofs.lemmas.List.FromFn.{fill_by_all, length-map-range_with_len, get_or-map-range_with_len}
use Rattle.std.proofs.lemmas.List.Sums.{position_or_len_is}
use Rattle.std.proofs.lemmas.Option.{none-some, same_Some}
use Rattle.semantics.specs.Texts.{Bytes}
use Rattle.aiger_semantics.specs.declared.header.Header.{Header}
use Rattle.aiger_semantics.specs.TextLines.{number_to}
use Rattle.aiger_semantics.specs.CircuitLines.{Refusal, wrong_symbol, most_in_header, Symbol, places, symbol_at, symbol_of, symbol_text, is_new, symbols_after, begins_comment, before_comment}
use Rattle.aiger_semantics.specs.CircuitLines.{name_at, names_at}
use Rattle.aiger_text.specs.SymbolTexts.{AreTextsOf, name_or}

-- ---- the place of a symbol

-- what a symbol of a letter has for its letter, and a place below the count
pub record IsPlaced (letter count : ℕ) (s : Symbol) : Type 0 where
  pub letter_is : s.letter ≡ letter
  pub within : s.place < count

number-placed : (letter count : ℕ) (text : Bytes) (found : Option ℕ) (s : Symbol)
    → elim found [ None ↦ None | Some place ↦ cond (ltb place count) (Some (record { letter = letter; place = place; text = text })) None ] ≡ Some s → IsPlaced letter count s
number-placed letter count text None s e = absurd (none-some s e)
number-placed letter count text (Some place) s e = at_test (ltb place count) refl e
  where
    at_test : (t : Bool) → ltb place count ≡ t → cond t (Some (record { letter = letter; place = place; text = text })) None ≡ Some s → IsPlaced letter count s
    at_test true is k = subst (IsPlaced letter count) (same_Some _ _ k) (record { letter_is = refl; within = ltb-true place count is })
    at_test false is k = absurd (none-some s k)

at-placed : (letter count : ℕ) (word text : Bytes) (s : Symbol) → symbol_at letter count word text ≡ Some s → IsPlaced letter count s
at-placed letter count word text s e = at_test (length text == 0) e
  where
    at_test : (t : Bool)
        → cond t None (elim (number_to most_in_header word) [ None ↦ None | Some place ↦ cond (ltb place count) (Some (record { letter = letter; place = place; text = text })) None ]) ≡ Some s
        → IsPlaced letter count s
    at_test true k = absurd (none-some s k)
    at_test false k = number-placed letter count text (number_to most_in_header word) s k

pub symbol-placed : (h : Header) (line : Bytes) (s : Symbol) → symbol_of h line ≡ Some s → s.place < places h s.letter
symbol-placed h [] s e = absurd (none-some s e)
symbol-placed h (letter ∷ rest) s e = at_blank (position (λ b. b == 32) rest) e
  where
    at_blank : (found : Option ℕ) → elim found [ None ↦ None | Some at ↦ symbol_at letter (places h letter) (take at rest) (drop (at + 1) rest) ] ≡ Some s → s.place < places h s.letter
    at_blank None k = absurd (none-some s k)
    at_blank (Some at) k =
        let is = at-placed letter (places h letter) (take at rest) (drop (at + 1) rest) s k in
        subst (λ l. s.place < places h l) (sym is.letter_is) is.within

-- ---- the texts of symbols

-- a symbol gives its place a text
pub text-given : (symbols : List Symbol) (letter count : ℕ) (old : List Bytes) (s : Symbol) → s.letter ≡ letter → s.place < count → AreTextsOf symbols letter count old
    → AreTextsOf (s ∷ symbols) letter count (set old s.place s.text)
text-given symbols letter count old s same within h = record {
  size = length-set old s.place s.text ∙ h.size;
  each = λ place low. at_place place low (cases_eq place s.place);
}
  where
    at_place : (place : ℕ) → place < count → (place ≡ s.place) ⊎ (place ≡ s.place → ⊥)
        → get_or (set old s.place s.text) place [] ≡ cond ((s.letter == letter) && (s.place == place)) s.text (symbol_text symbols letter place)
    at_place place low (inl is) =
        let fits : s.place < length old = omega (arith, within, h.size) in
        ap (λ k. get_or (set old s.place s.text) k []) is ∙ get_or-set_same old s.place s.text [] fits
        ∙ sym (ap (λ t. cond (t && (s.place == place)) s.text (symbol_text symbols letter place)) (eq-eqb s.letter letter same)
        ∙ ap (λ t. cond t s.text (symbol_text symbols letter place)) (eq-eqb s.place place (sym is)))
    at_place place low (inr other) =
        get_or-set_other old s.place place s.text [] other ∙ h.each place low
        ∙ sym (ap (λ t. cond (t && (s.place == place)) s.text (symbol_text symbols letter place)) (eq-eqb s.letter letter same)
        ∙ ap (λ t. cond t s.text (symbol_text symbols letter place)) (ne_eqb s.place place (λ e. other (sym e))))

-- and the texts for the other letter stay
pub text-kept : (symbols : List Symbol) (letter count : ℕ) (old : List Bytes) (s : Symbol) → (s.letter ≡ letter → ⊥) → AreTextsOf symbols letter count old → AreTextsOf (s ∷ symbols) letter count old
text-kept symbols letter count old s other h = record {
  size = h.size;
  each = λ place low. h.each place low ∙ sym (ap (λ t. cond (t && (s.place == place)) s.text (symbol_text symbols letter place)) (ne_eqb s.letter letter other));
}

-- ---- one line further

module _ (h : Header) (first : ℕ) (lines : List Bytes) where
  -- what the lines behind the first k make of the symbols so far
  abbrev pub rest_symbols : ℕ → List Symbol → Result (List Symbol) Refusal
  rest_symbols k so_far = symbols_after h (first + k) so_far (drop k lines)

  at_line : (k : ℕ) (line : Bytes) (so_far : List Symbol) → k < length lines → line ≡ get_or lines k line
      → rest_symbols k so_far
      ≡ elim (symbol_of h line) [
        | None ↦ Err (wrong_symbol (first + k))
        | Some s ↦ cond (is_new so_far s) (symbols_after h (first + k + 1) (s ∷ so_far) (drop (k + 1) lines)) (Err (wrong_symbol (first + k)))
      ]
  at_line k line so_far within is =
      ap (symbols_after h (first + k) so_far) (drop_more lines k line within ∙ ap (λ w. w ∷ drop (k + 1) lines) (sym is))

  at_symbol : (k : ℕ) (line : Bytes) (s : Symbol) (so_far : List Symbol) → k < length lines → line ≡ get_or lines k line → symbol_of h line ≡ Some s
      → rest_symbols k so_far ≡ cond (is_new so_far s) (symbols_after h (first + k + 1) (s ∷ so_far) (drop (k + 1) lines)) (Err (wrong_symbol (first + k)))
  at_symbol k line s so_far within is says =
      at_line k line so_far within is
      ∙ ap (λ found. elim found [
        | None ↦ Err (wrong_symbol (first + k))
        | Some t ↦ cond (is_new so_far t) (symbols_after h (first + k + 1) (t ∷ so_far) (drop (k + 1) lines)) (Err (wrong_symbol (first + k)))
      ]) says

  pub symbols-next : (k : ℕ) (line : Bytes) (s : Symbol) (so_far : List Symbol) (whole : Result (List Symbol) Refusal) → k < length lines → line ≡ get_or lines k line → symbol_of h line ≡ Some s
      → is_new so_far s ≡ true → rest_symbols k so_far ≡ whole → rest_symbols (k + 1) (s ∷ so_far) ≡ whole
  symbols-next k line s so_far whole within is says new same =
      let number : first + (k + 1) ≡ first + k + 1 = omega arith in
      ap (λ n. symbols_after h n (s ∷ so_far) (drop (k + 1) lines)) number
      ∙ ap (λ t. cond t (symbols_after h (first + k + 1) (s ∷ so_far) (drop (k + 1) lines)) (Err (wrong_symbol (first + k)))) (sym new)
      ∙ sym (at_symbol k line s so_far within is says) ∙ same

  pub symbols-none : (k : ℕ) (line : Bytes) (so_far : List Symbol) (whole : Result (List Symbol) Refusal) → k < length lines → line ≡ get_or lines k line → symbol_of h line ≡ None
      → rest_symbols k so_far ≡ whole → whole ≡ Err (wrong_symbol (first + k))
  symbols-none k line so_far whole within is says same =
      sym same ∙ at_line k line so_far within is
      ∙ ap (λ found. elim found [
        | None ↦ Err (wrong_symbol (first + k))
        | Some t ↦ cond (is_new so_far t) (symbols_after h (first + k + 1) (t ∷ so_far) (drop (k + 1) lines)) (Err (wrong_symbol (first + k)))
      ]) says

  pub symbols-again : (k : ℕ) (line : Bytes) (s : Symbol) (so_far : List Symbol) (whole : Result (List Symbol) Refusal) → k < length lines → line ≡ get_or lines k line → symbol_of h line ≡ Some s
      → is_new so_far s ≡ false → rest_symbols k so_far ≡ whole → whole ≡ Err (wrong_symbol (first + k))
  symbols-again k line s so_far whole within is says old same =
      sym same ∙ at_symbol k line s so_far within is says
      ∙ ap (λ t. cond t (symbols_after h (first + k + 1) (s ∷ so_far) (drop (k + 1) lines)) (Err (wrong_symbol (first + k)))) old

  pub symbols-end : (k : ℕ) (so_far : List Symbol) (whole : Result (List Symbol) Refusal) → length lines ≤ k → rest_symbols k so_far ≡ whole → whole ≡ Ok so_far
  symbols-end k so_far whole past same = sym same ∙ ap (symbols_after h (first + k) so_far) (drop_all k lines past)

  pub symbols-start : rest_symbols 0 [] ≡ symbols_after h first [] lines
  symbols-start = let start : first + 0 ≡ first = omega arith in ap (λ n. symbols_after h n [] lines) start

-- ---- the line that ends the reading

pub comment-at : (lines : List Bytes) (k : ℕ) (d : Bytes) → k < length lines → ((j : ℕ) → j < k → begins_comment (get_or lines j d) ≡ false) → begins_comment (get_or lines k d) ≡ true
    → before_comment lines ≡ take k lines
comment-at lines k d within before at =
    let place : position_or_len begins_comment lines ≡ k = position_or_len_is begins_comment lines k d (omega arith) before (λ low. at) in
    let found : position begins_comment lines ≡ Some k =
    ap (λ j. cond (ltb j (length lines)) (Some j) None) place ∙ ap (λ t. cond t (Some k) None) (lt-ltb k (length lines) within) in
    ap (λ (o : Option ℕ). elim o [ None ↦ lines | Some at ↦ take at lines ]) found

pub no-comment : (lines : List Bytes) (k : ℕ) (d : Bytes) → length lines ≡ k → ((j : ℕ) → j < k → begins_comment (get_or lines j d) ≡ false) → before_comment lines ≡ lines
no-comment lines k d size before =
    let place : position_or_len begins_comment lines ≡ length lines
    = position_or_len_is begins_comment lines (length lines) d (omega arith) (λ j low. before j (omega (arith, low, size))) (λ low. absurd (omega (arith, low))) in
    let past : ltb (length lines) (length lines) ≡ false = le-ltb (length lines) (length lines) (omega arith) in
    let none : position begins_comment lines ≡ None =
    ap (λ j. cond (ltb j (length lines)) (Some j) None) place ∙ ap (λ t. cond t (Some (length lines)) None) past in
    ap (λ (o : Option ℕ). elim o [ None ↦ lines | Some at ↦ take at lines ]) none

-- ---- names

-- the names that texts make are those of the symbols
pub names-given : (symbols : List Symbol) (letter n : ℕ) (given : List Bytes) → AreTextsOf symbols letter n given
    → map (λ k. name_or letter k (get_or given k [])) (range_with_len 0 n) ≡ names_at symbols letter n
names-given symbols letter n given h =
    let f : ℕ → Bytes = λ k. name_or letter k (get_or given k []) in
    fill_by_all (name_at symbols letter) (map f (range_with_len 0 n)) n [] (length-map-range_with_len f 0 n)
    (λ k low. get_or-map-range_with_len f 0 n k k [] low (omega arith) ∙ ap (name_or letter k) (h.each k low))
