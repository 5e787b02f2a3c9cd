-- Lines of symbols that are written, read as the same names.
use Rattle.std.proofs.Common.{◌≡◌, ℕ, zero, suc, ◌+◌, ◌-◌, ◌^◌, ◌<◌, ◌≤◌, true, false, cond, ◌&&◌, ◌==◌, ltb, List, [], ◌∷◌, ◌++◌, map, length, take, drop, get_or, decimal, All, Some, None, Err, inl}
use Rattle.std.proofs.Common.{inr, refl, ap, sym, subst, ◌∙◌, arith}
use Rattle.std.specs.List.{range_with_len, join_with_byte, position, position_or_len}
use Rattle.std.proofs.lemmas.Bool.{cases_lt, cases_eq, ne_eqb, eq-eqb, lt-ltb, le-ltb}
use Rattle.std.proofs.lemmas.List.{length-append, get_or_append_left}
use Rattle.std.proofs.lemmas.List.Elements.{All-cons}
use Rattle.std.proofs.lemmas.List.FromFn.{fill_by_all}
use Rattle.std.proofs.lemmas.List.Sums.{position_or_len_is}
use Rattle.std.proofs.Math.Seq.{get_or-append_right, take-append_seam, drop-append-add}
use Rattle.semantics.specs.Texts.{Bytes}
use Rattle.semantics.specs.Net.{IsNameByte, IsName, name_of}
use Rattle.blif_semantics.specs.Statements.{is_name}
use Rattle.blif_semantics.proofs.Names.{is_name-from_IsName}
use Rattle.blif_semantics.proofs.WordLines.{IsWord, IsLine}
use Rattle.aiger_semantics.specs.declared.header.Header.{Header}
use Rattle.aiger_semantics.specs.Text.{symbol_line}
use Rattle.aiger_semantics.specs.TextLines.{number_to}
use Rattle.aiger_semantics.specs.CircuitLines.{wrong_symbol, most_in_header, Symbol, places, symbol_at, symbol_of, symbol_text, is_new, symbols_after, begins_comment, before_comment, name_at}
use Rattle.aiger_semantics.specs.CircuitLines.{names_at}
use Rattle.aiger_semantics.proofs.WrittenNumbers.{number_to-written, number_word, word_from_name}

-- the bytes of a symbol's line
abbrev pub symbol_bytes : ℕ → List Bytes → ℕ → Bytes
symbol_bytes letter names i = join_with_byte 32 (symbol_line letter names i)

abbrev pub named : ℕ → List Bytes → ℕ → Symbol
named letter names i = record { letter = letter; place = i; text = name_of names i }

-- ---- one line

module _ (h : Header) (letter : ℕ) (names : List Bytes) (formed : All IsName names) (count : places h letter ≡ length names) (few : length names ≤ most_in_header) where
  blank_at : (i : ℕ) → i < 2 ^ 64 → (name : Bytes) → position (λ b. b == 32) (decimal i ++ 32 ∷ name) ≡ Some (length (decimal i))
  blank_at i small name =
      let word : IsWord (decimal i) = number_word i small in
      let size : length (decimal i ++ 32 ∷ name) ≡ length (decimal i) + suc (length name) = length-append (decimal i) (32 ∷ name) in
      let first : length (decimal i) - length (decimal i) ≡ 0 = omega arith in
      let place : position_or_len (λ b. b == 32) (decimal i ++ 32 ∷ name) ≡ length (decimal i) =
      position_or_len_is (λ b. b == 32) (decimal i ++ 32 ∷ name) (length (decimal i)) 0 (omega (arith, size))
      (λ k low. ap (λ b. b == 32) (get_or_append_left (decimal i) (32 ∷ name) 0 k low)
      ∙ (let range = word.printable k 0 low in ne_eqb (get_or (decimal i) k 0) 32 (λ e. omega (arith, e, range.0))))
      (λ low. ap (λ b. b == 32) (get_or-append_right (decimal i) (32 ∷ name) (length (decimal i)) 0 (omega arith) ∙ ap (λ k. get_or (32 ∷ name) k 0) first)) in
      ap (λ k. cond (ltb k (length (decimal i ++ 32 ∷ name))) (Some k) None) place
      ∙ ap (λ t. cond t (Some (length (decimal i))) None) (lt-ltb (length (decimal i)) (length (decimal i ++ 32 ∷ name)) (omega (arith, size)))

  at_place : (i : ℕ) (name : Bytes) → i < length names → 0 < length name → symbol_at letter (places h letter) (decimal i) name ≡ Some (record { letter = letter; place = i; text = name })
  at_place i name low some =
      ap (λ t. cond t None (elim (number_to most_in_header (decimal i)) [
        | None ↦ None
        | Some place ↦ cond (ltb place (places h letter)) (Some (record { letter = letter; place = place; text = name })) None
      ])) (ne_eqb (length name) 0 (λ e. omega (arith, e, some)))
      ∙ ap (λ found. elim found [
        | None ↦ None
        | Some place ↦ cond (ltb place (places h letter)) (Some (record { letter = letter; place = place; text = name })) None
      ]) (number_to-written most_in_header i (omega (arith, low, few)) (omega (arith, low, few)))
      ∙ ap (λ t. cond t (Some (record { letter = letter; place = i; text = name })) None) (lt-ltb i (places h letter) (omega (arith, low, count)))

  pub symbol-read : (i : ℕ) → i < length names → symbol_of h (symbol_bytes letter names i) ≡ Some (named letter names i)
  symbol-read i low =
      let name : Bytes = name_of names i in
      let word : IsName name = formed i [] low in
      ap (λ found. elim found [
        | None ↦ None
        | Some at ↦ symbol_at letter (places h letter) (take at (decimal i ++ 32 ∷ name)) (drop (at + 1) (decimal i ++ 32 ∷ name))
      ]) (blank_at i (omega (arith, low, few)) name)
      ∙ ap (λ w. symbol_at letter (places h letter) w (drop (length (decimal i) + 1) (decimal i ++ 32 ∷ name))) (take-append_seam (decimal i) (32 ∷ name))
      ∙ ap (symbol_at letter (places h letter) (decimal i)) (drop-append-add (decimal i) (32 ∷ name) 1)
      ∙ at_place i name low word.not_empty

  pub symbol-formed : (i : ℕ) → IsNameByte letter → i < length names → IsLine (symbol_line letter names i)
  symbol-formed i byte low =
      let word : IsWord (decimal i) = number_word i (omega (arith, low, few)) in
      record {
        some = omega arith;
        words = (lettered byte (decimal i) word, (word_from_name (name_of names i) (formed i [] low), tt));
      }
    where
      lettered : IsNameByte letter → (bytes : Bytes) → IsWord bytes → IsWord (letter ∷ bytes)
      lettered b [] w = absurd (let s = w.some in omega (arith, s))
      lettered b (c ∷ cs) w =
          let place : suc (length (c ∷ cs) - 1) ≡ length (letter ∷ c ∷ cs) - 1 = omega arith in
          record {
            some = omega arith;
            printable = All-cons IsNameByte letter (c ∷ cs) b w.printable;
            ending = λ e. w.ending (ap (λ k. get_or (letter ∷ c ∷ cs) k 0) place ∙ e);
          }

-- ---- the lines of a letter

-- the names of the places before k, and no bytes from there on
abbrev pub name_before : List Bytes → ℕ → ℕ → Bytes
name_before names k place = cond (ltb place k) (name_of names place) []

abbrev pub AreBefore : ℕ → List Bytes → ℕ → List Symbol → Type 0
AreBefore letter names k symbols = (place : ℕ) → symbol_text symbols letter place ≡ name_before names k place

-- the symbols after a letter's lines: those of all its names, and for other letters what there was
pub record Continue (h : Header) (letter : ℕ) (names : List Bytes) (number : ℕ) (so_far : List Symbol) (lines rest : List Bytes) : Type 0 where
  pub symbols : List Symbol
  pub next : ℕ
  pub go : symbols_after h number so_far lines ≡ symbols_after h next symbols rest
  pub own : AreBefore letter names (length names) symbols
  pub others : (other place : ℕ) → (letter ≡ other → ⊥) → symbol_text symbols other place ≡ symbol_text so_far other place

one_more : (h : Header) (number : ℕ) (so_far : List Symbol) (line : Bytes) (lines : List Bytes) (s : Symbol) → symbol_of h line ≡ Some s → is_new so_far s ≡ true
    → symbols_after h number so_far (line ∷ lines) ≡ symbols_after h (number + 1) (s ∷ so_far) lines
one_more h number so_far line lines s is new =
    ap (λ found. elim found [
      | None ↦ Err (wrong_symbol number)
      | Some t ↦ cond (is_new so_far t) (symbols_after h (number + 1) (t ∷ so_far) lines) (Err (wrong_symbol number))
    ]) is
    ∙ ap (λ t. cond t (symbols_after h (number + 1) (s ∷ so_far) lines) (Err (wrong_symbol number))) new

before_same : (names : List Bytes) (k place : ℕ) → (place ≡ k → ⊥) → name_before names k place ≡ name_before names (k + 1) place
before_same names k place other =
    elim (cases_lt place k) [
      | inl low ↦ ap (λ t. cond t (name_of names place) []) (lt-ltb place k low ∙ sym (lt-ltb place (k + 1) (omega (arith, low))))
      | inr high ↦ ap (λ t. cond t (name_of names place) []) (le-ltb place k high ∙ sym (le-ltb place (k + 1) (omega (arith, high, other))))
    ]

before_more : (letter : ℕ) (names : List Bytes) (k : ℕ) (so_far : List Symbol) → AreBefore letter names k so_far → AreBefore letter names (k + 1) (named letter names k ∷ so_far)
before_more letter names k so_far before place =
    ap (λ t. cond (t && k == place) (name_of names k) (symbol_text so_far letter place)) (eq-eqb letter letter refl)
    ∙ elim (cases_eq k place) [
      | inl here ↦ ap (λ t. cond t (name_of names k) (symbol_text so_far letter place)) (eq-eqb k place here)
          ∙ ap (name_of names) here ∙ sym (ap (λ t. cond t (name_of names place) []) (lt-ltb place (k + 1) (omega (arith, here))))
      | inr other ↦ ap (λ t. cond t (name_of names k) (symbol_text so_far letter place)) (ne_eqb k place other)
          ∙ before place ∙ before_same names k place (λ e. other (sym e))
    ]

module _ (h : Header) (letter : ℕ) (names : List Bytes) (formed : All IsName names) (count : places h letter ≡ length names) (few : length names ≤ most_in_header) where
  fresh : (k : ℕ) (so_far : List Symbol) → AreBefore letter names k so_far → is_new so_far (named letter names k) ≡ true
  fresh k so_far before =
      ap (λ (t : Bytes). length t == 0) (before k ∙ ap (λ t. cond t (name_of names k) []) (le-ltb k k (omega arith)))

  pub letter-lines : (n k number : ℕ) (so_far : List Symbol) (rest : List Bytes) → k + n ≡ length names → AreBefore letter names k so_far
      → Continue h letter names number so_far (map (symbol_bytes letter names) (range_with_len k n) ++ rest) rest
  letter-lines zero k number so_far rest at before = record {
    symbols = so_far;
    next = number;
    go = refl;
    own = subst (λ m. AreBefore letter names m so_far) (let e : k ≡ length names = omega (arith, at) in e) before;
    others = λ other place ne. refl;
  }
  letter-lines (suc n) k number so_far rest at before =
      let more = letter-lines n (k + 1) (number + 1) (named letter names k ∷ so_far) rest (omega (arith, at)) (before_more letter names k so_far before) in
      record {
        symbols = more.symbols;
        next = more.next;
        go =
            one_more h number so_far (symbol_bytes letter names k) (map (symbol_bytes letter names) (range_with_len (k + 1) n) ++ rest) (named letter names k)
            (symbol-read h letter names formed count few k (omega (arith, at))) (fresh k so_far before)
            ∙ more.go;
        own = more.own;
        others = λ other place ne. more.others other place ne
            ∙ ap (λ t. cond (t && k == place) (name_of names k) (symbol_text so_far other place)) (ne_eqb letter other ne);
      }

-- ---- names and comments

pub names-read : (letter : ℕ) (names : List Bytes) (symbols : List Symbol) → All IsName names → AreBefore letter names (length names) symbols → names_at symbols letter (length names) ≡ names
names-read letter names symbols formed own =
    sym (fill_by_all (name_at symbols letter) names (length names) [] refl (λ k low. sym (
    ap (λ (t : Bytes). cond (is_name t) t (letter ∷ decimal k)) (own k ∙ ap (λ t. cond t (name_of names k) []) (lt-ltb k (length names) low))
    ∙ ap (λ t. cond t (name_of names k) (letter ∷ decimal k)) (is_name-from_IsName (name_of names k) (formed k [] low)))))

pub before_comment-none : (lines : List Bytes) → All (λ line. begins_comment line ≡ false) lines → before_comment lines ≡ lines
before_comment-none lines h =
    let place : position_or_len begins_comment lines ≡ length lines =
    position_or_len_is begins_comment lines (length lines) [] (omega arith) (λ k low. h k [] low) (λ low. absurd (omega (arith, low))) in
    let none : position begins_comment lines ≡ None =
    ap (λ k. cond (ltb k (length lines)) (Some k) None) place ∙ ap (λ t. cond t (Some (length lines)) None) (le-ltb (length lines) (length lines) (omega arith)) in
    ap (λ found. elim found [ None ↦ lines | Some at ↦ take at lines ]) none
