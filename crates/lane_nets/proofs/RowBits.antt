-- Rows and blocks, bit by bit.
use Rattle.std.proofs.Common.{◌≡◌, ◌↔◌, ℕ, ◌+◌, ◌*◌, ◌/◌, ◌%◌, ◌^◌, ◌<◌, Bool, true, false, List, map, length, get_or, set, IsTrue, w64, All, ap, sym, subst, ◌∙◌, inl, inr, arith, get_or-set_same}
use Rattle.std.proofs.Common.{get_or-set_other}
use Rattle.std.specs.Prelude.{bit_or, ◌==◌}
use Rattle.std.proofs.lemmas.Nat.Bits.{bit_at_set_same, bit_at_set_other}
use Rattle.std.proofs.lemmas.Bool.{cases_eq, cases_lt, false_from_ne_true}
use Rattle.std.proofs.lemmas.List.{get_or_past, ext_get_or, length-map, get_or-map}
use Rattle.semantics.specs.Net.{NetValue, input_count, IsSound}
use Rattle.semantics.specs.Value.{value_of, outputs_of}
use Rattle.lane_bits.specs.Rows.{row_bit, word_count}
use Rattle.lane_bits.specs.Patterns.{pattern_bit}
use Rattle.lane_nets.specs.Words.{word_bit, values_at, HasValues}
use Rattle.lane_nets.specs.Blocks.{vector_at, IsRowWhere, IsWordWhere}
use Rattle.lane_nets.proofs.WordBits.{zero_bit}

-- bit b of word k
pub row_bit-word : (row : List ℕ) (k b : ℕ) → b < 64 → row_bit row (64 * k + b) ≡ word_bit (get_or row k 0) b
unfolding row_bit
row_bit-word row k b low =
    let at : (64 * k + b) / 64 ≡ k = omega arith in
    let bit : (64 * k + b) % 64 ≡ b = omega arith in
    (λ j. word_bit (get_or row (at j) 0) (bit j))

pub place_of : (p : ℕ) → 64 * (p / 64) + p % 64 ≡ p
place_of p = omega arith

-- one more input of block k
pub inputs_more : (vectors : List (List Bool)) (words row : List ℕ) (k n : ℕ) → n < length words → ((p : ℕ) → row_bit row p ≡ pattern_bit vectors n p)
    → ((b s : ℕ) → b < 64 → s < n → values_at words b s ≡ pattern_bit vectors s (64 * k + b))
    → (b s : ℕ) → b < 64 → s < n + 1 → values_at (set words n (get_or row k 0)) b s ≡ pattern_bit vectors s (64 * k + b)
inputs_more vectors words row k n room bits before b s low within =
    elim (cases_eq s n) [
      | inl e ↦
          rw (e, get_or-set_same words n (get_or row k 0) 0 room) (sym (row_bit-word row k b low) ∙ bits (64 * k + b))
      | inr other ↦ rw (get_or-set_other words n s (get_or row k 0) 0 other) (before b s low (omega arith))
    ]

map-same : (f g : ℕ → Bool) (xs : List ℕ) → All (λ s. f s ≡ g s) xs → map f xs ≡ map g xs
map-same f g xs h =
    ext_get_or false (map f xs) (map g xs) (length-map xs f ∙ sym (length-map xs g))
    (λ i low.
    let within : i < length xs = omega (arith, length-map xs f, low) in
    get_or-map f xs i 0 false within ∙ h i 0 within ∙ sym (get_or-map g xs i 0 false within))

-- outputs, from the values of the signals
pub outputs_from_values : (N : NetValue) (words : List ℕ) (b : ℕ) (x : List Bool) → IsSound N → HasValues N words b x → map (values_at words b) N.outputs ≡ outputs_of N x
unfolding outputs_of
outputs_from_values N words b x sound values =
    map-same (values_at words b) (value_of (input_count N) N.tables x) N.outputs (λ k d low. values _ (sound.outputs_are_signals k d low))

-- ---- a word that is found bit by bit

pub over_set : (P : ℕ → Type 0) (over b : ℕ) → b < 64 → P b → ((c : ℕ) → c < 64 → IsTrue (word_bit over c) ↔ ((c < b) × P c))
    → (c : ℕ) → c < 64 → IsTrue (word_bit (bit_or over (1 * 2 ^ b % 2 ^ 64)) c) ↔ ((c < b + 1) × P c)
over_set P over b low holds before c within =
    elim (cases_eq c b) [
      | inl e ↦
          let set : word_bit (bit_or over (1 * 2 ^ b % 2 ^ 64)) c ≡ true =
          ap (word_bit (bit_or over (1 * 2 ^ b % 2 ^ 64))) e ∙ ap (λ n. n == 1) (bit_at_set_same w64 over b low) in
          (λ is. (omega arith, subst P (sym e) holds), λ h. set)
      | inr other ↦
          let same : word_bit (bit_or over (1 * 2 ^ b % 2 ^ 64)) c ≡ word_bit over c = ap (λ n. n == 1) (bit_at_set_other w64 over b low c other) in (
            λ is. (let old = (before c within).0 (sym same ∙ is) in (omega (arith, old.0), old.1)),
            λ h. same ∙ (before c within).1 (omega (arith, h.0), h.1),
          )
    ]

pub over_left : (P : ℕ → Type 0) (over b : ℕ) → ¬ P b → ((c : ℕ) → c < 64 → IsTrue (word_bit over c) ↔ ((c < b) × P c))
    → (c : ℕ) → c < 64 → IsTrue (word_bit over c) ↔ ((c < b + 1) × P c)
over_left P over b fails before c within = (
  λ is. (let old = (before c within).0 is in (omega (arith, old.0), old.1)),
  λ h. elim (cases_eq c b) [
    | inl e ↦ absurd (fails (subst P e h.1))
    | inr other ↦ (before c within).1 (omega (arith, h.0), h.1)
  ],
)

-- ---- a row that is found word by word

-- all words
pub row_where : (vectors : List (List Bool)) (P : List Bool → Type 0) (row : List ℕ) → length row ≡ word_count (length vectors)
    → ((k : ℕ) → k < length row → IsWordWhere vectors P k (get_or row k 0)) → IsRowWhere vectors P row
unfolding row_bit
row_where vectors P row words each = record {
  words = words;
  bits = λ p low.
      let k : ℕ = p / 64 in
      let b : ℕ = p % 64 in
      let word = each k (omega (arith, words)) b (omega arith) in (
        λ set. subst (λ (q : ℕ). P (vector_at vectors q)) (place_of p) (word.0 set).1,
        λ holds. word.1 (omega arith, subst (λ (q : ℕ). P (vector_at vectors q)) (sym (place_of p)) holds),
      );
  clear = λ p past.
      elim (cases_lt (p / 64) (length row)) [
        | inl low ↦ false_from_ne_true (word_bit (get_or row (p / 64) 0) (p % 64)) (λ set. (let h = (each (p / 64) low (p % 64) (omega arith)).0 set in omega (arith, h.0)))
        | inr high ↦ ap (λ w. word_bit w (p % 64)) (get_or_past row (p / 64) 0 high) ∙ zero_bit (p % 64)
      ];
}
