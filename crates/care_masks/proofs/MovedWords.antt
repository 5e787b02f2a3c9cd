-- The value of a moved table, from the rows of the table.
use Rattle.std.proofs.Common.{◌≡◌, ℕ, zero, suc, ◌+◌, ◌-◌, ◌<◌, Bool, true, false, not, cond, ◌&&◌, ◌||◌, List, [], ◌∷◌, length, set, take, drop, refl, ap, sym, ◌∙◌, add-one, arith}
use Rattle.std.specs.Prelude.{bit_and, bit_or}
use Rattle.std.specs.List.{list_any, remove}
use Rattle.std.proofs.lemmas.List.{set_split, take_rest}
use Rattle.std.proofs.lemmas.List.Folds.{list_any-append}
use Rattle.semantics.specs.declared.mark.Mark.{Mark}
use Rattle.semantics.specs.declared.mark.Mark.TheVariants.{Dash}
use Rattle.semantics.specs.Net.{TableValue}
use Rattle.semantics.specs.Value.{Assignment, mark_matches, row_matches, table_value}
use Rattle.chain_semantics.specs.Moves.{copy_mark}
use Rattle.lane_bits.specs.Rows.{turned}
use Rattle.lane_bits.proofs.Bits.{and_bit, or_bit}
use Rattle.lane_nets.specs.Words.{word_bit, values_at}
use Rattle.lane_nets.proofs.WordBits.{and_assoc}

-- what stands behind a place, as a slice
abbrev pub behind_place : {X : Type 0} → ℕ → List X → List X
behind_place r xs = take (length xs - (r + 1)) (drop (r + 1) xs)

behind-drop : {X : Type 0} (r : ℕ) (xs : List X) → behind_place r xs ≡ drop (suc r) xs
behind-drop r xs = take_rest xs (r + 1) ∙ ap (λ k. drop k xs) (add-one r)

any_without : (test : List Mark → Bool) (rows : List (List Mark)) (r : ℕ) → list_any test (remove rows r) ≡ (list_any test (take r rows) || list_any test (behind_place r rows))
any_without test rows r =
    list_any-append test (take r rows) (drop (suc r) rows) ∙ ap (λ l. list_any test (take r rows) || list_any test l) (sym (behind-drop r rows))

any_changed : (test : List Mark → Bool) (rows : List (List Mark)) (r : ℕ) (new : List Mark) → r < length rows
    → list_any test (set rows r new) ≡ ((list_any test (take r rows) || list_any test (behind_place r rows)) || test new)
any_changed test rows r new low =
    ap (list_any test) (set_split rows r new low)
    ∙ list_any-append test (take r rows) (new ∷ drop (suc r) rows)
    ∙ exchanged (list_any test (take r rows)) (test new) (list_any test (drop (suc r) rows))
    ∙ ap (λ l. (list_any test (take r rows) || list_any test l) || test new) (sym (behind-drop r rows))
  where
    exchanged : (x y z : Bool) → (x || (y || z)) ≡ ((x || z) || y)
    exchanged true y z = refl
    exchanged false true true = refl
    exchanged false true false = refl
    exchanged false false true = refl
    exchanged false false false = refl

-- a row with a dash matches where the parts before and behind it do
dashed_row : (marks : List Mark) (pins : List ℕ) (pin : ℕ) (v : Assignment) → pin < length marks
    → row_matches (set marks pin Dash) pins v ≡ (row_matches (take pin marks) (take pin pins) v && row_matches (drop (suc pin) marks) (drop (suc pin) pins) v)
dashed_row [] pins pin v low = absurd (omega arith)
dashed_row (m ∷ marks) [] zero v low = pinless marks v
  where
    pinless : (l : List Mark) (v : Assignment) → true ≡ row_matches l [] v
    pinless [] v = refl
    pinless (k ∷ l) v = refl
dashed_row (m ∷ marks) [] (suc pin) v low = pinless (drop (suc pin) marks) v
  where
    pinless : (l : List Mark) (v : Assignment) → true ≡ row_matches l [] v
    pinless [] v = refl
    pinless (k ∷ l) v = refl
dashed_row (m ∷ marks) (s ∷ pins) zero v low = refl
dashed_row (m ∷ marks) (s ∷ pins) (suc pin) v low =
    ap (λ x. mark_matches m (v s) && x) (dashed_row marks pins pin v (omega arith))
    ∙ sym (and_assoc (mark_matches m (v s)) (row_matches (take pin marks) (take pin pins) v) (row_matches (drop (suc pin) marks) (drop (suc pin) pins) v))

pub dashed_word : (marks : List Mark) (pins words : List ℕ) (pin b front back : ℕ) → pin < length marks
    → word_bit front b ≡ row_matches (take pin marks) (take pin pins) (values_at words b)
    → word_bit back b ≡ row_matches (behind_place pin marks) (behind_place pin pins) (values_at words b)
    → word_bit (bit_and front back) b ≡ row_matches (set marks pin Dash) pins (values_at words b)
dashed_word marks pins words pin b front back low at_front at_back =
    let behind : word_bit back b ≡ row_matches (drop (suc pin) marks) (drop (suc pin) pins) (values_at words b) =
    at_back ∙ (λ j. row_matches (behind-drop pin marks j) (behind-drop pin pins j) (values_at words b)) in
    and_bit front back b ∙ (λ j. at_front j && behind j) ∙ sym (dashed_row marks pins pin (values_at words b) low)

-- the value of a table whose rows change, from the rows that stay and the row that comes
pub without_word : (t : TableValue) (rows : List (List Mark)) (pins words : List ℕ) (plane : Bool) (r b front back word : ℕ)
    → rows ≡ t.rows → pins ≡ t.pins → plane ≡ t.plane
    → word_bit front b ≡ list_any (λ marks. row_matches marks pins (values_at words b)) (take r rows)
    → word_bit back b ≡ list_any (λ marks. row_matches marks pins (values_at words b)) (behind_place r rows)
    → word_bit word b ≡ cond (word_bit (bit_or front back) b) plane (not plane)
    → word_bit word b ≡ table_value (record t { rows = remove t.rows r }) (values_at words b)
without_word t rows pins words plane r b front back word is pins_are plane_is at_front at_back value =
    let test : List Mark → Bool = λ marks. row_matches marks pins (values_at words b) in
    let any : word_bit (bit_or front back) b ≡ list_any test (remove rows r) = or_bit front back b ∙ (λ j. at_front j || at_back j) ∙ sym (any_without test rows r) in
    value ∙ (λ j. cond (any j) (plane_is j) (not (plane_is j))) ∙ (λ j. cond (list_any (λ marks. row_matches marks (pins_are j) (values_at words b)) (remove (is j) r)) t.plane (not t.plane))

pub changed_word : (t : TableValue) (rows : List (List Mark)) (pins words : List ℕ) (plane : Bool) (r b front back row word : ℕ) (new : List Mark)
    → rows ≡ t.rows → pins ≡ t.pins → plane ≡ t.plane → r < length t.rows
    → word_bit front b ≡ list_any (λ marks. row_matches marks pins (values_at words b)) (take r rows)
    → word_bit back b ≡ list_any (λ marks. row_matches marks pins (values_at words b)) (behind_place r rows)
    → word_bit row b ≡ row_matches new pins (values_at words b)
    → word_bit word b ≡ cond (word_bit (bit_or (bit_or front back) row) b) plane (not plane)
    → word_bit word b ≡ table_value (record t { rows = set t.rows r new }) (values_at words b)
changed_word t rows pins words plane r b front back row word new is pins_are plane_is low at_front at_back at_row value =
    let test : List Mark → Bool = λ marks. row_matches marks pins (values_at words b) in
    let within : r < length rows = omega (arith, ap length is) in
    let any : word_bit (bit_or (bit_or front back) row) b ≡ list_any test (set rows r new) =
    or_bit (bit_or front back) row b ∙ (λ j. (or_bit front back b ∙ (λ i. at_front i || at_back i)) j || at_row j) ∙ sym (any_changed test rows r new within) in
    value ∙ (λ j. cond (any j) (plane_is j) (not (plane_is j))) ∙ (λ j. cond (list_any (λ marks. row_matches marks (pins_are j) (values_at words b)) (set (is j) r new)) t.plane (not t.plane))

-- a copy of a signal, or of its opposite
pub copied_value : (t : TableValue) (s : ℕ) (flip : Bool) (v : Assignment) → turned flip (v s) ≡ table_value (record t { pins = s ∷ []; rows = (copy_mark flip ∷ []) ∷ []; plane = true }) v
copied_value t s false v = at (v s)
  where
    at : (x : Bool) → x ≡ cond ((x && true) || false) true false
    at true = refl
    at false = refl
copied_value t s true v = at (v s)
  where
    at : (x : Bool) → not x ≡ cond ((not x && true) || false) true false
    at true = refl
    at false = refl
