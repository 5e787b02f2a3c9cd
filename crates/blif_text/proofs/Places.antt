-- Names as slices of the text, as texts, and the places at which they stand.
use Rattle.std.proofs.Common.{◌≡◌, ℕ, ◌+◌, ◌<◌, Bool, true, false, not, cond, ltb, List, [], ◌∷◌, ◌++◌, length, bytes_eq, Option, Some, None, get_or, drop, take, map, All, Result, Err, ◌≤◌, refl}
use Rattle.std.proofs.Common.{sym, ap, subst, ◌∙◌, arith}
use Rattle.std.specs.Prelude.{position, ◌||◌}
use Rattle.std.specs.Borrow.{Bor}
use Rattle.std.specs.List.{list_any, position_or_len}
use Rattle.std.proofs.lemmas.List.{length-map, drop_more, map_more, map_push, get_or-map}
use Rattle.std.proofs.lemmas.List.Folds.{list_any_at, list_any_none}
use Rattle.std.proofs.lemmas.List.Sums.{passes_at_first, fails_before_first}
use Rattle.std.proofs.lemmas.Bool.{ltb-true, ltb-false}
use Rattle.std.proofs.lemmas.Option.{none-some, cond_some, same_Some}
use Rattle.semantics.specs.Texts.{Bytes}
use Rattle.semantics.specs.Net.{NetValue, IsName}
use Rattle.semantics.specs.Refusals.{has_name}
use Rattle.blif_semantics.specs.Reading.{Refusal, undriven, unless_refused, signal_named}
use Rattle.text_words.specs.Slices.{texts}
use Rattle.blif_text.specs.Names.{place_of, first_unknown}

pub has_name-texts : (word : Bytes) (keys : List (Bor Bytes)) → list_any (λ k. bytes_eq word k.now) keys ≡ has_name (texts keys) word
has_name-texts word [] = refl
has_name-texts word (k ∷ keys) = ap (λ (b : Bool). bytes_eq word k.now || b) (has_name-texts word keys)

same_place : (word : Bytes) (keys : List (Bor Bytes)) → position_or_len (λ k. bytes_eq word k.now) keys ≡ position_or_len (λ name. bytes_eq word name) (texts keys)
same_place word [] = refl
same_place word (k ∷ keys) = ap (λ (m : ℕ). cond (not (bytes_eq word k.now)) (1 + m) 0) (same_place word keys)

pub place_of-texts : (word : Bytes) (keys : List (Bor Bytes)) → position (λ k. bytes_eq word k.now) keys ≡ place_of (texts keys) word
place_of-texts word keys =
    let place = same_place word keys in
    let size : length (texts keys) ≡ length keys = length-map keys (λ k. k.now) in
    rw (place, size) refl

-- what a list has at a place stands before its end
pub within_list : {X : Type 0} (test : X → Bool) (xs : List X) (s : ℕ) → Some s ≡ position test xs → s < length xs
within_list test xs s e =
    let p : ℕ = position_or_len test xs in
    let at = cond_some (ltb p (length xs)) p s (sym e) in
    omega (arith, ltb-true p (length xs) at.0, at.1)

-- ---- names that are there or not

none_if : {X : Type 0} (b : Bool) (x : X) → None ≡ cond b (Some x) None → b ≡ false
none_if false x e = refl
none_if true x e = absurd (none-some x e)

-- a name that has a place is there
pub has_name-placed : (names : List Bytes) (word : Bytes) (s : ℕ) → Some s ≡ place_of names word → has_name names word ≡ true
has_name-placed names word s e =
    let test : Bytes → Bool = λ name. bytes_eq word name in
    let p : ℕ = position_or_len test names in
    let low : p < length names = ltb-true p (length names) (cond_some (ltb p (length names)) p s (sym e)).0 in
    list_any_at test names p [] low (passes_at_first test names [] low)

-- a name without a place is not
pub has_name-unplaced : (names : List Bytes) (word : Bytes) → None ≡ place_of names word → has_name names word ≡ false
has_name-unplaced names word e =
    let test : Bytes → Bool = λ name. bytes_eq word name in
    let p : ℕ = position_or_len test names in
    let past : length names ≤ p = ltb-false p (length names) (none_if (ltb p (length names)) p e) in
    list_any_none test names (λ k d short. fails_before_first test names k d (omega (arith, short, past)))

-- a name at a place of slices that are names
pub named_at : (words : List (Bor Bytes)) (i : ℕ) (w : Bor Bytes) → i < length words → All IsName (texts words) → IsName (get_or words i w).now
named_at words i w within named =
    subst IsName (get_or-map (λ s. s.now) words i w [] within) (named i [] (omega (arith, within, length-map words (λ s. s.now))))

-- one signal more
pub signals-next : (names : List Bytes) (words : List (Bor Bytes)) (i : ℕ) (w : Bor Bytes) (found : List ℕ) (s : ℕ) → i < length words → Some s ≡ place_of names (get_or words i w).now
    → found ≡ map (signal_named names) (texts (take i words)) → found ++ s ∷ [] ≡ map (signal_named names) (texts (take (i + 1) words))
signals-next names words i w found s within placed so_far =
    let here : signal_named names (get_or words i w).now ≡ s = ap (λ (o : Option ℕ). elim o [ None ↦ 0 | Some at ↦ at ]) (sym placed) in
    ap (λ l. l ++ s ∷ []) so_far
    ∙ ap (λ n. map (signal_named names) (texts (take i words)) ++ n ∷ []) (sym here)
    ∙ sym (map_push (signal_named names) (texts (take i words)) (get_or words i w).now)
    ∙ ap (map (signal_named names)) (sym (map_more (λ x. x.now) words i w within))

cut : (words : List (Bor Bytes)) (i : ℕ) (w : Bor Bytes) → i < length words → texts (drop i words) ≡ (get_or words i w).now ∷ texts (drop (i + 1) words)
cut words i w within = ap texts (drop_more words i w within)

known-next : (names : List Bytes) (words : List (Bor Bytes)) (i : ℕ) (w : Bor Bytes) (s : ℕ) → i < length words → Some s ≡ place_of names (get_or words i w).now
    → first_unknown names (texts (drop i words)) ≡ first_unknown names (texts (drop (i + 1) words))
known-next names words i w s within placed =
    ap (first_unknown names) (cut words i w within)
    ∙ ap (λ b. cond (not b) (Some (get_or words i w).now) (first_unknown names (texts (drop (i + 1) words)))) (has_name-placed names (get_or words i w).now s placed)

-- a word that has a place is not the first unknown one
pub unknown-next : (names : List Bytes) (words : List (Bor Bytes)) (i : ℕ) (w : Bor Bytes) (s : ℕ) (all : Option Bytes) → i < length words → Some s ≡ place_of names (get_or words i w).now
    → first_unknown names (texts (drop i words)) ≡ all → first_unknown names (texts (drop (i + 1) words)) ≡ all
unknown-next names words i w s all within placed so_far = sym (known-next names words i w s within placed) ∙ so_far

-- the first word without a place is
pub unknown-here : (names : List Bytes) (words : List (Bor Bytes)) (i : ℕ) (w : Bor Bytes) (all : Option Bytes) → i < length words → None ≡ place_of names (get_or words i w).now
    → first_unknown names (texts (drop i words)) ≡ all → all ≡ Some (get_or words i w).now
unknown-here names words i w all within unplaced so_far =
    sym so_far
    ∙ ap (first_unknown names) (cut words i w within)
    ∙ ap (λ b. cond (not b) (Some (get_or words i w).now) (first_unknown names (texts (drop (i + 1) words)))) (has_name-unplaced names (get_or words i w).now unplaced)

-- the refusal of the first unknown word
pub unknown_told : (unknown : Option Bytes) (word name : Bytes) → unknown ≡ Some word → name ≡ word → (rest : Result NetValue Refusal) (refusal : Refusal) → Some (undriven name) ≡ Some refusal
    → unless_refused unknown undriven rest ≡ Err refusal
unknown_told unknown word name is same rest refusal e =
    ap (λ o. unless_refused o undriven rest) is ∙ ap (λ n. Err (undriven n)) (sym same) ∙ ap Err (same_Some _ _ e)
