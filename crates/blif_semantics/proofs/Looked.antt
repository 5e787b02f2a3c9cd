-- Names looked up among those of the signals.
use Rattle.std.proofs.Common.{◌≡◌, ◌≢◌, ℕ, ◌<◌, Bool, true, false, not, List, [], ◌∷◌, length, get_or, find, bytes_eq, AllPairs, Some, None, refl, ap, sym, ◌∙◌, inl, inr, arith}
use Rattle.std.specs.List.{AllByRecursion, position, position_or_len}
use Rattle.std.proofs.lemmas.Bool.{not-false, false_from_ne_true, lt-ltb, cases_lt, both_ways}
use Rattle.std.proofs.lemmas.List.Folds.{list_any_at, Any-from_list_any}
use Rattle.std.proofs.lemmas.List.Sums.{position_or_len_is, fails_before_first}
use Rattle.std.proofs.lemmas.Slice.Eq.{bytes_eq-Decides}
use Rattle.semantics.specs.Texts.{Bytes}
use Rattle.semantics.specs.Net.{name_of}
use Rattle.semantics.specs.Refusals.{has_name}
use Rattle.blif_semantics.specs.Reading.{signal_named}
use Rattle.semantics.proofs.FirstFound.{none_if}

found_first : (names : List Bytes) (word : Bytes) (s : ℕ) → position (λ name. bytes_eq word name) names ≡ Some s → signal_named names word ≡ s
found_first names word s e = rw (e, signal_named) refl

-- a name among names that differ stands at one place
pub signal_named-name_of : (names : List Bytes) → AllPairs ◌≢◌ names → (s : ℕ) → s < length names → signal_named names (name_of names s) ≡ s
signal_named-name_of names differ s within =
    let word : Bytes = name_of names s in
    let test : Bytes → Bool = λ name. bytes_eq word name in
    let here : test (get_or names s []) ≡ true = (bytes_eq-Decides word word).1 refl in
    let before : (k : ℕ) → k < s → test (get_or names k []) ≡ false =
    (λ k h. false_from_ne_true (test (get_or names k [])) (λ t. differ k s [] h within (sym ((bytes_eq-Decides word (get_or names k [])).0 t)))) in
    let place : position_or_len test names ≡ s = position_or_len_is test names s [] (omega (arith, within)) before (λ _. here) in
    found_first names word s (rw (place, lt-ltb s (length names) within) refl)

pub has_name-name_of : (names : List Bytes) (s : ℕ) → s < length names → has_name names (name_of names s) ≡ true
has_name-name_of names s within = list_any_at (λ name. bytes_eq (name_of names s) name) names s [] within ((bytes_eq-Decides (name_of names s) (name_of names s)).1 refl)

-- a name that is there has a signal
pub signal_named-below : (names : List Bytes) (word : Bytes) → has_name names word ≡ true → signal_named names word < length names
signal_named-below names word h =
    let test : Bytes → Bool = λ name. bytes_eq word name in
    let place : ℕ = position_or_len test names in
    let some = Any-from_list_any test names h in
    elim (cases_lt place (length names)) [
      | inl within ↦ let is = found_first names word place (rw (lt-ltb place (length names) within) refl) in rw is within
      | inr past ↦ absurd (both_ways (test (get_or names some.0 some.1)) (fails_before_first test names some.0 some.1 (omega (arith, some.2, past))) (ap test some.3 ∙ some.4))
    ]

-- ---- each word of a list is there

pub none_missing : (names words : List Bytes) → AllByRecursion (λ word. has_name names word ≡ true) words → find (λ word. not (has_name names word)) words ≡ None
none_missing names [] h = refl
none_missing names (word ∷ words) h = rw h.0 (none_missing names words h.1)

pub each_there : (names words : List Bytes) → find (λ word. not (has_name names word)) words ≡ None → AllByRecursion (λ word. has_name names word ≡ true) words
each_there names [] h = tt
each_there names (word ∷ words) h =
    let parts = none_if (not (has_name names word)) word (find (λ w. not (has_name names w)) words) h in
    (not-false (has_name names word) parts.0, each_there names words parts.1)
