-- Two lists of names that are compared one by one.
use Rattle.std.proofs.Common.{◌≡◌, ◌↔◌, IsTrue, ℕ, ◌+◌, ◌<◌, Bool, true, false, not, List, [], map, length, take, get_or, refl, ap, sym, ◌∙◌, arith}
use Rattle.std.proofs.lemmas.List.{get_or_append_left, get_or-map, take_more_same, take_all}
use Rattle.std.specs.Str.{bytes_eq}
use Rattle.std.proofs.lemmas.Slice.Eq.{bytes_eq-Decides}
use Rattle.semantics.specs.Texts.{Bytes}
use Rattle.semantics.specs.Net.{NetValue, input_count, signal_names, name_of}

-- the names of the outputs, in their order
abbrev pub output_names : NetValue → List Bytes
output_names N = map (name_of (signal_names N)) N.outputs

pub input_name : (N : NetValue) (i : ℕ) → i < input_count N → name_of (signal_names N) i ≡ get_or N.inputs i []
input_name N i within = get_or_append_left N.inputs (map (λ t. t.name) N.tables) [] i within

pub output_name : (N : NetValue) (i s : ℕ) → i < length N.outputs → s ≡ get_or N.outputs i 0 → name_of (signal_names N) s ≡ get_or (output_names N) i []
output_name N i s within e = ap (name_of (signal_names N)) e ∙ sym (get_or-map (name_of (signal_names N)) N.outputs i 0 [] within)

-- two lists of one length that agree to their ends are one
pub same_whole : (xs ys : List Bytes) (i : ℕ) → length xs ≡ length ys → i ≡ length xs → take i xs ≡ take i ys → xs ≡ ys
same_whole xs ys i same at e = sym (take_all i xs (omega (arith, at))) ∙ e ∙ take_all i ys (omega (arith, at, same))

told_same : (a b : Bytes) (r : Bool) → r ≡ not (bytes_eq a b) → r ≡ false → a ≡ b
told_same a b r e equal = (bytes_eq-Decides a b).0 (at_test (bytes_eq a b) (sym e ∙ equal))
  where
    at_test : (t : Bool) → not t ≡ false → t ≡ true
    at_test true h = refl
    at_test false h = cc

told_apart : (a b : Bytes) (r : Bool) → r ≡ not (bytes_eq a b) → r ≡ true → a ≡ b → ⊥
told_apart a b r e differ same = let h = (bytes_eq-Decides a b).1 same in cc

-- a name that differs
pub apart_at : (xs ys : List Bytes) (i : ℕ) (a b : Bytes) (r : Bool) → a ≡ get_or xs i [] → b ≡ get_or ys i [] → r ≡ not (bytes_eq a b) → r ≡ true → IsTrue false ↔ (xs ≡ ys)
apart_at xs ys i a b r ea eb e differ = ((λ h. absurd cc), λ same. absurd (told_apart a b r e differ (ea ∙ ap (λ zs. get_or zs i []) same ∙ sym eb)))

-- one more name that is the same
pub same_more : (xs ys : List Bytes) (i : ℕ) (a b : Bytes) (r : Bool) → i < length xs → length xs ≡ length ys → a ≡ get_or xs i [] → b ≡ get_or ys i [] → r ≡ not (bytes_eq a b) → r ≡ false
    → take i xs ≡ take i ys → take (i + 1) xs ≡ take (i + 1) ys
same_more xs ys i a b r within same ea eb e equal before =
    take_more_same xs ys i [] within (omega (arith, within, same)) before (sym ea ∙ told_same a b r e equal ∙ eb)
