-- One physical line further in the loop that joins lines, and the lines with words as statements.
use Rattle.std.proofs.Common.{◌≡◌, ℕ, ◌+◌, ◌<◌, ◌==◌, suc, Bool, true, false, not, List, [], ◌∷◌, ◌++◌, length, get_or, drop, map, Option, refl, sym, ap, ◌∙◌, arith, rules, tests}
use Rattle.std.specs.Prelude.{filter}
use Rattle.std.specs.List.{list_any}
use Rattle.std.proofs.lemmas.List.{drop_more, drop_all}
use Rattle.semantics.specs.Texts.{Bytes}
use Rattle.blif_semantics.specs.Lines.{LogicalLine, line_before, without_comment, logical_from, statements}
use Rattle.blif_text.specs.LogicalLines.{after_begun, has_words, with_words, statement_of}

not_empty : (n : ℕ) → true ≡ not (suc n == 0)
not_empty n = search (rules, tests)

some_of : {X : Type 0} (p : X → Bool) (x : X) (xs : List X) (b : Bool) → p x ≡ b → list_any p xs ≡ not (length (filter p xs) == 0) → list_any p (x ∷ xs) ≡ not (length (filter p (x ∷ xs)) == 0)
some_of p x xs true is rest = rw is (not_empty (length (filter p xs)))
some_of p x xs false is rest = rw is rest

-- whether a test passes somewhere is whether a filter by it leaves anything
pub list_any-filter : {X : Type 0} (p : X → Bool) (xs : List X) → list_any p xs ≡ not (length (filter p xs) == 0)
list_any-filter p [] = refl
list_any-filter p (x ∷ xs) = some_of p x xs (p x) refl (list_any-filter p xs)

-- a physical line was added
pub lines-next : (old new : List LogicalLine) (begun left : Option LogicalLine) (number k : ℕ) (parts : List Bytes) (line : Bytes) (all : List LogicalLine) → k < length parts
    → line ≡ get_or parts k line → ((rest : List LogicalLine) → new ++ with_words (after_begun left rest) ≡ old ++ with_words (after_begun begun (line_before number (without_comment line) rest)))
    → old ++ with_words (after_begun begun (logical_from number (drop k parts))) ≡ all → new ++ with_words (after_begun left (logical_from (number + 1) (drop (k + 1) parts))) ≡ all
lines-next old new begun left number k parts line all within is added same =
    let cut : drop k parts ≡ line ∷ drop (k + 1) parts = drop_more parts k line within ∙ ap (λ l. l ∷ drop (k + 1) parts) (sym is) in
    added (logical_from (number + 1) (drop (k + 1) parts))
    ∙ ap (λ ps. old ++ with_words (after_begun begun (logical_from number ps))) (sym cut)
    ∙ same

-- all physical lines were added
pub lines-end : (old : List LogicalLine) (begun : Option LogicalLine) (number k : ℕ) (parts : List Bytes) (all : List LogicalLine) → k ≡ length parts
    → old ++ with_words (after_begun begun (logical_from number (drop k parts))) ≡ all → old ++ with_words (after_begun begun []) ≡ all
lines-end old begun number k parts all is same =
    ap (λ ps. old ++ with_words (after_begun begun (logical_from number ps))) (sym (drop_all k parts (omega (arith, is)))) ∙ same

kept : (line : LogicalLine) (lines : List LogicalLine) (b : Bool) → has_words line ≡ b → map statement_of (with_words lines) ≡ statements lines
    → map statement_of (with_words (line ∷ lines)) ≡ statements (line ∷ lines)
kept line lines true is rest = rw is (ap (λ s. statement_of line ∷ s) rest)
kept line lines false is rest = rw is rest

-- the lines with words are the statements
pub statements-with_words : (lines : List LogicalLine) → map statement_of (with_words lines) ≡ statements lines
statements-with_words [] = refl
statements-with_words (line ∷ lines) = kept line lines (has_words line) refl (statements-with_words lines)
