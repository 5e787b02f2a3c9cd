-- The tokens of a log's text. Source: LRAT: a token is a run of bytes between blanks, and is the letter d or
-- a number. As this tool reads it, blanks are space, tab, CR and LF, a number may have leading zeros, and its
-- size is below 2 ^ 63.
use Rattle.std.specs.Prelude.{ℕ, ◌+◌, ◌^◌, Bool, true, false, ◌==◌, ◌||◌, List, [], ◌∷◌, ◌++◌, length}
use Rattle.std.specs.Prelude.{nat_lt, if◌then◌else◌}
use Rattle.std.specs.List.{list_all, slice_split}
use Rattle.semantics.specs.Texts.{Bytes}
use Rattle.semantics.specs.Decimal.{is_digit, digits_number}
use Rattle.proof_semantics.specs.declared.lrat_word.LratWord.{LratWord}
use Rattle.proof_semantics.specs.declared.lrat_word.LratWord.TheVariants.{Letter, Number, Malformed}

unfoldable pub is_blank : ℕ → Bool
is_blank c = ((c == 32 || c == 9) || c == 13) || c == 10

-- a blank, a digit, a minus or the letter d
unfoldable pub is_log_byte : ℕ → Bool
is_log_byte c = ((is_blank c || is_digit c) || c == 45) || c == 100

-- a token's bytes, and the place of the first
pub record Token : Type 0 where
  pub place : ℕ
  pub bytes : Bytes

-- what stands at a place between two blanks: a token, or nothing
abbrev pub token_at : ℕ → Bytes → List Token
token_at place [] = []
token_at place (c ∷ cs) = record { place = place; bytes = c ∷ cs } ∷ []

-- The tokens of parts each of which a blank ends; the first part stands at this place. Behind the last part
-- there is no blank, so what stands there has not ended.
abbrev pub ended : ℕ → List Bytes → List Token
ended place [] = []
ended place (part ∷ []) = []
ended place (part ∷ next ∷ parts) = token_at place part ++ ended (place + length part + 1) (next ∷ parts)

unfoldable pub ended_tokens : Bytes → List Token
ended_tokens text = ended 0 (slice_split is_blank text)

abbrev pub number_word : Bool → ℕ → LratWord
number_word negative size = if nat_lt size (2 ^ 63) then Number negative size else Malformed

-- digits behind a minus, or without one
abbrev pub digits_word : Bool → Bytes → LratWord
digits_word negative [] = Malformed
digits_word negative (c ∷ cs)
    = if list_all is_digit (c ∷ cs) then number_word negative (digits_number (c ∷ cs)) else Malformed

-- what follows the letter d
abbrev pub letter_word : Bytes → LratWord
letter_word [] = Letter
letter_word (c ∷ cs) = Malformed

-- what a token is, going by its bytes
abbrev pub token_word : Bytes → LratWord
token_word [] = Malformed
token_word (c ∷ cs) = if c == 100 then letter_word cs
    else (if c == 45 then digits_word true cs else digits_word false (c ∷ cs))
