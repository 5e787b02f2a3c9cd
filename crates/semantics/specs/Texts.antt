-- Texts as lines of words, the form in which this tool writes everything but formulas and logs. Source: BLIF,
-- and this tool's report and vectors: single blanks (32) between words, each line ended by LF (10).
use Rattle.std.specs.Prelude.{ℕ, Bool, true, false, List, [], ◌∷◌, ◌++◌, map, flat_map}
use Rattle.std.specs.List.{join_with_byte}

abbrev pub Bytes : Type 0
Bytes = List ℕ

-- a line is its words
abbrev pub Line : Type 0
Line = List Bytes

abbrev pub line_text : Line → Bytes
line_text words = join_with_byte 32 words ++ 10 ∷ []

unfoldable pub text_of : List Line → Bytes
text_of lines = flat_map line_text lines

-- the digit `0` or `1`
abbrev pub bit_byte : Bool → ℕ
bit_byte false = 48
bit_byte true = 49

-- truth values as a word, in their order
abbrev pub bits_word : List Bool → Bytes
bits_word bits = map bit_byte bits
