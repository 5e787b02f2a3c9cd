-- Lines of input vectors, taken byte by byte. Source: this tool's own format, `STEM.wit`.
use Rattle.std.specs.Prelude.{◌≡◌, ℕ, ◌≤◌, ◌==◌, nat_lt, ◌&&◌, Bool, false, List, [], ◌∷◌, ◌++◌, length}
use Rattle.std.specs.Prelude.{take, slice_index_or, if◌then◌else◌}
use Rattle.std.specs.List.{AllByRecursion}
use Rattle.semantics.specs.Texts.{Bytes, bit_byte, bits_word}
use Rattle.job_semantics.specs.Certificate.{IsVectorsText}
use Rattle.bundle_texts.specs.Pieces.{is_bit_digit}
use Rattle.bundle_writing.specs.VectorLines.{vector_lines}

-- the vectors of the whole lines, and the bits of the line that has not ended
pub record TakenValue : Type 0 where
  pub inputs : ℕ
  pub vectors : List (List Bool)
  pub begun : List Bool

-- the text of what was taken
abbrev pub taken_text : TakenValue → Bytes
taken_text v = vector_lines v.vectors ++ bits_word v.begun

-- the byte may come next, where the first line is to be the witness's
abbrev pub is_next_byte : List Bool → TakenValue → ℕ → Bool
is_next_byte witness v byte =
    if length v.begun == length witness then byte == 10
    else (if length v.vectors == 0 then byte == bit_byte (slice_index_or witness (length v.begun) false)
    else is_bit_digit byte)

-- a line end ends the vector, and a digit is its next bit
abbrev pub with_byte : TakenValue → ℕ → TakenValue
with_byte v byte =
    if length v.begun == v.inputs
    then record v { vectors = v.vectors ++ v.begun ∷ []; begun = [] }
    else record v { begun = v.begun ++ (byte == 49) ∷ [] }

-- the last line has ended, and there is one
abbrev pub are_whole : TakenValue → Bool
are_whole v = (length v.begun == 0) && nat_lt 0 (length v.vectors)

-- the vectors begin with the witness, or the bits are its first
abbrev pub BeginWith : List Bool → List (List Bool) → List Bool → Type 0
BeginWith witness [] begun = begun ≡ take (length begun) witness
BeginWith witness (x ∷ pool) begun = x ≡ witness

-- the text is lines of vectors so far, with the witness first
pub record AreVectorsSoFar (witness : List Bool) (v : TakenValue) (text : Bytes) : Type 0 where
  pub text_is : text ≡ taken_text v
  pub inputs_are : v.inputs ≡ length witness
  pub widths : AllByRecursion (λ x. length x ≡ v.inputs) v.vectors
  pub few : length v.begun ≤ v.inputs
  pub first : BeginWith witness v.vectors v.begun

-- however the text goes on, it is not lines of vectors with the witness first
abbrev pub NeverVectors : List Bool → Bytes → Type 0
NeverVectors witness text = (more : Bytes) (pool : List (List Bool))
    → ¬ IsVectorsText (length witness) (text ++ more) witness pool
