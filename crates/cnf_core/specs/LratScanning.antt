-- A log's text byte by byte. Laws of proofs/ say that it comes to what the definitions of whole texts say.
use Rattle.std.specs.Prelude.{◌≡◌, ℕ, ◌+◌, ◌-◌, ◌*◌, Bool, true, false, ◌==◌, List, [], ◌∷◌, ◌++◌, Option}
use Rattle.std.specs.Prelude.{Some, None, if◌then◌else◌}
use Rattle.semantics.specs.Texts.{Bytes}
use Rattle.semantics.specs.Decimal.{is_digit}
use Rattle.proof_semantics.specs.declared.lrat_refusal.LratRefusal.TheVariants.{BadByte}
use Rattle.proof_semantics.specs.declared.lrat_word.LratWord.{LratWord}
use Rattle.proof_semantics.specs.declared.lrat_word.LratWord.TheVariants.{Letter, Number, Malformed}
use Rattle.proof_semantics.specs.Logs.{LogItem}
use Rattle.proof_semantics.specs.LratTokens.{is_blank, is_log_byte, number_word}
use Rattle.proof_semantics.specs.LratMatching.{Stage, Outside, Refused, stage_after, item_given}
use Rattle.proof_semantics.specs.LratReading.{is_refused}
use Rattle.cnf_core.specs.declared.held_word.HeldWord.{HeldWord}
use Rattle.cnf_core.specs.declared.held_word.HeldWord.TheVariants as form

-- a token as far as it goes
abbrev pub whole : LratWord → HeldWord
whole Letter = form.Letter
whole (Number negative size) = form.Number negative size
whole Malformed = form.Malformed

abbrev pub number_with : Bool → ℕ → ℕ → HeldWord
number_with negative size c
    = whole (if is_digit c then number_word negative (10 * size + (c - 48)) else Malformed)

-- the bytes held with one more
abbrev pub held_with : HeldWord → ℕ → HeldWord
held_with form.Empty c = if c == 100 then form.Letter
    else (if c == 45 then form.Minus else number_with false 0 c)
held_with form.Minus c = number_with true 0 c
held_with (form.Number negative size) c = number_with negative size c
held_with form.Letter c = form.Malformed
held_with form.Malformed c = form.Malformed

-- what the bytes held are where a blank ends them; a minus alone is no token
abbrev pub ended_word : HeldWord → Option LratWord
ended_word form.Empty = None
ended_word form.Minus = Some Malformed
ended_word form.Letter = Some Letter
ended_word (form.Number negative size) = Some (Number negative size)
ended_word form.Malformed = Some Malformed

-- what is kept of a text: the stage of its tokens, the token at hand, the place of its first byte, and the
-- place of the next byte
pub record ScannerValue : Type 0 where
  pub stage : Stage
  pub word : HeldWord
  pub start : ℕ
  pub at : ℕ

abbrev pub begin : ScannerValue
begin = record { stage = Outside; word = form.Empty; start = 0; at = 0 }

abbrev pub stage_with : Stage → Option LratWord → ℕ → Stage
stage_with stage None place = stage
stage_with stage (Some word) place = stage_after stage word place

abbrev pub given_with : Stage → Option LratWord → List LogItem
given_with stage None = []
given_with stage (Some word) = item_given stage word

-- a blank ends the token at hand
abbrev pub closed : ScannerValue → ScannerValue
closed s = record {
  stage = stage_with s.stage (ended_word s.word) s.start;
  word = form.Empty;
  start = s.at + 1;
  at = s.at + 1;
}

abbrev pub closed_gives : ScannerValue → List LogItem
closed_gives s = given_with s.stage (ended_word s.word)

abbrev pub scanned : ScannerValue → ℕ → ScannerValue
scanned s c =
    if is_refused s.stage then s
    else (if is_blank c then closed s
    else (if is_log_byte c then record s { word = held_with s.word c; at = s.at + 1 }
    else record s { stage = Refused (BadByte s.at) }))

-- the item that ends with the byte
abbrev pub gives : ScannerValue → ℕ → List LogItem
gives s c =
    if is_refused s.stage then []
    else (if is_blank c then closed_gives s else [])

abbrev pub scanned_all : ScannerValue → Bytes → ScannerValue
scanned_all s [] = s
scanned_all s (c ∷ cs) = scanned_all (scanned s c) cs

abbrev pub all_given : ScannerValue → Bytes → List LogItem
all_given s [] = []
all_given s (c ∷ cs) = gives s c ++ all_given (scanned s c) cs

-- items were put behind others
abbrev pub FoundMore : List LogItem → List LogItem → Type 0
FoundMore old new = (more : List LogItem) × (new ≡ old ++ more)
