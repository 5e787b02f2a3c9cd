-- The grammar of logs, token by token; the laws say which lists of tokens it accepts. Source: LRAT: an
-- addition is an id, literals, 0, hints, 0; a deletion is a number, the letter d, ids, 0.
use Rattle.std.specs.Prelude.{ℕ, ℤ, pos, neg_ℤ, ◌^◌, Bool, false, ◌&&◌, ◌==◌, List, [], ◌∷◌, ◌++◌, nat_lt}
use Rattle.std.specs.Prelude.{if◌then◌else◌}
use Rattle.proof_semantics.specs.declared.item.Item.TheVariants.{Add, Remove}
use Rattle.proof_semantics.specs.declared.lrat_refusal.LratRefusal.{LratRefusal}
use Rattle.proof_semantics.specs.declared.lrat_refusal.LratRefusal.TheVariants.{BadNumber, Negative}
use Rattle.proof_semantics.specs.declared.lrat_word.LratWord.{LratWord}
use Rattle.proof_semantics.specs.declared.lrat_word.LratWord.TheVariants.{Letter, Number}
use Rattle.proof_semantics.specs.Clauses.{Clause}
use Rattle.proof_semantics.specs.Logs.{LogItem}
use Rattle.proof_semantics.specs.LratTokens.{Token, token_word}

-- where a text stands between two tokens: outside of items, behind the number that begins an item, in the
-- literals or the hints of an addition, in the ids of a deletion, or behind a refusal
pub data Stage : Type 0 where
  Outside : Stage
  Begun : (id : ℕ) → Stage
  Literals : (id : ℕ) → (literals : Clause) → Stage
  Hints : (id : ℕ) → (literals : Clause) → (hints : List ℕ) → Stage
  Deletion : (ids : List ℕ) → Stage
  Refused : (refusal : LratRefusal) → Stage

abbrev pub signed : Bool → ℕ → ℤ
signed negative size = if negative then neg_ℤ (pos size) else pos size

-- the token at this place is refused
abbrev pub bad_number : ℕ → Stage
bad_number place = Refused (BadNumber place)

-- an item begins with a number that is not negative; `-0` is 0
abbrev pub after_outside : LratWord → ℕ → Stage
after_outside (Number negative size) place
    = if negative && nat_lt 0 size then bad_number place else Begun size
after_outside _ place = bad_number place

-- a literal is below 2 ^ 31 in size
abbrev pub after_literals : ℕ → Clause → LratWord → ℕ → Stage
after_literals id literals (Number negative size) place =
    if size == 0 then Hints id literals []
    else (if nat_lt size (2 ^ 31) then Literals id (literals ++ signed negative size ∷ [])
    else bad_number place)
after_literals id literals _ place = bad_number place

-- behind 0 only the letter d has a place, since the id of an addition is positive
abbrev pub after_begun : ℕ → LratWord → ℕ → Stage
after_begun id Letter place = Deletion []
after_begun id word place = if id == 0 then bad_number place else after_literals id [] word place

abbrev pub after_hints : ℕ → Clause → List ℕ → LratWord → ℕ → Stage
after_hints id literals hints (Number negative size) place =
    if size == 0 then Outside
    else (if negative then Refused (Negative id) else Hints id literals (hints ++ size ∷ []))
after_hints id literals hints _ place = bad_number place

abbrev pub after_deletion : List ℕ → LratWord → ℕ → Stage
after_deletion ids (Number negative size) place =
    if size == 0 then Outside
    else (if negative then bad_number place else Deletion (ids ++ size ∷ []))
after_deletion ids _ place = bad_number place

-- the stage behind one more token, which stands at this place
abbrev pub stage_after : Stage → LratWord → ℕ → Stage
stage_after Outside word place = after_outside word place
stage_after (Begun id) word place = after_begun id word place
stage_after (Literals id literals) word place = after_literals id literals word place
stage_after (Hints id literals hints) word place = after_hints id literals hints word place
stage_after (Deletion ids) word place = after_deletion ids word place
stage_after (Refused refusal) word place = Refused refusal

abbrev pub is_zero : LratWord → Bool
is_zero (Number negative size) = size == 0
is_zero _ = false

-- the item that ends with the token
abbrev pub item_given : Stage → LratWord → List LogItem
item_given (Hints id literals hints) word
    = if is_zero word then Add (record { id = id; literals = literals; hints = hints }) ∷ [] else []
item_given (Deletion ids) word = if is_zero word then Remove ids ∷ [] else []
item_given _ word = []

-- the stage behind tokens, one after another
abbrev pub stage_after_all : Stage → List Token → Stage
stage_after_all stage [] = stage
stage_after_all stage (t ∷ tokens) = stage_after_all (stage_after stage (token_word t.bytes) t.place) tokens

abbrev pub items_given : Stage → List Token → List LogItem
items_given stage [] = []
items_given stage (t ∷ tokens)
    = item_given stage (token_word t.bytes)
    ++ items_given (stage_after stage (token_word t.bytes) t.place) tokens
