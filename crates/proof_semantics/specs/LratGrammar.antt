-- The grammar of logs over whole lists of words. Source: LRAT, as this tool reads it.
use Rattle.std.specs.Prelude.{◌≡◌, ℕ, ℤ, ◌^◌, ◌<◌, Bool, false, List, [], ◌∷◌, ◌++◌, ◌&&◌, nat_lt, map}
use Rattle.proof_semantics.specs.declared.item.Item.TheVariants.{Add, Remove}
use Rattle.proof_semantics.specs.declared.lrat_word.LratWord.{LratWord}
use Rattle.proof_semantics.specs.declared.lrat_word.LratWord.TheVariants.{Letter, Number}
use Rattle.semantics.specs.Texts.{Bytes}
use Rattle.proof_semantics.specs.Logs.{LogItem}
use Rattle.proof_semantics.specs.LratTokens.{Token, ended_tokens, token_word}
use Rattle.proof_semantics.specs.LratMatching.{signed}

-- a number with or without a minus
pub record SignedNumber : Type 0 where
  pub negative : Bool
  pub size : ℕ

-- an item as it may be spelled: a zero may have a minus, as may the 0 that begins a deletion
pub data SpelledItem : Type 0 where
  addition : (id : ℕ) → (literals : List SignedNumber) → (first_end : Bool) → (hints : List ℕ)
      → (last_end : Bool) → SpelledItem
  deletion : (lead : SignedNumber) → (ids : List ℕ) → (last_end : Bool) → SpelledItem

abbrev pub signed_word : SignedNumber → LratWord
signed_word x = Number x.negative x.size

abbrev pub plain_word : ℕ → LratWord
plain_word n = Number false n

abbrev pub item_words : SpelledItem → List LratWord
item_words (addition id literals first_end hints last_end) =
    plain_word id ∷ (map signed_word literals
    ++ (Number first_end 0 ∷ (map plain_word hints ++ Number last_end 0 ∷ [])))
item_words (deletion lead ids last_end)
    = signed_word lead ∷ (Letter ∷ (map plain_word ids ++ Number last_end 0 ∷ []))

abbrev pub literal_of : SignedNumber → ℤ
literal_of x = signed x.negative x.size

-- what a spelled item says; the number that begins a deletion means nothing
abbrev pub spelled_item : SpelledItem → LogItem
spelled_item (addition id literals first_end hints last_end)
    = Add (record { id = id; literals = map literal_of literals; hints = hints })
spelled_item (deletion lead ids last_end) = Remove ids

abbrev pub AreLiteralSizes : List SignedNumber → Type 0
AreLiteralSizes [] = Unit {0}
AreLiteralSizes (x ∷ xs) = (0 < x.size) × (x.size < 2 ^ 31) × AreLiteralSizes xs

abbrev pub ArePositive : List ℕ → Type 0
ArePositive [] = Unit {0}
ArePositive (n ∷ ns) = (0 < n) × ArePositive ns

abbrev pub IsSpelled : SpelledItem → Type 0
IsSpelled (addition id literals first_end hints last_end) = (0 < id) × AreLiteralSizes literals
    × ArePositive hints
IsSpelled (deletion lead ids last_end) = ((lead.negative && nat_lt 0 lead.size) ≡ false) × ArePositive ids

abbrev pub AreSpelled : List SpelledItem → Type 0
AreSpelled [] = Unit {0}
AreSpelled (x ∷ xs) = IsSpelled x × AreSpelled xs

abbrev pub token_words : List Token → List LratWord
token_words tokens = map (λ t. token_word t.bytes) tokens

-- the words of the tokens that have ended in a text
abbrev pub text_words : Bytes → List LratWord
text_words text = token_words (ended_tokens text)
