-- The laws about reading logs, each the contract of a function without parameters.
use Rattle.std.specs.Prelude.{◌≡◌, ℕ, ◌^◌, ◌<◌, true, List, ◌++◌, map, flat_map, All, Some, None, Ok, Err}
use Rattle.std.specs.Prelude.{◌⊎◌}
use Rattle.std.specs.List.{list_all}
use Rattle.semantics.specs.Texts.{Bytes}
use Rattle.proof_semantics.specs.declared.item.Item.TheVariants.{Add, Remove}
use Rattle.proof_semantics.specs.declared.lrat_refusal.LratRefusal.{LratRefusal}
use Rattle.proof_semantics.specs.declared.lrat_refusal.LratRefusal.TheVariants.{BadByte, BadNumber, Negative}
use Rattle.proof_semantics.specs.declared.lrat_refusal.LratRefusal.TheVariants.{Cut, OutOfMemory}
use Rattle.proof_semantics.specs.Clauses.{IsLiteralOf}
use Rattle.proof_semantics.specs.Formula.{Formula}
use Rattle.proof_semantics.specs.Logs.{LogItem, IsDerivation}
use Rattle.proof_semantics.specs.Lrat.{lrat_text}
use Rattle.proof_semantics.specs.LratTokens.{is_log_byte}
use Rattle.proof_semantics.specs.LratReading.{whole_items, lrat_refusal, with_end, lrat_items}
use Rattle.proof_semantics.specs.LratGrammar.{SpelledItem, item_words, spelled_item, AreSpelled, text_words}

-- how a text spells items: no bad byte stands in the text, and the words of its tokens are the words of the
-- items, one item behind another
pub record Spells (text : Bytes) (items : List SpelledItem) : Type 0 where
  pub good : list_all is_log_byte text ≡ true
  pub formed : AreSpelled items
  pub words : text_words (with_end text) ≡ flat_map item_words items

-- a text that spells items is read as their log, and no other text is read
pub record GrammarLaw : Type 0 where
  pub accepted : (text : Bytes) (items : List SpelledItem) → Spells text items
      → lrat_items text ≡ Ok (map spelled_item items)
  pub only : (text : Bytes) (log : List LogItem) → lrat_items text ≡ Ok log
      → (items : List SpelledItem) × Spells text items × (log ≡ map spelled_item items)

-- However a text goes on, what is whole in it stays whole and in its place, and a refusal stays. So where a
-- longer text is read to its end, no part with which it begins is refused, and each such part has the first
-- of its items.
pub record GrowthLaw : Type 0 where
  pub items : (text more : Bytes)
      → (later : List LogItem) × (whole_items (text ++ more) ≡ whole_items text ++ later)
  pub refused : (text more : Bytes) (refusal : LratRefusal) → lrat_refusal text ≡ Some refusal
      → (lrat_refusal (text ++ more) ≡ Some refusal) × (whole_items (text ++ more) ≡ whole_items text)
  pub read : (text more : Bytes) (log : List LogItem) → lrat_items (text ++ more) ≡ Ok log
      → (lrat_refusal text ≡ None) × ((later : List LogItem) × (log ≡ whole_items text ++ later))

-- what a text is refused for before its end: a byte, a number or a negative hint
abbrev pub IsWithinText : LratRefusal → Type 0
IsWithinText (BadByte place) = Unit {0}
IsWithinText (BadNumber place) = Unit {0}
IsWithinText (Negative id) = Unit {0}
IsWithinText Cut = ⊥
IsWithinText OutOfMemory = ⊥

-- `Cut` is told at the end alone, and `OutOfMemory` by no definition
pub record LratRefusalLaw : Type 0 where
  pub within : (text : Bytes) (refusal : LratRefusal) → lrat_refusal text ≡ Some refusal
      → IsWithinText refusal
  pub at_end : (text : Bytes) (refusal : LratRefusal) → lrat_items text ≡ Err refusal
      → (refusal ≡ Cut) ⊎ IsWithinText refusal

abbrev pub IsId : ℕ → Type 0
IsId n = (0 < n) × (n < 2 ^ 63)

-- an item with numbers that a text may hold
abbrev pub IsWritable : LogItem → Type 0
IsWritable (Add s) = IsId s.id × All (IsLiteralOf 2147483647) s.literals × All IsId s.hints
IsWritable (Remove ids) = All IsId ids

-- the text that is written of a log is read as that log
abbrev pub RoundTripLaw : Type 0
RoundTripLaw = (log : List LogItem) → All IsWritable log → lrat_items (lrat_text log) ≡ Ok log

-- the text of a derivation over fewer than 2 ^ 31 variables is read as that derivation
abbrev pub DerivationTextLaw : Type 0
DerivationTextLaw = (f : Formula) (log : List LogItem) → f.variables < 2 ^ 31 → IsDerivation f log
    → lrat_items (lrat_text log) ≡ Ok log
