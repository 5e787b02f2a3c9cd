-- The texts that symbols give to places, place by place, and the names that they make.
use Rattle.std.specs.Prelude.{◌≡◌, ℕ, ◌<◌, List, [], ◌∷◌, length, slice_index_or, decimal, if◌then◌else◌}
use Rattle.semantics.specs.Texts.{Bytes}
use Rattle.blif_semantics.specs.Statements.{is_name}
use Rattle.aiger_semantics.specs.declared.header.Header.{Header}
use Rattle.aiger_semantics.specs.CircuitLines.{Symbol, symbol_text}

-- for each place of an input, and for each place of an output, a text, which is empty where no symbol gives
-- one
pub record SymbolTexts : Type 0 where
  pub inputs : List Bytes
  pub outputs : List Bytes

-- `count` texts, each of which is the text of the symbols for its letter and place
pub record AreTextsOf (symbols : List Symbol) (letter count : ℕ) (texts : List Bytes) : Type 0 where
  pub size : length texts ≡ count
  pub each : (place : ℕ) → place < count → slice_index_or texts place [] ≡ symbol_text symbols letter place

-- the letters `i` and `o`
pub record IsSymbolTexts (h : Header) (symbols : List Symbol) (texts : SymbolTexts) : Type 0 where
  pub inputs : AreTextsOf symbols 105 h.inputs texts.inputs
  pub outputs : AreTextsOf symbols 111 h.outputs texts.outputs

-- the text where it is a name, else the letter and the place
abbrev pub name_or : ℕ → ℕ → Bytes → Bytes
name_or letter place text = if is_name text then text else letter ∷ decimal place
