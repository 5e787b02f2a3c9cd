-- The laws about circuits, each the contract of a function without parameters.
use Rattle.std.specs.Prelude.{◌≡◌, ◌↔◌, ℕ, ◌+◌, ◌*◌, ◌<◌, ◌≤◌, Bool, Ok, Err, List, ◌++◌, map, length}
use Rattle.std.specs.List.{AllByRecursion, range_with_len}
use Rattle.semantics.specs.Texts.{Bytes}
use Rattle.semantics.specs.Net.{TableValue, NetValue, table_at, IsAcyclic, IsSound, IsSmall}
use Rattle.semantics.specs.Value.{outputs_of}
use Rattle.aiger_semantics.specs.Circuit.{CircuitValue, HasOutputs}
use Rattle.aiger_semantics.specs.Text.{aiger_text}
use Rattle.aiger_semantics.specs.TextLines.{text_lines}
use Rattle.aiger_semantics.specs.CircuitLines.{text_long, circuit_reading}
use Rattle.aiger_semantics.specs.ReadNet.{net_of}
use Rattle.aiger_semantics.specs.Reading.{net_reading, aiger_reading}
use Rattle.aiger_semantics.specs.NetCircuit.{Literals, table_literal, first_variable, input_literal}
use Rattle.aiger_semantics.specs.NetCircuit.{signal_literal, ands_of}

-- literals that give each input the literal of its variable, and each table the literal of its rows
pub record AreLiterals (n : ℕ) (tables : List TableValue) (literals : Literals) : Type 0 where
  pub input : (s : ℕ) → s < n → literals s ≡ input_literal s
  pub table : (i : ℕ) → i < length tables
      → literals (n + i) ≡ table_literal literals (first_variable n tables i) (table_at tables i)

-- The signals of a sound net have one literal each, and at every input vector the circuit of the net has the
-- outputs of the net.
pub record NetCircuitLaw : Type 0 where
  pub literals : (n : ℕ) (tables : List TableValue) → IsAcyclic n tables
      → AreLiterals n tables (signal_literal n tables)
  pub only : (n : ℕ) (tables : List TableValue) (literals : Literals) → IsAcyclic n tables
      → AreLiterals n tables literals
      → (s : ℕ) → s < n + length tables → literals s ≡ signal_literal n tables s
  pub outputs : (N : NetValue) → IsSound N → (x : List Bool) → HasOutputs (ands_of N) x (outputs_of N x)

-- how many variables a circuit has
abbrev pub variable_count : CircuitValue → ℕ
variable_count c = length c.inputs + length c.ands

-- the literal is a constant, or of a variable of the circuit
abbrev pub IsLiteralOf : CircuitValue → ℕ → Type 0
IsLiteralOf c literal = literal < 2 * (variable_count c + 1)

-- The variables of the circuit of a net are counted from 1, the inputs before the AND lines, and the
-- circuit's literals are of these variables.
pub record NumberedLaw : Type 0 where
  pub variables : (N : NetValue) → IsSound N
      → (ands_of N).inputs ++ map (λ a. a.variable) (ands_of N).ands
      ≡ range_with_len 1 (variable_count (ands_of N))
  pub lines : (N : NetValue) → IsSound N
      → AllByRecursion (λ a. IsLiteralOf (ands_of N) a.left × IsLiteralOf (ands_of N) a.right)
      (ands_of N).ands
  pub outputs : (N : NetValue) → IsSound N → AllByRecursion (IsLiteralOf (ands_of N)) (ands_of N).outputs

-- What is read is a small sound net: the net of the circuit that the text's lines say, with the circuit's
-- outputs at every input vector. The text keeps the limit on its length; the texts beyond that limit, and no
-- others, are refused for their length.
pub record ReadingLaw : Type 0 where
  pub short : (text : Bytes) (most : ℕ) (N : NetValue) → aiger_reading text most ≡ Ok N → length text ≤ most
  pub long : (text : Bytes) (most : ℕ) → (aiger_reading text most ≡ Err text_long) ↔ (most < length text)
  pub sound : (text : Bytes) (most : ℕ) (N : NetValue) → aiger_reading text most ≡ Ok N → IsSound N
  pub small : (text : Bytes) (most : ℕ) (N : NetValue) → aiger_reading text most ≡ Ok N → IsSmall N
  pub circuit : (text : Bytes) (most : ℕ) (N : NetValue) → aiger_reading text most ≡ Ok N
      → (c : CircuitValue) × (circuit_reading (text_lines text) ≡ Ok c) × (net_of c ≡ N)
      × ((x : List Bool) → HasOutputs c x (outputs_of N x))

-- the text of the circuit of a net
abbrev pub circuit_text : NetValue → Bytes
circuit_text N = aiger_text (ands_of N)

-- The text of the circuit of a small sound net is read back as that circuit, so it is the text of no other.
-- Within the limit it is read as the net of that circuit, or refused as that is.
pub record WrittenLaw : Type 0 where
  pub read : (N : NetValue) → IsSound N → IsSmall N
      → circuit_reading (text_lines (circuit_text N)) ≡ Ok (ands_of N)
  pub only : (N M : NetValue) → IsSound N → IsSmall N → IsSound M → IsSmall M
      → circuit_text N ≡ circuit_text M → ands_of N ≡ ands_of M
  pub net : (N : NetValue) (most : ℕ) → IsSound N → IsSmall N → length (circuit_text N) ≤ most
      → aiger_reading (circuit_text N) most ≡ net_reading (ands_of N)
