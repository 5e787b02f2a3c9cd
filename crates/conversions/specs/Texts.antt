-- The text that each conversion makes of IN, or why IN is refused. Source: this tool's own table of commands;
-- BLIF and AIGER.
use Rattle.std.specs.Prelude.{Result, Ok, Err}
use Rattle.semantics.specs.declared.limits.TheConstants.{MOST_INPUT_BYTES}
use Rattle.semantics.specs.Texts.{Bytes}
use Rattle.semantics.specs.Net.{NetValue}
use Rattle.semantics.specs.Blif.{blif_text}
use Rattle.blif_semantics.specs.Reading as blif
use Rattle.hierarchy_semantics.specs.Refusals as hierarchy
use Rattle.hierarchy_semantics.specs.Reading.{hier_reading}
use Rattle.hierarchy_semantics.specs.Flat.{flattened}
use Rattle.aiger_semantics.specs.CircuitLines as aiger
use Rattle.aiger_semantics.specs.Reading.{aiger_reading}
use Rattle.aiger_semantics.specs.Circuit.{CircuitValue}
use Rattle.aiger_semantics.specs.NetCircuit.{ands_of}
use Rattle.aiger_semantics.specs.Text.{aiger_text}
use Rattle.job_semantics.specs.Input.{input_reading}

-- what is made of what was read
abbrev pub made : {A B R : Type 0} → (A → B) → Result A R → Result B R
made f (Ok a) = Ok (f a)
made f (Err refusal) = Err refusal

-- what is read further in what was read
abbrev pub read_further : {A B R : Type 0} → (A → Result B R) → Result A R → Result B R
read_further f (Ok a) = f a
read_further f (Err refusal) = Err refusal

-- the flat net of the hierarchy of a text
abbrev pub flat_reading : Bytes → Result NetValue hierarchy.HierRefusal
flat_reading text = read_further flattened (hier_reading text MOST_INPUT_BYTES)

abbrev pub flat_text : Bytes → Result Bytes hierarchy.HierRefusal
flat_text text = made blif_text (flat_reading text)

-- the AND circuit of the net of a text
abbrev pub circuit_reading : Bytes → Result CircuitValue blif.Refusal
circuit_reading text = made ands_of (input_reading text)

abbrev pub aag_text : Bytes → Result Bytes blif.Refusal
aag_text text = made aiger_text (circuit_reading text)

-- the text of the net of an AIGER text
abbrev pub netlist_text : Bytes → Result Bytes aiger.Refusal
netlist_text text = made blif_text (aiger_reading text MOST_INPUT_BYTES)
