-- The reading of an ASCII AIGER text: a small sound net, or one refusal. Source: AIGER; the order of the
-- refusals is this tool's own.
use Rattle.std.specs.Prelude.{ℕ, ◌/◌, ◌==◌, Bool, not, ◌||◌, nat_le, true, List, [], ◌∷◌, ◌++◌, map}
use Rattle.std.specs.Prelude.{flat_map, length, filter, option_map, slice_index_or, Option, Some, None}
use Rattle.std.specs.Prelude.{Result, Ok, Err, if◌then◌else◌}
use Rattle.std.specs.List.{find, list_any}
use Rattle.semantics.specs.Texts.{Bytes}
use Rattle.semantics.specs.Net.{TableValue, NetValue, signal_names}
use Rattle.semantics.specs.Refusals.{first_doubled, first_ungrounded, first_limit}
use Rattle.aiger_semantics.specs.declared.and_line.AndLine.{AndLine}
use Rattle.aiger_semantics.specs.Circuit.{CircuitValue}
use Rattle.aiger_semantics.specs.TextLines.{text_lines}
use Rattle.aiger_semantics.specs.CircuitLines.{Refusal, text_long, twice, undefined, no_output, loop}
use Rattle.aiger_semantics.specs.CircuitLines.{doubled, limit, and_then, circuit_reading}
use Rattle.aiger_semantics.specs.ReadNet.{variables, signal_of_variable, net_of}

abbrev pub has_variable : List ℕ → ℕ → Bool
has_variable defined variable = list_any (λ v. v == variable) defined

abbrev pub first_repeated_after : List ℕ → List ℕ → Option ℕ
first_repeated_after earlier [] = None
first_repeated_after earlier (v ∷ vs)
    = if has_variable earlier v then Some v else first_repeated_after (earlier ++ v ∷ []) vs

-- the first variable that stands a second time
abbrev pub first_repeated : List ℕ → Option ℕ
first_repeated defined = first_repeated_after [] defined

-- the variables of the two operands
abbrev pub operands : AndLine → List ℕ
operands a = a.left / 2 ∷ a.right / 2 ∷ []

-- what is used: the operands in the order of the lines, and then the outputs' variables
abbrev pub variables_used : CircuitValue → List ℕ
variables_used c = flat_map operands c.ands ++ map (λ literal. literal / 2) c.outputs

-- the first used variable that is neither the constant nor defined
abbrev pub first_undefined : CircuitValue → Option ℕ
first_undefined c = find (λ v. not (v == 0 || has_variable (variables c) v)) (variables_used c)

-- an AND line as a table that reads its operands but for the constant; the line is grounded as this table is
abbrev pub operand_table : List ℕ → AndLine → TableValue
operand_table defined a = record {
  name = [];
  pins = map (signal_of_variable defined) (filter (λ v. not (v == 0)) (operands a));
  rows = [];
  plane = true;
}

abbrev pub operand_tables : CircuitValue → List TableValue
operand_tables c = map (operand_table (variables c)) c.ands

-- the variable of the first line that is not grounded
abbrev pub first_loop : CircuitValue → Option ℕ
first_loop c = option_map (λ i. slice_index_or (map (λ a. a.variable) c.ands) i 0)
    (first_ungrounded (length c.inputs) (operand_tables c))

-- the refusal where there is one, else what the rest says
abbrev pub unless_refused : {X : Type 0} → Option X → (X → Refusal) → Result NetValue Refusal
    → Result NetValue Refusal
unless_refused None refuse rest = rest
unless_refused (Some x) refuse rest = Err (refuse x)

abbrev pub sized : NetValue → Result NetValue Refusal
sized N = unless_refused (first_limit N) limit (Ok N)

abbrev pub named : NetValue → Result NetValue Refusal
named N = unless_refused (first_doubled (signal_names N)) doubled (sized N)

abbrev pub grounded : CircuitValue → Result NetValue Refusal
grounded c = unless_refused (first_loop c) loop (named (net_of c))

abbrev pub with_output : CircuitValue → Result NetValue Refusal
with_output c = if length c.outputs == 0 then Err no_output else grounded c

abbrev pub defined : CircuitValue → Result NetValue Refusal
defined c = unless_refused (first_undefined c) undefined (with_output c)

-- the net of a circuit, or its refusal
abbrev pub net_reading : CircuitValue → Result NetValue Refusal
net_reading c = unless_refused (first_repeated (variables c)) twice (defined c)

-- the net of a text of at most `most` bytes, or the refusal of the text
unfoldable pub aiger_reading : Bytes → ℕ → Result NetValue Refusal
aiger_reading text most = if not (nat_le (length text) most) then Err text_long
    else and_then (circuit_reading (text_lines text)) net_reading
