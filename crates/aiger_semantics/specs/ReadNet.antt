-- The net that an AND circuit is read as: a table for each AND line, and a table for each output that is no
-- signal yet. Source: AIGER and BLIF; which tables they are is this tool's own.
use Rattle.std.specs.Prelude.{ℕ, ◌+◌, ◌/◌, ◌%◌, ◌==◌, Bool, true, false, not, ◌&&◌, List, [], ◌∷◌, ◌++◌, map}
use Rattle.std.specs.Prelude.{length, filter, codes, decimal, bytes_eq, position, Option, Some, None}
use Rattle.std.specs.Prelude.{if◌then◌else◌}
use Rattle.std.specs.List.{list_any}
use Rattle.semantics.specs.declared.mark.Mark.{Mark}
use Rattle.semantics.specs.declared.mark.Mark.TheVariants.{Zero, One}
use Rattle.semantics.specs.Texts.{Bytes}
use Rattle.semantics.specs.Net.{TableValue, NetValue, constant_table}
use Rattle.aiger_semantics.specs.declared.and_line.AndLine.{AndLine}
use Rattle.aiger_semantics.specs.Circuit.{CircuitValue, literal_of_variable}

-- the variables that are defined, in the order of their signals
abbrev pub variables : CircuitValue → List ℕ
variables c = c.inputs ++ map (λ a. a.variable) c.ands

abbrev pub place_or_end : Option ℕ → ℕ
place_or_end None = 0
place_or_end (Some place) = place

-- the signal of a variable that is defined
abbrev pub signal_of_variable : List ℕ → ℕ → ℕ
signal_of_variable defined variable = place_or_end (position (λ v. v == variable) defined)

abbrev pub literal_mark : ℕ → Mark
literal_mark literal = if literal % 2 == 0 then One else Zero

-- the literals that are not the constant 1
abbrev pub asked : List ℕ → List ℕ
asked literals = filter (λ literal. not (literal == 1)) literals

-- the table that is the conjunction of literals: a canonical constant, or one row with a pin for each literal
-- that is no constant
abbrev pub conjunction_table : List ℕ → Bytes → List ℕ → TableValue
conjunction_table defined name literals =
    if list_any (λ literal. literal == 0) literals then constant_table name false
    else record {
      name = name;
      pins = map (λ literal. signal_of_variable defined (literal / 2)) (asked literals);
      rows = map literal_mark (asked literals) ∷ [];
      plane = true;
    }

-- `$a` and the variable
abbrev pub and_name : ℕ → Bytes
and_name variable = codes "$a" ++ decimal variable

abbrev pub and_table : List ℕ → AndLine → TableValue
and_table defined a = conjunction_table defined (and_name a.variable) (a.left ∷ a.right ∷ [])

-- a name and a literal
pub record Port : Type 0 where
  pub name : Bytes
  pub literal : ℕ

abbrev pub is_port : Port → Port → Bool
is_port p q = bytes_eq p.name q.name && p.literal == q.literal

abbrev pub ports : List Bytes → List ℕ → List Port
ports [] literals = []
ports (name ∷ names) [] = []
ports (name ∷ names) (literal ∷ literals) = record { name = name; literal = literal } ∷ ports names literals

abbrev pub input_ports : CircuitValue → List Port
input_ports c = ports c.input_names (map literal_of_variable c.inputs)

abbrev pub output_ports : CircuitValue → List Port
output_ports c = ports c.output_names c.outputs

abbrev pub has_port : List Port → Port → Bool
has_port earlier p = list_any (is_port p) earlier

-- the ports that stand neither in the first list nor earlier in their own
abbrev pub new_ports : List Port → List Port → List Port
new_ports earlier [] = []
new_ports earlier (p ∷ ps)
    = if has_port earlier p then new_ports earlier ps else p ∷ new_ports (earlier ++ p ∷ []) ps

-- the outputs that have tables of their own: neither an input nor an earlier output has the name and the
-- literal
abbrev pub own_outputs : CircuitValue → List Port
own_outputs c = new_ports (input_ports c) (output_ports c)

abbrev pub output_table : List ℕ → Port → TableValue
output_table defined p = conjunction_table defined p.name (p.literal ∷ [])

-- the signal of an output: the input with the output's name and literal, or the first output that has them
abbrev pub port_signal : CircuitValue → Port → ℕ
port_signal c p =
    elim (position (is_port p) (input_ports c)) [
      | None ↦ length c.inputs + length c.ands + place_or_end (position (is_port p) (own_outputs c))
      | Some input ↦ input
    ]

unfoldable pub net_of : CircuitValue → NetValue
net_of c = record {
  model = codes "top";
  inputs = c.input_names;
  tables = map (and_table (variables c)) c.ands ++ map (output_table (variables c)) (own_outputs c);
  outputs = map (port_signal c) (output_ports c);
}
