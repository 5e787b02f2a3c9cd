-- The reading of a text: a small sound net, or one refusal. Source: BLIF; the order of the refusals is this
-- tool's own.
use Rattle.std.specs.Prelude.{ℕ, ◌+◌, ◌==◌, Bool, true, false, not, nat_le, List, ◌++◌, map, flat_map}
use Rattle.std.specs.Prelude.{length, filter, codes, bytes_eq, position, Option, Some, None, Result, Ok, Err}
use Rattle.std.specs.Prelude.{if◌then◌else◌}
use Rattle.std.specs.List.{find}
use Rattle.semantics.specs.declared.which.Which.{Which}
use Rattle.semantics.specs.Texts.{Bytes, Line}
use Rattle.semantics.specs.Net.{NetValue, input_count, signal_names, name_of}
use Rattle.semantics.specs.Refusals.{has_name, first_doubled, first_ungrounded, first_limit}
use Rattle.blif_semantics.specs.declared.kind.Kind.{Kind}
use Rattle.blif_semantics.specs.declared.kind.Kind.TheVariants as kind
use Rattle.blif_semantics.specs.Lines.{logical_lines, statements}
use Rattle.blif_semantics.specs.Statements.{kind_of, first_word, arguments, is_model, Wrong, first_wrong}
use Rattle.blif_semantics.specs.Tables.{NamedTable, tables_of}

pub data Refusal : Type 0 where
  text_long : Refusal
  wrong_line : (line : ℕ) → Wrong → Refusal
  doubled : (name : Bytes) → Refusal
  no_output : Refusal
  undriven : (name : Bytes) → Refusal
  cycle : (name : Bytes) → Refusal
  limit : Which → Refusal

-- a net whose pins and outputs are names
pub record NamedNet : Type 0 where
  pub model : Bytes
  pub inputs : List Bytes
  pub outputs : List Bytes
  pub tables : List NamedTable

-- the name that the `.model` line gives, or `top`
abbrev pub model_of : List Line → Bytes
model_of lines = elim (find (λ words. is_model (kind_of words)) lines)
    [ None ↦ codes "top" | Some words ↦ first_word (arguments words) ]

abbrev pub is_inputs : Kind → Bool
is_inputs kind.Inputs = true
is_inputs _ = false

abbrev pub is_outputs : Kind → Bool
is_outputs kind.Outputs = true
is_outputs _ = false

-- the words after the first in all lines of a kind
abbrev pub listed : (Kind → Bool) → List Line → List Bytes
listed is_kind lines = flat_map arguments (filter (λ words. is_kind (kind_of words)) lines)

unfoldable pub named_net : List Line → NamedNet
named_net lines = record {
  model = model_of lines;
  inputs = listed is_inputs lines;
  outputs = listed is_outputs lines;
  tables = tables_of lines;
}

-- the names that are driven: those of the inputs and of the tables
abbrev pub names_of : NamedNet → List Bytes
names_of d = d.inputs ++ map (λ t. t.name) d.tables

-- the names that are read: the pins in table and pin order, and then the outputs
abbrev pub names_read : NamedNet → List Bytes
names_read d = flat_map (λ t. t.pins) d.tables ++ d.outputs

abbrev pub first_undriven_name : NamedNet → Option Bytes
first_undriven_name d = find (λ word. not (has_name (names_of d) word)) (names_read d)

-- the signal with a name, where there is one
abbrev pub signal_named : List Bytes → Bytes → ℕ
signal_named names word = elim (position (λ name. bytes_eq word name) names) [ None ↦ 0 | Some s ↦ s ]

-- the net with signals in the place of names
unfoldable pub numbered : NamedNet → NetValue
numbered d =
    let names = names_of d in
    record {
      model = d.model;
      inputs = d.inputs;
      tables = map (λ t. record
          { name = t.name; pins = map (signal_named names) t.pins; rows = t.rows; plane = t.plane }) d.tables;
      outputs = map (signal_named names) d.outputs;
    }

-- the refusal where there is one, else what the rest says
abbrev pub unless_refused : {X : Type 0} → Option X → (X → Refusal) → Result NetValue Refusal
    → Result NetValue Refusal
unless_refused None refuse rest = rest
unless_refused (Some x) refuse rest = Err (refuse x)

abbrev pub sized : NetValue → Result NetValue Refusal
sized N = unless_refused (first_limit N) limit (Ok N)

abbrev pub grounded : NetValue → Result NetValue Refusal
grounded N = unless_refused (first_ungrounded (input_count N) N.tables)
    (λ i. cycle (name_of (signal_names N) (input_count N + i))) (sized N)

abbrev pub driven : NamedNet → Result NetValue Refusal
driven d = unless_refused (first_undriven_name d) undriven (grounded (numbered d))

abbrev pub with_output : NamedNet → Result NetValue Refusal
with_output d = if length d.outputs == 0 then Err no_output else driven d

abbrev pub single : NamedNet → Result NetValue Refusal
single d = unless_refused (first_doubled (names_of d)) doubled (with_output d)

-- the net of lines of words, or their refusal
abbrev pub lines_reading : List Line → Result NetValue Refusal
lines_reading lines = single (named_net lines)

-- the net of a text of at most `most` bytes, or the refusal of the text
unfoldable pub blif_reading : Bytes → ℕ → Result NetValue Refusal
blif_reading text most =
    let lines = statements (logical_lines text) in
    if not (nat_le (length text) most) then Err text_long
    else unless_refused (first_wrong lines) (λ w. wrong_line w.line w.wrong)
    (lines_reading (map (λ s. s.words) lines))
