-- The models of a text and their statements. Source: BLIF's `.model` and `.subckt`.
use Rattle.std.specs.Prelude.{ℕ, ◌+◌, ◌==◌, not, ◌&&◌, ◌||◌, Bool, List, [], ◌∷◌, ◌++◌, map, flat_map}
use Rattle.std.specs.Prelude.{length, take, drop, position, codes, bytes_eq, Some, None, if◌then◌else◌}
use Rattle.std.specs.List.{find}
use Rattle.semantics.specs.Texts.{Bytes, Line}
use Rattle.blif_semantics.specs.declared.kind.Kind.{Kind}
use Rattle.blif_semantics.specs.Lines.{Statement}
use Rattle.blif_semantics.specs.Statements.{kind_of, first_word, arguments, is_model}
use Rattle.blif_semantics.specs.Tables.{NamedTable, table_first}
use Rattle.blif_semantics.specs.Reading.{model_of, is_inputs, is_outputs, listed}

-- `FORMAL=ACTUAL`: a port of the model that is used, and a name of the model that uses it
pub record Binding : Type 0 where
  pub formal : Bytes
  pub actual : Bytes

-- a `.subckt` statement: the use of a model, in the line of this number
pub record Subcircuit : Type 0 where
  pub line : ℕ
  pub model : Bytes
  pub bindings : List Binding

-- what stands in a model, in the order of its statements
pub data Part : Type 0 where
  names_part : NamedTable → Part
  subckt_part : Subcircuit → Part

-- the ports stand in text order, inputs and outputs mixed
pub record BlifModel : Type 0 where
  pub name : Bytes
  pub ports : List Bytes
  pub inputs : List Bytes
  pub outputs : List Bytes
  pub parts : List Part

-- the first model is the main one
abbrev pub Hierarchy : Type 0
Hierarchy = List BlifModel

abbrev pub is_subckt : Line → Bool
is_subckt words = bytes_eq (first_word words) (codes ".subckt")

-- split at the first `=`
abbrev pub binding_of : Bytes → Binding
binding_of word =
    elim (position (λ b. b == 61) word) [
      | None ↦ record { formal = word; actual = [] }
      | Some at ↦ record { formal = take at word; actual = drop (at + 1) word }
    ]

abbrev pub subcircuit_of : Statement → Subcircuit
subcircuit_of s = record {
  line = s.line;
  model = first_word (arguments s.words);
  bindings = map binding_of (arguments (arguments s.words));
}

-- a `.names` line is a table with the rows that come right after it, and a `.subckt` line is the use of a
-- model
abbrev pub part_first : Statement → List Line → List Part
part_first s lines =
    if is_subckt s.words then subckt_part (subcircuit_of s) ∷ []
    else map names_part (table_first (kind_of s.words) s.words lines [])

abbrev pub parts_of : List Statement → List Part
parts_of [] = []
parts_of (s ∷ rest) = part_first s (map (λ t. t.words) rest) ++ parts_of rest

abbrev pub is_port : Kind → Bool
is_port kind = is_inputs kind || is_outputs kind

-- the model of the lines from its `.model` line to the next one
abbrev pub model_from : List Statement → BlifModel
model_from lines =
    let words = map (λ s. s.words) lines in
    record {
      name = model_of words;
      ports = listed is_port words;
      inputs = listed is_inputs words;
      outputs = listed is_outputs words;
      parts = parts_of lines;
    }

-- the lines before the first `.model` line, and those of each model from its `.model` line on
pub record Sections : Type 0 where
  pub before : List Statement
  pub sections : List (List Statement)

abbrev pub with_line : Statement → Sections → Sections
with_line s rest =
    if is_model (kind_of s.words) then record { before = []; sections = (s ∷ rest.before) ∷ rest.sections }
    else record { before = s ∷ rest.before; sections = rest.sections }

abbrev pub sections_of : List Statement → Sections
sections_of [] = record { before = []; sections = [] }
sections_of (s ∷ rest) = with_line s (sections_of rest)

-- lines before any `.model` line are a first model, named `top`; a text without lines is that model alone
abbrev pub all_sections : Sections → List (List Statement)
all_sections found = if length found.before == 0
    && not (length found.sections == 0) then found.sections else found.before ∷ found.sections

unfoldable pub hierarchy_of : List Statement → Hierarchy
hierarchy_of lines = map model_from (all_sections (sections_of lines))

-- the model that stands for a name that no model has
abbrev pub no_model : BlifModel
no_model = record { name = []; ports = []; inputs = []; outputs = []; parts = [] }

abbrev pub main_of : Hierarchy → BlifModel
main_of [] = no_model
main_of (m ∷ h) = m

abbrev pub model_named : Hierarchy → Bytes → BlifModel
model_named h name = elim (find (λ m. bytes_eq m.name name) h) [ None ↦ no_model | Some m ↦ m ]

abbrev pub part_uses : Part → List Subcircuit
part_uses (names_part t) = []
part_uses (subckt_part c) = c ∷ []

-- the uses of models in a model
abbrev pub uses_of : BlifModel → List Subcircuit
uses_of m = flat_map part_uses m.parts

-- the uses of models in a text
abbrev pub all_uses : Hierarchy → List Subcircuit
all_uses h = flat_map uses_of h
