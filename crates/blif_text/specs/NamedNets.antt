-- A net with names in the place of signals, while its lines are read.
use Rattle.std.specs.Prelude.{List, [], ◌∷◌, ◌++◌, Option, Some, None}
use Rattle.std.specs.Option.{option_map, option_to_list}
use Rattle.semantics.specs.Texts.{Bytes, Line}
use Rattle.blif_semantics.specs.declared.kind.Kind.{Kind}
use Rattle.blif_semantics.specs.declared.kind.Kind.TheVariants as kind
use Rattle.blif_semantics.specs.Statements.{first_word}
use Rattle.blif_semantics.specs.Tables.{NamedTable, named, with_row, with_rows, rows_first, tables_of}
use Rattle.blif_semantics.specs.Reading.{NamedNet, model_of, is_inputs, is_outputs, listed}

-- what was read so far, and the table that may get more rows
pub record NetSoFar : Type 0 where
  pub model : Option Bytes
  pub inputs : List Bytes
  pub outputs : List Bytes
  pub tables : List NamedTable
  pub begun : Option NamedTable

-- the tables of the lines to come; a table that was begun gets their first rows
abbrev pub after_begun : Option NamedTable → List Line → List NamedTable
after_begun None lines = tables_of lines
after_begun (Some t) lines = with_rows t (rows_first lines) ∷ tables_of lines

-- the net of what was read so far and of the lines to come
abbrev pub with_rest : NetSoFar → List Line → NamedNet
with_rest d lines = record {
  model = elim d.model [ None ↦ model_of lines | Some model ↦ model ];
  inputs = d.inputs ++ listed is_inputs lines;
  outputs = d.outputs ++ listed is_outputs lines;
  tables = d.tables ++ after_begun d.begun lines;
}

-- before any line
abbrev pub nothing_read : NetSoFar
nothing_read = record { model = None; inputs = []; outputs = []; tables = []; begun = None }

-- no table gets more rows
abbrev pub ended : NetSoFar → NetSoFar
ended d = record d { tables = d.tables ++ option_to_list d.begun; begun = None }

-- the row goes to the table that may get more rows, if there is one
abbrev pub row_added : NetSoFar → Line → NetSoFar
row_added d words = record d { begun = option_map (λ t. with_row t words) d.begun }

-- what a line of this kind, which is no row, adds by its words after the first
abbrev pub added : Kind → NetSoFar → List Bytes → NetSoFar
added kind.Model d words = record d
    { model = elim d.model [ None ↦ Some (first_word words) | Some model ↦ Some model ] }
added kind.Inputs d words = record d { inputs = d.inputs ++ words }
added kind.Outputs d words = record d { outputs = d.outputs ++ words }
added kind.Names d words = record d { begun = Some (named words) }
added _ d words = d
