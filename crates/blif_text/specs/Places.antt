-- What the judgement of a line needs of the lines before it, one line further.
use Rattle.std.specs.Prelude.{false, ◌||◌, List, [], ◌∷◌, Option, Some, None}
use Rattle.semantics.specs.Texts.{Line}
use Rattle.blif_semantics.specs.Lines.{Statement}
use Rattle.blif_semantics.specs.Statements as s
use Rattle.blif_semantics.specs.Statements.{kind_of, first_word, is_model, is_end, table_by, wrong, WrongLine}
use Rattle.blif_text.specs.declared.judging.OpenTable.{OpenTable}
use Rattle.blif_text.specs.declared.judging.Place.{Place}
use Rattle.blif_text.specs.declared.judging.Wrong.{Wrong}
use Rattle.blif_text.specs.declared.judging.Wrong.TheVariants.{BadByte, Command, StrayRow, BadRow}
use Rattle.blif_text.specs.declared.judging.Wrong.TheVariants.{MixedPlane, SecondModel, AfterEnd, NamesEmpty}
use Rattle.blif_text.specs.declared.judging.Wrong.TheVariants.{BadName}

-- the value, in the definitions, of what the code holds
abbrev pub table_of : Option OpenTable → Option s.OpenTable
table_of None = None
table_of (Some table) = Some (record { pins = table.pins; plane = table.plane })

abbrev pub place_of : Place → s.Place
place_of place = record { had_model = place.had_model; had_end = place.had_end; table = table_of place.table }

abbrev pub place_next : s.Place → Line → s.Place
place_next place words = record {
  had_model = is_model (kind_of words) || place.had_model;
  had_end = is_end (kind_of words) || place.had_end;
  table = table_by (kind_of words) words place.table;
}

-- before any line
abbrev pub start : s.Place
start = record { had_model = false; had_end = false; table = None }

-- the first wrong line, where the lines before it left this place
abbrev pub first_wrong_in : s.Place → List Statement → Option WrongLine
first_wrong_in place [] = None
first_wrong_in place (s ∷ rest) =
    elim (wrong place s.words) [
      | None ↦ first_wrong_in (place_next place s.words) rest
      | Some w ↦ Some
          (record { line = s.line; wrong = w })
    ]

-- what is wrong with a line of these words
abbrev pub wrong_of : Wrong → Line → s.Wrong
wrong_of BadByte words = s.bad_byte
wrong_of Command words = s.command (first_word words)
wrong_of StrayRow words = s.stray_row
wrong_of BadRow words = s.bad_row
wrong_of MixedPlane words = s.mixed_plane
wrong_of SecondModel words = s.second_model
wrong_of AfterEnd words = s.after_end
wrong_of NamesEmpty words = s.names_empty
wrong_of BadName words = s.bad_name

abbrev pub wrong_if : Option Wrong → Line → Option s.Wrong
wrong_if None words = None
wrong_if (Some w) words = Some (wrong_of w words)
