-- What the judgement of a line of a text of several models needs of the lines before it, one line further.
use Rattle.std.specs.Prelude.{Bool, not, ◌&&◌, false, List, [], ◌∷◌, Option, Some, None}
use Rattle.semantics.specs.Texts.{Line}
use Rattle.blif_semantics.specs.Lines.{Statement}
use Rattle.blif_semantics.specs.Statements as s
use Rattle.blif_semantics.specs.Statements.{kind_of, is_model, is_end, table_by, WrongLine}
use Rattle.blif_text.specs.declared.judging.OpenTable.{OpenTable}
use Rattle.blif_text.specs.Places.{table_of}
use Rattle.hierarchy_semantics.specs.ModelLines.{wrong_at}

-- `ended` says whether the line before was `.end`, and `table` may get rows
abbrev pub place_with : Bool → Option s.OpenTable → Line → s.Place
place_with ended table words
    = record { had_model = false; had_end = ended && not (is_model (kind_of words)); table = table }

abbrev pub place_for : Bool → Option OpenTable → Line → s.Place
place_for ended table words = place_with ended (table_of table) words

-- the first wrong line, where the lines before left this
abbrev pub first_wrong_in : Bool → Option s.OpenTable → List Statement → Option WrongLine
first_wrong_in ended table [] = None
first_wrong_in ended table (s ∷ rest) =
    elim (wrong_at (place_with ended table s.words) s.words) [
      | None ↦ first_wrong_in (is_end (kind_of s.words)) (table_by (kind_of s.words) s.words table) rest
      | Some w ↦ Some (record { line = s.line; wrong = w })
    ]
