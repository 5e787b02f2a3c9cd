-- The first wrong line of a text of several models. Source: BLIF; what is refused, and in which order, is
-- this tool's own.
use Rattle.std.specs.Prelude.{Bool, false, not, ◌&&◌, List, [], ◌∷◌, Option, Some, None, if◌then◌else◌}
use Rattle.std.specs.List.{list_all}
use Rattle.semantics.specs.Texts.{Bytes, Line}
use Rattle.blif_semantics.specs.Lines.{Statement}
use Rattle.blif_semantics.specs.Statements.{kind_of, first_word, arguments, is_printable, is_name, is_model}
use Rattle.blif_semantics.specs.Statements.{is_end, Place, table_before, Wrong, bad_byte, after_end}
use Rattle.blif_semantics.specs.Statements.{bad_name, unless, wrong_by, WrongLine}
use Rattle.hierarchy_semantics.specs.Models.{is_subckt, binding_of}

-- the latest line, which stands first, is `.end`
abbrev pub has_ended : List Line → Bool
has_ended [] = false
has_ended (words ∷ earlier) = is_end (kind_of words)

-- After `.end` the next line must be a `.model`, and a `.model` line is never the second one of its model.
abbrev pub place_of : List Line → Line → Place
place_of earlier words = record {
  had_model = false;
  had_end = has_ended earlier && not (is_model (kind_of words));
  table = table_before earlier;
}

abbrev pub is_binding : Bytes → Bool
is_binding word = is_name (binding_of word).formal && is_name (binding_of word).actual

-- behind `.subckt` stand a name and bindings
abbrev pub is_use : List Bytes → Bool
is_use words = is_name (first_word words) && list_all is_binding (arguments words)

abbrev pub wrong_at : Place → Line → Option Wrong
wrong_at place words =
    if not (list_all (list_all is_printable) words) then Some bad_byte
    else (if place.had_end then Some after_end
    else (if is_subckt words then unless (is_use (arguments words)) bad_name
    else wrong_by (kind_of words) place words))

abbrev pub first_wrong_after : List Line → List Statement → Option WrongLine
first_wrong_after earlier [] = None
first_wrong_after earlier (s ∷ rest) =
    elim (wrong_at (place_of earlier s.words) s.words) [
      | None ↦ first_wrong_after (s.words ∷ earlier) rest
      | Some w ↦ Some
          (record { line = s.line; wrong = w })
    ]

-- the first line that is wrong
unfoldable pub first_wrong : List Statement → Option WrongLine
first_wrong lines = first_wrong_after [] lines
