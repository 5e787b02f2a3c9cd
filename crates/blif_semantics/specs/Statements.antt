-- What each line of words is, and the first line that is wrong. Source: BLIF's `.model`, `.inputs`,
-- `.outputs`, `.names`, `.end` and the rows of tables; what is refused, and in which order, is this tool's
-- own.
use Rattle.std.specs.Prelude.{ℕ, zero, suc, ◌-◌, ◌==◌, nat_le, Bool, true, false, not, ◌||◌, ◌&&◌, List, []}
use Rattle.std.specs.Prelude.{◌∷◌, length, slice_index, codes, bytes_eq, Option, Some, None, if◌then◌else◌}
use Rattle.std.specs.List.{list_any, list_all}
use mathlib.Core.Bool.{beq}
use Rattle.semantics.specs.Texts.{Bytes, Line}
use Rattle.blif_semantics.specs.declared.kind.Kind.{Kind}
use Rattle.blif_semantics.specs.declared.kind.Kind.TheVariants as kind
use Rattle.blif_semantics.specs.Lines.{Statement}

abbrev pub begins_with_dot : Bytes → Bool
begins_with_dot [] = false
begins_with_dot (b ∷ bs) = b == 46

abbrev pub kind_of_word : Bytes → Kind
kind_of_word word =
    if bytes_eq word (codes ".model") then kind.Model
    else (if bytes_eq word (codes ".inputs") then kind.Inputs
    else (if bytes_eq word (codes ".outputs") then kind.Outputs
    else (if bytes_eq word (codes ".names") then kind.Names
    else (if bytes_eq word (codes ".end") then kind.End
    else (if begins_with_dot word then kind.Command
    else kind.Row)))))

abbrev pub first_word : Line → Bytes
first_word [] = []
first_word (word ∷ words) = word

-- what a line is, by its first word
abbrev pub kind_of : Line → Kind
kind_of [] = kind.Row
kind_of (word ∷ words) = kind_of_word word

-- the words after the first
abbrev pub arguments : Line → List Bytes
arguments [] = []
arguments (word ∷ words) = words

abbrev pub is_printable : ℕ → Bool
is_printable b = nat_le 33 b && nat_le b 126

-- `IsName` as a test
abbrev pub has_name_bytes : Bytes → Bool
has_name_bytes word = list_all (λ b. is_printable b && not (b == 35)) word

abbrev pub is_name : Bytes → Bool
is_name word = not (length word == 0) && nat_le (length word) 1023 && has_name_bytes word
    && not (slice_index word (length word - 1) == 92)

abbrev pub are_names : List Bytes → Bool
are_names words = list_all is_name words

abbrev pub is_mark : ℕ → Bool
is_mark b = b == 48 || b == 49 || b == 45

abbrev pub plane_of : Bytes → Option Bool
plane_of (byte ∷ []) = if byte == 48 then Some false else (if byte == 49 then Some true else None)
plane_of _ = None

-- the plane of a row of a table with this number of pins, where the words have the form of such a row
abbrev pub row_plane : ℕ → Line → Option Bool
row_plane zero (plane ∷ []) = plane_of plane
row_plane (suc n) (marks ∷ plane ∷ [])
    = if length marks == suc n && list_all is_mark marks then plane_of plane else None
row_plane _ _ = None

-- ---- what the lines before a line say; the latest stands first

abbrev pub is_model : Kind → Bool
is_model kind.Model = true
is_model _ = false

abbrev pub is_end : Kind → Bool
is_end kind.End = true
is_end _ = false

abbrev pub had_model : List Line → Bool
had_model earlier = list_any (λ words. is_model (kind_of words)) earlier

abbrev pub had_end : List Line → Bool
had_end earlier = list_any (λ words. is_end (kind_of words)) earlier

-- a table whose rows may come next: the number of its pins, and its plane once it has a row
pub record OpenTable : Type 0 where
  pub pins : ℕ
  pub plane : Option Bool

-- the table after one row more: its first row sets its plane
abbrev pub with_plane : Option OpenTable → Line → Option OpenTable
with_plane None words = None
with_plane (Some table) words
    = Some (record table {
      plane
          = elim table.plane [ None ↦ row_plane table.pins words | Some plane ↦ Some plane ];
    })

abbrev pub table_by : Kind → Line → Option OpenTable → Option OpenTable
table_by kind.Names words before = Some (record { pins = length (arguments words) - 1; plane = None })
table_by kind.Row words before = with_plane before words
table_by _ words before = None

-- the table to which a row belongs: that of the latest line that is no row
abbrev pub table_before : List Line → Option OpenTable
table_before [] = None
table_before (words ∷ earlier) = table_by (kind_of words) words (table_before earlier)

-- all that the judgement of a line needs of the lines before it
pub record Place : Type 0 where
  pub had_model : Bool
  pub had_end : Bool
  pub table : Option OpenTable

abbrev pub place_after : List Line → Place
place_after earlier = record
    { had_model = had_model earlier; had_end = had_end earlier; table = table_before earlier }

-- ---- what is wrong with a line

pub data Wrong : Type 0 where
  bad_byte : Wrong
  command : (word : Bytes) → Wrong
  stray_row : Wrong
  bad_row : Wrong
  mixed_plane : Wrong
  second_model : Wrong
  after_end : Wrong
  names_empty : Wrong
  bad_name : Wrong

abbrev pub agrees : Option Bool → Bool → Bool
agrees None plane = true
agrees (Some first) plane = beq first plane

abbrev pub wrong_row : Option OpenTable → Line → Option Wrong
wrong_row None words = Some stray_row
wrong_row (Some table) words =
    elim (row_plane table.pins words)
    [ None ↦ Some bad_row | Some plane ↦ if agrees table.plane plane then None else Some mixed_plane ]

abbrev pub unless : Bool → Wrong → Option Wrong
unless good wrong = if good then None else Some wrong

abbrev pub wrong_by : Kind → Place → Line → Option Wrong
wrong_by kind.Model place words
    = if place.had_model then Some second_model
    else unless (length (arguments words) == 1 && are_names (arguments words)) bad_name
wrong_by kind.Inputs place words = unless (are_names (arguments words)) bad_name
wrong_by kind.Outputs place words = unless (are_names (arguments words)) bad_name
wrong_by kind.Names place words
    = if length (arguments words) == 0 then Some names_empty
    else unless (are_names (arguments words)) bad_name
wrong_by kind.End place words = None
wrong_by kind.Command place words = Some (command (first_word words))
wrong_by kind.Row place words = wrong_row place.table words

abbrev pub wrong : Place → Line → Option Wrong
wrong place words =
    if not (list_all (list_all is_printable) words) then Some bad_byte
    else (if place.had_end then Some after_end
    else wrong_by (kind_of words) place words)

pub record WrongLine : Type 0 where
  pub line : ℕ
  pub wrong : Wrong

abbrev pub first_wrong_after : List Line → List Statement → Option WrongLine
first_wrong_after earlier [] = None
first_wrong_after earlier (s ∷ rest) =
    elim (wrong (place_after earlier) s.words) [
      | None ↦ first_wrong_after (s.words ∷ earlier) rest
      | Some w ↦ Some
          (record { line = s.line; wrong = w })
    ]

-- the first line that is wrong
unfoldable pub first_wrong : List Statement → Option WrongLine
first_wrong lines = first_wrong_after [] lines
