-- Lines none of which is wrong, told line by line.
use Rattle.std.proofs.Common.{◌≡◌, ℕ, Bool, true, false, not, cond, List, [], ◌∷◌, map, Option, Some, None, refl, ap, sym, ◌∙◌}
use Rattle.std.specs.List.{list_all}
use Rattle.std.proofs.lemmas.Option.{none-some}
use Rattle.semantics.specs.Texts.{Line}
use Rattle.semantics.proofs.FirstFound.{none_if}
use Rattle.blif_semantics.specs.Lines.{Statement}
use Rattle.blif_semantics.specs.Statements.{is_printable, bad_byte, after_end, unless, OpenTable, kind_of, wrong_by, Place, place_after, Wrong, WrongLine, wrong, first_wrong_after, first_wrong}

-- a table with n pins whose rows may come, and its plane
abbrev pub open_table : ℕ → Option Bool → Option OpenTable
open_table n plane = Some (record { pins = n; plane = plane })

-- no line is wrong after the earlier ones, of which the latest stands first
abbrev pub AllRight : List Line → List Line → Type 0
AllRight earlier [] = Unit {0}
AllRight earlier (words ∷ lines) = (wrong (place_after earlier) words ≡ None) × AllRight (words ∷ earlier) lines

-- the answer of the first line, or else the answer of the others
abbrev pub line_answer : Option Wrong → ℕ → Option WrongLine → Option WrongLine
line_answer w line rest = elim w [ None ↦ rest | Some w ↦ Some (record { line = line; wrong = w }) ]

pub answer_parts : (w : Option Wrong) (line : ℕ) (rest : Option WrongLine) → line_answer w line rest ≡ None → (w ≡ None) × (rest ≡ None)
answer_parts None line rest h = (refl, h)
answer_parts (Some w) line rest h = absurd (none-some (record { line = line; wrong = w }) (sym h))

right_after : (earlier : List Line) (lines : List Statement) → first_wrong_after earlier lines ≡ None → AllRight earlier (map (λ s. s.words) lines)
right_after earlier [] h = tt
right_after earlier (s ∷ lines) h =
    let parts = answer_parts (wrong (place_after earlier) s.words) s.line (first_wrong_after (s.words ∷ earlier) lines) h in
    (parts.0, right_after (s.words ∷ earlier) lines parts.1)

none_wrong_after : (earlier : List Line) (lines : List Statement) → AllRight earlier (map (λ s. s.words) lines) → first_wrong_after earlier lines ≡ None
none_wrong_after earlier [] h = refl
none_wrong_after earlier (s ∷ lines) h =
    ap (λ w. elim w [ None ↦ first_wrong_after (s.words ∷ earlier) lines | Some w ↦ Some (record { line = s.line; wrong = w }) ]) h.0
    ∙ none_wrong_after (s.words ∷ earlier) lines h.1

pub all_right : (lines : List Statement) → first_wrong lines ≡ None → AllRight [] (map (λ s. s.words) lines)
unfolding first_wrong
all_right lines h = right_after [] lines h

pub none_wrong : (lines : List Statement) → AllRight [] (map (λ s. s.words) lines) → first_wrong lines ≡ None
unfolding first_wrong
none_wrong lines h = none_wrong_after [] lines h

-- ---- what a line is where nothing is wrong with it

pub good : (test : Bool) (w : Wrong) → unless test w ≡ None → test ≡ true
good true w h = refl
good false w h = absurd (none-some w (sym h))

pub right_by : (place : Place) (words : Line) → wrong place words ≡ None → wrong_by (kind_of words) place words ≡ None
right_by place words h =
    let rest : Option Wrong = wrong_by (kind_of words) place words in
    let printable = none_if (not (list_all (list_all is_printable) words)) bad_byte (cond place.had_end (Some after_end) rest) h in
    (none_if place.had_end after_end rest printable.1).1
