-- Without its `.subckt` lines, the lines of a model in which none is wrong are those of a netlist in which none is wrong.
use Rattle.std.proofs.Common.{◌≡◌, Bool, true, false, not, ◌&&◌, ◌||◌, cond, List, [], ◌∷◌, map, codes, Option, Some, None, refl, ap, sym, subst, ◌∙◌}
use Rattle.std.specs.List.{AllByRecursion, list_all}
use Rattle.std.proofs.lemmas.Bool.{false≢true}
use Rattle.semantics.specs.Texts.{Line}
use Rattle.blif_semantics.specs.declared.kind.Kind.{Kind}
use Rattle.blif_semantics.specs.declared.kind.Kind.TheVariants as kind
use Rattle.blif_semantics.specs.Lines.{Statement}
use Rattle.blif_semantics.specs.Statements.{kind_of_word, kind_of, arguments, is_printable, is_model, is_end, had_end, Place, place_after, OpenTable, table_before, table_by, bad_byte, after_end}
use Rattle.blif_semantics.specs.Statements.{bad_name, Wrong, unless, wrong_row, wrong_by, wrong}
use Rattle.semantics.proofs.FirstFound.{none_if}
use Rattle.blif_semantics.proofs.RightLines.{good, answer_parts, AllRight}
use Rattle.hierarchy_semantics.specs.Models.{is_subckt, Sections, sections_of}
use Rattle.hierarchy_semantics.specs.ModelLines.{has_ended, place_of, is_use, wrong_at, first_wrong_after}
use Rattle.hierarchy_semantics.proofs.Members.{same_bytes}

abbrev pub words_in : List Statement → List Line
words_in lines = map (λ s. s.words) lines

-- a `.subckt` line says as little as an `.inputs` line without names
abbrev pub plain : Line → Line
plain words = cond (is_subckt words) (codes ".inputs" ∷ []) words

abbrev pub RightAfter : List Line → List Statement → Type 0
RightAfter earlier [] = Unit {0}
RightAfter earlier (s ∷ lines) = (wrong_at (place_of earlier s.words) s.words ≡ None) × RightAfter (s.words ∷ earlier) lines

pub right_after : (earlier : List Line) (lines : List Statement) → first_wrong_after earlier lines ≡ None → RightAfter earlier lines
right_after earlier [] h = tt
right_after earlier (s ∷ lines) h =
    let parts = answer_parts (wrong_at (place_of earlier s.words) s.words) s.line (first_wrong_after (s.words ∷ earlier) lines) h in
    (parts.0, right_after (s.words ∷ earlier) lines parts.1)

abbrev pub NoModel : List Statement → Type 0
NoModel lines = AllByRecursion (λ s. is_model (kind_of s.words) ≡ false) lines

-- each `.subckt` line has its form
abbrev pub UsesRight : List Statement → Type 0
UsesRight lines = AllByRecursion (λ s. is_subckt s.words ≡ true → is_use (arguments s.words) ≡ true) lines

pub subckt_kind : (words : Line) → is_subckt words ≡ true → kind_of words ≡ kind.Command
subckt_kind [] e = absurd (false≢true e)
subckt_kind (word ∷ words) e = ap kind_of_word (same_bytes word (codes ".subckt") e)

-- ---- one line

record IsRightHere (earlier : List Line) (words : Line) : Type 0 where
  printable : not (list_all (list_all is_printable) words) ≡ false
  ended : has_ended earlier && not (is_model (kind_of words)) ≡ false
  rest : cond (is_subckt words) (unless (is_use (arguments words)) bad_name) (wrong_by (kind_of words) (place_of earlier words) words) ≡ None

right_here : (earlier : List Line) (words : Line) → wrong_at (place_of earlier words) words ≡ None → IsRightHere earlier words
right_here earlier words h =
    let use_it : Option Wrong = cond (is_subckt words) (unless (is_use (arguments words)) bad_name) (wrong_by (kind_of words) (place_of earlier words) words) in
    let ended : Bool = has_ended earlier && not (is_model (kind_of words)) in
    let printable = none_if (not (list_all (list_all is_printable) words)) bad_byte (cond ended (Some after_end) use_it) h in
    let unended = none_if ended after_end use_it printable.1 in
    record { printable = printable.0; ended = unended.0; rest = unended.1 }

rest_plain : (t : Bool) (a b : Option Wrong) → t ≡ false → cond t a b ≡ None → b ≡ None
rest_plain true a b e h = absurd (false≢true (sym e))
rest_plain false a b e h = h

rest_use : (t : Bool) (a b : Option Wrong) → t ≡ true → cond t a b ≡ None → a ≡ None
rest_use true a b e h = h
rest_use false a b e h = absurd (false≢true e)

use_right : (earlier : List Line) (words : Line) → wrong_at (place_of earlier words) words ≡ None → is_subckt words ≡ true → is_use (arguments words) ≡ true
use_right earlier words h e =
    good (is_use (arguments words)) bad_name
    (rest_use (is_subckt words) (unless (is_use (arguments words)) bad_name) (wrong_by (kind_of words) (place_of earlier words) words) e (right_here earlier words h).rest)

pub uses_right : (earlier : List Line) (lines : List Statement) → RightAfter earlier lines → UsesRight lines
uses_right earlier [] h = tt
uses_right earlier (s ∷ lines) h = (use_right earlier s.words h.0, uses_right (s.words ∷ earlier) lines h.1)

-- what a line that is no `.model` needs of its place
place_by : (k : Kind) (words : Line) (a b : Place) → is_model k ≡ false → a.table ≡ b.table → wrong_by k a words ≡ wrong_by k b words
place_by kind.Model words a b lacks same = absurd (false≢true (sym lacks))
place_by kind.Inputs words a b lacks same = refl
place_by kind.Outputs words a b lacks same = refl
place_by kind.Names words a b lacks same = refl
place_by kind.End words a b lacks same = refl
place_by kind.Command words a b lacks same = refl
place_by kind.Row words a b lacks same = ap (λ t. wrong_row t words) same

model_by : (k : Kind) (words : Line) (a b : Place) → is_model k ≡ true → a.had_model ≡ b.had_model → wrong_by k a words ≡ wrong_by k b words
model_by kind.Model words a b is same = rw same refl
model_by kind.Inputs words a b is same = absurd (false≢true is)
model_by kind.Outputs words a b is same = absurd (false≢true is)
model_by kind.Names words a b is same = absurd (false≢true is)
model_by kind.End words a b is same = absurd (false≢true is)
model_by kind.Command words a b is same = absurd (false≢true is)
model_by kind.Row words a b is same = absurd (false≢true is)

-- a line is right in a netlist where it is printable, no end stands before, and it is right by its kind
wrong_from : (place : Place) (words : Line) → not (list_all (list_all is_printable) words) ≡ false → place.had_end ≡ false → wrong_by (kind_of words) place words ≡ None → wrong place words ≡ None
wrong_from place words printable unended h =
    ap (λ b. cond b (Some bad_byte) (cond place.had_end (Some after_end) (wrong_by (kind_of words) place words))) printable
    ∙ ap (λ b. cond b (Some after_end) (wrong_by (kind_of words) place words)) unended
    ∙ h

and_true : (b : Bool) → b && true ≡ false → b ≡ false
and_true true e = e
and_true false e = refl

not_ended : (earlier : List Line) (words : Line) → IsRightHere earlier words → is_model (kind_of words) ≡ false → has_ended earlier ≡ false
not_ended earlier words h lacks = and_true (has_ended earlier) (ap (λ t. has_ended earlier && not t) (sym lacks) ∙ h.ended)

plain_right : (earlier before : List Line) (words : Line) → wrong_at (place_of earlier words) words ≡ None → is_model (kind_of words) ≡ false → table_before before ≡ table_before earlier
    → had_end before ≡ has_ended earlier → wrong (place_after before) (plain words) ≡ None
plain_right earlier before words h lacks table ended = at_test (is_subckt words) refl
  where
    at_test : (t : Bool) → is_subckt words ≡ t → wrong (place_after before) (cond t (codes ".inputs" ∷ []) words) ≡ None
    at_test true is = wrong_from (place_after before) (codes ".inputs" ∷ []) refl (ended ∙ not_ended earlier words (right_here earlier words h) lacks) refl
    at_test false is =
        let here = right_here earlier words h in
        wrong_from (place_after before) words here.printable (ended ∙ not_ended earlier words here lacks)
        (place_by (kind_of words) words (place_after before) (place_of earlier words) lacks table
        ∙ rest_plain (is_subckt words) (unless (is_use (arguments words)) bad_name) (wrong_by (kind_of words) (place_of earlier words) words) is here.rest)

plain_table : (words : Line) (a b : Option OpenTable) → a ≡ b → table_by (kind_of (plain words)) (plain words) a ≡ table_by (kind_of words) words b
plain_table words a b same = at_test (is_subckt words) refl
  where
    at_test : (t : Bool) → is_subckt words ≡ t → table_by (kind_of (cond t (codes ".inputs" ∷ []) words)) (cond t (codes ".inputs" ∷ []) words) a ≡ table_by (kind_of words) words b
    at_test true is = sym (ap (λ k. table_by k words b) (subckt_kind words is))
    at_test false is = ap (table_by (kind_of words) words) same

or_false : (b : Bool) → b || false ≡ b
or_false true = refl
or_false false = refl

plain_end : (words : Line) → is_end (kind_of (plain words)) ≡ is_end (kind_of words)
plain_end words = at_test (is_subckt words) refl
  where
    at_test : (t : Bool) → is_subckt words ≡ t → is_end (kind_of (cond t (codes ".inputs" ∷ []) words)) ≡ is_end (kind_of words)
    at_test true is = sym (ap is_end (subckt_kind words is))
    at_test false is = refl

pub plain_after : (earlier before : List Line) (lines : List Statement) → RightAfter earlier lines → NoModel lines → table_before before ≡ table_before earlier → had_end before ≡ has_ended earlier
    → AllRight before (map plain (words_in lines))
plain_after earlier before [] h lacks table ended = tt
plain_after earlier before (s ∷ lines) h lacks table ended =
    let unended : has_ended earlier ≡ false = not_ended earlier s.words (right_here earlier s.words h.0) lacks.0 in (
      plain_right earlier before s.words h.0 lacks.0 table ended,
      plain_after (s.words ∷ earlier) (plain s.words ∷ before) lines h.1 lacks.1 (plain_table s.words (table_before before) (table_before earlier) table)
          (ap (λ b. is_end (kind_of (plain s.words)) || b) (ended ∙ unended) ∙ or_false (is_end (kind_of (plain s.words))) ∙ plain_end s.words),
    )

-- ---- the lines of a model

is_model_kind : (k : Kind) → is_model k ≡ true → k ≡ kind.Model
is_model_kind kind.Model e = refl
is_model_kind kind.Inputs e = absurd (false≢true e)
is_model_kind kind.Outputs e = absurd (false≢true e)
is_model_kind kind.Names e = absurd (false≢true e)
is_model_kind kind.End e = absurd (false≢true e)
is_model_kind kind.Command e = absurd (false≢true e)
is_model_kind kind.Row e = absurd (false≢true e)

no_subckt : (words : Line) → is_model (kind_of words) ≡ true → is_subckt words ≡ false
no_subckt words is = at_test (is_subckt words) refl
  where
    at_test : (t : Bool) → is_subckt words ≡ t → t ≡ false
    at_test true e = absurd (false≢true (sym (ap is_model (subckt_kind words e)) ∙ is))
    at_test false e = refl

-- the lines are right, as those of a netlist and in their uses of models
pub record IsRightModel (lines : List Statement) : Type 0 where
  pub right : AllRight [] (map plain (words_in lines))
  pub uses : UsesRight lines

pub model_right : (earlier : List Line) (s : Statement) (lines : List Statement) → RightAfter earlier (s ∷ lines) → is_model (kind_of s.words) ≡ true → NoModel lines → IsRightModel (s ∷ lines)
model_right earlier s lines h is lacks =
    let here = right_here earlier s.words h.0 in
    let same : plain s.words ≡ s.words = rw (no_subckt s.words is) refl in
    let model : kind_of s.words ≡ kind.Model = is_model_kind (kind_of s.words) is in
    let first : wrong (place_after []) s.words ≡ None =
    wrong_from (place_after []) s.words here.printable refl
    (model_by (kind_of s.words) s.words (place_after []) (place_of earlier s.words) is refl
    ∙ rest_plain (is_subckt s.words) (unless (is_use (arguments s.words)) bad_name) (wrong_by (kind_of s.words) (place_of earlier s.words) s.words) (no_subckt s.words is) here.rest) in
    let rest : AllRight (s.words ∷ []) (map plain (words_in lines)) =
    plain_after (s.words ∷ earlier) (s.words ∷ []) lines h.1 lacks
    (ap (λ k. table_by k s.words None) model ∙ sym (ap (λ k. table_by k s.words (table_before earlier)) model))
    (or_false (is_end (kind_of s.words))) in
    record { right = subst (λ w. AllRight [] (w ∷ map plain (words_in lines))) (sym same) (first, rest); uses = uses_right earlier (s ∷ lines) h }

record AreRight (earlier : List Line) (found : Sections) : Type 0 where
  lacks : NoModel found.before
  before : RightAfter earlier found.before
  sections : AllByRecursion IsRightModel found.sections

sections_right : (earlier : List Line) (lines : List Statement) → RightAfter earlier lines → AreRight earlier (sections_of lines)
sections_right earlier [] h = record { lacks = tt; before = tt; sections = tt }
sections_right earlier (s ∷ rest) h = at_test (is_model (kind_of s.words)) refl (sections_right (s.words ∷ earlier) rest h.1)
  where
    at_test : (t : Bool) → is_model (kind_of s.words) ≡ t → AreRight (s.words ∷ earlier) (sections_of rest)
        → AreRight earlier
        (cond t (record { before = []; sections = (s ∷ (sections_of rest).before) ∷ (sections_of rest).sections })
        (record { before = s ∷ (sections_of rest).before; sections = (sections_of rest).sections }))
    at_test true is later =
        record { lacks = tt; before = tt; sections = (model_right earlier s (sections_of rest).before (h.0, later.before) is later.lacks, later.sections) }
    at_test false is later = record { lacks = (is, later.lacks); before = (h.0, later.before); sections = later.sections }

pub record AreModelsRight (found : Sections) : Type 0 where
  pub before : IsRightModel found.before
  pub sections : AllByRecursion IsRightModel found.sections

pub models_right : (lines : List Statement) → first_wrong_after [] lines ≡ None → AreModelsRight (sections_of lines)
models_right lines h =
    let all = sections_right [] lines (right_after [] lines h) in
    record {
      before = record { right = plain_after [] [] (sections_of lines).before all.before all.lacks refl refl; uses = uses_right [] (sections_of lines).before all.before };
      sections = all.sections;
    }
