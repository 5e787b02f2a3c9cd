-- In the models of lines none of which is wrong each word in a name's place is a name.
use Rattle.std.proofs.Common.{◌≡◌, ◌-◌, ◌<◌, Bool, true, false, not, ◌==◌, ◌&&◌, ◌||◌, cond, List, [], ◌∷◌, map, flat_map, filter, find, length, codes, All, Option, Some, None, refl, ap, sym, subst}
use Rattle.std.proofs.Common.{◌∙◌, arith}
use Rattle.std.specs.List.{list_all}
use Rattle.std.proofs.lemmas.Bool.{false≢true, and_parts}
use Rattle.std.proofs.lemmas.List.Elements.{All-nil, All-cons, All-append, All-map, All-head, All-tail, All-take, All-get_or, All-weaker}
use Rattle.std.proofs.lemmas.List.Sums.{AllPass-from_list_all}
use Rattle.semantics.specs.Texts.{Bytes, Line}
use Rattle.semantics.specs.Net.{IsName}
use Rattle.semantics.proofs.FirstFound.{none_if}
use Rattle.blif_semantics.specs.declared.kind.Kind.{Kind}
use Rattle.blif_semantics.specs.declared.kind.Kind.TheVariants as kind
use Rattle.blif_semantics.specs.Lines.{Statement}
use Rattle.blif_semantics.specs.Statements.{kind_of, first_word, arguments, is_printable, is_name, are_names, is_model, Place, Wrong, bad_byte, second_model, after_end, bad_name, unless, wrong_by}
use Rattle.blif_semantics.specs.Tables.{NamedTable, named, with_row, with_rows, rows_first, table_first}
use Rattle.blif_semantics.specs.Reading.{is_inputs, is_outputs, listed, model_of}
use Rattle.blif_semantics.proofs.Names.{IsName-from_test, IsName-from_are_names}
use Rattle.blif_semantics.proofs.RightLines.{good}
use Rattle.blif_semantics.proofs.ReadNet.{names_line-parts}
use Rattle.hierarchy_semantics.specs.Models.{names_part, subckt_part, is_subckt, binding_of, subcircuit_of, part_first, parts_of, is_port, model_from, Sections, sections_of, hierarchy_of}
use Rattle.hierarchy_semantics.specs.ModelLines.{place_of, is_binding, is_use, wrong_at, first_wrong}
use Rattle.hierarchy_semantics.proofs.PlainLines.{RightAfter, right_after, subckt_kind}
use Rattle.hier_faults.specs.Named.{IsNamedBinding, IsNamedPart, IsNamedModel, AreNamed}
use Rattle.hier_parts.specs.Sections.{words_in}

-- ---- a line

abbrev NamesIn : Kind → Line → Type 0
NamesIn kind.Model words = IsName (first_word (arguments words))
NamesIn kind.Inputs words = All IsName (arguments words)
NamesIn kind.Outputs words = All IsName (arguments words)
NamesIn kind.Names words = (0 < length (arguments words)) × All IsName (arguments words)
NamesIn _ words = Unit {0}

record IsNamedLine (words : Line) : Type 0 where
  names : NamesIn (kind_of words) words
  uses : is_subckt words ≡ true → is_use (arguments words) ≡ true

one_name : (words : List Bytes) → (length words == 1 && are_names words) ≡ true → IsName (first_word words)
one_name [] h = absurd (false≢true h)
one_name (word ∷ words) h =
    let parts = and_parts (length (word ∷ words) == 1) (are_names (word ∷ words)) h in
    IsName-from_test word (and_parts (is_name word) (are_names words) parts.1).0

names_in : (k : Kind) (place : Place) (words : Line) → wrong_by k place words ≡ None → NamesIn k words
names_in kind.Model place words h =
    let test : Bool = length (arguments words) == 1 && are_names (arguments words) in
    one_name (arguments words) (good test bad_name (none_if place.had_model second_model (unless test bad_name) h).1)
names_in kind.Inputs place words h = IsName-from_are_names (arguments words) (good (are_names (arguments words)) bad_name h)
names_in kind.Outputs place words h = IsName-from_are_names (arguments words) (good (are_names (arguments words)) bad_name h)
names_in kind.Names place words h = names_line-parts place words h
names_in kind.End place words h = tt
names_in kind.Command place words h = tt
names_in kind.Row place words h = tt

line_named : (place : Place) (words : Line) → wrong_at place words ≡ None → IsNamedLine words
line_named place words h =
    let rest : Option Wrong = cond (is_subckt words) (unless (is_use (arguments words)) bad_name) (wrong_by (kind_of words) place words) in
    let printable = none_if (not (list_all (list_all is_printable) words)) bad_byte (cond place.had_end (Some after_end) rest) h in
    let unended = none_if place.had_end after_end rest printable.1 in
    at_test (is_subckt words) refl unended.1
  where
    at_test : (t : Bool) → is_subckt words ≡ t → cond t (unless (is_use (arguments words)) bad_name) (wrong_by (kind_of words) place words) ≡ None → IsNamedLine words
    at_test true is e = record { names = subst (λ k. NamesIn k words) (sym (subckt_kind words is)) tt; uses = λ _. good (is_use (arguments words)) bad_name e }
    at_test false is e = record { names = names_in (kind_of words) place words e; uses = λ other. absurd (false≢true (sym is ∙ other)) }

IsNamedStatement : Statement → Type 0
IsNamedStatement s = IsNamedLine s.words

lines_named : (earlier : List Line) (lines : List Statement) → RightAfter earlier lines → All IsNamedStatement lines
unfolding IsNamedStatement
lines_named earlier [] h = All-nil IsNamedStatement
lines_named earlier (s ∷ lines) h = All-cons IsNamedStatement s lines (line_named (place_of earlier s.words) s.words h.0) (lines_named (s.words ∷ earlier) lines h.1)

here : (s : Statement) (lines : List Statement) → All IsNamedStatement (s ∷ lines) → IsNamedLine s.words
unfolding IsNamedStatement
here s lines h = All-head IsNamedStatement s lines h

-- ---- the ports and the name of a model

listed_in : (k : Kind) (words : Line) → is_port k ≡ true → NamesIn k words → All IsName (arguments words)
listed_in kind.Inputs words is h = h
listed_in kind.Outputs words is h = h
listed_in kind.Model words is h = absurd (false≢true is)
listed_in kind.Names words is h = absurd (false≢true is)
listed_in kind.End words is h = absurd (false≢true is)
listed_in kind.Command words is h = absurd (false≢true is)
listed_in kind.Row words is h = absurd (false≢true is)

names_listed : (is_kind : Kind → Bool) → ((k : Kind) → is_kind k ≡ true → is_port k ≡ true) → (lines : List Statement) → All IsNamedStatement lines → All IsName (listed is_kind (words_in lines))
names_listed is_kind port [] h = All-nil IsName
names_listed is_kind port (s ∷ lines) h = at_test (is_kind (kind_of s.words)) refl (names_listed is_kind port lines (All-tail IsNamedStatement s lines h))
  where
    kept : List Line
    kept = filter (λ words. is_kind (kind_of words)) (words_in lines)

    at_test : (t : Bool) → is_kind (kind_of s.words) ≡ t → All IsName (flat_map arguments kept) → All IsName (flat_map arguments (cond t (s.words ∷ kept) kept))
    at_test true is rest =
        All-append IsName (arguments s.words) (flat_map arguments kept) (listed_in (kind_of s.words) s.words (port (kind_of s.words) is) (here s lines h).names) rest
    at_test false is rest = rest

inputs_port : (k : Kind) → is_inputs k ≡ true → is_port k ≡ true
inputs_port k is = ap (λ b. b || is_outputs k) is

or_true : (b : Bool) → b || true ≡ true
or_true true = refl
or_true false = refl

outputs_port : (k : Kind) → is_outputs k ≡ true → is_port k ≡ true
outputs_port k is = ap (λ b. is_inputs k || b) is ∙ or_true (is_inputs k)

model_in : (k : Kind) (words : Line) → is_model k ≡ true → NamesIn k words → IsName (first_word (arguments words))
model_in kind.Model words is h = h
model_in kind.Inputs words is h = absurd (false≢true is)
model_in kind.Outputs words is h = absurd (false≢true is)
model_in kind.Names words is h = absurd (false≢true is)
model_in kind.End words is h = absurd (false≢true is)
model_in kind.Command words is h = absurd (false≢true is)
model_in kind.Row words is h = absurd (false≢true is)

name_of_model : (lines : List Statement) → All IsNamedStatement lines → IsName (model_of (words_in lines))
name_of_model [] h = IsName-from_test (codes "top") refl
name_of_model (s ∷ lines) h = at_test (is_model (kind_of s.words)) refl (name_of_model lines (All-tail IsNamedStatement s lines h))
  where
    at_test : (t : Bool) → is_model (kind_of s.words) ≡ t → IsName (model_of (words_in lines))
        → IsName (elim (cond t (Some s.words) (find (λ words. is_model (kind_of words)) (words_in lines))) [ None ↦ codes "top" | Some words ↦ first_word (arguments words) ])
    at_test true is rest = model_in (kind_of s.words) s.words is (here s lines h).names
    at_test false is rest = rest

-- ---- its parts

rows_named : (t : NamedTable) (rows : List Line) → IsNamedPart (names_part t) → IsNamedPart (names_part (with_rows t rows))
rows_named t [] h = h
rows_named t (row ∷ rows) h = rows_named (with_row t row) rows h

table_named : (k : Kind) (words : Line) (lines : List Line) → NamesIn k words → All IsNamedPart (map names_part (table_first k words lines []))
table_named kind.Names words lines h =
    let args : List Bytes = arguments words in
    let name = All-get_or IsName args (length args - 1) [] (omega (arith, h.0)) h.1 in
    All-cons IsNamedPart (names_part (with_rows (named args) (rows_first lines))) [] (rows_named (named args) (rows_first lines) (name, All-take IsName (length args - 1) args h.1))
    (All-nil IsNamedPart)
table_named kind.Model words lines h = All-nil IsNamedPart
table_named kind.Inputs words lines h = All-nil IsNamedPart
table_named kind.Outputs words lines h = All-nil IsNamedPart
table_named kind.End words lines h = All-nil IsNamedPart
table_named kind.Command words lines h = All-nil IsNamedPart
table_named kind.Row words lines h = All-nil IsNamedPart

binding_named : (word : Bytes) → is_binding word ≡ true → IsNamedBinding (binding_of word)
binding_named word e =
    let parts = and_parts (is_name (binding_of word).formal) (is_name (binding_of word).actual) e in
    (IsName-from_test (binding_of word).formal parts.0, IsName-from_test (binding_of word).actual parts.1)

use_named : (s : Statement) → is_use (arguments s.words) ≡ true → IsNamedPart (subckt_part (subcircuit_of s))
use_named s e =
    let args : List Bytes = arguments s.words in
    let parts = and_parts (is_name (first_word args)) (list_all is_binding (arguments args)) e in (
      IsName-from_test (first_word args) parts.0,
      All-map IsNamedBinding binding_of (arguments args)
          (All-weaker (λ word. is_binding word ≡ true) (λ word. IsNamedBinding (binding_of word)) binding_named (arguments args) (AllPass-from_list_all is_binding (arguments args) parts.1)),
    )

parts_named : (lines : List Statement) → All IsNamedStatement lines → All IsNamedPart (parts_of lines)
parts_named [] h = All-nil IsNamedPart
parts_named (s ∷ rest) h =
    All-append IsNamedPart (part_first s (words_in rest)) (parts_of rest) (at_test (is_subckt s.words) refl) (parts_named rest (All-tail IsNamedStatement s rest h))
  where
    at_test : (t : Bool) → is_subckt s.words ≡ t → All IsNamedPart (cond t (subckt_part (subcircuit_of s) ∷ []) (map names_part (table_first (kind_of s.words) s.words (words_in rest) [])))
    at_test true is = All-cons IsNamedPart (subckt_part (subcircuit_of s)) [] (use_named s ((here s rest h).uses is)) (All-nil IsNamedPart)
    at_test false is = table_named (kind_of s.words) s.words (words_in rest) (here s rest h).names

-- ---- models

AreNamedLines : List Statement → Type 0
AreNamedLines lines = All IsNamedStatement lines

model_named : (lines : List Statement) → AreNamedLines lines → IsNamedModel (model_from lines)
unfolding AreNamedLines
model_named lines h = record {
  name = name_of_model lines h;
  ports = names_listed is_port (λ k is. is) lines h;
  inputs = names_listed is_inputs inputs_port lines h;
  outputs = names_listed is_outputs outputs_port lines h;
  parts = parts_named lines h;
}

record AreNamedSections (found : Sections) : Type 0 where
  before : AreNamedLines found.before
  sections : All AreNamedLines found.sections

sections_named : (lines : List Statement) → All IsNamedStatement lines → AreNamedSections (sections_of lines)
unfolding AreNamedLines
sections_named [] h = record { before = All-nil IsNamedStatement; sections = All-nil AreNamedLines }
sections_named (s ∷ rest) h = at_test (is_model (kind_of s.words)) (sections_named rest (All-tail IsNamedStatement s rest h))
  where
    grown : AreNamedSections (sections_of rest) → All IsNamedStatement (s ∷ (sections_of rest).before)
    grown found = All-cons IsNamedStatement s (sections_of rest).before (All-head IsNamedStatement s rest h) found.before

    at_test : (t : Bool) → AreNamedSections (sections_of rest)
        → AreNamedSections
        (cond t (record { before = []; sections = (s ∷ (sections_of rest).before) ∷ (sections_of rest).sections })
        (record { before = s ∷ (sections_of rest).before; sections = (sections_of rest).sections }))
    at_test true found =
        record { before = All-nil IsNamedStatement; sections = All-cons AreNamedLines (s ∷ (sections_of rest).before) (sections_of rest).sections (grown found) found.sections }
    at_test false found = record { before = grown found; sections = found.sections }

models_named : (sections : List (List Statement)) → All AreNamedLines sections → AreNamed (map model_from sections)
models_named sections all = All-map IsNamedModel model_from sections (All-weaker AreNamedLines (λ lines. IsNamedModel (model_from lines)) model_named sections all)

all_named : (found : Sections) → AreNamedSections found → (t : Bool) → AreNamed (map model_from (cond t found.sections (found.before ∷ found.sections)))
all_named found named true = models_named found.sections named.sections
all_named found named false = models_named (found.before ∷ found.sections) (All-cons AreNamedLines found.before found.sections named.before named.sections)

pub read-named : (lines : List Statement) → first_wrong lines ≡ None → AreNamed (hierarchy_of lines)
unfolding first_wrong hierarchy_of
read-named lines none =
    let found : Sections = sections_of lines in
    all_named found (sections_named lines (lines_named [] lines (right_after [] lines none))) (length found.before == 0 && not (length found.sections == 0))
