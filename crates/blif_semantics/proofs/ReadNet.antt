-- What is read is a small sound net.
use Rattle.std.proofs.Common.{◌≡◌, ◌≢◌, ℕ, zero, suc, ◌-◌, ◌<◌, ◌≤◌, Bool, true, false, ◌==◌, not, ◌&&◌, cond, leb, List, [], ◌∷◌, map, flat_map, length, take, filter, codes, find, All, AllPairs}
use Rattle.std.proofs.Common.{Option, Some, None, Ok, refl, ap, sym, subst, ◌∙◌, arith}
use Rattle.std.specs.List.{AllByRecursion, list_all}
use Rattle.std.proofs.lemmas.Bool.{and_parts, eqb-true, eqb-false, leb-true, not-false, false≢true}
use Rattle.std.proofs.lemmas.List.{length-map, length_push, length-take}
use Rattle.std.proofs.lemmas.List.Elements.{All-nil, All-cons, All-append, All-push, All-map, All-get_or, All-take, All-weaker}
use Rattle.std.proofs.lemmas.Option.{none-some}
use Rattle.semantics.specs.Texts.{Bytes, Line}
use Rattle.semantics.specs.Net.{NetValue, input_count, IsName, IsTable, IsSound, IsSmall}
use Rattle.semantics.specs.Refusals.{first_doubled}
use Rattle.semantics.proofs.Refused.{undoubled, grounded, small}
use Rattle.blif_semantics.specs.declared.kind.Kind.{Kind}
use Rattle.blif_semantics.specs.declared.kind.Kind.TheVariants as kind
use Rattle.blif_semantics.specs.Lines.{Statement, logical_lines, statements}
use Rattle.blif_semantics.specs.Statements.{is_name, are_names, is_mark, kind_of, first_word, arguments, is_model, plane_of, row_plane, table_before, table_by, Place, place_after, second_model}
use Rattle.blif_semantics.specs.Statements.{names_empty, bad_name, unless, wrong, wrong_by, first_wrong}
use Rattle.blif_semantics.specs.Tables.{NamedTable, mark_of, last_word, marks_of, named, with_row, with_rows, rows_first, table_first, tables_of}
use Rattle.blif_semantics.specs.Reading.{text_long, wrong_line, NamedNet, is_inputs, is_outputs, listed, model_of, named_net, names_of, first_undriven_name, signal_named, numbered, unless_refused}
use Rattle.blif_semantics.specs.Reading.{lines_reading, blif_reading}
use Rattle.blif_semantics.specs.Named.{IsNamedTable, IsNamedNet, with_signals, IsDriven}
use Rattle.blif_semantics.proofs.Names.{IsName-from_test, IsName-from_are_names}
use Rattle.semantics.proofs.FirstFound.{none_if}
use Rattle.blif_semantics.proofs.RightLines.{open_table, good, right_by, AllRight, all_right}
use Rattle.blif_semantics.proofs.Rows.{rows_more, row_right}
use Rattle.blif_semantics.proofs.Numbered.{signal_names-numbered, signals_below}
use Rattle.blif_semantics.proofs.Accepted.{IsAccepted, IsReadAs, read_parts, read_parts-if, accepted}

-- ---- names

inputs_named : (k : Kind) (place : Place) (words : Line) → is_inputs k ≡ true → wrong_by k place words ≡ None → All IsName (arguments words)
inputs_named kind.Model place words is h = absurd (false≢true is)
inputs_named kind.Inputs place words is h = IsName-from_are_names (arguments words) (good (are_names (arguments words)) bad_name h)
inputs_named kind.Outputs place words is h = absurd (false≢true is)
inputs_named kind.Names place words is h = absurd (false≢true is)
inputs_named kind.End place words is h = absurd (false≢true is)
inputs_named kind.Command place words is h = absurd (false≢true is)
inputs_named kind.Row place words is h = absurd (false≢true is)

outputs_named : (k : Kind) (place : Place) (words : Line) → is_outputs k ≡ true → wrong_by k place words ≡ None → All IsName (arguments words)
outputs_named kind.Model place words is h = absurd (false≢true is)
outputs_named kind.Inputs place words is h = absurd (false≢true is)
outputs_named kind.Outputs place words is h = IsName-from_are_names (arguments words) (good (are_names (arguments words)) bad_name h)
outputs_named kind.Names place words is h = absurd (false≢true is)
outputs_named kind.End place words is h = absurd (false≢true is)
outputs_named kind.Command place words is h = absurd (false≢true is)
outputs_named kind.Row place words is h = absurd (false≢true is)

abbrev of_kind : (Kind → Bool) → List Line → List Line
of_kind is_kind lines = filter (λ w. is_kind (kind_of w)) lines

-- lines of a kind that are right list names
abbrev ListsNames : (Kind → Bool) → Type 0
ListsNames is_kind = (k : Kind) (place : Place) (words : Line) → is_kind k ≡ true → wrong_by k place words ≡ None → All IsName (arguments words)

names_more : (is_kind : Kind → Bool) → ListsNames is_kind → (earlier : List Line) (words : Line) (lines : List Line) → wrong (place_after earlier) words ≡ None → All IsName (listed is_kind lines)
    → (t : Bool) → is_kind (kind_of words) ≡ t → All IsName (flat_map arguments (cond t (words ∷ of_kind is_kind lines) (of_kind is_kind lines)))
names_more is_kind each earlier words lines right rest true e =
    All-append IsName (arguments words) (listed is_kind lines) (each (kind_of words) (place_after earlier) words e (right_by (place_after earlier) words right)) rest
names_more is_kind each earlier words lines right rest false e = rest

names_listed : (is_kind : Kind → Bool) → ListsNames is_kind → (earlier lines : List Line) → AllRight earlier lines → All IsName (listed is_kind lines)
names_listed is_kind each earlier [] h = All-nil IsName
names_listed is_kind each earlier (words ∷ lines) h =
    names_more is_kind each earlier words lines h.0 (names_listed is_kind each (words ∷ earlier) lines h.1) (is_kind (kind_of words)) refl

one_name : (words : List Bytes) → (length words == 1 && are_names words) ≡ true → IsName (first_word words)
one_name [] h = absurd (false≢true h)
one_name (word ∷ words) h =
    let parts = and_parts (length (word ∷ words) == 1) (are_names (word ∷ words)) h in
    IsName-from_test word (and_parts (is_name word) (are_names words) parts.1).0

model_line : (k : Kind) (place : Place) (words : Line) → is_model k ≡ true → wrong_by k place words ≡ None → IsName (first_word (arguments words))
model_line kind.Model place words is h =
    let args : List Bytes = arguments words in
    let test : Bool = length args == 1 && are_names args in
    one_name args (good test bad_name (none_if place.had_model second_model (unless test bad_name) h).1)
model_line kind.Inputs place words is h = absurd (false≢true is)
model_line kind.Outputs place words is h = absurd (false≢true is)
model_line kind.Names place words is h = absurd (false≢true is)
model_line kind.End place words is h = absurd (false≢true is)
model_line kind.Command place words is h = absurd (false≢true is)
model_line kind.Row place words is h = absurd (false≢true is)

model_more : (earlier : List Line) (words : Line) (lines : List Line) → wrong (place_after earlier) words ≡ None → IsName (model_of lines)
    → (t : Bool) → is_model (kind_of words) ≡ t → IsName (elim (cond t (Some words) (find (λ w. is_model (kind_of w)) lines)) [ None ↦ codes "top" | Some w ↦ first_word (arguments w) ])
model_more earlier words lines right rest true e = model_line (kind_of words) (place_after earlier) words e (right_by (place_after earlier) words right)
model_more earlier words lines right rest false e = rest

model_named : (earlier lines : List Line) → AllRight earlier lines → IsName (model_of lines)
model_named earlier [] h = IsName-from_test (codes "top") refl
model_named earlier (words ∷ lines) h = model_more earlier words lines h.0 (model_named (words ∷ earlier) lines h.1) (is_model (kind_of words)) refl

-- ---- rows

marks_width : (n : ℕ) (row : Line) (plane : Bool) → row_plane n row ≡ Some plane → length (marks_of row) ≡ n
marks_width zero [] plane h = absurd (none-some plane h)
marks_width zero (word ∷ []) plane h = refl
marks_width zero (word ∷ next ∷ words) plane h = absurd (none-some plane h)
marks_width (suc n) [] plane h = absurd (none-some plane h)
marks_width (suc n) (word ∷ []) plane h = absurd (none-some plane h)
marks_width (suc n) (marks ∷ word ∷ []) plane h = length-map marks mark_of ∙ at_test (length marks == suc n && list_all is_mark marks) refl h
  where
    at_test : (t : Bool) → (length marks == suc n && list_all is_mark marks) ≡ t → cond t (plane_of word) None ≡ Some plane → length marks ≡ suc n
    at_test true e k = eqb-true (length marks) (suc n) (and_parts (length marks == suc n) (list_all is_mark marks) e).0
    at_test false e k = absurd (none-some plane k)
marks_width (suc n) (marks ∷ word ∷ more ∷ words) plane h = absurd (none-some plane h)

abbrev HasWidth : ℕ → Line → Type 0
HasWidth n row = length (marks_of row) ≡ n

rows_width : (n : ℕ) (first : Option Bool) (earlier lines : List Line) → table_before earlier ≡ open_table n first → AllRight earlier lines → AllByRecursion (HasWidth n) (rows_first lines)
rows_width n first earlier [] table h = tt
rows_width n first earlier (row ∷ lines) table h =
    rows_more (HasWidth n) row lines (kind_of row)
    (λ e.
    let right = row_right n first earlier row lines table h e in
    (marks_width n row right.good.plane right.good.is, rows_width n (elim first [ None ↦ row_plane n row | Some plane ↦ Some plane ]) (row ∷ earlier) lines right.grown h.1))

-- ---- tables

rows_formed : (t : NamedTable) (rows : List Line) → IsNamedTable t → AllByRecursion (HasWidth (length t.pins)) rows → IsNamedTable (with_rows t rows)
rows_formed t [] h widths = h
rows_formed t (row ∷ rows) h widths =
    let grown : IsNamedTable (with_row t row) = record {
      named = h.named;
      pins = h.pins;
      widths = All-push (λ marks. length marks ≡ length t.pins) t.rows (marks_of row) h.widths widths.0;
      plane = λ e. absurd (omega (arith, ap length e, length_push t.rows (marks_of row)));
    } in
    rows_formed (with_row t row) rows grown widths.1

pub names_line-parts : (place : Place) (words : Line) → wrong_by kind.Names place words ≡ None → (0 < length (arguments words)) × All IsName (arguments words)
names_line-parts place words h =
    let args : List Bytes = arguments words in
    let parts = none_if (length args == 0) names_empty (unless (are_names args) bad_name) h in
    (let some = eqb-false (length args) 0 parts.0 in omega arith, IsName-from_are_names args (good (are_names args) bad_name parts.1))

named_table : (earlier : List Line) (words : Line) (lines : List Line) → kind_of words ≡ kind.Names → AllRight earlier (words ∷ lines)
    → IsNamedTable (with_rows (named (arguments words)) (rows_first lines))
named_table earlier words lines e h =
    let args : List Bytes = arguments words in
    let parts = names_line-parts (place_after earlier) words (ap (λ k. wrong_by k (place_after earlier) words) (sym e) ∙ right_by (place_after earlier) words h.0) in
    let opened : table_before (words ∷ earlier) ≡ open_table (length args - 1) None = ap (λ k. table_by k words (table_before earlier)) e in
    let count : length args - 1 ≡ length (take (length args - 1) args) = omega (arith, length-take (length args - 1) args) in
    let widths = rows_width (length args - 1) None (words ∷ earlier) lines opened h.1 in
    let name : IsName (last_word args) = All-get_or IsName args (length args - 1) [] (omega (arith, parts.0)) parts.1 in
    let empty : IsNamedTable (named args) = record {
      named = name;
      pins = All-take IsName (length args - 1) args parts.1;
      widths = All-nil (λ marks. length marks ≡ length (take (length args - 1) args));
      plane = λ e. refl;
    } in
    rows_formed (named args) (rows_first lines) empty
    (subst (λ n. AllByRecursion (HasWidth n) (rows_first lines)) count widths)

tables_more : (words : Line) (lines : List Line) (k : Kind) → (k ≡ kind.Names → IsNamedTable (with_rows (named (arguments words)) (rows_first lines))) → All IsNamedTable (tables_of lines)
    → All IsNamedTable (table_first k words lines (tables_of lines))
tables_more words lines kind.Names h rest = All-cons IsNamedTable (with_rows (named (arguments words)) (rows_first lines)) (tables_of lines) (h refl) rest
tables_more words lines kind.Row h rest = rest
tables_more words lines kind.Model h rest = rest
tables_more words lines kind.Inputs h rest = rest
tables_more words lines kind.Outputs h rest = rest
tables_more words lines kind.End h rest = rest
tables_more words lines kind.Command h rest = rest

tables_formed : (earlier lines : List Line) → AllRight earlier lines → All IsNamedTable (tables_of lines)
tables_formed earlier [] h = All-nil IsNamedTable
tables_formed earlier (words ∷ lines) h = tables_more words lines (kind_of words) (λ e. named_table earlier words lines e h) (tables_formed (words ∷ earlier) lines h.1)

-- ---- signals in the place of names

table_formed : (names : List Bytes) (t : NamedTable) → IsNamedTable t → IsTable (with_signals names t)
table_formed names t h = record {
  named = h.named;
  widths = subst (λ n. All (λ marks. length marks ≡ n) t.rows) (sym (length-map t.pins (signal_named names))) h.widths;
  plane = h.plane;
}

-- a net of names in which nothing is doubled or missing
pub net_driven : (d : NamedNet) → first_doubled (names_of d) ≡ None → (length d.outputs == 0) ≡ false → first_undriven_name d ≡ None → IsDriven (numbered d)
unfolding numbered
net_driven d undoubled_names some_output none_missing =
    let names : List Bytes = names_of d in
    let below = signals_below d none_missing in
    record {
      names_differ = subst (AllPairs ◌≢◌) (sym (signal_names-numbered d)) (undoubled names undoubled_names);
      has_output = let some = eqb-false (length d.outputs) 0 some_output in omega (arith, length-map d.outputs (signal_named names));
      outputs_are_signals = below.1;
      pins_are_signals = below.0;
    }

sound : (d : NamedNet) → IsNamedNet d → IsAccepted d → IsSound (numbered d)
unfolding numbered
sound d h accepted =
    let names : List Bytes = names_of d in
    let N : NetValue = numbered d in
    let whole = net_driven d accepted.undoubled accepted.some_output accepted.driven in
    record {
      model_named = h.model;
      inputs_named = h.inputs;
      tables_formed = All-map IsTable (with_signals names) d.tables (All-weaker IsNamedTable (λ t. IsTable (with_signals names t)) (table_formed names) d.tables h.tables);
      names_differ = whole.names_differ;
      has_output = whole.has_output;
      outputs_are_signals = whole.outputs_are_signals;
      pins_are_signals = whole.pins_are_signals;
      acyclic = grounded (input_count N) N.tables accepted.grounded;
    }

-- ---- texts

-- what is known of a text that is read
record IsReading (text : Bytes) (most : ℕ) (N : NetValue) : Type 0 where
  short : length text ≤ most
  right : AllRight [] (map (λ s. s.words) (statements (logical_lines text)))
  net : IsReadAs (named_net (map (λ s. s.words) (statements (logical_lines text)))) N

reading_parts : (text : Bytes) (most : ℕ) (N : NetValue) → blif_reading text most ≡ Ok N → IsReading text most N
unfolding blif_reading
reading_parts text most N e =
    let all : List Statement = statements (logical_lines text) in
    let lines : List Line = map (λ s. s.words) all in
    let size = read_parts-if (not (leb (length text) most)) text_long (unless_refused (first_wrong all) (λ w. wrong_line w.line w.wrong) (lines_reading lines)) N e in
    let body = read_parts (first_wrong all) (λ w. wrong_line w.line w.wrong) (lines_reading lines) N size.1 in
    record {
      short = leb-true (length text) most (not-false (leb (length text) most) size.0);
      right = all_right all body.0;
      net = accepted (named_net lines) N body.1;
    }

pub names_formed : (lines : List Line) → AllRight [] lines → IsNamedNet (named_net lines)
unfolding named_net
names_formed lines h = record {
  model = model_named [] lines h;
  inputs = names_listed is_inputs inputs_named [] lines h;
  outputs = names_listed is_outputs outputs_named [] lines h;
  tables = tables_formed [] lines h;
}

pub read_sound : (text : Bytes) (most : ℕ) (N : NetValue) → blif_reading text most ≡ Ok N → IsSound N
read_sound text most N e =
    let h = reading_parts text most N e in
    let lines : List Line = map (λ s. s.words) (statements (logical_lines text)) in
    subst IsSound (sym h.net.is) (sound (named_net lines) (names_formed lines h.right) h.net.accepted)

pub read_small : (text : Bytes) (most : ℕ) (N : NetValue) → blif_reading text most ≡ Ok N → IsSmall N
read_small text most N e = let h = reading_parts text most N e in subst IsSmall (sym h.net.is)
    (small (numbered (named_net (map (λ s. s.words) (statements (logical_lines text))))) h.net.accepted.small)

pub read_short : (text : Bytes) (most : ℕ) (N : NetValue) → blif_reading text most ≡ Ok N → length text ≤ most
read_short text most N e = (reading_parts text most N e).short
