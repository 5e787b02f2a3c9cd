-- No line of a sound net's text is wrong.
use Rattle.std.proofs.Common.{◌≡◌, ℕ, zero, suc, ◌-◌, ◌<◌, Bool, true, false, not, cond, List, [], ◌∷◌, ◌++◌, map, flat_map, length, codes, All, Option, Some, None, refl, ap, sym, subst, ◌∙◌}
use Rattle.std.proofs.Common.{append_assoc, arith}
use mathlib.Core.Bool.{beq}
use Rattle.std.specs.List.{AllByRecursion, list_all}
use Rattle.std.proofs.lemmas.Bool.{eq-eqb, ne_eqb, and_from}
use Rattle.std.proofs.lemmas.List.{length-map, length_push}
use Rattle.std.proofs.lemmas.List.Elements.{All-weaker, All-push, All-map, All-get_or, All-head, All-tail}
use Rattle.std.proofs.lemmas.List.Sums.{list_all-from_AllPass}
use Rattle.semantics.specs.declared.mark.Mark.{Mark}
use Rattle.semantics.specs.declared.mark.Mark.TheVariants.{Zero, One, Dash}
use Rattle.semantics.specs.Texts.{Bytes, Line, bit_byte}
use Rattle.semantics.specs.Net.{TableValue, NetValue, signal_names, name_of, signal_count, IsName, IsNameByte, IsTable, IsSound}
use Rattle.semantics.specs.Blif.{mark_byte, row_line, names_line, table_lines, blif_lines, end_line}
use Rattle.blif_semantics.specs.declared.kind.Kind.TheVariants as kind
use Rattle.blif_semantics.specs.Statements.{is_printable, kind_of, is_mark, plane_of, row_plane, had_end, table_before, Place, place_after, agrees, with_plane, Wrong, bad_byte, after_end, wrong}
use Rattle.blif_semantics.specs.Statements.{wrong_by, wrong_row}
use Rattle.blif_semantics.proofs.Names.{printable_byte, is_name-from_IsName, are_names-from_IsName}
use Rattle.blif_semantics.proofs.WordLines.{IsWord, IsLine}
use Rattle.blif_semantics.proofs.NetLines.{keyword, row_line-is_line, names_line-is_line, length-signal_names, signal_names-are_names, blif_lines-are_lines}
use Rattle.blif_semantics.proofs.RightLines.{open_table, AllRight}

printable_words : (words : Line) → AllByRecursion IsWord words → list_all (list_all is_printable) words ≡ true
printable_words [] h = refl
printable_words (word ∷ words) h =
    and_from (list_all is_printable word) (list_all (list_all is_printable) words)
    (list_all-from_AllPass is_printable word (All-weaker IsNameByte (λ b. is_printable b ≡ true) printable_byte word h.0.printable))
    (printable_words words h.1)

none_of : (printable ended : Bool) (rest : Option Wrong) → printable ≡ true → ended ≡ false → rest ≡ None → cond (not printable) (Some bad_byte) (cond ended (Some after_end) rest) ≡ None
none_of printable ended rest p e r = rw (p, e) r

-- a line of words that are written is wrong only by its kind
right_by : (place : Place) (words : Line) → IsLine words → place.had_end ≡ false → wrong_by (kind_of words) place words ≡ None → wrong place words ≡ None
right_by place words h unended right = none_of (list_all (list_all is_printable) words) place.had_end (wrong_by (kind_of words) place words) (printable_words words h.words) unended right

-- ---- rows

pub row_kind : (plane : Bool) (marks : List Mark) → kind_of (row_line plane marks) ≡ kind.Row
row_kind false [] = refl
row_kind true [] = refl
row_kind plane (Zero ∷ marks) = refl
row_kind plane (One ∷ marks) = refl
row_kind plane (Dash ∷ marks) = refl

marks_pass : (marks : List Mark) → list_all is_mark (map mark_byte marks) ≡ true
marks_pass [] = refl
marks_pass (Zero ∷ marks) = marks_pass marks
marks_pass (One ∷ marks) = marks_pass marks
marks_pass (Dash ∷ marks) = marks_pass marks

plane_back : (plane : Bool) → plane_of (bit_byte plane ∷ []) ≡ Some plane
plane_back false = refl
plane_back true = refl

row_plane-row_line : (plane : Bool) (marks : List Mark) (n : ℕ) → length marks ≡ n → row_plane n (row_line plane marks) ≡ Some plane
row_plane-row_line plane [] zero e = plane_back plane
row_plane-row_line plane [] (suc n) e = absurd (omega arith)
row_plane-row_line plane (m ∷ marks) zero e = absurd (omega arith)
row_plane-row_line plane (m ∷ marks) (suc n) e =
    let width = eq-eqb (length (map mark_byte (m ∷ marks))) (suc n) (length-map (m ∷ marks) mark_byte ∙ e) in
    rw (width, marks_pass (m ∷ marks)) (plane_back plane)

-- no row yet, or the plane
abbrev IsPlaneSoFar : Bool → Option Bool → Type 0
IsPlaneSoFar plane None = Unit {0}
IsPlaneSoFar plane (Some first) = first ≡ plane

pub beq_same : (b : Bool) → beq b b ≡ true
beq_same false = refl
beq_same true = refl

row_agrees : (plane : Bool) (first : Option Bool) → IsPlaneSoFar plane first → agrees first plane ≡ true
row_agrees plane None h = refl
row_agrees plane (Some p) h = rw h (beq_same plane)

row_right : (n : ℕ) (plane : Bool) (first : Option Bool) (words : Line) → row_plane n words ≡ Some plane → agrees first plane ≡ true → wrong_row (open_table n first) words ≡ None
row_right n plane first words is same = rw (wrong_row, is, same) refl

plane_set : (n : ℕ) (plane : Bool) (first : Option Bool) (words : Line) → row_plane n words ≡ Some plane → IsPlaneSoFar plane first → with_plane (open_table n first) words ≡ open_table n (Some plane)
plane_set n plane None words is h = ap (open_table n) is
plane_set n plane (Some p) words is h = ap (λ q. open_table n (Some q)) h

rows_right : (n : ℕ) (plane : Bool) (rows : List (List Mark)) (rest earlier : List Line) (first : Option Bool) → All (λ marks. length marks ≡ n) rows
    → had_end earlier ≡ false → table_before earlier ≡ open_table n first → IsPlaneSoFar plane first → ((later : List Line) → had_end later ≡ false → AllRight later rest)
    → AllRight earlier (map (row_line plane) rows ++ rest)
rows_right n plane [] rest earlier first widths unended table so_far others = others earlier unended
rows_right n plane (marks ∷ rows) rest earlier first widths unended table so_far others =
    let words : Line = row_line plane marks in
    let kind = row_kind plane marks in
    let is = row_plane-row_line plane marks n (All-head (λ row. length row ≡ n) marks rows widths) in
    let right : wrong_row (table_before earlier) words ≡ None = rw table (row_right n plane first words is (row_agrees plane first so_far)) in
    let grown : table_before (words ∷ earlier) ≡ open_table n (Some plane) = rw (kind, table) (plane_set n plane first words is so_far) in (
      right_by (place_after earlier) words (row_line-is_line plane marks) unended (rw kind right),
      rows_right n plane rows rest (words ∷ earlier) (Some plane) (All-tail (λ row. length row ≡ n) marks rows widths) (rw kind unended) grown refl others,
    )

-- ---- tables

table_right : (names : List Bytes) → All IsName names → (t : TableValue) → IsTable t → All (λ s. s < length names) t.pins → (rest earlier : List Line) → had_end earlier ≡ false
    → ((later : List Line) → had_end later ≡ false → AllRight later rest) → AllRight earlier (table_lines names t ++ rest)
table_right names h t formed pins rest earlier unended others =
    let pin_names : List Bytes = map (name_of names) t.pins in
    let listed : List Bytes = pin_names ++ t.name ∷ [] in
    let named : All IsName listed = All-push IsName pin_names t.name
    (All-map IsName (name_of names) t.pins (All-weaker (λ s. s < length names) (λ s. IsName (name_of names s)) (λ s l. All-get_or IsName names s [] l h) t.pins pins)) formed.named in
    let some = ne_eqb (length listed) 0 (λ e. omega (arith, e, length_push pin_names t.name)) in
    let count : length listed - 1 ≡ length t.pins = omega (arith, length_push pin_names t.name, length-map t.pins (name_of names)) in (
      right_by (place_after earlier) (names_line names t) (names_line-is_line names h t formed.named pins) unended (rw (some, are_names-from_IsName listed named) refl),
      rows_right (length t.pins) t.plane t.rows rest (names_line names t ∷ earlier) None formed.widths unended (ap (λ n. open_table n None) count) tt others,
    )

tables_right : (names : List Bytes) → All IsName names → (tables : List TableValue) → All IsTable tables → All (λ t. All (λ s. s < length names) t.pins) tables → (earlier : List Line)
    → had_end earlier ≡ false
    → AllRight earlier (flat_map (table_lines names) tables ++ end_line ∷ [])
tables_right names h [] formed pins earlier unended = (right_by (place_after earlier) end_line (record { some = omega arith; words = (keyword (codes ".end") refl, tt) }) unended refl, tt)
tables_right names h (t ∷ tables) formed pins earlier unended =
    let parts = append_assoc (table_lines names t) (flat_map (table_lines names) tables) (end_line ∷ []) in
    subst (AllRight earlier) (sym parts) (table_right names h t (All-head IsTable t tables formed) (All-head (λ u. All (λ s. s < length names) u.pins) t tables pins)
    (flat_map (table_lines names) tables ++ end_line ∷ []) earlier unended
    (tables_right names h tables (All-tail IsTable t tables formed) (All-tail (λ u. All (λ s. s < length names) u.pins) t tables pins)))

pub blif_lines-right : (N : NetValue) → IsSound N → AllRight [] (blif_lines N)
blif_lines-right N h =
    let names : List Bytes = signal_names N in
    let named : All IsName names = signal_names-are_names N h in
    let count : signal_count N ≡ length names = sym (length-signal_names N) in
    let outputs : All (λ s. s < length names) N.outputs = subst (λ k. All (λ s. s < k) N.outputs) count h.outputs_are_signals in
    let pins : All (λ t. All (λ s. s < length names) t.pins) N.tables = subst (λ k. All (λ t. All (λ s. s < k) t.pins) N.tables) count h.pins_are_signals in
    let model : Line = codes ".model" ∷ N.model ∷ [] in
    let inputs : Line = codes ".inputs" ∷ N.inputs in
    let output_names : List Bytes = map (name_of names) N.outputs in
    let outputs_named : All IsName output_names = All-map IsName (name_of names) N.outputs
    (All-weaker (λ s. s < length names) (λ s. IsName (name_of names s)) (λ s l. All-get_or IsName names s [] l named) N.outputs outputs) in
    let lines = blif_lines-are_lines N h in (
      right_by (place_after []) model lines.0 refl (rw (is_name-from_IsName N.model h.model_named) refl),
      (
        right_by (place_after (model ∷ [])) inputs lines.1.0 refl (rw (are_names-from_IsName N.inputs h.inputs_named) refl),
        (
          right_by (place_after (inputs ∷ model ∷ [])) (codes ".outputs" ∷ output_names) lines.1.1.0 refl (rw (are_names-from_IsName output_names outputs_named) refl),
          tables_right names named N.tables h.tables_formed pins ((codes ".outputs" ∷ output_names) ∷ inputs ∷ model ∷ []) refl,
        ),
      ),
    )
