-- The lines of a sound net are lines of words that are written.
use Rattle.std.proofs.Common.{◌≡◌, ◌≢◌, ℕ, ◌+◌, ◌-◌, ◌<◌, Bool, true, false, List, [], ◌∷◌, ◌++◌, map, flat_map, length, get_or, codes, All, refl, ap, sym, subst, ◌∙◌, arith}
use Rattle.std.specs.List.{AllByRecursion}
use Rattle.std.proofs.lemmas.List.{length-append, length-map}
use Rattle.std.proofs.lemmas.List.Elements.{All-weaker, All-append, All-map, All-get_or, All-head, All-tail, recursion_from_All}
use Rattle.semantics.specs.declared.mark.Mark.{Mark}
use Rattle.semantics.specs.declared.mark.Mark.TheVariants.{Zero, One, Dash}
use Rattle.semantics.specs.Texts.{Bytes, bit_byte}
use Rattle.semantics.specs.Net.{TableValue, NetValue, signal_names, name_of, signal_count, IsName, IsNameByte, IsTable, IsSound}
use Rattle.semantics.specs.Blif.{mark_byte, row_line, names_line, table_lines, blif_lines, end_line}
use Rattle.blif_semantics.specs.Statements.{is_name}
use Rattle.blif_semantics.proofs.Names.{IsName-from_test}
use Rattle.blif_semantics.proofs.WordLines.{IsWord, IsLine}

pub all_append : {X : Type 0} (P : X → Type 0) (xs ys : List X) → AllByRecursion P xs → AllByRecursion P ys → AllByRecursion P (xs ++ ys)
all_append P [] ys h k = k
all_append P (x ∷ xs) ys h k = (h.0, all_append P xs ys h.1 k)

name_word : (name : Bytes) → IsName name → IsWord name
name_word name h = record { some = h.not_empty; printable = h.printable; ending = h.ending }

pub keyword : (word : Bytes) → is_name word ≡ true → IsWord word
keyword word h = name_word word (IsName-from_test word h)

names_words : (names : List Bytes) → All IsName names → AllByRecursion IsWord names
names_words names h = recursion_from_All IsWord names (All-weaker IsName IsWord name_word names h)

-- the signals' names
signals_words : (names : List Bytes) → All IsName names → (signals : List ℕ) → All (λ s. s < length names) signals → AllByRecursion IsWord (map (name_of names) signals)
signals_words names h [] k = tt
signals_words names h (s ∷ signals) k = (
  name_word (name_of names s) (All-get_or IsName names s [] (All-head (λ p. p < length names) s signals k) h),
  signals_words names h signals (All-tail (λ p. p < length names) s signals k),
)

mark_printable : (m : Mark) → IsNameByte (mark_byte m) × (mark_byte m ≢ 92)
mark_printable Zero = ((omega arith, omega arith, λ e. omega (arith, e)), λ e. omega (arith, e))
mark_printable One = ((omega arith, omega arith, λ e. omega (arith, e)), λ e. omega (arith, e))
mark_printable Dash = ((omega arith, omega arith, λ e. omega (arith, e)), λ e. omega (arith, e))

marks_printable : (marks : List Mark) → All (λ b. IsNameByte b × (b ≢ 92)) (map mark_byte marks)
marks_printable marks = All-map (λ b. IsNameByte b × (b ≢ 92)) mark_byte marks (λ k d within. mark_printable (get_or marks k d))

marks_word : (m : Mark) (marks : List Mark) → IsWord (map mark_byte (m ∷ marks))
marks_word m marks =
    let bytes : Bytes = map mark_byte (m ∷ marks) in
    record {
      some = omega arith;
      printable = All-weaker (λ b. IsNameByte b × (b ≢ 92)) IsNameByte (λ b h. h.0) bytes (marks_printable (m ∷ marks));
      ending = (All-get_or (λ b. IsNameByte b × (b ≢ 92)) bytes (length bytes - 1) 0 (omega arith) (marks_printable (m ∷ marks))).1;
    }

plane_word : (plane : Bool) → IsWord (bit_byte plane ∷ [])
plane_word false = keyword (48 ∷ []) refl
plane_word true = keyword (49 ∷ []) refl

pub row_line-is_line : (plane : Bool) (marks : List Mark) → IsLine (row_line plane marks)
row_line-is_line plane [] = record { some = omega arith; words = (plane_word plane, tt) }
row_line-is_line plane (m ∷ marks) = record { some = omega arith; words = (marks_word m marks, (plane_word plane, tt)) }

rows-are_lines : (plane : Bool) (rows : List (List Mark)) → AllByRecursion IsLine (map (row_line plane) rows)
rows-are_lines plane [] = tt
rows-are_lines plane (marks ∷ rows) = (row_line-is_line plane marks, rows-are_lines plane rows)

pub names_line-is_line : (names : List Bytes) → All IsName names → (t : TableValue) → IsName t.name → All (λ s. s < length names) t.pins → IsLine (names_line names t)
names_line-is_line names h t named pins = record {
  some = omega arith;
  words = (keyword (codes ".names") refl, all_append IsWord (map (name_of names) t.pins) (t.name ∷ []) (signals_words names h t.pins pins) (name_word t.name named, tt));
}

tables-are_lines : (names : List Bytes) → All IsName names → (tables : List TableValue) → All IsTable tables → All (λ t. All (λ s. s < length names) t.pins) tables
    → AllByRecursion IsLine (flat_map (table_lines names) tables)
tables-are_lines names h [] formed pins = tt
tables-are_lines names h (t ∷ tables) formed pins =
    all_append IsLine (table_lines names t) (flat_map (table_lines names) tables) (
      names_line-is_line names h t (All-head IsTable t tables formed).named (All-head (λ u. All (λ s. s < length names) u.pins) t tables pins),
      rows-are_lines t.plane t.rows,
    )
    (tables-are_lines names h tables (All-tail IsTable t tables formed) (All-tail (λ u. All (λ s. s < length names) u.pins) t tables pins))

pub length-signal_names : (N : NetValue) → length (signal_names N) ≡ signal_count N
length-signal_names N = length-append N.inputs (map (λ t. t.name) N.tables) ∙ ap (λ k. length N.inputs + k) (length-map N.tables (λ t. t.name))

pub signal_names-are_names : (N : NetValue) → IsSound N → All IsName (signal_names N)
signal_names-are_names N h = All-append IsName N.inputs (map (λ t. t.name) N.tables) h.inputs_named
    (All-map IsName (λ t. t.name) N.tables (All-weaker IsTable (λ t. IsName t.name) (λ t formed. formed.named) N.tables h.tables_formed))

pub blif_lines-are_lines : (N : NetValue) → IsSound N → AllByRecursion IsLine (blif_lines N)
blif_lines-are_lines N h =
    let names : List Bytes = signal_names N in
    let named : All IsName names = signal_names-are_names N h in
    let count : signal_count N ≡ length names = sym (length-signal_names N) in
    let outputs : All (λ s. s < length names) N.outputs = subst (λ k. All (λ s. s < k) N.outputs) count h.outputs_are_signals in
    let pins : All (λ t. All (λ s. s < length names) t.pins) N.tables = subst (λ k. All (λ t. All (λ s. s < k) t.pins) N.tables) count h.pins_are_signals in (
      record { some = omega arith; words = (keyword (codes ".model") refl, (name_word N.model h.model_named, tt)) },
      (
        record { some = omega arith; words = (keyword (codes ".inputs") refl, names_words N.inputs h.inputs_named) },
        (
          record { some = omega arith; words = (keyword (codes ".outputs") refl, signals_words names named N.outputs outputs) },
          all_append IsLine (flat_map (table_lines names) N.tables) (end_line ∷ [])
              (tables-are_lines names named N.tables h.tables_formed pins)
              (record { some = omega arith; words = (keyword (codes ".end") refl, tt) }, tt),
        ),
      ),
    )
