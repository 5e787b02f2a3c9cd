-- The bits of variables counted up from one, and the lines that hold where a table's variables have the bits of its rows.
use Rattle.std.proofs.Common.{◌≡◌, ℕ, zero, suc, ◌+◌, ◌-◌, ◌<◌, Bool, false, not, ◌&&◌, cond, List, [], ◌∷◌, ◌++◌, length, map, take, get_or, refl, sym, ap, subst, ◌∙◌, append_assoc, arith}
use Rattle.std.specs.List.{AllByRecursion, sum_by}
use Rattle.std.proofs.lemmas.List.{length-append, length-map, map-append}
use Rattle.std.proofs.lemmas.List.Sums.{sum_by-cons}
use Rattle.std.proofs.Math.Seq.{get_or-append_seam}
use Rattle.semantics.specs.declared.mark.Mark.{Mark}
use Rattle.semantics.specs.declared.mark.Mark.TheVariants.{Zero, One, Dash}
use Rattle.semantics.specs.Net.{TableValue, table_at, is_literal, row_literals}
use Rattle.semantics.specs.Value.{Assignment, row_matches}
use Rattle.semantics.proofs.Values.{row_matches-same}
use Rattle.aiger_semantics.specs.declared.and_line.AndLine.{AndLine}
use Rattle.aiger_semantics.specs.Circuit.{literal_of_variable, negated, literal_value, and_value}
use Rattle.aiger_semantics.specs.NetCircuit.{Literals, joins_after, joins, joined, marked, row_inputs, row_ands, rows_ands, table_ands, rows_joins, rows_joined, no_rows, table_joins}
use Rattle.aiger_semantics.proofs.Each.{each-append, each-left, each-right}
use Rattle.aiger_semantics.proofs.Literals.{value-variable, value-negated}
use Rattle.aiger_semantics.proofs.Joins.{Holds, row-value}

-- the variables from `next` on have these bits
abbrev pub HasBits : Assignment → ℕ → List Bool → Type 0
HasBits v next [] = Unit {0}
HasBits v next (b ∷ bits) = (v next ≡ b) × HasBits v (next + 1) bits

pub bits-left : (v : Assignment) (next : ℕ) (as' bs : List Bool) → HasBits v next (as' ++ bs) → HasBits v next as'
bits-left v next [] bs h = tt
bits-left v next (a ∷ as') bs h = (h.0, bits-left v (next + 1) as' bs h.1)

pub bits-right : (v : Assignment) (next m : ℕ) (as' bs : List Bool) → m ≡ next + length as' → HasBits v next (as' ++ bs) → HasBits v m bs
bits-right v next m [] bs at h = let same : next ≡ m = omega arith in subst (λ k. HasBits v k bs) same h
bits-right v next m (a ∷ as') bs at h = bits-right v (next + 1) m as' bs (omega arith) h.1

-- bits that stand in a list behind others
pub bits-behind : (front bits : List Bool) (next : ℕ) → next ≡ length front → HasBits (λ k. get_or (front ++ bits) k false) next bits
bits-behind front [] next at = tt
bits-behind front (b ∷ bits) next at =
    let grown : (front ++ b ∷ []) ++ bits ≡ front ++ b ∷ bits = append_assoc front (b ∷ []) bits in
    let longer : next + 1 ≡ length (front ++ b ∷ []) = simp length-append (omega arith) in
    let here : get_or (front ++ b ∷ bits) (length front) false ≡ b = get_or-append_seam front b bits false in
    (ap (λ k. get_or (front ++ b ∷ bits) k false) at ∙ here, subst (λ l. HasBits (λ k. get_or l k false) (next + 1) bits) grown (bits-behind (front ++ b ∷ []) bits (next + 1) longer))

-- the bits of the lines that join bits from left to right
abbrev pub join_bits_after : Bool → List Bool → List Bool
join_bits_after so_far [] = []
join_bits_after so_far (b ∷ bits) = (so_far && b) ∷ join_bits_after (so_far && b) bits

abbrev pub join_bits : List Bool → List Bool
join_bits [] = []
join_bits (b ∷ bits) = join_bits_after b bits

abbrev pub marked_bits : Mark → Bool → List Bool
marked_bits Zero b = not b ∷ []
marked_bits One b = b ∷ []
marked_bits Dash b = []

abbrev pub row_bits : Assignment → List Mark → List ℕ → List Bool
row_bits w [] pins = []
row_bits w (m ∷ marks) [] = []
row_bits w (m ∷ marks) (s ∷ pins) = marked_bits m (w s) ++ row_bits w marks pins

abbrev pub rows_bits : Assignment → List ℕ → List (List Mark) → List Bool
rows_bits w pins [] = []
rows_bits w pins (marks ∷ rows) = join_bits (row_bits w marks pins) ++ rows_bits w pins rows

abbrev pub opposite_bits : Assignment → List ℕ → List (List Mark) → List Bool
opposite_bits w pins rows = map (λ marks. not (row_matches marks pins w)) rows

abbrev pub table_bits : Assignment → TableValue → List Bool
table_bits w t = rows_bits w t.pins t.rows ++ join_bits (opposite_bits w t.pins t.rows)

abbrev pub tables_bits : Assignment → List TableValue → List Bool
tables_bits w [] = []
tables_bits w (t ∷ tables) = table_bits w t ++ tables_bits w tables

-- how many bits there are
join_bits_after-length : (so_far : Bool) (bits : List Bool) → length (join_bits_after so_far bits) ≡ length bits
join_bits_after-length so_far [] = refl
join_bits_after-length so_far (b ∷ bits) = ap suc (join_bits_after-length (so_far && b) bits)

join_bits-length : (bits : List Bool) → length (join_bits bits) ≡ length bits - 1
join_bits-length [] = refl
join_bits-length (b ∷ bits) = let e = join_bits_after-length b bits in omega (arith, e)

marked_bits-length : (m : Mark) (b : Bool) → length (marked_bits m b) ≡ cond (is_literal m) 1 0
marked_bits-length Zero b = refl
marked_bits-length One b = refl
marked_bits-length Dash b = refl

row_bits-length : (w : Assignment) (marks : List Mark) (pins : List ℕ) → length marks ≡ length pins → length (row_bits w marks pins) ≡ row_literals marks
row_bits-length w [] pins same = refl
row_bits-length w (m ∷ marks) [] same = absurd (omega arith)
row_bits-length w (m ∷ marks) (s ∷ pins) same =
    let more : length (row_bits w marks pins) ≡ row_literals marks = row_bits-length w marks pins (omega arith) in
    let here = marked_bits-length m (w s) in
    let sum = sum_by-cons (λ (k : Mark). cond (is_literal k) 1 0) m marks in
    length-append (marked_bits m (w s)) (row_bits w marks pins) ∙ ap (λ k. k + length (row_bits w marks pins)) here ∙ ap (λ k. cond (is_literal m) 1 0 + k) more ∙ sym sum

joined_row-length : (w : Assignment) (marks : List Mark) (pins : List ℕ) → length marks ≡ length pins → length (join_bits (row_bits w marks pins)) ≡ row_ands marks
joined_row-length w marks pins same = join_bits-length (row_bits w marks pins) ∙ ap (λ k. k - 1) (row_bits-length w marks pins same)

-- each row has a mark for each pin
abbrev pub AreWide : List ℕ → List (List Mark) → Type 0
AreWide pins rows = AllByRecursion (λ (marks : List Mark). length marks ≡ length pins) rows

rows_bits-length : (w : Assignment) (pins : List ℕ) (rows : List (List Mark)) → AreWide pins rows → length (rows_bits w pins rows) ≡ rows_ands rows
rows_bits-length w pins [] wide = refl
rows_bits-length w pins (marks ∷ rows) wide =
    let here = joined_row-length w marks pins wide.0 in
    let more = rows_bits-length w pins rows wide.1 in
    let sum = sum_by-cons row_ands marks rows in
    length-append (join_bits (row_bits w marks pins)) (rows_bits w pins rows) ∙ ap (λ k. k + length (rows_bits w pins rows)) here ∙ ap (λ k. row_ands marks + k) more ∙ sym sum

pub table_bits-length : (w : Assignment) (t : TableValue) → AreWide t.pins t.rows → length (table_bits w t) ≡ table_ands t
table_bits-length w t wide =
    let last : length (join_bits (opposite_bits w t.pins t.rows)) ≡ length t.rows - 1
    = join_bits-length (opposite_bits w t.pins t.rows) ∙ ap (λ k. k - 1) (length-map t.rows (λ marks. not (row_matches marks t.pins w))) in
    length-append (rows_bits w t.pins t.rows) (join_bits (opposite_bits w t.pins t.rows))
    ∙ ap (λ k. k + length (join_bits (opposite_bits w t.pins t.rows))) (rows_bits-length w t.pins t.rows wide)
    ∙ ap (λ k. rows_ands t.rows + k) last

-- each table's variables have its bits
pub bits_at : (v w : Assignment) (next m i : ℕ) (tables : List TableValue) → AllByRecursion (λ (t : TableValue). AreWide t.pins t.rows) tables → i < length tables
    → m ≡ next + sum_by table_ands (take i tables) → HasBits v next (tables_bits w tables) → HasBits v m (table_bits w (table_at tables i))
bits_at v w next m i [] wide low at h = absurd (omega arith)
bits_at v w next m zero (t ∷ tables) wide low at h =
    let same : next ≡ m = omega arith in
    subst (λ k. HasBits v k (table_bits w t)) same (bits-left v next (table_bits w t) (tables_bits w tables) h)
bits_at v w next m (suc i) (t ∷ tables) wide low at h =
    let sum = sum_by-cons table_ands t (take i tables) in
    let size = table_bits-length w t wide.0 in
    bits_at v w (next + table_ands t) m i tables wide.1 (omega arith) (omega (arith, sum))
    (bits-right v next (next + table_ands t) (table_bits w t) (tables_bits w tables) (omega (arith, size)) h)

-- the literals of pins have the pins' values
abbrev pub Agrees : Assignment → Literals → Assignment → List ℕ → Type 0
Agrees v literals w pins = AllByRecursion (λ s. literal_value v (literals s) ≡ w s) pins

module _ (v : Assignment) where
  joins_after-hold : (next so_far : ℕ) (literals : List ℕ) → HasBits v next (join_bits_after (literal_value v so_far) (map (literal_value v) literals))
      → Holds v (joins_after next so_far literals)
  joins_after-hold next so_far [] h = tt
  joins_after-hold next so_far (literal ∷ literals) h =
      let joined_here : (literal_value v so_far && literal_value v literal) ≡ literal_value v (literal_of_variable next) = sym (value-variable v next ∙ h.0) in (
        h.0,
        joins_after-hold (next + 1) (literal_of_variable next) literals
            (subst (λ b. HasBits v (next + 1) (join_bits_after b (map (literal_value v) literals))) joined_here h.1),
      )

  joins-hold : (next : ℕ) (literals : List ℕ) (bits : List Bool) → map (literal_value v) literals ≡ bits → HasBits v next (join_bits bits) → Holds v (joins next literals)
  joins-hold next [] bits same h = tt
  joins-hold next (literal ∷ literals) bits same h =
      joins_after-hold next literal literals (subst (λ bs. HasBits v next (join_bits bs)) (sym same) h)

  module _ (literals : Literals) (w : Assignment) where
    marked-bits : (m : Mark) (s : ℕ) → literal_value v (literals s) ≡ w s → map (literal_value v) (marked m (literals s)) ≡ marked_bits m (w s)
    marked-bits Zero s same = ap (λ b. b ∷ []) (value-negated v (literals s) ∙ ap not same)
    marked-bits One s same = ap (λ b. b ∷ []) same
    marked-bits Dash s same = refl

    row_inputs-bits : (marks : List Mark) (pins : List ℕ) → Agrees v literals w pins → map (literal_value v) (row_inputs literals marks pins) ≡ row_bits w marks pins
    row_inputs-bits [] pins same = refl
    row_inputs-bits (m ∷ marks) [] same = refl
    row_inputs-bits (m ∷ marks) (s ∷ pins) same =
        map-append (literal_value v) (marked m (literals s)) (row_inputs literals marks pins)
        ∙ ap (λ bs. bs ++ map (literal_value v) (row_inputs literals marks pins)) (marked-bits m s same.0)
        ∙ ap (λ bs. marked_bits m (w s) ++ bs) (row_inputs-bits marks pins same.1)

    rows-hold : (next : ℕ) (pins : List ℕ) (rows : List (List Mark)) → Agrees v literals w pins → AreWide pins rows → HasBits v next (rows_bits w pins rows)
        → Holds v (rows_joins literals next pins rows)
    rows-hold next pins [] same wide h = tt
    rows-hold next pins (marks ∷ rows) same wide h =
        let own = join_bits (row_bits w marks pins) in
        let size = joined_row-length w marks pins wide.0 in
        each-append (λ (a : AndLine). v a.variable ≡ and_value v a) (joins next (row_inputs literals marks pins)) (rows_joins literals (next + row_ands marks) pins rows)
        (joins-hold next (row_inputs literals marks pins) (row_bits w marks pins) (row_inputs-bits marks pins same) (bits-left v next own (rows_bits w pins rows) h))
        (rows-hold (next + row_ands marks) pins rows same wide.1 (bits-right v next (next + row_ands marks) own (rows_bits w pins rows) (omega (arith, size)) h))

    opposites-bits : v 0 ≡ false → (next : ℕ) (pins : List ℕ) (rows : List (List Mark)) → Agrees v literals w pins → Holds v (rows_joins literals next pins rows)
        → map (literal_value v) (map negated (rows_joined literals next pins rows)) ≡ opposite_bits w pins rows
    opposites-bits none next pins [] same h = refl
    opposites-bits none next pins (marks ∷ rows) same h =
        let own = joins next (row_inputs literals marks pins) in
        let rest = rows_joins literals (next + row_ands marks) pins rows in
        let here : literal_value v (negated (joined next (row_inputs literals marks pins))) ≡ not (row_matches marks pins w) =
        value-negated v (joined next (row_inputs literals marks pins))
        ∙ ap not (row-value v none literals next marks pins (each-left (λ (a : AndLine). v a.variable ≡ and_value v a) own rest h)
        ∙ row_matches-same marks pins (λ s. literal_value v (literals s)) w same) in
        let more = opposites-bits none (next + row_ands marks) pins rows same (each-right (λ (a : AndLine). v a.variable ≡ and_value v a) own rest h) in
        cc (here, more)

    -- where a table's variables have its bits and its pins their values, its lines hold
    pub table-holds : v 0 ≡ false → (next : ℕ) (t : TableValue) → Agrees v literals w t.pins → AreWide t.pins t.rows → HasBits v next (table_bits w t)
        → Holds v (table_joins literals next t)
    table-holds none next t same wide h =
        let own = rows_bits w t.pins t.rows in
        let last = join_bits (opposite_bits w t.pins t.rows) in
        let size = rows_bits-length w t.pins t.rows wide in
        let rows : Holds v (rows_joins literals next t.pins t.rows) = rows-hold next t.pins t.rows same wide (bits-left v next own last h) in
        each-append (λ (a : AndLine). v a.variable ≡ and_value v a) (rows_joins literals next t.pins t.rows) (joins (next + rows_ands t.rows) (no_rows literals next t)) rows
        (joins-hold (next + rows_ands t.rows) (no_rows literals next t) (opposite_bits w t.pins t.rows) (opposites-bits none next t.pins t.rows same rows)
        (bits-right v next (next + rows_ands t.rows) own last (omega (arith, size)) h))
