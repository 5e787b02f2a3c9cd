-- The value of a moved table, by kind.
use Rattle.std.proofs.Common.{◌≡◌, ◌≢◌, ◌⊎◌, ℕ, zero, suc, ◌+◌, ◌-◌, ◌<◌, Bool, true, false, not, ◌&&◌, ◌||◌, cond, List, [], ◌∷◌, ◌++◌, length, get_or, set, refl, ap, sym, subst, ◌∙◌, inl, inr}
use Rattle.std.proofs.Common.{arith}
use Rattle.std.specs.List.{list_any, remove}
use Rattle.std.proofs.lemmas.Bool.{and_parts, and_from, cases_lt, cases_eq, true≢false, false≢true}
use Rattle.std.proofs.lemmas.List.{length-set, get_or-set_same, get_or-set_other, get_or_default, get_or_at, set_at}
use Rattle.std.proofs.lemmas.List.Edits.{length-remove, get_or-remove_below, get_or-remove_above}
use Rattle.std.proofs.lemmas.List.Folds.{Any-from_list_any, list_any_at}
use Rattle.semantics.specs.declared.mark.Mark.{Mark}
use Rattle.semantics.specs.declared.mark.Mark.TheVariants.{Zero, One, Dash}
use Rattle.semantics.specs.Texts.{Bytes}
use Rattle.semantics.specs.Net.{TableValue, NetValue, no_table, table_at, table_count, constant_table}
use Rattle.semantics.specs.Value.{Assignment, mark_matches, row_matches, table_value}
use Rattle.chain_semantics.specs.declared.moves.Move.{Move}
use Rattle.chain_semantics.specs.declared.moves.Move.TheVariants.{Const, DropRow, DropLiteral, Signal, Pair}
use Rattle.chain_semantics.specs.TidyRules.{mark_at}
use Rattle.chain_semantics.specs.Moves.{table_of, row_at, moved_table, moved}
use Rattle.chain_semantics.specs.MoveValues.{turned_over, RowHoldsBut, AnotherRowHolds, HasPlane}

pub moved-itself : (N : NetValue) (move : Move) → table_of move < table_count N → table_at (moved N move).tables (table_of move) ≡ moved_table (table_at N.tables (table_of move)) move
moved-itself N move within = get_or-set_same N.tables (table_of move) (moved_table (table_at N.tables (table_of move)) move) no_table within

pub moved-others : (N : NetValue) (move : Move) (i : ℕ) → i ≢ table_of move → table_at (moved N move).tables i ≡ table_at N.tables i
moved-others N move i other = get_or-set_other N.tables (table_of move) i (moved_table (table_at N.tables (table_of move)) move) no_table other

constant-name : (name : Bytes) (value : Bool) → (constant_table name value).name ≡ name
constant-name name false = refl
constant-name name true = refl

pub moved_table-name : (t : TableValue) (move : Move) → (moved_table t move).name ≡ t.name
moved_table-name t (Const i value) = constant-name t.name value
moved_table-name t (DropRow i row) = refl
moved_table-name t (DropLiteral i row pin) = refl
moved_table-name t (Signal i s flip) = refl
moved_table-name t (Pair i s flip_s u flip_u flip) = refl

pub becomes-copy : (t : TableValue) (i s : ℕ) (flip : Bool)
    → moved_table t (Signal i s flip) ≡ record { name = t.name; pins = s ∷ []; rows = (cond flip Zero One ∷ []) ∷ []; plane = true }
becomes-copy t i s false = refl
becomes-copy t i s true = refl

pub becomes-pair : (t : TableValue) (i s : ℕ) (flip_s : Bool) (u : ℕ) (flip_u flip : Bool)
    → moved_table t (Pair i s flip_s u flip_u flip)
    ≡ record { name = t.name; pins = s ∷ u ∷ []; rows = (cond flip_s Zero One ∷ cond flip_u Zero One ∷ []) ∷ []; plane = not flip }
becomes-pair t i s false u false flip = refl
becomes-pair t i s false u true flip = refl
becomes-pair t i s true u false flip = refl
becomes-pair t i s true u true flip = refl

constant_name-value : (name : Bytes) (value : Bool) (v : Assignment) → table_value (constant_table name value) v ≡ value
constant_name-value name false v = refl
constant_name-value name true v = refl

pub constant-value : (t : TableValue) (i : ℕ) (value : Bool) (v : Assignment) → table_value (moved_table t (Const i value)) v ≡ value
constant-value t i value v = constant_name-value t.name value v

one_mark : (b : Bool) → cond ((b && true) || false) true false ≡ b
one_mark false = refl
one_mark true = refl

pub copied-value : (t : TableValue) (i s : ℕ) (flip : Bool) (v : Assignment) → table_value (moved_table t (Signal i s flip)) v ≡ cond flip (not (v s)) (v s)
copied-value t i s false v = one_mark (v s)
copied-value t i s true v = one_mark (not (v s))

-- of two marks, and the plane that is told from the flip
two_marks : (a b flip : Bool) → cond ((a && (b && true)) || false) (not flip) (not (not flip)) ≡ turned_over flip (a && b)
two_marks false false false = refl
two_marks false false true = refl
two_marks false true false = refl
two_marks false true true = refl
two_marks true false false = refl
two_marks true false true = refl
two_marks true true false = refl
two_marks true true true = refl

pub pair-value : (t : TableValue) (i s : ℕ) (flip_s : Bool) (u : ℕ) (flip_u flip : Bool) (v : Assignment)
    → table_value (moved_table t (Pair i s flip_s u flip_u flip)) v ≡ turned_over flip (turned_over flip_s (v s) && turned_over flip_u (v u))
pair-value t i s false u false flip v = two_marks (v s) (v u) flip
pair-value t i s false u true flip v = two_marks (v s) (not (v u)) flip
pair-value t i s true u false flip v = two_marks (not (v s)) (v u) flip
pair-value t i s true u true flip v = two_marks (not (v s)) (not (v u)) flip

-- ---- rows that hold

abbrev Holds : List Mark → List ℕ → Assignment → ℕ → Type 0
Holds marks pins v q = mark_matches (mark_at marks q) (v (get_or pins q 0)) ≡ true

matches-holds : (marks : List Mark) (pins : List ℕ) (v : Assignment) → row_matches marks pins v ≡ true → (q : ℕ) → q < length marks → q < length pins → Holds marks pins v q
matches-holds [] pins v e q low within = absurd (omega arith)
matches-holds (m ∷ marks) [] v e q low within = absurd (omega arith)
matches-holds (m ∷ marks) (s ∷ pins) v e zero low within = (and_parts (mark_matches m (v s)) (row_matches marks pins v) e).0
matches-holds (m ∷ marks) (s ∷ pins) v e (suc q) low within =
    matches-holds marks pins v (and_parts (mark_matches m (v s)) (row_matches marks pins v) e).1 q (omega arith) (omega arith)

holds-matches : (marks : List Mark) (pins : List ℕ) (v : Assignment) → ((q : ℕ) → q < length marks → q < length pins → Holds marks pins v q) → row_matches marks pins v ≡ true
holds-matches [] pins v h = refl
holds-matches (m ∷ marks) [] v h = refl
holds-matches (m ∷ marks) (s ∷ pins) v h =
    and_from (mark_matches m (v s)) (row_matches marks pins v) (h 0 (omega arith) (omega arith))
    (holds-matches marks pins v (λ q low within. h (suc q) (omega arith) (omega arith)))

not_itself : (b : Bool) → ¬ (not b ≡ b)
not_itself false e = true≢false e
not_itself true e = false≢true e

plane_if : (matched plane : Bool) → cond matched plane (not plane) ≡ plane → matched ≡ true
plane_if true plane e = refl
plane_if false plane e = absurd (not_itself plane e)

-- the value is the plane exactly where a row matches
record SomeRow (rows : List (List Mark)) (pins : List ℕ) (v : Assignment) : Type 0 where
  place : ℕ
  within : place < length rows
  matches : row_matches (row_at rows place) pins v ≡ true

plane-row : (t : TableValue) (v : Assignment) → table_value t v ≡ t.plane → SomeRow t.rows t.pins v
plane-row t v e =
    let found = Any-from_list_any (λ marks. row_matches marks t.pins v) t.rows (plane_if (list_any (λ marks. row_matches marks t.pins v) t.rows) t.plane e) in
    let same : found.1 ≡ row_at t.rows found.0 = sym found.3 ∙ get_or_default t.rows found.0 found.1 [] found.2 in
    record { place = found.0; within = found.2; matches = subst (λ marks. row_matches marks t.pins v ≡ true) same found.4 }

row-plane : (t : TableValue) (v : Assignment) → SomeRow t.rows t.pins v → table_value t v ≡ t.plane
row-plane t v r =
    let matched : list_any (λ marks. row_matches marks t.pins v) t.rows ≡ true = list_any_at (λ marks. row_matches marks t.pins v) t.rows r.place [] r.within r.matches in
    ap (λ b. cond b t.plane (not t.plane)) matched

-- ---- a row left out

pub row_dropped-other : (t : TableValue) (i r : ℕ) (v : Assignment) → r < length t.rows → HasPlane t (DropRow i r) v → AnotherRowHolds t v r
row_dropped-other t i r v within e =
    let found = plane-row (moved_table t (DropRow i r)) v e in
    let fewer = length-remove t.rows r within in
    elim (cases_lt found.place r) [
      | inl below ↦ (
        found.place,
        omega (arith, below, within),
        λ same. omega (arith, same, below),
        matches-holds (row_at t.rows found.place) t.pins v
            (subst (λ marks. row_matches marks t.pins v ≡ true) (get_or-remove_below t.rows r [] found.place below within) found.matches),
      )
      | inr above ↦ (
        found.place + 1,
        omega (arith, found.within, fewer),
        λ same. omega (arith, same, above),
        matches-holds (row_at t.rows (found.place + 1)) t.pins v
            (subst (λ marks. row_matches marks t.pins v ≡ true) (get_or-remove_above t.rows r [] found.place above within) found.matches),
      )
    ]

pub other-row_dropped : (t : TableValue) (i r : ℕ) (v : Assignment) → r < length t.rows → AnotherRowHolds t v r → HasPlane t (DropRow i r) v
other-row_dropped t i r v within (k, low, other, holds) =
    let fewer = length-remove t.rows r within in
    let matches : row_matches (row_at t.rows k) t.pins v ≡ true = holds-matches (row_at t.rows k) t.pins v holds in
    row-plane (moved_table t (DropRow i r)) v (elim (cases_lt k r) [
      | inl below ↦ record {
        place = k;
        within = omega (arith, below, within, fewer);
        matches = subst (λ marks. row_matches marks t.pins v ≡ true) (sym (get_or-remove_below t.rows r [] k below within)) matches;
      }
      | inr not_below ↦
          let above : r < k = elim (cases_lt r k) [ inl h ↦ h | inr h ↦ absurd (other (omega (arith, not_below, h))) ] in
          let next : (k - 1) + 1 ≡ k = omega (arith, above) in record {
            place = k - 1;
            within = omega (arith, above, low, fewer);
            matches =
                subst (λ marks. row_matches marks t.pins v ≡ true)
                (sym (get_or-remove_above t.rows r [] (k - 1) (omega (arith, above)) within ∙ ap (row_at t.rows) next)) matches;
          }
    ])

-- ---- a literal left out

but-holds : (marks : List Mark) (pins : List ℕ) (v : Assignment) (p : ℕ) → row_matches (set marks p Dash) pins v ≡ true → (q : ℕ) → q < length marks → q < length pins → q ≢ p → Holds marks pins v q
but-holds marks pins v p e q low within other =
    subst (λ m. mark_matches m (v (get_or pins q 0)) ≡ true) (get_or-set_other marks p q Dash Dash other)
    (matches-holds (set marks p Dash) pins v e q (omega (arith, low, length-set marks p Dash)) within)

holds-but : (marks : List Mark) (pins : List ℕ) (v : Assignment) (p : ℕ) → ((q : ℕ) → q < length marks → q < length pins → q ≢ p → Holds marks pins v q) → row_matches (set marks p Dash) pins v ≡ true
holds-but marks pins v p h =
    holds-matches (set marks p Dash) pins v
    (λ q low within.
    let shorter : q < length marks = omega (arith, low, length-set marks p Dash) in
    elim (cases_eq q p) [
      | inl same ↦
          let dash : mark_at (set marks p Dash) q ≡ Dash = ap (mark_at (set marks p Dash)) same ∙ get_or-set_same marks p Dash Dash (omega (arith, shorter, same)) in
          ap (λ m. mark_matches m (v (get_or pins q 0))) dash
      | inr other ↦ subst (λ m. mark_matches m (v (get_or pins q 0)) ≡ true) (sym (get_or-set_other marks p q Dash Dash other)) (h q shorter within other)
    ])

pub literal_dropped-row : (t : TableValue) (i r p : ℕ) (v : Assignment) → r < length t.rows → HasPlane t (DropLiteral i r p) v → AnotherRowHolds t v r ⊎ RowHoldsBut t v r p
literal_dropped-row t i r p v within e =
    let found = plane-row (moved_table t (DropLiteral i r p)) v e in
    let new : List Mark = set (row_at t.rows r) p Dash in
    elim (cases_eq found.place r) [
      | inl same ↦
          let is_new : row_at (set t.rows r new) found.place ≡ new = ap (row_at (set t.rows r new)) same ∙ get_or-set_same t.rows r new [] within in
          inr (but-holds (row_at t.rows r) t.pins v p (subst (λ marks. row_matches marks t.pins v ≡ true) is_new found.matches))
      | inr other ↦ inl (
        found.place,
        omega (arith, found.within, length-set t.rows r new),
        other,
        matches-holds (row_at t.rows found.place) t.pins v
            (subst (λ marks. row_matches marks t.pins v ≡ true) (get_or-set_other t.rows r found.place new [] other) found.matches),
      )
    ]

pub row-literal_dropped : (t : TableValue) (i r p : ℕ) (v : Assignment) → r < length t.rows → AnotherRowHolds t v r ⊎ RowHoldsBut t v r p → HasPlane t (DropLiteral i r p) v
row-literal_dropped t i r p v within (inl (k, low, other, holds)) =
    let new : List Mark = set (row_at t.rows r) p Dash in
    row-plane (moved_table t (DropLiteral i r p)) v (record {
      place = k;
      within = omega (arith, low, length-set t.rows r new);
      matches =
          subst (λ marks. row_matches marks t.pins v ≡ true) (sym (get_or-set_other t.rows r k new [] other)) (holds-matches (row_at t.rows k) t.pins v holds);
    })
row-literal_dropped t i r p v within (inr but) =
    let new : List Mark = set (row_at t.rows r) p Dash in
    row-plane (moved_table t (DropLiteral i r p)) v (record {
      place = r;
      within = omega (arith, within, length-set t.rows r new);
      matches = subst (λ marks. row_matches marks t.pins v ≡ true) (sym (get_or-set_same t.rows r new [] within)) (holds-but (row_at t.rows r) t.pins v p but);
    })

-- ---- the rows that are left

remove_at : {X : Type 0} (before : List X) (x : X) (after : List X) → remove (before ++ x ∷ after) (length before) ≡ before ++ after
remove_at [] x after = refl
remove_at (y ∷ before) x after = ap (λ l. y ∷ l) (remove_at before x after)

pub rows-left : (t : TableValue) (i : ℕ) (before : List (List Mark)) (marks : List Mark) (after : List (List Mark)) → t.rows ≡ before ++ marks ∷ after
    → moved_table t (DropRow i (length before)) ≡ record t { rows = before ++ after }
rows-left t i before marks after e = ap (λ rows. record t { rows = rows }) (ap (λ rows. remove rows (length before)) e ∙ remove_at before marks after)

literal_at : (before : List (List Mark)) (left : List Mark) (m : Mark) (right : List Mark) (after : List (List Mark))
    → (let rows = before ++ (left ++ m ∷ right) ∷ after in
    set rows (length before) (set (row_at rows (length before)) (length left) Dash) ≡ before ++ (left ++ Dash ∷ right) ∷ after)
literal_at before left m right after =
    let row : List Mark = left ++ m ∷ right in
    let rows : List (List Mark) = before ++ row ∷ after in
    let is_row : row_at rows (length before) ≡ row = get_or_at before row after [] (length before) refl in
    ap (λ marks. set rows (length before) (set marks (length left) Dash)) is_row
    ∙ ap (set rows (length before)) (set_at left m right Dash (length left) refl)
    ∙ set_at before row after (left ++ Dash ∷ right) (length before) refl

pub literals-left : (t : TableValue) (i : ℕ) (before : List (List Mark)) (left : List Mark) (m : Mark) (right : List Mark) (after : List (List Mark))
    → t.rows ≡ before ++ (left ++ m ∷ right) ∷ after
    → moved_table t (DropLiteral i (length before) (length left)) ≡ record t { rows = before ++ (left ++ Dash ∷ right) ∷ after }
literals-left t i before left m right after e =
    ap (λ rows. record t { rows = rows })
    (ap (λ (rows : List (List Mark)). set rows (length before) (set (row_at rows (length before)) (length left) Dash)) e ∙ literal_at before left m right after)
