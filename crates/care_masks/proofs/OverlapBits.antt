-- Where a table changes without one of its rows or literals, from where its rows overlap and where none matches.
use Rattle.std.proofs.Common.{◌≡◌, ◌↔◌, ℕ, zero, suc, ◌+◌, ◌<◌, ◌≤◌, ◌^◌, Bool, true, false, not, cond, ◌&&◌, ◌||◌, List, [], ◌∷◌, length, get_or, set, drop, w64, IsTrue, All, refl, ap, sym, ◌∙◌}
use Rattle.std.proofs.Common.{inl, inr, arith, get_or-set_same, get_or-set_other}
use Rattle.std.specs.Prelude.{bit_and, bit_or}
use Rattle.std.specs.Int.{bit_not}
use Rattle.std.specs.List.{list_any, remove}
use Rattle.std.proofs.lemmas.Bool.{cases_eq, and_parts, and_from}
use Rattle.std.proofs.lemmas.List.{drop_more, drop_all}
use Rattle.std.proofs.lemmas.List.Elements.{All-weaker, recursion_from_All}
use Rattle.semantics.specs.declared.mark.Mark.{Mark}
use Rattle.semantics.specs.declared.mark.Mark.TheVariants.{Dash}
use Rattle.semantics.specs.Net.{TableValue, NetValue, table_at, no_table, input_count, signal_count, table_count, IsSound}
use Rattle.semantics.specs.Value.{Assignment, mark_matches, row_matches, table_value, value_of}
use Rattle.semantics.proofs.Values.{table_value-same, value_law}
use Rattle.chain_semantics.specs.declared.moves.Move.{Move}
use Rattle.chain_semantics.specs.Moves.{table_of, moved_table, row_at}
use Rattle.chain_semantics.specs.Care.{moved_value, Changes}
use Rattle.chain_semantics.specs.MoveLaws.{IsMoveOf}
use Rattle.chain_semantics.proofs.MovedNets.{move-within, moved-pins}
use Rattle.lane_bits.specs.Rows.{turned}
use Rattle.lane_bits.proofs.Bits.{and_bit, or_bit}
use Rattle.lane_nets.specs.Words.{word_bit, values_at, HasValues}
use Rattle.lane_nets.proofs.WordBits.{not_bit}
use Rattle.care_masks.specs.Overlaps.{two_pass, rows_overlap, AreOverlapsOf}
use Rattle.care_masks.proofs.Breaking.{turned-differs}

-- ---- two rows or more

-- fewer rows than two
pub too_few : (test : List Mark → Bool) (rows : List (List Mark)) → length rows < 2 → two_pass test rows ≡ false
too_few test [] low = refl
too_few test (m ∷ []) low = alone (test m)
  where
    alone : (x : Bool) → ((x && false) || false) ≡ false
    alone true = refl
    alone false = refl
too_few test (m ∷ k ∷ rows) low = absurd (omega arith)

-- two among those behind a place, where `any` says whether one before it passes, and `two` whether two do
abbrev pub two_from : (List Mark → Bool) → List (List Mark) → Bool → Bool → Bool
two_from test rest any two = two || ((any && list_any test rest) || two_pass test rest)

pub two_step : (test : List Mark → Bool) (rows : List (List Mark)) (i b any two word : ℕ) (marks : List Mark) → i < length rows → marks ≡ get_or rows i marks
    → word_bit word b ≡ test marks → two_from test (drop i rows) (word_bit any b) (word_bit two b) ≡ two_pass test rows
    → two_from test (drop (i + 1) rows) (word_bit (bit_or any word) b) (word_bit (bit_or two (bit_and any word)) b) ≡ two_pass test rows
two_step test rows i b any two word marks low read here before =
    let rest : List (List Mark) = drop (i + 1) rows in
    let whole : drop i rows ≡ marks ∷ rest = drop_more rows i marks low ∙ ap (λ m. m ∷ rest) (sym read) in
    let any_is : word_bit (bit_or any word) b ≡ (word_bit any b || test marks) = or_bit any word b ∙ ap (λ x. word_bit any b || x) here in
    let two_is : word_bit (bit_or two (bit_and any word)) b ≡ (word_bit two b || (word_bit any b && test marks)) =
    or_bit two (bit_and any word) b ∙ ap (λ x. word_bit two b || x) (and_bit any word b ∙ ap (λ x. word_bit any b && x) here) in
    (λ j. two_from test rest (any_is j) (two_is j))
    ∙ counted (word_bit two b) (word_bit any b) (test marks) (list_any test rest) (two_pass test rest)
    ∙ ap (λ l. two_from test l (word_bit any b) (word_bit two b)) (sym whole)
    ∙ before
  where
    counted : (w a x r t : Bool) → ((w || (a && x)) || (((a || x) && r) || t)) ≡ (w || ((a && (x || r)) || ((x && r) || t)))
    counted true a x r t = refl
    counted false true true r t = refl
    counted false true false r t = refl
    counted false false x r t = refl

pub two_end : (test : List Mark → Bool) (rows : List (List Mark)) (i b any two : ℕ) → length rows ≤ i
    → two_from test (drop i rows) (word_bit any b) (word_bit two b) ≡ two_pass test rows → word_bit two b ≡ two_pass test rows
two_end test rows i b any two past before =
    sym (ended (word_bit any b) (word_bit two b)) ∙ ap (λ l. two_from test l (word_bit any b) (word_bit two b)) (sym (drop_all i rows past)) ∙ before
  where
    ended : (a w : Bool) → (w || ((a && false) || false)) ≡ w
    ended a true = refl
    ended true false = refl
    ended false false = refl

-- one more table
pub overlaps_more : (N : NetValue) (words overlaps : List ℕ) (t word : ℕ) → t < table_count N → length overlaps ≡ table_count N
    → ((b : ℕ) → b < 64 → word_bit word b ≡ rows_overlap (table_at N.tables t) (values_at words b))
    → ((i b : ℕ) → i < t → b < 64 → word_bit (get_or overlaps i 0) b ≡ rows_overlap (table_at N.tables i) (values_at words b))
    → (i b : ℕ) → i < t + 1 → b < 64 → word_bit (get_or (set overlaps t word) i 0) b ≡ rows_overlap (table_at N.tables i) (values_at words b)
overlaps_more N words overlaps t word low room here before i b within inside =
    elim (cases_eq i t) [
      | inl e ↦ rw (e, get_or-set_same overlaps t word 0 (omega (arith, low, room))) (here b inside)
      | inr other ↦ rw (get_or-set_other overlaps t i word 0 other) (before i b (omega arith) inside)
    ]

-- all tables
pub overlaps_all : (N : NetValue) (words overlaps : List ℕ) (t : ℕ) → length overlaps ≡ table_count N → table_count N ≤ t
    → ((i b : ℕ) → i < t → b < 64 → word_bit (get_or overlaps i 0) b ≡ rows_overlap (table_at N.tables i) (values_at words b)) → AreOverlapsOf N words overlaps
overlaps_all N words overlaps t room past each = record { as_many = room; each = λ i b within low. each i b (omega arith) low }

-- ---- one row, and the others

-- some row matches where this one does, or another
any_split : (test : List Mark → Bool) (rows : List (List Mark)) (r : ℕ) → r < length rows → list_any test rows ≡ (test (row_at rows r) || list_any test (remove rows r))
any_split test [] r low = absurd (omega arith)
any_split test (m ∷ rows) zero low = refl
any_split test (m ∷ rows) (suc r) low =
    ap (λ x. test m || x) (any_split test rows r (omega arith)) ∙ exchanged (test m) (test (row_at rows r)) (list_any test (remove rows r))
  where
    exchanged : (x y z : Bool) → (x || (y || z)) ≡ (y || (x || z))
    exchanged true true z = refl
    exchanged true false z = refl
    exchanged false true z = refl
    exchanged false false z = refl

-- another row stands in a place
any_set : (test : List Mark → Bool) (rows : List (List Mark)) (r : ℕ) (new : List Mark) → r < length rows
    → list_any test (set rows r new) ≡ (test new || list_any test (remove rows r))
any_set test [] r new low = absurd (omega arith)
any_set test (m ∷ rows) zero new low = refl
any_set test (m ∷ rows) (suc r) new low =
    ap (λ x. test m || x) (any_set test rows r new (omega arith)) ∙ exchanged (test m) (test new) (list_any test (remove rows r))
  where
    exchanged : (x y z : Bool) → (x || (y || z)) ≡ (y || (x || z))
    exchanged true true z = refl
    exchanged true false z = refl
    exchanged false true z = refl
    exchanged false false z = refl

absorbed : (test : List Mark → Bool) (rows : List (List Mark)) → (list_any test rows || two_pass test rows) ≡ list_any test rows
absorbed test [] = refl
absorbed test (m ∷ rows) = within (test m) (list_any test rows) (two_pass test rows) (absorbed test rows)
  where
    within : (x r t : Bool) → (r || t) ≡ r → ((x || r) || ((x && r) || t)) ≡ (x || r)
    within true r t h = refl
    within false r t h = h

-- where a row matches, two do exactly where another does
others_too : (test : List Mark → Bool) (rows : List (List Mark)) (r : ℕ) → r < length rows → test (row_at rows r) ≡ true → two_pass test rows ≡ list_any test (remove rows r)
others_too test [] r low is = absurd (omega arith)
others_too test (m ∷ rows) zero low is = ap (λ x. (x && list_any test rows) || two_pass test rows) is ∙ absorbed test rows
others_too test (m ∷ rows) (suc r) low is =
    let rest : list_any test rows ≡ true = any_split test rows r (omega arith) ∙ ap (λ x. x || list_any test (remove rows r)) is in
    let behind : two_pass test rows ≡ list_any test (remove rows r) = others_too test rows r (omega arith) is in
    (λ j. (test m && rest j) || behind j) ∙ kept (test m) (list_any test (remove rows r))
  where
    kept : (x o : Bool) → ((x && true) || o) ≡ (x || o)
    kept true o = refl
    kept false o = refl

turned_same : (y : Bool) → false ≡ turned y y
turned_same true = refl
turned_same false = refl

-- without a row
lone_choice : (x others two all plane : Bool) → all ≡ (x || others) → (x ≡ true → two ≡ others)
    → (x && not two) ≡ turned (cond all plane (not plane)) (cond others plane (not plane))
lone_choice true others two all plane is too =
    ap not (too refl) ∙ left others plane ∙ ap (λ a. turned (cond a plane (not plane)) (cond others plane (not plane))) (sym is)
  where
    left : (o p : Bool) → not o ≡ turned p (cond o p (not p))
    left true true = refl
    left true false = refl
    left false true = refl
    left false false = refl
lone_choice false others two all plane is too =
    turned_same (cond others plane (not plane)) ∙ ap (λ a. turned (cond a plane (not plane)) (cond others plane (not plane))) (sym is)

-- with another row in its place, which matches where it does
missed_choice : (x new others all plane : Bool) → all ≡ (x || others) → (x ≡ true → new ≡ true)
    → (new && not all) ≡ turned (cond all plane (not plane)) (cond (new || others) plane (not plane))
missed_choice true new others all plane is wider =
    let new_is = wider refl in rw (is, new_is) (turned_same plane)
missed_choice false new true all plane is wider = rw is (both new plane)
  where
    both : (n p : Bool) → (n && false) ≡ turned p (cond (n || true) p (not p))
    both true true = refl
    both true false = refl
    both false true = refl
    both false false = refl
missed_choice false new false all plane is wider = rw is (first new plane)
  where
    first : (n p : Bool) → (n && true) ≡ turned (not p) (cond (n || false) p (not p))
    first true true = refl
    first true false = refl
    first false true = refl
    first false false = refl

-- a row with one more dash matches where the row does
dashed_wider : (marks : List Mark) (pins : List ℕ) (pin : ℕ) (v : Assignment) → row_matches marks pins v ≡ true → row_matches (set marks pin Dash) pins v ≡ true
dashed_wider [] pins pin v is = is
dashed_wider (m ∷ marks) [] zero v is = refl
dashed_wider (m ∷ marks) [] (suc pin) v is = refl
dashed_wider (m ∷ marks) (s ∷ pins) zero v is = (and_parts (mark_matches m (v s)) (row_matches marks pins v) is).1
dashed_wider (m ∷ marks) (s ∷ pins) (suc pin) v is =
    let parts = and_parts (mark_matches m (v s)) (row_matches marks pins v) is in
    and_from (mark_matches m (v s)) (row_matches (set marks pin Dash) pins v) parts.0 (dashed_wider marks pins pin v parts.1)

-- ---- words

pub lone_word : (t : TableValue) (words pins : List ℕ) (row_marks : List Mark) (r b matched overlap : ℕ) → overlap < 2 ^ 64 → b < 64
    → r < length t.rows → row_marks ≡ row_at t.rows r → pins ≡ t.pins
    → word_bit matched b ≡ row_matches row_marks pins (values_at words b) → word_bit overlap b ≡ rows_overlap t (values_at words b)
    → word_bit (bit_and matched (bit_not w64 overlap)) b ≡ turned (table_value t (values_at words b)) (table_value (record t { rows = remove t.rows r }) (values_at words b))
lone_word t words pins row_marks r b matched overlap fits low within row_is pins_are here over =
    let v : Assignment = values_at words b in
    let test : List Mark → Bool = λ m. row_matches m t.pins v in
    let matches : word_bit matched b ≡ test (row_at t.rows r) = here ∙ (λ j. row_matches (row_is j) (pins_are j) v) in
    let others : word_bit (bit_not w64 overlap) b ≡ not (two_pass test t.rows) = not_bit overlap b fits low ∙ ap not over in
    and_bit matched (bit_not w64 overlap) b
    ∙ (λ j. matches j && others j)
    ∙ lone_choice (test (row_at t.rows r)) (list_any test (remove t.rows r)) (two_pass test t.rows) (list_any test t.rows) t.plane (any_split test t.rows r within) (others_too test t.rows r within)

pub missed_word : (t : TableValue) (words pins : List ℕ) (row_marks : List Mark) (r pin b without matched value : ℕ) (plane : Bool) → matched < 2 ^ 64 → b < 64
    → r < length t.rows → row_marks ≡ row_at t.rows r → pins ≡ t.pins → plane ≡ t.plane
    → word_bit without b ≡ row_matches (set row_marks pin Dash) pins (values_at words b)
    → word_bit matched b ≡ cond (word_bit value b) plane (not plane) → word_bit value b ≡ table_value t (values_at words b)
    → word_bit (bit_and without (bit_not w64 matched)) b
    ≡ turned (table_value t (values_at words b)) (table_value (record t { rows = set t.rows r (set (row_at t.rows r) pin Dash) }) (values_at words b))
missed_word t words pins row_marks r pin b without matched value plane fits low within row_is pins_are plane_is here over own =
    let v : Assignment = values_at words b in
    let test : List Mark → Bool = λ m. row_matches m t.pins v in
    let new : List Mark = set (row_at t.rows r) pin Dash in
    let changed : word_bit without b ≡ test new = here ∙ (λ j. row_matches (set (row_is j) pin Dash) (pins_are j) v) in
    let any : word_bit matched b ≡ list_any test t.rows = over ∙ (λ j. cond (own j) (plane_is j) (not (plane_is j))) ∙ told_back (list_any test t.rows) t.plane in
    let none : word_bit (bit_not w64 matched) b ≡ not (list_any test t.rows) = not_bit matched b fits low ∙ ap not any in
    and_bit without (bit_not w64 matched) b
    ∙ (λ j. changed j && none j)
    ∙ missed_choice (test (row_at t.rows r)) (test new) (list_any test (remove t.rows r)) (list_any test t.rows) t.plane (any_split test t.rows r within) (dashed_wider (row_at t.rows r) t.pins pin v)
    ∙ ap (λ a. turned (table_value t v) (cond a t.plane (not t.plane))) (sym (any_set test t.rows r new within))
  where
    told_back : (a p : Bool) → cond (cond a p (not p)) p (not p) ≡ a
    told_back true true = refl
    told_back true false = refl
    told_back false true = refl
    told_back false false = refl

-- ---- the table's own value, and where a move changes it

module _ (N : NetValue) (words : List ℕ) (b : ℕ) (x : List Bool) (sound : IsSound N) (values : HasValues N words b x) where
  agree : (pins : List ℕ) → All (λ s. s < signal_count N) pins → All (λ s. values_at words b s ≡ value_of (input_count N) N.tables x s) pins
  agree pins within = All-weaker (λ s. s < signal_count N) (λ s. values_at words b s ≡ value_of (input_count N) N.tables x s) (λ s low. values s low) pins within

  pub own_value : (t : ℕ) → t < table_count N → value_of (input_count N) N.tables x (input_count N + t) ≡ table_value (table_at N.tables t) (values_at words b)
  own_value t within =
      (value_law (input_count N) N.tables x sound.acyclic).consistent.table t within
      ∙ sym (table_value-same (table_at N.tables t) (values_at words b) (value_of (input_count N) N.tables x)
      (recursion_from_All (λ s. values_at words b s ≡ value_of (input_count N) N.tables x s) (table_at N.tables t).pins
      (agree (table_at N.tables t).pins (sound.pins_are_signals t no_table within))))

  pub told_change : (m : Move) (word : ℕ) → IsMoveOf N m
      → word_bit word b ≡ turned (table_value (table_at N.tables (table_of m)) (values_at words b)) (table_value (moved_table (table_at N.tables (table_of m)) m) (values_at words b))
      → IsTrue (word_bit word b) ↔ Changes N m x
  told_change m word is bit =
      let new : TableValue = moved_table (table_at N.tables (table_of m)) m in
      let left : table_value new (values_at words b) ≡ moved_value N m x =
      table_value-same new (values_at words b) (value_of (input_count N) N.tables x)
      (recursion_from_All (λ s. values_at words b s ≡ value_of (input_count N) N.tables x s) new.pins (agree new.pins (moved-pins N m sound is))) in
      let whole : word_bit word b ≡ turned (value_of (input_count N) N.tables x (input_count N + table_of m)) (moved_value N m x) =
      (let own = sym (own_value (table_of m) (move-within N m is)) in bit ∙ (λ j. turned (own j) (left j))) in
      let tells = turned-differs (moved_value N m x) (value_of (input_count N) N.tables x (input_count N + table_of m)) in
      (λ set. tells.0 (sym whole ∙ set), λ differs. whole ∙ tells.1 differs)
