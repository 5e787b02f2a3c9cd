-- What a move keeps: a sound net, a small one, the names; and what it lowers.
use Rattle.std.proofs.Common.{◌≡◌, ℕ, suc, ◌+◌, ◌*◌, ◌<◌, ◌≤◌, Bool, true, false, not, cond, List, [], ◌∷◌, map, length, get_or, set, take, drop, All, refl, ap, sym, subst, ◌∙◌, inl, inr, arith}
use Rattle.std.specs.List.{Contains, remove}
use Rattle.std.proofs.lemmas.Bool.{cases_lt}
use Rattle.std.proofs.lemmas.List.{length-set, get_or_past, get_or_default}
use Rattle.std.proofs.lemmas.List.Edits.{length-remove}
use Rattle.std.proofs.lemmas.List.Sums.{sum_by-set, sum_by-remove, sum_by-le, count_by-le-length}
use Rattle.std.proofs.lemmas.List.Elements.{All-nil, All-cons, All-append, All-take, All-drop, All-set}
use Rattle.semantics.specs.declared.mark.Mark.{Mark}
use Rattle.semantics.specs.declared.mark.Mark.TheVariants.{Dash}
use Rattle.semantics.specs.Texts.{Bytes}
use Rattle.semantics.specs.Net.{TableValue, NetValue, no_table, table_at, name_of, input_count, table_count, signal_count, signal_names, is_literal, row_literals, table_literals, constant_table}
use Rattle.semantics.specs.Net.{IsTable, IsAcyclic, IsSound, IsSmall}
use Rattle.semantics.proofs.Depends.{each_member}
use Rattle.semantics.proofs.Grounding.{replaced-acyclic, narrower-acyclic}
use Rattle.semantics.proofs.Replaced.{signal_names-with_table}
use Rattle.chain_semantics.specs.declared.moves.Move.{Move}
use Rattle.chain_semantics.specs.declared.moves.Move.TheVariants.{Const, DropRow, DropLiteral, Signal, Pair}
use Rattle.chain_semantics.specs.Moves.{near_signals, table_of, row_at, copy_mark, moved_table, moved}
use Rattle.chain_semantics.specs.MoveLaws.{mark_at, AreInOrder, IsMoveOf, HasFullRows, IsLoweredFrom, IsMovedFrom}
use Rattle.chain_semantics.proofs.NearSignals.{near-are_signals, near-are_apart}

-- a literal stands in a row, and its row has a pin
literals-le : (t : TableValue) → IsTable t → table_literals t ≤ length t.rows * length t.pins
literals-le t formed =
    sum_by-le row_literals (length t.pins) t.rows (λ k d low. omega (arith, count_by-le-length is_literal (get_or t.rows k d), formed.widths k d low))

some_row : (t : TableValue) → IsTable t → 0 < table_literals t → 0 < length t.rows
some_row t formed some =
    elim (cases_lt 0 (length t.rows)) [
      | inl has ↦ has
      | inr none ↦
          let no_rows : length t.rows ≡ 0 = omega arith in
          let most : table_literals t ≤ 0 * length t.pins = subst (λ n. table_literals t ≤ n * length t.pins) no_rows (literals-le t formed) in
          absurd (omega arith)
    ]

some_pin : (t : TableValue) → IsTable t → 0 < table_literals t → 0 < length t.pins
some_pin t formed some =
    elim (cases_lt 0 (length t.pins)) [
      | inl has ↦ has
      | inr none ↦
          let no_pins : length t.pins ≡ 0 = omega arith in
          let most : table_literals t ≤ length t.rows * 0 = subst (λ n. table_literals t ≤ length t.rows * n) no_pins (literals-le t formed) in
          absurd (omega arith)
    ]

pub literal_within : (marks : List Mark) (k : ℕ) → is_literal (mark_at marks k) ≡ true → k < length marks
literal_within marks k literal =
    elim (cases_lt k (length marks)) [
      | inl low ↦ low
      | inr high ↦ (let past : is_literal (mark_at marks k) ≡ false = ap is_literal (get_or_past marks k Dash high) in cc)
    ]

-- what a move makes of a table: the name stays, and there are no more pins and rows
pub record IsNarrowed (old new : TableValue) : Type 0 where
  pub name : new.name ≡ old.name
  pub formed : IsTable new
  pub pins : length new.pins ≤ length old.pins
  pub rows : length new.rows ≤ length old.rows

IsTable-constant : (t : TableValue) (value : Bool) → IsTable t → IsTable (constant_table t.name value)
IsTable-constant t false formed = record { named = formed.named; widths = All-nil (λ (marks : List Mark). length marks ≡ 0); plane = λ e. refl }
IsTable-constant t true formed = record {
  named = formed.named;
  widths = All-cons (λ (marks : List Mark). length marks ≡ 0) [] [] refl (All-nil (λ (marks : List Mark). length marks ≡ 0));
  plane = λ e. refl;
}

constant-narrowed : (t : TableValue) (value : Bool) → IsTable t → 0 < table_literals t → IsNarrowed t (constant_table t.name value)
constant-narrowed t false formed some = record { name = refl; formed = IsTable-constant t false formed; pins = omega arith; rows = omega arith }
constant-narrowed t true formed some = record { name = refl; formed = IsTable-constant t true formed; pins = omega arith; rows = omega (arith, some_row t formed some) }

copy-formed : (t : TableValue) (s : ℕ) (mark : Mark) → IsTable t → IsTable (record t { pins = s ∷ []; rows = (mark ∷ []) ∷ []; plane = true })
copy-formed t s mark formed = record {
  named = formed.named;
  widths = All-cons (λ (marks : List Mark). length marks ≡ 1) (mark ∷ []) [] refl (All-nil (λ (marks : List Mark). length marks ≡ 1));
  plane = λ e. refl;
}

pair-formed : (t : TableValue) (s u : ℕ) (first second : Mark) (plane : Bool) → IsTable t
    → IsTable (record t { pins = s ∷ u ∷ []; rows = (first ∷ second ∷ []) ∷ []; plane = plane })
pair-formed t s u first second plane formed = record {
  named = formed.named;
  widths = All-cons (λ (marks : List Mark). length marks ≡ 2) (first ∷ second ∷ []) [] refl (All-nil (λ (marks : List Mark). length marks ≡ 2));
  plane = λ e. absurd (omega (arith, ap length e));
}

row_drop-formed : (t : TableValue) (row : ℕ) → IsTable t → 1 < length t.rows → row < length t.rows → IsTable (record t { rows = remove t.rows row })
row_drop-formed t row formed two within = record {
  named = formed.named;
  widths =
      All-append (λ marks. length marks ≡ length t.pins) (take row t.rows) (drop (suc row) t.rows)
      (All-take (λ marks. length marks ≡ length t.pins) row t.rows formed.widths) (All-drop (λ marks. length marks ≡ length t.pins) (suc row) t.rows formed.widths);
  plane = λ e. absurd (omega (arith, length-remove t.rows row within, ap length e));
}

literal_drop-formed : (t : TableValue) (row pin : ℕ) → IsTable t → row < length t.rows → IsTable (record t { rows = set t.rows row (set (row_at t.rows row) pin Dash) })
literal_drop-formed t row pin formed within = record {
  named = formed.named;
  widths =
      All-set (λ marks. length marks ≡ length t.pins) t.rows row (set (row_at t.rows row) pin Dash)
      (length-set (row_at t.rows row) pin Dash ∙ formed.widths row [] within) formed.widths;
  plane = λ e. absurd (omega (arith, length-set t.rows row (set (row_at t.rows row) pin Dash), ap length e));
}

pub narrowed : (N : NetValue) (m : Move) → IsSound N → IsMoveOf N m → IsNarrowed (table_at N.tables (table_of m)) (moved_table (table_at N.tables (table_of m)) m)
narrowed N (Const t value) sound is = constant-narrowed (table_at N.tables t) value (sound.tables_formed t no_table is.0) is.1
narrowed N (DropRow t row) sound is =
    let old : TableValue = table_at N.tables t in record {
      name = refl;
      formed = row_drop-formed old row (sound.tables_formed t no_table is.0) is.1 is.2;
      pins = omega arith;
      rows = omega (arith, length-remove old.rows row is.2);
    }
narrowed N (DropLiteral t row pin) sound is =
    let old : TableValue = table_at N.tables t in record {
      name = refl;
      formed = literal_drop-formed old row pin (sound.tables_formed t no_table is.0) is.1;
      pins = omega arith;
      rows = omega (arith, length-set old.rows row (set (row_at old.rows row) pin Dash));
    }
narrowed N (Signal t s flip) sound is =
    let old : TableValue = table_at N.tables t in
    let formed : IsTable old = sound.tables_formed t no_table is.0 in
    let some : 0 < table_literals old = omega (arith, is.1) in
    record {
      name = refl;
      formed = copy-formed old s (copy_mark flip) formed;
      pins = omega (arith, some_pin old formed some);
      rows = omega (arith, some_row old formed some);
    }
narrowed N (Pair t s flip_s u flip_u flip) sound is =
    let old : TableValue = table_at N.tables t in
    let formed : IsTable old = sound.tables_formed t no_table is.0 in
    let some : 0 < table_literals old = omega (arith, is.1) in
    record {
      name = refl;
      formed = pair-formed old s u (copy_mark flip_s) (copy_mark flip_u) (not flip) formed;
      pins = omega (arith, is.2);
      rows = omega (arith, some_row old formed some);
    }

pub move-within : (N : NetValue) (m : Move) → IsMoveOf N m → table_of m < table_count N
move-within N (Const t value) is = is.0
move-within N (DropRow t row) is = is.0
move-within N (DropLiteral t row pin) is = is.0
move-within N (Signal t s flip) is = is.0
move-within N (Pair t s flip_s u flip_u flip) is = is.0

-- the two signals of a pair are near ones
first-near : (N : NetValue) (t s u : ℕ) → AreInOrder (near_signals N (table_at N.tables t)) s u → Contains (near_signals N (table_at N.tables t)) s
first-near N t s u order =
    let near : List ℕ = near_signals N (table_at N.tables t) in
    let low : order.first < length near = omega (arith, order.order, order.within) in
    (order.first, low, get_or_default near order.first s 0 low ∙ order.is_first)

second-near : (N : NetValue) (t s u : ℕ) → AreInOrder (near_signals N (table_at N.tables t)) s u → Contains (near_signals N (table_at N.tables t)) u
second-near N t s u order =
    let near : List ℕ = near_signals N (table_at N.tables t) in
    (order.second, order.within, get_or_default near order.second u 0 order.within ∙ order.is_second)

-- the pins of a moved table are signals that do not depend on it
pub moved-pins : (N : NetValue) (m : Move) → IsSound N → IsMoveOf N m → All (λ s. s < signal_count N) (moved_table (table_at N.tables (table_of m)) m).pins
moved-pins N (Const t false) sound is = All-nil (λ s. s < signal_count N)
moved-pins N (Const t true) sound is = All-nil (λ s. s < signal_count N)
moved-pins N (DropRow t row) sound is = sound.pins_are_signals t no_table is.0
moved-pins N (DropLiteral t row pin) sound is = sound.pins_are_signals t no_table is.0
moved-pins N (Signal t s flip) sound is = All-cons (λ s. s < signal_count N) s [] is.2 (All-nil (λ s. s < signal_count N))
moved-pins N (Pair t s flip_s u flip_u flip) sound is =
    let signal : (p : ℕ) → Contains (near_signals N (table_at N.tables t)) p → p < signal_count N = near-are_signals N t sound.acyclic is.0 in
    All-cons (λ s. s < signal_count N) s (u ∷ []) (signal s (first-near N t s u is.3))
    (All-cons (λ s. s < signal_count N) u [] (signal u (second-near N t s u is.3)) (All-nil (λ s. s < signal_count N)))

pub moved-acyclic : (N : NetValue) (m : Move) → IsSound N → IsMoveOf N m → IsAcyclic (input_count N) (moved N m).tables
moved-acyclic N (Const t false) sound is = replaced-acyclic (input_count N) N.tables t (constant_table (table_at N.tables t).name false) sound.acyclic is.0 tt
moved-acyclic N (Const t true) sound is = replaced-acyclic (input_count N) N.tables t (constant_table (table_at N.tables t).name true) sound.acyclic is.0 tt
moved-acyclic N (DropRow t row) sound is =
    let old : TableValue = table_at N.tables t in
    narrower-acyclic (input_count N) N.tables t (moved_table old (DropRow t row)) sound.acyclic is.0 (each_member (Contains old.pins) old.pins (λ p c. c))
moved-acyclic N (DropLiteral t row pin) sound is =
    let old : TableValue = table_at N.tables t in
    narrower-acyclic (input_count N) N.tables t (moved_table old (DropLiteral t row pin)) sound.acyclic is.0 (each_member (Contains old.pins) old.pins (λ p c. c))
moved-acyclic N (Signal t s flip) sound is =
    replaced-acyclic (input_count N) N.tables t (moved_table (table_at N.tables t) (Signal t s flip)) sound.acyclic is.0 ((is.2, is.3), tt)
moved-acyclic N (Pair t s flip_s u flip_u flip) sound is =
    let first : Contains (near_signals N (table_at N.tables t)) s = first-near N t s u is.3 in
    let second : Contains (near_signals N (table_at N.tables t)) u = second-near N t s u is.3 in
    replaced-acyclic (input_count N) N.tables t (moved_table (table_at N.tables t) (Pair t s flip_s u flip_u flip)) sound.acyclic is.0 (
      (near-are_signals N t sound.acyclic is.0 s first, near-are_apart N t sound.acyclic is.0 s first),
      ((near-are_signals N t sound.acyclic is.0 u second, near-are_apart N t sound.acyclic is.0 u second), tt),
    )

pub moved-sound : (N : NetValue) (m : Move) → IsSound N → IsMoveOf N m → IsSound (moved N m)
moved-sound N m sound is =
    let t : ℕ = table_of m in
    let old : TableValue = table_at N.tables t in
    let new : TableValue = moved_table old m in
    let narrow : IsNarrowed old new = narrowed N m sound is in
    let names : signal_names (moved N m) ≡ signal_names N = signal_names-with_table N t new narrow.name in
    let signals : signal_count (moved N m) ≡ signal_count N = ap (λ k. input_count N + k) (length-set N.tables t new) in
    record {
      model_named = sound.model_named;
      inputs_named = sound.inputs_named;
      tables_formed = All-set IsTable N.tables t new narrow.formed sound.tables_formed;
      names_differ = rw names sound.names_differ;
      has_output = sound.has_output;
      outputs_are_signals = rw signals sound.outputs_are_signals;
      pins_are_signals =
          rw signals (All-set (λ (u : TableValue). All (λ s. s < signal_count N) u.pins) N.tables t new (moved-pins N m sound is) sound.pins_are_signals);
      acyclic = moved-acyclic N m sound is;
    }

moved-small : (N : NetValue) (m : Move) → IsSound N → IsMoveOf N m → IsSmall N → IsSmall (moved N m)
moved-small N m sound is small =
    let t : ℕ = table_of m in
    let within : t < table_count N = move-within N m is in
    let old : TableValue = table_at N.tables t in
    let new : TableValue = moved_table old m in
    let narrow : IsNarrowed old new = narrowed N m sound is in
    record {
      inputs = small.inputs;
      outputs = small.outputs;
      tables = omega (arith, length-set N.tables t new, small.tables);
      table_pins =
          All-set (λ (u : TableValue). length u.pins ≤ 256) N.tables t new (omega (arith, narrow.pins, small.table_pins t no_table within)) small.table_pins;
      all_pins = omega (arith, sum_by-set (λ (u : TableValue). length u.pins) N.tables t new no_table within, narrow.pins, small.all_pins);
      all_rows = omega (arith, sum_by-set (λ (u : TableValue). length u.rows) N.tables t new no_table within, narrow.rows, small.all_rows);
    }

pub moved-keeps : (N : NetValue) (m : Move) → IsSound N → IsMoveOf N m → IsMovedFrom N (moved N m)
moved-keeps N m sound is =
    let t : ℕ = table_of m in
    let new : TableValue = moved_table (table_at N.tables t) m in
    let names : signal_names (moved N m) ≡ signal_names N = signal_names-with_table N t new (narrowed N m sound is).name in
    record {
      sound = moved-sound N m sound is;
      small = moved-small N m sound is;
      model = refl;
      inputs = refl;
      outputs = refl;
      tables = length-set N.tables t new;
      ports = record { inputs = refl; outputs = ap (λ l. map (name_of l) N.outputs) (sym names) };
    }

constant-literals : (name : Bytes) (value : Bool) → table_literals (constant_table name value) ≡ 0
constant-literals name false = refl
constant-literals name true = refl

copy-literals : (t : TableValue) (s : ℕ) (flip : Bool) → table_literals (moved_table t (Signal 0 s flip)) ≡ 1
copy-literals t s false = refl
copy-literals t s true = refl

pair-literals : (t : TableValue) (s : ℕ) (flip_s : Bool) (u : ℕ) (flip_u flip : Bool) → table_literals (moved_table t (Pair 0 s flip_s u flip_u flip)) ≡ 2
pair-literals t s false u false flip = refl
pair-literals t s false u true flip = refl
pair-literals t s true u false flip = refl
pair-literals t s true u true flip = refl

-- what a mark counts as
abbrev weight : Mark → ℕ
weight m = cond (is_literal m) 1 0

literal_drop-row : (marks : List Mark) (pin : ℕ) → is_literal (mark_at marks pin) ≡ true → row_literals (set marks pin Dash) + 1 ≡ row_literals marks
literal_drop-row marks pin literal =
    let one : weight (mark_at marks pin) ≡ 1 = ap (λ (b : Bool). cond b 1 0) literal in
    omega (arith, sum_by-set weight marks pin Dash Dash (literal_within marks pin literal), one)

table-lowered : (N : NetValue) (m : Move) → IsSound N → IsMoveOf N m → HasFullRows (table_at N.tables (table_of m))
    → table_literals (moved_table (table_at N.tables (table_of m)) m) < table_literals (table_at N.tables (table_of m))
table-lowered N (Const t value) sound is lean = omega (arith, constant-literals (table_at N.tables t).name value, is.1)
table-lowered N (DropRow t row) sound is lean =
    let old : TableValue = table_at N.tables t in
    omega (arith, sum_by-remove row_literals old.rows row [] is.2, lean is.1 row [] is.2)
table-lowered N (DropLiteral t row pin) sound is lean =
    let old : TableValue = table_at N.tables t in
    omega (arith, sum_by-set row_literals old.rows row (set (row_at old.rows row) pin Dash) [] is.1, literal_drop-row (row_at old.rows row) pin is.2)
table-lowered N (Signal t s flip) sound is lean = omega (arith, copy-literals (table_at N.tables t) s flip, is.1)
table-lowered N (Pair t s flip_s u flip_u flip) sound is lean = omega (arith, pair-literals (table_at N.tables t) s flip_s u flip_u flip, is.1)

pub moved-lowers : (N : NetValue) (m : Move) → IsSound N → All HasFullRows N.tables → IsMoveOf N m → IsLoweredFrom N (moved N m)
moved-lowers N m sound lean is =
    let t : ℕ = table_of m in
    let within : t < table_count N = move-within N m is in
    let old : TableValue = table_at N.tables t in
    let new : TableValue = moved_table old m in
    let narrow : IsNarrowed old new = narrowed N m sound is in
    record {
      literals = omega (arith, sum_by-set table_literals N.tables t new no_table within, table-lowered N m sound is (lean t no_table within));
      tables = length-set N.tables t new;
      rows = omega (arith, sum_by-set (λ (u : TableValue). length u.rows) N.tables t new no_table within, narrow.rows);
      pins = omega (arith, sum_by-set (λ (u : TableValue). length u.pins) N.tables t new no_table within, narrow.pins);
    }
