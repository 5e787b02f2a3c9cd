-- What the rules on one table come to, in two edits: rows first, and then a pin.
use Rattle.std.proofs.Common.{◌≡◌, ℕ, zero, suc, ◌-◌, ◌<◌, Bool, true, false, cond, not, List, [], ◌∷◌, map, get_or, set, refl, ap, sym, ◌∙◌}
use Rattle.std.specs.Prelude.{◌||◌, nat_le}
use Rattle.std.specs.List.{list_any, filter, remove}
use Rattle.std.proofs.lemmas.Bool.{and_parts, or_parts, false≢true}
use Rattle.std.proofs.lemmas.List.{get_or-set_same}
use Rattle.semantics.specs.declared.mark.Mark.{Mark}
use Rattle.semantics.specs.Net.{TableValue, NetValue, no_table, table_at, input_count, table_count, constant_table}
use Rattle.semantics.specs.Value.{Assignment, mark_matches, row_matches}
use Rattle.semantics.specs.Replaced.{with_table}
use Rattle.chain_semantics.specs.TidyRules.{is_empty, pin_at, mark_at, is_constant_signal, constant_value, without_pin, settled, settled_rows, with_pin_fixed, first_place_of, clash}
use Rattle.chain_semantics.specs.TidyRules.{with_marks_joined, with_pins_joined}
use Rattle.chain_semantics.proofs.TidyTables.{map_none}
use Rattle.chain_semantics.proofs.TidyTriples.{no_elements}
use Rattle.net_tidy.specs.declared.rule.Rule.TheVariants.{ConstantPin, RepeatedPin}
use Rattle.net_tidy.specs.Rule.{made_by}
use Rattle.net_tidy.specs.Places.{DraftValue}

set-set : {X : Type 0} (xs : List X) (i : ℕ) (x y : X) → set (set xs i x) i y ≡ set xs i y
set-set [] i x y = refl
set-set (z ∷ xs) zero x y = refl
set-set (z ∷ xs) (suc i) x y = ap (λ list. z ∷ list) (set-set xs i x y)

-- table t is replaced, and then what stands there
pub twice : (N K M : NetValue) (t : ℕ) (r : TableValue) (f : TableValue → TableValue) → t < table_count N → K ≡ with_table N t r → M ≡ with_table K t (f (table_at K.tables t))
    → M ≡ with_table N t (f r)
twice N K M t r f within k m =
    m ∙ ap (λ L. with_table L t (f (table_at L.tables t))) k
    ∙ ap (λ u. with_table (with_table N t r) t (f u)) (get_or-set_same N.tables t r no_table within)
    ∙ ap (λ tables. record N { tables = tables }) (set-set N.tables t r (f r))

-- the table that stands in its place
pub stands : (N K : NetValue) (t : ℕ) (r : TableValue) → t < table_count N → K ≡ with_table N t r → table_at K.tables t ≡ r
stands N K t r within k = ap (λ L. table_at L.tables t) k ∙ get_or-set_same N.tables t r no_table within

some_at : {X : Type 0} (p : X → Bool) (x : X) (xs : List X) (b : Bool) → (list_any p xs ≡ true → filter p xs ≡ [] → ⊥) → (b || list_any p xs) ≡ true
    → cond b (x ∷ filter p xs) (filter p xs) ≡ [] → ⊥
some_at p x xs true f any none = cc
some_at p x xs false f any none = f any none

filter_some : {X : Type 0} (p : X → Bool) (xs : List X) → list_any p xs ≡ true → filter p xs ≡ [] → ⊥
filter_some p [] any none = absurd (false≢true any)
filter_some p (x ∷ xs) any none = some_at p x xs (p x) (filter_some p xs) any none

filter_none : {X : Type 0} (p : X → Bool) (xs : List X) → list_any p xs ≡ false → filter p xs ≡ []
filter_none p [] e = refl
filter_none p (x ∷ xs) e =
    let both = or_parts (p x) (list_any p xs) e in
    ap (λ b. cond b (x ∷ filter p xs) (filter p xs)) both.0 ∙ filter_none p xs both.1

settled_at : (rows : List (List Mark)) (u : TableValue) → (rows ≡ [] → ⊥) → settled_rows rows u ≡ u
settled_at [] u some = absurd (some refl)
settled_at (marks ∷ rows) u some = refl

settled_kept : (u : TableValue) → (u.rows ≡ [] → ⊥) → settled u ≡ u
settled_kept u some = settled_at u.rows u some

settled_gone : (u : TableValue) → u.rows ≡ [] → settled u ≡ constant_table u.name (not u.plane)
settled_gone u none = ap (λ rows. settled_rows rows u) none

fixed_kept : (q : ℕ) (v : Bool) (t : TableValue) → list_any (λ marks. mark_matches (mark_at marks q) v) t.rows ≡ true
    → without_pin q (record t { rows = filter (λ marks. mark_matches (mark_at marks q) v) t.rows }) ≡ with_pin_fixed q v t
fixed_kept q v t some =
    sym (settled_kept (without_pin q (record t { rows = filter (λ marks. mark_matches (mark_at marks q) v) t.rows }))
    (λ none. filter_some (λ marks. mark_matches (mark_at marks q) v) t.rows some
    (map_none (λ marks. remove marks q) (filter (λ marks. mark_matches (mark_at marks q) v) t.rows) none)))

fixed_gone : (q : ℕ) (v : Bool) (t : TableValue) → list_any (λ marks. mark_matches (mark_at marks q) v) t.rows ≡ false → constant_table t.name (not t.plane) ≡ with_pin_fixed q v t
fixed_gone q v t none =
    sym (settled_gone (without_pin q (record t { rows = filter (λ marks. mark_matches (mark_at marks q) v) t.rows }))
    (ap (map (λ marks. remove marks q)) (filter_none (λ marks. mark_matches (mark_at marks q) v) t.rows none)))

joined_kept : (p q : ℕ) (t : TableValue) → list_any (λ marks. not (clash (mark_at marks p) (mark_at marks q))) t.rows ≡ true
    → without_pin q (record t { rows = map (with_marks_joined p q) (filter (λ marks. not (clash (mark_at marks p) (mark_at marks q))) t.rows) }) ≡ with_pins_joined p q t
joined_kept p q t some =
    let kept = filter (λ marks. not (clash (mark_at marks p) (mark_at marks q))) t.rows in
    sym (settled_kept (without_pin q (record t { rows = map (with_marks_joined p q) (filter (λ marks. not (clash (mark_at marks p) (mark_at marks q))) t.rows) }))
    (λ none. filter_some (λ marks. not (clash (mark_at marks p) (mark_at marks q))) t.rows some
    (map_none (with_marks_joined p q) (filter (λ marks. not (clash (mark_at marks p) (mark_at marks q))) t.rows)
    (map_none (λ marks. remove marks q) (map (with_marks_joined p q) (filter (λ marks. not (clash (mark_at marks p) (mark_at marks q))) t.rows)) none))))

joined_gone : (p q : ℕ) (t : TableValue) → list_any (λ marks. not (clash (mark_at marks p) (mark_at marks q))) t.rows ≡ false → constant_table t.name (not t.plane) ≡ with_pins_joined p q t
joined_gone p q t none =
    sym (settled_gone (without_pin q (record t { rows = map (with_marks_joined p q) (filter (λ marks. not (clash (mark_at marks p) (mark_at marks q))) t.rows) }))
    (ap (λ rows. map (λ marks. remove marks q) (map (with_marks_joined p q) rows)) (filter_none (λ marks. not (clash (mark_at marks p) (mark_at marks q))) t.rows none)))

-- a pin that reads a constant, in code
module _ (N : NetValue) (t q n : ℕ) (v : Bool) (tables : List TableValue) (table : TableValue) (pins : List ℕ) (within : t < table_count N)
    (inputs : n ≡ input_count N) (all : tables ≡ N.tables) (at : table ≡ table_at N.tables t) (pins_at : pins ≡ table.pins) (value : v ≡ constant_value n tables (get_or pins q 0)) where
  value_is : v ≡ constant_value (input_count N) N.tables (pin_at (table_at N.tables t) q)
  value_is =
      value ∙ ap (λ k. constant_value k tables (get_or pins q 0)) inputs ∙ ap (λ ts. constant_value (input_count N) ts (get_or pins q 0)) all
      ∙ ap (λ (ps : List ℕ). constant_value (input_count N) N.tables (get_or ps q 0)) (pins_at ∙ ap (λ (u : TableValue). u.pins) at)

  pub fixed_then : (K M : NetValue) → list_any (λ marks. mark_matches (mark_at marks q) v) table.rows ≡ true
      → K ≡ with_table N t (record (table_at N.tables t) { rows = filter (λ marks. mark_matches (mark_at marks q) v) (table_at N.tables t).rows })
      → M ≡ with_table K t (without_pin q (table_at K.tables t)) → M ≡ made_by N t (ConstantPin q)
  fixed_then K M some k m =
      twice N K M t (record (table_at N.tables t) { rows = filter (λ marks. mark_matches (mark_at marks q) v) (table_at N.tables t).rows }) (without_pin q) within k m
      ∙ ap (with_table N t) (fixed_kept q v (table_at N.tables t) (ap (λ (u : TableValue). list_any (λ marks. mark_matches (mark_at marks q) v) u.rows) (sym at) ∙ some))
      ∙ ap (λ b. with_table N t (with_pin_fixed q b (table_at N.tables t))) value_is

  pub fixed_else : (M : NetValue) (plane : Bool) → list_any (λ marks. mark_matches (mark_at marks q) v) table.rows ≡ false → plane ≡ table.plane
      → M ≡ with_table N t (constant_table (table_at N.tables t).name (not plane)) → M ≡ made_by N t (ConstantPin q)
  fixed_else M plane none is m =
      m ∙ ap (λ b. with_table N t (constant_table (table_at N.tables t).name (not b))) (is ∙ ap (λ (u : TableValue). u.plane) at)
      ∙ ap (with_table N t) (fixed_gone q v (table_at N.tables t) (ap (λ (u : TableValue). list_any (λ marks. mark_matches (mark_at marks q) v) u.rows) (sym at) ∙ none))
      ∙ ap (λ b. with_table N t (with_pin_fixed q b (table_at N.tables t))) value_is

-- a repeated pin, in code
module _ (N : NetValue) (t p q : ℕ) (table : TableValue) (pins : List ℕ) (within : t < table_count N) (at : table ≡ table_at N.tables t) (pins_at : pins ≡ table.pins)
    (place : p ≡ first_place_of pins (get_or pins q 0)) where
  pub place_is : p ≡ first_place_of (table_at N.tables t).pins (pin_at (table_at N.tables t) q)
  place_is = place ∙ ap (λ (ps : List ℕ). first_place_of ps (get_or ps q 0)) (pins_at ∙ ap (λ (u : TableValue). u.pins) at)

  pub joined_then : (K M : NetValue) → list_any (λ marks. not (clash (mark_at marks p) (mark_at marks q))) table.rows ≡ true
      → K ≡ with_table N t (record (table_at N.tables t) { rows = map (with_marks_joined p q) (filter (λ marks. not (clash (mark_at marks p) (mark_at marks q))) (table_at N.tables t).rows) })
      → M ≡ with_table K t (without_pin q (table_at K.tables t)) → M ≡ made_by N t (RepeatedPin q)
  joined_then K M some k m =
      twice N K M t (record (table_at N.tables t) { rows = map (with_marks_joined p q) (filter (λ marks. not (clash (mark_at marks p) (mark_at marks q))) (table_at N.tables t).rows) })
      (without_pin q) within k m
      ∙ ap (with_table N t) (joined_kept p q (table_at N.tables t) (ap (λ (u : TableValue). list_any (λ marks. not (clash (mark_at marks p) (mark_at marks q))) u.rows) (sym at) ∙ some))
      ∙ ap (λ k. with_table N t (with_pins_joined k q (table_at N.tables t))) place_is

  pub joined_else : (M : NetValue) (plane : Bool) → list_any (λ marks. not (clash (mark_at marks p) (mark_at marks q))) table.rows ≡ false → plane ≡ table.plane
      → M ≡ with_table N t (constant_table (table_at N.tables t).name (not plane)) → M ≡ made_by N t (RepeatedPin q)
  joined_else M plane none is m =
      m ∙ ap (λ b. with_table N t (constant_table (table_at N.tables t).name (not b))) (is ∙ ap (λ (u : TableValue). u.plane) at)
      ∙ ap (with_table N t) (joined_gone p q (table_at N.tables t) (ap (λ (u : TableValue). list_any (λ marks. not (clash (mark_at marks p) (mark_at marks q))) u.rows) (sym at) ∙ none))
      ∙ ap (λ k. with_table N t (with_pins_joined k q (table_at N.tables t))) place_is

free_row : (marks : List Mark) (v : Assignment) → row_matches marks [] v ≡ true
free_row [] v = refl
free_row (m ∷ marks) v = refl

free_rows : (rows : List (List Mark)) (v : Assignment) → list_any (λ marks. row_matches marks [] v) rows ≡ not (is_empty rows)
free_rows [] v = refl
free_rows (marks ∷ rows) v = ap (λ b. b || list_any (λ m. row_matches m [] v) rows) (free_row marks v)

not_cond : (b p : Bool) → cond (not b) p (not p) ≡ cond b (not p) p
not_cond true p = refl
not_cond false p = refl

-- the value of a table without pins
pub constant_value-rows : (n s : ℕ) (tables : List TableValue) (table : TableValue) → table ≡ table_at tables (s - n) → is_constant_signal n tables s ≡ true
    → cond (is_empty table.rows) (not table.plane) table.plane ≡ constant_value n tables s
constant_value-rows n s tables table at e =
    let u : TableValue = table_at tables (s - n) in
    let none : (table_at tables (s - n)).pins ≡ [] = no_elements (table_at tables (s - n)).pins (and_parts (nat_le n s) (is_empty (table_at tables (s - n)).pins) e).1 in
    ap (λ (w : TableValue). cond (is_empty w.rows) (not w.plane) w.plane) at
    ∙ sym (not_cond (is_empty (table_at tables (s - n)).rows) (table_at tables (s - n)).plane)
    ∙ ap (λ b. cond b (table_at tables (s - n)).plane (not (table_at tables (s - n)).plane)) (sym (free_rows (table_at tables (s - n)).rows (λ p. false)))
    ∙ ap (λ (ps : List ℕ). cond (list_any (λ marks. row_matches marks ps (λ p. false)) (table_at tables (s - n)).rows) (table_at tables (s - n)).plane (not (table_at tables (s - n)).plane)) (sym none)

-- the net of a draft is changed once, and twice
pub one_step : (D F : DraftValue) (Y Z : NetValue) → F ≡ record D { net = Y } → Y ≡ Z → F ≡ record D { net = Z }
one_step D F Y Z m z = m ∙ ap (λ (n : NetValue). record D { net = n }) z

pub two_steps : (D E F : DraftValue) (X Y Z : NetValue) → E ≡ record D { net = X } → F ≡ record E { net = Y } → Y ≡ Z → F ≡ record D { net = Z }
two_steps D E F X Y Z k m z = one_step E F Y Z m z ∙ ap (λ (G : DraftValue). record G { net = Z }) k
