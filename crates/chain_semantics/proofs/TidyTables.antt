-- The table that each of the rules 1 to 4 puts in the place of a table: it has the same value, and it is narrower.
use Rattle.std.proofs.Common.{◌≡◌, ℕ, zero, suc, ◌+◌, ◌<◌, ◌≤◌, Bool, true, false, cond, not, eqb, List, [], ◌∷◌, map, length, get_or, refl, ap, sym, subst, ◌∙◌, inl, inr, arith}
use Rattle.std.specs.Prelude.{◌&&◌, ◌||◌, All, Contains}
use Rattle.std.specs.List.{list_any, list_all, filter, remove, sum_by, AllByRecursion}
use Rattle.std.proofs.lemmas.Bool.{and_left, and_parts, or_cases, or_right, eqb-true, false≢true, not-true, not-false, or_left}
use Rattle.std.proofs.lemmas.List.{length-map, length-set}
use Rattle.std.proofs.lemmas.Simd.{map-map}
use Rattle.std.proofs.lemmas.List.Edits.{length-remove}
use Rattle.std.proofs.lemmas.List.Elements.{All-map, All-filter, All-weaker, All-nil, All-from_recursion}
use Rattle.std.proofs.lemmas.List.Sums.{sum_by-cons, length-filter, count_by-le-length}
use Rattle.semantics.specs.declared.mark.Mark.{Mark}
use Rattle.semantics.specs.Texts.{Bytes}
use Rattle.semantics.specs.Net.{TableValue, IsTable, IsName, row_literals, table_literals}
use Rattle.semantics.specs.Value.{Assignment, mark_matches, row_matches, table_value}
use Rattle.semantics.specs.Net.{constant_table}
use Rattle.semantics.proofs.Depends.{each_member}
use Rattle.chain_semantics.specs.TidyRules.{is_empty, mark_at, pin_at, is_dash, clash, joined, with_marks_joined, without_pin, settled, settled_rows, with_pin_fixed, with_pins_joined, is_canonical}
use Rattle.chain_semantics.specs.TidyRules.{is_canonical_rows, is_constant, made_canonical}
use Rattle.chain_semantics.proofs.TidyMeasure.{unless, table_cost}
use Rattle.chain_semantics.proofs.TidyRows.{row_matches-split, dash_matches, joined-matches, clash-matches, no_literal-matches, literals-remove, literals-joined}

pub record IsNarrower (t new : TableValue) : Type 0 where
  pub name : new.name ≡ t.name
  pub formed : IsTable new
  pub reads : AllByRecursion (Contains t.pins) new.pins
  pub pins : length new.pins ≤ length t.pins
  pub rows : length new.rows ≤ length t.rows
  pub literals : table_literals new ≤ table_literals t
  pub cost : table_cost new < table_cost t

-- one pin less, and the rows of a table but for the rule on its plane
pub record IsShorter (t new : TableValue) : Type 0 where
  pub name : new.name ≡ t.name
  pub widths : All (λ marks. length marks ≡ length new.pins) new.rows
  pub reads : AllByRecursion (Contains t.pins) new.pins
  pub pins : length new.pins + 1 ≡ length t.pins
  pub rows : length new.rows ≤ length t.rows
  pub literals : table_literals new ≤ table_literals t

cost_bit : (b : Bool) → unless b ≤ 1
cost_bit true = omega arith
cost_bit false = omega arith

has_pins : (pins : List ℕ) (b c : Bool) → 0 < length pins → unless (is_empty pins && b && c) ≡ 1
has_pins [] b c h = absurd (omega arith)
has_pins (s ∷ pins) b c h = refl

cost-falls : (t new : TableValue) → length new.pins + 1 ≡ length t.pins → table_cost new < table_cost t
cost-falls t new h =
    omega (arith, cost_bit (is_canonical new), has_pins t.pins t.plane (is_canonical_rows t.rows) (omega arith))

shorter-narrower : (t new : TableValue) → IsTable t → IsShorter t new → (new.rows ≡ [] → new.plane ≡ true) → IsNarrower t new
shorter-narrower t new formed h plane = record {
  name = h.name;
  formed = record { named = subst IsName (sym h.name) formed.named; widths = h.widths; plane = plane };
  reads = h.reads;
  pins = omega (arith, h.pins);
  rows = h.rows;
  literals = h.literals;
  cost = cost-falls t new h.pins;
}

pub constant-narrower : (t : TableValue) (b : Bool) → IsTable t → 0 < table_cost t → (b ≡ true → 0 < length t.rows) → IsNarrower t (constant_table t.name b)
constant-narrower t false formed cost rows = record {
  name = refl;
  formed = record { named = formed.named; widths = All-nil (λ marks. length marks ≡ 0); plane = λ e. refl };
  reads = tt;
  pins = omega arith;
  rows = omega arith;
  literals = omega arith;
  cost = cost;
}
constant-narrower t true formed cost rows = record {
  name = refl;
  formed = record { named = formed.named; widths = All-from_recursion (λ marks. length marks ≡ 0) ([] ∷ []) (refl, tt); plane = λ e. refl };
  reads = tt;
  pins = omega arith;
  rows = omega (arith, rows refl);
  literals = omega arith;
  cost = cost;
}

table_value-constant : (name : Bytes) (b : Bool) (v : Assignment) → table_value (constant_table name b) v ≡ b
table_value-constant name true v = refl
table_value-constant name false v = refl

settled_value : (rows : List (List Mark)) (u : TableValue) (v : Assignment) → u.rows ≡ rows → table_value (settled_rows rows u) v ≡ table_value u v
settled_value [] u v e =
    table_value-constant u.name (not u.plane) v ∙ ap (λ rows. cond (list_any (λ marks. row_matches marks u.pins v) rows) u.plane (not u.plane)) (sym e)
settled_value (marks ∷ rows) u v e = refl

settled-value : (u : TableValue) (v : Assignment) → table_value (settled u) v ≡ table_value u v
settled-value u v = settled_value u.rows u v refl

positive : {X : Type 0} (xs : List X) → (xs ≡ [] → 0 < length xs) → 0 < length xs
positive [] f = f refl
positive (x ∷ xs) f = omega arith

-- a table without rows that had none before has plane 1, so that no row is made
no_new_row : (t u : TableValue) → IsTable t → u.plane ≡ t.plane → not u.plane ≡ true → 0 < length t.rows
no_new_row t u formed same e = positive t.rows (λ none. absurd (false≢true (sym (ap not (same ∙ formed.plane none)) ∙ e)))

settled_narrower : (rows : List (List Mark)) (t u : TableValue) → IsTable t → u.plane ≡ t.plane → IsShorter t u → u.rows ≡ rows → IsNarrower t (settled_rows rows u)
settled_narrower [] t u formed plane h e =
    subst (λ name. IsNarrower t (constant_table name (not u.plane))) (sym h.name)
    (constant-narrower t (not u.plane) formed (omega (arith, h.pins)) (no_new_row t u formed plane))
settled_narrower (marks ∷ rows) t u formed plane h e = shorter-narrower t u formed h (λ none. cc)

settled-narrower : (t u : TableValue) → IsTable t → u.plane ≡ t.plane → IsShorter t u → IsNarrower t (settled u)
settled-narrower t u formed plane h = settled_narrower u.rows t u formed plane h refl

kept_any_at : (f : List Mark → List Mark) (k : List Mark → Bool) (new pins : List ℕ) (v : Assignment)
    → ((marks : List Mark) → k marks ≡ true → row_matches (f marks) new v ≡ row_matches marks pins v)
    → ((marks : List Mark) → k marks ≡ false → row_matches marks pins v ≡ false)
    → (marks : List Mark) (rows : List (List Mark)) (b : Bool) → k marks ≡ b → list_any (λ m. row_matches m new v) (map f (filter k rows)) ≡ list_any (λ m. row_matches m pins v) rows
    → list_any (λ m. row_matches m new v) (map f (cond b (marks ∷ filter k rows) (filter k rows))) ≡ (row_matches marks pins v || list_any (λ m. row_matches m pins v) rows)
kept_any_at f k new pins v same gone marks rows true e rest = let here = same marks e in cc
kept_any_at f k new pins v same gone marks rows false e rest = rest ∙ ap (λ b. b || list_any (λ m. row_matches m pins v) rows) (sym (gone marks e))

-- rows that are kept by a test and edited
kept_any : (f : List Mark → List Mark) (k : List Mark → Bool) (new pins : List ℕ) (v : Assignment)
    → ((marks : List Mark) → k marks ≡ true → row_matches (f marks) new v ≡ row_matches marks pins v)
    → ((marks : List Mark) → k marks ≡ false → row_matches marks pins v ≡ false)
    → (rows : List (List Mark)) → list_any (λ marks. row_matches marks new v) (map f (filter k rows)) ≡ list_any (λ marks. row_matches marks pins v) rows
kept_any f k new pins v same gone [] = refl
kept_any f k new pins v same gone (marks ∷ rows) = kept_any_at f k new pins v same gone marks rows (k marks) refl (kept_any f k new pins v same gone rows)

kept_literals_at : (f : List Mark → List Mark) (k : List Mark → Bool) → ((marks : List Mark) → row_literals (f marks) ≤ row_literals marks)
    → (marks : List Mark) (rows : List (List Mark)) (b : Bool) → sum_by row_literals (map f (filter k rows)) ≤ sum_by row_literals rows
    → sum_by row_literals (map f (cond b (marks ∷ filter k rows) (filter k rows))) ≤ sum_by row_literals (marks ∷ rows)
kept_literals_at f k less marks rows true rest =
    omega (arith, sum_by-cons row_literals marks rows, sum_by-cons row_literals (f marks) (map f (filter k rows)), less marks)
kept_literals_at f k less marks rows false rest = omega (arith, sum_by-cons row_literals marks rows)

kept_literals : (f : List Mark → List Mark) (k : List Mark → Bool) → ((marks : List Mark) → row_literals (f marks) ≤ row_literals marks)
    → (rows : List (List Mark)) → sum_by row_literals (map f (filter k rows)) ≤ sum_by row_literals rows
kept_literals f k less [] = omega arith
kept_literals f k less (marks ∷ rows) = kept_literals_at f k less marks rows (k marks) (kept_literals f k less rows)

pub all_remove : {X : Type 0} (P : X → Type 0) (xs : List X) (q : ℕ) → AllByRecursion P xs → AllByRecursion P (remove xs q)
all_remove P [] zero h = tt
all_remove P [] (suc q) h = tt
all_remove P (x ∷ xs) zero h = h.1
all_remove P (x ∷ xs) (suc q) h = (h.0, all_remove P xs q h.1)

-- the rows edited, and the pin at q gone
kept-shorter : (t : TableValue) (q : ℕ) (f : List Mark → List Mark) (k : List Mark → Bool) → IsTable t → q < length t.pins
    → ((marks : List Mark) → length marks ≡ length t.pins → length (f marks) + 1 ≡ length marks)
    → ((marks : List Mark) → row_literals (f marks) ≤ row_literals marks)
    → IsShorter t (record t { pins = remove t.pins q; rows = map f (filter k t.rows) })
kept-shorter t q f k formed h width less = record {
  name = refl;
  widths = All-map (λ marks. length marks ≡ length (remove t.pins q)) f (filter k t.rows)
      (All-filter k (λ marks. length (f marks) ≡ length (remove t.pins q)) t.rows
      (All-weaker (λ marks. length marks ≡ length t.pins) (λ marks. length (f marks) ≡ length (remove t.pins q))
      (λ marks e. let w = width marks e in omega (arith, length-remove t.pins q h)) t.rows formed.widths));
  reads = all_remove (Contains t.pins) t.pins q (each_member (Contains t.pins) t.pins (λ p c. c));
  pins = length-remove t.pins q h;
  rows = omega (arith, length-map (filter k t.rows) f, length-filter k t.rows, count_by-le-length k t.rows);
  literals = kept_literals f k less t.rows;
}

-- rule 1
pub fixed-value : (t : TableValue) (q : ℕ) (b : Bool) (v : Assignment) → q < length t.pins → v (pin_at t q) ≡ b → table_value (with_pin_fixed q b t) v ≡ table_value t v
fixed-value t q b v h e =
    settled-value (without_pin q (record t { rows = filter (λ marks. mark_matches (mark_at marks q) b) t.rows })) v
    ∙ ap (λ some. cond some t.plane (not t.plane))
    (kept_any (λ marks. remove marks q) (λ marks. mark_matches (mark_at marks q) b) (remove t.pins q) t.pins v
    (λ marks m. sym (row_matches-split marks t.pins q v h ∙ ap (λ c. c && row_matches (remove marks q) (remove t.pins q) v) (ap (mark_matches (mark_at marks q)) e ∙ m)))
    (λ marks m. row_matches-split marks t.pins q v h ∙ and_left (mark_matches (mark_at marks q) (v (pin_at t q))) (row_matches (remove marks q) (remove t.pins q) v)
    (ap (mark_matches (mark_at marks q)) e ∙ m))
    t.rows)

remove_width : (marks : List Mark) (q n : ℕ) → q < n → length marks ≡ n → length (remove marks q) + 1 ≡ length marks
remove_width marks q n h e = length-remove marks q (omega arith)

remove_literals : (marks : List Mark) (q : ℕ) → row_literals (remove marks q) ≤ row_literals marks
remove_literals marks q = omega (arith, literals-remove marks q)

pub fixed-narrower : (t : TableValue) (q : ℕ) (b : Bool) → IsTable t → q < length t.pins → IsNarrower t (with_pin_fixed q b t)
fixed-narrower t q b formed h =
    settled-narrower t (without_pin q (record t { rows = filter (λ marks. mark_matches (mark_at marks q) b) t.rows })) formed refl
    (kept-shorter t q (λ marks. remove marks q) (λ marks. mark_matches (mark_at marks q) b) formed h
    (λ marks. remove_width marks q (length t.pins) h) (λ marks. remove_literals marks q))

-- rule 2
dashed_any : (pins : List ℕ) (q : ℕ) (v : Assignment) → q < length pins → (rows : List (List Mark)) → list_all (λ marks. is_dash (mark_at marks q)) rows ≡ true
    → list_any (λ marks. row_matches marks (remove pins q) v) (map (λ marks. remove marks q) rows) ≡ list_any (λ marks. row_matches marks pins v) rows
dashed_any pins q v h [] e = refl
dashed_any pins q v h (marks ∷ rows) e =
    let parts = and_parts (is_dash (mark_at marks q)) (list_all (λ m. is_dash (mark_at m q)) rows) e in
    let rest = dashed_any pins q v h rows parts.1 in
    let split = row_matches-split marks pins q v h in
    let dash = dash_matches (mark_at marks q) (v (get_or pins q 0)) parts.0 in
    let here : row_matches marks pins v ≡ row_matches (remove marks q) (remove pins q) v = split ∙ ap (λ c. c && row_matches (remove marks q) (remove pins q) v) dash in
    cc

pub dashed-value : (t : TableValue) (q : ℕ) (v : Assignment) → q < length t.pins → list_all (λ marks. is_dash (mark_at marks q)) t.rows ≡ true → table_value (without_pin q t) v ≡ table_value t v
dashed-value t q v h e = ap (λ some. cond some t.plane (not t.plane)) (dashed_any t.pins q v h t.rows e)

keep_all : (rows : List (List Mark)) → filter (λ marks. true) rows ≡ rows
keep_all [] = refl
keep_all (marks ∷ rows) = let rest = keep_all rows in cc

pub map_none : (f : List Mark → List Mark) (rows : List (List Mark)) → map f rows ≡ [] → rows ≡ []
map_none f [] e = refl
map_none f (marks ∷ rows) e = cc

pub dashed-narrower : (t : TableValue) (q : ℕ) → IsTable t → q < length t.pins → IsNarrower t (without_pin q t)
dashed-narrower t q formed h =
    shorter-narrower t (without_pin q t) formed
    (subst (λ rows. IsShorter t (record t { pins = remove t.pins q; rows = map (λ marks. remove marks q) rows })) (keep_all t.rows)
    (kept-shorter t q (λ marks. remove marks q) (λ marks. true) formed h (λ marks. remove_width marks q (length t.pins) h) (λ marks. remove_literals marks q)))
    (λ none. formed.plane (map_none (λ marks. remove marks q) t.rows none))

-- rule 3
joined_table : (p q : ℕ) (t : TableValue) → with_pins_joined p q t ≡ settled (record t {
  pins = remove t.pins q;
  rows = map (λ marks. remove (with_marks_joined p q marks) q) (filter (λ marks. not (clash (mark_at marks p) (mark_at marks q))) t.rows);
})
joined_table p q t = ap (λ rows. settled (record t { pins = remove t.pins q; rows = rows }))
    (map-map (λ marks. remove marks q) (with_marks_joined p q) (filter (λ marks. not (clash (mark_at marks p) (mark_at marks q))) t.rows))

pub joined-value : (t : TableValue) (p q : ℕ) (v : Assignment) → p < q → q < length t.pins → pin_at t p ≡ pin_at t q → table_value (with_pins_joined p q t) v ≡ table_value t v
joined-value t p q v less h e =
    ap (λ u. table_value u v) (joined_table p q t)
    ∙ settled-value (record t { pins = remove t.pins q; rows = map (λ marks. remove (with_marks_joined p q marks) q) (filter (λ marks. not (clash (mark_at marks p) (mark_at marks q))) t.rows) }) v
    ∙ ap (λ some. cond some t.plane (not t.plane))
    (kept_any (λ marks. remove (with_marks_joined p q marks) q) (λ marks. not (clash (mark_at marks p) (mark_at marks q))) (remove t.pins q) t.pins v
    (λ marks m. joined-matches marks t.pins p q v less h e (not-true (clash (mark_at marks p) (mark_at marks q)) m))
    (λ marks m. clash-matches marks t.pins p q v less h e (not-false (clash (mark_at marks p) (mark_at marks q)) m))
    t.rows)

pub joined-narrower : (t : TableValue) (p q : ℕ) → IsTable t → p < q → q < length t.pins → IsNarrower t (with_pins_joined p q t)
joined-narrower t p q formed less h =
    subst (IsNarrower t) (sym (joined_table p q t))
    (settled-narrower t (record t { pins = remove t.pins q; rows = map (λ marks. remove (with_marks_joined p q marks) q) (filter (λ marks. not (clash (mark_at marks p) (mark_at marks q))) t.rows) })
    formed refl
    (kept-shorter t q (λ marks. remove (with_marks_joined p q marks) q) (λ marks. not (clash (mark_at marks p) (mark_at marks q))) formed h
    (λ marks e.
    let same = length-set marks p (joined (mark_at marks p) (mark_at marks q)) in
    omega (arith, length-remove (with_marks_joined p q marks) q (omega arith)))
    (λ marks. literals-joined marks p q less)))

-- rule 4
no_literal_any : (pins : List ℕ) (v : Assignment) (rows : List (List Mark)) → list_any (λ marks. eqb (row_literals marks) 0) rows ≡ true → list_any (λ marks. row_matches marks pins v) rows ≡ true
no_literal_any pins v [] e = absurd (false≢true e)
no_literal_any pins v (marks ∷ rows) e =
    elim (or_cases (eqb (row_literals marks) 0) (list_any (λ m. eqb (row_literals m) 0) rows) e) [
      | inl here ↦ or_left (row_matches marks pins v) (list_any (λ m. row_matches m pins v) rows) (no_literal-matches marks pins v (eqb-true (row_literals marks) 0 here))
      | inr later ↦ or_right (row_matches marks pins v) (list_any (λ m. row_matches m pins v) rows) (no_literal_any pins v rows later)
    ]

canonical_value : (rows : List (List Mark)) (pins : List ℕ) (plane : Bool) (v : Assignment) → (rows ≡ [] → plane ≡ true)
    → (is_empty rows || list_any (λ marks. eqb (row_literals marks) 0) rows) ≡ true
    → (not (is_empty rows) && plane) ≡ cond (list_any (λ marks. row_matches marks pins v) rows) plane (not plane)
canonical_value [] pins plane v formed e = ap not (sym (formed refl))
canonical_value (marks ∷ rows) pins plane v formed e = ap (λ some. cond some plane (not plane)) (sym (no_literal_any pins v (marks ∷ rows) e))

pub canonical-value : (t : TableValue) (v : Assignment) → IsTable t → is_constant t ≡ true → table_value (made_canonical t) v ≡ table_value t v
canonical-value t v formed e =
    table_value-constant t.name (not (is_empty t.rows) && t.plane) v
    ∙ canonical_value t.rows t.pins t.plane v formed.plane (and_parts (not (is_canonical t)) (is_empty t.rows || list_any (λ marks. eqb (row_literals marks) 0) t.rows) e).1

not_empty : {X : Type 0} (xs : List X) (b : Bool) → (not (is_empty xs) && b) ≡ true → 0 < length xs
not_empty [] b e = absurd (false≢true e)
not_empty (x ∷ xs) b e = omega arith

pub canonical-narrower : (t : TableValue) → IsTable t → is_constant t ≡ true → IsNarrower t (made_canonical t)
canonical-narrower t formed e =
    let other : is_canonical t ≡ false = not-true (is_canonical t) (and_parts (not (is_canonical t)) (is_empty t.rows || list_any (λ marks. eqb (row_literals marks) 0) t.rows) e).0 in
    let cost : unless (is_canonical t) ≡ 1 = ap unless other in
    constant-narrower t (not (is_empty t.rows) && t.plane) formed (omega arith) (not_empty t.rows t.plane)
