-- Tables of two nets at which the same rule applies.
use Rattle.std.proofs.Common.{◌≡◌, ℕ, zero, suc, ◌+◌, ◌-◌, ◌<◌, ◌≤◌, Bool, true, false, not, eqb, List, [], ◌∷◌, map, length, get_or, set, take, refl, ap, sym, subst, ◌∙◌, inl, inr, arith}
use Rattle.std.specs.Prelude.{◌&&◌, ◌||◌, ◌==◌, ◌⊎◌, nat_le, Contains}
use Rattle.std.specs.List.{list_any, list_all}
use Rattle.std.proofs.lemmas.Bool.{cases_eq, eq-eqb, ne_eqb, leb-true, both_ways}
use Rattle.std.proofs.lemmas.List.{length-map, get_or-map, get_or-set_same, map-id, take-map}
use Rattle.std.proofs.lemmas.List.Elements.{Contains-get_or}
use Rattle.semantics.specs.declared.mark.Mark.{Mark}
use Rattle.semantics.specs.Net.{TableValue, NetValue, no_table, table_at, input_count, table_count, row_literals}
use Rattle.semantics.specs.Replaced.{replaced, with_table}
use Rattle.semantics.proofs.Depends.{table_at-other}
use Rattle.chain_semantics.specs.TidyRules.{is_empty, has, first_from, pin_at, mark_at, is_constant_signal, constant_pin, is_dash, dashed_pin, repeated_pin, is_canonical_rows, is_constant}
use Rattle.chain_semantics.specs.TidyRules.{is_one_literal, has_one_literal, is_output, is_read, is_bypassed, is_unread}
use Rattle.chain_semantics.proofs.TidyReading.{Contains-has}
use Rattle.net_tidy.specs.Rule.{first_rule, rule_at}
use Rattle.net_tidy.proofs.Stepping.{six_same}

first_from-same : (p q : ℕ → Bool) (start count : ℕ) → ((k : ℕ) → start ≤ k → k < start + count → p k ≡ q k) → first_from p start count ≡ first_from q start count
first_from-same p q start zero f = refl
first_from-same p q start (suc count) f =
    let here : p start ≡ q start = f start (omega arith) (omega arith) in
    let rest : first_from p (start + 1) count ≡ first_from q (start + 1) count = first_from-same p q (start + 1) count (λ k low high. f k (omega arith) (omega arith)) in
    cc

pub eqb_map : (f : ℕ → ℕ) → ((s u : ℕ) → f s ≡ f u → s ≡ u) → (s u : ℕ) → eqb (f s) (f u) ≡ eqb s u
eqb_map f distinct s u =
    elim (cases_eq s u) [
      | inl same ↦ eq-eqb (f s) (f u) (ap f same) ∙ sym (eq-eqb s u same)
      | inr other ↦ ne_eqb (f s) (f u) (λ e. other (distinct s u e)) ∙ sym (ne_eqb s u other)
    ]

pub has-map : (f : ℕ → ℕ) → ((s u : ℕ) → f s ≡ f u → s ≡ u) → (pins : List ℕ) (s : ℕ) → has (map f pins) (f s) ≡ has pins s
has-map f distinct [] s = refl
has-map f distinct (p ∷ pins) s = let here = eqb_map f distinct s p in let rest = has-map f distinct pins s in cc

pub empty-map : (f : ℕ → ℕ) (pins : List ℕ) → is_empty (map f pins) ≡ is_empty pins
empty-map f [] = refl
empty-map f (s ∷ pins) = refl

one_literal-map : (f : ℕ → ℕ) (pins : List ℕ) (rows : List (List Mark)) → is_one_literal (map f pins) rows ≡ is_one_literal pins rows
one_literal-map f [] rows = refl
one_literal-map f (p ∷ []) rows = refl
one_literal-map f (p ∷ q ∷ pins) rows = refl

-- the conditions on one table, whose pins are renamed
module _ (f : ℕ → ℕ) (distinct : (s u : ℕ) → f s ≡ f u → s ≡ u) (t u : TableValue) (pins : u.pins ≡ map f t.pins) (rows : u.rows ≡ t.rows) (plane : u.plane ≡ t.plane) where
  count : length u.pins ≡ length t.pins
  count = ap length pins ∙ length-map t.pins f

  pin : (q : ℕ) → q < length t.pins → pin_at u q ≡ f (pin_at t q)
  pin q h = ap (λ (ps : List ℕ). get_or ps q 0) pins ∙ get_or-map f t.pins q 0 0 h

  pub same-constant_pin : (n m : ℕ) (a b : List TableValue) → ((s : ℕ) → Contains t.pins s → is_constant_signal m b (f s) ≡ is_constant_signal n a s) → constant_pin m b u ≡ constant_pin n a t
  same-constant_pin n m a b same =
      ap (first_from (λ q. is_constant_signal m b (pin_at u q)) 0) count
      ∙ first_from-same (λ q. is_constant_signal m b (pin_at u q)) (λ q. is_constant_signal n a (pin_at t q)) 0 (length t.pins)
      (λ q low high.
      let inside : q < length t.pins = omega arith in
      ap (is_constant_signal m b) (pin q inside) ∙ same (pin_at t q) (Contains-get_or t.pins q 0 inside))

  pub same-dashed_pin : dashed_pin u ≡ dashed_pin t
  same-dashed_pin =
      ap (first_from (λ q. not (is_empty u.rows) && list_all (λ marks. is_dash (mark_at marks q)) u.rows) 0) count
      ∙ ap (λ (rs : List (List Mark)). first_from (λ q. not (is_empty rs) && list_all (λ marks. is_dash (mark_at marks q)) rs) 0 (length t.pins)) rows

  pub same-repeated_pin : repeated_pin u ≡ repeated_pin t
  same-repeated_pin =
      ap (first_from (λ q. has (take q u.pins) (pin_at u q)) 0) count
      ∙ first_from-same (λ q. has (take q u.pins) (pin_at u q)) (λ q. has (take q t.pins) (pin_at t q)) 0 (length t.pins)
      (λ q low high.
      let first = take-map f q t.pins in
      let taken : take q u.pins ≡ map f (take q t.pins) = ap (take q) pins ∙ cc in
      ap (λ (ps : List ℕ). has ps (pin_at u q)) taken ∙ ap (has (map f (take q t.pins))) (pin q (omega arith)) ∙ has-map f distinct (take q t.pins) (pin_at t q))

  pub same-constant : is_constant u ≡ is_constant t
  same-constant =
      let empty : is_empty u.pins ≡ is_empty t.pins = ap is_empty pins ∙ empty-map f t.pins in
      ap (λ (b : Bool). not (b && u.plane && is_canonical_rows u.rows) && (is_empty u.rows || list_any (λ marks. row_literals marks == 0) u.rows)) empty
      ∙ ap (λ (b : Bool). not (is_empty t.pins && b && is_canonical_rows u.rows) && (is_empty u.rows || list_any (λ marks. row_literals marks == 0) u.rows)) plane
      ∙ ap (λ (rs : List (List Mark)). not (is_empty t.pins && t.plane && is_canonical_rows rs) && (is_empty rs || list_any (λ marks. row_literals marks == 0) rs)) rows

  pub same-one_literal : has_one_literal u ≡ has_one_literal t
  same-one_literal = ap (λ (ps : List ℕ). is_one_literal ps u.rows) pins ∙ one_literal-map f t.pins u.rows ∙ ap (is_one_literal t.pins) rows

-- table i of N stands as table j in M, its signals renamed by f, and is an output and read there as before
pub record IsLike (f : ℕ → ℕ) (N : NetValue) (i : ℕ) (M : NetValue) (j : ℕ) : Type 0 where
  pub distinct : (s u : ℕ) → f s ≡ f u → s ≡ u
  pub pins : (table_at M.tables j).pins ≡ map f (table_at N.tables i).pins
  pub rows : (table_at M.tables j).rows ≡ (table_at N.tables i).rows
  pub plane : (table_at M.tables j).plane ≡ (table_at N.tables i).plane
  pub constants : (s : ℕ) → Contains (table_at N.tables i).pins s → is_constant_signal (input_count M) M.tables (f s) ≡ is_constant_signal (input_count N) N.tables s
  pub output : is_output M (input_count M + j) ≡ is_output N (input_count N + i)
  pub read : is_read M.tables (input_count M + j) ≡ is_read N.tables (input_count N + i)

pub like-rule : (f : ℕ → ℕ) (N : NetValue) (i : ℕ) (M : NetValue) (j : ℕ) → IsLike f N i M j → rule_at M j ≡ rule_at N i
like-rule f N i M j h =
    let t : TableValue = table_at N.tables i in
    let u : TableValue = table_at M.tables j in
    let one : has_one_literal u ≡ has_one_literal t = same-one_literal f h.distinct (table_at N.tables i) (table_at M.tables j) h.pins h.rows h.plane in
    let output : is_output M (input_count M + j) ≡ is_output N (input_count N + i) = h.output in
    let read : is_read M.tables (input_count M + j) ≡ is_read N.tables (input_count N + i) = h.read in
    let bypassed : is_bypassed M j ≡ is_bypassed N i =
    ap (λ (b : Bool). b && not (is_output M (input_count M + j)) && is_read M.tables (input_count M + j)) one
    ∙ ap (λ (b : Bool). has_one_literal (table_at N.tables i) && not b && is_read M.tables (input_count M + j)) output
    ∙ ap (λ (b : Bool). has_one_literal (table_at N.tables i) && not (is_output N (input_count N + i)) && b) read in
    let unread : is_unread M j ≡ is_unread N i =
    ap (λ (b : Bool). not b && not (is_read M.tables (input_count M + j))) output ∙ ap (λ (b : Bool). not (is_output N (input_count N + i)) && not b) read in
    six_same first_rule _ _ _ _ _ _ _ _ _ _ _ _
    (same-constant_pin f h.distinct (table_at N.tables i) (table_at M.tables j) h.pins h.rows h.plane (input_count N) (input_count M) N.tables M.tables h.constants)
    (same-dashed_pin f h.distinct (table_at N.tables i) (table_at M.tables j) h.pins h.rows h.plane)
    (same-repeated_pin f h.distinct (table_at N.tables i) (table_at M.tables j) h.pins h.rows h.plane)
    (same-constant f h.distinct (table_at N.tables i) (table_at M.tables j) h.pins h.rows h.plane)
    bypassed unread

pub and_same : (b c d : Bool) → (b ≡ true → c ≡ d) → (b && c) ≡ (b && d)
and_same true c d f = f refl
and_same false c d f = refl

any-set : {X : Type 0} (p : X → Bool) (xs : List X) (i : ℕ) (y d : X) → i < length xs → p y ≡ p (get_or xs i d) → list_any p (set xs i y) ≡ list_any p xs
any-set p [] i y d h e = absurd (omega arith)
any-set p (x ∷ xs) zero y d h e = ap (λ (b : Bool). b || list_any p xs) e
any-set p (x ∷ xs) (suc i) y d h e = ap (λ (b : Bool). p x || b) (any-set p xs i y d (omega arith) e)

-- one table replaced: another table, which neither was read by the one that changed nor is so now, and does not see whether that one has pins
pub replaced-like : (N : NetValue) (t j : ℕ) (new : TableValue) → t < table_count N → (j ≡ t → ⊥) → has new.pins (input_count N + j) ≡ has (table_at N.tables t).pins (input_count N + j)
    → (is_empty new.pins ≡ is_empty (table_at N.tables t).pins) ⊎ (has (table_at N.tables j).pins (input_count N + t) ≡ false) → IsLike (λ s. s) N j (with_table N t new) j
replaced-like N t j new within other reads seen =
    let at = table_at-other N.tables t j new other in
    record {
      distinct = λ s u e. e;
      pins = ap (λ (v : TableValue). v.pins) at ∙ sym (map-id (table_at N.tables j).pins);
      rows = ap (λ (v : TableValue). v.rows) at;
      plane = ap (λ (v : TableValue). v.plane) at;
      constants = λ s c.
          and_same (nat_le (input_count N) s) (is_empty (table_at (replaced N.tables t new) (s - input_count N)).pins) (is_empty (table_at N.tables (s - input_count N)).pins)
          (λ e.
          let past : input_count N ≤ s = leb-true (input_count N) s e in
          elim (cases_eq (s - input_count N) t) [
            | inl same ↦ elim seen [
              | inl empty ↦
                  ap (λ (k : ℕ). is_empty (table_at (replaced N.tables t new) k).pins) same ∙ ap (λ (v : TableValue). is_empty v.pins) (get_or-set_same N.tables t new no_table within)
                  ∙ empty ∙ ap (λ (k : ℕ). is_empty (table_at N.tables k).pins) (sym same)
              | inr unread ↦
                  let is : s ≡ input_count N + t = omega arith in
                  absurd (both_ways (has (table_at N.tables j).pins (input_count N + t)) unread
                  (Contains-has (table_at N.tables j).pins (input_count N + t) (subst (Contains (table_at N.tables j).pins) is c)))
            ]
            | inr differs ↦ ap (λ (v : TableValue). is_empty v.pins) (table_at-other N.tables t (s - input_count N) new differs)
          ]);
      output = refl;
      read = any-set (λ v. has v.pins (input_count N + j)) N.tables t new no_table within reads;
    }
