-- A draft against the net that is left once the tables that have gone are left out: the same rules at the same tables, and the same steps.
use Rattle.std.proofs.Common.{◌≡◌, ℕ, zero, suc, ◌+◌, ◌-◌, ◌<◌, ◌≤◌, Bool, true, false, cond, not, eqb, List, [], ◌∷◌, map, length, get_or, set, refl, ap, sym, ◌∙◌, inl, inr, arith}
use Rattle.std.specs.Prelude.{◌||◌, ◌&&◌, nat_le, All}
use Rattle.std.specs.List.{remove, filter}
use Rattle.std.proofs.lemmas.Bool.{cases_eq, cases_lt, or_parts, eqb-false, leb-true, le-leb, false≢true, false_from_ne_true}
use Rattle.std.proofs.lemmas.List.{length-map, length-set, get_or-map, get_or-set_same, get_or-set_other, get_or_past}
use Rattle.std.proofs.lemmas.List.Elements.{All-get_or, All-contains}
use Rattle.semantics.specs.declared.mark.Mark.{Mark}
use Rattle.semantics.specs.Net.{TableValue, no_table, table_at, input_count, table_count, constant_table, IsSound}
use Rattle.semantics.specs.Value.{mark_matches}
use Rattle.semantics.specs.Replaced.{with_table}
use Rattle.semantics.specs.Renamed.{renamed, redirect, lowered, raised, without}
use Rattle.chain_semantics.specs.TidyRules.{is_empty, has, is_read, is_constant_signal, mark_at, without_pin, settled, settled_rows, with_pin_fixed, first_place_of, clash, with_marks_joined}
use Rattle.chain_semantics.specs.TidyRules.{with_pins_joined, opposite, with_marks_turned, reading_past}
use Rattle.chain_semantics.specs.Tidy.{IsTidy}
use Rattle.chain_semantics.proofs.TidyMapped.{map-remove}
use Rattle.chain_semantics.proofs.TidyUnread.{raised-lowered}
use Rattle.net_tidy.specs.declared.rule.Rule.{Rule}
use Rattle.net_tidy.specs.declared.rule.Rule.TheVariants.{Removal}
use Rattle.net_tidy.specs.Rule.{rule_at}
use Rattle.net_tidy.specs.Flags.{IsFirstRule}
use Rattle.net_tidy.specs.Places.{DraftValue, kept, rank, signals_gone, dense, Stays, emptied, drafted, IsAtRest, IsFirstRuleIn}
use Rattle.net_tidy.proofs.Likeness.{IsLike, like-rule, has-map, empty-map, eqb_map}
use Rattle.net_tidy.proofs.Stepping.{tidy_by_rules}
use Rattle.net_tidy.proofs.Ranks.{place, rank_place, place_distinct, place_less, place_rank, StandsIn, stands_in, rank_within, kept_set, kept_gone, kept_map, place_gone, place_input, place_table}
use Rattle.net_tidy.proofs.Ranks.{rank_table, signals_gone_set, stays_table, length_signals}

-- ---- renaming there and back

numbers_back : (f g : ℕ → ℕ) → ((s : ℕ) → g (f s) ≡ s) → (xs : List ℕ) → map g (map f xs) ≡ xs
numbers_back f g h [] = refl
numbers_back f g h (s ∷ xs) = let here = h s in let rest = numbers_back f g h xs in cc

tables_back : (f g : ℕ → ℕ) → ((s : ℕ) → g (f s) ≡ s) → (ts : List TableValue) → map (renamed g) (map (renamed f) ts) ≡ ts
tables_back f g h [] = refl
tables_back f g h (t ∷ ts) =
    let here : renamed g (renamed f t) ≡ t = ap (λ (pins : List ℕ). record t { pins = pins }) (numbers_back f g h t.pins) in
    let rest = tables_back f g h ts in
    cc

map-set : {X Y : Type 0} (f : X → Y) (xs : List X) (i : ℕ) (x : X) → map f (set xs i x) ≡ set (map f xs) i (f x)
map-set f [] i x = refl
map-set f (y ∷ xs) zero x = refl
map-set f (y ∷ xs) (suc i) x = ap (λ l. f y ∷ l) (map-set f xs i x)

pub set_same : {X : Type 0} (xs : List X) (i : ℕ) (d : X) → i < length xs → set xs i (get_or xs i d) ≡ xs
set_same [] i d h = refl
set_same (x ∷ xs) zero d h = refl
set_same (x ∷ xs) (suc i) d h = ap (λ l. x ∷ l) (set_same xs i d (omega arith))

remove-set : {X : Type 0} (xs : List X) (i : ℕ) (x : X) → remove (set xs i x) i ≡ remove xs i
remove-set [] i x = refl
remove-set (y ∷ xs) zero x = refl
remove-set (y ∷ xs) (suc i) x = ap (λ l. y ∷ l) (remove-set xs i x)

-- ---- what reads

or_same : (a b c : Bool) → b ≡ c → (a || b) ≡ (a || c)
or_same a b c e = ap (λ x. a || x) e

read_renamed : (f : ℕ → ℕ) → ((s u : ℕ) → f s ≡ f u → s ≡ u) → (ts : List TableValue) (s : ℕ) → is_read (map (renamed f) ts) (f s) ≡ is_read ts s
read_renamed f distinct [] s = refl
read_renamed f distinct (t ∷ ts) s = let here = has-map f distinct t.pins s in let rest = read_renamed f distinct ts s in cc

-- those that have gone read nothing
pub record AreEmpty (gone : List Bool) (ts : List TableValue) : Type 0 where
  pub none : (i : ℕ) → get_or gone i true ≡ true → (table_at ts i).pins ≡ []

empty_rest : (g : Bool) (gone : List Bool) (t : TableValue) (ts : List TableValue) → AreEmpty (g ∷ gone) (t ∷ ts) → AreEmpty gone ts
empty_rest g gone t ts h = record { none = λ i e. h.none (suc i) e }

read_kept : (gone : List Bool) (ts : List TableValue) (s : ℕ) → AreEmpty gone ts → is_read (kept gone ts) s ≡ is_read ts s
read_kept [] ts s h = refl
read_kept (g ∷ gone) [] s h = refl
read_kept (true ∷ gone) (t ∷ ts) s h =
    read_kept gone ts s (empty_rest true gone t ts h) ∙ sym (ap (λ (pins : List ℕ). has pins s || is_read ts s) (h.none 0 refl))
read_kept (false ∷ gone) (t ∷ ts) s h = or_same (has t.pins s) (is_read (kept gone ts) s) (is_read ts s) (read_kept gone ts s (empty_rest false gone t ts h))

-- ---- a rule makes of a renamed table the renamed table

pub without_renamed : (f : ℕ → ℕ) (q : ℕ) (t : TableValue) → without_pin q (renamed f t) ≡ renamed f (without_pin q t)
without_renamed f q t = ap (λ (pins : List ℕ). record (without_pin q t) { pins = pins }) (sym (map-remove f t.pins q))

pub constant_renamed : (f : ℕ → ℕ) (name : List ℕ) (b : Bool) → constant_table name b ≡ renamed f (constant_table name b)
constant_renamed f name true = refl
constant_renamed f name false = refl

settled_renamed : (f : ℕ → ℕ) (rows : List (List Mark)) (t : TableValue) → settled_rows rows (renamed f t) ≡ renamed f (settled_rows rows t)
settled_renamed f [] t = constant_renamed f t.name (not t.plane)
settled_renamed f (marks ∷ rows) t = refl

pub fixed_renamed : (f : ℕ → ℕ) (q : ℕ) (v : Bool) (t : TableValue) → with_pin_fixed q v (renamed f t) ≡ renamed f (with_pin_fixed q v t)
fixed_renamed f q v t =
    let cut : TableValue = record t { rows = filter (λ marks. mark_matches (mark_at marks q) v) t.rows } in
    ap settled (without_renamed f q (record t { rows = filter (λ marks. mark_matches (mark_at marks q) v) t.rows }))
    ∙ settled_renamed f (without_pin q (record t { rows = filter (λ marks. mark_matches (mark_at marks q) v) t.rows })).rows
    (without_pin q (record t { rows = filter (λ marks. mark_matches (mark_at marks q) v) t.rows }))

pub joined_renamed : (f : ℕ → ℕ) (p q : ℕ) (t : TableValue) → with_pins_joined p q (renamed f t) ≡ renamed f (with_pins_joined p q t)
joined_renamed f p q t =
    ap settled (without_renamed f q (record t { rows = map (with_marks_joined p q) (filter (λ marks. not (clash (mark_at marks p) (mark_at marks q))) t.rows) }))
    ∙ settled_renamed f (without_pin q (record t { rows = map (with_marks_joined p q) (filter (λ marks. not (clash (mark_at marks p) (mark_at marks q))) t.rows) })).rows
    (without_pin q (record t { rows = map (with_marks_joined p q) (filter (λ marks. not (clash (mark_at marks p) (mark_at marks q))) t.rows) }))

cond_renamed : (f : ℕ → ℕ) (b x : ℕ) (t : Bool) → cond t (f b) (f x) ≡ f (cond t b x)
cond_renamed f b x true = refl
cond_renamed f b x false = refl

module _ (f : ℕ → ℕ) (distinct : (s u : ℕ) → f s ≡ f u → s ≡ u) where
  pub place_of_renamed : (pins : List ℕ) (s : ℕ) → first_place_of (map f pins) (f s) ≡ first_place_of pins s
  place_of_renamed [] s = refl
  place_of_renamed (p ∷ pins) s = let here = eqb_map f distinct s p in let rest = place_of_renamed pins s in cc

  redirect_renamed : (a b x : ℕ) → redirect (f a) (f b) (f x) ≡ f (redirect a b x)
  redirect_renamed a b x = ap (λ t. cond t (f b) (f x)) (eqb_map f distinct x a) ∙ cond_renamed f b x (eqb x a)

  redirects_renamed : (a b : ℕ) (pins : List ℕ) → map (redirect (f a) (f b)) (map f pins) ≡ map f (map (redirect a b) pins)
  redirects_renamed a b [] = refl
  redirects_renamed a b (p ∷ pins) = let here = redirect_renamed a b p in let rest = redirects_renamed a b pins in cc

  turned_renamed : (a : ℕ) (pins : List ℕ) (marks : List Mark) → with_marks_turned (f a) (map f pins) marks ≡ with_marks_turned a pins marks
  turned_renamed a [] marks = refl
  turned_renamed a (p ∷ pins) [] = refl
  turned_renamed a (p ∷ pins) (m ∷ marks) =
      let here = eqb_map f distinct p a in let rest = turned_renamed a pins marks in
      ap (λ b. cond b (opposite m) m ∷ with_marks_turned (f a) (map f pins) marks) here ∙ ap (λ l. cond (eqb p a) (opposite m) m ∷ l) rest

  rows_renamed : (a : ℕ) (pins : List ℕ) (rows : List (List Mark)) → map (with_marks_turned (f a) (map f pins)) rows ≡ map (with_marks_turned a pins) rows
  rows_renamed a pins [] = refl
  rows_renamed a pins (marks ∷ rows) = let here = turned_renamed a pins marks in let rest = rows_renamed a pins rows in cc

  past_renamed : (a b : ℕ) (inverted : Bool) (t : TableValue) → reading_past (f a) (f b) inverted (renamed f t) ≡ renamed f (reading_past a b inverted t)
  past_renamed a b true t =
      ap (λ (pins : List ℕ). record t { pins = pins; rows = map (with_marks_turned (f a) (map f t.pins)) t.rows }) (redirects_renamed a b t.pins)
      ∙ ap (λ (rows : List (List Mark)). record t { pins = map f (map (redirect a b) t.pins); rows = rows }) (rows_renamed a t.pins t.rows)
  past_renamed a b false t = ap (λ (pins : List ℕ). record t { pins = pins }) (redirects_renamed a b t.pins)

  all_past_renamed : (a b : ℕ) (inverted : Bool) (ts : List TableValue) → map (reading_past (f a) (f b) inverted) (map (renamed f) ts) ≡ map (renamed f) (map (reading_past a b inverted) ts)
  all_past_renamed a b inverted [] = refl
  all_past_renamed a b inverted (t ∷ ts) = let here = past_renamed a b inverted t in let rest = all_past_renamed a b inverted ts in cc

-- ---- a signal that is not read goes
unread_pins : (G : ℕ) (f g : ℕ → ℕ) → ((s : ℕ) → (s ≡ G → ⊥) → g (lowered G s) ≡ f s) → (pins : List ℕ) → has pins G ≡ false → map g (map (lowered G) pins) ≡ map f pins
unread_pins G f g h [] e = refl
unread_pins G f g h (p ∷ pins) e =
    let both = or_parts (eqb G p) (has pins G) e in
    let here : g (lowered G p) ≡ f p = h p (λ same. eqb-false G p both.0 (sym same)) in
    let rest = unread_pins G f g h pins both.1 in
    cc

unread_tables : (G : ℕ) (f g : ℕ → ℕ) → ((s : ℕ) → (s ≡ G → ⊥) → g (lowered G s) ≡ f s) → (ts : List TableValue) → is_read ts G ≡ false
    → map (renamed g) (map (renamed (lowered G)) ts) ≡ map (renamed f) ts
unread_tables G f g h [] e = refl
unread_tables G f g h (t ∷ ts) e =
    let both = or_parts (has t.pins G) (is_read ts G) e in
    let here : renamed g (renamed (lowered G) t) ≡ renamed f t = ap (λ (pins : List ℕ). record t { pins = pins }) (unread_pins G f g h t.pins both.0) in
    let rest = unread_tables G f g h ts both.1 in
    cc

unread_removed : (G : ℕ) (ts : List TableValue) (i : ℕ) → is_read ts G ≡ false → is_read (remove ts i) G ≡ false
unread_removed G [] zero e = e
unread_removed G [] (suc i) e = e
unread_removed G (t ∷ ts) zero e = (or_parts (has t.pins G) (is_read ts G) e).1
unread_removed G (t ∷ ts) (suc i) e =
    let both = or_parts (has t.pins G) (is_read ts G) e in
    ap (λ b. b || is_read (remove ts i) G) both.0 ∙ unread_removed G ts i both.1

-- ---- a draft and its net

pub record IsPacked (D : DraftValue) (ts : List TableValue) (os : List ℕ) : Type 0 where
  pub count : length D.gone ≡ table_count D.net
  pub tables : kept D.gone D.net.tables ≡ map (renamed (place (signals_gone (input_count D.net) D.gone))) ts
  pub outputs : D.net.outputs ≡ map (place (signals_gone (input_count D.net) D.gone)) os
  pub empty : AreEmpty D.gone D.net.tables

pub dense_is : (D : DraftValue) (ts : List TableValue) (os : List ℕ) → IsPacked D ts os → dense D ≡ record { model = D.net.model; inputs = D.net.inputs; tables = ts; outputs = os }
dense_is D ts os h =
    let F : List Bool = signals_gone (input_count D.net) D.gone in
    let tables : map (renamed (rank (signals_gone (input_count D.net) D.gone))) (kept D.gone D.net.tables) ≡ ts =
    ap (map (renamed (rank (signals_gone (input_count D.net) D.gone)))) h.tables
    ∙ tables_back (place (signals_gone (input_count D.net) D.gone)) (rank (signals_gone (input_count D.net) D.gone)) (rank_place (signals_gone (input_count D.net) D.gone)) ts in
    let outputs : map (rank (signals_gone (input_count D.net) D.gone)) D.net.outputs ≡ os =
    ap (map (rank (signals_gone (input_count D.net) D.gone))) h.outputs
    ∙ numbers_back (place (signals_gone (input_count D.net) D.gone)) (rank (signals_gone (input_count D.net) D.gone)) (rank_place (signals_gone (input_count D.net) D.gone)) os in
    ap (λ (x : List TableValue). record {
      model = D.net.model;
      inputs = D.net.inputs;
      tables = x;
      outputs = map (rank (signals_gone (input_count D.net) D.gone)) D.net.outputs;
    }) tables
    ∙ ap (λ (x : List ℕ). record { model = D.net.model; inputs = D.net.inputs; tables = ts; outputs = x }) outputs

input_signal : (n s : ℕ) (tables : List TableValue) → s < n → is_constant_signal n tables s ≡ false
input_signal n s tables h = ap (λ b. b && is_empty (table_at tables (s - n)).pins) (false_from_ne_true (nat_le n s) (λ e. let le = leb-true n s e in omega (arith, le)))

table_signal : (n s : ℕ) (tables : List TableValue) → n ≤ s → is_constant_signal n tables s ≡ is_empty (table_at tables (s - n)).pins
table_signal n s tables h = ap (λ b. b && is_empty (table_at tables (s - n)).pins) (le-leb n s h)

module _ (D : DraftValue) (ts : List TableValue) (os : List ℕ) (h : IsPacked D ts os) where
  at_kept : (k : ℕ) → k < length ts → StandsIn D.gone D.net.tables k no_table
  at_kept k low = stands_in D.gone D.net.tables k no_table h.count
      (omega (arith, low, ap length h.tables, length-map ts (renamed (place (signals_gone (input_count D.net) D.gone)))))

  pub at_place : (k : ℕ) → k < length ts → table_at D.net.tables (place D.gone k) ≡ renamed (place (signals_gone (input_count D.net) D.gone)) (table_at ts k)
  at_place k low =
      sym (at_kept k low).is ∙ ap (λ l. table_at l k) h.tables
      ∙ get_or-map (renamed (place (signals_gone (input_count D.net) D.gone))) ts k no_table no_table low

  same_constant : (s : ℕ) → s < input_count D.net + length ts
      → is_constant_signal (input_count D.net) D.net.tables (place (signals_gone (input_count D.net) D.gone) s) ≡ is_constant_signal (input_count D.net) ts s
  same_constant s below =
      elim (cases_lt s (input_count D.net)) [
        | inl low ↦
            input_signal (input_count D.net) (place (signals_gone (input_count D.net) D.gone) s) D.net.tables (omega (arith, low, place_input (input_count D.net) D.gone s low))
            ∙ sym (input_signal (input_count D.net) s ts low)
        | inr high ↦
            let of : input_count D.net + (s - input_count D.net) ≡ s = omega arith in
            let is : place (signals_gone (input_count D.net) D.gone) s ≡ input_count D.net + place D.gone (s - input_count D.net) =
            ap (place (signals_gone (input_count D.net) D.gone)) (sym of) ∙ place_table (input_count D.net) D.gone (s - input_count D.net) in
            let back : place (signals_gone (input_count D.net) D.gone) s - input_count D.net ≡ place D.gone (s - input_count D.net) = omega (arith, is) in
            table_signal (input_count D.net) (place (signals_gone (input_count D.net) D.gone) s) D.net.tables (omega (arith, is))
            ∙ ap (λ k. is_empty (table_at D.net.tables k).pins) back
            ∙ ap (λ (t : TableValue). is_empty t.pins) (at_place (s - input_count D.net) (omega (arith, below, of)))
            ∙ empty-map (place (signals_gone (input_count D.net) D.gone)) (table_at ts (s - input_count D.net)).pins
            ∙ sym (table_signal (input_count D.net) s ts high)
      ]

  module _ (sound : IsSound (record { model = D.net.model; inputs = D.net.inputs; tables = ts; outputs = os })) where
    like : (k : ℕ) → k < length ts
        → IsLike (place (signals_gone (input_count D.net) D.gone)) (record { model = D.net.model; inputs = D.net.inputs; tables = ts; outputs = os }) k D.net (place D.gone k)
    like k low = record {
      distinct = place_distinct (signals_gone (input_count D.net) D.gone);
      pins = ap (λ (t : TableValue). t.pins) (at_place k low);
      rows = ap (λ (t : TableValue). t.rows) (at_place k low);
      plane = ap (λ (t : TableValue). t.plane) (at_place k low);
      constants = λ s c.
          same_constant s (All-contains (λ p. p < input_count D.net + length ts) (table_at ts k).pins s
          (All-get_or (λ (v : TableValue). All (λ p. p < input_count D.net + length ts) v.pins) ts k no_table low sound.pins_are_signals) c);
      output =
          ap (has D.net.outputs) (sym (place_table (input_count D.net) D.gone k))
          ∙ ap (λ l. has l (place (signals_gone (input_count D.net) D.gone) (input_count D.net + k))) h.outputs
          ∙ has-map (place (signals_gone (input_count D.net) D.gone)) (place_distinct (signals_gone (input_count D.net) D.gone)) os (input_count D.net + k);
      read =
          ap (is_read D.net.tables) (sym (place_table (input_count D.net) D.gone k))
          ∙ sym (read_kept D.gone D.net.tables (place (signals_gone (input_count D.net) D.gone) (input_count D.net + k)) h.empty)
          ∙ ap (λ l. is_read l (place (signals_gone (input_count D.net) D.gone) (input_count D.net + k))) h.tables
          ∙ read_renamed (place (signals_gone (input_count D.net) D.gone)) (place_distinct (signals_gone (input_count D.net) D.gone)) ts (input_count D.net + k);
    }

    same_rule : (k : ℕ) → k < length ts → rule_at D.net (place D.gone k) ≡ rule_at (record { model = D.net.model; inputs = D.net.inputs; tables = ts; outputs = os }) k
    same_rule k low =
        like-rule (place (signals_gone (input_count D.net) D.gone)) (record { model = D.net.model; inputs = D.net.inputs; tables = ts; outputs = os }) k D.net (place D.gone k) (like k low)

    pub rest_tidy : IsAtRest D → IsTidy (record { model = D.net.model; inputs = D.net.inputs; tables = ts; outputs = os })
    rest_tidy rest =
        tidy_by_rules (record { model = D.net.model; inputs = D.net.inputs; tables = ts; outputs = os })
        (λ k low. sym (same_rule k low) ∙ rest (place D.gone k) (at_kept k low).within (at_kept k low).stays)

    pub first_packed : (i : ℕ) (rule : Rule) → IsFirstRuleIn D i rule → IsFirstRule (record { model = D.net.model; inputs = D.net.inputs; tables = ts; outputs = os }) (rank D.gone i) rule
    first_packed i rule first =
        let room : i < length D.gone = (let low = first.within in omega (arith, low, h.count)) in
        let back : place D.gone (rank D.gone i) ≡ i = place_rank D.gone i room first.stays in
        let inside : rank D.gone i < length ts =
        omega (arith, rank_within D.gone D.net.tables i h.count first.within first.stays, ap length h.tables, length-map ts (renamed (place (signals_gone (input_count D.net) D.gone)))) in
        record {
          within = inside;
          is = sym (same_rule (rank D.gone i) inside) ∙ ap (rule_at D.net) back ∙ first.is;
          first = λ j low.
              let small : j < length ts = omega (arith, low, inside) in
              sym (same_rule j small)
              ∙ first.first (place D.gone j) (let less = place_less D.gone j (rank D.gone i) low in omega (arith, less, back)) (at_kept j small).stays;
        }

-- ---- steps

pub none_of_pins : (pins : List ℕ) → is_empty pins ≡ true → pins ≡ []
none_of_pins [] e = refl
none_of_pins (p ∷ pins) e = absurd (false≢true e)

-- one table that stays is replaced
module _ (D : DraftValue) (ts : List TableValue) (os : List ℕ) (h : IsPacked D ts os) (i : ℕ) (within : i < table_count D.net) (stays : Stays D.gone i) where
  room : i < length D.gone
  room = let low = within in omega (arith, low, h.count)

  pub at_stays : table_at D.net.tables i ≡ renamed (place (signals_gone (input_count D.net) D.gone)) (table_at ts (rank D.gone i))
  at_stays =
      let back : place D.gone (rank D.gone i) ≡ i = place_rank D.gone i room stays in
      let inside : rank D.gone i < length ts =
      omega (arith, rank_within D.gone D.net.tables i h.count within stays, ap length h.tables, length-map ts (renamed (place (signals_gone (input_count D.net) D.gone)))) in
      ap (table_at D.net.tables) (sym back) ∙ at_place D ts os h (rank D.gone i) inside

  pub packed_set : (new u : TableValue) → new ≡ renamed (place (signals_gone (input_count D.net) D.gone)) u
      → IsPacked (record D { net = with_table D.net i new }) (set ts (rank D.gone i) u) os
  packed_set new u is = record {
    count = h.count ∙ sym (length-set D.net.tables i new);
    tables = kept_set D.gone D.net.tables i new room stays
        ∙ ap (λ l. set l (rank D.gone i) new) h.tables
        ∙ ap (set (map (renamed (place (signals_gone (input_count D.net) D.gone))) ts) (rank D.gone i)) is
        ∙ sym (map-set (renamed (place (signals_gone (input_count D.net) D.gone))) ts (rank D.gone i) u);
    outputs = h.outputs;
    empty = record {
      none = λ j e. elim (cases_eq j i) [
        | inl same ↦ absurd (false≢true (sym (ap (λ k. get_or D.gone k true) same ∙ stays) ∙ e))
        | inr other ↦ ap (λ (t : TableValue). t.pins) (get_or-set_other D.net.tables i j new no_table other) ∙ h.empty.none j e
      ];
    };
  }

past_pins : (a b : ℕ) (inverted : Bool) (t : TableValue) → t.pins ≡ [] → (reading_past a b inverted t).pins ≡ []
past_pins a b inverted t e = ap (map (redirect a b)) e

past_empty : (a b : ℕ) (inverted : Bool) (ts : List TableValue) (j : ℕ) → (table_at ts j).pins ≡ [] → (table_at (map (reading_past a b inverted) ts) j).pins ≡ []
past_empty a b inverted ts j e =
    elim (cases_lt j (length ts)) [
      | inl low ↦ ap (λ (t : TableValue). t.pins) (get_or-map (reading_past a b inverted) ts j no_table no_table low) ∙ past_pins a b inverted (table_at ts j) e
      | inr high ↦ ap (λ (t : TableValue). t.pins) (get_or_past (map (reading_past a b inverted) ts) j no_table (omega (arith, high, length-map ts (reading_past a b inverted))))
    ]

pub packed_past : (D : DraftValue) (ts : List TableValue) (os : List ℕ) (a b : ℕ) (inverted : Bool) → IsPacked D ts os
    → IsPacked (record D {
      net = record D.net {
        tables = map (reading_past (place (signals_gone (input_count D.net) D.gone) a) (place (signals_gone (input_count D.net) D.gone) b) inverted) D.net.tables;
      };
    }) (map (reading_past a b inverted) ts) os
packed_past D ts os a b inverted h =
    let F : List Bool = signals_gone (input_count D.net) D.gone in
    record {
      count = h.count ∙ sym (length-map D.net.tables (reading_past (place (signals_gone (input_count D.net) D.gone) a) (place (signals_gone (input_count D.net) D.gone) b) inverted));
      tables = kept_map (reading_past (place (signals_gone (input_count D.net) D.gone) a) (place (signals_gone (input_count D.net) D.gone) b) inverted) D.gone D.net.tables
          ∙ ap (map (reading_past (place (signals_gone (input_count D.net) D.gone) a) (place (signals_gone (input_count D.net) D.gone) b) inverted)) h.tables
          ∙ all_past_renamed (place (signals_gone (input_count D.net) D.gone)) (place_distinct (signals_gone (input_count D.net) D.gone)) a b inverted ts;
      outputs = h.outputs;
      empty = record { none = λ j e. past_empty (place (signals_gone (input_count D.net) D.gone) a) (place (signals_gone (input_count D.net) D.gone) b) inverted D.net.tables j (h.empty.none j e) };
    }

emptied_pins : (t : TableValue) (b : Bool) → is_empty t.pins ≡ b → (emptied t).pins ≡ []
emptied_pins t true e = ap (λ b. (cond b t (constant_table t.name false)).pins) e ∙ none_of_pins t.pins e
emptied_pins t false e = ap (λ b. (cond b t (constant_table t.name false)).pins) e

-- a table that no other reads goes
pub packed_removed : (D : DraftValue) (ts : List TableValue) (os : List ℕ) (i : ℕ) → IsPacked D ts os → i < table_count D.net → Stays D.gone i
    → is_read ts (input_count D.net + rank D.gone i) ≡ false → has os (input_count D.net + rank D.gone i) ≡ false
    → IsPacked (drafted D i Removal) (without (input_count D.net) ts (rank D.gone i)) (map (lowered (input_count D.net + rank D.gone i)) os)
packed_removed D ts os i h within stays unread no_output =
    let n : ℕ = input_count D.net in
    let low : i < length D.gone = (let w = within in omega (arith, w, h.count)) in
    let G : ℕ = input_count D.net + rank D.gone i in
    let F : List Bool = signals_gone (input_count D.net) D.gone in
    let E : List Bool = signals_gone (input_count D.net) (set D.gone i true) in
    let up : (k : ℕ) → place (signals_gone (input_count D.net) (set D.gone i true)) k ≡ place (signals_gone (input_count D.net) D.gone) (raised (input_count D.net + rank D.gone i) k) =
    λ k.
    ap (λ l. place l k) (signals_gone_set (input_count D.net) D.gone i)
    ∙ place_gone (signals_gone (input_count D.net) D.gone) (input_count D.net + i) k (omega (arith, low, length_signals (input_count D.net) D.gone)) (stays_table (input_count D.net) D.gone i stays)
    ∙ ap (λ r. place (signals_gone (input_count D.net) D.gone) (raised r k)) (rank_table (input_count D.net) D.gone i) in
    let there : (s : ℕ) → (s ≡ input_count D.net + rank D.gone i → ⊥)
    → place (signals_gone (input_count D.net) (set D.gone i true)) (lowered (input_count D.net + rank D.gone i) s) ≡ place (signals_gone (input_count D.net) D.gone) s =
    λ s ne.
    up (lowered (input_count D.net + rank D.gone i) s)
    ∙ ap (place (signals_gone (input_count D.net) D.gone)) (raised-lowered (input_count D.net + rank D.gone i) s ne) in
    record {
      count = length-set D.gone i true ∙ h.count ∙ sym (length-set D.net.tables i (emptied (table_at D.net.tables i)));
      tables = kept_gone D.gone (set D.net.tables i (emptied (table_at D.net.tables i))) i
          (h.count ∙ sym (length-set D.net.tables i (emptied (table_at D.net.tables i)))) low stays
          ∙ ap (λ l. remove l (rank D.gone i)) (kept_set D.gone D.net.tables i (emptied (table_at D.net.tables i)) low stays)
          ∙ remove-set (kept D.gone D.net.tables) (rank D.gone i) (emptied (table_at D.net.tables i))
          ∙ ap (λ l. remove l (rank D.gone i)) h.tables
          ∙ sym (map-remove (renamed (place (signals_gone (input_count D.net) D.gone))) ts (rank D.gone i))
          ∙ sym (unread_tables (input_count D.net + rank D.gone i) (place (signals_gone (input_count D.net) D.gone)) (place (signals_gone (input_count D.net) (set D.gone i true))) there
          (remove ts (rank D.gone i)) (unread_removed (input_count D.net + rank D.gone i) ts (rank D.gone i) unread));
      outputs = h.outputs
          ∙ sym (unread_pins (input_count D.net + rank D.gone i) (place (signals_gone (input_count D.net) D.gone)) (place (signals_gone (input_count D.net) (set D.gone i true))) there os no_output);
      empty = record {
        none = λ j e. elim (cases_eq j i) [
          | inl same ↦
              ap (λ k. (table_at (set D.net.tables i (emptied (table_at D.net.tables i))) k).pins) same
              ∙ ap (λ (t : TableValue). t.pins) (get_or-set_same D.net.tables i (emptied (table_at D.net.tables i)) no_table within)
              ∙ emptied_pins (table_at D.net.tables i) (is_empty (table_at D.net.tables i).pins) refl
          | inr other ↦
              ap (λ (t : TableValue). t.pins) (get_or-set_other D.net.tables i j (emptied (table_at D.net.tables i)) no_table other)
              ∙ h.empty.none j (sym (get_or-set_other D.gone i j true true other) ∙ e)
        ];
      };
    }
