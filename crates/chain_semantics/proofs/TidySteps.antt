-- Each step is one of the six rules at some table.
use Rattle.std.proofs.Common.{◌≡◌, ℕ, zero, suc, ◌+◌, ◌-◌, ◌<◌, ◌≤◌, Bool, true, false, cond, not, Option, Some, None, List, [], ◌∷◌, length, take, refl, ap, sym, subst, ◌∙◌, inl, inr, arith}
use Rattle.std.specs.Prelude.{◌&&◌, ◌⊎◌, nat_le}
use Rattle.std.specs.List.{list_all, AllByRecursion}
use Rattle.std.specs.Option.{option_map}
use Rattle.std.proofs.lemmas.Bool.{leb-true, and_parts, false≢true}
use Rattle.std.proofs.lemmas.List.Elements.{All-get_or, Contains-get_or}
use Rattle.semantics.specs.Net.{TableValue, NetValue, no_table, table_at, input_count, table_count, IsTable, IsSound}
use Rattle.semantics.specs.Value.{Assignment, value_of}
use Rattle.semantics.proofs.Values.{table_value-same, value_law}
use Rattle.semantics.proofs.Depends.{pin_is_signal}
use Rattle.chain_semantics.specs.TidyRules.{is_empty, has, first_from, pin_at, mark_at, is_dash, is_constant_signal, constant_pin, constant_value, with_pin_fixed, dashed_pin, without_pin}
use Rattle.chain_semantics.specs.TidyRules.{repeated_pin, first_place_of, with_pins_joined, is_constant, made_canonical, is_bypassed, with_bypass, is_unread, without_table}
use Rattle.semantics.specs.Replaced.{with_table}
use Rattle.chain_semantics.specs.Tidy.{some_if, first_some, by_constant_pin, by_dashed_pin, by_repeated_pin, by_constant, by_bypass, by_removal, step_at, step_from, tidy_step}
use Rattle.chain_semantics.proofs.TidyRows.{first_place}
use Rattle.chain_semantics.proofs.TidyTables.{fixed-value, fixed-narrower, dashed-value, dashed-narrower, joined-value, joined-narrower, canonical-value, canonical-narrower}
use Rattle.chain_semantics.proofs.TidyGood.{IsGoodStep}
use Rattle.chain_semantics.proofs.TidyReplacing.{replaced-good}
use Rattle.chain_semantics.proofs.TidyBypass.{bypass-good}
use Rattle.chain_semantics.proofs.TidyUnread.{without-good}

pub first_some-cases : {X : Type 0} (o : Option X) (rest : List (Option X)) (x : X) → first_some (o ∷ rest) ≡ Some x → (o ≡ Some x) ⊎ (first_some rest ≡ Some x)
first_some-cases None rest x e = inr e
first_some-cases (Some y) rest x e = inl e

first_some-one : {X : Type 0} (o : Option X) (x : X) → first_some (o ∷ []) ≡ Some x → o ≡ Some x
first_some-one None x e = cc
first_some-one (Some y) x e = e

-- what an option was made of
pub record IsMadeOf {X Y : Type 0} (f : X → Y) (o : Option X) (y : Y) : Type 0 where
  pub of : X
  pub is : o ≡ Some of
  pub gives : f of ≡ y

none_is_not_some : {Y : Type 0} {y : Y} → None ≡ Some y → ⊥
none_is_not_some e = cc

made-of : {X Y : Type 0} (f : X → Y) (o : Option X) (y : Y) → option_map f o ≡ Some y → IsMadeOf f o y
made-of f None y e = absurd (none_is_not_some e)
made-of f (Some x) y e = record { of = x; is = refl; gives = cc }

some_if-parts : {X : Type 0} (b : Bool) (x y : X) → some_if b x ≡ Some y → (b ≡ true) × (x ≡ y)
some_if-parts true x y e = (refl, cc)
some_if-parts false x y e = cc

first_from_at : (test : ℕ → Bool) (start count q : ℕ) → (first_from test (start + 1) count ≡ Some q → (q < start + 1 + count) × (test q ≡ true)) → (b : Bool) → test start ≡ b
    → cond b (Some start) (first_from test (start + 1) count) ≡ Some q → (q < start + suc count) × (test q ≡ true)
first_from_at test start count q rest true e found = let same : start ≡ q = cc in (omega arith, ap test (sym same) ∙ e)
first_from_at test start count q rest false e found = let later = rest found in (omega (arith, later.0), later.1)

pub first_from-found : (test : ℕ → Bool) (start count q : ℕ) → first_from test start count ≡ Some q → (q < start + count) × (test q ≡ true)
first_from-found test start zero q e = cc
first_from-found test start (suc count) q e = first_from_at test start count q (first_from-found test (start + 1) count q) (test start) refl e

empty_pins : (P : ℕ → Type 0) (pins : List ℕ) → is_empty pins ≡ true → AllByRecursion P pins
empty_pins P [] e = tt
empty_pins P (s ∷ pins) e = absurd (false≢true e)

module _ (N : NetValue) (i : ℕ) (sound : IsSound N) (within : i < table_count N) where
  formed : IsTable (table_at N.tables i)
  formed = All-get_or IsTable N.tables i no_table within sound.tables_formed

  constant_signal : (s : ℕ) → s < input_count N + table_count N → is_constant_signal (input_count N) N.tables s ≡ true → (x : List Bool)
      → value_of (input_count N) N.tables x s ≡ constant_value (input_count N) N.tables s
  constant_signal s below e x =
      let both = and_parts (nat_le (input_count N) s) (is_empty (table_at N.tables (s - input_count N)).pins) e in
      let past : input_count N ≤ s = leb-true (input_count N) s both.0 in
      let place : s ≡ input_count N + (s - input_count N) = omega arith in
      let v : Assignment = value_of (input_count N) N.tables x in
      ap v place
      ∙ (value_law (input_count N) N.tables x sound.acyclic).consistent.table (s - input_count N) (omega arith)
      ∙ table_value-same (table_at N.tables (s - input_count N)) v (λ p. false) (empty_pins (λ p. v p ≡ false) (table_at N.tables (s - input_count N)).pins both.1)

  constant_pin_good : (new : TableValue) → by_constant_pin (input_count N) N.tables (table_at N.tables i) ≡ Some new → IsGoodStep N (with_table N i new)
  constant_pin_good new e =
      let t : TableValue = table_at N.tables i in
      let made : IsMadeOf (λ q. with_pin_fixed q (constant_value (input_count N) N.tables (pin_at (table_at N.tables i) q)) (table_at N.tables i))
      (constant_pin (input_count N) N.tables (table_at N.tables i)) new =
      made-of (λ q. with_pin_fixed q (constant_value (input_count N) N.tables (pin_at (table_at N.tables i) q)) (table_at N.tables i)) (constant_pin (input_count N) N.tables (table_at N.tables i))
      new e in
      let q : ℕ = made.of in
      let found = first_from-found (λ p. is_constant_signal (input_count N) N.tables (pin_at (table_at N.tables i) p)) 0 (length t.pins) made.of made.is in
      let inside : made.of < length (table_at N.tables i).pins = omega (arith, found.0) in
      let signal : pin_at (table_at N.tables i) made.of < input_count N + table_count N =
      pin_is_signal (input_count N) N.tables i (pin_at (table_at N.tables i) made.of) sound.acyclic within (Contains-get_or (table_at N.tables i).pins made.of 0 inside) in
      subst (λ u. IsGoodStep N (with_table N i u)) made.gives
      (replaced-good N i (with_pin_fixed made.of (constant_value (input_count N) N.tables (pin_at (table_at N.tables i) made.of)) (table_at N.tables i)) sound within
      (fixed-narrower (table_at N.tables i) made.of (constant_value (input_count N) N.tables (pin_at (table_at N.tables i) made.of)) formed inside)
      (λ x. fixed-value (table_at N.tables i) made.of (constant_value (input_count N) N.tables (pin_at (table_at N.tables i) made.of)) (value_of (input_count N) N.tables x) inside
      (constant_signal (pin_at (table_at N.tables i) made.of) signal found.1 x)))

  dashed_pin_good : (new : TableValue) → by_dashed_pin (table_at N.tables i) ≡ Some new → IsGoodStep N (with_table N i new)
  dashed_pin_good new e =
      let made : IsMadeOf (λ q. without_pin q (table_at N.tables i)) (dashed_pin (table_at N.tables i)) new
      = made-of (λ q. without_pin q (table_at N.tables i)) (dashed_pin (table_at N.tables i)) new e in
      let found = first_from-found (λ q. not (is_empty (table_at N.tables i).rows) && list_all (λ marks. is_dash (mark_at marks q)) (table_at N.tables i).rows) 0 (length (table_at N.tables i).pins)
      made.of made.is in
      let inside : made.of < length (table_at N.tables i).pins = omega (arith, found.0) in
      let dashes = (and_parts (not (is_empty (table_at N.tables i).rows)) (list_all (λ marks. is_dash (mark_at marks made.of)) (table_at N.tables i).rows) found.1).1 in
      subst (λ u. IsGoodStep N (with_table N i u)) made.gives
      (replaced-good N i (without_pin made.of (table_at N.tables i)) sound within (dashed-narrower (table_at N.tables i) made.of formed inside)
      (λ x. dashed-value (table_at N.tables i) made.of (value_of (input_count N) N.tables x) inside dashes))

  repeated_pin_good : (new : TableValue) → by_repeated_pin (table_at N.tables i) ≡ Some new → IsGoodStep N (with_table N i new)
  repeated_pin_good new e =
      let made : IsMadeOf (λ q. with_pins_joined (first_place_of (table_at N.tables i).pins (pin_at (table_at N.tables i) q)) q (table_at N.tables i)) (repeated_pin (table_at N.tables i)) new =
      made-of (λ q. with_pins_joined (first_place_of (table_at N.tables i).pins (pin_at (table_at N.tables i) q)) q (table_at N.tables i)) (repeated_pin (table_at N.tables i)) new e in
      let found = first_from-found (λ q. has (take q (table_at N.tables i).pins) (pin_at (table_at N.tables i) q)) 0 (length (table_at N.tables i).pins) made.of made.is in
      let inside : made.of < length (table_at N.tables i).pins = omega (arith, found.0) in
      let place = first_place (table_at N.tables i).pins (pin_at (table_at N.tables i) made.of) made.of found.1 in
      subst (λ u. IsGoodStep N (with_table N i u)) made.gives
      (replaced-good N i (with_pins_joined (first_place_of (table_at N.tables i).pins (pin_at (table_at N.tables i) made.of)) made.of (table_at N.tables i)) sound within
      (joined-narrower (table_at N.tables i) (first_place_of (table_at N.tables i).pins (pin_at (table_at N.tables i) made.of)) made.of formed place.0 inside)
      (λ x. joined-value (table_at N.tables i) (first_place_of (table_at N.tables i).pins (pin_at (table_at N.tables i) made.of)) made.of (value_of (input_count N) N.tables x) place.0 inside place.1))

  constant_good : (new : TableValue) → by_constant (table_at N.tables i) ≡ Some new → IsGoodStep N (with_table N i new)
  constant_good new e =
      let parts = some_if-parts (is_constant (table_at N.tables i)) (made_canonical (table_at N.tables i)) new e in
      subst (λ u. IsGoodStep N (with_table N i u)) parts.1
      (replaced-good N i (made_canonical (table_at N.tables i)) sound within (canonical-narrower (table_at N.tables i) formed parts.0)
      (λ x. canonical-value (table_at N.tables i) (value_of (input_count N) N.tables x) formed parts.0))

  bypass_good : (M : NetValue) → by_bypass N i ≡ Some M → IsGoodStep N M
  bypass_good M e = let parts = some_if-parts (is_bypassed N i) (with_bypass N i) M e in subst (IsGoodStep N) parts.1 (bypass-good N i sound within parts.0)

  removal_good : (M : NetValue) → by_removal N i ≡ Some M → IsGoodStep N M
  removal_good M e = let parts = some_if-parts (is_unread N i) (without_table N i) M e in subst (IsGoodStep N) parts.1 (without-good N i sound within parts.0)

  replaced_step : (o : Option TableValue) (M : NetValue) → ((new : TableValue) → o ≡ Some new → IsGoodStep N (with_table N i new)) → option_map (with_table N i) o ≡ Some M → IsGoodStep N M
  replaced_step o M f e =
      let made : IsMadeOf (with_table N i) o M = made-of (with_table N i) o M e in
      subst (IsGoodStep N) made.gives (f made.of made.is)

  at_one : (M : NetValue) (o1 o2 o3 o4 o5 o6 : Option NetValue) → (o1 ≡ Some M → IsGoodStep N M) → (o2 ≡ Some M → IsGoodStep N M) → (o3 ≡ Some M → IsGoodStep N M)
      → (o4 ≡ Some M → IsGoodStep N M) → (o5 ≡ Some M → IsGoodStep N M) → (o6 ≡ Some M → IsGoodStep N M)
      → first_some (o1 ∷ o2 ∷ o3 ∷ o4 ∷ o5 ∷ o6 ∷ []) ≡ Some M → IsGoodStep N M
  at_one M (Some a) o2 o3 o4 o5 o6 f1 f2 f3 f4 f5 f6 e = f1 e
  at_one M None (Some a) o3 o4 o5 o6 f1 f2 f3 f4 f5 f6 e = f2 e
  at_one M None None (Some a) o4 o5 o6 f1 f2 f3 f4 f5 f6 e = f3 e
  at_one M None None None (Some a) o5 o6 f1 f2 f3 f4 f5 f6 e = f4 e
  at_one M None None None None (Some a) o6 f1 f2 f3 f4 f5 f6 e = f5 e
  at_one M None None None None None o6 f1 f2 f3 f4 f5 f6 e = f6 (first_some-one o6 M e)

  good-at : (M : NetValue) → step_at N i ≡ Some M → IsGoodStep N M
  good-at M e =
      at_one M
      (option_map (with_table N i) (by_constant_pin (input_count N) N.tables (table_at N.tables i)))
      (option_map (with_table N i) (by_dashed_pin (table_at N.tables i)))
      (option_map (with_table N i) (by_repeated_pin (table_at N.tables i)))
      (option_map (with_table N i) (by_constant (table_at N.tables i)))
      (by_bypass N i)
      (by_removal N i)
      (replaced_step (by_constant_pin (input_count N) N.tables (table_at N.tables i)) M constant_pin_good)
      (replaced_step (by_dashed_pin (table_at N.tables i)) M dashed_pin_good)
      (replaced_step (by_repeated_pin (table_at N.tables i)) M repeated_pin_good)
      (replaced_step (by_constant (table_at N.tables i)) M constant_good)
      (bypass_good M)
      (removal_good M)
      e

good_from : (N M : NetValue) → IsSound N → (start count : ℕ) → start + count ≤ table_count N → step_from N start count ≡ Some M → IsGoodStep N M
good_from N M sound start zero h e = cc
good_from N M sound start (suc count) h e =
    elim (first_some-cases (step_at N start) (step_from N (start + 1) count ∷ []) M e) [
      | inl here ↦ good-at N start sound (omega arith) M here
      | inr later ↦ good_from N M sound (start + 1) count (omega arith) (first_some-one (step_from N (start + 1) count) M later)
    ]

pub good-step : (N M : NetValue) → IsSound N → tidy_step N ≡ Some M → IsGoodStep N M
unfolding tidy_step
good-step N M sound e = good_from N M sound 0 (table_count N) (omega arith) e
