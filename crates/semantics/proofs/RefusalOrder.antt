-- Which refusal of parts is told.
use Rattle.std.proofs.Common.{◌≡◌, ◌≢◌, ◌↔◌, ℕ, zero, suc, ◌+◌, ◌<◌, ◌⊎◌, inl, inr, Bool, true, false, cond, not, ltb, leb, eqb, List, [], ◌∷◌, length, find, AllPairs, Option, Some, None}
use Rattle.std.proofs.Common.{Decides, refl, ap, sym, subst, ◌∙◌, arith}
use Rattle.std.specs.List.{list_all}
use Rattle.std.proofs.lemmas.Bool.{cases_eq, not-false, eqb-true, eqb-false, eq-eqb, ne_eqb, ltb-true, ltb-false, lt-ltb, le-leb, leb-true, false_from_ne_true}
use Rattle.std.proofs.lemmas.Bool.Decides.{not_from_Decides}
use Rattle.std.proofs.lemmas.List.Elements.{All-weaker, recursion_from_All, All-from_recursion}
use Rattle.std.proofs.lemmas.Option.{none-some, same_Some}
use Rattle.semantics.specs.declared.which.Which.{Which}
use Rattle.semantics.specs.declared.which.Which.TheVariants.{Inputs, Outputs, Tables, Pins, AllPins, Rows}
use Rattle.semantics.specs.declared.limits.TheConstants.{MOST_INPUTS, MOST_OUTPUTS, MOST_TABLES, MOST_TABLE_PINS, MOST_PINS, MOST_ROWS}
use Rattle.semantics.specs.Net.{NetValue, input_count, signal_count, signal_names, pin_count, row_count}
use Rattle.semantics.specs.Refusals.{NetRefused, doubled, no_output, undriven, cycle, limit, first_doubled, signals_read, first_undriven, first_ungrounded, first_limit, or_else, net_refusal}
use Rattle.semantics.specs.RefusalOrder.{IsKept, limit_place, IsFirstPassed, IsFirstUndriven, IsDriven, IsTold}
use Rattle.semantics.proofs.FirstFound.{first_doubled-first, first_found, found_first}
use Rattle.semantics.proofs.Refused.{Decides-narrow, undoubled, differ-undoubled, driven, signals-driven, grounded, acyclic-grounded, ungrounded, first-ungrounded}

-- ---- answers

told_if : {X : Type 0} (told : Bool) (x : X) (rest : Option X) (r : X) → cond told (Some x) rest ≡ Some r
    → ((told ≡ true) × (x ≡ r)) ⊎ ((told ≡ false) × (rest ≡ Some r))
told_if true x rest r e = inl (refl, same_Some x r e)
told_if false x rest r e = inr (refl, e)

told_or_else : {X R : Type 0} (o : Option X) (refuse : X → R) (rest : Option R) (r : R) → or_else o refuse rest ≡ Some r
    → ((x : X) × (o ≡ Some x) × (refuse x ≡ r)) ⊎ ((o ≡ None) × (rest ≡ Some r))
told_or_else None refuse rest r e = inr (refl, e)
told_or_else (Some x) refuse rest r e = inl (x, refl, same_Some (refuse x) r e)

not-true : (b : Bool) → not b ≡ true → b ≡ false
not-true true e = sym e
not-true false e = refl

-- ---- limits

abbrev is_kept : NetValue → Which → Bool
is_kept N Inputs = leb (length N.inputs) MOST_INPUTS
is_kept N Outputs = leb (length N.outputs) MOST_OUTPUTS
is_kept N Tables = leb (length N.tables) MOST_TABLES
is_kept N Pins = list_all (λ t. leb (length t.pins) MOST_TABLE_PINS) N.tables
is_kept N AllPins = leb (pin_count N) MOST_PINS
is_kept N Rows = leb (row_count N) MOST_ROWS

Decides-kept : (N : NetValue) (w : Which) → Decides (is_kept N w) (IsKept N w)
Decides-kept N Inputs = (leb-true (length N.inputs) MOST_INPUTS, le-leb (length N.inputs) MOST_INPUTS)
Decides-kept N Outputs = (leb-true (length N.outputs) MOST_OUTPUTS, le-leb (length N.outputs) MOST_OUTPUTS)
Decides-kept N Tables = (leb-true (length N.tables) MOST_TABLES, le-leb (length N.tables) MOST_TABLES)
Decides-kept N Pins = Decides-narrow N.tables
Decides-kept N AllPins = (leb-true (pin_count N) MOST_PINS, le-leb (pin_count N) MOST_PINS)
Decides-kept N Rows = (leb-true (row_count N) MOST_ROWS, le-leb (row_count N) MOST_ROWS)

abbrev limit_at : ℕ → Which
limit_at zero = Inputs
limit_at (suc zero) = Outputs
limit_at (suc (suc zero)) = Tables
limit_at (suc (suc (suc zero))) = Pins
limit_at (suc (suc (suc (suc zero)))) = AllPins
limit_at (suc (suc (suc (suc (suc n))))) = Rows

limit_at-place : (w : Which) → limit_at (limit_place w) ≡ w
limit_at-place Inputs = refl
limit_at-place Outputs = refl
limit_at-place Tables = refl
limit_at-place Pins = refl
limit_at-place AllPins = refl
limit_at-place Rows = refl

same_limit : (v w : Which) → limit_place v ≡ limit_place w → v ≡ w
same_limit v w same = sym (limit_at-place v) ∙ ap limit_at same ∙ limit_at-place w

AreKeptBefore : NetValue → ℕ → Type 0
AreKeptBefore N n = (v : Which) → limit_place v < n → IsKept N v

kept_more : (N : NetValue) (w : Which) → AreKeptBefore N (limit_place w) → IsKept N w → AreKeptBefore N (suc (limit_place w))
unfolding AreKeptBefore
kept_more N w before here v low =
    elim (cases_eq (limit_place v) (limit_place w)) [
      | inl same ↦ subst (IsKept N) (sym (same_limit v w same)) here
      | inr other ↦ before v (omega (arith, low, other))
    ]

-- one limit, and then the rest
limit_step : (N : NetValue) (w r : Which) (rest : Option Which) → AreKeptBefore N (limit_place w) → cond (not (is_kept N w)) (Some w) rest ≡ Some r
    → IsFirstPassed N r ⊎ (AreKeptBefore N (suc (limit_place w)) × (rest ≡ Some r))
unfolding AreKeptBefore
limit_step N w r rest before e =
    elim (told_if (not (is_kept N w)) w rest r e) [
      | inl h ↦ inl (subst (IsFirstPassed N) h.1 (record { over = not_from_Decides (is_kept N w) (Decides-kept N w) (not-true (is_kept N w) h.0); before = before }))
      | inr h ↦ inr (kept_more N w before ((Decides-kept N w).0 (not-false (is_kept N w) h.0)), h.1)
    ]

pub first_passed : (N : NetValue) (r : Which) → first_limit N ≡ Some r → IsFirstPassed N r
unfolding AreKeptBefore
first_passed N r e =
    elim (limit_step N Inputs r _ (λ v low. absurd (omega (arith, low))) e) [
      | inl h ↦ h
      | inr a ↦ elim (limit_step N Outputs r _ a.0 a.1) [
        | inl h ↦ h
        | inr b ↦ elim (limit_step N Tables r _ b.0 b.1) [
          | inl h ↦ h
          | inr c ↦ elim (limit_step N Pins r _ c.0 c.1) [
            | inl h ↦ h
            | inr d ↦ elim (limit_step N AllPins r _ d.0 d.1) [
              | inl h ↦ h
              | inr l ↦ elim (limit_step N Rows r None l.0 l.1) [
                | inl h ↦ h
                | inr z ↦ absurd (none-some r z.1)
              ]
            ]
          ]
        ]
      ]
    ]

-- one limit that is kept, and then the rest; one that is passed
limit_then : (N : NetValue) (w : Which) (rest goal : Option Which) → IsKept N w → rest ≡ goal → cond (not (is_kept N w)) (Some w) rest ≡ goal
limit_then N w rest goal kept e = ap (λ t. cond (not t) (Some w) rest) ((Decides-kept N w).1 kept) ∙ e

limit_is : (N : NetValue) (w : Which) (rest : Option Which) → (¬ IsKept N w) → cond (not (is_kept N w)) (Some w) rest ≡ Some w
limit_is N w rest over = ap (λ t. cond (not t) (Some w) rest) (false_from_ne_true (is_kept N w) (λ t. over ((Decides-kept N w).0 t)))

pub passed_first : (N : NetValue) (w : Which) → IsFirstPassed N w → first_limit N ≡ Some w
passed_first N Inputs h = limit_is N Inputs _ h.over
passed_first N Outputs h = limit_then N Inputs _ _ (h.before Inputs (omega arith)) (limit_is N Outputs _ h.over)
passed_first N Tables h =
    limit_then N Inputs _ _ (h.before Inputs (omega arith))
    (limit_then N Outputs _ _ (h.before Outputs (omega arith))
    (limit_is N Tables _ h.over))
passed_first N Pins h =
    limit_then N Inputs _ _ (h.before Inputs (omega arith))
    (limit_then N Outputs _ _ (h.before Outputs (omega arith))
    (limit_then N Tables _ _ (h.before Tables (omega arith))
    (limit_is N Pins _ h.over)))
passed_first N AllPins h =
    limit_then N Inputs _ _ (h.before Inputs (omega arith))
    (limit_then N Outputs _ _ (h.before Outputs (omega arith))
    (limit_then N Tables _ _ (h.before Tables (omega arith))
    (limit_then N Pins _ _ (h.before Pins (omega arith))
    (limit_is N AllPins _ h.over))))
passed_first N Rows h =
    limit_then N Inputs _ _ (h.before Inputs (omega arith))
    (limit_then N Outputs _ _ (h.before Outputs (omega arith))
    (limit_then N Tables _ _ (h.before Tables (omega arith))
    (limit_then N Pins _ _ (h.before Pins (omega arith))
    (limit_then N AllPins _ _ (h.before AllPins (omega arith))
    (limit_is N Rows _ h.over)))))

-- ---- what is read and is no signal

abbrev is_no_signal : NetValue → ℕ → Bool
is_no_signal N s = not (ltb s (signal_count N))

signal_before : (N : NetValue) (s : ℕ) → is_no_signal N s ≡ false → s < signal_count N
signal_before N s e = ltb-true s (signal_count N) (not-false (ltb s (signal_count N)) e)

no_signal_there : (N : NetValue) (s : ℕ) → s < signal_count N → is_no_signal N s ≡ false
no_signal_there N s low = ap not (lt-ltb s (signal_count N) low)

pub first-undriven : (N : NetValue) (s : ℕ) → (first_undriven N ≡ Some s) ↔ IsFirstUndriven N s
first-undriven N s = (
  λ e.
      let found = first_found (is_no_signal N) (signals_read N) s e in
      record {
        before = found.before;
        after = found.after;
        split = found.split;
        driven = All-weaker (λ r. is_no_signal N r ≡ false) (λ r. r < signal_count N) (signal_before N) found.before (All-from_recursion (λ r. is_no_signal N r ≡ false) found.before found.fail);
        no_signal = λ low. let past = ltb-false s (signal_count N) (not-true (ltb s (signal_count N)) found.passes) in omega (arith, past, low);
      },
  λ h. ap (find (is_no_signal N)) h.split
      ∙ found_first (is_no_signal N) h.before s h.after
      (recursion_from_All (λ r. is_no_signal N r ≡ false) h.before (All-weaker (λ r. r < signal_count N) (λ r. is_no_signal N r ≡ false) (no_signal_there N) h.before h.driven))
      (ap not (false_from_ne_true (ltb s (signal_count N)) (λ t. h.no_signal (ltb-true s (signal_count N) t)))),
)

-- ---- the whole

no_elements : {X : Type 0} (xs : List X) → length xs ≡ 0 → xs ≡ []
no_elements [] e = refl
no_elements (x ∷ xs) e = absurd (omega (arith, e))

pub refusal_told : (N : NetValue) (r : NetRefused) → net_refusal N ≡ Some r → IsTold N r
unfolding net_refusal
refusal_told N r e =
    elim (told_or_else (first_doubled (signal_names N)) doubled _ r e) [
      | inl h ↦ subst (IsTold N) h.2 ((first_doubled-first (signal_names N) h.0).0 h.1)
      | inr a ↦
          let names : AllPairs ◌≢◌ (signal_names N) = undoubled (signal_names N) a.0 in
          elim (told_if (eqb (length N.outputs) 0) no_output _ r a.1) [
            | inl h ↦ subst (IsTold N) h.1 (names, no_elements N.outputs (eqb-true (length N.outputs) 0 h.0))
            | inr b ↦
                let outputs : 0 < length N.outputs = (let some : length N.outputs ≢ 0 = eqb-false (length N.outputs) 0 b.0 in omega arith) in
                elim (told_or_else (first_undriven N) undriven _ r b.1) [
                  | inl h ↦ subst (IsTold N) h.2 (names, outputs, (first-undriven N h.0).0 h.1)
                  | inr c ↦
                      let all = driven N c.0 in
                      let signals : IsDriven N = record { pins = all.0; outputs = all.1 } in
                      elim (told_or_else (first_ungrounded (input_count N) N.tables) (λ i. cycle (input_count N + i)) _ r c.1) [
                        | inl h ↦ subst (IsTold N) h.2 (names, outputs, signals, (h.0, refl, ungrounded (input_count N) N.tables h.0 h.1))
                        | inr d ↦ elim (told_or_else (first_limit N) limit None r d.1) [
                          | inl h ↦ subst (IsTold N) h.2 (names, outputs, signals, grounded (input_count N) N.tables d.0, first_passed N h.0 h.1)
                          | inr z ↦ absurd (none-some r z.1)
                        ]
                      ]
                ]
          ]
    ]

-- ---- and from what holds to what is told

or_else_is : {X R : Type 0} (o : Option X) (refuse : X → R) (rest : Option R) (x : X) → o ≡ Some x → or_else o refuse rest ≡ Some (refuse x)
or_else_is o refuse rest x e = ap (λ o. or_else o refuse rest) e

or_else_then : {X R : Type 0} (o : Option X) (refuse : X → R) (rest goal : Option R) → o ≡ None → rest ≡ goal → or_else o refuse rest ≡ goal
or_else_then o refuse rest goal none e = ap (λ o. or_else o refuse rest) none ∙ e

if_is : {X : Type 0} (told : Bool) (x : X) (rest : Option X) → told ≡ true → cond told (Some x) rest ≡ Some x
if_is told x rest on = ap (λ t. cond t (Some x) rest) on

if_then : {X : Type 0} (told : Bool) (x : X) (rest goal : Option X) → told ≡ false → rest ≡ goal → cond told (Some x) rest ≡ goal
if_then told x rest goal off e = ap (λ t. cond t (Some x) rest) off ∙ e

some_output : (N : NetValue) → 0 < length N.outputs → eqb (length N.outputs) 0 ≡ false
some_output N some = ne_eqb (length N.outputs) 0 (λ e. omega (arith, e, some))

pub told_refusal : (N : NetValue) (r : NetRefused) → IsTold N r → net_refusal N ≡ Some r
unfolding net_refusal
told_refusal N (doubled name) h = or_else_is _ doubled _ name ((first_doubled-first (signal_names N) name).1 h)
told_refusal N no_output h =
    or_else_then _ doubled _ _ (differ-undoubled (signal_names N) h.0)
    (if_is _ no_output _ (eq-eqb (length N.outputs) 0 (ap length h.1)))
told_refusal N (undriven s) h =
    or_else_then _ doubled _ _ (differ-undoubled (signal_names N) h.0)
    (if_then _ no_output _ _ (some_output N h.1)
    (or_else_is _ undriven _ s ((first-undriven N s).1 h.2)))
told_refusal N (cycle s) h =
    or_else_then _ doubled _ _ (differ-undoubled (signal_names N) h.0)
    (if_then _ no_output _ _ (some_output N h.1)
    (or_else_then _ undriven _ _ (signals-driven N (h.2.pins, h.2.outputs))
    (or_else_is _ (λ i. cycle (input_count N + i)) _ h.3.0 (first-ungrounded (input_count N) N.tables h.3.0 h.3.2) ∙ ap (λ t. Some (cycle t)) (sym h.3.1))))
told_refusal N (limit w) h =
    or_else_then _ doubled _ _ (differ-undoubled (signal_names N) h.0)
    (if_then _ no_output _ _ (some_output N h.1)
    (or_else_then _ undriven _ _ (signals-driven N (h.2.pins, h.2.outputs))
    (or_else_then _ (λ i. cycle (input_count N + i)) _ _ (acyclic-grounded (input_count N) N.tables h.3)
    (or_else_is _ limit None w (passed_first N w h.4)))))
