-- The rule at a table and the step that it makes, and the rule by the parts of a table.
use Rattle.std.proofs.Common.{◌≡◌, ℕ, ◌+◌, ◌<◌, Bool, true, false, not, Option, Some, None, List, [], ◌∷◌, length, take, refl, ap, ◌∙◌, arith, sym}
use Rattle.std.specs.Prelude.{◌&&◌, ◌||◌, ◌==◌}
use Rattle.std.specs.List.{list_any, list_all}
use Rattle.std.specs.Option.{option_map, is_some}
use Rattle.std.proofs.lemmas.List.{map-id}
use Rattle.semantics.specs.declared.mark.Mark.{Mark}
use Rattle.semantics.specs.Net.{NetValue, table_at, input_count, table_count, row_literals}
use Rattle.semantics.specs.Replaced.{with_table}
use Rattle.chain_semantics.specs.TidyRules.{is_empty, has, is_read, is_constant_signal, is_dash, mark_at, pin_at, constant_pin, constant_value, with_pin_fixed, dashed_pin, without_pin, repeated_pin}
use Rattle.chain_semantics.specs.TidyRules.{first_place_of, with_pins_joined, is_canonical_rows, is_constant, made_canonical, is_one_literal, is_bypassed, with_bypass, is_unread, without_table}
use Rattle.chain_semantics.specs.Tidy.{some_if, first_some, step_at, tidy_step, IsTidy}
use Rattle.chain_semantics.proofs.TidySteps.{first_from-found}
use Rattle.chain_semantics.proofs.TidyNets.{none-at, none-anywhere, step-first}
use Rattle.net_tidy.specs.declared.rule.Rule.{Rule}
use Rattle.net_tidy.specs.declared.rule.Rule.TheVariants.{ConstantPin, DashedPin, RepeatedPin}
use Rattle.net_tidy.specs.Rule.{first_rule, rule_at, made_by, rule_by}
use Rattle.net_tidy.specs.Flags.{IsFirstRule}

step_cases : (N : NetValue) (i : ℕ) (a b c : Option ℕ) (d e f : Bool)
    → first_some (
    option_map (with_table N i) (option_map (λ q. with_pin_fixed q (constant_value (input_count N) N.tables (pin_at (table_at N.tables i) q)) (table_at N.tables i)) a)
    ∷ option_map (with_table N i) (option_map (λ q. without_pin q (table_at N.tables i)) b)
    ∷ option_map (with_table N i) (option_map (λ q. with_pins_joined (first_place_of (table_at N.tables i).pins (pin_at (table_at N.tables i) q)) q (table_at N.tables i)) c)
    ∷ option_map (with_table N i) (some_if d (made_canonical (table_at N.tables i)))
    ∷ some_if e (with_bypass N i)
    ∷ some_if f (without_table N i)
    ∷ [])
    ≡ option_map (made_by N i) (first_rule a b c d e f)
step_cases N i (Some q) b c d e f = refl
step_cases N i None (Some q) c d e f = refl
step_cases N i None None (Some q) d e f = refl
step_cases N i None None None true e f = refl
step_cases N i None None None false true f = refl
step_cases N i None None None false false true = refl
step_cases N i None None None false false false = refl

-- the step at a table is what its rule makes
pub step_is : (N : NetValue) (i : ℕ) → step_at N i ≡ option_map (made_by N i) (rule_at N i)
step_is N i = step_cases N i (constant_pin (input_count N) N.tables (table_at N.tables i)) (dashed_pin (table_at N.tables i)) (repeated_pin (table_at N.tables i))
    (is_constant (table_at N.tables i)) (is_bypassed N i) (is_unread N i)

no_step : (N : NetValue) (i : ℕ) → rule_at N i ≡ None → step_at N i ≡ None
no_step N i e = step_is N i ∙ ap (option_map (made_by N i)) e

-- where no table has a rule, the net is tidy
pub tidy_by_rules : (N : NetValue) → ((i : ℕ) → i < table_count N → rule_at N i ≡ None) → IsTidy N
tidy_by_rules N none = none-anywhere N (λ i h. no_step N i (none i h))

map_is_none : {X Y : Type 0} (f : X → Y) (o : Option X) → option_map f o ≡ None → o ≡ None
map_is_none f None e = refl
map_is_none f (Some x) e = cc

-- a tidy net has no rule
pub rule_none : (N : NetValue) (i : ℕ) → IsTidy N → i < table_count N → rule_at N i ≡ None
rule_none N i tidy h = map_is_none (made_by N i) (rule_at N i) (sym (step_is N i) ∙ none-at N tidy i h)

-- the first rule makes the step
pub step_by_rule : (N : NetValue) (i : ℕ) (rule : Rule) → IsFirstRule N i rule → tidy_step N ≡ Some (made_by N i rule)
step_by_rule N i rule h =
    step-first N (made_by N i rule) i h.within (λ j below. no_step N j (h.first j below)) (step_is N i ∙ ap (option_map (made_by N i)) h.is)

-- the rule by the parts of a table is the rule at it
pub rule_by_parts : (N : NetValue) (i : ℕ)
    → rule_by (λ row. row) (constant_pin (input_count N) N.tables (table_at N.tables i)) (table_at N.tables i).pins (table_at N.tables i).rows (table_at N.tables i).plane
    (has N.outputs (input_count N + i)) (is_read N.tables (input_count N + i))
    ≡ rule_at N i
rule_by_parts N i =
    ap (λ (rows : List (List Mark)). first_rule (constant_pin (input_count N) N.tables (table_at N.tables i)) (dashed_pin (table_at N.tables i)) (repeated_pin (table_at N.tables i))
    (not (is_empty (table_at N.tables i).pins && (table_at N.tables i).plane && is_canonical_rows rows)
    && (is_empty (table_at N.tables i).rows || list_any (λ row. row_literals row == 0) (table_at N.tables i).rows))
    (is_one_literal (table_at N.tables i).pins rows && not (has N.outputs (input_count N + i)) && is_read N.tables (input_count N + i))
    (not (has N.outputs (input_count N + i)) && not (is_read N.tables (input_count N + i)))) (map-id (table_at N.tables i).rows)

pub six_same : {A B C D E F G : Type 0} (f : A → B → C → D → E → F → G) (a a' : A) (b b' : B) (c c' : C) (d d' : D) (e e' : E) (g g' : F)
    → a ≡ a' → b ≡ b' → c ≡ c' → d ≡ d' → e ≡ e' → g ≡ g' → f a b c d e g ≡ f a' b' c' d' e' g'
six_same f a a' b b' c c' d d' e e' g g' p q r s t u = cc

pub rule_by_found : (N : NetValue) (i : ℕ) (constant : Option ℕ) (pins : List ℕ) (rows : List (List Mark)) (plane output read : Bool)
    → constant ≡ constant_pin (input_count N) N.tables (table_at N.tables i) → pins ≡ (table_at N.tables i).pins → rows ≡ (table_at N.tables i).rows → plane ≡ (table_at N.tables i).plane
    → output ≡ has N.outputs (input_count N + i) → read ≡ is_read N.tables (input_count N + i) → rule_by (λ row. row) constant pins rows plane output read ≡ rule_at N i
rule_by_found N i constant pins rows plane output read p q r s t u =
    six_same (rule_by (λ row. row)) constant (constant_pin (input_count N) N.tables (table_at N.tables i)) pins (table_at N.tables i).pins rows (table_at N.tables i).rows
    plane (table_at N.tables i).plane output (has N.outputs (input_count N + i)) read (is_read N.tables (input_count N + i)) p q r s t u
    ∙ rule_by_parts N i

is_constant_pin : (a b c : Option ℕ) (d e f : Bool) (q : ℕ) → first_rule a b c d e f ≡ Some (ConstantPin q) → a ≡ Some q
is_constant_pin (Some p) b c d e f q h = cc
is_constant_pin None (Some p) c d e f q h = cc
is_constant_pin None None (Some p) d e f q h = cc
is_constant_pin None None None true e f q h = cc
is_constant_pin None None None false true f q h = cc
is_constant_pin None None None false false true q h = cc
is_constant_pin None None None false false false q h = cc

is_dashed_pin : (a b c : Option ℕ) (d e f : Bool) (q : ℕ) → first_rule a b c d e f ≡ Some (DashedPin q) → b ≡ Some q
is_dashed_pin (Some p) b c d e f q h = cc
is_dashed_pin None (Some p) c d e f q h = cc
is_dashed_pin None None (Some p) d e f q h = cc
is_dashed_pin None None None true e f q h = cc
is_dashed_pin None None None false true f q h = cc
is_dashed_pin None None None false false true q h = cc
is_dashed_pin None None None false false false q h = cc

is_repeated_pin : (a b c : Option ℕ) (d e f : Bool) (q : ℕ) → first_rule a b c d e f ≡ Some (RepeatedPin q) → c ≡ Some q
is_repeated_pin (Some p) b c d e f q h = cc
is_repeated_pin None (Some p) c d e f q h = cc
is_repeated_pin None None (Some p) d e f q h = cc
is_repeated_pin None None None true e f q h = cc
is_repeated_pin None None None false true f q h = cc
is_repeated_pin None None None false false true q h = cc
is_repeated_pin None None None false false false q h = cc

-- the pin that a rule is about
pub constant_pin_found : (N : NetValue) (i q : ℕ) (rule : Rule) → rule_at N i ≡ Some rule → rule ≡ ConstantPin q
    → (q < length (table_at N.tables i).pins) × (is_constant_signal (input_count N) N.tables (pin_at (table_at N.tables i) q) ≡ true)
constant_pin_found N i q rule e is =
    let found = first_from-found (λ k. is_constant_signal (input_count N) N.tables (pin_at (table_at N.tables i) k)) 0 (length (table_at N.tables i).pins) q
    (is_constant_pin (constant_pin (input_count N) N.tables (table_at N.tables i)) (dashed_pin (table_at N.tables i)) (repeated_pin (table_at N.tables i))
    (is_constant (table_at N.tables i)) (is_bypassed N i) (is_unread N i) q (e ∙ ap Some is)) in
    (omega (arith, found.0), found.1)

pub dashed_pin_found : (N : NetValue) (i q : ℕ) (rule : Rule) → rule_at N i ≡ Some rule → rule ≡ DashedPin q → q < length (table_at N.tables i).pins
dashed_pin_found N i q rule e is =
    let found = first_from-found (λ k. not (is_empty (table_at N.tables i).rows) && list_all (λ marks. is_dash (mark_at marks k)) (table_at N.tables i).rows) 0 (length (table_at N.tables i).pins) q
    (is_dashed_pin (constant_pin (input_count N) N.tables (table_at N.tables i)) (dashed_pin (table_at N.tables i)) (repeated_pin (table_at N.tables i))
    (is_constant (table_at N.tables i)) (is_bypassed N i) (is_unread N i) q (e ∙ ap Some is)) in
    omega (arith, found.0)

pub repeated_pin_found : (N : NetValue) (i q : ℕ) (rule : Rule) → rule_at N i ≡ Some rule → rule ≡ RepeatedPin q
    → (q < length (table_at N.tables i).pins) × (has (take q (table_at N.tables i).pins) (pin_at (table_at N.tables i) q) ≡ true)
repeated_pin_found N i q rule e is =
    let found = first_from-found (λ k. has (take k (table_at N.tables i).pins) (pin_at (table_at N.tables i) k)) 0 (length (table_at N.tables i).pins) q
    (is_repeated_pin (constant_pin (input_count N) N.tables (table_at N.tables i)) (dashed_pin (table_at N.tables i)) (repeated_pin (table_at N.tables i))
    (is_constant (table_at N.tables i)) (is_bypassed N i) (is_unread N i) q (e ∙ ap Some is)) in
    (omega (arith, found.0), found.1)

pub none_of : {X : Type 0} (o : Option X) → is_some o ≡ false → o ≡ None
none_of None e = refl
none_of (Some x) e = cc
