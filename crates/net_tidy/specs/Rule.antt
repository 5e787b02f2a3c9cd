-- The first rule that applies at a table, and what it makes of the net.
use Rattle.std.specs.Prelude.{◌==◌, ◌&&◌, ◌||◌, ℕ, Bool, true, false, not, Option, Some, None, List, [], ◌∷◌}
use Rattle.std.specs.Prelude.{map, length, take, slice_index}
use Rattle.std.specs.List.{list_any, list_all}
use Rattle.semantics.specs.declared.mark.Mark.{Mark}
use Rattle.semantics.specs.Net.{NetValue, table_at, input_count, is_literal, row_literals}
use Rattle.semantics.specs.Replaced.{with_table}
use Rattle.chain_semantics.specs.TidyRules.{is_empty, has, first_from, pin_at, mark_at, constant_pin}
use Rattle.chain_semantics.specs.TidyRules.{constant_value, with_pin_fixed, is_dash, dashed_pin, without_pin}
use Rattle.chain_semantics.specs.TidyRules.{repeated_pin, first_place_of, with_pins_joined}
use Rattle.chain_semantics.specs.TidyRules.{is_canonical_rows, is_constant, made_canonical, is_one_literal}
use Rattle.chain_semantics.specs.TidyRules.{is_bypassed, with_bypass, is_unread, without_table}
use Rattle.net_tidy.specs.declared.rule.Rule.{Rule}
use Rattle.net_tidy.specs.declared.rule.Rule.TheVariants.{ConstantPin, DashedPin, RepeatedPin, Constant}
use Rattle.net_tidy.specs.declared.rule.Rule.TheVariants.{Bypass, Removal}

-- the first of the six rules that applies
abbrev pub first_rule : Option ℕ → Option ℕ → Option ℕ → Bool → Bool → Bool → Option Rule
first_rule (Some q) dashed repeated constant bypassed unread = Some (ConstantPin q)
first_rule None (Some q) repeated constant bypassed unread = Some (DashedPin q)
first_rule None None (Some q) constant bypassed unread = Some (RepeatedPin q)
first_rule None None None true bypassed unread = Some Constant
first_rule None None None false true unread = Some Bypass
first_rule None None None false false true = Some Removal
first_rule None None None false false false = None

abbrev pub rule_at : NetValue → ℕ → Option Rule
rule_at N i = first_rule (constant_pin (input_count N) N.tables (table_at N.tables i))
    (dashed_pin (table_at N.tables i)) (repeated_pin (table_at N.tables i))
    (is_constant (table_at N.tables i)) (is_bypassed N i) (is_unread N i)

-- the net that a rule at table i makes
abbrev pub made_by : NetValue → ℕ → Rule → NetValue
made_by N i (ConstantPin q)
    = with_table N i (with_pin_fixed q
    (constant_value (input_count N) N.tables (pin_at (table_at N.tables i) q)) (table_at N.tables i))
made_by N i (DashedPin q) = with_table N i (without_pin q (table_at N.tables i))
made_by N i (RepeatedPin q)
    = with_table N i (with_pins_joined
    (first_place_of (table_at N.tables i).pins (pin_at (table_at N.tables i) q)) q (table_at N.tables i))
made_by N i Constant = with_table N i (made_canonical (table_at N.tables i))
made_by N i Bypass = with_bypass N i
made_by N i Removal = without_table N i

-- a row of one mark that asks for a value
abbrev pub is_alone : List Mark → Bool
is_alone (m ∷ []) = is_literal m
is_alone _ = false

-- the first rule, by the first constant pin, by the pins, rows and plane of a table, and by whether the table
-- is an output and is read
abbrev pub rule_by : {R : Type 0} → (R → List Mark) → Option ℕ → List ℕ → List R → Bool → Bool → Bool
    → Option Rule
rule_by marks constant pins rows plane output read = first_rule constant
    (first_from (λ q. not (is_empty rows) && list_all (λ row. is_dash (mark_at (marks row) q)) rows) 0
    (length pins))
    (first_from (λ q. has (take q pins) (slice_index pins q)) 0 (length pins))
    (not (is_empty pins && plane && is_canonical_rows (map marks rows))
    && (is_empty rows || list_any (λ row. row_literals (marks row) == 0) rows))
    (is_one_literal pins (map marks rows) && not output && read)
    (not output && not read)
