-- Where each of the six rules of tidying applies, in the subject's words, and which rule is chosen: at the
-- first table at which a rule applies, the rule with the least number, and of that rule's pins the least.
-- Source: this tool's own.
use Rattle.std.specs.Prelude.{◌≡◌, ◌≢◌, ◌⊎◌, ◌↔◌, ℕ, ◌+◌, ◌-◌, ◌<◌, ◌≤◌, Bool, true, [], ◌∷◌, length, Some}
use Rattle.std.specs.Prelude.{All, Any, AllPairs, Contains}
use Rattle.semantics.specs.declared.mark.Mark.{Mark}
use Rattle.semantics.specs.declared.mark.Mark.TheVariants.{Dash}
use Rattle.semantics.specs.Net.{TableValue, NetValue, table_at, input_count, table_count, is_literal}
use Rattle.semantics.specs.Net.{row_literals, constant_table, IsSound}
use Rattle.semantics.specs.Replaced.{with_table}
use Rattle.chain_semantics.specs.TidyRules.{pin_at, mark_at, constant_value, with_pin_fixed, without_pin}
use Rattle.chain_semantics.specs.TidyRules.{with_pins_joined, made_canonical, with_bypass, without_table}
use Rattle.chain_semantics.specs.Tidy.{tidy_step, IsTidy}
use Rattle.chain_semantics.specs.TidyLaws.{HasLiterals}

-- a rule, and the places of the pins at which it is applied
pub data Rule : Type 0 where
  fix_pin : (q : ℕ) → Rule
  drop_pin : (q : ℕ) → Rule
  join_pins : (p q : ℕ) → Rule
  make_constant : Rule
  read_past : Rule
  remove_table : Rule

-- ---- where each applies

-- the signal is a table without pins
abbrev pub IsConstantSignal : NetValue → ℕ → Type 0
IsConstantSignal N s = (input_count N ≤ s) × ((table_at N.tables (s - input_count N)).pins ≡ [])

-- constant 0 or constant 1, as it is written
abbrev pub IsCanonical : TableValue → Type 0
IsCanonical t = (value : Bool) × (t ≡ constant_table t.name value)

-- the table has no row, or has a row without literals, so its value is constant
abbrev pub HasConstantValue : TableValue → Type 0
HasConstantValue t = (t.rows ≡ []) ⊎ Any (λ marks. row_literals marks ≡ 0) t.rows

-- one pin, and one row with a literal
pub record HasOneLiteral (t : TableValue) : Type 0 where
  pub pin : ℕ
  pub mark : Mark
  pub pins : t.pins ≡ pin ∷ []
  pub rows : t.rows ≡ (mark ∷ []) ∷ []
  pub literal : is_literal mark ≡ true

abbrev pub IsOutput : NetValue → ℕ → Type 0
IsOutput N s = Contains N.outputs s

-- some table has the signal among its pins
abbrev pub IsRead : NetValue → ℕ → Type 0
IsRead N s = (i : ℕ) × (i < table_count N) × Contains (table_at N.tables i).pins s

-- the rule applies at a table that is signal s
abbrev pub AppliesTo : NetValue → TableValue → ℕ → Rule → Type 0
AppliesTo N t s (fix_pin q) = (q < length t.pins) × IsConstantSignal N (pin_at t q)
AppliesTo N t s (drop_pin q) = (q < length t.pins) × (t.rows ≢ [])
    × All (λ marks. mark_at marks q ≡ Dash) t.rows
AppliesTo N t s (join_pins p q) = (p < q) × (q < length t.pins) × (pin_at t p ≡ pin_at t q)
AppliesTo N t s make_constant = (¬ IsCanonical t) × HasConstantValue t
AppliesTo N t s read_past = HasOneLiteral t × (¬ IsOutput N s) × IsRead N s
AppliesTo N t s remove_table = (¬ IsOutput N s) × (¬ IsRead N s)

-- the rule applies at table i
abbrev pub Applies : NetValue → ℕ → Rule → Type 0
Applies N i rule = AppliesTo N (table_at N.tables i) (input_count N + i) rule

-- ---- which is chosen

abbrev pub rule_number : Rule → ℕ
rule_number (fix_pin q) = 1
rule_number (drop_pin q) = 2
rule_number (join_pins p q) = 3
rule_number make_constant = 4
rule_number read_past = 5
rule_number remove_table = 6

-- the place of the pin that goes
abbrev pub pin_of : Rule → ℕ
pin_of (fix_pin q) = q
pin_of (drop_pin q) = q
pin_of (join_pins p q) = q
pin_of _ = 0

-- the place of the pin to which the pin that goes is joined
abbrev pub joined_pin_of : Rule → ℕ
joined_pin_of (join_pins p q) = p
joined_pin_of _ = 0

-- by number, then by the pin that goes, then by the pin to which it is joined
abbrev pub IsLesser : Rule → Rule → Type 0
IsLesser a b =
    (rule_number a < rule_number b)
    ⊎ ((rule_number a ≡ rule_number b)
    × ((pin_of a < pin_of b) ⊎ ((pin_of a ≡ pin_of b) × (joined_pin_of a < joined_pin_of b))))

-- the rule applies at table i, no lesser rule applies there, and no rule applies at a table before i
pub record IsChosen (N : NetValue) (i : ℕ) (rule : Rule) : Type 0 where
  pub within : i < table_count N
  pub applies : Applies N i rule
  pub no_lesser : (other : Rule) → IsLesser other rule → ¬ Applies N i other
  pub none_earlier : (j : ℕ) (other : Rule) → j < i → ¬ Applies N j other

-- the net that the rule makes at table i
abbrev pub made : NetValue → ℕ → Rule → NetValue
made N i (fix_pin q) = with_table N i
    (with_pin_fixed q (constant_value (input_count N) N.tables (pin_at (table_at N.tables i) q))
    (table_at N.tables i))
made N i (drop_pin q) = with_table N i (without_pin q (table_at N.tables i))
made N i (join_pins p q) = with_table N i (with_pins_joined p q (table_at N.tables i))
made N i make_constant = with_table N i (made_canonical (table_at N.tables i))
made N i read_past = with_bypass N i
made N i remove_table = without_table N i

-- M is made by the chosen rule at its table
abbrev pub IsChosenStep : NetValue → NetValue → Type 0
IsChosenStep N M = (i : ℕ) × (rule : Rule) × IsChosen N i rule × (made N i rule ≡ M)

-- ---- what is left

-- table i: no pin is a table without pins, and no signal stands twice among the pins; the table is an output
-- or is read, is no buffer or inverter within the net, and is a canonical constant or has a literal in each
-- row and for each pin
pub record HasNothingToTidy (N : NetValue) (i : ℕ) : Type 0 where
  pub no_constant_pin : All (λ s. ¬ IsConstantSignal N s) (table_at N.tables i).pins
  pub no_repeated_pin : AllPairs ◌≢◌ (table_at N.tables i).pins
  pub no_bypass : HasOneLiteral (table_at N.tables i) → IsOutput N (input_count N + i)
  pub needed : IsOutput N (input_count N + i) ⊎ IsRead N (input_count N + i)
  pub literals : IsCanonical (table_at N.tables i) ⊎ HasLiterals (table_at N.tables i)

-- A step is the chosen one. A net is tidy exactly where no rule applies at any table; a sound net is tidy
-- exactly where no table has anything to tidy.
pub record ChoiceLaw : Type 0 where
  pub step : (N M : NetValue) → (tidy_step N ≡ Some M) ↔ IsChosenStep N M
  pub tidy : (N : NetValue) → IsTidy N ↔ ((i : ℕ) (rule : Rule) → i < table_count N → ¬ Applies N i rule)
  pub nothing : (N : NetValue) → IsSound N → IsTidy N ↔ ((i : ℕ) → i < table_count N → HasNothingToTidy N i)
