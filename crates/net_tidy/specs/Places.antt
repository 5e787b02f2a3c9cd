-- A net that is edited in place: each table keeps its place, also where others have gone.
use Rattle.std.specs.Prelude.{◌≡◌, ℕ, zero, suc, ◌<◌, Bool, true, false, None, Some, List, [], ◌∷◌, ◌++◌}
use Rattle.std.specs.Prelude.{map, length, replicate, slice_index_or, slice_set, if◌then◌else◌}
use Rattle.semantics.specs.Net.{TableValue, NetValue, table_at, input_count, table_count, constant_table}
use Rattle.semantics.specs.Replaced.{with_table}
use Rattle.semantics.specs.Renamed.{renamed}
use Rattle.chain_semantics.specs.TidyRules.{is_empty}
use Rattle.net_tidy.specs.declared.rule.Rule.{Rule}
use Rattle.net_tidy.specs.declared.rule.Rule.TheVariants.{Removal}
use Rattle.net_tidy.specs.Rule.{rule_at, made_by}
use Rattle.net_tidy.specs.Flags.{IsDown}

-- the tables by place, and which of them have gone
pub record DraftValue : Type 0 where
  pub net : NetValue
  pub gone : List Bool

-- what stays
abbrev pub kept : {X : Type 0} → List Bool → List X → List X
kept [] xs = xs
kept (g ∷ gone) [] = []
kept (g ∷ gone) (x ∷ xs) = if g then kept gone xs else x ∷ kept gone xs

-- the number of places before place i that stay, which is where i stands once the others have gone
abbrev pub rank : List Bool → ℕ → ℕ
rank [] i = i
rank (g ∷ gone) zero = 0
rank (g ∷ gone) (suc i) = if g then rank gone i else suc (rank gone i)

-- which signals have gone, over n inputs
abbrev pub signals_gone : ℕ → List Bool → List Bool
signals_gone n gone = replicate n false ++ gone

-- the net once the tables that have gone are left out
abbrev pub dense : DraftValue → NetValue
dense D = record {
  model = D.net.model;
  inputs = D.net.inputs;
  tables = map (renamed (rank (signals_gone (input_count D.net) D.gone))) (kept D.gone D.net.tables);
  outputs = map (rank (signals_gone (input_count D.net) D.gone)) D.net.outputs;
}

abbrev pub Stays : List Bool → ℕ → Type 0
Stays gone i = slice_index_or gone i true ≡ false

-- a table that goes leaves its place, and reads nothing any more
abbrev pub emptied : TableValue → TableValue
emptied t = if is_empty t.pins then t else constant_table t.name false

-- what a rule at place i makes
abbrev pub drafted : DraftValue → ℕ → Rule → DraftValue
drafted D i Removal = record
    { net = with_table D.net i (emptied (table_at D.net.tables i)); gone = slice_set D.gone i true }
drafted D i rule = record D { net = made_by D.net i rule }

-- one flag for each place, which is down only where the table has gone or no rule applies at it
pub record IsFlaggedIn (D : DraftValue) (flags : List Bool) : Type 0 where
  pub count : length flags ≡ table_count D.net
  pub rests : (i : ℕ) → i < table_count D.net → Stays D.gone i → IsDown flags i → rule_at D.net i ≡ None

-- at no table that stays does a rule apply
abbrev pub IsAtRest : DraftValue → Type 0
IsAtRest D = (i : ℕ) → i < table_count D.net → Stays D.gone i → rule_at D.net i ≡ None

-- the first rule at the first table that stays and at which a rule applies
pub record IsFirstRuleIn (D : DraftValue) (i : ℕ) (rule : Rule) : Type 0 where
  pub within : i < table_count D.net
  pub stays : Stays D.gone i
  pub is : rule_at D.net i ≡ Some rule
  pub first : (j : ℕ) → j < i → Stays D.gone j → rule_at D.net j ≡ None

abbrev pub number_at : List ℕ → ℕ → ℕ
number_at numbers s = slice_index_or numbers s 0
