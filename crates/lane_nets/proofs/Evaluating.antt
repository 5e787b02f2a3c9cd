-- Words that are found table by table, in an order of the tables.
use Rattle.std.proofs.Common.{◌≡◌, ℕ, ◌+◌, ◌<◌, ◌≤◌, Bool, List, length, get_or, set, take, ap, sym, ◌∙◌}
use Rattle.semantics.specs.Net.{TableValue, NetValue, table_at, input_count, signal_count, IsAcyclic}
use Rattle.semantics.specs.Value.{table_value, value_of}
use Rattle.semantics.specs.Order.{IsNext, IsOrderOf}
use Rattle.semantics.proofs.Values.{value_law}
use Rattle.semantics.proofs.Grounding.{next-value}
use Rattle.net_core.proofs.InOrder.{HoldsBefore, next_at, holds_none, holds_more}
use Rattle.lane_nets.specs.Words.{word_bit, values_at, HasInputs}

-- at each pattern the word has the signal's value, where the inputs have theirs in the words at the start
abbrev pub IsValueFrom : NetValue → List ℕ → ℕ → ℕ → Type 0
IsValueFrom N start s word = (b : ℕ) (x : List Bool) → b < 64 → HasInputs N start b x → word_bit word b ≡ value_of (input_count N) N.tables x s

pub values_none : (N : NetValue) (order start : List ℕ) → IsOrderOf (input_count N) N.tables order → IsAcyclic (input_count N) N.tables
    → HoldsBefore (IsValueFrom N start) 0 (input_count N) order 0 start
values_none N order start is acyclic =
    holds_none (input_count N) N.tables order is (IsValueFrom N start) 0 start
    (λ s low b x below inputs. inputs s low ∙ sym ((value_law (input_count N) N.tables x acyclic).consistent.input s low))

pub values_more : (N : NetValue) (order start words : List ℕ) (k i word : ℕ) (table : TableValue) → IsOrderOf (input_count N) N.tables order → IsAcyclic (input_count N) N.tables
    → k < length order → i ≡ get_or order k 0 → signal_count N ≤ length words → table ≡ table_at N.tables i
    → ((b : ℕ) → b < 64 → word_bit word b ≡ table_value table (values_at words b))
    → HoldsBefore (IsValueFrom N start) 0 (input_count N) order k words → HoldsBefore (IsValueFrom N start) 0 (input_count N) order (k + 1) (set words (input_count N + i) word)
values_more N order start words k i word table is acyclic low at room read value before =
    let n : ℕ = input_count N in
    let next : IsNext n N.tables (take k order) i = next_at n N.tables order is k i low at in
    holds_more n N.tables order is (IsValueFrom N start) 0 words k i word low at room
    (λ b x below inputs.
    value b below ∙ ap (λ (u : TableValue). table_value u (values_at words b)) read
    ∙ next-value n N.tables x (take k order) i (values_at words b) acyclic next (λ s known. before s known b x below inputs))
    before
