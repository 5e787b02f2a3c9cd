-- The law about the net of the demonstration, the contract of a function without parameters.
use Rattle.std.specs.Prelude.{◌≡◌, ℕ, ◌+◌, ◌-◌, ◌*◌, ◌≤◌, length}
use Rattle.semantics.specs.Net.{input_count, table_count, literal_count, IsSound, IsSmall}
use Rattle.job_semantics.specs.Demo.{demo_net, Adds}

-- the net of each width from 1 to 32 is sound and small; the net of every width adds, and has two tables for
-- each stage
pub record DemoLaw : Type 0 where
  pub sound : (w : ℕ) → 1 ≤ w → w ≤ 32 → IsSound (demo_net w)
  pub small : (w : ℕ) → w ≤ 32 → IsSmall (demo_net w)
  pub adds : (w : ℕ) → 1 ≤ w → Adds w (demo_net w)
  pub inputs : (w : ℕ) → input_count (demo_net w) ≡ 2 * w
  pub outputs : (w : ℕ) → length (demo_net w).outputs ≡ w + 1
  pub tables : (w : ℕ) → table_count (demo_net w) ≡ 2 * w
  pub literals : (w : ℕ) → 1 ≤ w → literal_count (demo_net w) ≡ 6 + 18 * (w - 1)
