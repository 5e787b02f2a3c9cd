-- The joint net of two nets that are read has room.
use Rattle.std.proofs.Common.{◌≡◌, ℕ, ◌+◌, ◌^◌, ◌<◌, length, arith}
use Rattle.semantics.specs.Net.{NetValue, table_count, signal_count, row_count, IsSmall}
use Rattle.semantics.specs.declared.metric.Metric.{Metric}
use Rattle.quality_semantics.specs.Quality.{quality_net}
use Rattle.quality_semantics.specs.Joint.{joint_net}
use Rattle.quality_semantics.proofs.Room.{joint_room}
use Rattle.miter.proofs.Placed.{joint_signals}

pub few_signals : (N M Q : NetValue) (metric : Metric) (k : ℕ) → IsSmall N → IsSmall M → Q ≡ quality_net metric (length N.outputs) k
    → signal_count N + table_count M + table_count Q < 2 ^ 31
few_signals N M Q metric k exact approx is = rw is (omega (arith, joint_signals N M metric k, joint_room N M metric k exact approx))

pub few_in_all : (N M P : NetValue) (metric : Metric) (k : ℕ) → IsSmall N → IsSmall M → P ≡ joint_net N M metric k → signal_count P + row_count P < 2 ^ 31
few_in_all N M P metric k exact approx is = rw is (omega (arith, joint_room N M metric k exact approx))
