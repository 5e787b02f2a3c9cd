-- The laws about the networks, each the contract of a function without parameters.
use Rattle.std.specs.Prelude.{◌≡◌, ℕ, suc, ◌+◌, ◌*◌, ◌^◌, ◌<◌, ◌≤◌, max, nat_lt, nat_le, count_by, pos, ◌+ℤ◌}
use Rattle.std.specs.Prelude.{Bool, true, false, List, [], ◌∷◌, ◌++◌, map, length, take, drop, ◌-◌}
use Rattle.std.specs.Prelude.{slice_index_or}
use Rattle.std.specs.List.{range_with_len}
use Rattle.semantics.specs.Net.{NetValue, table_at, input_count, signal_count, IsAcyclic, IsSound}
use Rattle.semantics.specs.Net.{HasSamePorts}
use Rattle.semantics.specs.Value.{Assignment, table_value, value_of, outputs_of}
use Rattle.semantics.specs.declared.metric.Metric.{Metric}
use Rattle.semantics.specs.declared.metric.Kind.{Kind}
use Rattle.semantics.specs.Error.{number_of, signed_number_of, distance, rounded_up, differing}
use Rattle.semantics.specs.Error.{word_error, one_word, in_words, error_of, net_error}
use Rattle.quality_semantics.specs.WordNets.{WordNetValue, signals, started, BeginsWith, AreSignalsOf}
use Rattle.quality_semantics.specs.WordNets.{IsWordNet}
use Rattle.quality_semantics.specs.Buses.{binary, constant, add, times, greater, exceed, not_zero_low}
use Rattle.quality_semantics.specs.Buses.{flip_top, differ, at_least}
use Rattle.quality_semantics.specs.Multiply.{multiply, multiplier_net, Multiplies}
use Rattle.quality_semantics.specs.Quality.{word_quality, quality, quality_net, TellsExcess}
use Rattle.quality_semantics.specs.Joint.{approximate_signal, quality_signal, joint_net, AreComparable}

-- the assignment v gives the two constants their values, and each table of the network the value of its rows
pub record Fits (v : Assignment) (W : WordNetValue) : Type 0 where
  pub zero : v W.inputs ≡ false
  pub one : v (suc W.inputs) ≡ true
  pub table : (i : ℕ) → i < length W.tables → v (W.inputs + i) ≡ table_value (table_at W.tables i) v

-- the number of a bus
abbrev pub number : Assignment → List ℕ → ℕ
number v bus = number_of (map v bus)

-- Each bus has its number at every assignment that fits the network after the call, and so at every
-- assignment that fits a later network (`FitsLaw`).
pub record BusLaw : Type 0 where
  pub input : (W : WordNetValue) (x : List Bool) (from width : ℕ) → IsWordNet W → length x ≡ W.inputs
      → from + width ≤ W.inputs
      → map (value_of W.inputs W.tables x) (range_with_len from width) ≡ take width (drop from x)
  pub constant : (v : Assignment) (W : WordNetValue) (k : ℕ) → Fits v W → number v (constant W k) ≡ k
  pub add : (v : Assignment) (W : WordNetValue) (x y : List ℕ) → Fits v (add W x y).net
      → number v (add W x y).bus ≡ number v x + number v y
  pub times : (v : Assignment) (W : WordNetValue) (x : List ℕ) (k : ℕ) → Fits v (times W x k).net
      → number v (times W x k).bus ≡ k * number v x
  pub greater : (v : Assignment) (W : WordNetValue) (x y : List ℕ) → Fits v (greater W x y).net
      → v (greater W x y).signal ≡ nat_lt (number v y) (number v x)
  pub exceed : (v : Assignment) (W : WordNetValue) (x y z : List ℕ) → Fits v (exceed W x y z).net
      → v (exceed W x y z).signal ≡ nat_lt (number v z) (distance (number v x) (number v y))
  pub not_zero_low : (v : Assignment) (W : WordNetValue) (x : List ℕ) → 0 < length x
      → Fits v (not_zero_low W x).net
      → number v (not_zero_low W x).bus ≡ max 1 (number v x)
  pub flip_top : (v : Assignment) (W : WordNetValue) (x : List ℕ) → 0 < length x → Fits v (flip_top W x).net
      → pos (number v (flip_top W x).bus) ≡ signed_number_of (map v x) +ℤ pos (2 ^ (length x - 1))
  pub differ : (v : Assignment) (W : WordNetValue) (x y : List ℕ) → length x ≡ length y
      → Fits v (differ W x y).net
      → count_by v (differ W x y).bus ≡ differing (map v x) (map v y)
  pub at_least : (v : Assignment) (W : WordNetValue) (ds : List ℕ) (k : ℕ) → Fits v (at_least W ds k).net
      → v (at_least W ds k).signal ≡ nat_le k (count_by v ds)

-- the values of a network's signals fit the network, and fit each network with which it began
pub record FitsLaw : Type 0 where
  pub values : (W : WordNetValue) (x : List Bool) → IsWordNet W → BeginsWith W (started W.inputs)
      → Fits (value_of W.inputs W.tables x) W
  pub earlier : (v : Assignment) (W V : WordNetValue) → BeginsWith W V → Fits v W → Fits v V

-- the bits of a number have that number, and the highest of them is 1
pub record BinaryLaw : Type 0 where
  pub number : (k : ℕ) → number_of (binary k) ≡ k
  pub none : binary 0 ≡ []
  pub highest : (k : ℕ) → 0 < k → slice_index_or (binary k) (length (binary k) - 1) false ≡ true

-- a quotient rounded up exceeds a number exactly where the dividend exceeds its product with the divisor
abbrev pub RoundingLaw : Type 0
RoundingLaw = (d m k : ℕ) → 1 ≤ m → nat_lt k (rounded_up d m) ≡ nat_lt (k * m) d

-- two words over a network: buses of one width
pub record IsWordPair (W : WordNetValue) (e a : List ℕ) : Type 0 where
  pub formed : IsWordNet W
  pub exact : AreSignalsOf W e
  pub approximate : AreSignalsOf W a
  pub widths : length e ≡ length a

-- The tables of one word behind a network, with every kind of error and level.
pub record WordQualityLaw : Type 0 where
  pub begins : (kind : Kind) (W : WordNetValue) (e a : List ℕ) (k : ℕ) → IsWordPair W e a
      → BeginsWith (word_quality kind W e a k).net W
  pub formed : (kind : Kind) (W : WordNetValue) (e a : List ℕ) (k : ℕ) → IsWordPair W e a
      → IsWordNet (word_quality kind W e a k).net
  pub output : (kind : Kind) (W : WordNetValue) (e a : List ℕ) (k : ℕ) → IsWordPair W e a
      → (word_quality kind W e a k).signal < signals (word_quality kind W e a k).net
  pub value : (kind : Kind) (W : WordNetValue) (e a : List ℕ) (k : ℕ) → IsWordPair W e a → (v : Assignment)
      → Fits v (word_quality kind W e a k).net
      → v (word_quality kind W e a k).signal ≡ nat_lt k (word_error kind (map v e) (map v a))

-- The quality network of every metric, number of outputs and level. Where all outputs are one word, or words
-- are as wide as all outputs or wider, it is the network of that word.
pub record QualityLaw : Type 0 where
  pub inputs : (metric : Metric) (n k : ℕ) → (quality metric n k).net.inputs ≡ n + n
  pub formed : (metric : Metric) (n k : ℕ) → IsWordNet (quality metric n k).net
  pub output : (metric : Metric) (n k : ℕ) → (quality metric n k).signal < signals (quality metric n k).net
  pub acyclic : (metric : Metric) (n k : ℕ) → IsAcyclic (n + n) (quality metric n k).net.tables
  pub value : (metric : Metric) (n k : ℕ) (x : List Bool) → length x ≡ n + n
      → value_of (n + n) (quality metric n k).net.tables x (quality metric n k).signal
      ≡ nat_lt k (error_of metric (take n x) (drop n x))
  pub tells : (metric : Metric) (n k : ℕ) → TellsExcess metric n k (quality_net metric n k)
  pub sound : (metric : Metric) (n k : ℕ) → signals (quality metric n k).net ≤ 2 ^ 30
      → IsSound (quality_net metric n k)
  pub in_one_word : (kind : Kind) (n k : ℕ) → quality (one_word kind) n k
      ≡ word_quality kind (started (n + n)) (range_with_len 0 n) (range_with_len n n) k
  pub in_wide_words : (kind : Kind) (width n k : ℕ) → n ≤ width
      → quality (in_words kind width) n k ≡ quality (one_word kind) n k

-- The array multiplier.
pub record MultiplierLaw : Type 0 where
  pub multiply : (v : Assignment) (W : WordNetValue) (xs ys : List ℕ) → Fits v (multiply W xs ys).net
      → number v (multiply W xs ys).bus ≡ number v xs * number v ys
  pub multiplier : (w : ℕ) → Multiplies w (multiplier_net w)

-- The joint net of two nets that can be compared, with every metric and level. It is acyclic over the exact
-- net's inputs; each signal of the two nets and of the quality network keeps its value at the place where it
-- now stands; and the one output says whether the error of the outputs exceeds k. The joint net is sound
-- where it has fewer than 2 ^ 31 signals.
pub record JointLaw : Type 0 where
  pub comparable : (N M : NetValue) → IsSound N → IsSound M → HasSamePorts N M → AreComparable N M
  pub inputs : (N M : NetValue) (metric : Metric) (k : ℕ)
      → input_count (joint_net N M metric k) ≡ input_count N
  pub acyclic : (N M : NetValue) (metric : Metric) (k : ℕ) → AreComparable N M
      → IsAcyclic (input_count N) (joint_net N M metric k).tables
  pub exact : (N M : NetValue) (metric : Metric) (k : ℕ) → AreComparable N M → (x : List Bool) (s : ℕ)
      → s < signal_count N
      → value_of (input_count N) (joint_net N M metric k).tables x s ≡ value_of (input_count N) N.tables x s
  pub approximate : (N M : NetValue) (metric : Metric) (k : ℕ) → AreComparable N M → (x : List Bool) (s : ℕ)
      → s < signal_count M
      → value_of (input_count N) (joint_net N M metric k).tables x (approximate_signal N s)
      ≡ value_of (input_count M) M.tables x s
  pub quality : (N M : NetValue) (metric : Metric) (k : ℕ) → AreComparable N M → (x : List Bool) (s : ℕ)
      → let Q = quality metric (length N.outputs) k in
      s < signals Q.net
      → value_of (input_count N) (joint_net N M metric k).tables x (quality_signal N M s)
      ≡ value_of (length N.outputs + length N.outputs) Q.net.tables (outputs_of N x ++ outputs_of M x) s
  pub output : (N M : NetValue) (metric : Metric) (k : ℕ) → AreComparable N M
      → (x : List Bool) → outputs_of (joint_net N M metric k) x ≡ nat_lt k (net_error metric N M x) ∷ []
  pub sound : (N M : NetValue) (metric : Metric) (k : ℕ) → AreComparable N M
      → signal_count (joint_net N M metric k) < 2 ^ 31
      → IsSound (joint_net N M metric k)
