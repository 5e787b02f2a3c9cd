-- Whether a few low places of the outputs decide whether the error exceeds a level. Two numbers that are less
-- than 2^p apart are as far apart as their residues modulo 2^p, or 2^p less what these are apart. So
-- with p = 5, 30 and 35 are 5 apart, and their residues 30 and 3 are 27 apart, which is 32 less 5; with k = 3
-- both say that the numbers are more than k apart. Source: residue arithmetic.
use Rattle.std.specs.Prelude.{◌≡◌, ℕ, ◌+◌, ◌^◌, ◌<◌, ◌≤◌, nat_lt, List, ◌++◌, Bool, map, length, take}
use Rattle.std.specs.Prelude.{drop, All, None}
use Rattle.semantics.specs.declared.metric.Metric.{Metric}
use Rattle.semantics.specs.declared.metric.Kind.{Kind}
use Rattle.semantics.specs.declared.metric.Kind.TheVariants.{Abs, Rel, Ham, Sabs}
use Rattle.semantics.specs.Net.{input_count}
use Rattle.semantics.specs.Error.{number_of, distance}
use Rattle.semantics.specs.Value.{Assignment, outputs_of}
use Rattle.net_errors.specs.Compared.{NetPair}
use Rattle.aig_core.specs.Graph.{GraphValue, IsLiteralOf, IsConsistent, literal_value}
use Rattle.aig_core.specs.Grown.{HasValue}
use Rattle.graph_questions.specs.Levels.{LevelQuestion, asked_error}

-- the error of a word is a distance of two numbers
abbrev pub IsDistanceKind : Kind → Type 0
IsDistanceKind Abs = Unit {0}
IsDistanceKind Sabs = Unit {0}
IsDistanceKind Rel = ⊥
IsDistanceKind Ham = ⊥

-- the error is the distance of the numbers of all outputs, without or with a sign
pub record IsDistance (metric : Metric) : Type 0 where
  pub whole : metric.width ≡ None
  pub kind : IsDistanceKind metric.kind

-- how far apart the numbers of the first p bits of two words are
abbrev pub low_distance : ℕ → List Bool → List Bool → ℕ
low_distance p e a = distance (number_of (take p e)) (number_of (take p a))

-- the low places are more than k apart, also around 2^p, where the one number has just passed a multiple of
-- 2^p and the other has not
pub record AreApart (p k : ℕ) (e a : List Bool) : Type 0 where
  pub beyond : k < low_distance p e a
  pub around : low_distance p e a + k < 2 ^ p

-- wherever the error exceeds the level, the first p outputs of the two nets are apart
pub record AreEnough (q : LevelQuestion) (p : ℕ) : Type 0 where
  pub few : p ≤ length q.nets.exact.outputs
  pub fits : q.k < 2 ^ p
  pub apart : (x : List Bool) → length x ≡ input_count q.nets.exact → q.k < asked_error q x
      → AreApart p q.k (outputs_of q.nets.exact x) (outputs_of q.nets.approx x)

-- how far apart the two halves of 2 p bits are
abbrev pub halves_distance : ℕ → List Bool → ℕ
halves_distance p bits = distance (number_of (take p bits)) (number_of (drop p bits))

-- l says whether the two halves of these literals are more than k apart
pub record IsApartLiteral (g : GraphValue) (both : List ℕ) (p k l : ℕ) : Type 0 where
  pub within : IsLiteralOf g l
  pub is : HasValue g l (λ x v. nat_lt k (halves_distance p (map (literal_value v) both)))

-- these literals have the values of the first p outputs of the exact net, and behind them of the approximate
-- net, where each input has the value of its literal
pub record AreLowOutputs (g : GraphValue) (nets : NetPair) (p : ℕ) (inputs both : List ℕ) : Type 0 where
  pub count : length both ≡ p + p
  pub within : All (IsLiteralOf g) both
  pub is : (x : List Bool) (v : Assignment) → IsConsistent g x v → map (literal_value v) both
      ≡ take p (outputs_of nets.exact (map (literal_value v) inputs))
      ++ take p (outputs_of nets.approx (map (literal_value v) inputs))
