-- What a network under construction says of the error of one word, and of all words.
use Rattle.std.specs.Prelude.{◌≡◌, ℕ, ◌+◌, nat_lt, List, map}
use Rattle.std.specs.List.{range_with_len}
use Rattle.semantics.specs.Value.{Assignment}
use Rattle.semantics.specs.declared.metric.Kind.{Kind}
use Rattle.semantics.specs.declared.metric.Metric.{Metric}
use Rattle.semantics.specs.Error.{word_error, error_of}
use Rattle.quality_semantics.specs.WordNets.{WordNetValue, started, BeginsWith}
use Rattle.quality_semantics.specs.Laws.{Fits}

-- the signals of an exact word, and those of a word that is judged against it
pub record WordPair : Type 0 where
  pub exact : List ℕ
  pub approximate : List ℕ

-- the signal says whether the error of a word against the exact one exceeds k
pub record SaysWordExcess (kind : Kind) (k : ℕ) (words : WordPair) (W : WordNetValue) (s : ℕ) : Type 0 where
  pub at : (v : Assignment) → Fits v W
      → v s ≡ nat_lt k (word_error kind (map v words.exact) (map v words.approximate))

-- the signal of a network over n exact outputs, and n approximate ones behind them, says whether their error
-- exceeds k
pub record SaysExcess (metric : Metric) (n k : ℕ) (W : WordNetValue) (s : ℕ) : Type 0 where
  pub begins : BeginsWith W (started (n + n))
  pub at : (v : Assignment) → Fits v W
      → v s ≡ nat_lt k (error_of metric (map v (range_with_len 0 n)) (map v (range_with_len n n)))
