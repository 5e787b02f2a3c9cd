-- The laws about the definitions, each the contract of a function without parameters.
use Rattle.std.specs.Prelude.{◌≡◌, ◌≢◌, ◌↔◌, ℕ, ◌+◌, ◌-◌, ◌^◌, ◌<◌, ◌≤◌, pos, neg_ℤ, ◌+ℤ◌, ◌≤ℤ◌, ◌<ℤ◌, Bool}
use Rattle.std.specs.Prelude.{true, false, List, [], ◌∷◌, ◌++◌, map, length, replicate, slice_get}
use Rattle.std.specs.Prelude.{slice_index_or, Some, None, decimal, All, AllPairs, Contains, min, flat_map}
use Rattle.std.specs.Prelude.{◌*◌}
use Rattle.std.specs.List.{AllByRecursion}
use Rattle.semantics.specs.Texts.{Bytes}
use Rattle.semantics.specs.Net.{TableValue, NetValue, table_at, signal_count, IsName, IsTable, IsGroundedIn}
use Rattle.semantics.specs.Net.{IsAcyclic, IsSound, IsSmall}
use Rattle.semantics.specs.Replaced.{replaced}
use Rattle.semantics.specs.Dependence.{DependsOn}
use Rattle.semantics.specs.Embedding.{IsEmbedded}
use Rattle.semantics.specs.Order.{IsKnown, IsNext, IsOrderAfter, IsOrderOf}
use Rattle.semantics.specs.Copies.{IsCopiedBehind}
use Rattle.semantics.specs.Renamed.{renamed, redirect, raised, without}
use Rattle.semantics.specs.Refusals.{first_doubled, first_undriven, first_ungrounded, IsFirstUngrounded}
use Rattle.semantics.specs.Refusals.{first_limit, NetRefused, net_refusal}
use Rattle.semantics.specs.RefusalOrder.{IsTold}
use Rattle.semantics.specs.Value.{Assignment, table_value, value_of, HasOneValue}
use Rattle.semantics.specs.declared.metric.Metric.{Metric}
use Rattle.semantics.specs.declared.metric.Kind.{Kind}
use Rattle.semantics.specs.declared.metric.Kind.TheVariants.{Abs, Rel, Ham, Sabs}
use Rattle.semantics.specs.declared.limits.TheConstants.{MOST_OUTPUTS, LARGEST_ERROR}
use Rattle.semantics.specs.Error.{number_of, sign_weight, signed_number_of, sign_flipped, distance}
use Rattle.semantics.specs.Error.{word_error, greatest_error, errors_below, one_word, in_words, word_width}
use Rattle.semantics.specs.Error.{word_count, word_at, words_of, error_of_word, error_of, net_error}
use Rattle.semantics.specs.Error.{IsCandidate}
use Rattle.semantics.specs.Vectors.{bits_of, all_vectors}
use Rattle.semantics.specs.Decimal.{digits_number, is_decimal}

-- an acyclic list of tables gives each signal one value
abbrev pub ValueLaw : Type 0
ValueLaw = (n : ℕ) (tables : List TableValue) (x : List Bool) → IsAcyclic n tables → HasOneValue n tables x

-- there are 2 ^ n vectors of n bits: vector j stands at place j, and each vector stands at the place of its
-- number
pub record VectorLaw : Type 0 where
  pub count : (n : ℕ) → length (all_vectors n) ≡ 2 ^ n
  pub at : (n j : ℕ) → j < 2 ^ n → slice_get (all_vectors n) j ≡ Some (bits_of n j)
  pub width : (n j : ℕ) → length (bits_of n j) ≡ n
  pub number : (n j : ℕ) → j < 2 ^ n → number_of (bits_of n j) ≡ j
  pub place : (n : ℕ) (x : List Bool) → length x ≡ n → number_of x < 2 ^ n
  pub each : (n : ℕ) (x : List Bool) → length x ≡ n → slice_get (all_vectors n) (number_of x) ≡ Some x

-- words of zeros and of ones
abbrev pub zeros : ℕ → List Bool
zeros width = replicate width false

abbrev pub ones : ℕ → List Bool
ones width = replicate width true

-- Words of one width: the number of a word is below 2 to the width, and no error is above the greatest error,
-- which zeros against ones attain (in two's complement, with their signs turned over). The errors of words of
-- at most 64 bits are numbers of 64, 84, 7 and 64 bits, and none is above the largest error.
pub record SizeLaw : Type 0 where
  pub number : (bits : List Bool) → number_of bits < 2 ^ length bits
  pub at_most : (kind : Kind) (width : ℕ) (e a : List Bool) → length e ≡ width → length a ≡ width
      → word_error kind e a ≤ greatest_error kind width
  pub attained_abs : (width : ℕ) → word_error Abs (zeros width) (ones width) ≡ greatest_error Abs width
  pub attained_rel : (width : ℕ) → word_error Rel (zeros width) (ones width) ≡ greatest_error Rel width
  pub attained_ham : (width : ℕ) → word_error Ham (zeros width) (ones width) ≡ greatest_error Ham width
  pub attained_sabs : (width : ℕ)
      → word_error Sabs (sign_flipped (zeros width)) (sign_flipped (ones width)) ≡ greatest_error Sabs width
  pub below : (metric : Metric) (e a : List Bool) → length e ≡ length a → length e ≤ MOST_OUTPUTS
      → error_of metric e a < errors_below metric.kind
  pub largest : (metric : Metric) (exact approx : NetValue) → IsCandidate exact approx → (x : List Bool)
      → net_error metric exact approx x ≤ LARGEST_ERROR

-- Outputs that are cut into words: the words one behind another are the outputs; each word has the width of a
-- word, but for the last, which has what is left. The error is that of one of the words, and no word errs
-- more; where all outputs are one word, it is the error of that word, and so it is where the words are as
-- wide as all outputs or wider.
pub record WordsLaw : Type 0 where
  pub joined : (metric : Metric) (bits : List Bool) → flat_map (λ w. w) (words_of metric bits) ≡ bits
  pub width : (metric : Metric) (bits : List Bool) (j : ℕ) → j < word_count metric (length bits)
      → let w = word_width metric (length bits) in
      (length (word_at w j bits) ≡ min w (length bits - j * w)) × (0 < length (word_at w j bits))
  pub some_word : (metric : Metric) (e a : List Bool) → 0 < length e
      → (j : ℕ) × (j < word_count metric (length e)) × (error_of_word metric e a j ≡ error_of metric e a)
  pub none_greater : (metric : Metric) (e a : List Bool) (j : ℕ) → j < word_count metric (length e)
      → error_of_word metric e a j ≤ error_of metric e a
  pub in_one_word : (kind : Kind) (e a : List Bool) → length e ≡ length a
      → error_of (one_word kind) e a ≡ word_error kind e a
  pub in_wide_words : (kind : Kind) (width : ℕ) (e a : List Bool) → length e ≡ length a → length e ≤ width
      → error_of (in_words kind width) e a ≡ word_error kind e a

-- In two's complement a word of one or more bits has a number from -2 ^ (width - 1) to 2 ^ (width - 1) - 1.
-- Turning its sign over adds 2 ^ (width - 1), so words whose signs are turned over are as far apart as their
-- numbers in two's complement were. The signed error is the distance of two natural numbers: the number of
-- each word and, added to it, what two's complement takes off the other word.
pub record SignedLaw : Type 0 where
  pub least : (bits : List Bool) → 0 < length bits
      → neg_ℤ (pos (2 ^ (length bits - 1))) ≤ℤ signed_number_of bits
  pub greatest : (bits : List Bool) → 0 < length bits → signed_number_of bits <ℤ pos (2 ^ (length bits - 1))
  pub flipped : (bits : List Bool) → 0 < length bits
      → pos (number_of (sign_flipped bits)) ≡ signed_number_of bits +ℤ pos (2 ^ (length bits - 1))
  pub flipped_error : (e a : List Bool) → length e ≡ length a
      → word_error Sabs e a ≡ word_error Abs (sign_flipped e) (sign_flipped a)
  pub naturals : (e a : List Bool)
      → word_error Sabs e a ≡ distance (number_of e + sign_weight a) (number_of a + sign_weight e)

-- a number of at most 64 digits is written as one decimal word, and no other decimal word reads as that
-- number
pub record NumeralLaw : Type 0 where
  pub decimal_word : (n : ℕ) → n < 10 ^ 64 → is_decimal (decimal n) ≡ true
  pub number : (n : ℕ) → n < 10 ^ 64 → digits_number (decimal n) ≡ n
  pub only : (word : Bytes) (n : ℕ) → n < 10 ^ 64 → is_decimal word ≡ true → digits_number word ≡ n
      → word ≡ decimal n

-- where the inputs agree through f, so does every signal; tables that are appended change no value
pub record EmbeddingLaw : Type 0 where
  pub values : (n : ℕ) (tables : List TableValue) (m : ℕ) (larger : List TableValue) (f : ℕ → ℕ)
      (x y : List Bool)
      → IsAcyclic n tables → IsAcyclic m larger → IsEmbedded n tables m larger f
      → ((i : ℕ) → i < n → slice_index_or y i false ≡ value_of m larger x (f i))
      → (s : ℕ) → s < n + length tables → value_of m larger x (f s) ≡ value_of n tables y s
  pub appended : (n : ℕ) (tables more : List TableValue) (x : List Bool) → IsAcyclic n tables
      → IsAcyclic n (tables ++ more)
      → (s : ℕ) → s < n + length tables → value_of n (tables ++ more) x s ≡ value_of n tables x s

-- one table of a list replaced, both lists acyclic
pub record ReplacedLaw : Type 0 where
  pub apart : (n : ℕ) (tables : List TableValue) (t : ℕ) (new : TableValue) (x : List Bool)
      → IsAcyclic n tables → IsAcyclic n (replaced tables t new)
      → (s : ℕ) → s < n + length tables → ¬ DependsOn n tables t s
      → value_of n (replaced tables t new) x s ≡ value_of n tables x s
  pub same : (n : ℕ) (tables : List TableValue) (t : ℕ) (new : TableValue) (x : List Bool)
      → IsAcyclic n tables → IsAcyclic n (replaced tables t new)
      → table_value new (value_of n tables x) ≡ value_of n tables x (n + t)
      → (s : ℕ) → s < n + length tables → value_of n (replaced tables t new) x s ≡ value_of n tables x s
  pub new : (n : ℕ) (tables : List TableValue) (t : ℕ) (new : TableValue) (x : List Bool)
      → IsAcyclic n tables → IsAcyclic n (replaced tables t new)
      → t < length tables → value_of n (replaced tables t new) x (n + t)
      ≡ table_value new (value_of n tables x)

-- no pin of a table depends on that table, and what depends on a table depends on any table that stands in
-- its place
pub record DependenceLaw : Type 0 where
  pub no_cycle : (n : ℕ) (tables : List TableValue) (t : ℕ) → IsAcyclic n tables → t < length tables
      → (p : ℕ) → Contains (table_at tables t).pins p → ¬ DependsOn n tables t p
  pub to_replaced : (n : ℕ) (tables : List TableValue) (t : ℕ) (new : TableValue) (s : ℕ)
      → DependsOn n tables t s → DependsOn n (replaced tables t new) t s
  pub from_replaced : (n : ℕ) (tables : List TableValue) (t : ℕ) (new : TableValue) (s : ℕ)
      → DependsOn n (replaced tables t new) t s → DependsOn n tables t s

-- tables have an order exactly where they are acyclic; an order grows by any table that may stand next; an
-- order has as many places as there are tables
pub record OrderLaw : Type 0 where
  pub exists : (n : ℕ) (tables : List TableValue) → IsAcyclic n tables
      → (order : List ℕ) × IsOrderOf n tables order
  pub acyclic : (n : ℕ) (tables : List TableValue) (order : List ℕ) → IsOrderOf n tables order
      → IsAcyclic n tables
  pub count : (n : ℕ) (tables : List TableValue) (order : List ℕ) → IsOrderOf n tables order
      → length order ≡ length tables
  pub next : (n : ℕ) (tables : List TableValue) (order : List ℕ) (i : ℕ) → IsOrderAfter n tables [] order
      → IsNext n tables order i
      → IsOrderAfter n tables [] (order ++ i ∷ [])

-- where each table is grounded in some number of steps, the tables are acyclic
abbrev pub GroundedLaw : Type 0
GroundedLaw = (n : ℕ) (tables : List TableValue)
    → ((i : ℕ) → i < length tables → (steps : ℕ) × IsGroundedIn n tables steps (n + i)) → IsAcyclic n tables

-- acyclic tables that are copied behind acyclic tables stand there embedded, and the whole is acyclic
pub record CopyLaw : Type 0 where
  pub embedded : (m : ℕ) (before : List TableValue) (n : ℕ) (tables copies : List TableValue) (f : ℕ → ℕ)
      → IsCopiedBehind m before n tables copies f → IsEmbedded n tables m (before ++ copies) f
  pub acyclic : (m : ℕ) (before : List TableValue) (n : ℕ) (tables copies : List TableValue) (f : ℕ → ℕ)
      → IsAcyclic m before → IsAcyclic n tables
      → IsCopiedBehind m before n tables copies f → IsAcyclic m (before ++ copies)
  pub values : (m : ℕ) (before : List TableValue) (n : ℕ) (tables copies : List TableValue) (f : ℕ → ℕ)
      → IsAcyclic m before → IsAcyclic n tables
      → IsCopiedBehind m before n tables copies f → (x y : List Bool)
      → ((i : ℕ) → i < n → slice_index_or y i false ≡ value_of m before x (f i))
      → (s : ℕ) → s < n + length tables → value_of m (before ++ copies) x (f s) ≡ value_of n tables y s

-- A table that reads signals of acyclic tables is appended, and the whole is acyclic. One table is replaced,
-- and the whole is acyclic exactly where the new table reads signals that do not depend on the old one; so it
-- is where the new table reads no signals but those that the old one reads.
pub record AcyclicLaw : Type 0 where
  pub appended : (n : ℕ) (tables : List TableValue) (new : TableValue) → IsAcyclic n tables
      → AllByRecursion (λ s. s < n + length tables) new.pins
      → IsAcyclic n (tables ++ new ∷ [])
  pub replaced_from : (n : ℕ) (tables : List TableValue) (t : ℕ) (new : TableValue) → IsAcyclic n tables
      → t < length tables
      → AllByRecursion (λ s. (s < n + length tables) × (¬ DependsOn n tables t s)) new.pins
      → IsAcyclic n (replaced tables t new)
  pub narrower : (n : ℕ) (tables : List TableValue) (t : ℕ) (new : TableValue) → IsAcyclic n tables
      → t < length tables
      → AllByRecursion (Contains (table_at tables t).pins) new.pins → IsAcyclic n (replaced tables t new)
  pub replaced_reads : (n : ℕ) (tables : List TableValue) (t : ℕ) (new : TableValue) → t < length tables
      → IsAcyclic n (replaced tables t new)
      → AllByRecursion (λ s. (s < n + length tables) × (¬ DependsOn n tables t s)) new.pins

-- the next table of an order, evaluated from what is known, has its value
abbrev pub EvaluationLaw : Type 0
EvaluationLaw = (n : ℕ) (tables : List TableValue) (x : List Bool) (before : List ℕ) (i : ℕ) (v : Assignment)
    → IsAcyclic n tables → IsNext n tables before i
    → ((s : ℕ) → IsKnown n before s → v s ≡ value_of n tables x s)
    → table_value (table_at tables i) v ≡ value_of n tables x (n + i)

-- pins that are renamed to signals of the same value change no value; to read a pin of table t in the place
-- of table t makes no cycle
pub record RenamedLaw : Type 0 where
  pub values : (n : ℕ) (tables : List TableValue) (f : ℕ → ℕ) (x : List Bool) → IsAcyclic n tables
      → IsAcyclic n (map (renamed f) tables)
      → ((s : ℕ) → s < n + length tables → value_of n tables x (f s) ≡ value_of n tables x s)
      → (s : ℕ) → s < n + length tables → value_of n (map (renamed f) tables) x s ≡ value_of n tables x s
  pub acyclic : (n : ℕ) (tables : List TableValue) (t p : ℕ) → IsAcyclic n tables
      → Contains (table_at tables t).pins p
      → IsAcyclic n (map (renamed (redirect (n + t) p)) tables)

-- a table that no table reads is left out: the others stay acyclic and keep their values
pub record WithoutLaw : Type 0 where
  pub embedded : (n : ℕ) (tables : List TableValue) (t : ℕ) → t < length tables
      → ((i : ℕ) → i < length tables → ¬ Contains (table_at tables i).pins (n + t))
      → IsEmbedded n (without n tables t) n tables (raised (n + t))
  pub acyclic : (n : ℕ) (tables : List TableValue) (t : ℕ) → t < length tables → IsAcyclic n tables
      → ((i : ℕ) → i < length tables → ¬ Contains (table_at tables i).pins (n + t))
      → IsAcyclic n (without n tables t)
  pub values : (n : ℕ) (tables : List TableValue) (t : ℕ) → t < length tables → IsAcyclic n tables
      → ((i : ℕ) → i < length tables → ¬ Contains (table_at tables i).pins (n + t))
      → (x : List Bool) (s : ℕ) → s + 1 < n + length tables
      → value_of n tables x (raised (n + t) s) ≡ value_of n (without n tables t) x s

-- Each refusal is absent exactly where no part has the fault that it names, and all of them are absent
-- exactly where well-formed parts are a small sound net. The refusal that is told is the one that holds where
-- no refusal before it holds.
pub record RefusalLaw : Type 0 where
  pub undoubled : (names : List Bytes) → (first_doubled names ≡ None) ↔ AllPairs ◌≢◌ names
  pub driven : (N : NetValue)
      → (first_undriven N ≡ None)
      ↔ (All (λ t. All (λ s. s < signal_count N) t.pins) N.tables
      × All (λ s. s < signal_count N) N.outputs)
  pub grounded : (n : ℕ) (tables : List TableValue) → (first_ungrounded n tables ≡ None) ↔ IsAcyclic n tables
  pub ungrounded : (n : ℕ) (tables : List TableValue) (i : ℕ)
      → (first_ungrounded n tables ≡ Some i) ↔ IsFirstUngrounded n tables i
  pub small : (N : NetValue) → (first_limit N ≡ None) ↔ IsSmall N
  pub told : (N : NetValue) (r : NetRefused) → (net_refusal N ≡ Some r) ↔ IsTold N r
  pub whole : (N : NetValue) → IsName N.model → All IsName N.inputs → All IsTable N.tables
      → (net_refusal N ≡ None) ↔ (IsSound N × IsSmall N)
