-- The tables of the words, one word behind another.
use Rattle.std.proofs.Common.{◌≡◌, ℕ, suc, ◌+◌, ◌<◌, ◌≤◌, List, [], ◌∷◌, length, refl, ap, ◌∙◌, arith}
use Rattle.std.specs.List.{range_with_len}
use Rattle.std.proofs.lemmas.List.FromFn.{length-range_with_len}
use Rattle.semantics.specs.Net.{NetValue}
use Rattle.semantics.specs.declared.metric.Metric.{Metric}
use Rattle.semantics.specs.Error.{word_width, word_count}
use Rattle.quality_semantics.specs.WordNets.{WordNetValue, signals, net_of}
use Rattle.quality_semantics.specs.Buses.{WithSignal}
use Rattle.quality_semantics.specs.Quality.{word_quality, exact_bus, approximate_bus, joined, after_words, quality, quality_net}
use Rattle.quality_semantics.proofs.Growth.{begins_signals}
use Rattle.quality_semantics.proofs.Quality.{word_quality_is}
use Rattle.quality_semantics.proofs.Words.{IsOverSome, word_pair, words_inside, after_words_is}

-- ---- one word

pub bus_length : (from size : ℕ) (bus : List ℕ) → bus ≡ range_with_len from size → length bus ≡ size
bus_length from size bus is = rw is (length-range_with_len from size)

-- ---- one word behind another

abbrev first_words : Metric → (n k j : ℕ) → WithSignal
first_words metric n k j = after_words metric.kind (word_width metric n) n k j

-- the network after the first j words, and what they say
abbrev pub AreFirstWords : Metric → (n k j : ℕ) → WordNetValue → ℕ → Type 0
AreFirstWords metric n k j W s
    = (W ≡ (after_words metric.kind (word_width metric n) n k j).net) × (s ≡ (after_words metric.kind (word_width metric n) n k j).signal)

first_words_are : (metric : Metric) (n k j : ℕ) → j ≤ word_count metric n → IsOverSome metric.kind (word_width metric n) n k j (first_words metric n k j)
first_words_are metric n k j low = after_words_is metric.kind (word_width metric n) n k j (λ i below. words_inside metric n i (omega (arith, low, below)))

pub words_inputs : (metric : Metric) (n k j : ℕ) (W : WordNetValue) (s : ℕ) → AreFirstWords metric n k j W s → j ≤ word_count metric n → W.inputs ≡ n + n
words_inputs metric n k j W s h low = ap (λ (V : WordNetValue). V.inputs) h.0 ∙ (first_words_are metric n k j low).begins.inputs

pub words_within : (metric : Metric) (n k j : ℕ) (W : WordNetValue) (s : ℕ) → AreFirstWords metric n k j W s → j ≤ word_count metric n → s < signals W
words_within metric n k j W s h low = rw (h.0, h.1) (first_words_are metric n k j low).formed.signal

-- what the words so far say stays where the tables of the next word come behind it
pub words_kept : (metric : Metric) (n k j : ℕ) (W V : WordNetValue) (s : ℕ) → AreFirstWords metric n k j W s → j < word_count metric n
    → V ≡ (word_quality metric.kind W (exact_bus (word_width metric n) n j) (approximate_bus (word_width metric n) n j) k).net → s < signals V
words_kept metric n k j W V s h low is =
    let w : ℕ = word_width metric n in
    let first = first_words_are metric n k j (omega (arith, low)) in
    let F = first_words metric n k j in
    let pair = word_pair F.net w n j first.formed.net first.begins (words_inside metric n j low) in
    let grows = begins_signals F.net _ (word_quality_is metric.kind F.net (exact_bus w n j) (approximate_bus w n j) k pair).begins in
    rw (is, h.0, h.1) (omega (arith, first.formed.signal, grows))

-- one word more
pub next_words : (metric : Metric) (n k j : ℕ) (W V U : WordNetValue) (s t u : ℕ) → AreFirstWords metric n k j W s
    → V ≡ (word_quality metric.kind W (exact_bus (word_width metric n) n j) (approximate_bus (word_width metric n) n j) k).net
    → t ≡ (word_quality metric.kind W (exact_bus (word_width metric n) n j) (approximate_bus (word_width metric n) n j) k).signal
    → U ≡ (joined j s (record { net = V; signal = t })).net → u ≡ (joined j s (record { net = V; signal = t })).signal → AreFirstWords metric n k (j + 1) U u
next_words metric n k j W V U s t u h net signal all over =
    let on : j + 1 ≡ suc j = omega arith in
    rw (on, all, over, net, signal, h.0, h.1) (refl, refl)

-- ---- the whole network

pub all_words : (metric : Metric) (n k s : ℕ) (W : WordNetValue) (N : NetValue) → W ≡ (after_words metric.kind (word_width metric n) n k (word_count metric n)).net
    → s ≡ (after_words metric.kind (word_width metric n) n k (word_count metric n)).signal → N ≡ net_of W (s ∷ []) → N ≡ quality_net metric n k
unfolding quality
all_words metric n k s W N words over is = rw (is, words, over) refl
