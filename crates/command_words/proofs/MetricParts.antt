-- The word of a metric, cut at its first slash.
use Rattle.std.proofs.Common.{◌≡◌, ◌+◌, ℕ, Bool, true, false, cond, List, [], ◌∷◌, length, take, drop, ltb, Option, Some, None, refl, ap, sym, subst, ◌∙◌, arith}
use Rattle.std.specs.List.{position, position_or_len, slice_split, join_with_byte}
use Rattle.std.specs.Option.{option_and_then}
use Rattle.std.proofs.lemmas.Bool.{ltb-true, ltb-false}
use Rattle.std.proofs.lemmas.Option.{none-some, same_Some}
use Rattle.std.proofs.lemmas.List.Splits.{length-slice_split, join_with_byte-slice_split, slice_split_first, slice_split_none}
use Rattle.std.proofs.lemmas.List.Sums.{fails_before_first}
use Rattle.semantics.specs.Texts.{Bytes}
use Rattle.semantics.specs.Error.{one_word, in_words}
use Rattle.semantics.specs.declared.metric.Kind.{Kind}
use Rattle.semantics.specs.declared.metric.Metric.{Metric}
use Rattle.semantics.specs.declared.limits.TheConstants.{MOST_OUTPUTS}
use Rattle.job_semantics.specs.Job.{number_from_to, kind_of, is_slash, metric_of, metric_of_parts}
use Rattle.job_semantics.proofs.MetricWords.{large, number_word, decimal-one_part}

-- without a slash the word is one part
pub metric-whole : (word : Bytes) → position is_slash word ≡ None → metric_of word ≡ option_and_then (λ kind. Some (one_word kind)) (kind_of word)
metric-whole word is = ap metric_of_parts (alone (ltb (position_or_len is_slash word) (length word)) refl is)
  where
    alone : (t : Bool) → ltb (position_or_len is_slash word) (length word) ≡ t → cond t (Some (position_or_len is_slash word)) None ≡ None → slice_split is_slash word ≡ word ∷ []
    alone true low e = absurd (none-some _ (sym e))
    alone false past e =
        let far = ltb-false (position_or_len is_slash word) (length word) past in
        slice_split_none is_slash word (λ k d low. fails_before_first is_slash word k d (omega (arith, low, far)))

-- with a slash the word is what stands before it, and the parts of what stands behind it
parts-first : (word : Bytes) (at : ℕ) → position is_slash word ≡ Some at → slice_split is_slash word ≡ take at word ∷ slice_split is_slash (drop (at + 1) word)
parts-first word at is = at_test (ltb (position_or_len is_slash word) (length word)) refl is
  where
    at_test : (t : Bool) → ltb (position_or_len is_slash word) (length word) ≡ t → cond t (Some (position_or_len is_slash word)) None ≡ Some at
        → slice_split is_slash word ≡ take at word ∷ slice_split is_slash (drop (at + 1) word)
    at_test true low e =
        subst (λ k. slice_split is_slash word ≡ take k word ∷ slice_split is_slash (drop (k + 1) word)) (same_Some _ _ e)
        (slice_split_first is_slash word 0 (ltb-true (position_or_len is_slash word) (length word) low))
    at_test false past e = absurd (none-some at e)

-- what is no number names no metric behind a slash, in one part or in more
no_number : (front after : Bytes) (parts : List Bytes) → slice_split is_slash after ≡ parts → number_from_to 1 MOST_OUTPUTS after ≡ None
    → metric_of_parts (front ∷ parts) ≡ metric_of_parts (front ∷ after ∷ [])
no_number front after [] cut none = absurd (omega (arith, length-slice_split is_slash after, ap length cut))
no_number front after (w ∷ []) cut none =
    let same : w ≡ after = ap (join_with_byte 47) (sym cut) ∙ join_with_byte-slice_split 47 after in
    ap (λ v. metric_of_parts (front ∷ v ∷ [])) same
no_number front after (w ∷ v ∷ parts) cut none = rw none (sym (no_kind (kind_of front)))
  where
    no_kind : (o : Option Kind) → option_and_then {U = Metric} (λ kind. None) o ≡ None
    no_kind None = refl
    no_kind (Some kind) = refl

two_parts : (front after : Bytes) → metric_of_parts (front ∷ slice_split is_slash after) ≡ metric_of_parts (front ∷ after ∷ [])
two_parts front after = at_number (number_from_to 1 MOST_OUTPUTS after) refl
  where
    at_number : (o : Option ℕ) → number_from_to 1 MOST_OUTPUTS after ≡ o → metric_of_parts (front ∷ slice_split is_slash after) ≡ metric_of_parts (front ∷ after ∷ [])
    at_number None is = no_number front after (slice_split is_slash after) refl is
    at_number (Some n) is =
        let number = number_word 1 MOST_OUTPUTS after n large is in
        let alone : slice_split is_slash after ≡ after ∷ [] = subst (λ w. slice_split is_slash w ≡ w ∷ []) (sym number.0) (decimal-one_part n (omega (arith, large, number.1.1))) in
        ap (λ ps. metric_of_parts (front ∷ ps)) alone

pub metric-cut : (word : Bytes) (at : ℕ) → position is_slash word ≡ Some at
    → metric_of word ≡ option_and_then (λ kind. option_and_then (λ width. Some (in_words kind width)) (number_from_to 1 MOST_OUTPUTS (drop (at + 1) word))) (kind_of (take at word))
metric-cut word at is = ap metric_of_parts (parts-first word at is) ∙ two_parts (take at word) (drop (at + 1) word)

-- ---- the word by what its parts are

pub metric-no_kind : (word : Bytes) → position is_slash word ≡ None → kind_of word ≡ None → metric_of word ≡ None
metric-no_kind word is none = metric-whole word is ∙ rw none refl

pub metric-no_kind_before : (word : Bytes) (at : ℕ) → position is_slash word ≡ Some at → kind_of (take at word) ≡ None → metric_of word ≡ None
metric-no_kind_before word at is none = metric-cut word at is ∙ rw none refl

pub metric-no_width : (word : Bytes) (at : ℕ) (kind : Kind) → position is_slash word ≡ Some at → kind_of (take at word) ≡ Some kind
    → number_from_to 1 MOST_OUTPUTS (drop (at + 1) word) ≡ None → metric_of word ≡ None
metric-no_width word at kind is named none = metric-cut word at is ∙ rw (named, none) refl

pub metric-named : (word : Bytes) (at : ℕ) (kind : Kind) (width : ℕ) → position is_slash word ≡ Some at → kind_of (take at word) ≡ Some kind
    → number_from_to 1 MOST_OUTPUTS (drop (at + 1) word) ≡ Some width → metric_of word ≡ Some (in_words kind width)
metric-named word at kind width is named counted = metric-cut word at is ∙ rw (named, counted) refl
