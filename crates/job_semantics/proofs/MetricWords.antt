-- A word names a metric exactly where it is the metric's word.
use Rattle.std.proofs.Common.{◌≡◌, ◌↔◌, ◌⊎◌, inl, inr, ℕ, ◌^◌, ◌<◌, ◌≤◌, Bool, true, false, cond, ◌&&◌, List, [], ◌∷◌, ◌++◌, All, codes, decimal, bytes_eq, nat_le}
use Rattle.std.proofs.Common.{Option, Some, None, if◌then◌else◌, refl, ap, sym, subst, ◌∙◌, append-nil, lit<, arith}
use Rattle.std.specs.List.{list_all, AllByRecursion, slice_split, join_with_byte}
use Rattle.std.proofs.lemmas.Bool.{and_parts, leb-true, le-leb}
use Rattle.std.proofs.lemmas.Bool.Decides.{nat_tests}
use Rattle.std.proofs.lemmas.Option.{none-some, same_Some, option_and_then_some}
use Rattle.std.proofs.lemmas.Slice.Eq.{bytes_eq-Decides}
use Rattle.std.proofs.lemmas.List.Elements.{All-from_recursion}
use Rattle.std.proofs.lemmas.List.Splits.{join_with_byte-slice_split, slice_split_none, slice_split_at}
use Rattle.semantics.specs.Texts.{Bytes}
use Rattle.semantics.specs.Decimal.{is_digit, digits_number, is_decimal}
use Rattle.semantics.specs.Error.{one_word, in_words}
use Rattle.semantics.specs.declared.metric.Metric.{Metric}
use Rattle.semantics.specs.declared.metric.Kind.{Kind}
use Rattle.semantics.specs.declared.metric.Kind.TheVariants.{Abs, Rel, Ham, Sabs}
use Rattle.semantics.specs.declared.limits.TheConstants.{MOST_OUTPUTS}
use Rattle.semantics.proofs.Numerals.{digits_number-decimal, is_decimal-decimal, decimal_from}
use Rattle.job_semantics.specs.Job.{number_from_to, kind_of, is_slash, metric_of, metric_of_parts, HasNamedWidth}
use Rattle.job_semantics.specs.Report.{kind_word, metric_word}
use Rattle.job_semantics.proofs.ReportTexts.{digits-decimal}

-- ---- kinds

named : (kind : Kind) → kind_of (kind_word kind) ≡ Some kind
named Abs = refl
named Rel = refl
named Ham = refl
named Sabs = refl

told_if : (told : Bool) (x r : Kind) (rest : Option Kind) → cond told (Some x) rest ≡ Some r → ((told ≡ true) × (x ≡ r)) ⊎ (rest ≡ Some r)
told_if true x r rest e = inl (refl, same_Some x r e)
told_if false x r rest e = inr e

its_word : (word : Bytes) (x kind : Kind) → bytes_eq word (kind_word x) ≡ true → x ≡ kind → word ≡ kind_word kind
its_word word x kind t same = (bytes_eq-Decides word (kind_word x)).0 t ∙ ap kind_word same

only_named : (word : Bytes) (kind : Kind) → kind_of word ≡ Some kind → word ≡ kind_word kind
only_named word kind e =
    elim (told_if (bytes_eq word (codes "abs")) Abs kind _ e) [
      | inl h ↦ its_word word Abs kind h.0 h.1
      | inr a ↦ elim (told_if (bytes_eq word (codes "rel")) Rel kind _ a) [
        | inl h ↦ its_word word Rel kind h.0 h.1
        | inr b ↦ elim (told_if (bytes_eq word (codes "ham")) Ham kind _ b) [
          | inl h ↦ its_word word Ham kind h.0 h.1
          | inr c ↦ elim (told_if (bytes_eq word (codes "sabs")) Sabs kind None c) [
            | inl h ↦ its_word word Sabs kind h.0 h.1
            | inr z ↦ absurd (none-some kind z)
          ]
        ]
      ]
    ]

no_slash_in_kind : (kind : Kind) → All (λ c. is_slash c ≡ false) (kind_word kind)
no_slash_in_kind Abs = All-from_recursion (λ c. is_slash c ≡ false) (codes "abs") (refl, (refl, (refl, tt)))
no_slash_in_kind Rel = All-from_recursion (λ c. is_slash c ≡ false) (codes "rel") (refl, (refl, (refl, tt)))
no_slash_in_kind Ham = All-from_recursion (λ c. is_slash c ≡ false) (codes "ham") (refl, (refl, (refl, tt)))
no_slash_in_kind Sabs = All-from_recursion (λ c. is_slash c ≡ false) (codes "sabs") (refl, (refl, (refl, (refl, tt))))

-- ---- widths

pub large : MOST_OUTPUTS < 10 ^ 64
large = lit< tt

-- a number that a word names is in the range, and the word is the number's
pub number_word : (low high : ℕ) (word : Bytes) (n : ℕ) → high < 10 ^ 64 → number_from_to low high word ≡ Some n → (word ≡ decimal n) × ((low ≤ n) × (n ≤ high))
number_word low high word n few is = at_test (is_decimal word && (nat_le low (digits_number word) && nat_le (digits_number word) high)) refl is
  where
    at_test : (t : Bool) → (is_decimal word && (nat_le low (digits_number word) && nat_le (digits_number word) high)) ≡ t → (if t then Some (digits_number word) else None) ≡ Some n
        → (word ≡ decimal n) × ((low ≤ n) × (n ≤ high))
    at_test true holds e =
        let same : digits_number word ≡ n = same_Some (digits_number word) n e in
        let parts = and_parts (is_decimal word) _ holds in
        let bounds = and_parts (nat_le low (digits_number word)) (nat_le (digits_number word) high) parts.1 in
        let range : (low ≤ n) × (n ≤ high) = subst (λ m. (low ≤ m) × (m ≤ high)) same (leb-true low (digits_number word) bounds.0, leb-true (digits_number word) high bounds.1) in
        (decimal_from word n (omega (arith, few, range.1)) parts.0 same, range)
    at_test false holds e = absurd (none-some n e)

-- the number's word names the number where it is in the range
pub number_word-names : (low high n : ℕ) → high < 10 ^ 64 → low ≤ n → n ≤ high → number_from_to low high (decimal n) ≡ Some n
number_word-names low high n few least most =
    let value = digits_number-decimal n (omega (arith, few, most)) in
    let digits = is_decimal-decimal n (omega (arith, few, most)) in
    rw (digits, value, le-leb low n least, le-leb n high most) refl

digit-no_slash : (c : ℕ) → is_digit c ≡ true → is_slash c ≡ false
digit-no_slash c h = grind (arith, nat_tests)

each_no_slash : (word : Bytes) → list_all is_digit word ≡ true → AllByRecursion (λ c. is_slash c ≡ false) word
each_no_slash [] h = tt
each_no_slash (c ∷ word) h = let parts = and_parts (is_digit c) (list_all is_digit word) h in (digit-no_slash c parts.0, each_no_slash word parts.1)

-- a number's word has no slash
pub decimal-one_part : (n : ℕ) → n < 10 ^ 64 → slice_split is_slash (decimal n) ≡ decimal n ∷ []
decimal-one_part n few =
    let digits = digits-decimal (decimal n) (is_decimal-decimal n few) in
    slice_split_none is_slash (decimal n) (All-from_recursion (λ c. is_slash c ≡ false) (decimal n) (each_no_slash (decimal n) digits))

-- ---- metrics

-- the parts, joined by a slash, are the metric's word, and its width is in the range
Names : List Bytes → Metric → Type 0
Names parts metric = (join_with_byte 47 parts ≡ metric_word metric) × HasNamedWidth metric

named_parts : (parts : List Bytes) (metric : Metric) → metric_of_parts parts ≡ Some metric → Names parts metric
unfolding Names
named_parts [] metric e = absurd (none-some metric e)
named_parts (k ∷ []) metric e =
    option_and_then_some (λ kind. Some (one_word kind)) (kind_of k) metric e (λ kind is same.
    subst (Names (k ∷ [])) (same_Some (one_word kind) metric same) (only_named k kind is ∙ sym (append-nil (kind_word kind)), tt))
named_parts (k ∷ w ∷ []) metric e =
    option_and_then_some _ (kind_of k) metric e (λ kind is more.
    option_and_then_some (λ width. Some (in_words kind width)) (number_from_to 1 MOST_OUTPUTS w) metric more (λ width named_width same.
    let number = number_word 1 MOST_OUTPUTS w width large named_width in
    subst (Names (k ∷ w ∷ [])) (same_Some (in_words kind width) metric same) ((λ i. only_named k kind is i ++ 47 ∷ number.0 i), number.1)))
named_parts (k ∷ w ∷ v ∷ parts) metric e = absurd (none-some metric e)

only_metric : (word : Bytes) (metric : Metric) → metric_of word ≡ Some metric → (word ≡ metric_word metric) × HasNamedWidth metric
unfolding Names
only_metric word metric e =
    let parts : Names (slice_split is_slash word) metric = named_parts (slice_split is_slash word) metric e in
    (sym (join_with_byte-slice_split 47 word) ∙ parts.0, parts.1)

metric_named : (kind : Kind) (width : Option ℕ) → let metric : Metric = record { kind = kind; width = width } in
    HasNamedWidth metric → metric_of (metric_word metric) ≡ Some metric
metric_named kind None h =
    ap metric_of (append-nil (kind_word kind)) ∙ ap metric_of_parts (slice_split_none is_slash (kind_word kind) (no_slash_in_kind kind)) ∙ rw (named kind) refl
metric_named kind (Some w) h =
    let alone = decimal-one_part w (omega (arith, large, h.1)) in
    ap metric_of_parts (slice_split_at is_slash (kind_word kind) 47 (decimal w) (no_slash_in_kind kind) refl ∙ ap (λ p. kind_word kind ∷ p) alone)
    ∙ rw (named kind, number_word-names 1 MOST_OUTPUTS w large h.0 h.1) refl

pub metric_word-names : (word : Bytes) (metric : Metric) → (metric_of word ≡ Some metric) ↔ ((word ≡ metric_word metric) × HasNamedWidth metric)
metric_word-names word metric = (only_metric word metric, λ e. ap metric_of e.0 ∙ metric_named metric.kind metric.width e.1)
