-- The text of a report, from its first byte to its last, and that it is the text of no other report.
use Rattle.std.proofs.Common.{◌≡◌, ℕ, ◌^◌, ◌<◌, ◌≤◌, Bool, true, false, ◌&&◌, List, [], ◌∷◌, ◌++◌, length, get_or, drop, decimal, refl, ap, sym, ◌∙◌, append_assoc, codes, lit<, arith}
use Rattle.std.specs.List.{list_all, take_while, AllByRecursion}
use Rattle.std.proofs.lemmas.Bool.{and_parts}
use Rattle.std.proofs.lemmas.List.{append_cancel_left}
use Rattle.std.proofs.lemmas.List.Sums.{take_while-cons}
use Rattle.semantics.specs.declared.limits.TheConstants.{LARGEST_ERROR}
use Rattle.semantics.specs.Texts.{Bytes, line_text, text_of, bits_word}
use Rattle.semantics.specs.Decimal.{is_digit, digits_number, is_decimal}
use Rattle.semantics.specs.declared.metric.Metric.{Metric}
use Rattle.semantics.proofs.Numerals.{digits_number-decimal, is_decimal-decimal}
use Rattle.job_semantics.specs.declared.version.Version.{Version}
use Rattle.job_semantics.specs.declared.version.Version.TheVariants.{One, Two}
use Rattle.job_semantics.specs.Report.{Report, version_word, metric_word, yes_word, report_lines, report_text}

-- ---- the text

-- the text before the maximum
abbrev pub report_head : Version → Metric → ℕ → Bytes → Bytes
report_head version metric bound rest =
    codes "salsa " ++ (version_word version ++ 10 ∷ (codes "metric " ++ (metric_word metric ++ 10 ∷ (codes "bound " ++ (decimal bound ++ 10 ∷ (codes "maximum " ++ rest))))))

-- a key, two numbers and a line end, before the rest
abbrev pub counts_line : Bytes → ℕ → ℕ → Bytes → Bytes
counts_line key old new rest = key ++ (decimal old ++ 32 ∷ (decimal new ++ 10 ∷ rest))

-- the text from the maximum on
abbrev pub report_rest : Report → Bytes
report_rest r =
    decimal r.maximum ++ 10 ∷ (codes "witness " ++ (bits_word r.witness ++ 10 ∷ counts_line (codes "tables ") r.old_tables r.new_tables
    (counts_line (codes "literals ") r.old_literals r.new_literals (codes "minimal " ++ (yes_word r.minimal ++ 10 ∷ [])))))

-- a line of two words, and one of three, before the rest
pub two_words : (key word rest : Bytes) → line_text (key ∷ word ∷ []) ++ rest ≡ key ++ 32 ∷ (word ++ 10 ∷ rest)
two_words key word rest =
    append_assoc (key ++ 32 ∷ word) (10 ∷ []) rest ∙ append_assoc key (32 ∷ word) (10 ∷ rest)

three_words : (key old new rest : Bytes) → line_text (key ∷ old ∷ new ∷ []) ++ rest ≡ key ++ 32 ∷ (old ++ 32 ∷ (new ++ 10 ∷ rest))
three_words key old new rest =
    append_assoc (key ++ 32 ∷ (old ++ 32 ∷ new)) (10 ∷ []) rest
    ∙ append_assoc key (32 ∷ (old ++ 32 ∷ new)) (10 ∷ rest)
    ∙ ap (λ t. key ++ 32 ∷ t) (append_assoc old (32 ∷ new) (10 ∷ rest))

minimal_line : (minimal : Bool) → text_of ((codes "minimal" ∷ yes_word minimal ∷ []) ∷ []) ≡ codes "minimal " ++ (yes_word minimal ++ 10 ∷ [])
unfolding text_of
minimal_line minimal = two_words (codes "minimal") (yes_word minimal) []

pub report_text-is : (r : Report) → report_text r ≡ report_head r.version r.metric r.bound (report_rest r)
unfolding report_text text_of
report_text-is r =
    two_words (codes "salsa") (version_word r.version) (text_of (drop 1 (report_lines r)))
    ∙ ap (λ t. codes "salsa " ++ (version_word r.version ++ 10 ∷ t)) (
    two_words (codes "metric") (metric_word r.metric) (text_of (drop 2 (report_lines r)))
    ∙ ap (λ t. codes "metric " ++ (metric_word r.metric ++ 10 ∷ t)) (
    two_words (codes "bound") (decimal r.bound) (text_of (drop 3 (report_lines r)))
    ∙ ap (λ t. codes "bound " ++ (decimal r.bound ++ 10 ∷ t)) (
    two_words (codes "maximum") (decimal r.maximum) (text_of (drop 4 (report_lines r)))
    ∙ ap (λ t. codes "maximum " ++ (decimal r.maximum ++ 10 ∷ t)) (
    two_words (codes "witness") (bits_word r.witness) (text_of (drop 5 (report_lines r)))
    ∙ ap (λ t. codes "witness " ++ (bits_word r.witness ++ 10 ∷ t)) (
    three_words (codes "tables") (decimal r.old_tables) (decimal r.new_tables) (text_of (drop 6 (report_lines r)))
    ∙ ap (counts_line (codes "tables ") r.old_tables r.new_tables) (
    three_words (codes "literals") (decimal r.old_literals) (decimal r.new_literals) (text_of (drop 7 (report_lines r)))
    ∙ ap (counts_line (codes "literals ") r.old_literals r.new_literals) (minimal_line r.minimal)))))))

-- ---- what stands in front of a text is cut off in one way

pub digits-decimal : (word : Bytes) → is_decimal word ≡ true → list_all is_digit word ≡ true
digits-decimal [] h = refl
digits-decimal (c ∷ []) h = ap (λ b. b && true) h
digits-decimal (c ∷ d ∷ word) h = (and_parts _ (list_all is_digit (c ∷ d ∷ word)) h).1

front_digits : (word : Bytes) (c : ℕ) (rest : Bytes) → list_all is_digit word ≡ true → is_digit c ≡ false → take_while is_digit (word ++ c ∷ rest) ≡ word
front_digits [] c rest all last = take_while-cons is_digit c rest ∙ rw last refl
front_digits (d ∷ word) c rest all last =
    let parts = and_parts (is_digit d) (list_all is_digit word) all in
    take_while-cons is_digit d (word ++ c ∷ rest) ∙ rw (parts.0, front_digits word c rest parts.1 last) refl

-- a number before a byte that is no digit
pub number-cut : (n m c d : ℕ) (s t : Bytes) → n < 10 ^ 64 → m < 10 ^ 64 → is_digit c ≡ false → is_digit d ≡ false
    → decimal n ++ c ∷ s ≡ decimal m ++ d ∷ t → (n ≡ m) × (c ∷ s ≡ d ∷ t)
number-cut n m c d s t few fewer end_n end_m same =
    let words : decimal n ≡ decimal m =
    sym (front_digits (decimal n) c s (digits-decimal (decimal n) (is_decimal-decimal n few)) end_n)
    ∙ ap (take_while is_digit) same
    ∙ front_digits (decimal m) d t (digits-decimal (decimal m) (is_decimal-decimal m fewer)) end_m in (
      sym (digits_number-decimal n few) ∙ ap digits_number words ∙ digits_number-decimal m fewer,
      append_cancel_left (decimal n) (c ∷ s) (d ∷ t) (same ∙ ap (λ w. w ++ d ∷ t) (sym words)),
    )

pub bits-cut : (x y : List Bool) (s t : Bytes) → length x ≡ length y → bits_word x ++ s ≡ bits_word y ++ t → (x ≡ y) × (s ≡ t)
bits-cut [] [] s t width same = (refl, same)
bits-cut [] (b ∷ y) s t width same = absurd (omega arith)
bits-cut (a ∷ x) [] s t width same = absurd (omega arith)
bits-cut (true ∷ x) (true ∷ y) s t width same =
    let rest = bits-cut x y s t (omega arith) (append_cancel_left (49 ∷ []) (bits_word x ++ s) (bits_word y ++ t) same) in (ap (λ z. true ∷ z) rest.0, rest.1)
bits-cut (false ∷ x) (false ∷ y) s t width same =
    let rest = bits-cut x y s t (omega arith) (append_cancel_left (48 ∷ []) (bits_word x ++ s) (bits_word y ++ t) same) in (ap (λ z. false ∷ z) rest.0, rest.1)
bits-cut (true ∷ x) (false ∷ y) s t width same = absurd (let e : 49 ≡ 48 = ap (λ l. get_or l 0 0) same in omega arith)
bits-cut (false ∷ x) (true ∷ y) s t width same = absurd (let e : 48 ≡ 49 = ap (λ l. get_or l 0 0) same in omega arith)

counts-cut : (key : Bytes) (a b c d : ℕ) (s t : Bytes) → a < 2 ^ 32 → b < 2 ^ 32 → c < 2 ^ 32 → d < 2 ^ 32
    → counts_line key a b s ≡ counts_line key c d t → (a ≡ c) × (b ≡ d) × (s ≡ t)
counts-cut key a b c d s t fa fb fc fd same =
    let first = number-cut a c 32 32 (decimal b ++ 10 ∷ s) (decimal d ++ 10 ∷ t) (few a fa) (few c fc) refl refl
    (append_cancel_left key (decimal a ++ 32 ∷ (decimal b ++ 10 ∷ s)) (decimal c ++ 32 ∷ (decimal d ++ 10 ∷ t)) same) in
    let second = number-cut b d 10 10 s t (few b fb) (few d fd) refl refl
    (append_cancel_left (32 ∷ []) (decimal b ++ 10 ∷ s) (decimal d ++ 10 ∷ t) first.1) in
    (first.0, second.0, append_cancel_left (10 ∷ []) s t second.1)
  where
    few : (n : ℕ) → n < 2 ^ 32 → n < 10 ^ 64
    few n h = let large : 2 ^ 32 < 10 ^ 64 = lit< tt in omega arith

yes-cut : (a b : Bool) → yes_word a ++ 10 ∷ [] ≡ yes_word b ++ 10 ∷ [] → a ≡ b
yes-cut true true same = refl
yes-cut false false same = refl
yes-cut true false same = absurd (let e : 121 ≡ 110 = ap (λ l. get_or l 0 0) same in omega arith)
yes-cut false true same = absurd (let e : 110 ≡ 121 = ap (λ l. get_or l 0 0) same in omega arith)

-- ---- a text is that of one report

-- the version's one digit tells it
version-cut : (v w : Version) (s t : Bytes) → version_word v ++ s ≡ version_word w ++ t → v ≡ w
version-cut One One s t same = refl
version-cut Two Two s t same = refl
version-cut One Two s t same = absurd (let e : 49 ≡ 50 = ap (λ l. get_or l 0 0) same in omega arith)
version-cut Two One s t same = absurd (let e : 50 ≡ 49 = ap (λ l. get_or l 0 0) same in omega arith)

head-cut : (version : Version) (metric : Metric) (bound : ℕ) (s t : Bytes) → report_head version metric bound s ≡ report_head version metric bound t → s ≡ t
head-cut version metric bound s t same =
    append_cancel_left (codes "maximum ") s t
    (append_cancel_left (10 ∷ []) _ _
    (append_cancel_left (decimal bound) _ _
    (append_cancel_left (codes "bound ") _ _
    (append_cancel_left (10 ∷ []) _ _
    (append_cancel_left (metric_word metric) _ _
    (append_cancel_left (codes "metric ") _ _
    (append_cancel_left (10 ∷ []) _ _
    (append_cancel_left (version_word version) _ _
    (append_cancel_left (codes "salsa ") _ _ same)))))))))

-- numbers that a report may hold
pub record AreFew (r : Report) : Type 0 where
  pub maximum : r.maximum ≤ LARGEST_ERROR
  pub counts : AllByRecursion (λ count. count < 2 ^ 32) (r.old_tables ∷ r.new_tables ∷ r.old_literals ∷ r.new_literals ∷ [])

pub few_digits : (n : ℕ) → n ≤ LARGEST_ERROR → n < 10 ^ 64
few_digits n h = let large : LARGEST_ERROR < 10 ^ 64 = lit< tt in omega arith

pub rest-cut : (r s : Report) → AreFew r → AreFew s → r.version ≡ s.version → r.metric ≡ s.metric → r.bound ≡ s.bound → length r.witness ≡ length s.witness
    → report_rest r ≡ report_rest s → r ≡ s
rest-cut r s few fewer version metric bound width same =
    let maximum = number-cut r.maximum s.maximum 10 10 _ _ (few_digits r.maximum few.maximum) (few_digits s.maximum fewer.maximum) refl refl same in
    let witness = bits-cut r.witness s.witness _ _ width (append_cancel_left (10 ∷ codes "witness ") _ _ maximum.1) in
    let tables = counts-cut (codes "tables ") r.old_tables r.new_tables s.old_tables s.new_tables _ _ few.counts.0 few.counts.1.0 fewer.counts.0 fewer.counts.1.0
    (append_cancel_left (10 ∷ []) _ _ witness.1) in
    let literals = counts-cut (codes "literals ") r.old_literals r.new_literals s.old_literals s.new_literals _ _
    few.counts.1.1.0 few.counts.1.1.1.0 fewer.counts.1.1.0 fewer.counts.1.1.1.0 tables.2 in
    let minimal = yes-cut r.minimal s.minimal (append_cancel_left (codes "minimal ") _ _ literals.2) in
    λ i. record {
      version = version i;
      metric = metric i;
      bound = bound i;
      maximum = maximum.0 i;
      witness = witness.0 i;
      old_tables = tables.0 i;
      new_tables = tables.1 i;
      old_literals = literals.0 i;
      new_literals = literals.1 i;
      minimal = minimal i;
    }

pub one_report : (r s : Report) → AreFew r → AreFew s → r.metric ≡ s.metric → r.bound ≡ s.bound → length r.witness ≡ length s.witness
    → report_text r ≡ report_text s → r ≡ s
one_report r s few fewer metric bound width same =
    let heads = sym (report_text-is r) ∙ same ∙ report_text-is s in
    let version = version-cut r.version s.version _ _ (append_cancel_left (codes "salsa ") _ _ heads) in
    rest-cut r s few fewer version metric bound width
    (head-cut s.version s.metric s.bound (report_rest r) (report_rest s)
    (sym (λ i. report_head (version i) (metric i) (bound i) (report_rest r)) ∙ heads))
