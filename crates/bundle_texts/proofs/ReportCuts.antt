-- The parts of a report's text are cut off in one way.
use Rattle.std.proofs.Common.{◌≡◌, ◌≢◌, ℕ, ◌≤◌, Bool, true, false, List, [], ◌∷◌, ◌++◌, length, decimal, codes, refl, ap, sym, ◌∙◌, append_assoc, arith}
use Rattle.std.proofs.lemmas.List.{append_cancel_left}
use Rattle.semantics.specs.Texts.{Bytes, bits_word, line_text}
use Rattle.semantics.specs.Decimal.{is_digit}
use Rattle.semantics.specs.declared.limits.TheConstants.{LARGEST_ERROR}
use Rattle.semantics.specs.declared.metric.Metric.{Metric}
use Rattle.job_semantics.specs.declared.version.Version.{Version}
use Rattle.job_semantics.specs.Report.{Report, version_word, metric_word, report_text}
use Rattle.job_semantics.specs.Certificate.{IsReportText}
use Rattle.job_semantics.proofs.ReportTexts.{report_head, two_words, few_digits, report_text-is, number-cut, bits-cut}
use Rattle.bundle_texts.specs.declared.report_reading.Counts.{Counts}
use Rattle.bundle_texts.specs.declared.report_reading.ReportRead.{ReportRead}
use Rattle.bundle_texts.specs.Pieces.{IsNumberBefore, IsVectorBefore}
use Rattle.bundle_texts.specs.ReportParts.{head_text, counts_text, minimal_text, tail_text, AreCountsBefore, Front, IsFrontBefore, IsTail}
use Rattle.bundle_texts.specs.Reading.{report_read}

number_once : (end n m : ℕ) (s t : Bytes) → is_digit end ≡ false → n ≤ LARGEST_ERROR → m ≤ LARGEST_ERROR → decimal n ++ end ∷ s ≡ decimal m ++ end ∷ t → (n ≡ m) × (s ≡ t)
number_once end n m s t other few fewer same =
    let cut = number-cut n m end end s t (few_digits n (omega (arith, few))) (few_digits m (omega (arith, fewer))) other other same in
    (cut.0, append_cancel_left (end ∷ []) s t cut.1)

-- ---- a line of two counts

module _ (key text r1 : Bytes) (start : text ≡ key ++ r1) where
  counts_start : (old new : ℕ) (rest : Bytes) → AreCountsBefore key text old new rest → r1 ≡ decimal old ++ 32 ∷ (decimal new ++ 10 ∷ rest)
  counts_start old new rest h = append_cancel_left key r1 _ (sym start ∙ h.spelled)

  pub no_old : ((n : ℕ) (rest : Bytes) → ¬ IsNumberBefore 4294967295 32 r1 n rest) → (old new : ℕ) (rest : Bytes) → ¬ AreCountsBefore key text old new rest
  no_old none old new rest h =
      none old (decimal new ++ 10 ∷ rest) (record { few = omega (arith, h.few_old); spelled = counts_start old new rest h })

  module _ (o : ℕ) (r2 : Bytes) (first : IsNumberBefore 4294967295 32 r1 o r2) where
    second_start : (old new : ℕ) (rest : Bytes) → AreCountsBefore key text old new rest → (o ≡ old) × (r2 ≡ decimal new ++ 10 ∷ rest)
    second_start old new rest h =
        number_once 32 o old r2 (decimal new ++ 10 ∷ rest) refl (omega (arith, first.few)) (omega (arith, h.few_old)) (sym first.spelled ∙ counts_start old new rest h)

    pub no_new : ((n : ℕ) (rest : Bytes) → ¬ IsNumberBefore 4294967295 10 r2 n rest) → (old new : ℕ) (rest : Bytes) → ¬ AreCountsBefore key text old new rest
    no_new none old new rest h =
        none new rest (record { few = omega (arith, h.few_new); spelled = (second_start old new rest h).1 })

counts_once : (key text : Bytes) (a b c d : ℕ) (s t : Bytes) → AreCountsBefore key text a b s → AreCountsBefore key text c d t → (a ≡ c) × (b ≡ d) × (s ≡ t)
counts_once key text a b c d s t h k =
    let first = number_once 32 a c (decimal b ++ 10 ∷ s) (decimal d ++ 10 ∷ t) refl (omega (arith, h.few_old)) (omega (arith, k.few_old))
    (append_cancel_left key _ _ (sym h.spelled ∙ k.spelled)) in
    let second = number_once 10 b d s t refl (omega (arith, h.few_new)) (omega (arith, k.few_new)) first.1 in
    (first.0, second.0, second.1)

-- ---- the counts and the last line

tables_of : (text : Bytes) (c : Counts) → IsTail text c
    → AreCountsBefore (codes "tables ") text c.old_tables c.new_tables (counts_text (codes "literals ") c.old_literals c.new_literals (minimal_text c.minimal))
tables_of text c h = record { few_old = h.few_old_tables; few_new = h.few_new_tables; spelled = h.spelled }

literals_of : (text : Bytes) (c : Counts) → IsTail text c → (rest : Bytes) → rest ≡ counts_text (codes "literals ") c.old_literals c.new_literals (minimal_text c.minimal)
    → AreCountsBefore (codes "literals ") rest c.old_literals c.new_literals (minimal_text c.minimal)
literals_of text c h rest is = record { few_old = h.few_old_literals; few_new = h.few_new_literals; spelled = is }

module _ (text : Bytes) (a b : ℕ) (r1 : Bytes) (tables : AreCountsBefore (codes "tables ") text a b r1) where
  literals_start : (c : Counts) → IsTail text c → AreCountsBefore (codes "literals ") r1 c.old_literals c.new_literals (minimal_text c.minimal)
  literals_start c h = literals_of text c h r1 (counts_once (codes "tables ") text a b c.old_tables c.new_tables r1 _ tables (tables_of text c h)).2

  pub no_literals : ((old new : ℕ) (rest : Bytes) → ¬ AreCountsBefore (codes "literals ") r1 old new rest) → (c : Counts) → ¬ IsTail text c
  no_literals none c h = none c.old_literals c.new_literals (minimal_text c.minimal) (literals_start c h)

  pub no_minimal : (d e : ℕ) (r2 : Bytes) → AreCountsBefore (codes "literals ") r1 d e r2 → ((is_minimal : Bool) → r2 ≢ minimal_text is_minimal) → (c : Counts) → ¬ IsTail text c
  no_minimal d e r2 literals none c h =
      none c.minimal (counts_once (codes "literals ") r1 d e c.old_literals c.new_literals r2 _ literals (literals_start c h)).2

-- ---- the head, the maximum and the witness

module _ (head : Bytes) (width : ℕ) (text r1 : Bytes) (start : text ≡ head ++ r1) where
  maximum_start : (f : Front) → IsFrontBefore head width text f
      → r1 ≡ decimal f.maximum ++ 10 ∷ (codes "witness " ++ (bits_word f.witness ++ 10 ∷ f.rest))
  maximum_start f h = append_cancel_left head r1 _ (sym start ∙ h.spelled)

  module _ (most : ℕ) (all : most ≡ LARGEST_ERROR) where
    pub no_maximum : ((n : ℕ) (rest : Bytes) → ¬ IsNumberBefore most 10 r1 n rest) → (f : Front) → ¬ IsFrontBefore head width text f
    no_maximum none f h =
        none f.maximum (codes "witness " ++ (bits_word f.witness ++ 10 ∷ f.rest)) (record { few = omega (arith, h.few, all); spelled = maximum_start f h })

    module _ (m : ℕ) (r2 : Bytes) (first : IsNumberBefore most 10 r1 m r2) where
      witness_start : (f : Front) → IsFrontBefore head width text f → r2 ≡ codes "witness " ++ (bits_word f.witness ++ 10 ∷ f.rest)
      witness_start f h = (number_once 10 m f.maximum r2 _ refl (omega (arith, first.few, all)) h.few (sym first.spelled ∙ maximum_start f h)).1

      pub no_witness : ((rest : Bytes) → r2 ≢ codes "witness " ++ rest) → (f : Front) → ¬ IsFrontBefore head width text f
      no_witness none f h = none (bits_word f.witness ++ 10 ∷ f.rest) (witness_start f h)

      pub no_bits : (r3 : Bytes) → r2 ≡ codes "witness " ++ r3 → ((x : List Bool) (rest : Bytes) → ¬ IsVectorBefore width r3 x rest)
          → (f : Front) → ¬ IsFrontBefore head width text f
      no_bits r3 key none f h =
          none f.witness f.rest (record { width_is = h.width_is; spelled = append_cancel_left (codes "witness ") r3 _ (sym key ∙ witness_start f h) })

front_once : (head : Bytes) (width : ℕ) (text : Bytes) (f g : Front) → IsFrontBefore head width text f → IsFrontBefore head width text g
    → (f.maximum ≡ g.maximum) × (f.witness ≡ g.witness) × (f.rest ≡ g.rest)
front_once head width text f g h k =
    let maximum = number_once 10 f.maximum g.maximum _ _ refl h.few k.few (append_cancel_left head _ _ (sym h.spelled ∙ k.spelled)) in
    let witness = bits-cut f.witness g.witness (10 ∷ f.rest) (10 ∷ g.rest) (h.width_is ∙ sym k.width_is) (append_cancel_left (codes "witness ") _ _ maximum.1) in
    (maximum.0, witness.0, append_cancel_left (10 ∷ []) f.rest g.rest witness.1)

-- ---- the whole text

head_is : (version : Version) (metric : Metric) (bound : ℕ) (rest : Bytes) → head_text version metric bound ++ rest ≡ report_head version metric bound rest
head_is version metric bound rest =
    let salsa : Bytes = line_text (codes "salsa" ∷ version_word version ∷ []) in
    let unit : Bytes = line_text (codes "metric" ∷ metric_word metric ∷ []) in
    let limit : Bytes = line_text (codes "bound" ∷ decimal bound ∷ []) in
    append_assoc salsa (unit ++ (limit ++ codes "maximum ")) rest
    ∙ ap (λ t. salsa ++ t)
    (append_assoc unit (limit ++ codes "maximum ") rest
    ∙ ap (λ t. unit ++ t) (append_assoc limit (codes "maximum ") rest ∙ two_words (codes "bound") (decimal bound) (codes "maximum " ++ rest))
    ∙ two_words (codes "metric") (metric_word metric) (codes "bound " ++ (decimal bound ++ 10 ∷ (codes "maximum " ++ rest))))
    ∙ two_words (codes "salsa") (version_word version)
    (codes "metric " ++ (metric_word metric ++ 10 ∷ (codes "bound " ++ (decimal bound ++ 10 ∷ (codes "maximum " ++ rest)))))

abbrev tail_of : Report → Bytes
tail_of r = tail_text r.old_tables r.new_tables r.old_literals r.new_literals r.minimal

abbrev counts_of : Report → Counts
counts_of r = record {
  old_tables = r.old_tables;
  new_tables = r.new_tables;
  old_literals = r.old_literals;
  new_literals = r.new_literals;
  minimal = r.minimal;
}

abbrev front_in : Report → Front
front_in r = record { maximum = r.maximum; witness = r.witness; rest = tail_of r }

parts_are : (r : Report) → head_text r.version r.metric r.bound ++ (decimal r.maximum ++ 10 ∷ (codes "witness " ++ (bits_word r.witness ++ 10 ∷ tail_of r))) ≡ report_text r
parts_are r = head_is r.version r.metric r.bound _ ∙ sym (report_text-is r)

module _ (inputs : ℕ) (version : Version) (metric : Metric) (bound : ℕ) (text head : Bytes) (head_there : head ≡ head_text version metric bound) where
  front_of : (r : Report) → r.version ≡ version → IsReportText inputs metric bound text r → IsFrontBefore head inputs text (front_in r)
  front_of r same h = record {
    few = omega (arith, h.maximum);
    width_is = h.witness;
    spelled =
        let behind : Bytes = decimal r.maximum ++ 10 ∷ (codes "witness " ++ (bits_word r.witness ++ 10 ∷ tail_of r)) in
        h.spelled ∙ sym (parts_are r) ∙ (λ i. head_text (same i) (h.same_metric i) (h.same_bound i) ++ behind) ∙ ap (λ t. t ++ behind) (sym head_there);
  }

  pub no_front : ((f : Front) → ¬ IsFrontBefore head inputs text f) → (r : Report) → r.version ≡ version → ¬ IsReportText inputs metric bound text r
  no_front none r same h = none (front_in r) (front_of r same h)

  module _ (maximum : ℕ) (x : List Bool) (rest : Bytes) (front : IsFrontBefore head inputs text (record { maximum = maximum; witness = x; rest = rest })) where
    pub no_tail : ((c : Counts) → ¬ IsTail rest c) → (r : Report) → r.version ≡ version → ¬ IsReportText inputs metric bound text r
    no_tail none r same h =
        none (counts_of r) (record {
          few_old_tables = h.counts.0;
          few_new_tables = h.counts.1.0;
          few_old_literals = h.counts.1.1.0;
          few_new_literals = h.counts.1.1.1.0;
          spelled = (front_once head inputs text (record { maximum = maximum; witness = x; rest = rest }) (front_in r) front (front_of r same h)).2;
        })

    pub read_is : (found : ReportRead) → found.version ≡ version → found.maximum ≡ maximum → found.witness ≡ x → IsTail rest found.counts
        → IsReportText inputs metric bound text (report_read metric bound found)
    read_is found same_version same_maximum same_witness tail = record {
      spelled =
          front.spelled
          ∙ (λ i. (head_there ∙ ap (λ v. head_text v metric bound) (sym same_version)) i
          ++ (decimal (sym same_maximum i) ++ 10 ∷ (codes "witness " ++ (bits_word (sym same_witness i) ++ 10 ∷ tail.spelled i))))
          ∙ parts_are (report_read metric bound found);
      same_metric = refl;
      same_bound = refl;
      maximum = omega (arith, same_maximum, front.few);
      witness = ap length same_witness ∙ front.width_is;
      counts = (tail.few_old_tables, (tail.few_new_tables, (tail.few_old_literals, (tail.few_new_literals, tt))));
    }

-- ---- the last line

pub other_line : (text yes_line no_line : Bytes) → yes_line ≡ minimal_text true → no_line ≡ minimal_text false
    → (text ≡ yes_line → ⊥) → (text ≡ no_line → ⊥) → (is_minimal : Bool) → text ≢ minimal_text is_minimal
other_line text yes_line no_line a b not_yes not_no true same = not_yes (same ∙ sym a)
other_line text yes_line no_line a b not_yes not_no false same = not_no (same ∙ sym b)
