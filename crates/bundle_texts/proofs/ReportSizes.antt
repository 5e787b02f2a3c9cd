-- No report of a net within the limits is long.
use Rattle.std.proofs.Common.{◌≡◌, ℕ, ◌+◌, ◌-◌, ◌<◌, ◌≤◌, ◌^◌, Bool, true, false, [], ◌∷◌, ◌++◌, length, decimal, codes, lit<, Option, None, Some, IfSome, inl, inr, ap, sym, subst, ◌∙◌, arith}
use Rattle.std.proofs.lemmas.Fmt.{length-decimal-le_wide}
use Rattle.std.proofs.lemmas.List.{length-append, length-map}
use Rattle.std.proofs.lemmas.Bool.{cases_lt}
use Rattle.semantics.specs.declared.limits.TheConstants.{MOST_INPUTS}
use Rattle.semantics.specs.Texts.{Bytes, bit_byte, bits_word}
use Rattle.semantics.specs.declared.metric.Metric.{Metric}
use Rattle.semantics.specs.declared.metric.Kind.{Kind}
use Rattle.semantics.specs.declared.metric.Kind.TheVariants.{Abs, Rel, Ham, Sabs}
use Rattle.file_reading.specs.Reading.{IsAllWanted}
use Rattle.job_semantics.specs.declared.version.Version.{Version}
use Rattle.job_semantics.specs.declared.version.Version.TheVariants.{One, Two}
use Rattle.job_semantics.specs.Report.{Report, version_word, kind_word, width_word, metric_word, yes_word}
use Rattle.job_semantics.specs.Certificate.{IsReportText}
use Rattle.job_semantics.proofs.ReportTexts.{report_head, counts_line, report_rest, report_text-is, few_digits}
use Rattle.bundle_texts.specs.declared.report_reading.ReportRead.{ReportRead}
use Rattle.bundle_texts.specs.Reading.{HasShortWidth, report_read}
use Rattle.bundle_texts.specs.FilesRead.{IsReportIn}
use Rattle.bundle_texts.proofs.Fronts.{whole_front, front_at_most}

kind_length : (kind : Kind) → length (kind_word kind) ≤ 4
kind_length Abs = omega arith
kind_length Rel = omega arith
kind_length Ham = omega arith
kind_length Sabs = omega arith

version_length : (version : Version) → length (version_word version) ≤ 1
version_length One = omega arith
version_length Two = omega arith

yes_length : (yes : Bool) → length (yes_word yes) ≤ 3
yes_length true = omega arith
yes_length false = omega arith

number_length : (n : ℕ) → n < 10 ^ 64 → length (decimal n) ≤ 64
number_length n few = length-decimal-le_wide 64 n (omega arith) few few

width_length : (width : Option ℕ) → IfSome width (λ n. n < 2 ^ 32) → length (width_word width) ≤ 65
width_length None few = omega arith
width_length (Some n) few = omega (arith, number_length n (few_digits n (omega (arith, few))))

word_length : (metric : Metric) → HasShortWidth metric → length (metric_word metric) ≤ 69
word_length metric few = omega (arith, length-append (kind_word metric.kind) (width_word metric.width), kind_length metric.kind, width_length metric.width few)

counts_length : (key : Bytes) (old new : ℕ) (rest : Bytes) → old < 2 ^ 32 → new < 2 ^ 32 → length (counts_line key old new rest) ≤ length key + 130 + length rest
counts_length key old new rest few fewer =
    omega (
      arith,
      number_length old (few_digits old (omega (arith, few))),
      number_length new (few_digits new (omega (arith, fewer))),
      length-append key (decimal old ++ 32 ∷ (decimal new ++ 10 ∷ rest)),
      length-append (decimal old) (32 ∷ (decimal new ++ 10 ∷ rest)),
      length-append (decimal new) (10 ∷ rest),
    )

last_length : (minimal : Bool) → length (codes "minimal " ++ (yes_word minimal ++ 10 ∷ [])) ≤ 12
last_length minimal = omega (arith, length-append (codes "minimal ") (yes_word minimal ++ 10 ∷ []), length-append (yes_word minimal) (10 ∷ []), yes_length minimal)

rest_length : (r : Report) (inputs : ℕ) (metric : Metric) (bound : ℕ) (text : Bytes) → IsReportText inputs metric bound text r → inputs ≤ MOST_INPUTS → length (report_rest r) ≤ 640
rest_length r inputs metric bound text h few =
    let last : Bytes = codes "minimal " ++ (yes_word r.minimal ++ 10 ∷ []) in
    let literals : Bytes = counts_line (codes "literals ") r.old_literals r.new_literals last in
    let tables : Bytes = counts_line (codes "tables ") r.old_tables r.new_tables literals in
    omega (
      arith,
      few,
      h.witness,
      number_length r.maximum (few_digits r.maximum h.maximum),
      last_length r.minimal,
      counts_length (codes "literals ") r.old_literals r.new_literals last h.counts.1.1.0 h.counts.1.1.1.0,
      counts_length (codes "tables ") r.old_tables r.new_tables literals h.counts.0 h.counts.1.0,
      length-append (decimal r.maximum) (10 ∷ (codes "witness " ++ (bits_word r.witness ++ 10 ∷ tables))),
      length-append (codes "witness ") (bits_word r.witness ++ 10 ∷ tables),
      length-append (bits_word r.witness) (10 ∷ tables),
      length-map r.witness bit_byte,
    )

head_length : (version : Version) (metric : Metric) (bound : ℕ) (rest : Bytes) → HasShortWidth metric → bound < 2 ^ 128 → length (report_head version metric bound rest) ≤ 175 + length rest
head_length version metric bound rest narrow few =
    let large : 2 ^ 128 < 10 ^ 64 = lit< tt in
    let maximum : Bytes = codes "maximum " ++ rest in
    let limit : Bytes = codes "bound " ++ (decimal bound ++ 10 ∷ maximum) in
    let unit : Bytes = codes "metric " ++ (metric_word metric ++ 10 ∷ limit) in
    omega (
      arith,
      number_length bound (omega (arith, few, large)),
      word_length metric narrow,
      version_length version,
      length-append (codes "salsa ") (version_word version ++ 10 ∷ unit),
      length-append (version_word version) (10 ∷ unit),
      length-append (codes "metric ") (metric_word metric ++ 10 ∷ limit),
      length-append (metric_word metric) (10 ∷ limit),
      length-append (codes "bound ") (decimal bound ++ 10 ∷ maximum),
      length-append (decimal bound) (10 ∷ maximum),
      length-append (codes "maximum ") rest,
    )

pub report_length : (inputs : ℕ) (metric : Metric) (bound : ℕ) (text : Bytes) (r : Report) → IsReportText inputs metric bound text r → inputs ≤ MOST_INPUTS
    → HasShortWidth metric → bound < 2 ^ 128 → length text ≤ 1024
report_length inputs metric bound text r h few narrow small =
    omega (
      arith,
      ap length (h.spelled ∙ report_text-is r),
      rest_length r inputs metric bound text h few,
      head_length r.version r.metric r.bound (report_rest r) (subst HasShortWidth (sym h.same_metric) narrow) (subst (λ n. n < 2 ^ 128) (sym h.same_bound) small),
    )

module _ (inputs : ℕ) (metric : Metric) (bound : ℕ) (few : inputs ≤ MOST_INPUTS) (narrow : HasShortWidth metric) (small : bound < 2 ^ 128) where
  long_front : (content text : Bytes) (room : ℕ) (o : Option ReportRead) → 1024 < length text → IsAllWanted content text room → IsReportIn inputs metric bound o text
      → IsReportIn inputs metric bound o content
  long_front content text room None long wanted h = λ r k.
      omega (arith, report_length inputs metric bound content r k few narrow small, front_at_most content text room 1025 wanted (omega (arith, long)))
  long_front content text room (Some found) long wanted h = absurd (omega (arith, long, report_length inputs metric bound text (report_read metric bound found) h few narrow small))

  -- the front of a text up to one byte past the limit is a report's exactly where the text is
  pub report_front : (content text : Bytes) (limit : ℕ) (o : Option ReportRead) → limit ≡ 1024 → IsAllWanted content text (limit + 1 - length text) → IsReportIn inputs metric bound o text
      → IsReportIn inputs metric bound o content
  report_front content text limit o is wanted h =
      elim (cases_lt 1024 (length text)) [
        | inl long ↦ long_front content text (limit + 1 - length text) o long wanted h
        | inr short ↦ subst (IsReportIn inputs metric bound o) (whole_front content text limit wanted (omega (arith, short, is))) h
      ]
