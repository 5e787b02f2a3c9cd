-- The text of a report by parts, as they stand one behind another.
use Rattle.std.specs.Prelude.{◌≡◌, ℕ, ◌^◌, ◌<◌, ◌≤◌, Bool, List, [], ◌∷◌, ◌++◌, length, codes, decimal}
use Rattle.semantics.specs.Texts.{Bytes, bits_word, line_text}
use Rattle.semantics.specs.declared.limits.TheConstants.{LARGEST_ERROR}
use Rattle.semantics.specs.declared.metric.Metric.{Metric}
use Rattle.job_semantics.specs.declared.version.Version.{Version}
use Rattle.job_semantics.specs.Report.{version_word, metric_word, yes_word}
use Rattle.bundle_texts.specs.declared.report_reading.Counts.{Counts}

-- the text before the maximum
abbrev pub head_text : Version → Metric → ℕ → Bytes
head_text version metric bound =
    line_text (codes "salsa" ∷ version_word version ∷ [])
    ++ (line_text (codes "metric" ∷ metric_word metric ∷ [])
    ++ (line_text (codes "bound" ∷ decimal bound ∷ []) ++ codes "maximum "))

-- the maximum, the witness, and the text behind their lines
pub record Front : Type 0 where
  pub maximum : ℕ
  pub witness : List Bool
  pub rest : Bytes

-- the head, the maximum, the line of the witness, and then the rest
pub record IsFrontBefore (head : Bytes) (width : ℕ) (text : Bytes) (f : Front) : Type 0 where
  pub few : f.maximum ≤ LARGEST_ERROR
  pub width_is : length f.witness ≡ width
  pub spelled : text ≡ head
      ++ (decimal f.maximum ++ 10 ∷ (codes "witness " ++ (bits_word f.witness ++ 10 ∷ f.rest)))

-- the key, two numbers, and then the rest
abbrev pub counts_text : Bytes → ℕ → ℕ → Bytes → Bytes
counts_text key old new rest = key ++ (decimal old ++ 32 ∷ (decimal new ++ 10 ∷ rest))

pub record AreCountsBefore (key text : Bytes) (old new : ℕ) (rest : Bytes) : Type 0 where
  pub few_old : old < 2 ^ 32
  pub few_new : new < 2 ^ 32
  pub spelled : text ≡ counts_text key old new rest

abbrev pub minimal_text : Bool → Bytes
minimal_text is_minimal = codes "minimal " ++ (yes_word is_minimal ++ 10 ∷ [])

-- the text from the counts to its end
abbrev pub tail_text : ℕ → ℕ → ℕ → ℕ → Bool → Bytes
tail_text old_tables new_tables old_literals new_literals minimal =
    counts_text (codes "tables ") old_tables new_tables
    (counts_text (codes "literals ") old_literals new_literals (minimal_text minimal))

pub record IsTail (text : Bytes) (c : Counts) : Type 0 where
  pub few_old_tables : c.old_tables < 2 ^ 32
  pub few_new_tables : c.new_tables < 2 ^ 32
  pub few_old_literals : c.old_literals < 2 ^ 32
  pub few_new_literals : c.new_literals < 2 ^ 32
  pub spelled : text ≡ tail_text c.old_tables c.new_tables c.old_literals c.new_literals c.minimal
