-- The report and the vectors text of a bundle. Source: this tool's own formats, `STEM.txt` and `STEM.wit`.
use Rattle.std.specs.Prelude.{ℕ, Bool, true, false, List, [], ◌∷◌, ◌++◌, map, codes, decimal, Option}
use Rattle.std.specs.Prelude.{Some, None}
use Rattle.semantics.specs.Texts.{Bytes, Line, text_of, bits_word}
use Rattle.semantics.specs.Net.{NetValue, table_count, literal_count}
use Rattle.semantics.specs.declared.metric.Metric.{Metric}
use Rattle.semantics.specs.declared.metric.Kind.{Kind}
use Rattle.semantics.specs.declared.metric.Kind.TheVariants.{Abs, Rel, Ham, Sabs}
use Rattle.job_semantics.specs.declared.version.Version.{Version}
use Rattle.job_semantics.specs.declared.version.Version.TheVariants.{One, Two}

abbrev pub version_word : Version → Bytes
version_word One = codes "1"
version_word Two = codes "2"

abbrev pub kind_word : Kind → Bytes
kind_word Abs = codes "abs"
kind_word Rel = codes "rel"
kind_word Ham = codes "ham"
kind_word Sabs = codes "sabs"

-- a slash and the number of outputs in each word; nothing where all outputs are one word
abbrev pub width_word : Option ℕ → Bytes
width_word None = []
width_word (Some width) = 47 ∷ decimal width

abbrev pub metric_word : Metric → Bytes
metric_word metric = kind_word metric.kind ++ width_word metric.width

-- `old` counts the net as it was read, and `new` the written net
pub record Report : Type 0 where
  pub version : Version
  pub metric : Metric
  pub bound : ℕ
  pub maximum : ℕ
  pub witness : List Bool
  pub old_tables : ℕ
  pub new_tables : ℕ
  pub old_literals : ℕ
  pub new_literals : ℕ
  pub minimal : Bool

abbrev pub report_of : Version → Metric → ℕ → ℕ → List Bool → NetValue → NetValue → Bool → Report
report_of version metric bound maximum witness exact approx minimal = record {
  version = version;
  metric = metric;
  bound = bound;
  maximum = maximum;
  witness = witness;
  old_tables = table_count exact;
  new_tables = table_count approx;
  old_literals = literal_count exact;
  new_literals = literal_count approx;
  minimal = minimal;
}

abbrev pub yes_word : Bool → Bytes
yes_word true = codes "yes"
yes_word false = codes "no"

abbrev pub report_lines : Report → List Line
report_lines r =
    (codes "salsa" ∷ version_word r.version ∷ [])
    ∷ (codes "metric" ∷ metric_word r.metric ∷ [])
    ∷ (codes "bound" ∷ decimal r.bound ∷ [])
    ∷ (codes "maximum" ∷ decimal r.maximum ∷ [])
    ∷ (codes "witness" ∷ bits_word r.witness ∷ [])
    ∷ (codes "tables" ∷ decimal r.old_tables ∷ decimal r.new_tables ∷ [])
    ∷ (codes "literals" ∷ decimal r.old_literals ∷ decimal r.new_literals ∷ [])
    ∷ (codes "minimal" ∷ yes_word r.minimal ∷ [])
    ∷ []

unfoldable pub report_text : Report → Bytes
report_text r = text_of (report_lines r)

-- a line for each vector, the witness first
unfoldable pub vectors_text : List Bool → List (List Bool) → Bytes
vectors_text witness pool = text_of (map (λ x. bits_word x ∷ []) (witness ∷ pool))
