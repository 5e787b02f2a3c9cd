-- The certificate that the five texts of a bundle are: ten clauses, tested in order. The ninth of them
-- refuses a net that is larger than the original, or allows it. Source: this tool's own bundles; that no
-- error exceeds the maximum is shown by a refuted miter, as in equivalence checking by SAT.
use Rattle.std.specs.Prelude.{◌≡◌, ℕ, ◌^◌, ◌<◌, ◌≤◌, Bool, IsTrue, nat_le, List, [], ◌∷◌, ◌++◌, length}
use Rattle.std.specs.Prelude.{filter, Contains, Ok}
use Rattle.std.specs.List.{AllByRecursion}
use Rattle.std.specs.FinMap.{contains_key}
use Rattle.semantics.specs.declared.limits.TheConstants.{MOST_BUNDLE_BYTES, LARGEST_ERROR}
use Rattle.semantics.specs.Texts.{Bytes}
use Rattle.semantics.specs.Net.{NetValue, input_count, table_count, literal_count, HasSamePorts}
use Rattle.semantics.specs.Error.{net_error}
use Rattle.semantics.specs.declared.metric.Metric.{Metric}
use Rattle.chain_semantics.specs.declared.moves.Move.{Move}
use Rattle.chain_semantics.specs.Moves.{moves_of, old_moves_of}
use Rattle.chain_semantics.specs.Minimality.{AreBrokenBySome}
use Rattle.blif_semantics.specs.Reading.{blif_reading}
use Rattle.proof_semantics.specs.Formula.{Formula, dimacs_text}
use Rattle.proof_semantics.specs.Logs.{LogItem, Refutes}
use Rattle.proof_semantics.specs.LratReading.{lrat_items}
use Rattle.proof_semantics.specs.Miter.{miter}
use Rattle.job_semantics.specs.declared.ending.Ending.{Ending}
use Rattle.job_semantics.specs.declared.ending.Ending.TheVariants as file
use Rattle.job_semantics.specs.declared.certificate_clause.Clause.{Clause}
use Rattle.job_semantics.specs.declared.certificate_clause.Clause.TheVariants as clause
use Rattle.job_semantics.specs.declared.claim.Claim.{Claim}
use Rattle.job_semantics.specs.declared.growth.Growth.{Growth}
use Rattle.job_semantics.specs.declared.growth.Growth.TheVariants.{Refused, Allowed}
use Rattle.job_semantics.specs.declared.version.Version.{Version}
use Rattle.job_semantics.specs.declared.version.Version.TheVariants.{One, Two}
use Rattle.outside_semantics.specs.Outside.{Held, FilesTold, WhereTold, bytes_of}
use Rattle.job_semantics.specs.Endings.{bundle_endings, bundle_name}
use Rattle.job_semantics.specs.Report.{Report, report_text, vectors_text}

-- the text of each file of a bundle
abbrev pub Texts : Type 0
Texts = Ending → Bytes

-- the texts of a bundle among the held files; a name that is not held has no bytes
abbrev pub texts_of : Held → Bytes → Texts
texts_of held stem ending = bytes_of held (bundle_name stem ending)

-- P of the bundle's texts, where the files are told at entry and at exit
abbrev pub OfBundle : FilesTold → FilesTold → Bytes → (Texts → Type 0) → Type 0
OfBundle old new stem P = WhereTold old new (λ a b. P (texts_of b stem))

-- `.blif` is read as the net
abbrev pub IsNetlist : Texts → NetValue → Type 0
IsNetlist texts M = blif_reading (texts file.Netlist) MOST_BUNDLE_BYTES ≡ Ok M

-- the text is that of the report, which is of either version and is for the metric, the bound and a net of
-- `inputs` inputs
pub record IsReportText (inputs : ℕ) (metric : Metric) (bound : ℕ) (text : Bytes) (r : Report) : Type 0 where
  pub spelled : text ≡ report_text r
  pub same_metric : r.metric ≡ metric
  pub same_bound : r.bound ≡ bound
  pub maximum : r.maximum ≤ LARGEST_ERROR
  pub witness : length r.witness ≡ inputs
  pub counts : AllByRecursion (λ count. count < 2 ^ 32)
      (r.old_tables ∷ r.new_tables ∷ r.old_literals ∷ r.new_literals ∷ [])

-- the text is one or more vectors of `inputs` bits, a line each, the witness first
pub record IsVectorsText (inputs : ℕ) (text : Bytes) (witness : List Bool)
    (pool : List (List Bool)) : Type 0 where
  pub spelled : text ≡ vectors_text witness pool
  pub widths : AllByRecursion (λ x. length x ≡ inputs) (witness ∷ pool)

-- `.txt` is that report for the original net, and `.wit` is those input vectors of the original net
abbrev pub IsReport : Metric → ℕ → NetValue → Texts → Report → Type 0
IsReport metric bound exact texts r = IsReportText (input_count exact) metric bound (texts file.Report) r

abbrev pub AreVectors : NetValue → Texts → List Bool → List (List Bool) → Type 0
AreVectors exact texts witness pool = IsVectorsText (input_count exact) (texts file.Vectors) witness pool

-- the text is read to its end as a log that refutes the formula
pub record IsRefutation (f : Formula) (text : Bytes) (log : List LogItem) : Type 0 where
  pub read : lrat_items text ≡ Ok log
  pub refutes : Refutes f.clauses log

-- where growth is refused, the net has no more tables and no more literals than the original
abbrev pub IsOfAllowedSize : Growth → NetValue → NetValue → Type 0
IsOfAllowedSize growth exact approx = growth ≡ Refused
    → (table_count approx ≤ table_count exact) × (literal_count approx ≤ literal_count exact)

-- the report's counts are those of the two nets, and none grew where growth is refused
pub record AreCounts (growth : Growth) (exact approx : NetValue) (r : Report) : Type 0 where
  pub old_tables : r.old_tables ≡ table_count exact
  pub new_tables : r.new_tables ≡ table_count approx
  pub old_literals : r.old_literals ≡ literal_count exact
  pub new_literals : r.new_literals ≡ literal_count approx
  pub size : IsOfAllowedSize growth exact approx

-- the moves that a version knows
abbrev pub moves_in : Version → NetValue → List Move
moves_in One = old_moves_of
moves_in Two = moves_of

-- where the report says that no further move is allowed, each move of the net that the report's version knows
-- is broken by some vector of `.wit`
abbrev pub IsShownMinimal : Metric → ℕ → NetValue → Texts → NetValue → Report → Type 0
IsShownMinimal metric bound exact texts approx r =
    IsTrue r.minimal
    → (pool : List (List Bool)) × AreVectors exact texts r.witness pool
    × AreBrokenBySome metric exact bound approx (r.witness ∷ pool) (moves_in r.version approx)

-- P of the net of `.blif`; P of the report of `.txt`; and P of both
abbrev pub OfNet : Texts → (NetValue → Type 0) → Type 0
OfNet texts P = (M : NetValue) × IsNetlist texts M × P M

abbrev pub OfReport : Metric → ℕ → NetValue → Texts → (Report → Type 0) → Type 0
OfReport metric bound exact texts P = (r : Report) × IsReport metric bound exact texts r × P r

abbrev pub OfBoth : Metric → ℕ → NetValue → Texts → (NetValue → Report → Type 0) → Type 0
OfBoth metric bound exact texts P = OfNet texts (λ M. OfReport metric bound exact texts (P M))

-- What each clause says. The net is as it was read, and need not be tidy. The clause on the counts alone asks
-- whether growth is allowed.
abbrev pub Holds : Claim → NetValue → Texts → Clause → Type 0
Holds claim exact texts clause.Netlist = (M : NetValue) × IsNetlist texts M
Holds claim exact texts clause.Ports = OfNet texts (HasSamePorts exact)
Holds claim exact texts clause.ReportForm = (r : Report) × IsReport claim.metric claim.bound exact texts r
Holds claim exact texts clause.MaximumWithin
    = OfReport claim.metric claim.bound exact texts (λ r. r.maximum ≤ claim.bound)
Holds claim exact texts clause.Witness =
    OfReport claim.metric claim.bound exact texts
    (λ r. (pool : List (List Bool)) × AreVectors exact texts r.witness pool)
Holds claim exact texts clause.Attained =
    OfBoth claim.metric claim.bound exact texts
    (λ M r. net_error claim.metric exact M r.witness ≡ r.maximum)
Holds claim exact texts clause.Formula =
    OfBoth claim.metric claim.bound exact texts
    (λ M r. texts file.Formula ≡ dimacs_text (miter exact M claim.metric r.maximum))
Holds claim exact texts clause.Log =
    OfBoth claim.metric claim.bound exact texts
    (λ M r. (log : List LogItem) × IsRefutation (miter exact M claim.metric r.maximum) (texts file.Log) log)
Holds claim exact texts clause.Counts
    = OfBoth claim.metric claim.bound exact texts (AreCounts claim.growth exact)
Holds claim exact texts clause.Minimal =
    OfBoth claim.metric claim.bound exact texts
    (IsShownMinimal claim.metric claim.bound exact texts)

abbrev pub certificate_clauses : List Clause
certificate_clauses =
    clause.Netlist ∷ clause.Ports ∷ clause.ReportForm ∷ clause.MaximumWithin ∷ clause.Witness
    ∷ clause.Attained ∷ clause.Formula ∷ clause.Log ∷ clause.Counts ∷ clause.Minimal ∷ []

-- the texts are a certificate of a claim about the net of `.blif` against the original
abbrev pub CertifiesWith : Claim → NetValue → Texts → Type 0
CertifiesWith claim exact texts = AllByRecursion (Holds claim exact texts) certificate_clauses

-- what a check tests: the net may not be larger than the original
abbrev pub checked_claim : Metric → ℕ → Claim
checked_claim metric bound = record { metric = metric; bound = bound; growth = Refused }

-- what a confirm job tests: the net may be larger
abbrev pub confirmed_claim : Metric → ℕ → Claim
confirmed_claim metric bound = record { metric = metric; bound = bound; growth = Allowed }

-- the texts are a certificate of a net that is not larger than the original
abbrev pub Certifies : Metric → ℕ → NetValue → Texts → Type 0
Certifies metric bound = CertifiesWith (checked_claim metric bound)

-- the clauses before c hold, and c does not
pub record IsFirstFailing (claim : Claim) (exact : NetValue) (texts : Texts)
    (c : Clause) : Type 0 where
  pub before : List Clause
  pub after : List Clause
  pub order : certificate_clauses ≡ before ++ c ∷ after
  pub hold : AllByRecursion (Holds claim exact texts) before
  pub fails : ¬ Holds claim exact texts c

-- the number of a clause, from 1
abbrev pub clause_number : Clause → ℕ
clause_number clause.Netlist = 1
clause_number clause.Ports = 2
clause_number clause.ReportForm = 3
clause_number clause.MaximumWithin = 4
clause_number clause.Witness = 5
clause_number clause.Attained = 6
clause_number clause.Formula = 7
clause_number clause.Log = 8
clause_number clause.Counts = 9
clause_number clause.Minimal = 10

-- the first clause that needs a file
abbrev pub first_needing : Ending → Clause
first_needing file.Netlist = clause.Netlist
first_needing file.Report = clause.ReportForm
first_needing file.Vectors = clause.Witness
first_needing file.Formula = clause.Formula
first_needing file.Log = clause.Log

-- a clause needs the files of the clauses before it and its own
abbrev pub needed_endings : Clause → List Ending
needed_endings c = filter (λ ending. nat_le (clause_number (first_needing ending)) (clause_number c))
    bundle_endings

-- the file is needed for the verdict: where some clause fails first, that clause needs it
abbrev pub IsNeededFor : Claim → NetValue → Texts → Ending → Type 0
IsNeededFor claim exact texts ending =
    (c : Clause) → IsFirstFailing claim exact texts c → Contains (needed_endings c) ending

-- each file that is needed for the verdict is held
abbrev pub AreNeededHeld : Claim → NetValue → Bytes → Held → Type 0
AreNeededHeld claim exact stem held =
    (ending : Ending) → IsNeededFor claim exact (texts_of held stem) ending
    → IsTrue (contains_key held (bundle_name stem ending))
