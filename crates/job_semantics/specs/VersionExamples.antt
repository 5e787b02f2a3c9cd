-- Worked examples of the two versions of a bundle, computed from the definitions.
use Rattle.std.specs.Prelude.{true, [], ◌∷◌, codes}
use Rattle.semantics.specs.Texts.{Bytes}
use Rattle.semantics.specs.Net.{NetValue}
use Rattle.semantics.specs.declared.mark.Mark.TheVariants.{Zero, One, Dash}
use Rattle.semantics.specs.declared.metric.Kind.TheVariants.{Abs}
use Rattle.semantics.specs.Error.{one_word}
use Rattle.semantics.specs.Examples.{text}
use Rattle.job_semantics.specs.declared.ending.Ending.TheVariants as file
use Rattle.job_semantics.specs.declared.certificate_clause.Clause.TheVariants as clause
use Rattle.job_semantics.specs.Certificate.{Texts, Holds, Certifies, IsFirstFailing, checked_claim}

-- y is the exclusive or of w and q, and equals the conjunction of u and v: of all single moves only one to
-- the two signals u and v keeps the values of y
abbrev pub conjunction_by_parity : NetValue
conjunction_by_parity = record {
  model = codes "p";
  inputs = codes "u" ∷ codes "v" ∷ codes "w" ∷ [];
  tables =
      record {
        name = codes "q";
        pins = 0 ∷ 1 ∷ 2 ∷ [];
        rows = (One ∷ One ∷ Zero ∷ []) ∷ (Zero ∷ Dash ∷ One ∷ []) ∷ (Dash ∷ Zero ∷ One ∷ []) ∷ [];
        plane = true;
      }
      ∷ record {
        name = codes "y";
        pins = 2 ∷ 3 ∷ [];
        rows = (One ∷ Zero ∷ []) ∷ (Zero ∷ One ∷ []) ∷ [];
        plane = true;
      }
      ∷ [];
  outputs = 3 ∷ 4 ∷ [];
}

abbrev pub parity_netlist : Bytes
parity_netlist =
    text (
    codes ".model p" ∷ codes ".inputs u v w" ∷ codes ".outputs q y" ∷ codes ".names u v w q" ∷ codes "110 1"
    ∷ codes "0-1 1" ∷ codes "-01 1"
    ∷ codes ".names w q y" ∷ codes "10 1" ∷ codes "01 1" ∷ codes ".end" ∷ []
    )

-- the first vector, and behind it all eight
abbrev pub parity_vectors : Bytes
parity_vectors =
    text (
    codes "000" ∷ codes "000" ∷ codes "100" ∷ codes "010" ∷ codes "110" ∷ codes "001" ∷ codes "101"
    ∷ codes "011" ∷ codes "111" ∷ []
    )

-- the report of the net with itself, which says that no further move is allowed
abbrev pub parity_report : Bytes → Bytes
parity_report first_line =
    text (
    first_line ∷ codes "metric abs" ∷ codes "bound 0" ∷ codes "maximum 0" ∷ codes "witness 000"
    ∷ codes "tables 2 2" ∷ codes "literals 11 11"
    ∷ codes "minimal yes" ∷ []
    )

-- the bundle of the net with itself, with some formula and some log
abbrev pub parity_texts : Bytes → Bytes → Bytes → Texts
parity_texts first_line formula log file.Netlist = parity_netlist
parity_texts first_line formula log file.Formula = formula
parity_texts first_line formula log file.Log = log
parity_texts first_line formula log file.Vectors = parity_vectors
parity_texts first_line formula log file.Report = parity_report first_line

-- With a formula and a log of which the clauses hold, the bundle is a certificate in version 1. In version 2
-- its last clause fails, and no other.
pub record VersionExamples : Type 0 where
  pub first_version : (formula log : Bytes)
      → Holds (checked_claim (one_word Abs) 0) conjunction_by_parity
      (parity_texts (codes "salsa 1") formula log) clause.Formula
      → Holds (checked_claim (one_word Abs) 0) conjunction_by_parity
      (parity_texts (codes "salsa 1") formula log) clause.Log
      → Certifies (one_word Abs) 0 conjunction_by_parity (parity_texts (codes "salsa 1") formula log)
  pub second_version : (formula log : Bytes)
      → Holds (checked_claim (one_word Abs) 0) conjunction_by_parity
      (parity_texts (codes "salsa 2") formula log) clause.Formula
      → Holds (checked_claim (one_word Abs) 0) conjunction_by_parity
      (parity_texts (codes "salsa 2") formula log) clause.Log
      → IsFirstFailing (checked_claim (one_word Abs) 0) conjunction_by_parity
      (parity_texts (codes "salsa 2") formula log) clause.Minimal
