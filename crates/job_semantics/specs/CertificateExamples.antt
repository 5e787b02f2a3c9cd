-- Worked examples of certificates, computed from the definitions.
use Rattle.std.specs.Prelude.{◌≡◌, [], ◌∷◌, ◌++◌, map, codes}
use Rattle.semantics.specs.Texts.{Bytes}
use Rattle.semantics.specs.declared.metric.Kind.TheVariants.{Abs}
use Rattle.semantics.specs.Error.{one_word}
use Rattle.semantics.specs.Examples.{text, half_adder}
use Rattle.job_semantics.specs.declared.ending.Ending.TheVariants as file
use Rattle.job_semantics.specs.declared.certificate_clause.Clause.TheVariants as clause
use Rattle.job_semantics.specs.Certificate.{Texts, Holds, IsFirstFailing, certificate_clauses, clause_number}
use Rattle.job_semantics.specs.Certificate.{checked_claim, confirmed_claim}
use Rattle.job_semantics.specs.Certificate.{needed_endings}

pub record CertificateClauseExamples : Type 0 where
  pub numbers : map clause_number certificate_clauses ≡ 1 ∷ 2 ∷ 3 ∷ 4 ∷ 5 ∷ 6 ∷ 7 ∷ 8 ∷ 9 ∷ 10 ∷ []
  pub ports : needed_endings clause.Ports ≡ file.Netlist ∷ []
  pub maximum : needed_endings clause.MaximumWithin ≡ file.Netlist ∷ file.Report ∷ []
  pub attained : needed_endings clause.Attained ≡ file.Netlist ∷ file.Vectors ∷ file.Report ∷ []
  pub formula : needed_endings clause.Formula ≡ file.Netlist ∷ file.Formula ∷ file.Vectors ∷ file.Report ∷ []
  pub log : needed_endings clause.Log
      ≡ file.Netlist ∷ file.Formula ∷ file.Log ∷ file.Vectors ∷ file.Report ∷ []
  pub minimal : needed_endings clause.Minimal
      ≡ file.Netlist ∷ file.Formula ∷ file.Log ∷ file.Vectors ∷ file.Report ∷ []

-- the texts of a bundle without its formula and its log
abbrev pub texts_of_three : Bytes → Bytes → Bytes → Texts
texts_of_three netlist vectors report file.Netlist = netlist
texts_of_three netlist vectors report file.Formula = []
texts_of_three netlist vectors report file.Log = []
texts_of_three netlist vectors report file.Vectors = vectors
texts_of_three netlist vectors report file.Report = report

-- the half adder with both outputs constant, its inputs as named
abbrev pub netlist_with : Bytes → Bytes
netlist_with inputs = text
    (codes ".model ha" ∷ inputs ∷ codes ".outputs s c" ∷ codes ".names s" ∷ codes ".names c" ∷ codes ".end"
    ∷ [])

abbrev pub both_constant_netlist : Bytes
both_constant_netlist = netlist_with (codes ".inputs a b")

abbrev pub both_constant_vectors : Bytes
both_constant_vectors = text (codes "11" ∷ codes "00" ∷ codes "10" ∷ [])

-- a report for the bound 3 with these lines
abbrev pub report_with : Bytes → Bytes → Bytes → Bytes
report_with maximum literals minimal =
    text (codes "salsa 2" ∷ codes "metric abs" ∷ codes "bound 3" ∷ maximum ∷ codes "witness 11"
    ∷ codes "tables 2 2" ∷ literals ∷ minimal ∷ [])

abbrev pub both_constant_report : Bytes
both_constant_report = report_with (codes "maximum 2") (codes "literals 6 0") (codes "minimal no")

abbrev pub both_constant_texts : Texts
both_constant_texts = texts_of_three both_constant_netlist both_constant_vectors both_constant_report

pub record HoldingExamples : Type 0 where
  pub netlist : Holds (checked_claim (one_word Abs) 3) half_adder both_constant_texts clause.Netlist
  pub ports : Holds (checked_claim (one_word Abs) 3) half_adder both_constant_texts clause.Ports
  pub report : Holds (checked_claim (one_word Abs) 3) half_adder both_constant_texts clause.ReportForm
  pub within : Holds (checked_claim (one_word Abs) 3) half_adder both_constant_texts clause.MaximumWithin
  pub witness : Holds (checked_claim (one_word Abs) 3) half_adder both_constant_texts clause.Witness
  pub attained : Holds (checked_claim (one_word Abs) 3) half_adder both_constant_texts clause.Attained
  pub counts : Holds (checked_claim (one_word Abs) 3) half_adder both_constant_texts clause.Counts
  pub minimal : Holds (checked_claim (one_word Abs) 3) half_adder both_constant_texts clause.Minimal

-- the first clause that fails, for texts of which one is damaged; clauses behind it may fail too
pub record FailingExamples : Type 0 where
  pub no_formula : IsFirstFailing (checked_claim (one_word Abs) 3) half_adder both_constant_texts
      clause.Formula
  pub other_bound : IsFirstFailing (checked_claim (one_word Abs) 2) half_adder both_constant_texts
      clause.ReportForm
  pub no_netlist : IsFirstFailing (checked_claim (one_word Abs) 3) half_adder
      (texts_of_three [] both_constant_vectors both_constant_report) clause.Netlist
  pub other_ports : IsFirstFailing (checked_claim (one_word Abs) 3) half_adder
      (texts_of_three (netlist_with (codes ".inputs b a")) both_constant_vectors both_constant_report)
      clause.Ports
  pub large_maximum :
      IsFirstFailing (checked_claim (one_word Abs) 3) half_adder
      (texts_of_three both_constant_netlist both_constant_vectors
      (report_with (codes "maximum 4") (codes "literals 6 0") (codes "minimal no")))
      clause.MaximumWithin
  pub other_first_line :
      IsFirstFailing (checked_claim (one_word Abs) 3) half_adder
      (texts_of_three both_constant_netlist (text (codes "00" ∷ codes "11" ∷ [])) both_constant_report)
      clause.Witness
  pub no_last_line_end :
      IsFirstFailing (checked_claim (one_word Abs) 3) half_adder
      (texts_of_three both_constant_netlist (text (codes "11" ∷ []) ++ codes "00") both_constant_report)
      clause.Witness
  pub other_maximum :
      IsFirstFailing (checked_claim (one_word Abs) 3) half_adder
      (texts_of_three both_constant_netlist both_constant_vectors
      (report_with (codes "maximum 0") (codes "literals 6 0") (codes "minimal no")))
      clause.Attained
  pub other_literals :
      Holds (checked_claim (one_word Abs) 3) half_adder
      (texts_of_three both_constant_netlist both_constant_vectors
      (report_with (codes "maximum 2") (codes "literals 6 1") (codes "minimal no")))
      clause.Counts
      → ⊥

-- the half adder whose carry reads the sum too: seven literals, where the original has six
abbrev pub larger_netlist : Bytes
larger_netlist =
    text (codes ".model ha" ∷ codes ".inputs a b" ∷ codes ".outputs s c" ∷ codes ".names a b s"
    ∷ codes "10 1" ∷ codes "01 1" ∷ codes ".names a b s c" ∷ codes "110 1" ∷ codes ".end" ∷ [])

abbrev pub larger_texts : Texts
larger_texts = texts_of_three larger_netlist (text (codes "00" ∷ []))
    (text (codes "salsa 2" ∷ codes "metric abs" ∷ codes "bound 0" ∷ codes "maximum 0" ∷ codes "witness 00"
    ∷ codes "tables 2 2" ∷ codes "literals 6 7" ∷ codes "minimal no" ∷ []))

pub record GrowthExamples : Type 0 where
  pub allowed : Holds (confirmed_claim (one_word Abs) 0) half_adder larger_texts clause.Counts
  pub refused : Holds (checked_claim (one_word Abs) 0) half_adder larger_texts clause.Counts → ⊥

-- the half adder with its sum constant and its carry a copy of b; no move of this net keeps the bound 1
abbrev pub carry_copied_netlist : Bytes
carry_copied_netlist =
    text (codes ".model ha" ∷ codes ".inputs a b" ∷ codes ".outputs s c" ∷ codes ".names s"
    ∷ codes ".names b c" ∷ codes "1 1" ∷ codes ".end" ∷ [])

abbrev pub carry_copied_report : Bytes
carry_copied_report =
    text (
    codes "salsa 2" ∷ codes "metric abs" ∷ codes "bound 1" ∷ codes "maximum 1" ∷ codes "witness 10"
    ∷ codes "tables 2 2" ∷ codes "literals 6 1"
    ∷ codes "minimal yes" ∷ []
    )

abbrev pub carry_copied_texts : Bytes → Texts
carry_copied_texts vectors = texts_of_three carry_copied_netlist vectors carry_copied_report

-- The clause on further moves: with all vectors each move is broken; with the witness alone some move is not;
-- a net without moves needs no vector.
pub record MinimalExamples : Type 0 where
  pub each_broken : Holds (checked_claim (one_word Abs) 1) half_adder
      (carry_copied_texts (text (codes "10" ∷ codes "00" ∷ codes "10" ∷ codes "01" ∷ codes "11" ∷ [])))
      clause.Minimal
  pub witness_alone : Holds (checked_claim (one_word Abs) 1) half_adder
      (carry_copied_texts (text (codes "10" ∷ []))) clause.Minimal → ⊥
  pub without_moves :
      Holds (checked_claim (one_word Abs) 3) half_adder
      (texts_of_three both_constant_netlist both_constant_vectors
      (report_with (codes "maximum 2") (codes "literals 6 0") (codes "minimal yes")))
      clause.Minimal
