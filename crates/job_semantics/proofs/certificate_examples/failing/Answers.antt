use Rattle.std.proofs.Common.{◌≡◌, ℕ, Bool, true, false, List, [], ◌∷◌, ◌++◌, get_or, codes, refl, ap, sym, subst, ◌∙◌, lit≤, arith}
use Rattle.semantics.specs.Texts.{text_of}
use Rattle.semantics.specs.Net.{HasSamePorts, literal_count}
use Rattle.semantics.specs.Value.{after_rounds, value_of, outputs_of}
use Rattle.semantics.specs.Error.{error_of, net_error, one_word}
use Rattle.semantics.specs.declared.metric.Kind.TheVariants.{Abs}
use Rattle.semantics.specs.Examples.{text, half_adder, both_constant}
use Rattle.job_semantics.specs.declared.certificate_clause.Clause.TheVariants as clause
use Rattle.job_semantics.specs.Report.{vectors_text}
use Rattle.job_semantics.specs.Certificate.{IsVectorsText}
use Rattle.job_semantics.specs.CertificateExamples.{both_constant_texts, both_constant_vectors, both_constant_report}
use Rattle.job_semantics.proofs.Certificates.{verified_law}
use Rattle.job_semantics.proofs.CertificateTexts as the
use Rattle.job_semantics.proofs.certificate_examples.failing.Goals as goal

same_ports : HasSamePorts half_adder both_constant
same_ports = record { inputs = refl; outputs = refl }

vectors_read : IsVectorsText 2 both_constant_vectors (true ∷ true ∷ []) ((false ∷ false ∷ []) ∷ (true ∷ false ∷ []) ∷ [])
unfolding text_of vectors_text
vectors_read = record { spelled = refl; widths = (refl, (refl, (refl, tt))) }

attained : net_error (one_word Abs) half_adder both_constant (true ∷ true ∷ []) ≡ 2
unfolding after_rounds value_of outputs_of error_of net_error
attained = refl

-- the first line is not the witness
other_line : (pool : List (List Bool)) → IsVectorsText 2 (text (codes "00" ∷ codes "11" ∷ [])) (true ∷ true ∷ []) pool → ⊥
unfolding text_of vectors_text
other_line pool h = let first : ◌≡◌ {A = ℕ} 48 49 = ap (λ t. get_or t 0 0) h.spelled in omega arith

cut_line : (witness : List Bool) (pool : List (List Bool)) → IsVectorsText 2 (text (codes "11" ∷ []) ++ codes "00") witness pool → ⊥
unfolding text_of
cut_line witness pool h = let part : ◌≡◌ {A = ℕ} 2 0 = the.whole_lines _ witness pool h in omega arith

pub returns : goal.returns
returns c = record {
  no_formula = record {
    before = clause.Netlist ∷ clause.Ports ∷ clause.ReportForm ∷ clause.MaximumWithin ∷ clause.Witness ∷ clause.Attained ∷ [];
    after = clause.Log ∷ clause.Counts ∷ clause.Minimal ∷ [];
    order = refl;
    hold = (
      (both_constant, the.netlist_read),
      (
        (both_constant, the.netlist_read, same_ports),
        (
          (the.the_report 2 0 false, the.report_read),
          (
            (the.the_report 2 0 false, the.report_read, lit≤ tt),
            (
              (the.the_report 2 0 false, the.report_read, (_, vectors_read)),
              ((both_constant, the.netlist_read, (the.the_report 2 0 false, the.report_read, attained)), tt),
            ),
          ),
        ),
      ),
    );
    fails = λ h. the.some_formula _ h.2.2;
  };
  other_bound = record {
    before = clause.Netlist ∷ clause.Ports ∷ [];
    after = clause.MaximumWithin ∷ clause.Witness ∷ clause.Attained ∷ clause.Formula ∷ clause.Log ∷ clause.Counts ∷ clause.Minimal ∷ [];
    order = refl;
    hold = ((both_constant, the.netlist_read), ((both_constant, the.netlist_read, same_ports), tt));
    fails = λ h. the.other_bound h.0 h.1;
  };
  no_netlist = record {
    before = [];
    after = clause.Ports ∷ clause.ReportForm ∷ clause.MaximumWithin ∷ clause.Witness ∷ clause.Attained ∷ clause.Formula ∷ clause.Log ∷ clause.Counts ∷ clause.Minimal ∷ [];
    order = refl;
    hold = tt;
    fails = λ h. the.no_net h.0 h.1;
  };
  other_ports = record {
    before = clause.Netlist ∷ [];
    after = clause.ReportForm ∷ clause.MaximumWithin ∷ clause.Witness ∷ clause.Attained ∷ clause.Formula ∷ clause.Log ∷ clause.Counts ∷ clause.Minimal ∷ [];
    order = refl;
    hold = ((the.swapped, the.swapped_read), tt);
    fails = λ h. the.other_ports h.0 h.1 h.2;
  };
  large_maximum = record {
    before = clause.Netlist ∷ clause.Ports ∷ clause.ReportForm ∷ [];
    after = clause.Witness ∷ clause.Attained ∷ clause.Formula ∷ clause.Log ∷ clause.Counts ∷ clause.Minimal ∷ [];
    order = refl;
    hold = ((both_constant, the.netlist_read), ((both_constant, the.netlist_read, same_ports), ((the.the_report 4 0 false, the.large_read), tt)));
    fails = λ h. let is = the.the_one the.large_report h.0 (the.the_report 4 0 false) h.1 the.large_read in omega (arith, h.2, ap (λ r. r.maximum) is);
  };
  other_first_line = record {
    before = clause.Netlist ∷ clause.Ports ∷ clause.ReportForm ∷ clause.MaximumWithin ∷ [];
    after = clause.Attained ∷ clause.Formula ∷ clause.Log ∷ clause.Counts ∷ clause.Minimal ∷ [];
    order = refl;
    hold = (
      (both_constant, the.netlist_read),
      ((both_constant, the.netlist_read, same_ports), ((the.the_report 2 0 false, the.report_read), ((the.the_report 2 0 false, the.report_read, lit≤ tt), tt))),
    );
    fails = λ h. other_line h.2.0
        (subst (λ r. IsVectorsText 2 (text (codes "00" ∷ codes "11" ∷ [])) r.witness h.2.0) (the.the_one both_constant_report h.0 (the.the_report 2 0 false) h.1 the.report_read) h.2.1);
  };
  no_last_line_end = record {
    before = clause.Netlist ∷ clause.Ports ∷ clause.ReportForm ∷ clause.MaximumWithin ∷ [];
    after = clause.Attained ∷ clause.Formula ∷ clause.Log ∷ clause.Counts ∷ clause.Minimal ∷ [];
    order = refl;
    hold = (
      (both_constant, the.netlist_read),
      ((both_constant, the.netlist_read, same_ports), ((the.the_report 2 0 false, the.report_read), ((the.the_report 2 0 false, the.report_read, lit≤ tt), tt))),
    );
    fails = λ h. cut_line h.0.witness h.2.0 h.2.1;
  };
  other_maximum = record {
    before = clause.Netlist ∷ clause.Ports ∷ clause.ReportForm ∷ clause.MaximumWithin ∷ clause.Witness ∷ [];
    after = clause.Formula ∷ clause.Log ∷ clause.Counts ∷ clause.Minimal ∷ [];
    order = refl;
    hold = (
      (both_constant, the.netlist_read),
      (
        (both_constant, the.netlist_read, same_ports),
        ((the.the_report 0 0 false, the.zero_read), ((the.the_report 0 0 false, the.zero_read, lit≤ tt), ((the.the_report 0 0 false, the.zero_read, (_, vectors_read)), tt))),
      ),
    );
    fails = λ h.
        let net = verified_law.one_net both_constant_texts h.0 both_constant h.1 the.netlist_read in
        let report = the.the_one the.zero_report h.2.0 (the.the_report 0 0 false) h.2.1 the.zero_read in
        let two : ◌≡◌ {A = ℕ} 2 0 = sym attained ∙ sym (λ i. net_error (one_word Abs) half_adder (net i) (report i).witness) ∙ h.2.2 ∙ ap (λ r. r.maximum) report in omega arith;
  };
  other_literals = λ h.
      let net = verified_law.one_net both_constant_texts h.0 both_constant h.1 the.netlist_read in
      let report = the.the_one the.literal_report h.2.0 (the.the_report 2 1 false) h.2.1 the.literal_read in
      let one : ◌≡◌ {A = ℕ} 1 0 = sym (ap (λ r. r.new_literals) report) ∙ h.2.2.new_literals ∙ ap literal_count net in omega arith;
}
