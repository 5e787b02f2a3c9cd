use Rattle.std.proofs.Common.{◌≡◌, true, false, [], ◌∷◌, codes, refl, ap, lit≤, lit<, arith}
use Rattle.std.specs.Fmt.{digits}
use Rattle.semantics.specs.Texts.{text_of}
use Rattle.semantics.specs.Net.{NetValue, literal_count}
use Rattle.semantics.specs.Refusals.{first_ungrounded}
use Rattle.semantics.specs.Error.{one_word}
use Rattle.semantics.specs.declared.metric.Kind.TheVariants.{Abs}
use Rattle.semantics.specs.declared.mark.Mark.TheVariants.{One, Zero}
use Rattle.semantics.specs.Examples.{half_adder}
use Rattle.semantics.specs.Replaced.{with_table}
use Rattle.blif_semantics.specs.Lines.{logical_lines}
use Rattle.blif_semantics.specs.Statements.{first_wrong}
use Rattle.blif_semantics.specs.Reading.{named_net, numbered, blif_reading}
use Rattle.job_semantics.specs.declared.version.Version.TheVariants.{Two}
use Rattle.job_semantics.specs.declared.ending.Ending.TheVariants as file
use Rattle.job_semantics.specs.Report.{Report, report_text}
use Rattle.job_semantics.specs.Certificate.{IsNetlist, IsReportText}
use Rattle.job_semantics.specs.CertificateExamples.{larger_texts}
use Rattle.job_semantics.proofs.Certificates.{verified_law}
use Rattle.job_semantics.proofs.certificate_examples.growth.Goals as goal

abbrev larger : NetValue
larger = with_table half_adder 1 (record { name = codes "c"; pins = 0 ∷ 1 ∷ 2 ∷ []; rows = (One ∷ One ∷ Zero ∷ []) ∷ []; plane = true })

abbrev larger_report : Report
larger_report = record {
  version = Two;
  metric = one_word Abs;
  bound = 0;
  maximum = 0;
  witness = false ∷ false ∷ [];
  old_tables = 2;
  new_tables = 2;
  old_literals = 6;
  new_literals = 7;
  minimal = false;
}

netlist_read : IsNetlist larger_texts larger
unfolding text_of first_ungrounded logical_lines first_wrong named_net numbered blif_reading
netlist_read = refl

report_read : IsReportText 2 (one_word Abs) 0 (larger_texts file.Report) larger_report
unfolding text_of report_text digits
report_read = record { spelled = refl; same_metric = refl; same_bound = refl; maximum = lit≤ tt; witness = refl; counts = (lit< tt, (lit< tt, (lit< tt, (lit< tt, tt)))) }

-- the net that is read has seven literals, and the original has six
seven : literal_count larger ≡ 7
seven = refl

pub returns : goal.returns
returns c = record {
  allowed = (
    larger,
    netlist_read,
    (larger_report, report_read, record { old_tables = refl; new_tables = refl; old_literals = refl; new_literals = refl; size = λ no. absurd (cc no) }),
  );
  refused = λ h.
      let net : h.0 ≡ larger = verified_law.one_net larger_texts h.0 larger h.1 netlist_read in
      let six : literal_count half_adder ≡ 6 = refl in
      omega (arith, (h.2.2.size refl).1, ap literal_count net, seven, six);
}
