use Rattle.std.proofs.Common.{true, false, [], ◌∷◌, refl, lit≤}
use Rattle.semantics.specs.Texts.{text_of}
use Rattle.semantics.specs.Value.{after_rounds, value_of, outputs_of}
use Rattle.semantics.specs.Error.{error_of, net_error}
use Rattle.semantics.specs.Examples.{both_constant}
use Rattle.job_semantics.specs.Report.{vectors_text}
use Rattle.job_semantics.proofs.CertificateTexts.{the_report, netlist_read, report_read}
use Rattle.job_semantics.proofs.certificate_examples.holding.Goals as goal

pub returns : goal.returns
unfolding text_of vectors_text after_rounds value_of outputs_of error_of net_error
returns c = record {
  netlist = (both_constant, netlist_read);
  ports = (both_constant, netlist_read, record { inputs = refl; outputs = refl });
  report = (the_report 2 0 false, report_read);
  within = (the_report 2 0 false, report_read, lit≤ tt);
  witness = (the_report 2 0 false, report_read, ((false ∷ false ∷ []) ∷ (true ∷ false ∷ []) ∷ [], record { spelled = refl; widths = (refl, (refl, (refl, tt))) }));
  attained = (both_constant, netlist_read, (the_report 2 0 false, report_read, refl));
  counts = (
    both_constant,
    netlist_read,
    (
      the_report 2 0 false,
      report_read,
      record { old_tables = refl; new_tables = refl; old_literals = refl; new_literals = refl; size = λ is. (lit≤ tt, lit≤ tt) },
    ),
  );
  minimal = (both_constant, netlist_read, (the_report 2 0 false, report_read, λ yes. absurd (cc yes)));
}
