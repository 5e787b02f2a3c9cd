use Rattle.std.proofs.Common.{[], ◌∷◌, codes, refl, lit≤}
use Rattle.job_semantics.specs.declared.version.Version.TheVariants.{One, Two}
use Rattle.job_semantics.specs.declared.certificate_clause.Clause.TheVariants as clause
use Rattle.job_semantics.specs.VersionExamples.{conjunction_by_parity}
use Rattle.job_semantics.proofs.ParityTexts.{parity_report_of, all_eight, netlist_read, report_read, vectors_read, same_ports, attained, counts, old_moves_break, not_minimal}
use Rattle.job_semantics.proofs.version_examples.versions.Goals as goal

pub returns : goal.returns
returns c = record {
  first_version = λ formula log formula_holds log_holds.
      let N = conjunction_by_parity in
      let r = parity_report_of One in
      let net = netlist_read (codes "salsa 1") formula log in (
        (N, net),
        (
          (N, net, same_ports),
          (
            (r, report_read One),
            (
              (r, report_read One, lit≤ tt),
              (
                (r, report_read One, (all_eight, vectors_read)),
                (
                  (N, net, (r, report_read One, attained)),
                  (
                    formula_holds,
                    (
                      log_holds,
                      (
                        (N, net, (r, report_read One, counts One)),
                        ((N, net, (r, report_read One, λ yes. (all_eight, vectors_read, old_moves_break))), tt),
                      ),
                    ),
                  ),
                ),
              ),
            ),
          ),
        ),
      );
  second_version = λ formula log formula_holds log_holds.
      let N = conjunction_by_parity in
      let r = parity_report_of Two in
      let net = netlist_read (codes "salsa 2") formula log in
      record {
        before =
            clause.Netlist ∷ clause.Ports ∷ clause.ReportForm ∷ clause.MaximumWithin ∷ clause.Witness ∷ clause.Attained ∷ clause.Formula ∷ clause.Log
            ∷ clause.Counts ∷ [];
        after = [];
        order = refl;
        hold = (
          (N, net),
          (
            (N, net, same_ports),
            (
              (r, report_read Two),
              (
                (r, report_read Two, lit≤ tt),
                (
                  (r, report_read Two, (all_eight, vectors_read)),
                  (
                    (N, net, (r, report_read Two, attained)),
                    (formula_holds, (log_holds, ((N, net, (r, report_read Two, counts Two)), tt))),
                  ),
                ),
              ),
            ),
          ),
        );
        fails = not_minimal formula log;
      };
}
