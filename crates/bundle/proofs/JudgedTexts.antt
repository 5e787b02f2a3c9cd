-- Which clause fails first, and which files are needed, by what is known of the texts.
use Rattle.std.proofs.Common.{◌≡◌, ◌≢◌, ℕ, ◌≤◌, Bool, IsTrue, List, [], ◌∷◌, Some, refl, ap, subst, arith}
use Rattle.semantics.specs.Net.{NetValue, HasSamePorts}
use Rattle.semantics.specs.Error.{net_error}
use Rattle.semantics.specs.declared.metric.Metric.{Metric}
use Rattle.chain_semantics.specs.Minimality.{AreBrokenBySome}
use Rattle.proof_semantics.specs.Formula.{Formula, dimacs_text}
use Rattle.proof_semantics.specs.Logs.{LogItem, Refutes}
use Rattle.proof_semantics.specs.Miter.{miter}
use Rattle.job_semantics.specs.declared.ending.Ending.TheVariants as file
use Rattle.job_semantics.specs.declared.certificate_clause.Clause.TheVariants as clause
use Rattle.job_semantics.specs.declared.growth.Growth.{Growth}
use Rattle.job_semantics.specs.declared.claim.Claim.{Claim}
use Rattle.job_semantics.specs.Report.{Report}
use Rattle.job_semantics.specs.Certificate.{IsNeededFor, Texts, moves_in, IsNetlist, IsReport, AreVectors, IsRefutation, AreCounts, OfNet, OfReport, IsShownMinimal, OfBoth, Holds, CertifiesWith}
use Rattle.job_semantics.specs.Certificate.{IsFirstFailing}
use Rattle.job_semantics.proofs.Certificates.{verified_law}
use Rattle.bundle_texts.specs.declared.report_reading.ReportRead.{ReportRead}
use Rattle.bundle_texts.specs.Reading.{report_read}
use Rattle.bundle_texts.specs.LogTold.{IsRefutingText}
use Rattle.bundle_texts.specs.LogJudged.{IsLogIn}
use Rattle.bundle.specs.declared.judged.Judged.TheVariants.{Good}
use Rattle.bundle.specs.Judging.{ClaimedValue, IsJudged, NetKnown, ReportKnown, WitnessKnown, FormulaKnown, LogKnown}

-- the vectors break each move of the net that the report's version knows
abbrev pub BreaksAll : NetValue → Metric → ℕ → NetValue → Report → List (List Bool) → Type 0
BreaksAll exact metric bound M r vectors = AreBrokenBySome metric exact bound M vectors (moves_in r.version M)

-- the counts do not depend on the metric and the bound
pub counts_at : (growth : Growth) (N M : NetValue) (read : ReportRead) (m k : Metric) (a b : ℕ) → AreCounts growth N M (report_read m a read)
    → AreCounts growth N M (report_read k b read)
counts_at growth N M read m k a b h = record {
  old_tables = h.old_tables;
  new_tables = h.new_tables;
  old_literals = h.old_literals;
  new_literals = h.new_literals;
  size = h.size;
}

module _ (claim : Claim) (exact : NetValue) (texts : Texts) where
  -- the net M, of which this is claimed
  abbrev pub against : NetValue → ClaimedValue
  against M = record { claim = claim; exact = exact; approx = M }

  of_net : (P : NetValue → Type 0) (M : NetValue) → IsNetlist texts M → OfNet texts P → P M
  of_net P M is some = subst P (verified_law.one_net texts some.0 M some.1 is) some.2

  of_report : (P : Report → Type 0) (r : Report) → IsReport claim.metric claim.bound exact texts r → OfReport claim.metric claim.bound exact texts P → P r
  of_report P r is some = subst P (verified_law.one_report claim.metric claim.bound exact texts some.0 r some.1 is) some.2

  of_both : (P : NetValue → Report → Type 0) (M : NetValue) (r : Report) → IsNetlist texts M → IsReport claim.metric claim.bound exact texts r → OfBoth claim.metric claim.bound exact texts P → P M r
  of_both P M r net report some = of_report (P M) r report (of_net (λ N. OfReport claim.metric claim.bound exact texts (P N)) M net some)

  -- ---- the first that fails

  pub no_netlist : ((M : NetValue) → ¬ IsNetlist texts M) → IsFirstFailing claim exact texts clause.Netlist
  no_netlist none = record {
    before = [];
    after = clause.Ports ∷ clause.ReportForm ∷ clause.MaximumWithin ∷ clause.Witness ∷ clause.Attained ∷ clause.Formula ∷ clause.Log ∷ clause.Counts ∷ clause.Minimal ∷ [];
    order = refl;
    hold = tt;
    fails = λ (M, is). none M is;
  }

  pub other_ports : (M : NetValue) → IsNetlist texts M → ¬ HasSamePorts exact M → IsFirstFailing claim exact texts clause.Ports
  other_ports M net other = record {
    before = clause.Netlist ∷ [];
    after = clause.ReportForm ∷ clause.MaximumWithin ∷ clause.Witness ∷ clause.Attained ∷ clause.Formula ∷ clause.Log ∷ clause.Counts ∷ clause.Minimal ∷ [];
    order = refl;
    hold = ((M, net), tt);
    fails = λ some. other (of_net (HasSamePorts exact) M net some);
  }

  module _ (M : NetValue) where
    pub no_report : NetKnown exact M texts → ((r : Report) → ¬ IsReport claim.metric claim.bound exact texts r) → IsFirstFailing claim exact texts clause.ReportForm
    no_report known none = record {
      before = clause.Netlist ∷ clause.Ports ∷ [];
      after = clause.MaximumWithin ∷ clause.Witness ∷ clause.Attained ∷ clause.Formula ∷ clause.Log ∷ clause.Counts ∷ clause.Minimal ∷ [];
      order = refl;
      hold = ((M, known.netlist), ((M, known.netlist, known.ports), tt));
      fails = λ (r, is). none r is;
    }

    pub above_bound : (r : Report) → NetKnown exact M texts → IsReport claim.metric claim.bound exact texts r → ¬ (r.maximum ≤ claim.bound) → IsFirstFailing claim exact texts clause.MaximumWithin
    above_bound r known report above = record {
      before = clause.Netlist ∷ clause.Ports ∷ clause.ReportForm ∷ [];
      after = clause.Witness ∷ clause.Attained ∷ clause.Formula ∷ clause.Log ∷ clause.Counts ∷ clause.Minimal ∷ [];
      order = refl;
      hold = ((M, known.netlist), ((M, known.netlist, known.ports), ((r, report), tt)));
      fails = λ some. above (of_report (λ s. s.maximum ≤ claim.bound) r report some);
    }

    module _ (r : Report) where
      pub other_vectors : ReportKnown (against M) r texts → ((pool : List (List Bool)) → ¬ AreVectors exact texts r.witness pool) → IsFirstFailing claim exact texts clause.Witness
      other_vectors known none = record {
        before = clause.Netlist ∷ clause.Ports ∷ clause.ReportForm ∷ clause.MaximumWithin ∷ [];
        after = clause.Attained ∷ clause.Formula ∷ clause.Log ∷ clause.Counts ∷ clause.Minimal ∷ [];
        order = refl;
        hold = ((M, known.net.netlist), ((M, known.net.netlist, known.net.ports), ((r, known.report), ((r, known.report, known.within), tt))));
        fails = λ some. let here = of_report (λ s. (pool : List (List Bool)) × AreVectors exact texts s.witness pool) r known.report some in none here.0 here.1;
      }

      pub not_attained : ReportKnown (against M) r texts → (pool : List (List Bool)) → AreVectors exact texts r.witness pool → net_error claim.metric exact M r.witness ≢ r.maximum
          → IsFirstFailing claim exact texts clause.Attained
      not_attained known pool vectors other = record {
        before = clause.Netlist ∷ clause.Ports ∷ clause.ReportForm ∷ clause.MaximumWithin ∷ clause.Witness ∷ [];
        after = clause.Formula ∷ clause.Log ∷ clause.Counts ∷ clause.Minimal ∷ [];
        order = refl;
        hold = ((M, known.net.netlist), ((M, known.net.netlist, known.net.ports), ((r, known.report), ((r, known.report, known.within), ((r, known.report, (pool, vectors)), tt)))));
        fails = λ some. other (of_both (λ N s. net_error claim.metric exact N s.witness ≡ s.maximum) M r known.net.netlist known.report some);
      }

      module _ (shown : Bool) where
        pub other_formula : WitnessKnown (against M) r shown texts → texts file.Formula ≢ dimacs_text (miter exact M claim.metric r.maximum)
            → IsFirstFailing claim exact texts clause.Formula
        other_formula known other =
            let k = known.report in
            record {
              before = clause.Netlist ∷ clause.Ports ∷ clause.ReportForm ∷ clause.MaximumWithin ∷ clause.Witness ∷ clause.Attained ∷ [];
              after = clause.Log ∷ clause.Counts ∷ clause.Minimal ∷ [];
              order = refl;
              hold = (
                (M, k.net.netlist),
                (
                  (M, k.net.netlist, k.net.ports),
                  (
                    (r, k.report),
                    ((r, k.report, k.within), ((r, k.report, (known.vectors.pool, known.vectors.read)), ((M, k.net.netlist, (r, k.report, known.attained)), tt))),
                  ),
                ),
              );
              fails = λ some. other (of_both (λ N s. texts file.Formula ≡ dimacs_text (miter exact N claim.metric s.maximum)) M r k.net.netlist k.report some);
            }

        pub no_refutation : FormulaKnown (against M) r shown texts → ¬ IsRefutingText (miter exact M claim.metric r.maximum).clauses (texts file.Log)
            → IsFirstFailing claim exact texts clause.Log
        no_refutation known other =
            let w = known.witness in
            let k = w.report in
            record {
              before = clause.Netlist ∷ clause.Ports ∷ clause.ReportForm ∷ clause.MaximumWithin ∷ clause.Witness ∷ clause.Attained ∷ clause.Formula ∷ [];
              after = clause.Counts ∷ clause.Minimal ∷ [];
              order = refl;
              hold = (
                (M, k.net.netlist),
                (
                  (M, k.net.netlist, k.net.ports),
                  (
                    (r, k.report),
                    (
                      (r, k.report, k.within),
                      ((r, k.report, (w.vectors.pool, w.vectors.read)), ((M, k.net.netlist, (r, k.report, w.attained)), ((M, k.net.netlist, (r, k.report, known.formula)), tt))),
                    ),
                  ),
                ),
              );
              fails = λ some.
                  let here = of_both (λ N s. (log : List LogItem) × IsRefutation (miter exact N claim.metric s.maximum) (texts file.Log) log) M r k.net.netlist k.report some in
                  other (here.0, here.1.read, here.1.refutes);
            }

        -- what was kept of the log's text, which refutes the formula
        module _ {L : Type 0} (holds : L → List LogItem → Type 0) (known : FormulaKnown (against M) r shown texts) (goal : Formula) (same : goal ≡ miter exact M claim.metric r.maximum)
            (kept : L) (found : IsLogIn holds goal.clauses (Some kept) (texts file.Log)) where
          pub known_log : LogKnown (against M) r shown texts
          known_log =
              let (log, read, refutes, held) = found in
              record { formula = known; refutation = (log, read, subst (λ (f : Formula). Refutes f.clauses log) same refutes) }

          pub certificate_of : CertifiesWith claim exact texts → IsJudged holds claim exact texts (Good goal kept)
          certificate_of certifies =
              let (log, read, refutes, held) = found in
              let k = known.witness.report in (
                log,
                held,
                record {
                  certifies = certifies;
                  parts = (M, k.net.netlist, (r, k.report, (same, record { read = read; refutes = subst (λ (f : Formula). Refutes f.clauses log) same refutes })));
                },
              )

        module _ (known : LogKnown (against M) r shown texts) where
          n : IsNetlist texts M
          n = known.formula.witness.report.net.netlist

          k : ReportKnown (against M) r texts
          k = known.formula.witness.report

          w : WitnessKnown (against M) r shown texts
          w = known.formula.witness

          log_holds : Holds claim exact texts clause.Log
          log_holds = (M, n, (r, k.report, (known.refutation.0, record { read = known.refutation.1; refutes = known.refutation.2 })))

          formula_holds : Holds claim exact texts clause.Formula
          formula_holds = (M, n, (r, k.report, known.formula.formula))

          attained_holds : Holds claim exact texts clause.Attained
          attained_holds = (M, n, (r, k.report, w.attained))

          pub other_counts : ¬ AreCounts claim.growth exact M r → IsFirstFailing claim exact texts clause.Counts
          other_counts other = record {
            before = clause.Netlist ∷ clause.Ports ∷ clause.ReportForm ∷ clause.MaximumWithin ∷ clause.Witness ∷ clause.Attained ∷ clause.Formula ∷ clause.Log ∷ [];
            after = clause.Minimal ∷ [];
            order = refl;
            hold = (
              (M, n),
              ((M, n, k.net.ports), ((r, k.report), ((r, k.report, k.within), ((r, k.report, (w.vectors.pool, w.vectors.read)), (attained_holds, (formula_holds, (log_holds, tt))))))),
            );
            fails = λ some. other (of_both (AreCounts claim.growth exact) M r n k.report some);
          }

          -- the vectors that were read are those of the text, which has no others
          held_minimal : ((pool : List (List Bool)) × AreVectors exact texts r.witness pool × BreaksAll exact claim.metric claim.bound M r (r.witness ∷ pool))
              → BreaksAll exact claim.metric claim.bound M r (r.witness ∷ w.vectors.pool)
          held_minimal (pool, vectors, minimal) =
              subst (BreaksAll exact claim.metric claim.bound M r)
              (ap (λ others. r.witness ∷ others) (verified_law.one_pool exact texts r.witness pool w.vectors.pool vectors w.vectors.read)) minimal

          shown_minimal : AreCounts claim.growth exact M r → IsTrue shown → IsShownMinimal claim.metric claim.bound exact texts M r
          shown_minimal counts is minimal = (w.vectors.pool, w.vectors.read, (w.vectors.decided counts).0 is minimal)

          pub not_shown : AreCounts claim.growth exact M r → ¬ IsTrue shown → IsFirstFailing claim exact texts clause.Minimal
          not_shown counts other = record {
            before =
                clause.Netlist ∷ clause.Ports ∷ clause.ReportForm ∷ clause.MaximumWithin ∷ clause.Witness ∷ clause.Attained ∷ clause.Formula ∷ clause.Log ∷ clause.Counts ∷ [];
            after = [];
            order = refl;
            hold = (
              (M, n),
              (
                (M, n, k.net.ports),
                (
                  (r, k.report),
                  (
                    (r, k.report, k.within),
                    ((r, k.report, (w.vectors.pool, w.vectors.read)), (attained_holds, (formula_holds, (log_holds, ((M, n, (r, k.report, counts)), tt))))),
                  ),
                ),
              ),
            );
            fails = λ some. other ((w.vectors.decided counts).1 (λ minimal. held_minimal (of_both (IsShownMinimal claim.metric claim.bound exact texts) M r n k.report some minimal)));
          }

          pub all_hold : AreCounts claim.growth exact M r → IsTrue shown → CertifiesWith claim exact texts
          all_hold counts is = (
            (M, n),
            (
              (M, n, k.net.ports),
              (
                (r, k.report),
                (
                  (r, k.report, k.within),
                  (
                    (r, k.report, (w.vectors.pool, w.vectors.read)),
                    (attained_holds, (formula_holds, (log_holds, ((M, n, (r, k.report, counts)), ((M, n, (r, k.report, shown_minimal counts is)), tt))))),
                  ),
                ),
              ),
            ),
          )

  -- ---- which clauses need a file

  pub netlist_needed : IsNeededFor claim exact texts file.Netlist
  netlist_needed clause.Netlist f = (0, omega arith, refl)
  netlist_needed clause.Ports f = (0, omega arith, refl)
  netlist_needed clause.ReportForm f = (0, omega arith, refl)
  netlist_needed clause.MaximumWithin f = (0, omega arith, refl)
  netlist_needed clause.Witness f = (0, omega arith, refl)
  netlist_needed clause.Attained f = (0, omega arith, refl)
  netlist_needed clause.Formula f = (0, omega arith, refl)
  netlist_needed clause.Log f = (0, omega arith, refl)
  netlist_needed clause.Counts f = (0, omega arith, refl)
  netlist_needed clause.Minimal f = (0, omega arith, refl)

  pub report_needed : (M : NetValue) → NetKnown exact M texts → IsNeededFor claim exact texts file.Report
  report_needed M known clause.Netlist f = absurd (f.fails (M, known.netlist))
  report_needed M known clause.Ports f = absurd (f.fails (M, known.netlist, known.ports))
  report_needed M known clause.ReportForm f = (1, omega arith, refl)
  report_needed M known clause.MaximumWithin f = (1, omega arith, refl)
  report_needed M known clause.Witness f = (2, omega arith, refl)
  report_needed M known clause.Attained f = (2, omega arith, refl)
  report_needed M known clause.Formula f = (3, omega arith, refl)
  report_needed M known clause.Log f = (4, omega arith, refl)
  report_needed M known clause.Counts f = (4, omega arith, refl)
  report_needed M known clause.Minimal f = (4, omega arith, refl)

  pub vectors_needed : (M : NetValue) (r : Report) → ReportKnown (against M) r texts → IsNeededFor claim exact texts file.Vectors
  vectors_needed M r known clause.Netlist f = absurd (f.fails (M, known.net.netlist))
  vectors_needed M r known clause.Ports f = absurd (f.fails (M, known.net.netlist, known.net.ports))
  vectors_needed M r known clause.ReportForm f = absurd (f.fails (r, known.report))
  vectors_needed M r known clause.MaximumWithin f = absurd (f.fails (r, known.report, known.within))
  vectors_needed M r known clause.Witness f = (1, omega arith, refl)
  vectors_needed M r known clause.Attained f = (1, omega arith, refl)
  vectors_needed M r known clause.Formula f = (2, omega arith, refl)
  vectors_needed M r known clause.Log f = (3, omega arith, refl)
  vectors_needed M r known clause.Counts f = (3, omega arith, refl)
  vectors_needed M r known clause.Minimal f = (3, omega arith, refl)

  pub formula_needed : (M : NetValue) (r : Report) (shown : Bool) → WitnessKnown (against M) r shown texts → IsNeededFor claim exact texts file.Formula
  formula_needed M r shown known clause.Netlist f = absurd (f.fails (M, known.report.net.netlist))
  formula_needed M r shown known clause.Ports f = absurd (f.fails (M, known.report.net.netlist, known.report.net.ports))
  formula_needed M r shown known clause.ReportForm f = absurd (f.fails (r, known.report.report))
  formula_needed M r shown known clause.MaximumWithin f = absurd (f.fails (r, known.report.report, known.report.within))
  formula_needed M r shown known clause.Witness f = absurd (f.fails (r, known.report.report, (known.vectors.pool, known.vectors.read)))
  formula_needed M r shown known clause.Attained f = absurd (f.fails (M, known.report.net.netlist, (r, known.report.report, known.attained)))
  formula_needed M r shown known clause.Formula f = (1, omega arith, refl)
  formula_needed M r shown known clause.Log f = (1, omega arith, refl)
  formula_needed M r shown known clause.Counts f = (1, omega arith, refl)
  formula_needed M r shown known clause.Minimal f = (1, omega arith, refl)

  pub log_needed : (M : NetValue) (r : Report) (shown : Bool) → FormulaKnown (against M) r shown texts → IsNeededFor claim exact texts file.Log
  log_needed M r shown known clause.Netlist f = absurd (f.fails (M, known.witness.report.net.netlist))
  log_needed M r shown known clause.Ports f = absurd (f.fails (M, known.witness.report.net.netlist, known.witness.report.net.ports))
  log_needed M r shown known clause.ReportForm f = absurd (f.fails (r, known.witness.report.report))
  log_needed M r shown known clause.MaximumWithin f = absurd (f.fails (r, known.witness.report.report, known.witness.report.within))
  log_needed M r shown known clause.Witness f = absurd (f.fails (r, known.witness.report.report, (known.witness.vectors.pool, known.witness.vectors.read)))
  log_needed M r shown known clause.Attained f = absurd (f.fails (M, known.witness.report.net.netlist, (r, known.witness.report.report, known.witness.attained)))
  log_needed M r shown known clause.Formula f = absurd (f.fails (M, known.witness.report.net.netlist, (r, known.witness.report.report, known.formula)))
  log_needed M r shown known clause.Log f = (2, omega arith, refl)
  log_needed M r shown known clause.Counts f = (2, omega arith, refl)
  log_needed M r shown known clause.Minimal f = (2, omega arith, refl)
