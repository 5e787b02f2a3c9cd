-- What a certificate shows, and which bundles are written as certificates.
use Rattle.std.specs.Prelude.{unwrap_or}
use Rattle.std.proofs.Common.{◌≡◌, ℕ, ◌^◌, ◌<◌, ◌≤◌, List, [], ◌∷◌, ◌++◌, refl, ap, sym, subst, ◌∙◌, arith}
use Rattle.std.proofs.lemmas.List.{append_cancel_left}
use Rattle.std.specs.List.{AllByRecursion}
use Rattle.semantics.specs.declared.limits.TheConstants.{MOST_BUNDLE_BYTES}
use Rattle.semantics.specs.Texts.{Bytes}
use Rattle.semantics.specs.Net.{NetValue, input_count, table_count, literal_count, HasSamePorts, IsSound, IsSmall}
use Rattle.semantics.specs.Error.{net_error}
use Rattle.semantics.specs.declared.metric.Metric.{Metric}
use Rattle.quality_semantics.proofs.Joint.{comparable}
use Rattle.blif_semantics.proofs.ReadNet.{read_sound}
use Rattle.blif_semantics.proofs.Written.{read}
use Rattle.proof_semantics.specs.Formula.{dimacs_text}
use Rattle.proof_semantics.specs.Logs.{LogItem, Refutes}
use Rattle.proof_semantics.specs.Miter.{miter}
use Rattle.proof_semantics.proofs.Miters.{miter_law}
use Rattle.proof_semantics.proofs.LratRoundTrip.{round_trip_law}
use Rattle.outside_semantics.specs.Outside.{Held}
use Rattle.outside_semantics.specs.WrittenFiles.{with_files}
use Rattle.job_semantics.specs.declared.ending.Ending.{Ending}
use Rattle.job_semantics.specs.declared.ending.Ending.TheVariants as file
use Rattle.job_semantics.specs.Endings.{bundle_files}
use Rattle.job_semantics.specs.declared.certificate_clause.Clause.{Clause}
use Rattle.job_semantics.specs.Report.{Report}
use Rattle.job_semantics.specs.Bundle.{BundleValue, bundle_report, bundle_text}
use Rattle.job_semantics.specs.Certificate.{Texts, texts_of, moves_in, IsNetlist, IsReport, AreVectors, IsRefutation, IsShownMinimal, AreCounts, OfNet, OfReport, OfBoth, Holds, CertifiesWith}
use Rattle.job_semantics.specs.Certificate.{checked_claim, confirmed_claim}
use Rattle.job_semantics.specs.Certificate.{IsFirstFailing, IsOfAllowedSize}
use Rattle.job_semantics.specs.declared.growth.Growth.{Growth}
use Rattle.job_semantics.specs.declared.growth.Growth.TheVariants.{Refused, Allowed}
use Rattle.job_semantics.specs.CertificateLaws.{IsVerified, VerifiedLaw, IsRightBundle, HeldCertificateLaw, FirstFailingLaw, bundle_claim}
use Rattle.job_semantics.proofs.BundleFiles.{bundle_files-holds}
use Rattle.job_semantics.proofs.ReportTexts.{AreFew, one_report}
use Rattle.job_semantics.proofs.MinimalNets.{minimal-none_allowed}
use Rattle.job_semantics.proofs.VectorsTexts.{one_pool}
use Rattle.job_semantics.proofs.SmallNets.{literals_at_most}
use Rattle.job_semantics.proofs.WritableLogs.{writable}
use Rattle.job_semantics.specs.declared.claim.Claim.{Claim}

-- ---- one net and one report

same_net : (texts : Texts) (N M : NetValue) → IsNetlist texts N → IsNetlist texts M → N ≡ M
same_net texts N M n m = cc

few : (metric : Metric) (bound : ℕ) (exact : NetValue) (texts : Texts) (r : Report) → IsReport metric bound exact texts r → AreFew r
few metric bound exact texts r h = record { maximum = h.maximum; counts = h.counts }

same_report : (metric : Metric) (bound : ℕ) (exact : NetValue) (texts : Texts) (r s : Report) → IsReport metric bound exact texts r → IsReport metric bound exact texts s → r ≡ s
same_report metric bound exact texts r s h k =
    one_report r s (few metric bound exact texts r h) (few metric bound exact texts s k) (h.same_metric ∙ sym k.same_metric) (h.same_bound ∙ sym k.same_bound)
    (h.witness ∙ sym k.witness) (sym h.spelled ∙ k.spelled)

of_net : (texts : Texts) (P : NetValue → Type 0) (M : NetValue) → IsNetlist texts M → OfNet texts P → P M
of_net texts P M is some = subst P (same_net texts some.0 M some.1 is) some.2

module _ (metric : Metric) (bound : ℕ) (exact : NetValue) (texts : Texts) where
  of_report : (P : Report → Type 0) (r : Report) → IsReport metric bound exact texts r → OfReport metric bound exact texts P → P r
  of_report P r is some = subst P (same_report metric bound exact texts some.0 r some.1 is) some.2

  of_both : (P : NetValue → Report → Type 0) (M : NetValue) (r : Report) → IsNetlist texts M → IsReport metric bound exact texts r → OfBoth metric bound exact texts P → P M r
  of_both P M r net report some = of_report (P M) r report (of_net texts (λ N. OfReport metric bound exact texts (P N)) M net some)

-- ---- what a certificate shows

module _ (claim : Claim) (exact : NetValue) (texts : Texts) (sound : IsSound exact)
    (c : CertifiesWith claim exact texts) (M : NetValue) (r : Report) (net : IsNetlist texts M) (report : IsReport claim.metric claim.bound exact texts r) where
  with_ports : HasSamePorts exact M
  with_ports = of_net texts (HasSamePorts exact) M net c.1.0

  refuted : (log : List LogItem) × IsRefutation (miter exact M claim.metric r.maximum) (texts file.Log) log
  refuted = of_both claim.metric claim.bound exact texts (λ N s. (log : List LogItem) × IsRefutation (miter exact N claim.metric s.maximum) (texts file.Log) log) M r net report c.1.1.1.1.1.1.1.0

  counted : AreCounts claim.growth exact M r
  counted = of_both claim.metric claim.bound exact texts (AreCounts claim.growth exact) M r net report c.1.1.1.1.1.1.1.1.0

  verified : IsVerified claim exact M r
  verified = record {
    ports = with_ports;
    safe =
        let other = read_sound (texts file.Netlist) MOST_BUNDLE_BYTES M net in
        miter_law.refuted exact M claim.metric r.maximum (comparable exact M sound other with_ports) refuted.0 refuted.1.refutes;
    within = of_report claim.metric claim.bound exact texts (λ s. s.maximum ≤ claim.bound) r report c.1.1.1.0;
    width = report.witness;
    attained = of_both claim.metric claim.bound exact texts (λ N s. net_error claim.metric exact N s.witness ≡ s.maximum) M r net report c.1.1.1.1.1.0;
    size = counted.size;
    minimal = λ yes.
        let shown = of_both claim.metric claim.bound exact texts (IsShownMinimal claim.metric claim.bound exact texts) M r net report c.1.1.1.1.1.1.1.1.1.0 in
        let pool = shown yes in
        minimal-none_allowed claim.metric exact claim.bound M (r.witness ∷ pool.0) (moves_in r.version M) pool.1.widths pool.2;
  }

-- a certificate is one with another growth too, by which its net is of an allowed size
with_size : (claim : Claim) (other : Growth) (exact : NetValue) (texts : Texts) (M : NetValue) → IsNetlist texts M → IsOfAllowedSize other exact M
    → CertifiesWith claim exact texts → CertifiesWith (record { metric = claim.metric; bound = claim.bound; growth = other }) exact texts
with_size claim other exact texts M net size c =
    let counted = c.1.1.1.1.1.1.1.1.0 in
    let counts = counted.2.2 in
    let resized : AreCounts other exact counted.0 counted.2.0 = record {
      old_tables = counts.old_tables;
      new_tables = counts.new_tables;
      old_literals = counts.old_literals;
      new_literals = counts.new_literals;
      size = subst (IsOfAllowedSize other exact) (same_net texts M counted.0 net counted.1) size;
    } in (
      c.0,
      (
        c.1.0,
        (
          c.1.1.0,
          (
            c.1.1.1.0,
            (
              c.1.1.1.1.0,
              (
                c.1.1.1.1.1.0,
                (
                  c.1.1.1.1.1.1.0,
                  (c.1.1.1.1.1.1.1.0, ((counted.0, counted.1, (counted.2.0, counted.2.1, resized)), c.1.1.1.1.1.1.1.1.1)),
                ),
              ),
            ),
          ),
        ),
      ),
    )

pub verified_law : VerifiedLaw
verified_law = record {
  read = λ claim exact texts c. (c.0.0, c.1.1.0.0, c.0.1, c.1.1.0.1);
  one_net = same_net;
  one_report = same_report;
  one_pool = λ exact texts witness pool others v w. one_pool (input_count exact) (texts file.Vectors) witness pool others v w;
  verified = verified;
  weaker = λ metric bound exact texts c. with_size (checked_claim metric bound) Allowed exact texts c.0.0 c.0.1 (λ no. absurd (cc no)) c;
  not_larger = λ metric bound exact texts approx c net tables literals. with_size (confirmed_claim metric bound) Refused exact texts approx net (λ is. (tables, literals)) c;
}

-- ---- which bundles are written as certificates

module _ (growth : Growth) (b : BundleValue) (h : IsRightBundle growth b) where
  pub net_read : IsNetlist (bundle_text b) b.approx
  net_read = read b.approx h.approx_sound h.approx_small

  few_tables : (N : NetValue) → IsSmall N → table_count N < 2 ^ 32
  few_tables N small = omega (arith, small.tables)

  few_literals : (N : NetValue) → IsSound N → IsSmall N → literal_count N < 2 ^ 32
  few_literals N sound small = omega (arith, literals_at_most N small sound.tables_formed)

  report_read : IsReport b.metric b.bound b.exact (bundle_text b) (bundle_report b)
  report_read = record {
    spelled = refl;
    same_metric = refl;
    same_bound = refl;
    maximum = omega (arith, h.within, h.bound);
    witness = h.width;
    counts = (
      few_tables b.exact h.exact_small,
      (few_tables b.approx h.approx_small, (few_literals b.exact h.exact_sound h.exact_small, (few_literals b.approx h.approx_sound h.approx_small, tt))),
    );
  }

  pool_read : AreVectors b.exact (bundle_text b) b.witness b.pool
  pool_read = record { spelled = refl; widths = (h.width, h.pool) }

  counts_right : AreCounts growth b.exact b.approx (bundle_report b)
  counts_right = record {
    old_tables = refl;
    new_tables = refl;
    old_literals = refl;
    new_literals = refl;
    size = h.size;
  }

  log_read : IsRefutation (miter b.exact b.approx b.metric b.maximum) (bundle_text b file.Log) b.log
  log_read = record {
    read = round_trip_law b.log (writable b.goal b.log h.variables h.derivation);
    refutes = subst (λ f. Refutes f.clauses b.log) h.goal h.refutes;
  }

  -- the report that is written is of the bundle's version
  pub written_version : OfReport b.metric b.bound b.exact (bundle_text b) (λ r. r.version ≡ b.version)
  written_version = (bundle_report b, report_read, refl)

  pub written_certifies : CertifiesWith (bundle_claim growth b) b.exact (bundle_text b)
  written_certifies = (
    (b.approx, net_read),
    (
      (b.approx, net_read, h.ports),
      (
        (bundle_report b, report_read),
        (
          (bundle_report b, report_read, h.within),
          (
            (bundle_report b, report_read, (b.pool, record { spelled = refl; widths = (h.width, h.pool) })),
            (
              (b.approx, net_read, (bundle_report b, report_read, h.attained)),
              (
                (b.approx, net_read, (bundle_report b, report_read, ap dimacs_text h.goal)),
                (
                  (b.approx, net_read, (bundle_report b, report_read, (b.log, log_read))),
                  (
                    (b.approx, net_read, (bundle_report b, report_read, counts_right)),
                    ((b.approx, net_read, (bundle_report b, report_read, λ yes. (b.pool, pool_read, h.minimal yes))), tt),
                  ),
                ),
              ),
            ),
          ),
        ),
      ),
    ),
  )

-- ---- the files that are held once they were written

held_text : (held : Held) (stem : Bytes) (text : Texts) (e : Ending) → texts_of (with_files held (bundle_files stem text)) stem e ≡ text e
held_text held stem text file.Netlist = ap (λ found. unwrap_or found []) (bundle_files-holds held stem text).0
held_text held stem text file.Formula = ap (λ found. unwrap_or found []) (bundle_files-holds held stem text).1.0
held_text held stem text file.Log = ap (λ found. unwrap_or found []) (bundle_files-holds held stem text).1.1.0
held_text held stem text file.Vectors = ap (λ found. unwrap_or found []) (bundle_files-holds held stem text).1.1.1.0
held_text held stem text file.Report = ap (λ found. unwrap_or found []) (bundle_files-holds held stem text).1.1.1.1.0

pub held_certificate_law : HeldCertificateLaw
held_certificate_law growth b h stem old new written = λ before now told tells.
    let texts : bundle_text b ≡ texts_of now stem =
    sym ((λ i. texts_of (written.held before now told tells i) stem) ∙ (λ i e. held_text before stem (bundle_text b) e i)) in
    subst (CertifiesWith (bundle_claim growth b) b.exact) texts (written_certifies growth b h)

-- ---- texts that are no certificate

-- what holds of a list holds of what stands in its middle
in_middle : (P : Clause → Type 0) (before after : List Clause) (c : Clause) → AllByRecursion P (before ++ c ∷ after) → P c
in_middle P [] after c all = all.0
in_middle P (d ∷ before) after c all = in_middle P before after c all.1

refuted_by : (claim : Claim) (exact : NetValue) (texts : Texts) (c : Clause) → IsFirstFailing claim exact texts c
    → ¬ CertifiesWith claim exact texts
refuted_by claim exact texts c f all =
    f.fails (in_middle (Holds claim exact texts) f.before f.after c (subst (AllByRecursion (Holds claim exact texts)) f.order all))

-- two places in one list, each of which fails while the clauses before it hold, are one place
one_place : (P : Clause → Type 0) (before after before' after' : List Clause) (c d : Clause) → before ++ c ∷ after ≡ before' ++ d ∷ after'
    → AllByRecursion P before → AllByRecursion P before' → ¬ P c → ¬ P d → c ≡ d
one_place P [] after [] after' c d same all all' fails fails' = cc
one_place P [] after (e ∷ before') after' c d same all all' fails fails' = absurd (fails (subst P (let is : e ≡ c = cc in is) all'.0))
one_place P (e ∷ before) after [] after' c d same all all' fails fails' = absurd (fails' (subst P (let is : e ≡ d = cc in is) all.0))
one_place P (e ∷ before) after (e' ∷ before') after' c d same all all' fails fails' =
    one_place P before after before' after' c d (append_cancel_left (e ∷ []) _ _ (same ∙ ap (λ x. x ∷ (before' ++ d ∷ after')) (let is : e' ≡ e = cc in is))) all.1 all'.1 fails fails'

pub first_failing_law : FirstFailingLaw
first_failing_law = record {
  refuted = refuted_by;
  only = λ claim exact texts c d f g.
      one_place (Holds claim exact texts) f.before f.after g.before g.after c d (sym f.order ∙ g.order) f.hold g.hold f.fails g.fails;
}
