-- The texts of the worked example of the two versions, and which of its moves are broken.
use Rattle.std.proofs.Common.{◌≡◌, Bool, true, false, List, [], ◌∷◌, codes, refl, ap, subst, lit<, lit≤, arith}
use Rattle.std.specs.Fmt.{digits}
use Rattle.std.specs.List.{AllByRecursion, Contains}
use Rattle.std.proofs.lemmas.List.Elements.{All-from_recursion, All-contains}
use Rattle.semantics.specs.Texts.{Bytes, text_of}
use Rattle.semantics.specs.Net.{HasSamePorts}
use Rattle.semantics.specs.Refusals.{first_ungrounded}
use Rattle.semantics.specs.Value.{after_rounds, value_of, outputs_of}
use Rattle.semantics.specs.Error.{error_of, net_error, one_word}
use Rattle.semantics.specs.declared.metric.Kind.TheVariants.{Abs}
use Rattle.blif_semantics.specs.Lines.{logical_lines}
use Rattle.blif_semantics.specs.Statements.{first_wrong}
use Rattle.blif_semantics.specs.Reading.{named_net, numbered, blif_reading}
use Rattle.chain_semantics.specs.declared.moves.Move.{Move}
use Rattle.chain_semantics.specs.declared.moves.Move.TheVariants.{Pair}
use Rattle.chain_semantics.specs.Moves.{depends_within, near_signals, moves_of, old_moves_of, moved}
use Rattle.chain_semantics.specs.Minimality.{IsBrokenBySome, AreBrokenBySome}
use Rattle.job_semantics.specs.declared.growth.Growth.TheVariants.{Refused}
use Rattle.job_semantics.specs.declared.version.Version.{Version}
use Rattle.job_semantics.specs.declared.version.Version.TheVariants.{One, Two}
use Rattle.job_semantics.specs.Report.{Report, report_text, vectors_text}
use Rattle.job_semantics.specs.declared.certificate_clause.Clause.TheVariants as clause
use Rattle.job_semantics.specs.Certificate.{Texts, moves_in, IsNetlist, IsReportText, IsVectorsText, AreCounts, Holds, checked_claim}
use Rattle.job_semantics.specs.VersionExamples.{conjunction_by_parity, parity_vectors, parity_report, parity_texts}
use Rattle.job_semantics.proofs.Certificates.{verified_law}
use Rattle.job_semantics.proofs.VectorsTexts.{one_pool}

abbrev pub parity_report_of : Version → Report
parity_report_of version = record {
  version = version;
  metric = one_word Abs;
  bound = 0;
  maximum = 0;
  witness = false ∷ false ∷ false ∷ [];
  old_tables = 2;
  new_tables = 2;
  old_literals = 11;
  new_literals = 11;
  minimal = true;
}

abbrev pub first_word : Version → Bytes
first_word One = codes "salsa 1"
first_word Two = codes "salsa 2"

pub all_eight : List (List Bool)
all_eight = (false ∷ false ∷ false ∷ []) ∷ (true ∷ false ∷ false ∷ []) ∷ (false ∷ true ∷ false ∷ []) ∷ (true ∷ true ∷ false ∷ []) ∷ (false ∷ false ∷ true ∷ []) ∷ (true ∷ false ∷ true ∷ [])
    ∷ (false ∷ true ∷ true ∷ []) ∷ (true ∷ true ∷ true ∷ []) ∷ []

pub netlist_read : (first_line formula log : Bytes) → IsNetlist (parity_texts first_line formula log) conjunction_by_parity
unfolding text_of first_ungrounded logical_lines first_wrong named_net numbered blif_reading
netlist_read first_line formula log = refl

pub report_read : (version : Version) → IsReportText 3 (one_word Abs) 0 (parity_report (first_word version)) (parity_report_of version)
unfolding text_of report_text digits
report_read One = record { spelled = refl; same_metric = refl; same_bound = refl; maximum = lit≤ tt; witness = refl; counts = (lit< tt, (lit< tt, (lit< tt, (lit< tt, tt)))) }
report_read Two = record { spelled = refl; same_metric = refl; same_bound = refl; maximum = lit≤ tt; witness = refl; counts = (lit< tt, (lit< tt, (lit< tt, (lit< tt, tt)))) }

pub vectors_read : IsVectorsText 3 parity_vectors (false ∷ false ∷ false ∷ []) all_eight
unfolding text_of vectors_text all_eight
vectors_read = record { spelled = refl; widths = (refl, (refl, (refl, (refl, (refl, (refl, (refl, (refl, (refl, tt))))))))) }

pub same_ports : HasSamePorts conjunction_by_parity conjunction_by_parity
same_ports = record { inputs = refl; outputs = refl }

pub attained : net_error (one_word Abs) conjunction_by_parity conjunction_by_parity (false ∷ false ∷ false ∷ []) ≡ 0
unfolding after_rounds value_of outputs_of error_of net_error
attained = refl

pub counts : (version : Version) → AreCounts Refused conjunction_by_parity conjunction_by_parity (parity_report_of version)
counts version = record { old_tables = refl; new_tables = refl; old_literals = refl; new_literals = refl; size = λ is. (lit≤ tt, lit≤ tt) }

-- each move of version 1 is broken by some vector
pub old_moves_break : AreBrokenBySome (one_word Abs) conjunction_by_parity 0 conjunction_by_parity ((false ∷ false ∷ false ∷ []) ∷ all_eight) (old_moves_of conjunction_by_parity)
unfolding depends_within old_moves_of after_rounds value_of outputs_of error_of net_error all_eight
old_moves_break = (
  (true ∷ true ∷ false ∷ [], (4, omega arith, refl), omega arith),
  (
    (false ∷ false ∷ false ∷ [], (1, omega arith, refl), omega arith),
    (
      (true ∷ true ∷ false ∷ [], (4, omega arith, refl), omega arith),
      (
        (false ∷ true ∷ true ∷ [], (7, omega arith, refl), omega arith),
        (
          (true ∷ false ∷ true ∷ [], (6, omega arith, refl), omega arith),
          (
            (false ∷ true ∷ false ∷ [], (3, omega arith, refl), omega arith),
            (
              (true ∷ false ∷ false ∷ [], (2, omega arith, refl), omega arith),
              (
                (true ∷ true ∷ true ∷ [], (8, omega arith, refl), omega arith),
                (
                  (true ∷ true ∷ true ∷ [], (8, omega arith, refl), omega arith),
                  (
                    (false ∷ false ∷ false ∷ [], (1, omega arith, refl), omega arith),
                    (
                      (true ∷ true ∷ true ∷ [], (8, omega arith, refl), omega arith),
                      (
                        (false ∷ false ∷ false ∷ [], (1, omega arith, refl), omega arith),
                        (
                          (true ∷ false ∷ false ∷ [], (2, omega arith, refl), omega arith),
                          (
                            (false ∷ false ∷ false ∷ [], (1, omega arith, refl), omega arith),
                            (
                              (false ∷ true ∷ false ∷ [], (3, omega arith, refl), omega arith),
                              (
                                (false ∷ false ∷ false ∷ [], (1, omega arith, refl), omega arith),
                                (
                                  (true ∷ true ∷ false ∷ [], (4, omega arith, refl), omega arith),
                                  (
                                    (false ∷ false ∷ false ∷ [], (1, omega arith, refl), omega arith),
                                    (
                                      (true ∷ true ∷ false ∷ [], (4, omega arith, refl), omega arith),
                                      (
                                        (false ∷ false ∷ false ∷ [], (1, omega arith, refl), omega arith),
                                        (
                                          (true ∷ true ∷ true ∷ [], (8, omega arith, refl), omega arith),
                                          (
                                            (true ∷ true ∷ false ∷ [], (4, omega arith, refl), omega arith),
                                            (
                                              (false ∷ false ∷ false ∷ [], (1, omega arith, refl), omega arith),
                                              (
                                                (false ∷ false ∷ true ∷ [], (5, omega arith, refl), omega arith),
                                                (
                                                  (false ∷ false ∷ true ∷ [], (5, omega arith, refl), omega arith),
                                                  (
                                                    (false ∷ false ∷ false ∷ [], (1, omega arith, refl), omega arith),
                                                    (
                                                      (true ∷ false ∷ false ∷ [], (2, omega arith, refl), omega arith),
                                                      (
                                                        (false ∷ false ∷ false ∷ [], (1, omega arith, refl), omega arith),
                                                        (
                                                          (false ∷ true ∷ false ∷ [], (3, omega arith, refl), omega arith),
                                                          (
                                                            (false ∷ false ∷ false ∷ [], (1, omega arith, refl), omega arith),
                                                            (
                                                              (true ∷ true ∷ false ∷ [], (4, omega arith, refl), omega arith),
                                                              (
                                                                (false ∷ false ∷ false ∷ [], (1, omega arith, refl), omega arith),
                                                                ((false ∷ false ∷ true ∷ [], (5, omega arith, refl), omega arith), ((false ∷ false ∷ false ∷ [], (1, omega arith, refl), omega arith), tt)),
                                                              ),
                                                            ),
                                                          ),
                                                        ),
                                                      ),
                                                    ),
                                                  ),
                                                ),
                                              ),
                                            ),
                                          ),
                                        ),
                                      ),
                                    ),
                                  ),
                                ),
                              ),
                            ),
                          ),
                        ),
                      ),
                    ),
                  ),
                ),
              ),
            ),
          ),
        ),
      ),
    ),
  ),
)

-- ---- the move to the conjunction of u and v

abbrev conjunction : Move
conjunction = Pair 1 0 false 1 false false

all_nine : List (List Bool)
all_nine = (false ∷ false ∷ false ∷ []) ∷ all_eight

conjunction_moves : Contains (moves_of conjunction_by_parity) conjunction
unfolding depends_within near_signals moves_of
conjunction_moves = (98, omega arith, refl)

no_errors : AllByRecursion (λ x. net_error (one_word Abs) conjunction_by_parity (moved conjunction_by_parity conjunction) x ≡ 0) all_nine
unfolding after_rounds value_of outputs_of error_of net_error all_eight all_nine
no_errors = (refl, (refl, (refl, (refl, (refl, (refl, (refl, (refl, (refl, tt)))))))))

not_broken : IsBrokenBySome (one_word Abs) conjunction_by_parity 0 conjunction_by_parity all_nine conjunction → ⊥
not_broken (x, there, over) =
    let P = λ (y : List Bool). net_error (one_word Abs) conjunction_by_parity (moved conjunction_by_parity conjunction) y ≡ 0 in
    let none : net_error (one_word Abs) conjunction_by_parity (moved conjunction_by_parity conjunction) x ≡ 0 =
    All-contains P all_nine x (All-from_recursion P all_nine no_errors) there in omega (arith, over, none)

not_all_broken : AreBrokenBySome (one_word Abs) conjunction_by_parity 0 conjunction_by_parity all_nine (moves_of conjunction_by_parity) → ⊥
not_all_broken all =
    let P = IsBrokenBySome (one_word Abs) conjunction_by_parity 0 conjunction_by_parity all_nine in
    not_broken (All-contains P (moves_of conjunction_by_parity) conjunction (All-from_recursion P (moves_of conjunction_by_parity) all) conjunction_moves)

module _ (formula log : Bytes) where
  abbrev second_texts : Texts
  second_texts = parity_texts (codes "salsa 2") formula log

  pub not_minimal : Holds (checked_claim (one_word Abs) 0) conjunction_by_parity second_texts clause.Minimal → ⊥
  unfolding all_nine
  not_minimal h =
      let N = conjunction_by_parity in
      let net : h.0 ≡ N = verified_law.one_net second_texts h.0 N h.1 (netlist_read (codes "salsa 2") formula log) in
      let report : h.2.0 ≡ parity_report_of Two = verified_law.one_report (one_word Abs) 0 N second_texts h.2.0 (parity_report_of Two) h.2.1 (report_read Two) in
      let yes : h.2.0.minimal ≡ true = ap (λ r. r.minimal) report in
      let shown = h.2.2 yes in
      let pool : shown.0 ≡ all_eight = one_pool 3 parity_vectors (false ∷ false ∷ false ∷ []) shown.0 all_eight
      (subst (λ r. IsVectorsText 3 parity_vectors r.witness shown.0) report shown.1) vectors_read in
      let of_net = subst (λ M. AreBrokenBySome (one_word Abs) N 0 M (h.2.0.witness ∷ shown.0) (moves_in h.2.0.version M)) net shown.2 in
      let of_pool = subst (λ v. AreBrokenBySome (one_word Abs) N 0 N (h.2.0.witness ∷ v) (moves_in h.2.0.version N)) pool of_net in
      not_all_broken (subst (λ r. AreBrokenBySome (one_word Abs) N 0 N (r.witness ∷ all_eight) (moves_in r.version N)) report of_pool)
