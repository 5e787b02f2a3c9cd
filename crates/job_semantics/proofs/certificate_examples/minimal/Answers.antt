use Rattle.std.proofs.Common.{◌≡◌, zero, suc, Bool, true, false, List, [], ◌∷◌, codes, refl, ap, sym, subst, lit<, arith}
use Rattle.std.specs.Fmt.{digits}
use Rattle.semantics.specs.Texts.{Bytes, text_of}
use Rattle.semantics.specs.Net.{NetValue}
use Rattle.semantics.specs.Refusals.{first_ungrounded}
use Rattle.semantics.specs.Value.{after_rounds, value_of, outputs_of}
use Rattle.semantics.specs.Error.{error_of, net_error, one_word}
use Rattle.semantics.specs.declared.metric.Kind.TheVariants.{Abs}
use Rattle.semantics.specs.Examples.{text, half_adder, both_constant}
use Rattle.blif_semantics.specs.Lines.{logical_lines}
use Rattle.blif_semantics.specs.Statements.{first_wrong}
use Rattle.blif_semantics.specs.Reading.{named_net, numbered, blif_reading}
use Rattle.chain_semantics.specs.Moves.{depends_within, moves_of, moved}
use Rattle.chain_semantics.specs.declared.moves.Move.{Move}
use Rattle.chain_semantics.specs.declared.moves.Move.TheVariants.{Const, DropLiteral}
use Rattle.chain_semantics.specs.Minimality.{IsBrokenBySome, AreBrokenBySome, IsMinimalBy}
use Rattle.chain_semantics.specs.SimplificationExamples.{carry_is_b}
use Rattle.job_semantics.specs.declared.version.Version.TheVariants.{Two}
use Rattle.job_semantics.specs.Report.{Report, report_text, vectors_text}
use Rattle.job_semantics.specs.Certificate.{Texts, moves_in, IsNetlist, IsReportText, IsVectorsText}
use Rattle.job_semantics.specs.CertificateExamples.{both_constant_vectors, carry_copied_texts, carry_copied_report}
use Rattle.job_semantics.proofs.Certificates.{verified_law}
use Rattle.job_semantics.proofs.VectorsTexts.{one_pool}
use Rattle.job_semantics.proofs.CertificateTexts as the
use Rattle.job_semantics.proofs.certificate_examples.minimal.Goals as goal

abbrev copied_report : Report
copied_report = record {
  version = Two;
  metric = one_word Abs;
  bound = 1;
  maximum = 1;
  witness = true ∷ false ∷ [];
  old_tables = 2;
  new_tables = 2;
  old_literals = 6;
  new_literals = 1;
  minimal = true;
}

netlist_read : (vectors : Bytes) → IsNetlist (carry_copied_texts vectors) carry_is_b
unfolding text_of first_ungrounded logical_lines first_wrong named_net numbered blif_reading
netlist_read vectors = refl

report_read : IsReportText 2 (one_word Abs) 1 carry_copied_report copied_report
unfolding text_of report_text digits
report_read = record { spelled = refl; same_metric = refl; same_bound = refl; maximum = lit< tt; witness = refl; counts = (lit< tt, (lit< tt, (lit< tt, (lit< tt, tt)))) }

all_four : List (List Bool)
all_four = (false ∷ false ∷ []) ∷ (true ∷ false ∷ []) ∷ (false ∷ true ∷ []) ∷ (true ∷ true ∷ []) ∷ []

all_read : IsVectorsText 2 (text (codes "10" ∷ codes "00" ∷ codes "10" ∷ codes "01" ∷ codes "11" ∷ [])) (true ∷ false ∷ []) all_four
unfolding text_of vectors_text all_four
all_read = record { spelled = refl; widths = (refl, (refl, (refl, (refl, (refl, tt))))) }

all_break : IsMinimalBy (one_word Abs) half_adder 1 carry_is_b ((true ∷ false ∷ []) ∷ all_four)
unfolding depends_within moves_of after_rounds value_of outputs_of error_of net_error all_four
all_break = (
  (true ∷ true ∷ [], (4, omega arith, refl), omega arith),
  ((false ∷ false ∷ [], (1, omega arith, refl), omega arith), ((false ∷ false ∷ [], (1, omega arith, refl), omega arith), tt)),
)

witness_read : IsVectorsText 2 (text (codes "10" ∷ [])) (true ∷ false ∷ []) []
unfolding text_of vectors_text
witness_read = record { spelled = refl; widths = (refl, tt) }

moves_are : moves_of carry_is_b ≡ Const 1 false ∷ Const 1 true ∷ DropLiteral 1 0 0 ∷ []
unfolding depends_within moves_of
moves_are = refl

witness_error : net_error (one_word Abs) half_adder (moved carry_is_b (Const 1 false)) (true ∷ false ∷ []) ≡ 1
unfolding after_rounds value_of outputs_of error_of net_error
witness_error = refl

-- the witness does not break the first move
not_broken : IsBrokenBySome (one_word Abs) half_adder 1 carry_is_b ((true ∷ false ∷ []) ∷ []) (Const 1 false) → ⊥
not_broken (x, (zero, low, is), over) =
    let error : net_error (one_word Abs) half_adder (moved carry_is_b (Const 1 false)) x ≡ 1 =
    subst (λ y. net_error (one_word Abs) half_adder (moved carry_is_b (Const 1 false)) y ≡ 1) (is) witness_error in omega (arith, over, error)
not_broken (x, (suc k, low, is), over) = omega (arith, low)

first_move : (moves : List Move) → moves ≡ Const 1 false ∷ Const 1 true ∷ DropLiteral 1 0 0 ∷ [] → AreBrokenBySome (one_word Abs) half_adder 1 carry_is_b ((true ∷ false ∷ []) ∷ []) moves → ⊥
first_move moves is broken = not_broken (subst (AreBrokenBySome (one_word Abs) half_adder 1 carry_is_b ((true ∷ false ∷ []) ∷ [])) is broken).0

abbrev witness_texts : Texts
witness_texts = carry_copied_texts (text (codes "10" ∷ []))

vectors_read : IsVectorsText 2 both_constant_vectors (true ∷ true ∷ []) ((false ∷ false ∷ []) ∷ (true ∷ false ∷ []) ∷ [])
unfolding text_of vectors_text
vectors_read = record { spelled = refl; widths = (refl, (refl, (refl, tt))) }

constants_break : (M : NetValue) → M ≡ both_constant → IsMinimalBy (one_word Abs) half_adder 3 M ((true ∷ true ∷ []) ∷ (false ∷ false ∷ []) ∷ (true ∷ false ∷ []) ∷ [])
unfolding depends_within moves_of
constants_break M is = subst (λ N. IsMinimalBy (one_word Abs) half_adder 3 N ((true ∷ true ∷ []) ∷ (false ∷ false ∷ []) ∷ (true ∷ false ∷ []) ∷ [])) (sym is) tt

pub returns : goal.returns
returns c = record {
  each_broken = (carry_is_b, netlist_read (text (codes "10" ∷ codes "00" ∷ codes "10" ∷ codes "01" ∷ codes "11" ∷ [])), (copied_report, report_read, λ yes. (all_four, all_read, all_break)));
  witness_alone = λ h.
      let net : h.0 ≡ carry_is_b = verified_law.one_net witness_texts h.0 carry_is_b h.1 (netlist_read (text (codes "10" ∷ []))) in
      let report : h.2.0 ≡ copied_report = verified_law.one_report (one_word Abs) 1 half_adder witness_texts h.2.0 copied_report h.2.1 report_read in
      let yes : h.2.0.minimal ≡ true = ap (λ r. r.minimal) report in
      let shown = h.2.2 yes in
      let pool : shown.0 ≡ [] = one_pool 2 (text (codes "10" ∷ [])) (true ∷ false ∷ []) shown.0 []
      (subst (λ r. IsVectorsText 2 (text (codes "10" ∷ [])) r.witness shown.0) report shown.1) witness_read in
      let of_net = subst (λ N. AreBrokenBySome (one_word Abs) half_adder 1 N (h.2.0.witness ∷ shown.0) (moves_in h.2.0.version N)) net shown.2 in
      let of_pool = subst (λ v. AreBrokenBySome (one_word Abs) half_adder 1 carry_is_b (h.2.0.witness ∷ v) (moves_in h.2.0.version carry_is_b)) pool of_net in
      let minimal : IsMinimalBy (one_word Abs) half_adder 1 carry_is_b ((true ∷ false ∷ []) ∷ []) =
      subst (λ r. AreBrokenBySome (one_word Abs) half_adder 1 carry_is_b (r.witness ∷ []) (moves_in r.version carry_is_b)) report of_pool in
      first_move (moves_of carry_is_b) moves_are minimal;
  without_moves = (both_constant, the.netlist_read, (the.the_report 2 0 true, the.minimal_read, λ yes. (_, vectors_read, constants_break both_constant refl)));
}
