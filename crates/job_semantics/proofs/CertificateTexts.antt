-- The texts of the worked examples of certificates.
use Rattle.std.proofs.Common.{◌≡◌, ℕ, ◌*◌, ◌%◌, Bool, true, false, List, [], ◌∷◌, map, length, get_or, codes, Result, Ok, refl, ap, sym, ◌∙◌, lit<, lit≤, arith}
use Rattle.std.specs.List.{AllByRecursion}
use Rattle.std.specs.Prelude.{flat_map}
use Rattle.std.specs.Fmt.{digits}
use Rattle.std.proofs.lemmas.List.{length-append, length-map, length_push}
use Rattle.semantics.specs.declared.limits.TheConstants.{MOST_BUNDLE_BYTES}
use Rattle.semantics.specs.Texts.{Bytes, bit_byte, bits_word, line_text, text_of}
use Rattle.semantics.specs.Refusals.{first_ungrounded}
use Rattle.semantics.specs.Net.{NetValue, HasSamePorts}
use Rattle.semantics.specs.declared.metric.Kind.TheVariants.{Abs}
use Rattle.semantics.specs.Error.{one_word}
use Rattle.semantics.specs.Examples.{half_adder, both_constant}
use Rattle.blif_semantics.specs.Lines.{logical_lines}
use Rattle.blif_semantics.specs.Statements.{first_wrong}
use Rattle.blif_semantics.specs.Reading.{Refusal, named_net, numbered, blif_reading}
use Rattle.proof_semantics.specs.Formula.{Formula, dimacs_text}
use Rattle.job_semantics.specs.declared.version.Version.{Version}
use Rattle.job_semantics.specs.declared.version.Version.TheVariants.{One, Two}
use Rattle.job_semantics.specs.Report.{Report, report_text, vectors_text}
use Rattle.job_semantics.specs.Certificate.{IsNetlist, IsReportText, IsVectorsText}
use Rattle.job_semantics.specs.CertificateExamples.{texts_of_three, netlist_with, report_with, both_constant_texts, both_constant_netlist, both_constant_vectors, both_constant_report}
use Rattle.job_semantics.proofs.Certificates.{verified_law}
use Rattle.job_semantics.proofs.ReportTexts.{report_head, report_rest, report_text-is}

abbrev pub the_report : ℕ → ℕ → Bool → Report
the_report maximum literals minimal = record {
  version = Two;
  metric = one_word Abs;
  bound = 3;
  maximum = maximum;
  witness = true ∷ true ∷ [];
  old_tables = 2;
  new_tables = 2;
  old_literals = 6;
  new_literals = literals;
  minimal = minimal;
}

pub netlist_read : IsNetlist both_constant_texts both_constant
unfolding text_of first_ungrounded logical_lines first_wrong named_net numbered blif_reading
netlist_read = refl

pub report_read : IsReportText 2 (one_word Abs) 3 both_constant_report (the_report 2 0 false)
unfolding text_of report_text digits
report_read = record { spelled = refl; same_metric = refl; same_bound = refl; maximum = lit≤ tt; witness = refl; counts = (lit< tt, (lit< tt, (lit< tt, (lit< tt, tt)))) }

abbrev pub large_report : Bytes
large_report = report_with (codes "maximum 4") (codes "literals 6 0") (codes "minimal no")

pub large_read : IsReportText 2 (one_word Abs) 3 large_report (the_report 4 0 false)
unfolding text_of report_text digits
large_read = record { spelled = refl; same_metric = refl; same_bound = refl; maximum = lit≤ tt; witness = refl; counts = (lit< tt, (lit< tt, (lit< tt, (lit< tt, tt)))) }

abbrev pub zero_report : Bytes
zero_report = report_with (codes "maximum 0") (codes "literals 6 0") (codes "minimal no")

pub zero_read : IsReportText 2 (one_word Abs) 3 zero_report (the_report 0 0 false)
unfolding text_of report_text digits
zero_read = record { spelled = refl; same_metric = refl; same_bound = refl; maximum = lit≤ tt; witness = refl; counts = (lit< tt, (lit< tt, (lit< tt, (lit< tt, tt)))) }

abbrev pub literal_report : Bytes
literal_report = report_with (codes "maximum 2") (codes "literals 6 1") (codes "minimal no")

pub literal_read : IsReportText 2 (one_word Abs) 3 literal_report (the_report 2 1 false)
unfolding text_of report_text digits
literal_read = record { spelled = refl; same_metric = refl; same_bound = refl; maximum = lit≤ tt; witness = refl; counts = (lit< tt, (lit< tt, (lit< tt, (lit< tt, tt)))) }

abbrev pub minimal_report : Bytes
minimal_report = report_with (codes "maximum 2") (codes "literals 6 0") (codes "minimal yes")

pub minimal_read : IsReportText 2 (one_word Abs) 3 minimal_report (the_report 2 0 true)
unfolding text_of report_text digits
minimal_read = record { spelled = refl; same_metric = refl; same_bound = refl; maximum = lit≤ tt; witness = refl; counts = (lit< tt, (lit< tt, (lit< tt, (lit< tt, tt)))) }

-- a text has one report
pub the_one : (text : Bytes) (r s : Report) → IsReportText 2 (one_word Abs) 3 text r → IsReportText 2 (one_word Abs) 3 text s → r ≡ s
the_one text r s = verified_law.one_report (one_word Abs) 3 half_adder (texts_of_three both_constant_netlist both_constant_vectors text) r s

-- the inputs in the other order
abbrev pub swapped : NetValue
swapped = record both_constant { inputs = codes "b" ∷ codes "a" ∷ [] }

pub no_net : (M : NetValue) → blif_reading [] MOST_BUNDLE_BYTES ≡ Ok M → ⊥
unfolding first_ungrounded logical_lines first_wrong named_net numbered blif_reading
no_net M is = cc

pub swapped_read : blif_reading (netlist_with (codes ".inputs b a")) MOST_BUNDLE_BYTES ≡ Ok swapped
unfolding text_of first_ungrounded logical_lines first_wrong named_net numbered blif_reading
swapped_read = refl

pub other_ports : (M : NetValue) → blif_reading (netlist_with (codes ".inputs b a")) MOST_BUNDLE_BYTES ≡ Ok M → HasSamePorts half_adder M → ⊥
other_ports M is ports =
    let same : swapped ≡ M = (let both : ◌≡◌ {A = Result NetValue Refusal} (Ok swapped) (Ok M) = sym swapped_read ∙ is in cc) in
    let names : codes "a" ∷ codes "b" ∷ [] ≡ codes "b" ∷ codes "a" ∷ [] = ports.inputs ∙ ap (λ N. N.inputs) (sym same) in
    let first : ◌≡◌ {A = ℕ} 97 98 = ap (λ words. get_or (get_or words 0 []) 0 0) names in omega arith

-- a line of two bits has three bytes
lines_length : (vectors : List (List Bool)) → AllByRecursion (λ x. length x ≡ 2) vectors → length (text_of (map (λ x. bits_word x ∷ []) vectors)) ≡ 3 * length vectors
unfolding text_of
lines_length [] widths = refl
lines_length (x ∷ vectors) widths =
    omega (
      arith,
      length-append (line_text (bits_word x ∷ [])) (flat_map line_text (map (λ y. bits_word y ∷ []) vectors)),
      length_push (bits_word x) 10,
      length-map x bit_byte,
      widths.0,
      lines_length vectors widths.1,
    )

pub whole_lines : (text : Bytes) (witness : List Bool) (pool : List (List Bool)) → IsVectorsText 2 text witness pool → length text % 3 ≡ 0
unfolding vectors_text
whole_lines text witness pool h =
    let size = ap length h.spelled ∙ lines_length (witness ∷ pool) h.widths in omega (arith, size)

-- the text says another bound
other_head : (version : Version) (rest : Bytes) → both_constant_report ≡ report_head version (one_word Abs) 2 rest → ⊥
unfolding text_of digits
other_head One rest same = let digit : ◌≡◌ {A = ℕ} 51 50 = ap (λ t. get_or t 25 0) same in omega arith
other_head Two rest same = let digit : ◌≡◌ {A = ℕ} 51 50 = ap (λ t. get_or t 25 0) same in omega arith

pub other_bound : (r : Report) → IsReportText 2 (one_word Abs) 2 both_constant_report r → ⊥
other_bound r h =
    other_head r.version (report_rest r) (h.spelled ∙ report_text-is r ∙ (λ i. report_head r.version (h.same_metric i) (h.same_bound i) (report_rest r)))

-- no formula has the empty text
pub some_formula : (f : Formula) → [] ≡ dimacs_text f → ⊥
unfolding dimacs_text text_of
some_formula f same = let first : ◌≡◌ {A = ℕ} 0 112 = ap (λ t. get_or t 0 0) same in omega arith
