-- Each file of a certificate is held: none of its texts is empty.
use Rattle.std.proofs.Common.{◌≡◌, ℕ, Bool, true, false, List, [], ◌∷◌, get_or, Option, Some, None, is_some, Result, Ok, Err, refl, ap, sym, subst, ◌∙◌, arith}
use Rattle.std.specs.Prelude.{IsTrue, unwrap_or}
use Rattle.std.specs.FinMap.{get, contains_key}
use Rattle.semantics.specs.declared.limits.TheConstants.{MOST_BUNDLE_BYTES, MOST_INPUT_BYTES}
use Rattle.semantics.specs.Texts.{Bytes, text_of}
use Rattle.semantics.specs.Net.{NetValue}
use Rattle.outside_semantics.specs.Outside.{Held, bytes_of}
use Rattle.blif_semantics.specs.Lines.{logical_lines}
use Rattle.blif_semantics.specs.Statements.{first_wrong}
use Rattle.blif_semantics.specs.Reading.{Refusal, no_output, named_net, blif_reading}
use Rattle.proof_semantics.specs.Clauses.{Clause}
use Rattle.proof_semantics.specs.Formula.{Formula, dimacs_text}
use Rattle.proof_semantics.specs.Logs.{LogItem, Refutes, last_added}
use Rattle.proof_semantics.specs.declared.lrat_refusal.LratRefusal.{LratRefusal}
use Rattle.proof_semantics.specs.LratTokens.{is_log_byte, is_blank, ended_tokens}
use Rattle.proof_semantics.specs.LratReading.{good_part, stage_of, whole_items, lrat_items}
use Rattle.job_semantics.specs.declared.ending.Ending.{Ending}
use Rattle.job_semantics.specs.declared.ending.Ending.TheVariants as file
use Rattle.job_semantics.specs.Endings.{bundle_name}
use Rattle.job_semantics.specs.Input.{IsReadAs}
use Rattle.job_semantics.specs.Report.{Report, report_text, vectors_text}
use Rattle.job_semantics.specs.Certificate.{texts_of, CertifiesWith}
use Rattle.job_semantics.specs.Checking.{AreCheckFilesHeld}
use Rattle.job_semantics.proofs.ReportTexts.{report_text-is}
use Rattle.job_semantics.specs.declared.claim.Claim.{Claim}

-- no bytes are read as no net
pub no_bytes : (N : NetValue) → ¬ IsReadAs [] N
unfolding blif_reading first_wrong logical_lines named_net
no_bytes N is =
    let none : blif_reading [] MOST_INPUT_BYTES ≡ Err no_output = refl in
    let both : ◌≡◌ {A = Result NetValue Refusal} (Err no_output) (Ok N) = sym none ∙ is in cc

no_netlist : (N : NetValue) → blif_reading [] MOST_BUNDLE_BYTES ≡ Ok N → ⊥
unfolding blif_reading first_wrong logical_lines named_net
no_netlist N is =
    let none : blif_reading [] MOST_BUNDLE_BYTES ≡ Err no_output = refl in
    let both : ◌≡◌ {A = Result NetValue Refusal} (Err no_output) (Ok N) = sym none ∙ is in cc

no_report : (r : Report) → [] ≡ report_text r → ⊥
no_report r is = let first : ◌≡◌ {A = ℕ} 0 115 = ap (λ t. get_or t 0 0) (is ∙ report_text-is r) in omega arith

no_vectors : (x : List Bool) (pool : List (List Bool)) → [] ≡ vectors_text x pool → ⊥
unfolding vectors_text text_of
no_vectors [] pool is = let first : ◌≡◌ {A = ℕ} 0 10 = ap (λ t. get_or t 0 0) is in omega arith
no_vectors (true ∷ x) pool is = let first : ◌≡◌ {A = ℕ} 0 49 = ap (λ t. get_or t 0 0) is in omega arith
no_vectors (false ∷ x) pool is = let first : ◌≡◌ {A = ℕ} 0 48 = ap (λ t. get_or t 0 0) is in omega arith

no_formula : (f : Formula) → [] ≡ dimacs_text f → ⊥
unfolding dimacs_text text_of
no_formula f is = let first : ◌≡◌ {A = ℕ} 0 112 = ap (λ t. get_or t 0 0) is in omega arith

no_log : (formula : List Clause) (log : List LogItem) → lrat_items [] ≡ Ok log → Refutes formula log → ⊥
unfolding is_log_byte is_blank ended_tokens good_part stage_of whole_items
no_log formula log is refutes =
    let none : lrat_items [] ≡ Ok [] = refl in
    let empty : log ≡ [] = (let both : ◌≡◌ {A = Result (List LogItem) LratRefusal} (Ok log) (Ok []) = sym is ∙ none in cc) in
    let ends : last_added [] ≡ Some [] = subst (λ l. last_added l ≡ Some []) empty refutes.ends in cc

held_if : (found : Option Bytes) → (unwrap_or found [] ≡ [] → ⊥) → IsTrue (is_some found)
held_if None some = absurd (some refl)
held_if (Some bytes) some = refl

module _ (claim : Claim) (exact : NetValue) (stem : Bytes) (held : Held) (c : CertifiesWith claim exact (texts_of held stem)) where
  not_empty : (ending : Ending) → texts_of held stem ending ≡ [] → ⊥
  not_empty file.Netlist is = no_netlist c.0.0 (subst (λ t. blif_reading t MOST_BUNDLE_BYTES ≡ Ok c.0.0) is c.0.1)
  not_empty file.Report is = no_report c.1.1.0.0 (sym is ∙ c.1.1.0.1.spelled)
  not_empty file.Vectors is = no_vectors c.1.1.1.1.0.0.witness c.1.1.1.1.0.2.0 (sym is ∙ c.1.1.1.1.0.2.1.spelled)
  not_empty file.Formula is = no_formula _ (sym is ∙ c.1.1.1.1.1.1.0.2.2)
  not_empty file.Log is =
      let shown = c.1.1.1.1.1.1.1.0.2.2 in
      no_log _ shown.0 (subst (λ t. lrat_items t ≡ Ok shown.0) is shown.1.read) shown.1.refutes

  text_held : (ending : Ending) → IsTrue (contains_key held (bundle_name stem ending))
  text_held ending = held_if (get held (bundle_name stem ending)) (not_empty ending)

  -- IN is held where it is read as a net, and so is each file of a certificate
  pub certified_files_held : {input : Bytes} → IsReadAs (bytes_of held input) exact → AreCheckFilesHeld claim input stem held
  certified_files_held {input} reads = record {
    input_held = held_if (get held input) (λ is. no_bytes exact (subst (λ t. IsReadAs t exact) is reads));
    bundle_held = λ N read ending needed. text_held ending;
  }
