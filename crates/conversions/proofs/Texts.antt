-- A conversion reads no more of IN than one byte past the limit; and what it answers where IN is refused.
use Rattle.std.proofs.Common.{◌≡◌, ◌<◌, length, nat_le, Option, Some, None, Result, Err, ap, subst, ◌∙◌, arith}
use Rattle.std.proofs.lemmas.Bool.Decides.{nat_tests}
use Rattle.semantics.specs.declared.limits.TheConstants.{MOST_INPUT_BYTES}
use Rattle.semantics.specs.Texts.{Bytes}
use Rattle.outside_semantics.specs.Outside.{FilesTold, SinkTold}
use Rattle.semantics.specs.Blif.{blif_text}
use Rattle.blif_semantics.specs.Reading.{text_long}
use Rattle.hierarchy_semantics.specs.Refusals as hierarchy
use Rattle.hierarchy_semantics.specs.Reading.{hier_reading}
use Rattle.hierarchy_semantics.specs.Flat.{flattened}
use Rattle.aiger_semantics.specs.CircuitLines as aiger
use Rattle.aiger_semantics.specs.Reading.{aiger_reading}
use Rattle.aiger_semantics.specs.NetCircuit.{ands_of}
use Rattle.aiger_semantics.specs.Text.{aiger_text}
use Rattle.job_semantics.specs.Input.{input_reading}
use Rattle.blif_text.specs.Refusals as blif_refusals
use Rattle.blif_text.specs.declared.refusal.BlifRefusal.{BlifRefusal}
use Rattle.hier_blif.specs.Refusals as hier_refusals
use Rattle.hier_blif.specs.declared.refusal.HierRefusal.{HierRefusal}
use Rattle.hier_blif.specs.declared.refusal.HierRefusal.TheVariants as h
use Rattle.aiger_text.specs.Refusals as aiger_refusals
use Rattle.aiger_text.specs.declared.refusal.AigerRefusal.{AigerRefusal}
use Rattle.job_answers.specs.declared.status.Status.{Status}
use Rattle.job_answers.specs.Refused.{blif_answer, hier_answer, aiger_answer, TellsBlif, TellsHier, TellsAiger}
use Rattle.job_answers.specs.OnFiles.{on_files}
use Rattle.conversions.specs.Input.{FrontRead}
use Rattle.conversions.specs.Texts.{made, read_further, flat_reading, flat_text, aag_text, netlist_text}
use Rattle.conversions.specs.Answers.{ConversionAnswer}
use Rattle.conversions.proofs.InputReadings.{ReadsFront, reads_front, if_false, net_reads_front}
use Rattle.conversions.proofs.Told.{blif_told, blif_untold, hier_told, hier_untold, aiger_told, aiger_untold}
use Rattle.conversions.proofs.Conversions.{refused-at}

pub aag_reads_front : ReadsFront aag_text
aag_reads_front content = ap (λ r. made aiger_text (made ands_of r)) (net_reads_front content)

long_hierarchy : (text : Bytes) → MOST_INPUT_BYTES < length text → hier_reading text MOST_INPUT_BYTES ≡ Err (hierarchy.line text_long)
unfolding hier_reading
long_hierarchy text past = if_false (nat_le (length text) MOST_INPUT_BYTES) _ _ (grind (arith, nat_tests))

pub flat_reads_front : ReadsFront flat_text
flat_reads_front content =
    ap (λ r. made blif_text (read_further flattened r)) (reads_front (λ text. hier_reading text MOST_INPUT_BYTES) (Err (hierarchy.line text_long)) long_hierarchy content)

long_circuit : (text : Bytes) → MOST_INPUT_BYTES < length text → aiger_reading text MOST_INPUT_BYTES ≡ Err aiger.text_long
unfolding aiger_reading
long_circuit text past = if_false (nat_le (length text) MOST_INPUT_BYTES) _ _ (grind (arith, nat_tests))

pub netlist_reads_front : ReadsFront netlist_text
netlist_reads_front content = ap (made blif_text) (reads_front (λ text. aiger_reading text MOST_INPUT_BYTES) (Err aiger.text_long) long_circuit content)

-- what is told with a refusal of a hierarchy, or without one
abbrev IsTold : {X : Type 0} → HierRefusal → Result X hierarchy.HierRefusal → Option hierarchy.HierRefusal → Type 0
IsTold told given refusal = elim refusal [ None ↦ told ≡ h.OutOfMemory | Some r ↦ given ≡ Err r ]

out_of_memory : {X : Type 0} (told : HierRefusal) (given : Result X hierarchy.HierRefusal) → hier_refusals.Tells told given
    → hier_refusals.refusal_of told ≡ None → told ≡ h.OutOfMemory
out_of_memory told given tells none = subst (IsTold told given) none tells

refusal_told : {X : Type 0} (told : HierRefusal) (given : Result X hierarchy.HierRefusal) (r : hierarchy.HierRefusal) → hier_refusals.Tells told given
    → hier_refusals.refusal_of told ≡ Some r → given ≡ Err r
refusal_told told given r tells some = subst (IsTold told given) some tells

module _ {input output : Bytes} {old mid : FilesTold} {said : SinkTold} {text bytes : Bytes} (read : FrontRead old mid input text) (same : bytes ≡ text) (answer : Status) where
  pub aag-refused : (told : BlifRefusal) → blif_refusals.Tells told (input_reading bytes) → answer ≡ blif_answer told
      → ConversionAnswer aag_text TellsBlif input output (on_files old mid said) answer
  aag-refused told tells is =
      refused-at aag_text TellsBlif input output aag_reads_front read same answer (blif_refusals.refusal_of told)
      (λ none. is ∙ blif_untold told none)
      (λ r some. (ap (λ n. made aiger_text (made ands_of n)) (tells r some), (told, some, is ∙ blif_told told r some)))

  pub flat-refused : (told : HierRefusal) → hier_refusals.Tells told (flat_reading bytes) → answer ≡ hier_answer told
      → ConversionAnswer flat_text TellsHier input output (on_files old mid said) answer
  flat-refused told tells is =
      refused-at flat_text TellsHier input output flat_reads_front read same answer (hier_refusals.refusal_of told)
      (λ none. is ∙ hier_untold told (out_of_memory told (flat_reading bytes) tells none))
      (λ r some. (ap (made blif_text) (refusal_told told (flat_reading bytes) r tells some), (told, some, is ∙ hier_told told r some)))

  pub blif-refused : (told : AigerRefusal) → aiger_refusals.Tells told (aiger_reading bytes MOST_INPUT_BYTES) → answer ≡ aiger_answer told
      → ConversionAnswer netlist_text TellsAiger input output (on_files old mid said) answer
  blif-refused told tells is =
      refused-at netlist_text TellsAiger input output netlist_reads_front read same answer (aiger_refusals.refusal_of told)
      (λ none. is ∙ aiger_untold told none)
      (λ r some. (ap (made blif_text) (tells r some), (told, some, is ∙ aiger_told told r some)))
