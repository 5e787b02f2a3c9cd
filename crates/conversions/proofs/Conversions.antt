-- What a conversion comes to, from what its steps say; and that a quiet call has no fault.
use Rattle.std.proofs.Common.{◌≡◌, true, false, [], ◌∷◌, Option, Some, None, Result, Ok, Err, inl, inr, refl, ap, sym, subst, ◌∙◌}
use Rattle.semantics.specs.Texts.{Bytes}
use Rattle.outside_semantics.specs.Outside.{FilesTold, SinkTold, bytes_of}
use Rattle.file_core.specs.Page.{WritesFiles}
use Rattle.file_reading.specs.Reading.{FilesStay, FileFailed}
use Rattle.job_semantics.specs.Synthesis.{IsUntouched, InputReadFault, AreFilesSteady, IsQuiet}
use Rattle.job_semantics.specs.Conversion.{output_file, ConversionCutShort, ConversionEnd, done, refused, out_of_memory, not_read, not_written, IsQuietConversion}
use Rattle.job_answers.specs.declared.status.Status.{Status}
use Rattle.job_answers.specs.declared.status.Status.TheVariants.{Done, NoMemory, ReadFault}
use Rattle.conversions.specs.Input.{FrontRead, FrontUnread}
use Rattle.job_answers.specs.Ends.{EndsWell}
use Rattle.job_answers.specs.OnFiles.{on_files}
use Rattle.job_semantics.specs.Call.{Call}
use Rattle.job_answers.specs.Refused.{IsRefusal}
use Rattle.job_answers.proofs.Refusals.{AsksNothing, refusal_is_no_read_fault, refusal_is_no_write_fault, refusal_asks_nothing}
use Rattle.conversions.specs.Answers.{answer_of_writing, IsConversionAnswer, ConversionAnswer, IsConvertedAs}
use Rattle.conversions.proofs.InputReadings.{ReadsFront, OfInput-from, OfInput-later}
use Rattle.conversions.proofs.OneFile.{one_steady, written_after, cut_after}

pub untouched : {input : Bytes} {old new : FilesTold} {said : SinkTold} → FilesStay old new input → IsUntouched input (on_files old new said)
untouched stay = record { goes = stay.goes; files = stay.stays; still_told = stay.still_told; sink = refl }

pub read_fault : {input : Bytes} {old new : FilesTold} {said : SinkTold} → FileFailed old new input → InputReadFault input (on_files old new said)
read_fault failed = record { untouched = untouched failed.stay; rose = failed.rose; not_steady = failed.not_steady }

module _ {R : Type 0} (reading : Bytes → Result Bytes R) (Tells : R → Status → Type 0) (input output : Bytes) {old mid : FilesTold} {said : SinkTold} where
  pub not_read-answer : (answer : Status) → FrontUnread old mid input answer → ConversionAnswer reading Tells input output (on_files old mid said) answer
  not_read-answer ReadFault failed = (not_read (read_fault failed), refl)
  not_read-answer NoMemory stay = (out_of_memory (untouched stay), refl)
  not_read-answer _ bad = absurd bad

  module _ {text : Bytes} (front : ReadsFront reading) (read : FrontRead old mid input text) where
    pub no_memory-answer : (answer : Status) → answer ≡ NoMemory → ConversionAnswer reading Tells input output (on_files old mid said) answer
    no_memory-answer answer is = (out_of_memory (untouched read.stay), is)

    pub refused-answer : (refusal : R) (answer : Status) → reading text ≡ Err refusal → Tells refusal answer → ConversionAnswer reading Tells input output (on_files old mid said) answer
    refused-answer refusal answer is tells =
        (refused refusal (record { untouched = untouched read.stay; held = read.held; refused = OfInput-from reading front (Err refusal) read is }), tells)

    module _ {new : FilesTold} (made : Bytes) (is : reading text ≡ Ok made) where
      pub written-answer : {T E : Type 0} (written : Result T E) → WritesFiles written mid new (output_file output made ∷ [])
          → ConversionAnswer reading Tells input output (on_files old new said) (answer_of_writing written)
      written-answer (Ok whole) w = (
        done (record {
          text = made;
          read = OfInput-later (λ t. reading t ≡ Ok made) w.ok.goes (OfInput-from reading front (Ok made) read is);
          written = record { files = written_after read.stay.goes read.stay.stays (output_file output made ∷ []) w.ok; sink = refl };
        }),
        refl,
      )
      written-answer (Err fault) w = (
        not_written (record {
          text = made;
          read = OfInput-later (λ t. reading t ≡ Ok made) w.err.goes (OfInput-from reading front (Ok made) read is);
          left = record { files = cut_after read.stay.goes read.stay.stays (output_file output made) w.err; sink = refl };
        }),
        refl,
      )

  -- the text that was read is that of the front
  module _ {text bytes : Bytes} (front : ReadsFront reading) (read : FrontRead old mid input text) (same : bytes ≡ text) (answer : Status) where
    pub refused-at : (told : Option R) → (told ≡ None → answer ≡ NoMemory) → ((refusal : R) → told ≡ Some refusal → (reading bytes ≡ Err refusal) × Tells refusal answer)
        → ConversionAnswer reading Tells input output (on_files old mid said) answer
    refused-at None none some = no_memory-answer front read answer (none refl)
    refused-at (Some refusal) none some =
        let told = some refusal refl in refused-answer front read refusal answer (ap reading (sym same) ∙ told.0) told.1

    pub written-at : {new : FilesTold} {T E : Type 0} (made : Bytes) → reading bytes ≡ Ok made → (written : Result T E) → WritesFiles written mid new (output_file output made ∷ [])
        → answer ≡ answer_of_writing written → ConversionAnswer reading Tells input output (on_files old new said) answer
    written-at {new} made is written w answers =
        subst (ConversionAnswer reading Tells input output (on_files old new said)) (sym answers)
        (written-answer front read made (ap reading (sym same) ∙ is) written w)

-- ---- a quiet call

-- a call with a fault in reading is not quiet
pub not_quiet_read : {P : Bytes → Type 0} {W : Type 0} {input : Bytes} {call : Call} → InputReadFault input call
    → IsQuiet (AreFilesSteady P W call input) call → ⊥
not_quiet_read {input = input} {call = call} fault quiet =
    elim quiet.files [
      | inl calm ↦ calm fault.rose
      | inr steady ↦ let yes : call.old.steady_read input ≡ true = steady.read in let no : call.old.steady_read input ≡ false = fault.not_steady in cc
    ]

without_memory : {R : Type 0} (Tells : R → Status → Type 0) (r : Result Bytes R) → IsConvertedAs Tells r NoMemory
without_memory Tells (Ok text) = inr refl
without_memory Tells (Err refusal) = inr refl

module _ {R : Type 0} (reading : Bytes → Result Bytes R) (Tells : R → Status → Type 0) (is_refusal : (refusal : R) (answer : Status) → Tells refusal answer → IsRefusal answer)
    (input output : Bytes) {call : Call} where
  -- nor is one with a fault in writing
  not_quiet_write : ConversionCutShort reading input output call → IsQuietConversion reading input output call → ⊥
  not_quiet_write cut quiet =
      elim quiet.files [
        | inl calm ↦ calm cut.left.files.rose
        | inr steady ↦
            let yes : call.old.steady_write output ≡ true = steady.written (λ a b told tells. (cut.text, cut.read.told a b told tells)) in
            let no : call.old.steady_write output ≡ false = one_steady call.old (output_file output cut.text) cut.left.files.not_steady in
            cc
      ]

  -- a quiet call has no fault, and is answered as the reading of IN asks
  pub quiet_conversion_ends : (answer : Status) (end : ConversionEnd reading input output call) → IsConversionAnswer Tells end answer
      → IsQuietConversion reading input output call → EndsWell reading (IsConvertedAs Tells) input call.old answer
  quiet_conversion_ends answer (done d) is quiet = subst (EndsWell reading (IsConvertedAs Tells) input call.old) (sym is) (record {
    read = λ e. cc;
    written = λ e. cc;
    answers = λ a told has. subst (λ r. IsConvertedAs Tells r Done) (sym (d.read.at_entry a told has)) (inl refl);
  })
  quiet_conversion_ends answer (refused refusal r) tells quiet = record {
    read = refusal_is_no_read_fault answer (is_refusal refusal answer tells);
    written = refusal_is_no_write_fault answer (is_refusal refusal answer tells);
    answers = λ a told has. subst (λ r. IsConvertedAs Tells r answer) (sym (r.refused.at_entry a told has)) (inl tells);
  }
  quiet_conversion_ends answer (out_of_memory left) is quiet = subst (EndsWell reading (IsConvertedAs Tells) input call.old) (sym is) (record {
    read = λ e. cc;
    written = λ e. cc;
    answers = λ a told has. without_memory Tells (reading (bytes_of a input));
  })
  quiet_conversion_ends answer (not_read fault) is quiet = absurd (not_quiet_read fault quiet)
  quiet_conversion_ends answer (not_written cut) is quiet = absurd (not_quiet_write cut quiet)

  pub conversion_asks_nothing : (answer : Status) (end : ConversionEnd reading input output call) → IsConversionAnswer Tells end answer → AsksNothing answer
  conversion_asks_nothing answer (done d) is = subst AsksNothing (sym is) tt
  conversion_asks_nothing answer (refused refusal r) tells = refusal_asks_nothing answer (is_refusal refusal answer tells)
  conversion_asks_nothing answer (out_of_memory left) is = subst AsksNothing (sym is) tt
  conversion_asks_nothing answer (not_read fault) is = subst AsksNothing (sym is) tt
  conversion_asks_nothing answer (not_written cut) is = subst AsksNothing (sym is) tt
