-- What a synth job comes to, from the reading of IN and what is made of its net.
use Rattle.std.proofs.Common.{◌≡◌, ◌≢◌, [], inl, inr, refl, sym, subst}
use Rattle.semantics.specs.Texts.{Bytes}
use Rattle.semantics.specs.Net.{NetValue}
use Rattle.proof_semantics.specs.declared.constraint.Constraint.{Constraint}
use Rattle.outside_semantics.specs.Outside.{FilesTold, SinkTold, Goes, bytes_of}
use Rattle.outside_semantics.specs.WrittenFiles.{FilesWritten}
use Rattle.job_semantics.specs.Call.{Call}
use Rattle.job_semantics.specs.Synthesis.{simplifying, WhereHeld, OfInput, IsUntouched, SynthWriteFault, CountsAs, IsQuietSynth, request_of}
use Rattle.job_semantics.specs.declared.task.Task.TheVariants.{Refine}
use Rattle.job_semantics.specs.Input.{input_reading, IsReadAs, IsAccepted}
use Rattle.job_answers.specs.declared.status.Status.{Status}
use Rattle.job_answers.specs.declared.status.Status.TheVariants.{Done, Text, NoMemory, Budget, ReadFault, WriteFault}
use Rattle.job_runs.specs.declared.outcome.Outcome.{Outcome}
use Rattle.job_answers.specs.Ends.{EndsWell}
use Rattle.conversions.specs.Input.{NetRead}
use Rattle.conversions.proofs.InputReadings.{OfInput-later, net_read}
use Rattle.conversions.proofs.Conversions.{not_quiet_read}
use Rattle.synth_jobs.specs.Calls.{told_call}
use Rattle.job_runs.specs.Outcome.{SpentQueries, told_queries}
use Rattle.job_runs.specs.Run.{SynthAnswerAt, SynthAnswer, BundleAnswerAt, BundleAnswer, IsAnswerTo}
use Rattle.job_runs.proofs.BundleAnswers.{written_since, cut_since, goes_cut, enough_spends_nothing, not_quiet_cut}

-- nothing was written while a netlist was read
pub none_written : {old mid : FilesTold} {input : Bytes} {N : NetValue} → NetRead old mid input N → FilesWritten old mid []
none_written was = record { goes = was.stay.goes; held = was.stay.stays }

untouched : {old mid : FilesTold} {input : Bytes} {N : NetValue} {said : SinkTold} → NetRead old mid input N → (new : FilesTold) (says : SinkTold) → new ≡ mid → says ≡ said
    → IsUntouched input (told_call old new said says)
untouched {old} {mid} {input} {N} {said} was new says same quiet =
    subst (λ n. IsUntouched input (told_call old n said says)) (sym same) (record {
      goes = was.stay.goes;
      files = was.stay.stays;
      still_told = was.stay.still_told;
      sink = quiet;
    })

pub read_later : {old mid new : FilesTold} {said says : SinkTold} {input : Bytes} {N : NetValue} → NetRead old mid input N → Goes mid new
    → OfInput (told_call old new said says) input (λ text. IsReadAs text N)
read_later {N = N} was goes = OfInput-later (λ text. IsReadAs text N) goes (net_read was)

module _ (aim : Constraint) (input stem : Bytes) (old mid new : FilesTold) (said says : SinkTold) (N : NetValue) (q : SpentQueries) (read : NetRead old mid input N) where
  SynthAnswer-from : (status : Status) → BundleAnswerAt (simplifying aim N) stem (told_call mid new said says) q status
      → SynthAnswerAt aim input stem (told_call old new said says) q status
  SynthAnswer-from Done answer = (record { exact = N; read = read_later read answer.0.files.goes; written = written_since (none_written read) answer.0 }, answer.1)
  SynthAnswer-from Budget answer = (
    answer.1.0,
    answer.1.1,
    record {
      untouched = untouched read new says answer.0.0 answer.0.1;
      exact = N;
      read = subst (λ n. OfInput (told_call old n said says) input (λ text. IsReadAs text N)) (sym answer.0.0) (net_read read);
      search = answer.1.2;
    },
  )
  SynthAnswer-from NoMemory answer = (untouched read new says answer.0.0 answer.0.1, answer.1)
  SynthAnswer-from WriteFault answer = (record { exact = N; read = read_later read (goes_cut answer.0); left = cut_since (none_written read) answer.0 }, answer.1)
  SynthAnswer-from _ answer = absurd answer

-- the answer of a synth job: IN itself is refined
pub SynthAnswer-of : (aim : Constraint) (input stem : Bytes) {old mid : FilesTold} (new : FilesTold) (said says : SinkTold) {N begin : NetValue} (o : Outcome) → begin ≡ N
    → NetRead old mid input N → BundleAnswer (request_of Refine aim N begin) stem (told_call mid new said says) o → SynthAnswer aim input stem (told_call old new said says) o
SynthAnswer-of aim input stem {old} {mid} new said says {N} o same read answer =
    SynthAnswer-from aim input stem old mid new said says N (told_queries o) read o.status
    (subst (λ B. BundleAnswer (request_of Refine aim N B) stem (told_call mid new said says) o) same answer)

module _ (aim : Constraint) (input stem : Bytes) (call : Call) where
  -- what could not be written is read as some net
  accepted_at_fault : SynthWriteFault aim input stem call → CountsAs IsAccepted call input
  accepted_at_fault fault = λ a b told tells. (fault.exact, fault.read.told a b told tells)

  -- a call with a fault in writing is not quiet
  not_quiet : SynthWriteFault aim input stem call → IsQuietSynth input stem call → ⊥
  not_quiet fault quiet =
      elim quiet.files [
        | inl calm ↦ not_quiet_cut fault.left (inl calm) quiet.sink
        | inr steady ↦ not_quiet_cut fault.left (inr (steady.written (accepted_at_fault fault))) quiet.sink
      ]

  module _ (q : SpentQueries) where
    -- an answer without a fault is the one that the reading of IN and the conflicts ask for
    answers_reading : (status : Status) → SynthAnswerAt aim input stem call q status → status ≢ ReadFault → status ≢ WriteFault
        → WhereHeld call.old input (λ a. IsAnswerTo aim.limit q.spent (input_reading (bytes_of a input)) status)
    answers_reading Done answer read written = λ a told has. (answer.0.exact, answer.0.read.at_entry a told has, enough_spends_nothing answer.0.written)
    answers_reading Budget answer read written = λ a told has. (answer.2.exact, answer.2.read.at_entry a told has, answer.2.search.query.query.not_enough)
    answers_reading (Text reason) answer read written = λ a told has. (answer.0.0, answer.0.2.refused.at_entry a told has, answer.0.1)
    answers_reading NoMemory answer read written = λ a told has. tt
    answers_reading ReadFault answer read written = absurd (read refl)
    answers_reading WriteFault answer read written = absurd (written refl)
    answers_reading _ answer read written = absurd answer

    -- a quiet call has no fault, and is answered as the reading of IN and the conflicts ask
    pub quiet_ends : (status : Status) → SynthAnswerAt aim input stem call q status → IsQuietSynth input stem call
        → EndsWell input_reading (IsAnswerTo aim.limit q.spent) input call.old status
    quiet_ends status answer quiet =
        let no_read : status ≢ ReadFault = λ is. not_quiet_read (subst (SynthAnswerAt aim input stem call q) is answer).0 quiet in
        let no_write : status ≢ WriteFault = λ is. not_quiet (subst (SynthAnswerAt aim input stem call q) is answer).0 quiet in
        record { read = no_read; written = no_write; answers = answers_reading status answer no_read no_write }
