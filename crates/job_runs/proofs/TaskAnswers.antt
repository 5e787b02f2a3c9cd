-- What a certify or a refine job comes to, from the readings of IN and of the second netlist and what is made of
-- their nets; and that a quiet call has no fault.
use Rattle.std.proofs.Common.{◌≡◌, ◌≢◌, true, false, None, [], inl, inr, refl, sym, subst, ◌∙◌, arith}
use Rattle.std.specs.Prelude.{IsTrue}
use Rattle.std.specs.FinMap.{contains_key}
use Rattle.semantics.specs.Texts.{Bytes}
use Rattle.semantics.specs.Net.{NetValue, input_count, HasSamePorts}
use Rattle.proof_semantics.specs.declared.constraint.Constraint.{Constraint}
use Rattle.outside_semantics.specs.Outside.{FilesTold, SinkTold, Goes, WhereTold, bytes_of}
use Rattle.outside_semantics.specs.WrittenFiles.{FilesWritten}
use Rattle.file_core.proofs.Told.{Goes-same, Goes-Goes, held_before}
use Rattle.file_reading.specs.Reading.{FilesStay}
use Rattle.blif_semantics.specs.Reading.{Refusal}
use Rattle.proof_semantics.specs.Conflicts.{IsEnough}
use Rattle.proof_semantics.specs.Queries.{SpentValue}
use Rattle.job_semantics.specs.declared.task.Task.{Task}
use Rattle.job_semantics.specs.Call.{Call}
use Rattle.job_semantics.specs.Job.{TaskNames}
use Rattle.job_semantics.specs.Input.{input_reading, IsReadAs, IsRefusedFor, IsAccepted}
use Rattle.job_semantics.specs.Synthesis.{WhereHeld, OfInput, CountsAs, request_of}
use Rattle.job_semantics.specs.SecondNetlist.{WhereBothHeld, OfSecond, AreUntouched, AreRead, AreBothRead, HasOtherPorts, IsAboveBound, IsTaskSpent, TaskReadFault, TaskWriteFault, IsQuietTask}
use Rattle.bundle_writing.proofs.FilesInOrder.{FilesWritten-then}
use Rattle.job_answers.specs.declared.status.Status.{Status}
use Rattle.job_answers.specs.declared.status.Status.TheVariants.{Done, Text, NoMemory, Budget, ReadFault, WriteFault, Second, Ports, Over}
use Rattle.job_answers.specs.Ends.{EndsWellOnBoth}
use Rattle.conversions.specs.Input.{NetRead, TextRefused}
use Rattle.synth_jobs.specs.Calls.{told_call}
use Rattle.job_runs.specs.Outcome.{SpentQueries, told_queries, without_query}
use Rattle.conversions.proofs.InputReadings.{text_refused}
use Rattle.check_jobs.proofs.CheckAnswers.{not_steady_before}
use Rattle.job_runs.specs.declared.outcome.Outcome.{Outcome}
use Rattle.job_runs.specs.Run.{TaskAnswerAt, TaskAnswer, IsInputAnswerTo, IsTaskAnswerTo}
use Rattle.job_runs.specs.Second.{SecondUnread, JudgedAnswerAt, JudgedAnswer}
use Rattle.job_runs.proofs.BundleAnswers.{written_since, cut_since, goes_cut, enough_spends_nothing, not_quiet_cut}
use Rattle.job_runs.proofs.SynthAnswers.{none_written, read_later}

-- ---- IN was read, and then the second netlist

-- IN is accepted
accepted : {input : Bytes} {old mid new : FilesTold} {N : NetValue} → NetRead old mid input N → Goes mid new → WhereTold old new (λ a b. IsAccepted (bytes_of a input))
accepted {old = old} {mid = mid} {new = new} {N = N} read goes = λ a b told tells. let m = held_before mid new goes b tells in (N, read.told a m.0 told m.1)

module _ {input second : Bytes} {old mid new : FilesTold} {N : NetValue} (read : NetRead old mid input N) where
  second_held : {refusal : Refusal} (r : TextRefused refusal mid new second) → WhereTold old new (λ a b. IsTrue (contains_key a second))
  second_held r = λ a b told tells.
      let m = held_before mid new r.stay.goes b tells in
      subst (λ x. IsTrue (contains_key x second)) (read.stay.stays a m.0 told m.1) (r.held m.0 b m.1 tells)

module _ {input second : Bytes} {old mid new : FilesTold} {said says : SinkTold} {N : NetValue} (read : NetRead old mid input N) where
  both_untouched : FilesStay mid new second → says ≡ said → AreUntouched input second (told_call old new said says)
  both_untouched stay quiet = record {
    goes = Goes-Goes read.stay.goes stay.goes;
    files = λ a b told tells. let m = held_before mid new stay.goes b tells in stay.stays m.0 b m.1 tells ∙ read.stay.stays a m.0 told m.1;
    still_told = λ a told has_input has_second. stay.still_told a (read.stay.still_told a told has_input) has_second;
    sink = quiet;
  }

  -- what is said of the bytes of the second netlist where it is read is said of them behind IN
  of_second : (P : Bytes → Type 0) → Goes mid new → OfInput (told_call mid new said says) second P → OfSecond (told_call old new said says) input second P
  of_second P goes h = record {
    told = λ a b told tells.
        let m = held_before mid new goes b tells in
        subst (λ x. P (bytes_of x second)) (read.stay.stays a m.0 told m.1) (h.told m.0 b m.1 tells);
    at_entry = λ a told has_input has_second. h.at_entry a (read.stay.still_told a told has_input) has_second;
  }

-- no query is told as spent
abbrev no_query : SpentQueries
no_query = record { spent = None; level = None }

module _ (task : Task) (aim : Constraint) (names : TaskNames) {old mid : FilesTold} (new : FilesTold) (said : SinkTold) {N : NetValue} (read : NetRead old mid names.input N) where
  -- the second netlist gives no net
  task-no_second : (answer : Status) → SecondUnread mid new names.second answer → TaskAnswerAt task aim names (told_call old new said said) no_query answer
  task-no_second (Second reason) (refusal, told, r) = (
    (
      refusal,
      told,
      record {
        untouched = both_untouched read r.stay refl;
        exact = N;
        input_read = read_later read r.stay.goes;
        held = second_held read r;
        refused = of_second read (λ text. IsRefusedFor text refusal) r.stay.goes (text_refused r);
      },
    ),
    (refl, refl),
  )
  task-no_second ReadFault failed = (
    record {
      untouched = both_untouched read failed.stay refl;
      rose = omega (arith, read.stay.goes.counts, failed.rose);
      not_steady = inr (accepted read failed.stay.goes, not_steady_before read.stay.goes failed.not_steady);
    },
    (refl, refl),
  )
  task-no_second NoMemory stay = (both_untouched read stay refl, (refl, refl))
  task-no_second _ bad = absurd bad

  pub task_answer-no_second : (answer : Status) (o : Outcome) → o ≡ without_query answer → SecondUnread mid new names.second answer
      → TaskAnswer task aim names (told_call old new said said) o
  task_answer-no_second answer o is unread = subst (TaskAnswer task aim names (told_call old new said said)) (sym is) (task-no_second answer unread)

-- ---- both were read

module _ {input second : Bytes} {old mid next : FilesTold} {N S : NetValue} (read : NetRead old mid input N) (begun : NetRead mid next second S) where
  both_unwritten : FilesWritten old next []
  both_unwritten = FilesWritten-then (none_written read) (none_written begun)

  are_read : (new : FilesTold) (said says : SinkTold) → Goes next new → AreRead input second (told_call old new said says) N S
  are_read new said says goes =
      let later : Goes mid new = Goes-Goes begun.stay.goes goes in
      record { input_read = read_later read later; second_read = of_second read (λ text. IsReadAs text S) later (read_later begun goes) }

  both_read : (new : FilesTold) (said says : SinkTold) (P : NetValue → NetValue → Type 0) → new ≡ next → says ≡ said → P N S
      → AreBothRead input second (told_call old new said says) P
  both_read new said says P same quiet holds = subst (λ n. AreBothRead input second (told_call old n said says) P) (sym same) (record {
    untouched = both_untouched read begun.stay quiet;
    exact = N;
    begin = S;
    read = are_read next said says (Goes-same next);
    holds = holds;
  })

  nothing_touched : (new : FilesTold) (said says : SinkTold) → new ≡ next → says ≡ said → AreUntouched input second (told_call old new said says)
  nothing_touched new said says same quiet = subst (λ n. AreUntouched input second (told_call old n said says)) (sym same) (both_untouched read begun.stay quiet)

module _ (task : Task) (aim : Constraint) (names : TaskNames) {old mid next : FilesTold} (new : FilesTold) (said says : SinkTold) {N S : NetValue}
    (read : NetRead old mid names.input N) (begun : NetRead mid next names.second S) (q : SpentQueries) where
  TaskAnswer-from : (status : Status) → JudgedAnswerAt (request_of task aim N S) names.stem (told_call next new said says) q status
      → TaskAnswerAt task aim names (told_call old new said says) q status
  TaskAnswer-from Done answer = (
    record {
      exact = N;
      begin = S;
      read = are_read read begun new said says answer.1.0.files.goes;
      beginning = answer.0;
      written = written_since (both_unwritten read begun) answer.1.0;
    },
    answer.1.1,
  )
  TaskAnswer-from Budget answer =
      (answer.1.0, answer.1.1, both_read read begun new said says (λ exact begin. IsTaskSpent (request_of task aim exact begin) q.spent answer.1.0) answer.0.0 answer.0.1 answer.1.2)
  TaskAnswer-from Ports answer = (both_read read begun new said says HasOtherPorts answer.0.0 answer.0.1 answer.1.0, answer.1.1)
  TaskAnswer-from (Over x) answer = (both_read read begun new said says (IsAboveBound aim.metric aim.bound x) answer.0.0 answer.0.1 answer.1.0, answer.1.1)
  TaskAnswer-from NoMemory answer = (nothing_touched read begun new said says answer.0.0 answer.0.1, answer.1)
  TaskAnswer-from WriteFault answer = (
    record {
      exact = N;
      begin = S;
      read = are_read read begun new said says (goes_cut answer.1.0);
      beginning = answer.0;
      left = cut_since (both_unwritten read begun) answer.1.0;
    },
    answer.1.1,
  )
  TaskAnswer-from _ answer = absurd answer.1

-- the answer of a task, from what the judging of the second net and the work on it say
pub TaskAnswer-of : (task : Task) (aim : Constraint) (names : TaskNames) {old mid next : FilesTold} (new : FilesTold) (said says : SinkTold) {N S : NetValue} (o : Outcome)
    → NetRead old mid names.input N → NetRead mid next names.second S → JudgedAnswer (request_of task aim N S) names.stem (told_call next new said says) o
    → TaskAnswer task aim names (told_call old new said says) o
TaskAnswer-of task aim names new said says o read begun answer = TaskAnswer-from task aim names new said says read begun (told_queries o) o.status answer

-- ---- a quiet call

module _ {names : TaskNames} {call : Call} where
  -- a call with a fault in reading is not quiet
  not_quiet_read : TaskReadFault names.input names.second call → IsQuietTask names call → ⊥
  not_quiet_read fault quiet =
      elim quiet.files [
        | inl calm ↦ calm fault.rose
        | inr steady ↦ elim fault.not_steady [
          | inl first ↦ let yes : call.old.steady_read names.input ≡ true = steady.read in let no : call.old.steady_read names.input ≡ false = first in cc
          | inr later ↦ let yes : call.old.steady_read names.second ≡ true = steady.second_read later.0 in let no : call.old.steady_read names.second ≡ false = later.1 in cc
        ]
      ]

  -- nor is one with a fault in writing
  not_quiet_write : {task : Task} {aim : Constraint} → TaskWriteFault task aim names call → IsQuietTask names call → ⊥
  not_quiet_write fault quiet =
      elim quiet.files [
        | inl calm ↦ not_quiet_cut fault.left (inl calm) quiet.sink
        | inr steady ↦
            let first : CountsAs IsAccepted call names.input = λ a b told tells. (fault.exact, fault.read.input_read.told a b told tells) in
            let then : CountsAs IsAccepted call names.second = λ a b told tells. (fault.begin, fault.read.second_read.told a b told tells) in
            not_quiet_cut fault.left (inr (steady.written first then)) quiet.sink
      ]

module _ (task : Task) (aim : Constraint) (names : TaskNames) (call : Call) (q : SpentQueries) where
  -- an answer without a fault is the one that the reading of IN asks for
  answers_input : (status : Status) → TaskAnswerAt task aim names call q status → status ≢ ReadFault → status ≢ WriteFault
      → WhereHeld call.old names.input (λ a. IsInputAnswerTo (input_reading (bytes_of a names.input)) status)
  answers_input Done answer no_read no_write = λ a told has. (answer.0.exact, answer.0.read.input_read.at_entry a told has)
  answers_input Budget answer no_read no_write = λ a told has. (answer.2.exact, answer.2.read.input_read.at_entry a told has)
  answers_input (Text reason) answer no_read no_write = λ a told has. (answer.0.0, answer.0.2.refused.at_entry a told has, answer.0.1)
  answers_input (Second reason) answer no_read no_write = λ a told has. (answer.0.2.exact, answer.0.2.input_read.at_entry a told has)
  answers_input Ports answer no_read no_write = λ a told has. (answer.0.exact, answer.0.read.input_read.at_entry a told has)
  answers_input (Over x) answer no_read no_write = λ a told has. (answer.0.exact, answer.0.read.input_read.at_entry a told has)
  answers_input NoMemory answer no_read no_write = λ a told has. tt
  answers_input ReadFault answer no_read no_write = absurd (no_read refl)
  answers_input WriteFault answer no_read no_write = absurd (no_write refl)
  answers_input _ answer no_read no_write = absurd answer

  -- where conflicts were spent, the nets have the same ports, and the conflicts are not enough
  spent_ends : (level : SpentValue) (exact begin : NetValue) → IsTaskSpent (request_of task aim exact begin) q.spent level → HasSamePorts exact begin × ¬ IsEnough aim.limit (input_count exact)
  spent_ends level exact begin (inl (spent_on, none)) = (spent_on.ports, spent_on.query.not_enough)
  spent_ends level exact begin (inr (beginning, search)) = (beginning.ports, search.query.query.not_enough)

  -- and the one that both readings and the conflicts ask for
  answers_both : (status : Status) → TaskAnswerAt task aim names call q status → status ≢ ReadFault → status ≢ WriteFault
      → WhereBothHeld call.old names.input names.second
      (λ a. IsTaskAnswerTo aim q.spent (input_reading (bytes_of a names.input)) (input_reading (bytes_of a names.second)) status)
  answers_both Done answer no_read no_write = λ a told has_input has_second.
      let d = answer.0 in
      (d.exact, d.read.input_read.at_entry a told has_input, (d.begin, d.read.second_read.at_entry a told has_input has_second, (d.beginning, enough_spends_nothing d.written)))
  answers_both Budget answer no_read no_write = λ a told has_input has_second.
      let d = answer.2 in
      (d.exact, d.read.input_read.at_entry a told has_input, (d.begin, d.read.second_read.at_entry a told has_input has_second, spent_ends answer.0 d.exact d.begin d.holds))
  answers_both (Text reason) answer no_read no_write = λ a told has_input has_second. (answer.0.0, answer.0.2.refused.at_entry a told has_input, answer.0.1)
  answers_both (Second reason) answer no_read no_write = λ a told has_input has_second.
      let d = answer.0.2 in (d.exact, d.input_read.at_entry a told has_input, (answer.0.0, d.refused.at_entry a told has_input has_second, answer.0.1))
  answers_both Ports answer no_read no_write = λ a told has_input has_second.
      let d = answer.0 in
      (d.exact, d.read.input_read.at_entry a told has_input, (d.begin, d.read.second_read.at_entry a told has_input has_second, d.holds))
  answers_both (Over x) answer no_read no_write = λ a told has_input has_second.
      let d = answer.0 in
      (d.exact, d.read.input_read.at_entry a told has_input, (d.begin, d.read.second_read.at_entry a told has_input has_second, d.holds))
  answers_both NoMemory answer no_read no_write = λ a told has_input has_second. tt
  answers_both ReadFault answer no_read no_write = absurd (no_read refl)
  answers_both WriteFault answer no_read no_write = absurd (no_write refl)
  answers_both _ answer no_read no_write = absurd answer

  -- a quiet call has no fault, and is answered as the readings and the conflicts ask
  pub quiet_task_ends : (status : Status) → TaskAnswerAt task aim names call q status → IsQuietTask names call
      → EndsWellOnBoth input_reading IsInputAnswerTo (IsTaskAnswerTo aim q.spent) names call.old status
  quiet_task_ends status answer quiet =
      let no_read : status ≢ ReadFault = λ is. not_quiet_read (subst (TaskAnswerAt task aim names call q) is answer).0 quiet in
      let no_write : status ≢ WriteFault = λ is. not_quiet_write (subst (TaskAnswerAt task aim names call q) is answer).0 quiet in
      record {
        read = no_read;
        written = no_write;
        input_answers = answers_input status answer no_read no_write;
        answers = answers_both status answer no_read no_write;
      }
