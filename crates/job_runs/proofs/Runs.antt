-- What every run says, job by job, and how a quiet one ends.
use Rattle.std.proofs.Common.{◌≡◌, ◌≢◌, ℕ, List, Option, Some, None, refl, sym, subst, ◌∙◌}
use Rattle.semantics.specs.Texts.{Bytes}
use Rattle.semantics.specs.declared.metric.Metric.{Metric}
use Rattle.proof_semantics.specs.declared.constraint.Constraint.{Constraint}
use Rattle.job_semantics.specs.declared.claim.Claim.{Claim}
use Rattle.job_semantics.specs.declared.growth.Growth.{Growth}
use Rattle.job_semantics.specs.declared.growth.Growth.TheVariants.{Refused, Allowed}
use Rattle.job_semantics.specs.declared.task.Task.{Task}
use Rattle.job_semantics.specs.Call.{Call}
use Rattle.job_semantics.specs.Certificate.{checked_claim}
use Rattle.job_semantics.specs.Job.{Job, synth, against, check, confirm, demo, flat, aag, blif, trim, job_of, TaskNames}
use Rattle.job_semantics.specs.Synthesis.{Request, simplifying}
use Rattle.job_semantics.specs.Demo.{demo_net}
use Rattle.job_semantics.specs.Demonstration.{demo_stem}
use Rattle.std.specs.Borrow.{Bor}
use Rattle.command_words.specs.Words.{check_with, HasRanges}
use Rattle.command_words.specs.declared.words.Command.{Command}
use Rattle.command_words.specs.declared.words.Command.TheVariants.{Trim}
use Rattle.job_answers.specs.declared.status.Status.{Status}
use Rattle.job_answers.specs.declared.status.Status.TheVariants.{Done, Usage, Text, NoMemory, Budget, ReadFault, WriteFault, Second, Ports, Over}
use Rattle.job_runs.specs.declared.outcome.Outcome.{Outcome}
use Rattle.synth_jobs.specs.Demo.{demo_aim}
use Rattle.job_runs.specs.Outcome.{SpentQueries, told_queries, SpendsAs, SpendsAsTold, without_query}
use Rattle.job_answers.specs.Refused.{TellsBlif, TellsHier, TellsAiger}
use Rattle.job_answers.proofs.Refusals.{AsksNothing, no_usage_asked, blif_is_refusal, hier_is_refusal, aiger_is_refusal}
use Rattle.conversions.specs.Texts.{flat_text, aag_text, netlist_text}
use Rattle.conversions.proofs.Conversions.{quiet_conversion_ends, conversion_asks_nothing}
use Rattle.check_jobs.specs.Answers.{CheckAnswer, TrimAnswer}
use Rattle.job_runs.specs.Run.{SynthAnswerAt, SynthAnswer, BundleAnswerAt, BundleAnswer, TaskAnswerAt, TaskAnswer, JobAnswer, IsOnFiles, RunSays, IsQuietJob, EndsAsAsked}
use Rattle.job_runs.proofs.BundleAnswers.{quiet_demo_ends}
use Rattle.check_jobs.proofs.CheckAnswers.{check_asks_nothing, quiet_check_ends}
use Rattle.job_runs.proofs.SynthAnswers.{quiet_ends}
use Rattle.job_runs.proofs.TaskAnswers.{quiet_task_ends}
use Rattle.check_jobs.proofs.TrimAnswers.{trim_asks_nothing, quiet_trim_ends}

module _ (aim : Constraint) (input stem : Bytes) (call : Call) (q : SpentQueries) where
  synth_spends : (status : Status) → SynthAnswerAt aim input stem call q status → SpendsAs q status
  synth_spends Done answer = answer.1
  synth_spends Budget answer = (answer.0, answer.1)
  synth_spends (Text reason) answer = answer.1
  synth_spends NoMemory answer = answer.1
  synth_spends ReadFault answer = answer.1
  synth_spends WriteFault answer = answer.1
  synth_spends _ answer = absurd answer

  synth_is_no_usage : (status : Status) → SynthAnswerAt aim input stem call q status → status ≢ Usage
  synth_is_no_usage status answer usage = subst (SynthAnswerAt aim input stem call q) usage answer

module _ (r : Request) (stem : Bytes) (call : Call) (q : SpentQueries) where
  bundle_spends : (status : Status) → BundleAnswerAt r stem call q status → SpendsAs q status
  bundle_spends Done answer = answer.1
  bundle_spends Budget answer = (answer.1.0, answer.1.1)
  bundle_spends NoMemory answer = answer.1
  bundle_spends WriteFault answer = answer.1
  bundle_spends _ answer = absurd answer

  bundle_is_no_usage : (status : Status) → BundleAnswerAt r stem call q status → status ≢ Usage
  bundle_is_no_usage status answer usage = subst (BundleAnswerAt r stem call q) usage answer

module _ (task : Task) (aim : Constraint) (names : TaskNames) (call : Call) (q : SpentQueries) where
  task_spends : (status : Status) → TaskAnswerAt task aim names call q status → SpendsAs q status
  task_spends Done answer = answer.1
  task_spends Budget answer = (answer.0, answer.1)
  task_spends (Text reason) answer = answer.1
  task_spends (Second reason) answer = answer.1
  task_spends Ports answer = answer.1
  task_spends (Over x) answer = answer.1
  task_spends NoMemory answer = answer.1
  task_spends ReadFault answer = answer.1
  task_spends WriteFault answer = answer.1
  task_spends _ answer = absurd answer

  task_is_no_usage : (status : Status) → TaskAnswerAt task aim names call q status → status ≢ Usage
  task_is_no_usage status answer usage = subst (TaskAnswerAt task aim names call q) usage answer

asks_nothing_spends : (status : Status) → AsksNothing status → SpendsAs (record { spent = None; level = None }) status
asks_nothing_spends Done is = refl
asks_nothing_spends Budget is = absurd is
asks_nothing_spends _ is = (refl, refl)

-- the answer to the checking of a claim is that to the job which the claim names
module _ {input stem : Bytes} {call : Call} (status : Status) where
  check_by_growth : (growth : Growth) (metric : Metric) (bound : ℕ) → CheckAnswer (record { metric = metric; bound = bound; growth = growth }) input stem call status
      → JobAnswer (check_with growth metric bound input stem) call (without_query status)
  check_by_growth Refused metric bound answer = answer
  check_by_growth Allowed metric bound answer = answer

  pub check-job : (claim : Claim) → CheckAnswer claim input stem call status → JobAnswer (check_with claim.growth claim.metric claim.bound input stem) call (without_query status)
  check-job claim answer = check_by_growth claim.growth claim.metric claim.bound answer

  pub trim-job : {output : Bytes} (claim : Claim) → claim ≡ checked_claim claim.metric claim.bound → TrimAnswer claim input stem output call status
      → JobAnswer (trim claim.metric claim.bound input stem output) call (without_query status)
  trim-job {output} claim is answer = (subst (λ k. TrimAnswer k input stem output call status) is answer, (refl, refl))

-- the words of a trim job claim what a check tests
pub trim_ranges : {command : Command} {claim : Claim} {input stem output : Bor Bytes} → command ≡ Trim claim input stem output → HasRanges command
    → claim ≡ checked_claim claim.metric claim.bound
trim_ranges is ranges = (subst HasRanges is ranges).0

-- a job that is done with files alone asks the solver nothing
files_ask_nothing : (call : Call) (job : Job) (status : Status) → IsOnFiles job → JobAnswer job call (without_query status) → AsksNothing status
files_ask_nothing call (synth aim input stem) status on answer = absurd on
files_ask_nothing call (against task aim names) status on answer = absurd on
files_ask_nothing call (check metric bound input stem) status on answer = check_asks_nothing status answer.0 answer.1
files_ask_nothing call (confirm metric bound input stem) status on answer = check_asks_nothing status answer.0 answer.1
files_ask_nothing call (demo width bound conflicts) status on answer = absurd on
files_ask_nothing call (flat input output) status on answer = conversion_asks_nothing flat_text TellsHier hier_is_refusal input output status answer.0.0 answer.0.1
files_ask_nothing call (aag input output) status on answer = conversion_asks_nothing aag_text TellsBlif blif_is_refusal input output status answer.0.0 answer.0.1
files_ask_nothing call (blif input output) status on answer = conversion_asks_nothing netlist_text TellsAiger aiger_is_refusal input output status answer.0.0 answer.0.1
files_ask_nothing call (trim metric bound input stem output) status on answer = trim_asks_nothing status answer.0.0 answer.0.1

module _ {words : List Bytes} {call : Call} where
  job_says : (job : Job) (o : Outcome) → job_of words ≡ Some job → o.status ≢ Usage → SpendsAsTold o → JobAnswer job call o → RunSays words call o
  job_says job o named no_usage spends answer = record {
    usage = ((λ usage. absurd (no_usage usage)), (λ none. let bad : ◌≡◌ {A = Option Job} None (Some job) = sym none ∙ named in cc));
    spent = spends;
    answer = λ other is.
        let same : job ≡ other = let both : ◌≡◌ {A = Option Job} (Some job) (Some other) = sym named ∙ is in cc in
        subst (λ j. JobAnswer j call o) same answer;
  }

  pub no_job-says : (o : Outcome) → o ≡ without_query Usage → job_of words ≡ None → RunSays words call o
  no_job-says o is none = subst (RunSays words call) (sym is) (record {
    usage = ((λ usage. none), (λ nothing. refl));
    spent = (refl, refl);
    answer = λ job named. let bad : ◌≡◌ {A = Option Job} None (Some job) = sym none ∙ named in cc;
  })

  pub synth-says : {aim : Constraint} {input stem : Bytes} (o : Outcome) → job_of words ≡ Some (synth aim input stem) → SynthAnswer aim input stem call o → RunSays words call o
  synth-says {aim} {input} {stem} o named answer =
      job_says (synth aim input stem) o named (synth_is_no_usage aim input stem call (told_queries o) o.status answer)
      (synth_spends aim input stem call (told_queries o) o.status answer) answer

  pub task-says : {task : Task} {aim : Constraint} {names : TaskNames} (o : Outcome) → job_of words ≡ Some (against task aim names) → TaskAnswer task aim names call o → RunSays words call o
  task-says {task} {aim} {names} o named answer =
      job_says (against task aim names) o named (task_is_no_usage task aim names call (told_queries o) o.status answer)
      (task_spends task aim names call (told_queries o) o.status answer) answer

  -- a job that asks the solver nothing
  asking_nothing : (job : Job) (o : Outcome) (status : Status) → o ≡ without_query status → job_of words ≡ Some job → AsksNothing status → JobAnswer job call (without_query status)
      → RunSays words call o
  asking_nothing job o status is named nothing answer =
      subst (RunSays words call) (sym is) (job_says job (without_query status) named (no_usage_asked status nothing) (asks_nothing_spends status nothing) answer)

  pub on_files-says : (job : Job) (o : Outcome) (status : Status) → o ≡ without_query status → job_of words ≡ Some job → IsOnFiles job → JobAnswer job call (without_query status)
      → RunSays words call o
  on_files-says job o status is named on answer = asking_nothing job o status is named (files_ask_nothing call job status on answer) answer

  -- words that name a job are not answered by `Usage`
  pub named_is_no_usage : (job : Job) (o : Outcome) → job_of words ≡ Some job → RunSays words call o → o.status ≢ Usage
  named_is_no_usage job o named run usage = let bad : ◌≡◌ {A = Option Job} None (Some job) = sym (run.usage.0 usage) ∙ named in cc

  pub demo-says : {width bound limit : ℕ} {aim : Constraint} (o : Outcome) → aim ≡ demo_aim bound limit → job_of words ≡ Some (demo width bound limit)
      → BundleAnswer (simplifying aim (demo_net width)) demo_stem call o → RunSays words call o
  demo-says {width} {bound} {limit} o asked named given =
      let answer = subst (λ a. BundleAnswer (simplifying a (demo_net width)) demo_stem call o) asked given in
      job_says (demo width bound limit) o named (bundle_is_no_usage (simplifying (demo_aim bound limit) (demo_net width)) demo_stem call (told_queries o) o.status answer)
      (bundle_spends (simplifying (demo_aim bound limit) (demo_net width)) demo_stem call (told_queries o) o.status answer) answer

-- a quiet run ends as it was asked to
pub quiet_job_ends : (job : Job) (call : Call) (o : Outcome) → JobAnswer job call o → IsQuietJob job call → EndsAsAsked job call.old o
quiet_job_ends (synth aim input stem) call o answer quiet = quiet_ends aim input stem call (told_queries o) o.status answer quiet
quiet_job_ends (against task aim names) call o answer quiet = quiet_task_ends task aim names call (told_queries o) o.status answer quiet
quiet_job_ends (check metric bound input stem) call o answer quiet = quiet_check_ends o.status answer.0 answer.1 quiet
quiet_job_ends (confirm metric bound input stem) call o answer quiet = quiet_check_ends o.status answer.0 answer.1 quiet
quiet_job_ends (demo width bound conflicts) call o answer quiet =
    quiet_demo_ends (simplifying (demo_aim bound conflicts) (demo_net width)) call (told_queries o) o.status answer quiet
quiet_job_ends (flat input output) call o answer quiet = quiet_conversion_ends flat_text TellsHier hier_is_refusal input output o.status answer.0.0 answer.0.1 quiet
quiet_job_ends (aag input output) call o answer quiet = quiet_conversion_ends aag_text TellsBlif blif_is_refusal input output o.status answer.0.0 answer.0.1 quiet
quiet_job_ends (blif input output) call o answer quiet = quiet_conversion_ends netlist_text TellsAiger aiger_is_refusal input output o.status answer.0.0 answer.0.1 quiet
quiet_job_ends (trim metric bound input stem output) call o answer quiet = quiet_trim_ends o.status answer.0.0 answer.0.1 quiet
