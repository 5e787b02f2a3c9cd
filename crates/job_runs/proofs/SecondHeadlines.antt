-- The headline of jobs on two netlists, from what each answer says.
use Rattle.std.proofs.Common.{◌≡◌, ◌≢◌, ◌⊎◌, ℕ, Bool, List, Option, Some, None, Result, Ok, Err, inl, inr, refl, ap, sym, subst, ◌∙◌, arith}
use Rattle.std.specs.Prelude.{IsTrue}
use Rattle.std.proofs.lemmas.Bool.{and_parts}
use Rattle.semantics.specs.Texts.{Bytes}
use Rattle.semantics.specs.Net.{NetValue, HasSamePorts}
use Rattle.semantics.specs.Error.{IsWithin}
use Rattle.semantics.specs.declared.metric.Metric.{Metric}
use Rattle.proof_semantics.specs.declared.constraint.Constraint.{Constraint}
use Rattle.outside_semantics.specs.Outside.{Held, bytes_of}
use Rattle.blif_semantics.specs.Reading.{Refusal}
use Rattle.proof_semantics.specs.Queries.{SpentValue, IsOver}
use Rattle.job_semantics.specs.declared.growth.Growth.TheVariants.{Allowed}
use Rattle.job_semantics.specs.declared.task.Task.{Task}
use Rattle.job_semantics.specs.Call.{Call}
use Rattle.job_semantics.specs.declared.task.Task.TheVariants.{Certify, Refine}
use Rattle.job_semantics.specs.Job.{against, confirm, are_file_words, TaskNames}
use Rattle.job_semantics.specs.Input.{IsReadAs}
use Rattle.job_semantics.specs.Certificate.{Texts, texts_of, IsNetlist, CertifiesWith, confirmed_claim}
use Rattle.job_semantics.specs.Checking.{ShowsItsBound}
use Rattle.job_semantics.specs.Shrinking.{Shrinking}
use Rattle.job_semantics.specs.Synthesis.{claim_of, shrinking_of, IsTaskDone, request_of}
use Rattle.job_semantics.specs.SecondNetlist.{AreRead, AreBothRead, TaskDone, IsTaskSpent}
use Rattle.job_semantics.specs.SecondHeadline.{KeepsTheBound, IsAsAsked, IsCertifiedAs, AreSpentOnSecond, SecondHeadline}
use Rattle.job_semantics.proofs.FileWords.{file_words_law}
use Rattle.job_semantics.proofs.CheckedFiles.{one_net, joined_task_law}
use Rattle.job_answers.specs.declared.status.Status.{Status}
use Rattle.job_answers.specs.declared.status.Status.TheVariants.{Done, Text, NoMemory, Budget, ReadFault, WriteFault, Second, Ports, Over}
use Rattle.job_runs.specs.declared.outcome.Outcome.{Outcome}
use Rattle.job_runs.specs.Outcome.{SpentQueries, told_queries, answered_by}
use Rattle.job_runs.specs.Run.{TaskAnswerAt, RunSays}
use Rattle.check_jobs.proofs.CheckAnswers.{verified_end}
use Rattle.job_runs.proofs.TaskAnswers.{quiet_task_ends}
use Rattle.job_runs.proofs.SpentQueries.{none_is, same_query, of_task, of_task_spent}
use Rattle.job_runs.proofs.Headlines.{end_reached, same_ports}

keeps : {metric : Metric} {bound : ℕ} {exact : NetValue} {texts : Texts} → ShowsItsBound (confirmed_claim metric bound) exact texts → KeepsTheBound metric bound exact texts
keeps s = record {
  approx = s.approx;
  report = s.report;
  netlist = s.netlist;
  reported = s.reported;
  the_same_ports = s.verified.ports;
  on_every_input = s.verified.safe;
  within_the_bound = s.verified.within;
  attained_at_the_witness = s.verified.attained;
}

-- where no query was spent, what was asked for was made
as_asked : (task : Task) (aim : Constraint) (exact begin : NetValue) (s : Shrinking) → s.spent ≡ None → IsTaskDone task aim exact begin s → IsAsAsked task aim exact begin s.net
as_asked Certify aim exact begin s none certified = ap (λ (t : Shrinking). t.net) certified
as_asked Refine aim exact begin s none search = end_reached aim exact begin s.net s.pool s.spent none search.outcome

-- an input whose error exceeds the bound contradicts that the bound is kept
not_over : {metric : Metric} {exact begin : NetValue} {bound : ℕ} (x : List Bool) → IsOver metric exact begin bound x → IsWithin metric exact bound begin → ⊥
not_over x over within = absurd (omega (arith, over.exceeds, within x over.width))

module _ (task : Task) (aim : Constraint) (names : TaskNames) (call : Call) (q : SpentQueries) where
  module _ (files_named : IsTrue (are_file_words names.input names.stem)) where
    certifies : (a b : Held) (d : TaskDone task aim names q.spent call) → q.spent ≡ None → call.old.held ≡ Some a → call.new.held ≡ Some b
        → IsCertifiedAs (request_of task aim d.exact d.begin) names.input names.stem b
    certifies a b d none told tells =
        let w = d.written in
        let certified : CertifiesWith (claim_of aim Allowed) d.exact (texts_of b names.stem) = w.certificate Allowed (λ no. absurd (cc no)) a b told tells in
        let reads : IsNetlist (texts_of b names.stem) w.result.net = w.netlist a b told tells in
        let joined = joined_task_law task aim names q.spent call files_named d a b told tells in
        record {
          certificate = certified;
          confirmed = joined.0;
          approx = w.result.net;
          netlist = reads;
          the_same_ports = same_ports (texts_of b names.stem) w.result.net certified reads;
          as_asked = as_asked task aim d.exact d.begin (shrinking_of w.result) (sym w.is_spent ∙ none) w.right.search;
          checked = joined.1;
        }

    -- the nets that were read are those of the files
    module _ (a b : Held) (told : call.old.held ≡ Some a) (tells : call.new.held ≡ Some b) (exact begin : NetValue) (reads : IsReadAs (bytes_of a names.input) exact)
        (begins : IsReadAs (bytes_of a names.second) begin) where
      of_both : (P : NetValue → NetValue → Type 0) (N S : NetValue) → AreRead names.input names.second call N S → P N S → P exact begin
      of_both P N S read holds =
          let same : N ≡ exact = one_net (bytes_of a names.input) N exact (read.input_read.told a b told tells) reads in
          let same_begin : S ≡ begin = one_net (bytes_of a names.second) S begin (read.second_read.told a b told tells) begins in
          subst (λ M. P exact M) same_begin (subst (λ M. P M S) same holds)

      settled : (status : Status) → TaskAnswerAt task aim names call q status → status ≢ ReadFault → status ≢ WriteFault → status ≢ NoMemory → q.spent ≡ None → q.level ≡ None
          → HasSamePorts exact begin → IsWithin aim.metric exact aim.bound begin → (status ≡ Done) × IsCertifiedAs (request_of task aim exact begin) names.input names.stem b
      settled Done answer read written memory none no_level ports within =
          (refl, of_both (λ N S. IsCertifiedAs (request_of task aim N S) names.input names.stem b) answer.0.exact answer.0.begin answer.0.read (certifies a b answer.0 none told tells))
      settled Budget answer read written memory none no_level ports within = let bad : ◌≡◌ {A = Option SpentValue} (Some answer.0) None = sym answer.1 ∙ no_level in cc
      settled (Text reason) answer read written memory none no_level ports within =
          let bad : ◌≡◌ {A = Result NetValue Refusal} (Err answer.0.0) (Ok exact) = sym (answer.0.2.refused.told a b told tells) ∙ reads in cc
      settled (Second reason) answer read written memory none no_level ports within =
          let bad : ◌≡◌ {A = Result NetValue Refusal} (Err answer.0.0) (Ok begin) = sym (answer.0.2.refused.told a b told tells) ∙ begins in cc
      settled Ports answer read written memory none no_level ports within =
          absurd (of_both (λ N S. ¬ HasSamePorts N S) answer.0.exact answer.0.begin answer.0.read answer.0.holds ports)
      settled (Over x) answer read written memory none no_level ports within =
          absurd (not_over x (of_both (λ N S. IsOver aim.metric N S aim.bound x) answer.0.exact answer.0.begin answer.0.read answer.0.holds.over) within)
      settled NoMemory answer read written memory none no_level ports within = absurd (memory refl)
      settled ReadFault answer read written memory none no_level ports within = absurd (read refl)
      settled WriteFault answer read written memory none no_level ports within = absurd (written refl)
      settled _ answer read written memory none no_level ports within = absurd answer

  -- ---- what a spent query is

  abbrev SpentIn : SpentValue → Type 0
  SpentIn level = (exact : NetValue) × (begin : NetValue) × AreRead names.input names.second call exact begin × AreSpentOnSecond (request_of task aim exact begin) level

  no_level_told : (level : SpentValue) → q.level ≡ None → q.level ≡ Some level → ⊥
  no_level_told level none is = let bad : ◌≡◌ {A = Option SpentValue} None (Some level) = sym none ∙ is in cc

  -- where the bundle was written, the query is that of the search along the chain
  spent_where_written : (level : SpentValue) (d : TaskDone task aim names q.spent call) → q.spent ≡ Some level → AreSpentOnSecond (request_of task aim d.exact d.begin) level
  spent_where_written level d is = of_task aim d.exact d.begin task (shrinking_of d.written.result) level d.written.right.search (sym d.written.is_spent ∙ is)

  spent_in_done : (level : SpentValue) → TaskDone task aim names q.spent call → q.level ≡ None → (q.spent ≡ Some level) ⊎ (q.level ≡ Some level) → SpentIn level
  spent_in_done level d none (inl is) = (d.exact, d.begin, d.read, spent_where_written level d is)
  spent_in_done level d none (inr is) = absurd (no_level_told level none is)

  spent_in_budget : (level s : SpentValue) → q.level ≡ Some s → AreBothRead names.input names.second call (λ exact begin. IsTaskSpent (request_of task aim exact begin) q.spent s)
      → (q.spent ≡ Some level) ⊎ (q.level ≡ Some level) → SpentIn level
  spent_in_budget level s at b is =
      (b.exact, b.begin, b.read, of_task_spent aim b.exact b.begin task q.spent s level b.holds (same_query q.spent q.level s level at is))

  spent_in : (status : Status) (level : SpentValue) → TaskAnswerAt task aim names call q status → (q.spent ≡ Some level) ⊎ (q.level ≡ Some level) → SpentIn level
  spent_in Done level answer is = spent_in_done level answer.0 answer.1 is
  spent_in Budget level answer is = spent_in_budget level answer.0 answer.1 answer.2 is
  spent_in (Text reason) level answer is = absurd (none_is level q answer.1 is)
  spent_in (Second reason) level answer is = absurd (none_is level q answer.1 is)
  spent_in Ports level answer is = absurd (none_is level q answer.1 is)
  spent_in (Over x) level answer is = absurd (none_is level q answer.1 is)
  spent_in NoMemory level answer is = absurd (none_is level q answer.1 is)
  spent_in ReadFault level answer is = absurd (none_is level q answer.1 is)
  spent_in WriteFault level answer is = absurd (none_is level q answer.1 is)
  spent_in _ level answer is = absurd answer

pub second_headline-from : (words : List Bytes) (call : Call) (o : Outcome) → RunSays words call o → SecondHeadline words (answered_by o) call
second_headline-from words call o says_all = record {
  when_confirm_verifies = λ metric bound input stem named verified.
      let answer = says_all.answer (confirm metric bound input stem) named in
      let v = verified_end o.status answer.0 answer.1 verified in
      λ a b told tells. (v.exact, v.read.told a b told tells, keeps (v.shows a b told tells));
  unless_conflicts_were_spent = λ task aim names named quiet memory none no_level.
      let answer = says_all.answer (against task aim names) named in
      let well = quiet_task_ends task aim names call (told_queries o) o.status answer quiet in
      let files_named : IsTrue (are_file_words names.input names.stem) =
      (and_parts (are_file_words names.input names.stem) (are_file_words names.second names.stem) (file_words_law.tasks words task aim names named)).0 in
      λ a b told tells exact begin reads begins ports within.
      settled task aim names call (told_queries o) files_named a b told tells exact begin reads begins o.status answer well.read well.written memory none no_level ports within;
  the_conflicts_that_were_spent = λ task aim names named level is.
      spent_in task aim names call (told_queries o) o.status level (says_all.answer (against task aim names) named) is;
}
