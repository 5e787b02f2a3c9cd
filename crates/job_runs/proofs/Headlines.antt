-- The headline of synth and check jobs, from what each answer says.
use Rattle.std.proofs.Common.{◌≡◌, ◌≢◌, ◌⊎◌, ℕ, Bool, List, Option, Some, None, MatchOption, Result, Ok, Err, inl, inr, refl, sym, subst, ◌∙◌}
use Rattle.std.specs.Prelude.{IsTrue}
use Rattle.semantics.specs.Texts.{Bytes}
use Rattle.semantics.specs.Net.{NetValue, HasSamePorts}
use Rattle.semantics.specs.declared.metric.Metric.{Metric}
use Rattle.proof_semantics.specs.declared.constraint.Constraint.{Constraint}
use Rattle.outside_semantics.specs.Outside.{Held, bytes_of}
use Rattle.blif_semantics.specs.Reading.{Refusal}
use Rattle.chain_semantics.specs.Simplification.{IsSimplificationEndFrom}
use Rattle.proof_semantics.specs.Queries.{SpentValue}
use Rattle.job_semantics.specs.declared.claim.Claim.{Claim}
use Rattle.job_semantics.specs.Call.{Call}
use Rattle.job_semantics.specs.declared.growth.Growth.TheVariants.{Refused}
use Rattle.job_semantics.specs.Job.{synth, check, are_file_words}
use Rattle.job_semantics.specs.Input.{IsReadAs}
use Rattle.job_semantics.specs.Certificate.{Texts, texts_of, IsNetlist, CertifiesWith, Certifies, checked_claim}
use Rattle.job_semantics.specs.Checking.{ShowsItsBound}
use Rattle.job_semantics.specs.Shrinking.{IsShownEnd, IsSpentMove}
use Rattle.job_semantics.specs.Synthesis.{shrinking_of, OfInput, SynthDone}
use Rattle.job_semantics.specs.Headline.{KeepsItsPromise, AdmitsNoMore, AreSpentOn, Headline}
use Rattle.job_semantics.proofs.Certificates.{verified_law}
use Rattle.job_semantics.proofs.FileWords.{file_words_law}
use Rattle.job_semantics.proofs.CheckedFiles.{one_net, joined_runs_law}
use Rattle.job_answers.specs.declared.status.Status.{Status}
use Rattle.job_answers.specs.declared.status.Status.TheVariants.{Done, Text, NoMemory, Budget, ReadFault, WriteFault}
use Rattle.job_runs.specs.declared.outcome.Outcome.{Outcome}
use Rattle.job_runs.specs.Outcome.{SpentQueries, told_queries, answered_by}
use Rattle.job_runs.specs.Run.{SynthAnswerAt, RunSays}
use Rattle.check_jobs.proofs.CheckAnswers.{verified_end}
use Rattle.job_runs.proofs.SynthAnswers.{quiet_ends}
use Rattle.job_runs.proofs.SpentQueries.{none_is, same_query, of_refined, of_maximum, on_chain}

keeps : {metric : Metric} {bound : ℕ} {exact : NetValue} {texts : Texts} → ShowsItsBound (checked_claim metric bound) exact texts → KeepsItsPromise metric bound exact texts
keeps s = record {
  approx = s.approx;
  report = s.report;
  netlist = s.netlist;
  reported = s.reported;
  the_same_ports = s.verified.ports;
  on_every_input = s.verified.safe;
  within_the_bound = s.verified.within;
  attained_at_the_witness = s.verified.attained;
  no_more_tables = (s.verified.size refl).0;
  no_more_literals = (s.verified.size refl).1;
}

-- where no query of the chain was spent, its end was reached
pub end_reached : (aim : Constraint) (exact begin N : NetValue) (pool : List (List Bool)) (spent : Option SpentValue) → spent ≡ None
    → MatchOption spent (IsShownEnd aim exact begin N pool) (IsSpentMove aim exact N pool) → IsSimplificationEndFrom aim.metric exact aim.bound begin N
end_reached aim exact begin N pool None is h = h.end
end_reached aim exact begin N pool (Some q) is h = cc

-- the net of a certificate has the original's ports
pub same_ports : {claim : Claim} {exact : NetValue} (texts : Texts) (approx : NetValue) → CertifiesWith claim exact texts → IsNetlist texts approx → HasSamePorts exact approx
same_ports {exact = exact} texts approx certified reads = subst (HasSamePorts exact) (verified_law.one_net texts certified.1.0.0 approx certified.1.0.1 reads) certified.1.0.2

module _ (aim : Constraint) (input stem : Bytes) (call : Call) (q : SpentQueries) where
  module _ (files_named : IsTrue (are_file_words input stem)) where
    admits : (a b : Held) (d : SynthDone aim input stem q.spent call) → q.spent ≡ None → call.old.held ≡ Some a → call.new.held ≡ Some b
        → AdmitsNoMore aim input stem d.exact b
    admits a b d none told tells =
        let w = d.written in
        let certified : Certifies aim.metric aim.bound d.exact (texts_of b stem) = w.certificate Refused (λ is. (w.right.tables, w.right.literals)) a b told tells in
        let reads : IsNetlist (texts_of b stem) w.result.net = w.netlist a b told tells in
        record {
          certificate = certified;
          verifies = joined_runs_law aim input stem q.spent call files_named d a b told tells;
          approx = w.result.net;
          netlist = reads;
          the_same_ports = same_ports (texts_of b stem) w.result.net certified reads;
          end_of_the_chain = end_reached aim d.exact d.exact w.result.net w.result.pool w.result.spent (sym w.is_spent ∙ none) w.right.search.outcome;
        }

    settled : (status : Status) → SynthAnswerAt aim input stem call q status → status ≢ ReadFault → status ≢ WriteFault → status ≢ NoMemory → q.spent ≡ None → q.level ≡ None
        → (a b : Held) → call.old.held ≡ Some a → call.new.held ≡ Some b → (exact : NetValue) → IsReadAs (bytes_of a input) exact
        → (status ≡ Done) × AdmitsNoMore aim input stem exact b
    settled Done answer read written memory none no_level a b told tells exact reads =
        let same : answer.0.exact ≡ exact = one_net (bytes_of a input) answer.0.exact exact (answer.0.read.told a b told tells) reads in
        (refl, subst (λ N. AdmitsNoMore aim input stem N b) same (admits a b answer.0 none told tells))
    settled Budget answer read written memory none no_level a b told tells exact reads =
        let bad : ◌≡◌ {A = Option SpentValue} (Some answer.0) None = sym answer.1 ∙ no_level in cc
    settled (Text reason) answer read written memory none no_level a b told tells exact reads =
        let bad : ◌≡◌ {A = Result NetValue Refusal} (Err answer.0.0) (Ok exact) = sym (answer.0.2.refused.told a b told tells) ∙ reads in cc
    settled NoMemory answer read written memory none no_level a b told tells exact reads = absurd (memory refl)
    settled ReadFault answer read written memory none no_level a b told tells exact reads = absurd (read refl)
    settled WriteFault answer read written memory none no_level a b told tells exact reads = absurd (written refl)
    settled _ answer read written memory none no_level a b told tells exact reads = absurd answer

  -- ---- what a spent query is

  abbrev SpentIn : SpentValue → Type 0
  SpentIn level = (exact : NetValue) × OfInput call input (λ text. IsReadAs text exact) × AreSpentOn aim exact level

  spent_in : (status : Status) (level : SpentValue) → SynthAnswerAt aim input stem call q status → (q.spent ≡ Some level) ⊎ (q.level ≡ Some level) → SpentIn level
  spent_in Done level (d, no_level) (inl is) =
      let w = d.written in
      (d.exact, d.read, on_chain aim d.exact level (of_refined aim d.exact d.exact (shrinking_of w.result) level w.right.search (sym w.is_spent ∙ is)))
  spent_in Done level (d, no_level) (inr is) = let bad : ◌≡◌ {A = Option SpentValue} None (Some level) = sym no_level ∙ is in cc
  spent_in Budget level (s, at, b) is =
      (b.exact, b.read, on_chain aim b.exact level (of_maximum aim b.exact b.exact q.spent s level b.search (same_query q.spent q.level s level at is)))
  spent_in (Text reason) level answer is = absurd (none_is level q answer.1 is)
  spent_in NoMemory level answer is = absurd (none_is level q answer.1 is)
  spent_in ReadFault level answer is = absurd (none_is level q answer.1 is)
  spent_in WriteFault level answer is = absurd (none_is level q answer.1 is)
  spent_in _ level answer is = absurd answer

pub headline-from : (words : List Bytes) (call : Call) (o : Outcome) → RunSays words call o → Headline words (answered_by o) call
headline-from words call o says_all = record {
  when_check_verifies = λ metric bound input stem named verified.
      let answer = says_all.answer (check metric bound input stem) named in
      let v = verified_end o.status answer.0 answer.1 verified in
      λ a b told tells. (v.exact, v.read.told a b told tells, keeps (v.shows a b told tells));
  unless_conflicts_were_spent = λ aim input stem named quiet memory none no_level.
      let answer = says_all.answer (synth aim input stem) named in
      let well = quiet_ends aim input stem call (told_queries o) o.status answer quiet in
      λ a b told tells exact reads.
      settled aim input stem call (told_queries o) (file_words_law.synthesis words aim input stem named) o.status answer well.read well.written memory none no_level a b told tells exact reads;
  the_conflicts_that_were_spent = λ aim input stem named level is.
      spent_in aim input stem call (told_queries o) o.status level (says_all.answer (synth aim input stem) named) is;
}
