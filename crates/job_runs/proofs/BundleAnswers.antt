-- What a task on nets that were read or generated comes to, by the work on them; and that a quiet call has no
-- fault.
use Rattle.std.proofs.Common.{◌≡◌, ◌⊎◌, false, Bool, List, [], Option, Some, None, MatchOption, inl, inr, refl, ap, sym, subst, ◌∙◌}
use Rattle.std.specs.Prelude.{IsTrue}
use Rattle.semantics.specs.Texts.{Bytes}
use Rattle.semantics.specs.Net.{NetValue, input_count}
use Rattle.outside_semantics.specs.Outside.{FilesTold, SinkTold, Goes, Rose}
use Rattle.outside_semantics.specs.WrittenFiles.{FilesWritten}
use Rattle.file_core.proofs.Told.{held_before}
use Rattle.proof_semantics.specs.declared.constraint.Constraint.{Constraint}
use Rattle.proof_semantics.specs.Conflicts.{IsEnough}
use Rattle.proof_semantics.specs.Queries.{SpentValue}
use Rattle.job_semantics.specs.Endings.{are_bundle_names_steady}
use Rattle.job_semantics.specs.declared.task.Task.{Task}
use Rattle.job_semantics.specs.declared.task.Task.TheVariants.{Certify, Refine}
use Rattle.job_semantics.specs.declared.version.Version.TheVariants.{Two}
use Rattle.job_semantics.specs.Certificate.{Texts, OfBundle, OfReport, IsNetlist, CertifiesWith}
use Rattle.job_semantics.specs.Shrinking.{Shrinking, IsShownEnd, IsSpentMove}
use Rattle.job_semantics.specs.Synthesis.{Request, claim_of, shrinking_of, IsTaskDone, BundleWritten, BundleCutShort}
use Rattle.job_semantics.specs.Call.{Call}
use Rattle.job_semantics.specs.Demonstration.{demo_stem, IsQuietDemo}
use Rattle.bundle_writing.proofs.FilesInOrder.{FilesWritten-then, FilesCutShort-after}
use Rattle.level_answers.specs.Exceeds.{spent_value}
use Rattle.synth_jobs.specs.declared.work.Work.{Work}
use Rattle.synth_jobs.specs.declared.work.Work.TheVariants as work
use Rattle.synth_jobs.specs.Work.{WorkSays}
use Rattle.job_answers.specs.declared.status.Status.{Status}
use Rattle.job_answers.specs.declared.status.Status.TheVariants.{Done, NoMemory, Budget, WriteFault}
use Rattle.job_runs.specs.declared.outcome.Outcome.{Outcome}
use Rattle.synth_jobs.specs.Calls.{told_call}
use Rattle.job_runs.specs.Outcome.{SpentQueries, outcome_of}
use Rattle.job_runs.specs.Run.{BundleAnswerAt, BundleAnswer, IsWorkOf}

-- what the work on two nets says is what its answer says
module _ (r : Request) (stem : Bytes) (call : Call) where
  answer_of : (w : Work) → WorkSays r stem call w → BundleAnswer r stem call (outcome_of w)
  answer_of (work.Done spent) written = (written, refl)
  answer_of (work.Budget level spent) budget = (budget.0, (spent_value level, refl, budget.1))
  answer_of work.NoMemory same = (same, (refl, refl))
  answer_of work.WriteFault cut = (cut, (refl, refl))

  BundleAnswer-told : (o : Outcome) (w : Work) → o ≡ outcome_of w → WorkSays r stem call w → BundleAnswer r stem call o
  BundleAnswer-told o w is work_says = subst (BundleAnswer r stem call) (sym is) (answer_of w work_says)

-- so it is where the names are those of the stem
pub BundleAnswer-told_at : (r : Request) (stem : Bytes) {names : Bytes} (call : Call) (o : Outcome) (w : Work) → names ≡ stem → o ≡ outcome_of w → WorkSays r names call w
    → BundleAnswer r stem call o
BundleAnswer-told_at r stem {names} call o w same is work_says = subst (λ s. BundleAnswer r s call o) same (BundleAnswer-told r names call o w is work_says)

-- ---- a bundle that was written after netlists were read

-- what is said of the bundle's texts from the readings on is said of them in the whole call
since : (stem : Bytes) (old mid new : FilesTold) (P : Texts → Type 0) → Goes mid new → OfBundle mid new stem P → OfBundle old new stem P
since stem old mid new P goes h = λ a b told tells. let m = held_before mid new goes b tells in h m.0 b m.1 tells

module _ {r : Request} {stem : Bytes} {old mid new : FilesTold} {said says : SinkTold} where
  pub written_since : {spent : Option SpentValue} → FilesWritten old mid [] → BundleWritten r stem spent (told_call mid new said says) → BundleWritten r stem spent (told_call old new said says)
  written_since none w = record {
    result = w.result;
    right = w.right;
    is_spent = w.is_spent;
    refuted = w.refuted;
    files = FilesWritten-then none w.files;
    report = w.report;
    netlist = since stem old mid new (λ texts. IsNetlist texts w.result.net) w.files.goes w.netlist;
    certificate = λ growth size. since stem old mid new (CertifiesWith (claim_of r.aim growth) r.exact) w.files.goes (w.certificate growth size);
    version = since stem old mid new (λ texts. OfReport r.aim.metric r.aim.bound r.exact texts (λ told. told.version ≡ Two)) w.files.goes w.version;
  }

  pub cut_since : FilesWritten old mid [] → BundleCutShort r stem (told_call mid new said says) → BundleCutShort r stem (told_call old new said says)
  cut_since none c = record {
    result = c.result;
    right = c.right;
    refuted = c.refuted;
    left = elim c.left [
      | inl cut ↦ inl (FilesCutShort-after none cut.0, cut.1)
      | inr put ↦ inr (FilesWritten-then none put.0, put.1)
    ];
  }

pub goes_cut : {r : Request} {stem : Bytes} {mid new : FilesTold} {said says : SinkTold} → BundleCutShort r stem (told_call mid new said says) → Goes mid new
goes_cut c = elim c.left [ inl cut ↦ cut.0.goes | inr put ↦ put.0.goes ]

-- where the conflicts are enough, no query of the chain is spent
module _ (aim : Constraint) (exact begin : NetValue) where
  none_on_the_chain : (N : NetValue) (pool : List (List Bool)) (spent : Option SpentValue) → MatchOption spent (IsShownEnd aim exact begin N pool) (IsSpentMove aim exact N pool)
      → IsEnough aim.limit (input_count exact) → spent ≡ None
  none_on_the_chain N pool None h enough = refl
  none_on_the_chain N pool (Some q) h enough = absurd (h.query.not_enough enough)

  nothing_spent : (task : Task) (s : Shrinking) → IsTaskDone task aim exact begin s → IsEnough aim.limit (input_count exact) → s.spent ≡ None
  nothing_spent Certify s is enough = ap (λ (t : Shrinking). t.spent) is
  nothing_spent Refine s search enough = none_on_the_chain s.net s.pool s.spent search.outcome enough

pub enough_spends_nothing : {r : Request} {stem : Bytes} {call : Call} {spent : Option SpentValue} → BundleWritten r stem spent call → IsEnough r.aim.limit (input_count r.exact) → spent ≡ None
enough_spends_nothing {r} written enough = written.is_spent ∙ nothing_spent r.aim r.exact r.begin r.task (shrinking_of written.result) written.right.search enough

-- a call with a fault in writing is not quiet, where the names are steady
pub not_quiet_cut : {r : Request} {stem : Bytes} {call : Call} → BundleCutShort r stem call
    → ((¬ Rose call.old.faults call.new.faults) ⊎ IsTrue (are_bundle_names_steady call.old stem)) → ¬ Rose call.said.faults call.says.faults → ⊥
not_quiet_cut {stem = stem} {call = call} fault files sink =
    elim fault.left [
      | inl cut ↦ elim files [
        | inl calm ↦ calm cut.0.rose
        | inr steady ↦ let no : are_bundle_names_steady call.old stem ≡ false = cut.0.not_steady in cc
      ]
      | inr put ↦ sink put.1.rose
    ]

-- a quiet demonstration has no fault, and spends nothing where its conflicts are enough
pub quiet_demo_ends : (r : Request) (call : Call) (q : SpentQueries) (status : Status) → BundleAnswerAt r demo_stem call q status → IsQuietDemo call
    → IsWorkOf r.aim.limit (input_count r.exact) q.spent status
quiet_demo_ends r call q Done answer quiet = enough_spends_nothing answer.0
quiet_demo_ends r call q Budget answer quiet = answer.1.2.query.query.not_enough
quiet_demo_ends r call q NoMemory answer quiet = tt
quiet_demo_ends r call q WriteFault answer quiet = absurd (not_quiet_cut answer.0 quiet.files quiet.sink)
quiet_demo_ends r call q _ answer quiet = absurd answer
