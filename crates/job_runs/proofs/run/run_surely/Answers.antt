use Rattle.std.proofs.Common.{◌≡◌, ◌≢◌, inl, inr, true, false, List, Option, Some, None, refl, sym, ap, ◌∙◌, subst, arith}
use Rattle.semantics.specs.Texts.{Bytes}
use Rattle.outside_semantics.specs.Outside.{Rose}
use Rattle.job_semantics.specs.Call.{Call}
use Rattle.job_semantics.specs.Job.{Job, synth, against, check, confirm, demo, flat, aag, blif, trim, job_of}
use Rattle.job_semantics.specs.Synthesis.{Request, simplifying, BundleCutShort}
use Rattle.job_semantics.specs.Demo.{demo_net}
use Rattle.job_semantics.specs.Demonstration.{demo_stem}
use Rattle.file_core.specs.Sure.{SureValue, sure_told, held_where, sure_sink_told}
use Rattle.job_answers.specs.declared.status.Status.{Status}
use Rattle.job_answers.specs.declared.status.Status.TheVariants.{Usage, ReadFault, WriteFault}
use Rattle.job_runs.specs.declared.outcome.Outcome.{Outcome}
use Rattle.synth_jobs.specs.Calls.{told_call}
use Rattle.synth_jobs.specs.Demo.{demo_aim}
use Rattle.job_runs.specs.Outcome.{SpentQueries, told_queries}
use Rattle.job_runs.specs.Run.{BundleAnswerAt, JobAnswer, RunSays, IsQuietJob, EndsAsAsked}
use Rattle.job_runs.proofs.Runs.{quiet_job_ends}
use Rattle.job_runs.proofs.run.run_surely.Goals as goal

abbrev surely : SureValue → SureValue → Call
surely old new = told_call (sure_told old) (sure_told new) sure_sink_told sure_sink_told

-- every name is steady, and the count stays 0
module _ (old new : SureValue) where
  no_rise : ¬ Rose sure_sink_told.faults sure_sink_told.faults
  no_rise rose = absurd (omega (arith, rose))

  quiet : (job : Job) → IsQuietJob job (surely old new)
  quiet (synth aim input stem) = record { files = inr (record { read = refl; written = λ accepted. refl }); sink = no_rise }
  quiet (against task aim names) = record { files = inr (record { read = refl; second_read = λ accepted. refl; written = λ accepted begun. refl }); sink = no_rise }
  quiet (check metric bound input stem) = record { files = inr (record { read = refl; bundle = λ ending needed. refl }); sink = no_rise }
  quiet (confirm metric bound input stem) = record { files = inr (record { read = refl; bundle = λ ending needed. refl }); sink = no_rise }
  quiet (demo width bound conflicts) = record { files = inr refl; sink = no_rise }
  quiet (flat input output) = record { files = inr (record { read = refl; written = λ accepted. refl }); sink = no_rise }
  quiet (aag input output) = record { files = inr (record { read = refl; written = λ accepted. refl }); sink = no_rise }
  quiet (blif input output) = record { files = inr (record { read = refl; written = λ accepted. refl }); sink = no_rise }
  quiet (trim metric bound input stem output) = record {
    files = inr (record { read = record { read = refl; bundle = λ ending needed. refl }; written = λ certified. refl });
    sink = no_rise;
  }

  well : (job : Job) (o : Outcome) → JobAnswer job (surely old new) o → EndsAsAsked job (sure_told old) o
  well job o answer = quiet_job_ends job (surely old new) o answer (quiet job)

  cut_short : (r : Request) (stem : Bytes) → BundleCutShort r stem (surely old new) → ⊥
  cut_short r stem fault =
      elim fault.left [
        | inl files ↦ let steady : true ≡ false = files.0.not_steady in cc
        | inr all ↦ absurd (omega (arith, all.1.rose))
      ]

  module _ (r : Request) (q : SpentQueries) (status : Status) (answer : BundleAnswerAt r demo_stem (surely old new) q status) where
    no_demo_write_fault : status ≢ WriteFault
    no_demo_write_fault is = cut_short r demo_stem (subst (BundleAnswerAt r demo_stem (surely old new) q) is answer).0

    no_demo_read_fault : status ≢ ReadFault
    no_demo_read_fault is = subst (BundleAnswerAt r demo_stem (surely old new) q) is answer

  -- no job has a fault
  no_fault : (words : List Bytes) (o : Outcome) → RunSays words (surely old new) o → (o.status ≢ ReadFault) × (o.status ≢ WriteFault)
  no_fault words o says = of_job (job_of words) refl
    where
      of_job : (named : Option Job) → job_of words ≡ named → (o.status ≢ ReadFault) × (o.status ≢ WriteFault)
      of_job None is = (
        (λ fault. let bad : Usage ≡ ReadFault = sym (says.usage.1 is) ∙ fault in cc),
        (λ fault. let bad : Usage ≡ WriteFault = sym (says.usage.1 is) ∙ fault in cc),
      )
      of_job (Some (demo width bound conflicts)) is =
          let answer = says.answer (demo width bound conflicts) is in (
            no_demo_read_fault (simplifying (demo_aim bound conflicts) (demo_net width)) (told_queries o) o.status answer,
            no_demo_write_fault (simplifying (demo_aim bound conflicts) (demo_net width)) (told_queries o) o.status answer,
          )
      of_job (Some (synth aim input stem)) is =
          let ends = well (synth aim input stem) o (says.answer (synth aim input stem) is) in (ends.read, ends.written)
      of_job (Some (against task aim names)) is =
          let ends = well (against task aim names) o (says.answer (against task aim names) is) in (ends.read, ends.written)
      of_job (Some (check metric bound input stem)) is =
          let ends = well (check metric bound input stem) o (says.answer (check metric bound input stem) is) in (ends.read, ends.written)
      of_job (Some (confirm metric bound input stem)) is =
          let ends = well (confirm metric bound input stem) o (says.answer (confirm metric bound input stem) is) in (ends.read, ends.written)
      of_job (Some (flat input output)) is = let ends = well (flat input output) o (says.answer (flat input output) is) in (ends.read, ends.written)
      of_job (Some (aag input output)) is = let ends = well (aag input output) o (says.answer (aag input output) is) in (ends.read, ends.written)
      of_job (Some (blif input output)) is = let ends = well (blif input output) o (says.answer (blif input output) is) in (ends.read, ends.written)
      of_job (Some (trim metric bound input stem output)) is =
          let ends = well (trim metric bound input stem output) o (says.answer (trim metric bound input stem output) is) in (ends.read, ends.written)

pub returns-clause-read : goal.returns-clause-read
returns-clause-read g c = (no_fault c.args.files.now c.run_followed.new.files c.args.words.now c.run_followed.result c.run_followed.ensures.says).0

pub returns-clause-write : goal.returns-clause-write
returns-clause-write g c = (no_fault c.args.files.now c.run_followed.new.files c.args.words.now c.run_followed.result c.run_followed.ensures.says).1

pub returns-clause-complete : goal.returns-clause-complete
returns-clause-complete g c = λ job named. c.run_followed.ensures.complete job named (quiet c.args.files.now c.run_followed.new.files job)

pub returns-clause-answers : goal.returns-clause-answers
returns-clause-answers g c =
    λ aim input stem named told held.
    (c.run_followed.ensures.complete (synth aim input stem) named (quiet c.args.files.now c.run_followed.new.files (synth aim input stem))).answers
    c.args.files.now.given (ap (λ t. held_where t c.args.files.now.given) told) held

pub returns-clause-check_answers : goal.returns-clause-check_answers
returns-clause-check_answers g c =
    λ metric bound input stem named told held.
    (c.run_followed.ensures.complete (check metric bound input stem) named (quiet c.args.files.now c.run_followed.new.files (check metric bound input stem))).answers
    c.args.files.now.given (ap (λ t. held_where t c.args.files.now.given) told) held

pub returns-clause-demo_answers : goal.returns-clause-demo_answers
returns-clause-demo_answers g c =
    λ width bound conflicts named.
    c.run_followed.ensures.complete (demo width bound conflicts) named (quiet c.args.files.now c.run_followed.new.files (demo width bound conflicts))
