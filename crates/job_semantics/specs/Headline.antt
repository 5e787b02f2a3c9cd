-- The promise of the program as sentences about one run: the job, what was answered, and what files and sink
-- told at entry and at exit. Source: this tool's own promise.
--
-- When `check` verifies a bundle, on every input the approximate circuit's error against the original is at
-- most the stated maximum, which is within the bound and attained at the witness, and the circuit has no more
-- tables or literals; unless the stated conflicts were spent, every netlist that `synth` accepts gets a
-- bundle that verifies and admits no further single simplification.
use Rattle.std.specs.Prelude.{◌≡◌, ◌⊎◌, ℕ, ◌≤◌, Bool, Option, Some, None, List, length, Contains}
use Rattle.semantics.specs.Texts.{Bytes}
use Rattle.semantics.specs.Net.{NetValue, input_count, table_count, literal_count, HasSamePorts}
use Rattle.semantics.specs.Error.{net_error}
use Rattle.semantics.specs.declared.metric.Metric.{Metric}
use Rattle.outside_semantics.specs.Outside.{Held, WhereTold, bytes_of}
use Rattle.chain_semantics.specs.declared.moves.Move.{Move}
use Rattle.chain_semantics.specs.Moves.{moves_of, moved}
use Rattle.chain_semantics.specs.Simplification.{IsInSimplification, IsSimplificationEnd}
use Rattle.proof_semantics.specs.Queries.{SpentValue, IsSpentQuery}
use Rattle.job_semantics.specs.Job.{synth, check, job_of}
use Rattle.job_semantics.specs.Input.{IsReadAs}
use Rattle.job_semantics.specs.Report.{Report}
use Rattle.job_semantics.specs.Certificate.{Texts, texts_of, IsNetlist, IsReport, Certifies}
use Rattle.job_semantics.specs.Synthesis.{OfInput, IsQuietSynth}
use Rattle.job_semantics.specs.Checking.{Verifies}
use Rattle.proof_semantics.specs.declared.constraint.Constraint.{Constraint}
use Rattle.job_semantics.specs.Call.{Call}

-- The texts name one circuit, which has the original's inputs and outputs by their names, and state one
-- maximum with a witness; on every input the circuit's error is at most that maximum.
pub record KeepsItsPromise (metric : Metric) (bound : ℕ) (exact : NetValue) (texts : Texts) : Type 0 where
  pub approx : NetValue
  pub report : Report
  pub netlist : IsNetlist texts approx
  pub reported : IsReport metric bound exact texts report
  pub the_same_ports : HasSamePorts exact approx
  pub on_every_input : (x : List Bool) → length x ≡ input_count exact
      → net_error metric exact approx x ≤ report.maximum
  pub within_the_bound : report.maximum ≤ bound
  pub attained_at_the_witness : net_error metric exact approx report.witness ≡ report.maximum
  pub no_more_tables : table_count approx ≤ table_count exact
  pub no_more_literals : literal_count approx ≤ literal_count exact

-- The files hold a bundle that verifies: its texts are a certificate, and each quiet check of these files is
-- verified, where each of the five has fewer than 2^40 bytes, unless memory is wanting. Its circuit has the
-- original's inputs and outputs by their names, and is the end of the chain of simplifications: no single
-- move of it keeps the bound.
pub record AdmitsNoMore (aim : Constraint) (input stem : Bytes) (exact : NetValue)
    (held : Held) : Type 0 where
  pub certificate : Certifies aim.metric aim.bound exact (texts_of held stem)
  pub verifies : Verifies aim.metric aim.bound input stem held
  pub approx : NetValue
  pub netlist : IsNetlist (texts_of held stem) approx
  pub the_same_ports : HasSamePorts exact approx
  pub end_of_the_chain : IsSimplificationEnd aim.metric exact aim.bound approx

-- the net is a member of the chain of simplifications, or comes of a member by one move
pub record IsOfTheChain (metric : Metric) (exact : NetValue) (bound : ℕ) (N : NetValue) : Type 0 where
  pub member : NetValue
  pub in_the_chain : IsInSimplification metric exact bound member
  pub at_most_a_move : (N ≡ member) ⊎ ((m : Move) × Contains (moves_of member) m × (N ≡ moved member m))

-- The stated conflicts were spent on the question whether the error of such a net exceeds a level within the
-- bound: the log is a chain of exactly `limit` conflicts over the miter of that question, and `limit`
-- conflicts are not enough for the inputs.
pub record AreSpentOn (aim : Constraint) (exact : NetValue) (q : SpentValue) : Type 0 where
  pub level : q.k ≤ aim.bound
  pub net : IsOfTheChain aim.metric exact aim.bound q.net
  pub query : IsSpentQuery aim.metric exact aim.limit q

-- What a run answers: `Verified`, `Done` and `NoMemory` say that this was answered; `spent` and `level` are
-- the queries that were spent, on a move and on a level of the error.
pub record Answered : Type 1 where
  pub Verified : Type 0
  pub Done : Type 0
  pub NoMemory : Type 0
  pub spent : Option SpentValue
  pub level : Option SpentValue

-- The files are told at entry and at exit; memory was there, and no call on the files or the sink that the
-- job needs failed.
pub record Headline (words : List Bytes) (answered : Answered) (call : Call) : Type 0 where
  pub when_check_verifies : (metric : Metric) (bound : ℕ) (input stem : Bytes)
      → job_of words ≡ Some (check metric bound input stem) → answered.Verified
      → WhereTold call.old call.new (λ a b. (exact : NetValue) × IsReadAs (bytes_of a input) exact
      × KeepsItsPromise metric bound exact (texts_of b stem))
  pub unless_conflicts_were_spent : (aim : Constraint) (input stem : Bytes)
      → job_of words ≡ Some (synth aim input stem)
      → IsQuietSynth input stem call → ¬ answered.NoMemory → answered.spent ≡ None → answered.level ≡ None
      → WhereTold call.old call.new (λ a b. (exact : NetValue) → IsReadAs (bytes_of a input) exact
      → answered.Done × AdmitsNoMore aim input stem exact b)
  pub the_conflicts_that_were_spent : (aim : Constraint) (input stem : Bytes)
      → job_of words ≡ Some (synth aim input stem)
      → (q : SpentValue) → (answered.spent ≡ Some q) ⊎ (answered.level ≡ Some q)
      → (exact : NetValue) × OfInput call input (λ text. IsReadAs text exact) × AreSpentOn aim exact q
