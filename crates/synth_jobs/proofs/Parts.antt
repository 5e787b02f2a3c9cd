-- What is ready before the first file is touched, from its parts.
use Rattle.std.proofs.Common.{◌≡◌, ◌^◌, ◌<◌, ◌≤◌, ℕ, Option, Some, None, is_none, MatchOption, List, [], ◌∷◌, refl, sym, subst, arith}
use Rattle.std.specs.Prelude.{Bool, IsTrue, length}
use Rattle.std.specs.List.{AllByRecursion}
use Rattle.semantics.specs.declared.limits.TheConstants.{LARGEST_ERROR}
use Rattle.semantics.specs.Net.{NetValue, input_count, table_count, literal_count, IsSound, IsSmall, HasSamePorts}
use Rattle.semantics.specs.Error.{IsWithin, IsCandidate}
use Rattle.semantics.specs.declared.metric.Metric.{Metric}
use Rattle.chain_semantics.specs.declared.moves.Move.{Move}
use Rattle.chain_semantics.specs.Moves.{moves_of}
use Rattle.chain_semantics.specs.Minimality.{AreBrokenBySome}
use Rattle.chain_semantics.specs.Simplification.{IsBeginning}
use Rattle.chain_semantics.proofs.MoveLists.{Contains-later}
use Rattle.chain_semantics.proofs.Simplifications.{simplified_from, simplified_from-small}
use Rattle.proof_semantics.specs.Miter.{miter}
use Rattle.proof_semantics.specs.Formula.{Formula}
use Rattle.proof_semantics.specs.declared.constraint.Constraint.{Constraint}
use Rattle.proof_semantics.specs.Queries.{SpentValue, IsMaximum}
use Rattle.proof_semantics.proofs.Refutations.{refutes_sound}
use Rattle.job_semantics.specs.declared.version.Version.TheVariants.{Two}
use Rattle.job_semantics.specs.Bundle.{BundleValue, bundle_text}
use Rattle.job_semantics.specs.declared.growth.Growth.{Growth}
use Rattle.job_semantics.specs.declared.growth.Growth.TheVariants.{Allowed}
use Rattle.job_semantics.specs.declared.task.Task.{Task}
use Rattle.job_semantics.specs.declared.task.Task.TheVariants.{Certify, Refine}
use Rattle.job_semantics.specs.Certificate.{IsNetlist, OfReport, IsOfAllowedSize, CertifiesWith}
use Rattle.job_semantics.specs.CertificateLaws.{IsRightBundle}
use Rattle.job_semantics.proofs.Certificates.{net_read, written_version, written_certifies}
use Rattle.job_semantics.proofs.SmallNets.{literals_at_most}
use Rattle.job_semantics.specs.Shrinking.{Shrinking, IsSpentMove, IsShownEnd}
use Rattle.job_semantics.specs.Synthesis.{Request, Simplified, claim_of, shrinking_of, IsTaskDone, IsSimplifiedFrom, IsRefutedBy, is_shown_minimal, synth_bundle}
use Rattle.level_answers.specs.declared.query.Spent as spent
use Rattle.bundle_writing.specs.Value.{FitsReport}
use Rattle.synth_jobs.specs.Spent.{told_query}
use Rattle.synth_jobs.specs.declared.preparing.Findings.{Findings}
use Rattle.synth_jobs.specs.declared.preparing.Prepared.{Prepared}
use Rattle.synth_jobs.specs.declared.preparing.Prepared.TheVariants.{Ready}
use Rattle.synth_jobs.specs.Prepared.{IsReady, AreFound, IsPrepared, bundle_of, found_maximum}

-- one vector more breaks no fewer moves
minimal-with : (metric : Metric) (exact : NetValue) (bound : ℕ) (N : NetValue) (x : List Bool) (vectors : List (List Bool)) (moves : List Move)
    → AreBrokenBySome metric exact bound N vectors moves → AreBrokenBySome metric exact bound N (x ∷ vectors) moves
minimal-with metric exact bound N x vectors [] broken = tt
minimal-with metric exact bound N x vectors (m ∷ moves) broken =
    ((broken.0.0, Contains-later x vectors broken.0.0 broken.0.1, broken.0.2), minimal-with metric exact bound N x vectors moves broken.1)

-- where no query was spent, the net is shown to be the end
shown_end : (aim : Constraint) (exact begin N : NetValue) (pool : List (List Bool)) (spent : Option SpentValue) → IsTrue (is_none spent)
    → MatchOption spent (IsShownEnd aim exact begin N pool) (IsSpentMove aim exact N pool) → IsShownEnd aim exact begin N pool
shown_end aim exact begin N pool None none h = h
shown_end aim exact begin N pool (Some q) none h = cc

-- what each task keeps: the net has the exact one's ports and keeps the bound, is small with the beginning and no larger, its vectors are of the inputs'
-- width, and where it is said to be the end, each move is broken by a vector
pub record IsKept (task : Task) (aim : Constraint) (exact begin : NetValue) (s : Shrinking) : Type 0 where
  pub ports : HasSamePorts exact s.net
  pub within : IsWithin aim.metric exact aim.bound s.net
  pub small : IsSmall begin → IsSmall s.net
  pub tables : table_count s.net ≤ table_count begin
  pub literals : literal_count s.net ≤ literal_count begin
  pub widths : AllByRecursion (λ x. length x ≡ input_count exact) s.pool
  pub minimal : IsTrue (is_shown_minimal task s.spent) → AreBrokenBySome aim.metric exact aim.bound s.net s.pool (moves_of s.net)

-- the beginning itself, without a vector
kept_itself : (aim : Constraint) (exact begin : NetValue) → IsBeginning aim.metric exact aim.bound begin
    → IsKept Certify aim exact begin (record { net = begin; pool = []; spent = None })
kept_itself aim exact begin is = record {
  ports = is.ports;
  within = is.within;
  small = λ small. small;
  tables = omega arith;
  literals = omega arith;
  widths = tt;
  minimal = λ no. cc;
}

pub kept : (task : Task) (aim : Constraint) (exact begin : NetValue) (s : Shrinking) → IsBeginning aim.metric exact aim.bound begin → IsTaskDone task aim exact begin s
    → IsKept task aim exact begin s
kept Certify aim exact begin s is done = subst (IsKept Certify aim exact begin) (sym done) (kept_itself aim exact begin is)
kept Refine aim exact begin s is done =
    let member = simplified_from aim.metric exact aim.bound begin is s.net done.member in
    record {
      ports = member.ports;
      within = member.within;
      small = λ small. simplified_from-small aim.metric exact aim.bound begin is s.net small done.member;
      tables = member.no_growth.tables;
      literals = member.no_growth.literals;
      widths = done.widths;
      minimal = λ none. (shown_end aim exact begin s.net s.pool s.spent none done.outcome).minimal;
    }

-- what the parts of a bundle are
record AreParts (r : Request) (s : Simplified) (goal : Formula) : Type 0 where
  pub exact_sound : IsSound r.exact
  pub exact_small : IsSmall r.exact
  pub begin_small : IsSmall r.begin
  pub beginning : IsBeginning r.aim.metric r.exact r.aim.bound r.begin
  pub approx_sound : IsSound s.net
  pub search : IsTaskDone r.task r.aim r.exact r.begin (shrinking_of s)
  pub most : IsMaximum r.aim.metric r.exact s.net s.maximum
  pub few_bits : r.aim.bound ≤ LARGEST_ERROR
  pub goal_is : goal ≡ miter r.exact s.net r.aim.metric s.maximum.error
  pub variables : goal.variables < 2 ^ 31

module _ {r : Request} {s : Simplified} {goal : Formula} (parts : AreParts r s goal) where
  keeps : IsKept r.task r.aim r.exact r.begin (shrinking_of s)
  keeps = kept r.task r.aim r.exact r.begin (shrinking_of s) parts.beginning parts.search

  within : s.maximum.error ≤ r.aim.bound
  within = subst (λ k. k ≤ r.aim.bound) parts.most.attained (keeps.within s.maximum.witness parts.most.width)

  approx_small : IsSmall s.net
  approx_small = keeps.small parts.begin_small

  right : IsSimplifiedFrom r s
  right = record { search = parts.search; most = parts.most; within = within; tables = keeps.tables; literals = keeps.literals }

  refuted : IsRefutedBy (miter r.exact s.net r.aim.metric s.maximum.error) s.maximum.log
  refuted = record {
    refutes = parts.most.never.refutes;
    derivation = parts.most.never.derivation;
    unsatisfiable = refutes_sound (miter r.exact s.net r.aim.metric s.maximum.error).clauses s.maximum.log parts.most.never.refutes;
  }

  right_bundle : (growth : Growth) → IsOfAllowedSize growth r.exact s.net → IsRightBundle growth (synth_bundle r s)
  right_bundle growth size = record {
    exact_sound = parts.exact_sound;
    exact_small = parts.exact_small;
    approx_sound = parts.approx_sound;
    approx_small = approx_small;
    ports = keeps.ports;
    bound = omega (arith, parts.few_bits);
    within = within;
    width = parts.most.width;
    attained = parts.most.attained;
    pool = keeps.widths;
    goal = refl;
    variables = subst (λ f. f.variables < 2 ^ 31) parts.goal_is parts.variables;
    refutes = parts.most.never.refutes;
    derivation = parts.most.never.derivation;
    size = size;
    minimal = λ none. minimal-with r.aim.metric r.exact r.aim.bound s.net s.maximum.witness s.pool (moves_of s.net) (keeps.minimal none);
  }

  -- where growth is allowed, every size is
  bundle_allowed : IsRightBundle Allowed (synth_bundle r s)
  bundle_allowed = right_bundle Allowed (λ refused. cc)

  fits : FitsReport r.exact s.net s.maximum.witness
  fits = record {
    few_bits = omega (arith, parts.most.width, parts.exact_small.inputs);
    few_exact = omega (arith, literals_at_most r.exact parts.exact_small parts.exact_sound.tables_formed);
    few_approx = omega (arith, literals_at_most s.net approx_small parts.approx_sound.tables_formed);
  }

  ready : (b : BundleValue) (spent : Option spent.Spent) → told_query spent ≡ s.spent → b ≡ synth_bundle r s → IsReady r b spent
  ready b spent is_spent is = record {
    result = s;
    right = right;
    is_spent = is_spent;
    refuted = refuted;
    is = is;
    netlist = subst (λ v. IsNetlist (bundle_text v) s.net) (sym is) (net_read Allowed (synth_bundle r s) bundle_allowed);
    certificate = λ growth size.
        subst (λ v. CertifiesWith (claim_of r.aim growth) r.exact (bundle_text v)) (sym is) (written_certifies growth (synth_bundle r s) (right_bundle growth size));
    version =
        subst (λ v. OfReport r.aim.metric r.aim.bound r.exact (bundle_text v) (λ told. told.version ≡ Two)) (sym is) (written_version Allowed (synth_bundle r s) bundle_allowed);
  }

-- what was found, as the parts of a bundle
abbrev simplified_found : Findings → Simplified
simplified_found found = record {
  net = found.shrunk.net;
  pool = found.shrunk.pool.vectors;
  spent = told_query found.shrunk.spent;
  maximum = found_maximum found;
}

-- the bundle of what was found, whose formula is the miter
module _ (r : Request) (found : Findings) (goal : Formula) where
  bundle_of-is : goal ≡ miter r.exact found.shrunk.net r.aim.metric found.maximum → bundle_of r.task r.aim r.exact found goal ≡ synth_bundle r (simplified_found found)
  bundle_of-is is = λ i. record {
    version = Two;
    exact = r.exact;
    approx = found.shrunk.net;
    metric = r.aim.metric;
    bound = r.aim.bound;
    maximum = found.maximum;
    witness = found.witness;
    pool = found.shrunk.pool.vectors;
    minimal = is_shown_minimal r.task (told_query found.shrunk.spent);
    goal = is i;
    log = found.log;
  }

  module _ (sound : IsSound r.exact) (small : IsSmall r.exact) (begin_small : IsSmall r.begin) (beginning : IsBeginning r.aim.metric r.exact r.aim.bound r.begin)
      (approx_sound : IsSound found.shrunk.net) (few_bits : r.aim.bound ≤ LARGEST_ERROR) (are : AreFound r found)
      (is : goal ≡ miter r.exact found.shrunk.net r.aim.metric found.maximum) (variables : goal.variables < 2 ^ 31) where
    parts_found : AreParts r (simplified_found found) goal
    parts_found = record {
      exact_sound = sound;
      exact_small = small;
      begin_small = begin_small;
      beginning = beginning;
      approx_sound = approx_sound;
      search = are.search;
      most = are.most;
      few_bits = few_bits;
      goal_is = is;
      variables = variables;
    }

    pub gathered-fits : FitsReport r.exact found.shrunk.net found.witness
    gathered-fits = fits parts_found

    gathered-ready : IsReady r (bundle_of r.task r.aim r.exact found goal) found.shrunk.spent
    gathered-ready = ready parts_found (bundle_of r.task r.aim r.exact found goal) found.shrunk.spent refl (bundle_of-is is)

    pub gathered-prepared : (made : Prepared) → made ≡ Ready (bundle_of r.task r.aim r.exact found goal) found.shrunk.spent → IsPrepared r made
    gathered-prepared made is_ready = subst (IsPrepared r) (sym is_ready) gathered-ready

-- a net that a task makes of the beginning can be compared with the exact one
pub kept-candidate : (task : Task) (aim : Constraint) (exact begin : NetValue) (s : Shrinking) → IsSmall exact → IsBeginning aim.metric exact aim.bound begin
    → IsTaskDone task aim exact begin s → IsCandidate exact s.net
kept-candidate task aim exact begin s small is done = record { ports = (kept task aim exact begin s is done).ports; few_outputs = small.outputs }
