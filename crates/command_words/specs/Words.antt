-- The job of the definitions that a command of this crate stands for.
use Rattle.std.specs.Prelude.{◌≡◌, ℕ, ◌≤◌}
use Rattle.semantics.specs.Texts.{Bytes}
use Rattle.semantics.specs.declared.limits.TheConstants.{LARGEST_ERROR}
use Rattle.semantics.specs.declared.metric.Metric.{Metric}
use Rattle.proof_semantics.specs.declared.constraint.Constraint.{Constraint}
use Rattle.job_semantics.specs.declared.growth.Growth.{Growth}
use Rattle.job_semantics.specs.declared.growth.Growth.TheVariants.{Refused, Allowed}
use Rattle.job_semantics.specs.Certificate.{checked_claim}
use Rattle.job_semantics.specs.Job as words
use Rattle.command_words.specs.Names.{names_of}
use Rattle.command_words.specs.declared.words.Command.{Command}
use Rattle.command_words.specs.declared.words.Command.TheVariants.{Synth, Against, Check, Demo}
use Rattle.command_words.specs.declared.words.Command.TheVariants.{Flat, Aag, Blif, Trim}

-- the job that refuses a net that is larger than IN's, and the job that allows it
abbrev pub check_with : Growth → Metric → ℕ → Bytes → Bytes → words.Job
check_with Refused = words.check
check_with Allowed = words.confirm

abbrev pub job_meaning : Command → words.Job
job_meaning (Synth job) = words.synth job.aim job.input.now job.stem.now
job_meaning (Against job) = words.against job.task job.aim (names_of job.names)
job_meaning (Check claim input stem) = check_with claim.growth claim.metric claim.bound input.now stem.now
job_meaning (Demo width bound conflicts) = words.demo width bound conflicts
job_meaning (Flat input output) = words.flat input.now output.now
job_meaning (Aag input output) = words.aag input.now output.now
job_meaning (Blif input output) = words.blif input.now output.now
job_meaning (Trim claim input stem output) = words.trim claim.metric claim.bound input.now stem.now output.now

-- the bound and the conflicts are in their ranges
abbrev pub IsInRanges : Constraint → Type 0
IsInRanges aim = (aim.bound ≤ LARGEST_ERROR) × (1 ≤ aim.limit)

-- the numbers of a job are in their ranges; a trim job claims what a check tests
abbrev pub HasRanges : Command → Type 0
HasRanges (Synth job) = IsInRanges job.aim
HasRanges (Against job) = IsInRanges job.aim
HasRanges (Check claim input stem) = claim.bound ≤ LARGEST_ERROR
HasRanges (Demo width bound conflicts) = (bound ≤ LARGEST_ERROR) × (1 ≤ conflicts) × (1 ≤ width)
    × (width ≤ 32)
HasRanges (Flat input output) = Unit {0}
HasRanges (Aag input output) = Unit {0}
HasRanges (Blif input output) = Unit {0}
HasRanges (Trim claim input stem output) = (claim ≡ checked_claim claim.metric claim.bound)
    × (claim.bound ≤ LARGEST_ERROR)
