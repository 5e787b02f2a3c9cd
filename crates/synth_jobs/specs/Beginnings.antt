-- How a second net stands to the exact one.
use Rattle.semantics.specs.Net.{NetValue}
use Rattle.chain_semantics.specs.Simplification.{IsBeginning}
use Rattle.proof_semantics.specs.declared.constraint.Constraint.{Constraint}
use Rattle.job_semantics.specs.SecondNetlist.{HasOtherPorts, IsAboveBound, IsBoundSpent}
use Rattle.level_answers.specs.Exceeds.{spent_value}
use Rattle.synth_jobs.specs.declared.beginning.Beginning.{Beginning}
use Rattle.synth_jobs.specs.declared.beginning.Beginning.TheVariants.{Ports, Over, Spent, Within}

-- what is answered to the question whether the second net may be certified or refined
abbrev pub IsBeginningJudged : Constraint → NetValue → NetValue → Beginning → Type 0
IsBeginningJudged aim exact begin Ports = HasOtherPorts exact begin
IsBeginningJudged aim exact begin (Over x) = IsAboveBound aim.metric aim.bound x exact begin
IsBeginningJudged aim exact begin (Spent s) = IsBoundSpent aim exact begin (spent_value s)
IsBeginningJudged aim exact begin Within = IsBeginning aim.metric exact aim.bound begin
