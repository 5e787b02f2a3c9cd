use Rattle.job_runs.proofs.Headlines.{headline-from}
use Rattle.job_runs.proofs.SecondHeadlines.{second_headline-from}
use Rattle.job_runs.proofs.Runs.{quiet_job_ends}
use Rattle.job_runs.proofs.run.run_followed.Goals as goal

pub returns-clause-headline : goal.returns-clause-headline
returns-clause-headline g c = headline-from _ _ c.carry_out.result c.carry_out.ensures.says

pub returns-clause-second_headline : goal.returns-clause-second_headline
returns-clause-second_headline g c = second_headline-from _ _ c.carry_out.result c.carry_out.ensures.says

pub returns-clause-complete : goal.returns-clause-complete
returns-clause-complete g c = λ job named quiet. quiet_job_ends job _ c.carry_out.result (c.carry_out.ensures.says.answer job named) quiet
