-- The names of a job on two netlists, as the definitions have them.
use Rattle.job_semantics.specs.Job.{TaskNames}
use Rattle.command_words.specs.declared.net_jobs.Names.{Names}

abbrev pub names_of : Names → TaskNames
names_of names = record { input = names.input.now; second = names.second.now; stem = names.stem.now }
