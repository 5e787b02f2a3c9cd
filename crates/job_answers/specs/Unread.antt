-- Which answer tells why a file was not read.
use Rattle.file_reading.specs.declared.unread.Unread.{Unread}
use Rattle.file_reading.specs.declared.unread.Unread.TheVariants as unread
use Rattle.job_answers.specs.declared.status.Status.{Status}
use Rattle.job_answers.specs.declared.status.Status.TheVariants.{NoMemory, ReadFault, Endless}

-- the answer where a needed file was not read
abbrev pub answer_of_unread : Unread → Status
answer_of_unread unread.Fault = ReadFault
answer_of_unread unread.OutOfMemory = NoMemory
answer_of_unread unread.Endless = Endless
