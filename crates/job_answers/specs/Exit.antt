-- The exit number of each answer.
use Rattle.std.specs.Prelude.{ℕ}
use Rattle.exit_numbers.specs.declared.numbers.TheConstants.{DONE, USAGE, TEXT_REFUSED, NO_MEMORY}
use Rattle.exit_numbers.specs.declared.numbers.TheConstants.{CONFLICTS_SPENT, READ_FAULT, WRITE_FAULT}
use Rattle.exit_numbers.specs.declared.numbers.TheConstants.{REFUTED, ENDLESS, HIERARCHY_REFUSED}
use Rattle.exit_numbers.specs.declared.numbers.TheConstants.{CIRCUIT_REFUSED, SECOND_REFUSED}
use Rattle.exit_numbers.specs.declared.numbers.TheConstants.{OTHER_PORTS, ABOVE_BOUND}
use Rattle.job_answers.specs.declared.status.Status.{Status}
use Rattle.job_answers.specs.declared.status.Status.TheVariants.{Done, Verified, Refuted, Usage, Text}
use Rattle.job_answers.specs.declared.status.Status.TheVariants.{NoMemory, Budget, ReadFault, WriteFault}
use Rattle.job_answers.specs.declared.status.Status.TheVariants.{Endless, Hier, Aiger, Second, Ports, Over}

abbrev pub exit_number : Status → ℕ
exit_number Done = DONE
exit_number Verified = DONE
exit_number Usage = USAGE
exit_number (Text reason) = TEXT_REFUSED
exit_number NoMemory = NO_MEMORY
exit_number Budget = CONFLICTS_SPENT
exit_number ReadFault = READ_FAULT
exit_number WriteFault = WRITE_FAULT
exit_number (Refuted number) = REFUTED
exit_number Endless = ENDLESS
exit_number (Hier reason) = HIERARCHY_REFUSED
exit_number (Aiger reason) = CIRCUIT_REFUSED
exit_number (Second reason) = SECOND_REFUSED
exit_number Ports = OTHER_PORTS
exit_number (Over x) = ABOVE_BOUND
