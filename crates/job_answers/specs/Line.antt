-- The line that tells an answer, without the program's name. Source: this tool's own.
use Rattle.std.specs.Prelude.{◌++◌, codes}
use Rattle.std.specs.Fmt.{decimal}
use Rattle.semantics.specs.Texts.{Bytes, bits_word}
use Rattle.blif_text.specs.Messages.{refusal_text}
use Rattle.hier_blif.specs.Refusals.{number_of}
use Rattle.aiger_text.specs.Refusals.{refusal_number}
use Rattle.command_words.specs.Usage.{usage_line}
use Rattle.job_answers.specs.declared.status.Status.{Status}
use Rattle.job_answers.specs.declared.status.Status.TheVariants.{Done, Verified, Refuted, Usage, Text}
use Rattle.job_answers.specs.declared.status.Status.TheVariants.{NoMemory, Budget, ReadFault, WriteFault}
use Rattle.job_answers.specs.declared.status.Status.TheVariants.{Endless, Hier, Aiger, Second, Ports, Over}

abbrev pub status_text : Status → Bytes
status_text Done = codes "done"
status_text Verified = codes "verified"
status_text (Refuted number) = codes "refuted by clause " ++ decimal number
status_text Usage = usage_line
status_text (Text reason) = refusal_text reason
status_text NoMemory = codes "out of memory"
status_text Budget = codes "conflicts spent"
status_text ReadFault = codes "read fault"
status_text WriteFault = codes "write fault"
status_text Endless = codes "input without end"
status_text (Hier reason) = codes "hierarchy refusal " ++ decimal (number_of reason)
status_text (Aiger reason) = codes "aiger refusal " ++ decimal (refusal_number reason)
status_text (Second reason) = codes "second netlist: " ++ refusal_text reason
status_text Ports = codes "other ports"
status_text (Over x) = codes "error above the bound at " ++ bits_word x
