use Rattle.std.proofs.Common.{ap}
use Rattle.semantics.specs.Blif.{blif_text}
use Rattle.job_answers.specs.Refused.{TellsAiger}
use Rattle.conversions.specs.Texts.{made, netlist_text}
use Rattle.conversions.proofs.Texts.{netlist_reads_front, blif-refused}
use Rattle.conversions.proofs.Conversions.{not_read-answer, written-at}
use Rattle.conversions.proofs.conversion.blif.Goals as goal

pub returns-in-Err : goal.returns-in-Err
returns-in-Err g c = λ said. not_read-answer netlist_text TellsAiger c.args.input.now c.args.output.now c.in-Err.answer c.in-Err.ensures.err

pub returns-in-Ok-read_aiger : goal.returns-in-Ok-read_aiger
returns-in-Ok-read_aiger g c = λ said.
    written-at netlist_text TellsAiger c.args.input.now c.args.output.now netlist_reads_front c.in-Ok.ensures.ok c.bytes.ensures.value c.answer_of_writing.result
    _ (ap (made blif_text) c.in-Ok-read_aiger.ensures.ok) c.write_netlist.result c.write_netlist.ensures c.answer_of_writing.ensures

pub returns : goal.returns
returns g c = λ said. blif-refused c.in-Ok.ensures.ok c.bytes.ensures.value c.aiger_answer.result c.in-Err-read_aiger.reason c.in-Err-read_aiger.ensures.err c.aiger_answer.ensures
