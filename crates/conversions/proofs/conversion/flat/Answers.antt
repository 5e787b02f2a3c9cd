use Rattle.std.proofs.Common.{ap}
use Rattle.semantics.specs.Blif.{blif_text}
use Rattle.job_answers.specs.Refused.{TellsHier}
use Rattle.conversions.specs.Texts.{made, flat_text}
use Rattle.conversions.proofs.Texts.{flat_reads_front, flat-refused}
use Rattle.conversions.proofs.Conversions.{not_read-answer, written-at}
use Rattle.conversions.proofs.conversion.flat.Goals as goal

pub returns-in-Err : goal.returns-in-Err
returns-in-Err g c = λ said. not_read-answer flat_text TellsHier c.args.input.now c.args.output.now c.in-Err.answer c.in-Err.ensures.err

pub returns-in-Ok-flat_net : goal.returns-in-Ok-flat_net
returns-in-Ok-flat_net g c = λ said.
    written-at flat_text TellsHier c.args.input.now c.args.output.now flat_reads_front c.in-Ok.ensures.ok c.bytes.ensures.value c.answer_of_writing.result
    _ (ap (made blif_text) c.in-Ok-flat_net.ensures.ok) c.write_netlist.result c.write_netlist.ensures c.answer_of_writing.ensures

pub returns : goal.returns
returns g c = λ said. flat-refused c.in-Ok.ensures.ok c.bytes.ensures.value c.hier_answer.result c.in-Err-flat_net.reason c.in-Err-flat_net.ensures.err c.hier_answer.ensures
