use Rattle.std.proofs.Common.{ap}
use Rattle.aiger_semantics.specs.Text.{aiger_text}
use Rattle.job_answers.specs.Refused.{TellsBlif}
use Rattle.conversions.specs.Texts.{made, aag_text}
use Rattle.conversions.proofs.Texts.{aag_reads_front, aag-refused}
use Rattle.conversions.proofs.Conversions.{not_read-answer, written-at}
use Rattle.conversions.proofs.conversion.aag.Goals as goal

pub returns-in-Err : goal.returns-in-Err
returns-in-Err g c = λ said. not_read-answer aag_text TellsBlif c.args.input.now c.args.output.now c.in-Err.answer c.in-Err.ensures.err

pub returns-in-Ok-circuit : goal.returns-in-Ok-circuit
returns-in-Ok-circuit g c = λ said.
    written-at aag_text TellsBlif c.args.input.now c.args.output.now aag_reads_front c.in-Ok.ensures.ok c.bytes.ensures.value c.answer_of_writing.result
    _ (ap (made aiger_text) c.in-Ok-circuit.ensures.ok) c.write_circuit.result c.write_circuit.ensures c.answer_of_writing.ensures

pub returns : goal.returns
returns g c = λ said. aag-refused c.in-Ok.ensures.ok c.bytes.ensures.value c.blif_answer.result c.in-Err-circuit.reason c.in-Err-circuit.ensures.err c.blif_answer.ensures
