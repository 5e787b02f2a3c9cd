use Rattle.std.proofs.Common.{ap, arith}
use Rattle.semantics.specs.Net.{signal_names, no_table}
use Rattle.blif_writing.specs.NetText.{table_text}
use Rattle.std.proofs.lemmas.Result.{err_from_is_err_and}
use Rattle.file_core.proofs.Gathering.{Gathered-nil}
use Rattle.file_core.proofs.Outcomes.{Gathers-next}
use Rattle.file_core.proofs.Parts.{Gathered-next}
use Rattle.blif_writing.proofs.writing.write_tables.Goals as goal

pub loop-t-init : goal.loop-t-init
loop-t-init g c = Gathered-nil _ _

pub loop-t-preserved : goal.loop-t-preserved
loop-t-preserved g c =
    Gathered-next (table_text (signal_names c.args.net.now)) c.args.net.now.tables c.loop-t.t no_table (omega arith) (ap (table_text (signal_names c.args.net.now)) c.table.ensures.value)
    c.loop-t.invariant c.in_ok-write_table.ensures.ok

pub returns-in_err-write_table : goal.returns-in_err-write_table
returns-in_err-write_table g c =
    let p = err_from_is_err_and c.from_residual.result c.from_residual.ensures.1 in
    rw p.1
    (Gathers-next (table_text (signal_names c.args.net.now)) c.args.net.now.tables c.loop-t.t no_table (omega arith) (ap (table_text (signal_names c.args.net.now)) c.table.ensures.value)
    c.loop-t.invariant c.in_err-write_table.ensures)
