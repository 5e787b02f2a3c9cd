use Rattle.std.proofs.Common.{◌+◌, ◌^◌, List, get_or, refl, ap, ◌∙◌, arith}
use Rattle.std.proofs.lemmas.List.{take_all}
use Rattle.semantics.specs.Net.{TableValue, no_table, input_count}
use Rattle.aiger_semantics.specs.NetCircuit.{tables_joins}
use Rattle.aiger_text.proofs.TableLines.{tables_joins-more}
use Rattle.aiger_text.proofs.NetLiterals.{first_read, first_fits, firsts_length}
use Rattle.aiger_text.proofs.ands.net_lines.Goals as goal

pub bounds-firsts-t : goal.bounds-firsts-t
bounds-firsts-t c =
    let size = firsts_length (input_count c.args.net.now) c.args.net.now.tables c.args.firsts.now c.requires.firsts in omega (arith, size)

pub push_table-requires-clause-fits : goal.push_table-requires-clause-fits
push_table-requires-clause-fits c =
    first_fits (input_count c.args.net.now) c.args.net.now.tables c.loop-t.t 0 _ c.args.firsts.now c.table.result.now (2 ^ 31) (omega arith) c.requires.firsts refl c.table.ensures.value
    c.requires.fits

pub loop-t-preserved : goal.loop-t-preserved
loop-t-preserved c =
    tables_joins-more (λ s. get_or c.args.literals.now s 0) (input_count c.args.net.now) (get_or c.args.firsts.now c.loop-t.t 0) c.args.net.now.tables c.loop-t.t c.table.result.now no_table
    c.loop-t.lines
    c.push_table.new.lines (omega arith)
    (first_read (input_count c.args.net.now) c.args.net.now.tables c.loop-t.t 0 (get_or c.args.firsts.now c.loop-t.t 0) c.args.firsts.now (omega arith) c.requires.firsts refl)
    c.table.ensures.value c.loop-t.invariant c.in_ok-push_table.ensures

pub returns : goal.returns
returns c =
    c.loop-t.invariant ∙ ap (λ (ts : List TableValue). tables_joins (λ s. get_or c.args.literals.now s 0) (input_count c.args.net.now + 1) ts) (take_all c.loop-t.t c.args.net.now.tables (omega arith))
