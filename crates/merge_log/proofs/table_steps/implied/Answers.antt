use Rattle.std.proofs.Common.{length, ap, arith}
use Rattle.merge_log.proofs.TablePlaces.{table_clauses_counted}
use Rattle.merge_log.proofs.table_steps.implied.Goals as goal

pub literals-requires : goal.literals-requires
literals-requires c = omega (arith, c.requires, table_clauses_counted c.args.table.now.table.now)

pub overflow_add-before : goal.overflow_add-before
overflow_add-before c = omega (arith, c.requires, table_clauses_counted c.args.table.now.table.now, c.literals.ensures, c.len.ensures, ap length c.rows.ensures.value)

pub overflow_add-result : goal.overflow_add-result
overflow_add-result c = omega (arith, c.requires, table_clauses_counted c.args.table.now.table.now, c.literals.ensures, c.len.ensures, ap length c.rows.ensures.value)

pub returns-clause-clause : goal.returns-clause-clause
returns-clause-clause c = omega (arith, table_clauses_counted c.args.table.now.table.now, c.literals.ensures, c.len.ensures, ap length c.rows.ensures.value)
