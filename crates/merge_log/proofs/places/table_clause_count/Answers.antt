use Rattle.std.proofs.Common.{length, ap, arith}
use Rattle.merge_log.proofs.TablePlaces.{table_clauses_counted}
use Rattle.merge_log.proofs.places.table_clause_count.Goals as goal

pub literals-requires : goal.literals-requires
literals-requires c = omega (arith, c.requires, table_clauses_counted c.args.table.now)

pub overflow_add-result : goal.overflow_add-result
overflow_add-result c = omega (arith, c.requires, table_clauses_counted c.args.table.now, c.literals.ensures, c.len-rows.ensures, ap length c.rows.ensures.value)

pub overflow_add-result-2 : goal.overflow_add-result-2
overflow_add-result-2 c = omega (arith, c.requires, table_clauses_counted c.args.table.now, c.literals.ensures, c.len-rows.ensures, ap length c.rows.ensures.value)

pub overflow_add-result-3 : goal.overflow_add-result-3
overflow_add-result-3 c = omega (arith, c.requires, table_clauses_counted c.args.table.now, c.literals.ensures, c.len-rows.ensures, ap length c.rows.ensures.value)

pub returns : goal.returns
returns c = omega (arith, table_clauses_counted c.args.table.now, c.literals.ensures, c.len-rows.ensures, ap length c.rows.ensures.value)
