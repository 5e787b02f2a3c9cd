use Rattle.cnf_core.proofs.FormulaTexts.{next_clause}
use Rattle.cnf_core.proofs.dimacs_text.DimacsTokensTokens.next.Goals as goal

pub returns : goal.returns
returns c =
    next_clause c.next_of_list-2.result c.args.self.now.clause c.next_of_list-2.new.list c.as_slice.result c.args.self.now.clauses.now c.in-Some.rest.now c.in-Some.first.now
    c.next_of_list-2.new.token c.next_of_list.new.token c.args.token.now c.if-next_of_list.ensures.0 c.in-Some.ensures.cases.0 c.as_slice.ensures.value c.next_of_list-2.ensures
