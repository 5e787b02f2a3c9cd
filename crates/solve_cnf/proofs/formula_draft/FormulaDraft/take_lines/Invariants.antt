use Rattle.std.proofs.Common.{◌≡◌, drop}
use Rattle.solve_cnf.specs.FormulaDraft.{clauses_with}
use Rattle.solve_cnf.specs.Places.{line_values, wrong_line}
use Rattle.solve_cnf.proofs.Words.{words_in}
use Rattle.solve_cnf.proofs.formula_draft.FormulaDraft.take_lines.Given as goal

abbrev pub invariant-loop-line : goal.invariant-loop-line
invariant-loop-line l = record {
  variables : l.self.variables ≡ l.fn.self.variables;
  same : clauses_with l.self (words_in (drop l.line-index l.lines)) ≡ clauses_with l.fn.self (words_in l.lines);
  place : wrong_line l.fn.self.variables (line_values (drop l.line-index l.lines)) ≡ wrong_line l.fn.self.variables (line_values l.lines);
}
