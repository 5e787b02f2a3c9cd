use Rattle.std.proofs.Common.{◌≡◌, drop}
use Rattle.blif_semantics.specs.Lines.{words_of}
use Rattle.text_words.specs.Slices.{texts}
use Rattle.solve_cnf.specs.Places.{has_wrong}
use Rattle.solve_cnf.proofs.Words.{GoesOn}
use Rattle.solve_cnf.proofs.formula_draft.FormulaDraft.take_line.Given as goal

abbrev pub invariant-loop-word : goal.invariant-loop-word
invariant-loop-word l = record {
  variables : l.self.variables ≡ l.fn.self.variables;
  same : GoesOn l.fn.self l.self l.word-items l.word-index (words_of l.line.1.now);
  wrong : has_wrong l.fn.self.variables (texts (drop l.word-index l.word-items)) ≡ has_wrong l.fn.self.variables (words_of l.line.1.now);
}
