use Rattle.proof_semantics.proofs.LratTexts.{grammar_law}
use Rattle.proof_semantics.proofs.lrat_laws.grammar.Goals as goal

pub returns : goal.returns
returns c = grammar_law
