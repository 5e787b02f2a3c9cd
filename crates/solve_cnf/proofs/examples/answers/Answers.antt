-- by computation
use Rattle.std.proofs.Common.{refl}
use Rattle.std.specs.Fmt.{digits}
use Rattle.semantics.specs.Texts.{text_of}
use Rattle.proof_semantics.specs.Lrat.{lrat_text}
use Rattle.solve_cnf.proofs.examples.answers.Goals as goal

pub returns : goal.returns
unfolding digits text_of lrat_text
returns c = record {
  model = refl;
  no_variables = refl;
  refuted = refl;
  spent = refl;
}
