-- by computation
use Rattle.std.proofs.Common.{refl}
use Rattle.std.specs.Fmt.{digits}
use Rattle.semantics.specs.Texts.{text_of}
use Rattle.proof_semantics.specs.Lrat.{lrat_text}
use Rattle.proof_semantics.proofs.examples.lrat_texts.Goals as goal

pub returns : goal.returns
unfolding digits text_of lrat_text
returns c = record { addition = refl; removals = refl; literals = refl }
