use Rattle.std.proofs.Common.{◌≡◌, drop}
use Rattle.blif_semantics.specs.Reading.{model_of}
use Rattle.hier_parts.specs.Sections.{words_in}
use Rattle.hier_parts.proofs.models.model_of.Given as goal

abbrev pub invariant-loop-line : goal.invariant-loop-line
invariant-loop-line l = model_of (words_in (drop l.line-index l.lines)) ≡ model_of (words_in l.lines)
