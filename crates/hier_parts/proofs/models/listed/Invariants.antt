use Rattle.std.proofs.Common.{◌≡◌, ◌++◌, drop}
use Rattle.blif_semantics.specs.Reading.{listed}
use Rattle.text_words.specs.Slices.{texts}
use Rattle.hier_parts.specs.Sections.{words_in, kinds_of}
use Rattle.hier_parts.proofs.models.listed.Given as goal

abbrev pub invariant-loop-line : goal.invariant-loop-line
invariant-loop-line l = texts l.names.items ++ listed (kinds_of l.listing) (words_in (drop l.line-index l.lines)) ≡ listed (kinds_of l.listing) (words_in l.lines)
