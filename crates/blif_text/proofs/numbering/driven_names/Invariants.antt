use Rattle.std.proofs.Common.{◌≡◌, ◌++◌, take, map}
use Rattle.text_words.specs.Slices.{texts}
use Rattle.blif_text.proofs.numbering.driven_names.Given as goal

abbrev pub invariant-loop-table : goal.invariant-loop-table
invariant-loop-table l = texts l.names.items ≡ texts l.inputs ++ map (λ t. t.name) (take l.table-index l.tables)
