use Rattle.std.proofs.Common.{take, flat_map, length}
use Rattle.std.specs.List.{range_with_len}
use Rattle.semantics.specs.Texts.{line_text}
use Rattle.file_core.specs.Page.{Gathered}
use Rattle.aiger_semantics.specs.Text.{symbol_line}
use Rattle.aiger_text.proofs.writing.write_symbols.Given as goal

abbrev pub invariant-loop-i : goal.invariant-loop-i
invariant-loop-i g l =
    Gathered (g.F.Files.told l.fn.files) (g.F.Files.told l.files) l.fn.page l.page
    (flat_map (λ i. line_text (symbol_line l.letter l.names i)) (take l.i (range_with_len 0 (length l.names))))
