-- What is tested of lines: no line is wrong, and their models have no refusal.
use Rattle.std.specs.Prelude.{List, Option}
use Rattle.semantics.specs.Refusals.{or_else}
use Rattle.blif_semantics.specs.Lines.{Statement}
use Rattle.blif_semantics.specs.Reading.{wrong_line}
use Rattle.hierarchy_semantics.specs.Models.{hierarchy_of}
use Rattle.hierarchy_semantics.specs.ModelLines.{first_wrong}
use Rattle.hierarchy_semantics.specs.Refusals.{HierRefusal, line, hier_refusal}

abbrev pub lines_refusal : List Statement → Option HierRefusal
lines_refusal lines = or_else (first_wrong lines) (λ w. line (wrong_line w.line w.wrong))
    (hier_refusal (hierarchy_of lines))
