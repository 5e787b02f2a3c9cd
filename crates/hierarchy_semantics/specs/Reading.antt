-- The reading of a text of several models: its hierarchy, or one refusal. Source: BLIF; the order of the
-- refusals is this tool's own.
use Rattle.std.specs.Prelude.{ℕ, not, nat_le, length, Some, None, Result, Ok, Err, if◌then◌else◌}
use Rattle.semantics.specs.Texts.{Bytes}
use Rattle.blif_semantics.specs.Lines.{logical_lines, statements}
use Rattle.blif_semantics.specs.Reading.{text_long, wrong_line}
use Rattle.hierarchy_semantics.specs.Models.{Hierarchy, hierarchy_of}
use Rattle.hierarchy_semantics.specs.ModelLines.{first_wrong}
use Rattle.hierarchy_semantics.specs.Refusals.{HierRefusal, line, hier_refusal}

abbrev pub hierarchy_checked : Hierarchy → Result Hierarchy HierRefusal
hierarchy_checked h = elim (hier_refusal h) [ None ↦ Ok h | Some r ↦ Err r ]

-- the hierarchy of a text of at most `most` bytes, or the refusal of the text
unfoldable pub hier_reading : Bytes → ℕ → Result Hierarchy HierRefusal
hier_reading text most =
    let lines = statements (logical_lines text) in
    if not (nat_le (length text) most) then Err (line text_long)
    else elim (first_wrong lines)
    [ None ↦ hierarchy_checked (hierarchy_of lines) | Some w ↦ Err (line (wrong_line w.line w.wrong)) ]
