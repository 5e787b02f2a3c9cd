-- The lines of a log's items, one behind another. Source: LRAT, as this tool writes it.
use Rattle.std.specs.Prelude.{ℕ, List, [], ◌∷◌, ◌++◌, codes, Option}
use Rattle.std.specs.Borrow.{Bor}
use Rattle.std.specs.Fmt.{decimal, signed_decimal}
use Rattle.semantics.specs.Texts.{Bytes, line_text}
use Rattle.proof_semantics.specs.Clauses.{Clause}
use Rattle.proof_semantics.specs.Logs.{LogItem}
use Rattle.proof_semantics.specs.Lrat.{item_line, greatest_with}
use Rattle.cnf_core.specs.NumberList.{list_rest}

-- the items behind additions of which this id is the greatest
abbrev pub items_text : ℕ → List LogItem → Bytes
items_text greatest [] = []
items_text greatest (item ∷ log)
    = line_text (item_line greatest item) ++ items_text (greatest_with greatest item) log

-- what is left of a line: of an addition's literals, and of its hints or a removal's ids
abbrev pub line_rest : Option (Bor Clause) → Option (Bor (List ℕ)) → Bytes
line_rest literals ids = list_rest signed_decimal (codes "0 ") literals ++ list_rest decimal (codes "0\n") ids
