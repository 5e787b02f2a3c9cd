-- The text of a log. Source: LRAT, as this tool writes it: single blanks, each line ended by LF.
use Rattle.std.specs.Prelude.{ℕ, max, List, [], ◌∷◌, ◌++◌, map, codes}
use Rattle.std.specs.Fmt.{decimal, signed_decimal}
use Rattle.semantics.specs.Texts.{Bytes, Line, text_of}
use Rattle.proof_semantics.specs.declared.item.Item.TheVariants.{Add, Remove}
use Rattle.proof_semantics.specs.Logs.{StepValue, LogItem}

-- the id, the literals, `0`, the hints and `0`
abbrev pub addition_line : StepValue → Line
addition_line s = decimal s.id
    ∷ (map signed_decimal s.literals ++ codes "0" ∷ (map decimal s.hints ++ codes "0" ∷ []))

-- the greatest id of the additions before, `d`, the ids and `0`
abbrev pub removal_line : ℕ → List ℕ → Line
removal_line greatest ids = decimal greatest ∷ codes "d" ∷ (map decimal ids ++ codes "0" ∷ [])

abbrev pub item_line : ℕ → LogItem → Line
item_line greatest (Add s) = addition_line s
item_line greatest (Remove ids) = removal_line greatest ids

-- the greatest id behind one more item
abbrev pub greatest_with : ℕ → LogItem → ℕ
greatest_with greatest (Add s) = max greatest s.id
greatest_with greatest (Remove ids) = greatest

-- the items behind additions of which this id is the greatest
abbrev pub log_lines : ℕ → List LogItem → List Line
log_lines greatest [] = []
log_lines greatest (item ∷ log) = item_line greatest item ∷ log_lines (greatest_with greatest item) log

unfoldable pub lrat_text : List LogItem → Bytes
lrat_text log = text_of (log_lines 0 log)
