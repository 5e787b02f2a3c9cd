-- The parts of a log's text make the whole.
use Rattle.std.proofs.Common.{◌≡◌, ℕ, List, [], ◌∷◌, ◌++◌, map, flat_map, codes, refl, ap, sym, ◌∙◌, append_assoc, Option, None, Some}
use Rattle.std.specs.Fmt.{decimal, signed_decimal}
use Rattle.std.specs.Borrow.{Bor}
use Rattle.semantics.specs.Texts.{Bytes, line_text, text_of}
use Rattle.proof_semantics.specs.declared.item.Item.TheVariants.{Add, Remove}
use Rattle.proof_semantics.specs.Clauses.{Clause}
use Rattle.proof_semantics.specs.Logs.{StepValue, LogItem}
use Rattle.proof_semantics.specs.Lrat.{addition_line, removal_line, item_line, greatest_with, log_lines, lrat_text}
use Rattle.cnf_core.specs.NumberList.{list_text}
use Rattle.cnf_core.specs.LogText.{items_text, line_rest}
use Rattle.cnf_core.proofs.Words.{line_text-word, line_text-numbers}
use Rattle.cnf_core.proofs.NumberLists.{list_text-line}

-- a step's id, literals and hints
pub addition_line-parts : (s : StepValue) → line_text (addition_line s)
    ≡ (decimal s.id ++ 32 ∷ []) ++ (list_text signed_decimal (codes "0 ") s.literals ++ list_text decimal (codes "0\n") s.hints)
addition_line-parts s =
    let hints : List Bytes = map decimal s.hints ++ codes "0" ∷ [] in
    line_text-word (decimal s.id) (map signed_decimal s.literals) (codes "0") hints
    ∙ ap (λ t. (decimal s.id ++ 32 ∷ []) ++ t)
    (sym (line_text-numbers signed_decimal s.literals (codes "0") hints)
    ∙ ap (λ t. flat_map (λ l. signed_decimal l ++ 32 ∷ []) s.literals ++ t) (line_text-word (codes "0") (map decimal s.hints) (codes "0") [])
    ∙ sym (append_assoc (flat_map (λ l. signed_decimal l ++ 32 ∷ []) s.literals) (codes "0 ") (line_text hints))
    ∙ ap (λ t. list_text signed_decimal (codes "0 ") s.literals ++ t) (sym (list_text-line decimal s.hints)))

-- the greatest id, the letter and the ids
pub removal_line-parts : (greatest : ℕ) (ids : List ℕ) → line_text (removal_line greatest ids) ≡ (decimal greatest ++ codes " d ") ++ list_text decimal (codes "0\n") ids
removal_line-parts greatest ids =
    let words : List Bytes = map decimal ids in
    line_text-word (decimal greatest) (codes "d" ∷ words) (codes "0") []
    ∙ ap (λ t. (decimal greatest ++ 32 ∷ []) ++ t) (line_text-word (codes "d") words (codes "0") [] ∙ ap (λ t. codes "d " ++ t) (sym (list_text-line decimal ids)))
    ∙ append_assoc (decimal greatest) (32 ∷ []) (codes "d " ++ list_text decimal (codes "0\n") ids)
    ∙ sym (append_assoc (decimal greatest) (codes " d ") (list_text decimal (codes "0\n") ids))

-- the line of an addition: its id, and then its lists
pub addition_begun : (item : LogItem) (greatest : ℕ) (s : StepValue) (id : ℕ) (token : Bytes) (literals : Clause) (hints : List ℕ) → item ≡ Add s
    → token ≡ decimal id ++ 32 ∷ [] → id ≡ s.id → literals ≡ s.literals → hints ≡ s.hints
    → line_text (item_line greatest item) ≡ token ++ (list_text signed_decimal (codes "0 ") literals ++ list_text decimal (codes "0\n") hints)
addition_begun item greatest s id token literals hints is put same_id same_literals same_hints = rw (is, put, same_id, same_literals, same_hints) (addition_line-parts s)

-- the line of a removal: the greatest id and the letter, and then its ids
pub removal_begun : (item : LogItem) (greatest : ℕ) (ids : List ℕ) (token : Bytes) (literals : Option (Bor Clause)) (list : Bor (List ℕ)) → item ≡ Remove ids
    → token ≡ decimal greatest ++ codes " d " → literals ≡ None → list.now ≡ ids → line_text (item_line greatest item) ≡ token ++ line_rest literals (Some list)
removal_begun item greatest ids token literals list is put none same =
    ap (λ i. line_text (item_line greatest i)) is ∙ removal_line-parts greatest ids
    ∙ sym
    (ap (λ t. t ++ line_rest literals (Some list)) put ∙ ap (λ o. (decimal greatest ++ codes " d ") ++ line_rest o (Some list)) none
    ∙ ap (λ t. (decimal greatest ++ codes " d ") ++ list_text decimal (codes "0\n") t) same)

lines_text : (greatest : ℕ) (log : List LogItem) → text_of (log_lines greatest log) ≡ items_text greatest log
unfolding text_of
lines_text greatest [] = refl
lines_text greatest (item ∷ log) = ap (λ t. line_text (item_line greatest item) ++ t) (lines_text (greatest_with greatest item) log)

pub lrat_text-items : (log : List LogItem) → items_text 0 log ≡ lrat_text log
unfolding lrat_text
lrat_text-items log = sym (lines_text 0 log)
