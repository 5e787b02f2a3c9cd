-- The parts of an answer's text, one behind another.
use Rattle.std.proofs.Common.{◌≡◌, ℕ, ◌+◌, ◌<◌, suc, Bool, false, List, [], ◌∷◌, ◌++◌, map, flat_map, codes, length, get_or, drop, sym, ap, ◌∙◌, append_assoc, add-one}
use Rattle.std.specs.Prelude.{ℤ, pos, neg_ℤ, if◌then◌else◌}
use Rattle.std.specs.Fmt.{signed_decimal}
use Rattle.std.proofs.lemmas.List.{drop_more}
use Rattle.semantics.specs.Texts.{Bytes, line_text}
use Rattle.cnf_core.specs.NumberList.{list_text}
use Rattle.cnf_core.proofs.Words.{line_text-word}
use Rattle.cnf_core.proofs.NumberLists.{list_text-line}
use Rattle.solve_cnf.specs.Writing.{true_literals, model_line}

-- literals, each before a blank, and `0` at the line's end
abbrev pub literals_text : List ℤ → Bytes
literals_text literals = list_text signed_decimal (codes "0\n") literals

-- `v`, and the literals behind it
pub model_line-parts : (bits : List Bool) → (118 ∷ 32 ∷ []) ++ literals_text (true_literals 1 bits) ≡ line_text (model_line bits)
model_line-parts bits =
    ap (λ t. (118 ∷ 32 ∷ []) ++ t) (list_text-line signed_decimal (true_literals 1 bits))
    ∙ sym (line_text-word (codes "v") (map signed_decimal (true_literals 1 bits)) (codes "0") [])

-- the text of the literals behind the first i
abbrev pub literals_left : List Bool → ℕ → Bytes
literals_left bits i = literals_text (true_literals (i + 1) (drop i bits))

-- the literal of a variable and a blank
abbrev pub literal_text : List Bool → ℕ → Bytes
literal_text bits i = signed_decimal (if get_or bits i false then pos (i + 1) else neg_ℤ (pos (i + 1))) ++ 32 ∷ []

pub literals_left-next : (bits : List Bool) (i : ℕ) → i < length bits → literals_left bits i ≡ literal_text bits i ++ literals_left bits (i + 1)
literals_left-next bits i within =
    ap (λ bs. literals_text (true_literals (i + 1) bs)) (drop_more bits i false within)
    ∙ append_assoc (literal_text bits i) (flat_map (λ l. signed_decimal l ++ 32 ∷ []) (true_literals (suc (i + 1)) (drop (i + 1) bits))) (codes "0\n")
    ∙ ap (λ k. literal_text bits i ++ literals_text (true_literals k (drop (i + 1) bits))) (sym (add-one (i + 1)))
