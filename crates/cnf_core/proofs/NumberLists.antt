-- Lists of numbers in a text, token by token.
use Rattle.std.proofs.Common.{◌≡◌, List, [], ◌∷◌, ◌++◌, map, codes, ap, ◌∙◌, append_assoc}
use Rattle.semantics.specs.Texts.{Bytes, line_text}
use Rattle.cnf_core.specs.NumberList.{list_text}
use Rattle.cnf_core.proofs.Words.{line_text-numbers}

-- a list at a line's end
pub list_text-line : {X : Type 0} (text : X → Bytes) (numbers : List X) → list_text text (codes "0\n") numbers ≡ line_text (map text numbers ++ codes "0" ∷ [])
list_text-line text numbers = line_text-numbers text numbers (codes "0") []

-- the first token of a text is the first of a longer one
pub first_token : (old token new more : Bytes) → old ≡ token ++ new → old ++ more ≡ token ++ (new ++ more)
first_token old token new more is = ap (λ t. t ++ more) is ∙ append_assoc token new more
