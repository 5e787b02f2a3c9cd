-- Lists of numbers in a text. Source: DIMACS and LRAT, as this tool writes them.
use Rattle.std.specs.Prelude.{List, [], ◌∷◌, ◌++◌, flat_map, Option, None, Some}
use Rattle.std.specs.Borrow.{Bor}
use Rattle.semantics.specs.Texts.{Bytes}

-- each number before a blank, and the end
abbrev pub list_text : {X : Type 0} → (X → Bytes) → Bytes → List X → Bytes
list_text text end numbers = flat_map (λ n. text n ++ 32 ∷ []) numbers ++ end

-- what is left of a list; nothing where its end was given
abbrev pub list_rest : {X : Type 0} → (X → Bytes) → Bytes → Option (Bor (List X)) → Bytes
list_rest text end None = []
list_rest text end (Some numbers) = list_text text end numbers.now
