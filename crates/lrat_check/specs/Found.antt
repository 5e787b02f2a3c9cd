-- What a scan of a clause has found so far.
use Rattle.std.specs.Prelude.{List, [], ◌∷◌, ℤ, Option, None, Some}

-- the literal that a scan has found, if any
abbrev pub at_most_one : Option ℤ → List ℤ
at_most_one None = []
at_most_one (Some l) = l ∷ []
