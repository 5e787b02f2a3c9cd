-- Keys that differ, while more are added.
use Rattle.std.specs.Prelude.{Bool, List, [], ◌∷◌, ◌++◌, if◌then◌else◌}
use Rattle.std.specs.List.{list_any}

-- the keys and this one, if it is new
abbrev pub with_key : {K : Type 0} → (K → K → Bool) → List K → K → List K
with_key equal keys key = if list_any (equal key) keys then keys else keys ++ key ∷ []
