-- Names that differ, while more are added.
use Rattle.std.specs.Prelude.{List, [], ◌∷◌, ◌++◌, if◌then◌else◌}
use Rattle.semantics.specs.Texts.{Bytes}
use Rattle.semantics.specs.Refusals.{has_name}

-- the names and this one, if it is new
abbrev pub with_name : List Bytes → Bytes → List Bytes
with_name names name = if has_name names name then names else names ++ name ∷ []

abbrev pub with_names : List Bytes → List Bytes → List Bytes
with_names names [] = names
with_names names (name ∷ more) = with_names (with_name names name) more
