-- Files that a check is tried on.
use Rattle.std.specs.Prelude.{ℕ, List, [], ◌∷◌, ◌++◌, map, codes}
use Rattle.outside_semantics.specs.Outside.{Held, bytes_of}
use Rattle.memory_runs.specs.declared.half_adder.TheConstants.{HALF_ADDER, NAMES}

-- the names of the half adder's bundle
abbrev pub bundle_names : List (List ℕ)
bundle_names = map (λ name. name.now) NAMES

-- each name with its bytes; a name that is not held has none
abbrev pub with_bytes : Held → List (List ℕ) → List (List ℕ × List ℕ)
with_bytes held names = map (λ name. (name, bytes_of held name)) names

-- One file with its text, and then the bundle that is held and the half adder. Of two files with one name the
-- first counts.
abbrev pub changed_bundle : Held → List ℕ → List ℕ → List (List ℕ × List ℕ)
changed_bundle held name text
    = (name, text) ∷ with_bytes held bundle_names ++ (codes "ha.blif", HALF_ADDER.now) ∷ []
