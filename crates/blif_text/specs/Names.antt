-- Names and the places at which they stand.
use Rattle.std.specs.Prelude.{ℕ, not, List, bytes_eq, position, Option}
use Rattle.std.specs.List.{find}
use Rattle.semantics.specs.Texts.{Bytes}
use Rattle.semantics.specs.Refusals.{has_name}

abbrev pub place_of : List Bytes → Bytes → Option ℕ
place_of names word = position (λ name. bytes_eq word name) names

-- the first word that is none of the names
abbrev pub first_unknown : List Bytes → List Bytes → Option Bytes
first_unknown names words = find (λ word. not (has_name names word)) words
