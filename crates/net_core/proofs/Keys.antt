-- Names as the keys of a set.
use Rattle.std.proofs.Common.{◌≡◌, Bool, List, [], ◌∷◌, map, bytes_eq, refl, ap}
use Rattle.std.specs.Prelude.{◌||◌}
use Rattle.std.specs.Borrow.{Bor}
use Rattle.std.specs.List.{list_any}
use Rattle.semantics.specs.Texts.{Bytes}
use Rattle.semantics.specs.Refusals.{has_name}

pub has_name-keys : (word : Bytes) (keys : List (Bor Bytes)) → list_any (λ key. bytes_eq word key.now) keys ≡ has_name (map (λ key. key.now) keys) word
has_name-keys word [] = refl
has_name-keys word (key ∷ keys) = ap (λ (b : Bool). bytes_eq word key.now || b) (has_name-keys word keys)
