-- A move that some vector of the inputs' width breaks is not allowed.
use Rattle.std.proofs.Common.{◌≡◌, ℕ, Bool, List, [], ◌∷◌, length, arith}
use Rattle.std.specs.List.{AllByRecursion, Contains}
use Rattle.std.proofs.lemmas.List.Elements.{All-from_recursion, All-contains}
use Rattle.semantics.specs.Net.{NetValue, input_count}
use Rattle.semantics.specs.declared.metric.Metric.{Metric}
use Rattle.chain_semantics.specs.declared.moves.Move.{Move}
use Rattle.chain_semantics.specs.Minimality.{IsBrokenBySome, AreBrokenBySome}
use Rattle.chain_semantics.specs.Simplification.{IsAllowedMove}

wide_member : (n : ℕ) (vectors : List (List Bool)) (x : List Bool) → AllByRecursion (λ y. length y ≡ n) vectors → Contains vectors x → length x ≡ n
wide_member n vectors x wide there = All-contains (λ y. length y ≡ n) vectors x (All-from_recursion (λ y. length y ≡ n) vectors wide) there

module _ (metric : Metric) (exact : NetValue) (bound : ℕ) (N : NetValue) (vectors : List (List Bool)) where
  pub broken-not_allowed : (move : Move) → AllByRecursion (λ x. length x ≡ input_count exact) vectors → IsBrokenBySome metric exact bound N vectors move
      → ¬ IsAllowedMove metric exact bound N move
  broken-not_allowed move widths broken allowed = omega (arith, broken.2, allowed broken.0 (wide_member (input_count exact) vectors broken.0 widths broken.1))

  pub minimal-none_allowed : (moves : List Move) → AllByRecursion (λ x. length x ≡ input_count exact) vectors → AreBrokenBySome metric exact bound N vectors moves
      → AllByRecursion (λ m. ¬ IsAllowedMove metric exact bound N m) moves
  minimal-none_allowed [] widths broken = tt
  minimal-none_allowed (m ∷ moves) widths broken = (broken-not_allowed m widths broken.0, minimal-none_allowed moves widths broken.1)
