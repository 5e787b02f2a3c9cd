-- Moves that are left of a list as it is gone through.
use Rattle.std.proofs.Common.{◌≡◌, List, [], ◌∷◌, ◌++◌, sym, ap, subst, ◌∙◌, append_assoc}
use Rattle.std.specs.List.{Contains}
use Rattle.std.proofs.lemmas.List.Elements.{Contains-append_right}
use Rattle.chain_semantics.specs.declared.moves.Move.{Move}
use Rattle.chain_semantics.proofs.MoveLists.{Contains-here}

-- the list ends with those that are left
pub record IsEndOf (all left : List Move) : Type 0 where
  pub before : List Move
  pub stands : all ≡ before ++ left

pub end-first : (all left : List Move) → left ≡ all → IsEndOf all left
end-first all left is = record { before = []; stands = sym is }

pub end-next : (all left rest : List Move) (move : Move) → left ≡ move ∷ rest → IsEndOf all left → IsEndOf all rest
end-next all left rest move is so_far = record {
  before = so_far.before ++ move ∷ [];
  stands = so_far.stands ∙ ap (λ l. so_far.before ++ l) is ∙ sym (append_assoc so_far.before (move ∷ []) rest);
}

pub end-member : (all left rest : List Move) (move : Move) → left ≡ move ∷ rest → IsEndOf all left → Contains all move
end-member all left rest move is so_far =
    subst (λ l. Contains l move) (sym (so_far.stands ∙ ap (λ l. so_far.before ++ l) is)) (Contains-append_right so_far.before (move ∷ rest) move (Contains-here move rest))
