-- How a search goes over the moves of a net.
use Rattle.std.proofs.Common.{◌≡◌, Bool, Option, Some, List, [], ◌∷◌, ◌++◌, length, refl, sym, ap, subst, ◌∙◌}
use Rattle.std.specs.List.{AllByRecursion, Contains}
use Rattle.std.proofs.lemmas.List.{append_assoc}
use Rattle.std.proofs.lemmas.List.Elements.{Contains-append_right}
use Rattle.semantics.specs.Net.{NetValue, input_count}
use Rattle.net_errors.specs.Compared.{NetPair}
use Rattle.chain_semantics.specs.declared.moves.Move.{Move}
use Rattle.chain_semantics.specs.Minimality.{IsBrokenBySome, AreBrokenBySome}
use Rattle.chain_semantics.specs.Moves.{moves_of, moved}
use Rattle.chain_semantics.specs.Simplification.{IsAllowedMove}
use Rattle.chain_semantics.proofs.MoveLists.{Contains-here}
use Rattle.proof_semantics.specs.declared.constraint.Constraint.{Constraint}
use Rattle.job_semantics.specs.Shrinking.{IsSpentMove}
use Rattle.job_semantics.proofs.MinimalNets.{minimal-none_allowed}
use Rattle.lane_bits.specs.Patterns.{PatternSet}
use Rattle.care_masks.specs.Growing.{GrowingValue}
use Rattle.level_answers.specs.declared.query.Spent as spent
use Rattle.level_answers.specs.Exceeds.{spent_value, IsSpentOn}
use Rattle.synth_core.specs.MoveTrials.{IsFoundOver}
use Rattle.synth_core.specs.AllowedMoves.{IsFirstMoved, masks_over, IsMaskedPool, AreAmong, IsSearched, IsCandidateMove, IsFirstUnbroken, IsNextUnbroken}
use Rattle.synth_core.proofs.Pools.{IsPool-more, each_more}

module _ (aim : Constraint) (nets : NetPair) (s t : PatternSet) (move : Move) (x : List Bool) (pushed : t ≡ record s { vectors = s.vectors ++ x ∷ [] }) where
  -- a vector that breaks the move joins the pool, and the masks go over to it
  pub masked-more : (old new : GrowingValue) → IsMaskedPool aim nets s old → new ≡ record old { vectors = t.vectors } → IsCandidateMove old move
      → IsFoundOver aim nets.exact (moved nets.approx move) x → IsMaskedPool aim nets t new
  masked-more old new masked grown candidate over =
      let unbroken : IsCandidateMove (masks_over aim nets s.vectors) move = subst (λ m. IsCandidateMove m move) masked.masks candidate in
      record {
        pool = IsPool-more nets.exact s t x masked.pool pushed over.many over.exceeded.width (λ there. unbroken.unbroken x there over.exceeded.exceeds);
        masks = grown ∙ ap (λ (m : GrowingValue). record m { vectors = t.vectors }) masked.masks;
      }

  -- and it breaks the move
  pub broken-more : IsFoundOver aim nets.exact (moved nets.approx move) x → IsBrokenBySome aim.metric nets.exact aim.bound nets.approx t.vectors move
  broken-more over =
      let there : Contains (s.vectors ++ x ∷ []) x = Contains-append_right s.vectors (x ∷ []) x (Contains-here x []) in
      (x, subst (λ v. Contains v x) (sym (ap (λ (p : PatternSet). p.vectors) pushed)) there, over.exceeded.exceeds)

module _ (m : GrowingValue) where
  pub searched-none : (left : List Move) → left ≡ moves_of m.net → IsSearched m left
  searched-none left is = record { before = []; stands = sym is; broken = tt }

  module _ (left rest : List Move) (move : Move) (is : left ≡ move ∷ rest) (so_far : IsSearched m left) where
    pub stands_at : moves_of m.net ≡ so_far.before ++ move ∷ rest
    stands_at = so_far.stands ∙ ap (λ l. so_far.before ++ l) is

    pub searched-more : IsBrokenBySome m.metric m.exact m.bound m.net m.vectors move → IsSearched m rest
    searched-more broken = record {
      before = so_far.before ++ move ∷ [];
      stands = stands_at ∙ sym (append_assoc so_far.before (move ∷ []) rest);
      broken = each_more (IsBrokenBySome m.metric m.exact m.bound m.net m.vectors) so_far.before move so_far.broken broken;
    }

    pub searched-member : Contains (moves_of m.net) move
    searched-member = subst (λ l. Contains l move) (sym stands_at) (Contains-append_right so_far.before (move ∷ rest) move (Contains-here move rest))

module _ (aim : Constraint) (nets : NetPair) where
  -- where vectors join
  broken_still : (old new : List (List Bool)) → AreAmong old new → (moves : List Move) → AreBrokenBySome aim.metric nets.exact aim.bound nets.approx old moves
      → AreBrokenBySome aim.metric nets.exact aim.bound nets.approx new moves
  broken_still old new among [] h = tt
  broken_still old new among (m ∷ moves) h = ((h.0.0, among h.0.0 h.0.1, h.0.2), broken_still old new among moves h.1)

  pub searched-still : (old new : List (List Bool)) (left : List Move) → AreAmong old new → IsSearched (masks_over aim nets old) left → IsSearched (masks_over aim nets new) left
  searched-still old new left among h = record { before = h.before; stands = h.stands; broken = broken_still old new among h.before h.broken }

  -- the next move that no vector of the pool breaks, as the masks tell it
  pub searched-next : (s : PatternSet) (m : GrowingValue) (rest : List Move) (found : Option Move) (move : Move) → IsMaskedPool aim nets s m → IsNextUnbroken m rest found → found ≡ Some move
      → IsSearched (masks_over aim nets s.vectors) (move ∷ rest)
  searched-next s m rest found move masked next is =
      let first : IsFirstUnbroken m rest move = subst (IsNextUnbroken m rest) is next in
      subst (λ k. IsSearched k (move ∷ rest)) masked.masks first.searched

  -- the first move that none of the old vectors breaks, where vectors may have joined
  module _ (old new : List (List Bool)) (rest : List Move) (move : Move) (so_far : IsSearched (masks_over aim nets old) (move ∷ rest)) (among : AreAmong old new) where
    -- a new vector breaks it
    pub searched-broken : IsBrokenBySome aim.metric nets.exact aim.bound nets.approx new move → IsSearched (masks_over aim nets new) rest
    searched-broken broken =
        searched-more (masks_over aim nets new) (move ∷ rest) rest move refl (searched-still old new (move ∷ rest) among so_far) broken

    -- it is allowed
    pub searched-first : AllByRecursion (λ x. length x ≡ input_count nets.exact) old → (M : NetValue) → IsAllowedMove aim.metric nets.exact aim.bound nets.approx move
        → M ≡ moved nets.approx move → IsFirstMoved aim nets M
    searched-first widths M allowed net = record {
      move = move;
      first = record {
        before = so_far.before;
        after = rest;
        stands = so_far.stands;
        none_before = minimal-none_allowed aim.metric nets.exact aim.bound nets.approx old so_far.before widths so_far.broken;
        allowed = allowed;
      };
      net = net;
    }

    -- the query about it was spent
    pub searched-spent : (s : spent.Spent) → IsSpentOn aim nets.exact (moved nets.approx move) s → IsSpentMove aim nets.exact nets.approx new (spent_value s)
    searched-spent s on = record {
      query = on.query;
      level = on.level;
      before = so_far.before;
      move = move;
      after = rest;
      stands = so_far.stands;
      net = on.net;
      broken = broken_still old new among so_far.before so_far.broken;
    }
