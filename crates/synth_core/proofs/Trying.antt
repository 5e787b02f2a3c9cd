-- What the masks and a query say of a move.
use Rattle.std.proofs.Common.{◌≡◌, ℕ, ◌^◌, ◌<◌, ◌≤◌, Option, Some, None, [], length, slice_index_or, sym, ap, subst, ◌∙◌, inl, inr, arith}
use Rattle.std.specs.List.{Contains}
use Rattle.std.proofs.lemmas.Bool.{cases_lt}
use Rattle.std.proofs.lemmas.List.Elements.{All-from_get_or, All-contains, Contains-get_or}
use Rattle.semantics.specs.Net.{TableValue, NetValue, input_count, table_at, IsSound, HasSamePorts}
use Rattle.semantics.specs.Error.{net_error, IsCandidate}
use Rattle.semantics.specs.Vectors.{bits_of, all_vectors}
use Rattle.semantics.proofs.Vectors.{length-all_vectors, each_vector}
use Rattle.chain_semantics.specs.declared.moves.Move.{Move}
use Rattle.chain_semantics.specs.Care.{IsBrokenAt}
use Rattle.chain_semantics.specs.Minimality.{IsBrokenBySome}
use Rattle.chain_semantics.specs.Moves.{moves_of, moved, table_of}
use Rattle.net_moves.specs.Made.{IsMadeIn}
use Rattle.chain_semantics.specs.Simplification.{IsAllowedMove}
use Rattle.chain_semantics.specs.MoveLaws.{IsMovedFrom}
use Rattle.chain_semantics.proofs.MoveMembers.{move_is}
use Rattle.chain_semantics.proofs.MovedNets.{moved-keeps}
use Rattle.care_masks.specs.Masks.{FindsFirstBroken}
use Rattle.care_masks.specs.Growing.{GrowingValue}
use Rattle.lane_bits.specs.Patterns.{PatternSet}
use Rattle.net_errors.specs.Compared.{NetPair}
use Rattle.proof_semantics.specs.declared.constraint.Constraint.{Constraint}
use Rattle.level_answers.specs.declared.margin.Margin.{Margin}
use Rattle.level_answers.specs.declared.margin.Margin.TheVariants.{Over, Within, Spent}
use Rattle.level_answers.specs.Levels.{IsLevelAnswer}
use Rattle.synth_core.specs.MoveTrials.{IsJudged}
use Rattle.synth_core.specs.AllowedMoves.{masks_over, IsMaskedPool, IsCandidateMove}
use Rattle.synth_core.proofs.Pools.{vector_at}

module _ (m : GrowingValue) (move : Move) where
  -- a pattern that breaks the move was found
  pub found_broken : (found : Option ℕ) (p : ℕ) → found ≡ Some p → FindsFirstBroken m move found
      → IsBrokenBySome m.metric m.exact m.bound m.net m.vectors move
  found_broken None p is h = absurd (cc (is))
  found_broken (Some q) p is h = (slice_index_or m.vectors q [], Contains-get_or m.vectors q [] h.within, h.broken)

  -- none was found
  pub found_none : (found : Option ℕ) → found ≡ None → FindsFirstBroken m move found → Contains (moves_of m.net) move → IsCandidateMove m move
  found_none None is h offered = record {
    offered = offered;
    unbroken = λ x there.
        All-contains (λ y. ¬ IsBrokenAt m.metric m.exact m.bound m.net move y) m.vectors x (All-from_get_or (λ y. ¬ IsBrokenAt m.metric m.exact m.bound m.net move y) m.vectors [] h) there;
  }
  found_none (Some p) is h offered = absurd (cc (is))

  -- no vector breaks it, and every vector is one of these
  pub candidate-allowed : IsCandidateMove m move → m.vectors ≡ all_vectors (input_count m.exact) → IsAllowedMove m.metric m.exact m.bound m.net move
  candidate-allowed candidate all =
      let n : ℕ = input_count m.exact in
      let count : length m.vectors ≡ 2 ^ n = ap length all ∙ length-all_vectors n in
      each_vector n (λ x. net_error m.metric m.exact (moved m.net move) x ≤ m.bound)
      (λ j low.
      let at_j : slice_index_or m.vectors j [] ≡ bits_of n j = ap (λ v. slice_index_or v j []) all ∙ vector_at n j low in
      let there : Contains m.vectors (bits_of n j) = subst (Contains m.vectors) at_j (Contains-get_or m.vectors j [] (omega (arith, low, count))) in
      elim (cases_lt m.bound (net_error m.metric m.exact (moved m.net move) (bits_of n j))) [
        | inl over ↦ absurd (candidate.unbroken (bits_of n j) there over)
        | inr under ↦ under
      ])

-- a candidate of the masks over a pool, where the pool has every vector
pub allowed-few : (aim : Constraint) (nets : NetPair) (s : PatternSet) (m : GrowingValue) (move : Move) → IsMaskedPool aim nets s m → IsCandidateMove m move → input_count nets.exact ≤ 8
    → IsAllowedMove aim.metric nets.exact aim.bound nets.approx move
allowed-few aim nets s m move masked candidate few =
    candidate-allowed (masks_over aim nets s.vectors) move (subst (λ k. IsCandidateMove k move) masked.masks candidate) (masked.pool.counting few)

-- the moved net keeps the ports
moved-ports : (exact N : NetValue) (move : Move) (M : NetValue) → M ≡ moved N move → IsSound N → Contains (moves_of N) move → HasSamePorts exact N → HasSamePorts exact M
moved-ports exact N move M is sound there ports =
    let keeps : IsMovedFrom N (moved N move) = moved-keeps N move sound (move_is N sound.acyclic move there) in
    subst (HasSamePorts exact) (sym is) (record { inputs = ports.inputs ∙ keeps.ports.inputs; outputs = ports.outputs ∙ keeps.ports.outputs })

pub moved-candidate : (exact N : NetValue) (move : Move) (M : NetValue) → M ≡ moved N move → IsSound N → Contains (moves_of N) move → IsCandidate exact N → IsCandidate exact M
moved-candidate exact N move M is sound there nets = record { ports = moved-ports exact N move M is sound there nets.ports; few_outputs = nets.few_outputs }

-- what is answered to the question of a level judges the moved net
pub judged-by : (aim : Constraint) (exact M : NetValue) (m : Margin) → 8 < input_count exact → IsLevelAnswer aim exact M m → IsJudged aim exact M m
judged-by aim exact M (Over x) many answer = record { many = many; exceeded = answer }
judged-by aim exact M Within many answer = answer
judged-by aim exact M (Spent s) many answer = answer

-- the copy of a net in which the move was made
pub made_in : (N before now : NetValue) (move : Move) (table : TableValue) → before ≡ N → IsSound N → Contains (moves_of N) move → now ≡ moved before move
    → table ≡ table_at before.tables (table_of move) → IsMadeIn N move table now
made_in N before now move table same sound offered made stood = record {
  sound = sound;
  offered = offered;
  made = made ∙ ap (λ (M : NetValue). moved M move) same;
  stood = stood ∙ ap (λ (M : NetValue). table_at M.tables (table_of move)) same;
}
