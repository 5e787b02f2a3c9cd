-- The members of the chain from a beginning, and what its search comes to.
use Rattle.std.proofs.Common.{◌≡◌, Some, None, ap, subst, ◌∙◌}
use Rattle.semantics.specs.Net.{NetValue}
use Rattle.chain_semantics.specs.Chain.IsInChain.{next}
use Rattle.chain_semantics.specs.Minimality.{IsMinimalBy}
use Rattle.chain_semantics.specs.Moves.{moves_of}
use Rattle.chain_semantics.specs.Simplification.{IsTidiedMove, IsBeginning, IsInSimplificationFrom}
use Rattle.chain_semantics.specs.Tidy.{IsTidiedFrom}
use Rattle.proof_semantics.specs.declared.constraint.Constraint.{Constraint}
use Rattle.job_semantics.specs.Shrinking.{IsSpentMove, IsShrinking}
use Rattle.job_semantics.proofs.MinimalNets.{minimal-none_allowed}
use Rattle.lane_bits.specs.Patterns.{PatternSet}
use Rattle.net_errors.specs.Compared.{NetPair}
use Rattle.level_answers.specs.declared.query.Spent as spent
use Rattle.level_answers.specs.Exceeds.{spent_value}
use Rattle.chain_semantics.proofs.Simplifications.{simplified_from-falls}
use Rattle.synth_core.specs.AllowedMoves.{IsPool, IsFirstMoved}
use Rattle.synth_core.specs.Turns.{IsNextMember}

module _ (aim : Constraint) (nets : NetPair) where
  -- what the net after the first allowed move is tidied to
  pub tidied_move : (N M K : NetValue) (found : IsFirstMoved aim (record { exact = nets.exact; approx = N }) M) → IsTidiedFrom M K → IsTidiedMove N found.move K
  tidied_move N M K found tidied = subst (λ L. IsTidiedFrom L K) found.net tidied

  pub next-in_simplification : (N M K : NetValue) → IsInSimplificationFrom aim.metric nets.exact aim.bound nets.approx N → IsFirstMoved aim (record { exact = nets.exact; approx = N }) M
      → IsTidiedFrom M K → IsInSimplificationFrom aim.metric nets.exact aim.bound nets.approx K
  next-in_simplification N M K h found tidied =
      record { start = h.start; tidied = h.tidied; member = next N K found.move h.member found.first (tidied_move N M K found tidied) }

  -- each move is broken, so none is allowed
  pub shrinking-end : (N : NetValue) (pool : PatternSet) → IsInSimplificationFrom aim.metric nets.exact aim.bound nets.approx N → IsPool nets.exact pool
      → IsMinimalBy aim.metric nets.exact aim.bound N pool.vectors → IsShrinking aim nets.exact nets.approx (record { net = N; pool = pool.vectors; spent = None })
  shrinking-end N pool h is minimal = record {
    member = h;
    outcome = record {
      end = record {
        start = h.start;
        tidied = h.tidied;
        end = record { member = h.member; none_allowed = minimal-none_allowed aim.metric nets.exact aim.bound N pool.vectors (moves_of N) is.widths minimal };
      };
      minimal = minimal;
    };
    widths = is.widths;
    apart = is.apart;
    counting = is.counting;
  }

  pub shrinking-spent : (N : NetValue) (pool : PatternSet) → IsInSimplificationFrom aim.metric nets.exact aim.bound nets.approx N → IsPool nets.exact pool → (s : spent.Spent)
      → IsSpentMove aim nets.exact N pool.vectors (spent_value s) → IsShrinking aim nets.exact nets.approx (record { net = N; pool = pool.vectors; spent = Some (spent_value s) })
  shrinking-spent N pool h is s spent = record { member = h; outcome = spent; widths = is.widths; apart = is.apart; counting = is.counting }

  -- the first allowed move was made, and the net tidied
  pub next-member : (N M K : NetValue) → IsBeginning aim.metric nets.exact aim.bound nets.approx → IsInSimplificationFrom aim.metric nets.exact aim.bound nets.approx N
      → IsFirstMoved aim (record { exact = nets.exact; approx = N }) M → IsTidiedFrom M K → IsNextMember aim nets N K
  next-member N M K is h found tidied = record {
    member = next-in_simplification N M K h found tidied;
    fewer = simplified_from-falls aim.metric nets.exact aim.bound nets.approx is N K found.move h found.first (tidied_move N M K found tidied);
  }

-- the exact net beside a member
pub beside_member : (P : NetPair) (E exact member : NetValue) → P ≡ record { exact = E; approx = member } → E ≡ exact → P ≡ record { exact = exact; approx = member }
beside_member P E exact member is same = is ∙ ap (λ (K : NetValue). record { exact = K; approx = member }) same
