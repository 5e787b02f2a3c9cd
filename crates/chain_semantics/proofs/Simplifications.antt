-- The chain of simplifications from a beginning: it has one end, each step lowers the number of literals, and its members are tidy and sound, keep
-- the ports and the bound, and do not grow.
use Rattle.std.proofs.Common.{◌≡◌, ◌⊎◌, ℕ, ◌<◌, ◌≤◌, true, ◌&&◌, List, [], ◌∷◌, length, All, refl, subst, ◌∙◌, inl, inr, arith}
use Rattle.std.specs.List.{Contains}
use Rattle.std.proofs.lemmas.Bool.{and_parts}
use Rattle.std.proofs.lemmas.List.Elements.{All-weaker, All-contains_itself, All-set}
use Rattle.semantics.specs.declared.mark.Mark.{Mark}
use Rattle.semantics.specs.Net.{TableValue, NetValue, no_table, table_at, literal_count, IsSound, IsSmall}
use Rattle.semantics.specs.Error.{error_of, net_error, IsWithin}
use Rattle.semantics.specs.declared.metric.Metric.{Metric}
use Rattle.semantics.specs.Value.{outputs_of}
use Rattle.chain_semantics.specs.declared.moves.Move.{Move}
use Rattle.chain_semantics.specs.Chain.{IsFirstAllowed, IsInChain, IsChainEnd}
use Rattle.chain_semantics.specs.Chain.IsInChain.{first, next}
use Rattle.chain_semantics.specs.Moves.{moves_of, table_of, moved_table, moved}
use Rattle.chain_semantics.specs.MoveLaws.{HasFullRows, IsLoweredFrom, IsMovedFrom}
use Rattle.chain_semantics.specs.TidyRules.{is_empty, is_canonical_rows, is_canonical}
use Rattle.chain_semantics.specs.Tidy.{IsTidy, IsTidiedFrom}
use Rattle.chain_semantics.specs.TidyLaws.{KeepsNet, DoesNotGrow, HasLiterals}
use Rattle.chain_semantics.specs.Simplification.{IsAllowedMove, IsTidiedMove, IsBeginning, IsInSimplificationFrom, IsSimplificationEndFrom, IsInSimplification}
use Rattle.chain_semantics.specs.SimplificationLaws.{IsSimplifiedNetFrom, IsSimplifiedNet}
use Rattle.chain_semantics.proofs.SameNets.{IsWithin-same}
use Rattle.chain_semantics.proofs.ChainEnds.{first_allowed_at, IsChainEnd-only}
use Rattle.chain_semantics.proofs.MoveMembers.{move_is}
use Rattle.chain_semantics.proofs.MovedNets.{move-within, narrowed, moved-keeps, moved-lowers}
use Rattle.chain_semantics.proofs.TidyNets.{small, tidy-literals}
use Rattle.chain_semantics.proofs.TidyReached.{reached-keeps, reached-no_growth, no_growth-both, tidied-unique}

-- a net that is tidied keeps the bound
IsWithin-tidied : (metric : Metric) (exact N M : NetValue) (bound : ℕ) → KeepsNet N M → IsWithin metric exact bound N → IsWithin metric exact bound M
unfolding net_error
IsWithin-tidied metric exact N M bound keeps h x width = subst (λ bits. error_of metric (outputs_of exact x) bits ≤ bound) (keeps.values x) (h x width)

-- a canonical constant has one row at most
canonical-rows : (rows : List (List Mark)) → is_canonical_rows rows ≡ true → length rows ≤ 1
canonical-rows [] e = omega arith
canonical-rows ([] ∷ []) e = omega arith
canonical-rows ([] ∷ marks ∷ rows) e = cc
canonical-rows ((m ∷ marks) ∷ rows) e = cc

full_rows : (t : TableValue) → (is_canonical t ≡ true) ⊎ HasLiterals t → HasFullRows t
full_rows t (inl canonical) two =
    let parts = and_parts (is_empty t.pins && t.plane) (is_canonical_rows t.rows) canonical in
    absurd (omega (arith, canonical-rows t.rows parts.1, two))
full_rows t (inr has) two = has.rows

tidy-full_rows : (N : NetValue) → IsTidy N → All HasFullRows N.tables
tidy-full_rows N tidy = All-weaker (λ t. (is_canonical t ≡ true) ⊎ HasLiterals t) HasFullRows full_rows N.tables (tidy-literals N tidy)

pub tidy-lowers : (N : NetValue) (move : Move) → IsSound N → IsTidy N → Contains (moves_of N) move → IsLoweredFrom N (moved N move)
tidy-lowers N move sound tidy c = moved-lowers N move sound (tidy-full_rows N tidy) (move_is N sound.acyclic move c)

-- what a move makes of a sound tidy net
pub record IsGoodMove (N M : NetValue) : Type 0 where
  pub moved : IsMovedFrom N M
  pub no_growth : DoesNotGrow N M
  pub falls : literal_count M < literal_count N

good_move : (N : NetValue) (move : Move) → IsSound N → IsTidy N → Contains (moves_of N) move → IsGoodMove N (moved N move)
good_move N move sound tidy c =
    let is = move_is N sound.acyclic move c in
    let keeps = moved-keeps N move sound is in
    let lower = tidy-lowers N move sound tidy c in
    let t : ℕ = table_of move in
    let narrow = narrowed N move sound is in
    record {
      moved = keeps;
      no_growth = record {
        tables = omega (arith, keeps.tables);
        literals = omega (arith, lower.literals);
        rows = lower.rows;
        pins = lower.pins;
        table_pins = λ most few.
            All-set (λ (u : TableValue). length u.pins ≤ most) N.tables t (moved_table (table_at N.tables t) move)
            (omega (arith, narrow.pins, few t no_table (move-within N move is))) few;
      };
      falls = lower.literals;
    }

-- a sound net is a beginning of its own chain
pub itself : (metric : Metric) (exact : NetValue) (bound : ℕ) → IsSound exact → IsBeginning metric exact bound exact
itself metric exact bound sound = record { sound = sound; ports = record { inputs = refl; outputs = refl }; within = IsWithin-same metric exact bound }

module _ (metric : Metric) (exact : NetValue) (bound : ℕ) where
  abbrev Allowed : NetValue → Move → Type 0
  Allowed = IsAllowedMove metric exact bound

  pub first_move : (N : NetValue) (move : Move) → IsSound N → IsTidy N → IsFirstAllowed (Allowed N) (moves_of N) move → IsGoodMove N (moved N move)
  first_move N move sound_N tidy f =
      first_allowed_at (Allowed N) (λ m. IsGoodMove N (moved N m)) (moves_of N) move f
      (All-weaker (Contains (moves_of N)) (λ m. IsGoodMove N (moved N m)) (λ m c. good_move N m sound_N tidy c) (moves_of N) (All-contains_itself (moves_of N)))

  module _ (begin : NetValue) where
    pub end_from-only : (N M : NetValue) → IsSimplificationEndFrom metric exact bound begin N → IsSimplificationEndFrom metric exact bound begin M → N ≡ M
    end_from-only N M of_N of_M =
        IsChainEnd-only moves_of Allowed IsTidiedMove (λ K move L P. tidied-unique (moved K move) L P) of_N.start N M of_N.end
        (subst (λ s. IsChainEnd moves_of Allowed IsTidiedMove s M) (tidied-unique begin of_M.start of_N.start of_M.tidied of_N.tidied) of_M.end)

    module _ (is_begin : IsBeginning metric exact bound begin) where
      simplified-start : (N : NetValue) → IsTidiedFrom begin N → IsSimplifiedNetFrom metric exact bound begin N
      simplified-start N tidied =
          let keeps = reached-keeps begin N is_begin.sound tidied.reached in
          record {
            sound = keeps.sound;
            tidy = tidied.tidy;
            model = keeps.model;
            ports = record { inputs = is_begin.ports.inputs ∙ keeps.ports.inputs; outputs = is_begin.ports.outputs ∙ keeps.ports.outputs };
            no_growth = reached-no_growth begin N is_begin.sound tidied.reached;
            within = IsWithin-tidied metric exact begin N bound keeps is_begin.within;
          }

      simplified-next : (N M : NetValue) (move : Move) → IsSimplifiedNetFrom metric exact bound begin N → IsFirstAllowed (Allowed N) (moves_of N) move → IsTidiedMove N move M
          → IsSimplifiedNetFrom metric exact bound begin M
      simplified-next N M move h f tidied =
          let made = first_move N move h.sound h.tidy f in
          let keeps = reached-keeps (moved N move) M made.moved.sound tidied.reached in
          record {
            sound = keeps.sound;
            tidy = tidied.tidy;
            model = keeps.model ∙ made.moved.model ∙ h.model;
            ports = record { inputs = h.ports.inputs ∙ made.moved.ports.inputs ∙ keeps.ports.inputs; outputs = h.ports.outputs ∙ made.moved.ports.outputs ∙ keeps.ports.outputs };
            no_growth =
                no_growth-both begin (moved N move) M (no_growth-both begin N (moved N move) h.no_growth made.no_growth)
                (reached-no_growth (moved N move) M made.moved.sound tidied.reached);
            within = IsWithin-tidied metric exact (moved N move) M bound keeps f.allowed;
          }

      simplified-after : (start N : NetValue) → IsSimplifiedNetFrom metric exact bound begin start → IsInChain moves_of Allowed IsTidiedMove start N → IsSimplifiedNetFrom metric exact bound begin N
      simplified-after start N h first = h
      simplified-after start N h (next s t move r f tidied) = simplified-next s t move (simplified-after start s h r) f tidied

      pub simplified_from : (N : NetValue) → IsInSimplificationFrom metric exact bound begin N → IsSimplifiedNetFrom metric exact bound begin N
      simplified_from N h = simplified-after h.start N (simplified-start h.start h.tidied) h.member

      -- the start of the chain is small with the beginning, and each member with the one before
      small-after : (start N : NetValue) → IsSmall start → IsSimplifiedNetFrom metric exact bound begin start → IsInChain moves_of Allowed IsTidiedMove start N → IsSmall N
      small-after start N few h first = few
      small-after start N few h (next s t move r f tidied) =
          let before : IsSimplifiedNetFrom metric exact bound begin s = simplified-after start s h r in
          let made = first_move s move before.sound before.tidy f in
          small (moved s move) t (made.moved.small (small-after start s few h r)) (reached-keeps (moved s move) t made.moved.sound tidied.reached)
          (reached-no_growth (moved s move) t made.moved.sound tidied.reached)

      pub simplified_from-small : (N : NetValue) → IsSmall begin → IsInSimplificationFrom metric exact bound begin N → IsSmall N
      simplified_from-small N few h =
          small-after h.start N
          (small begin h.start few (reached-keeps begin h.start is_begin.sound h.tidied.reached) (reached-no_growth begin h.start is_begin.sound h.tidied.reached))
          (simplified-start h.start h.tidied) h.member

      -- each step lowers the number of literals
      pub simplified_from-falls : (N M : NetValue) (move : Move) → IsInSimplificationFrom metric exact bound begin N → IsFirstAllowed (Allowed N) (moves_of N) move → IsTidiedMove N move M
          → literal_count M < literal_count N
      simplified_from-falls N M move h f tidied =
          let is = simplified_from N h in
          let made = first_move N move is.sound is.tidy f in
          omega (arith, made.falls, (reached-no_growth (moved N move) M made.moved.sound tidied.reached).literals)

  -- the chain that begins with the exact net itself
  module _ (sound : IsSound exact) where
    pub simplified : (N : NetValue) → IsInSimplification metric exact bound N → IsSimplifiedNet metric exact bound N
    simplified = simplified_from exact (itself metric exact bound sound)

    pub simplified-small : (N : NetValue) → IsSmall exact → IsInSimplification metric exact bound N → IsSmall N
    simplified-small = simplified_from-small exact (itself metric exact bound sound)
