-- A moved net has the outputs of the net, or of the net with the table's value turned over.
use Rattle.std.proofs.Common.{◌≡◌, ◌≢◌, ◌↔◌, ◌⊎◌, ℕ, suc, ◌+◌, ◌<◌, Bool, true, false, not, List, [], ◌∷◌, map, All, refl, sym, subst, inl, inr, arith}
use Rattle.semantics.specs.Net.{TableValue, NetValue, table_at, input_count, IsSound}
use Rattle.semantics.specs.Value.{value_of, outputs_of}
use Rattle.semantics.specs.Error.{error_of, net_error}
use Rattle.semantics.specs.declared.metric.Metric.{Metric}
use Rattle.semantics.proofs.Replaced.{replaced-same}
use Rattle.chain_semantics.specs.declared.moves.Move.{Move}
use Rattle.chain_semantics.specs.Moves.{table_of, moved_table, moved}
use Rattle.chain_semantics.specs.Flips.{flipped_values, flipped_outputs}
use Rattle.chain_semantics.specs.Care.{IsCaredFor, Exceeds, moved_value, Changes, IsBrokenAt}
use Rattle.chain_semantics.specs.MoveLaws.{IsMoveOf}
use Rattle.chain_semantics.proofs.Flipped.{flipped-opposite}
use Rattle.chain_semantics.proofs.MovedNets.{move-within, moved-acyclic}

pub map-same : (f g : ℕ → Bool) (xs : List ℕ) → All (λ s. f s ≡ g s) xs → map f xs ≡ map g xs
map-same f g [] h = refl
map-same f g (s ∷ xs) h =
    let here : f s ≡ g s = h 0 s (omega arith) in
    let rest : map f xs ≡ map g xs = map-same f g xs (λ k d low. h (suc k) d (omega arith)) in
    cc

-- two truth values are equal or opposite
cases_value : (a b : Bool) → (a ≡ b) ⊎ (a ≡ not b)
cases_value false false = inl refl
cases_value false true = inr refl
cases_value true false = inr refl
cases_value true true = inl refl

opposite-differs : (a b : Bool) → a ≡ not b → a ≢ b
opposite-differs a false e same = cc
opposite-differs a true e same = cc

module _ (N : NetValue) (m : Move) (x : List Bool) (sound : IsSound N) (is : IsMoveOf N m) where
  before : Bool
  before = value_of (input_count N) N.tables x (input_count N + table_of m)

  outputs-left : moved_value N m x ≡ before → outputs_of (moved N m) x ≡ outputs_of N x
  unfolding before outputs_of
  outputs-left e =
      let new : TableValue = moved_table (table_at N.tables (table_of m)) m in
      map-same (value_of (input_count N) (moved N m).tables x) (value_of (input_count N) N.tables x) N.outputs
      (λ k d low. replaced-same (input_count N) N.tables (table_of m) new x sound.acyclic (moved-acyclic N m sound is) e _ (sound.outputs_are_signals k d low))

  outputs-changed : moved_value N m x ≡ not before → outputs_of (moved N m) x ≡ flipped_outputs N x (table_of m)
  unfolding before outputs_of flipped_outputs
  outputs-changed e =
      let new : TableValue = moved_table (table_at N.tables (table_of m)) m in
      map-same (value_of (input_count N) (moved N m).tables x) (flipped_values (input_count N) N.tables x (table_of m)) N.outputs
      (λ k d low.
      flipped-opposite (input_count N) N.tables x (table_of m) new sound.acyclic (moved-acyclic N m sound is) (move-within N m is) e _
      (sound.outputs_are_signals k d low))

  pub move-left : ¬ Changes N m x → outputs_of (moved N m) x ≡ outputs_of N x
  unfolding before
  move-left same =
      elim (cases_value (moved_value N m x) before) [
        | inl e ↦ outputs-left e
        | inr e ↦ absurd (same (opposite-differs (moved_value N m x) before e))
      ]

  pub move-changed : Changes N m x → outputs_of (moved N m) x ≡ flipped_outputs N x (table_of m)
  unfolding before
  move-changed differs =
      elim (cases_value (moved_value N m x) before) [
        | inl e ↦ absurd (differs e)
        | inr e ↦ outputs-changed e
      ]

  pub move-broken : (metric : Metric) (exact : NetValue) (bound : ℕ)
      → IsBrokenAt metric exact bound N m x
      ↔ ((Changes N m x × IsCaredFor metric exact bound N (table_of m) x) ⊎ ((¬ Changes N m x) × Exceeds metric exact bound N x))
  unfolding before net_error
  move-broken metric exact bound =
      let Over : List Bool → Type 0 = λ outputs. bound < error_of metric (outputs_of exact x) outputs in (
        λ broken. elim (cases_value (moved_value N m x) before) [
          | inl e ↦ inr (λ differs. differs e, subst Over (outputs-left e) broken)
          | inr e ↦ inl (opposite-differs (moved_value N m x) before e, subst Over (outputs-changed e) broken)
        ],
        λ why. elim why [
          | inl changed ↦ subst Over (sym (move-changed changed.0)) changed.1
          | inr left ↦ subst Over (sym (move-left left.0)) left.1
        ],
      )
