-- The ids that a kept step is the last to name: those of its hints that are above the formula's clauses, and not named behind it.
use Rattle.std.proofs.Common.{◌≡◌, ℕ, ◌+◌, ◌<◌, Bool, false, not, ◌==◌, get_or, List, [], map, subst, sym, ◌∙◌}
use Rattle.std.specs.Prelude.{◌&&◌, nat_lt, filter, length}
use Rattle.std.specs.List.{Contains}
use Rattle.std.specs.List.Retain.{IsFiltered, DiffersFromLast}
use Rattle.std.specs.List.Sorted.{IsPermutation, IsSorted}
use Rattle.std.specs.Ordering.{nat_cmp}
use Rattle.std.proofs.lemmas.Bool.{and_parts, and_from, not-true, not_from_false, lt-ltb, ltb-true}
use Rattle.std.proofs.lemmas.List.Filters.{dedup_is}
use Rattle.std.proofs.lemmas.List.Kept.{Contains-dedup_nat, Contains-from_dedup, AllPairs-from_increasing, AllPairs-filter}
use Rattle.std.proofs.lemmas.List.Sorted.{Contains-permutation, IsPermutation-sym}
use Rattle.std.proofs.lemmas.Map.Keys.{IsStrictlyIncreasing-dedup}
use Rattle.proof_semantics.specs.Clauses.{Clause}
use Rattle.proof_semantics.specs.Logs.{StepValue, LogItem, Refutes}
use Rattle.trim_semantics.specs.Trimming.{has_id, is_named, kept_steps}
use Rattle.trim_semantics.proofs.Members.{filter_contains, contains_filter, contains_map, same_list}
use Rattle.trim_semantics.proofs.Naming.{has-contains, contains-has}
use Rattle.trim_semantics.proofs.Keeping.{named_kept, kept_above, kept_in_order}
use Rattle.trim_semantics.proofs.Trims.{ids_rise}
use Rattle.lrat_trim.specs.Backwards.{is_fresh, AreFresh}

-- filtered, sorted, and each once
pub are_fresh : (clauses : ℕ) (hints : List ℕ) (named : ℕ → Bool) (found sorted ids : List ℕ) → found ≡ filter (is_fresh clauses named) hints → IsPermutation found sorted → IsSorted nat_cmp sorted
    → IsFiltered (DiffersFromLast ◌==◌) [] sorted ids → AreFresh clauses hints named ids
are_fresh clauses hints named found sorted ids is moved order once =
    let left = dedup_is _ _ _ once in
    record {
      exactly = λ id. (
        (λ m.
            let among : Contains found id = Contains-permutation _ _ id (IsPermutation-sym _ _ moved) (Contains-from_dedup _ _ id (subst (λ xs. Contains xs id) left m)) in
            contains_filter (is_fresh clauses named) hints id (subst (λ xs. Contains xs id) is among)),
        (λ m.
            let among : Contains found id = subst (λ xs. Contains xs id) (sym is) (filter_contains (is_fresh clauses named) hints id m.0 m.1) in
            subst (λ xs. Contains xs id) (sym left) (Contains-dedup_nat _ id (Contains-permutation _ _ id moved among))),
      );
      in_order = AllPairs-from_increasing ids (subst (λ xs. (k : ℕ) → k + 1 < length xs → get_or xs k 0 < get_or xs (k + 1) 0) (sym left) (IsStrictlyIncreasing-dedup _ order));
    }

-- the fresh ids of a kept step are those that end after it
module _ (formula : List Clause) (log : List LogItem) (r : Refutes formula log) (s : StepValue) (later : List StepValue) (named : ℕ → Bool) (ids : List ℕ)
    (same : (id : ℕ) → named id ≡ is_named later id) (kept : Contains (kept_steps log) s) (fresh : AreFresh (length formula) s.hints named ids) where
  ends : (id : ℕ) → Contains ids id → Contains (filter (λ q. has_id s.hints q && not (is_named later q)) (map (λ t. t.id) (kept_steps log))) id
  ends id m =
      let h = (fresh.exactly id).0 m in
      let both = and_parts (nat_lt (length formula) id) (not (named id)) h.1 in
      let unnamed : is_named later id ≡ false = sym (same id) ∙ not-true (named id) both.1 in
      filter_contains _ (map (λ t. t.id) (kept_steps log)) id
      (named_kept formula log r s id kept h.0 (ltb-true (length formula) id both.0))
      (and_from (has_id s.hints id) (not (is_named later id)) (contains-has s.hints id h.0) (not_from_false (is_named later id) unnamed))

  ended : (id : ℕ) → Contains (filter (λ q. has_id s.hints q && not (is_named later q)) (map (λ t. t.id) (kept_steps log))) id → Contains ids id
  ended id m =
      let parts = contains_filter _ (map (λ t. t.id) (kept_steps log)) id m in
      let both = and_parts (has_id s.hints id) (not (is_named later id)) parts.1 in
      let found = contains_map (λ (t : StepValue). t.id) (kept_steps log) id parts.0 in
      let above : length formula < id = subst (λ q. length formula < q) found.2 (kept_above formula log r found.0 found.1) in
      let unnamed : named id ≡ false = same id ∙ not-true (is_named later id) both.1 in
      (fresh.exactly id).1 (has-contains s.hints id both.0, and_from (nat_lt (length formula) id) (not (named id)) (lt-ltb (length formula) id above) (not_from_false (named id) unnamed))

  pub fresh_ended : ids ≡ filter (λ q. has_id s.hints q && not (is_named later q)) (map (λ t. t.id) (kept_steps log))
  fresh_ended =
      same_list (λ a. a) ids (filter (λ q. has_id s.hints q && not (is_named later q)) (map (λ t. t.id) (kept_steps log))) fresh.in_order
      (AllPairs-filter (λ a b. a < b) _ (map (λ t. t.id) (kept_steps log)) (ids_rise (kept_steps log) (kept_in_order formula log r))) ends ended
