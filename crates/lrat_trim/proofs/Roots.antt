-- Where the root stands: a log that refutes has one, nothing before it is the empty clause, and what is kept behind a place before it is kept.
use Rattle.std.proofs.Common.{◌≡◌, ℕ, zero, suc, ◌<◌, Bool, true, false, cond, List, [], ◌∷◌, length, get_or, drop, refl, sym, ◌∙◌, arith, None, Some}
use Rattle.std.specs.Prelude.{nat_lt, position}
use Rattle.std.specs.List.{Contains, position_or_len}
use Rattle.std.proofs.lemmas.Bool.{ltb-false}
use Rattle.std.proofs.lemmas.List.Sums.{fails_before_first}
use Rattle.std.proofs.lemmas.List.Quantifiers.{position-Some}
use Rattle.proof_semantics.specs.declared.item.Item.TheVariants.{Add, Remove}
use Rattle.proof_semantics.specs.Clauses.{Clause}
use Rattle.proof_semantics.specs.Logs.{StepValue, LogItem, Refutes}
use Rattle.trim_semantics.specs.Kept.{is_empty_clause, root_of}
use Rattle.trim_semantics.specs.Trimming.{is_named, kept_steps}
use Rattle.trim_semantics.proofs.Members.{contains_later}
use Rattle.trim_semantics.proofs.Keeping.{has_root}
use Rattle.lrat_trim.specs.Backwards.{adds_empty_clause}

root_stands : (log : List LogItem) (s : StepValue) → root_of log ≡ Some s → (k : ℕ) × (k < length log) × (adds_empty_clause (get_or log k (Add s)) ≡ true)
root_stands [] s e = cc
root_stands (Add u ∷ log) s e = at_test (is_empty_clause u.literals) refl e (root_stands log s) where
  at_test : (t : Bool) → is_empty_clause u.literals ≡ t → cond t (Some u) (root_of log) ≡ Some s
      → (root_of log ≡ Some s → (k : ℕ) × (k < length log) × (adds_empty_clause (get_or log k (Add s)) ≡ true))
      → (k : ℕ) × (k < length (Add u ∷ log)) × (adds_empty_clause (get_or (Add u ∷ log) k (Add s)) ≡ true)
  at_test true is e next = (0, omega arith, is)
  at_test false is e next = let found = next e in let low = found.1 in (suc found.0, omega (arith, low), found.2)
root_stands (Remove ids ∷ log) s e = let found = root_stands log s e in let low = found.1 in (suc found.0, omega (arith, low), found.2)

none_passes : {X : Type 0} (p : X → Bool) (xs : List X) → position p xs ≡ None → (k : ℕ) (d : X) → k < length xs → p (get_or xs k d) ≡ false
none_passes p xs none k d within = at_test (nat_lt (position_or_len p xs) (length xs)) refl none where
  at_test : (t : Bool) → nat_lt (position_or_len p xs) (length xs) ≡ t → cond t (Some (position_or_len p xs)) None ≡ None → p (get_or xs k d) ≡ false
  at_test true is e = cc
  at_test false is e = let low = ltb-false (position_or_len p xs) (length xs) is in fails_before_first p xs k d (omega (arith, low, within))

-- a log that refutes adds the empty clause
pub has_place : (formula : List Clause) (log : List LogItem) → Refutes formula log → ¬ (position adds_empty_clause log ≡ None)
has_place formula log r none =
    let root = has_root formula log r in
    let found = root_stands log root.0 root.1 in
    let bad : true ≡ false = sym found.2 ∙ none_passes adds_empty_clause log none found.0 (Add root.0) found.1 in
    let no : ⊥ = cc in
    no

kept_behind : (u : StepValue) (log : List LogItem) (s : StepValue) → is_empty_clause u.literals ≡ false → Contains (kept_steps log) s → Contains (kept_steps (Add u ∷ log)) s
kept_behind u log s is m = at_tests (is_empty_clause u.literals) (is_named (kept_steps log) u.id) is where
  at_tests : (empty named : Bool) → empty ≡ false → Contains (cond empty (u ∷ []) (cond named (u ∷ kept_steps log) (kept_steps log))) s
  at_tests true named e = cc
  at_tests false true e = contains_later u (kept_steps log) s m
  at_tests false false e = m

-- what is kept from a place on that is not behind the root
pub kept_from : (log : List LogItem) (place : ℕ) (s : StepValue) → ((k : ℕ) (d : LogItem) → k < place → adds_empty_clause (get_or log k d) ≡ false) → Contains (kept_steps (drop place log)) s
    → Contains (kept_steps log) s
kept_from log zero s none m = m
kept_from [] (suc place) s none m = m
kept_from (Add u ∷ log) (suc place) s none m =
    kept_behind u log s (none 0 (Add u) (omega arith)) (kept_from log place s (λ k d low. none (suc k) d (omega (arith, low))) m)
kept_from (Remove ids ∷ log) (suc place) s none m = kept_from log place s (λ k d low. none (suc k) d (omega (arith, low))) m

-- nothing before the root is the empty clause
pub none_before : (log : List LogItem) (root : ℕ) → position adds_empty_clause log ≡ Some root → (k : ℕ) (d : LogItem) → k < root → adds_empty_clause (get_or log k d) ≡ false
none_before log root is k d low = (position-Some adds_empty_clause log root d is).2 k low
