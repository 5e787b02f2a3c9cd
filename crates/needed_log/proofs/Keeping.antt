-- What stands at marked places, and where.
use Rattle.std.proofs.Common.{◌≡◌, ℕ, zero, suc, ◌<◌, ◌≤◌, Bool, true, false, List, [], ◌∷◌, ◌++◌, length, get_or, take, refl, ap, sym, ◌∙◌, ◌+◌, inl, inr, arith}
use Rattle.std.proofs.lemmas.Bool.{cases_lt}
use Rattle.std.proofs.lemmas.List.{get_or_append_left, get_or_push}
use Rattle.needed_log.specs.Kept.{IsMarked, kept}
use Rattle.needed_log.specs.Renumbered.{rank}

pub rank_marked : (marks : List Bool) (k : ℕ) → IsMarked marks k → rank marks (suc k) ≡ suc (rank marks k)
rank_marked [] k h = cc
rank_marked (true ∷ marks) zero h = refl
rank_marked (false ∷ marks) zero h = cc
rank_marked (true ∷ marks) (suc k) h = ap suc (rank_marked marks k h)
rank_marked (false ∷ marks) (suc k) h = rank_marked marks k h

rank_unmarked : (marks : List Bool) (k : ℕ) → get_or marks k false ≡ false → rank marks (suc k) ≡ rank marks k
rank_unmarked [] zero h = refl
rank_unmarked [] (suc k) h = refl
rank_unmarked (true ∷ marks) zero h = cc
rank_unmarked (false ∷ marks) zero h = refl
rank_unmarked (true ∷ marks) (suc k) h = ap suc (rank_unmarked marks k h)
rank_unmarked (false ∷ marks) (suc k) h = rank_unmarked marks k h

-- one place further
pub rank_more : (marks : List Bool) (k : ℕ) → IsMarked marks k → rank marks (k + 1) ≡ rank marks k + 1
rank_more marks k h = let next : k + 1 ≡ suc k = omega arith in let more = rank_marked marks k h in ap (rank marks) next ∙ omega (arith, more)

pub rank_stays : (marks : List Bool) (k : ℕ) → get_or marks k false ≡ false → rank marks (k + 1) ≡ rank marks k
rank_stays marks k h = let next : k + 1 ≡ suc k = omega arith in ap (rank marks) next ∙ rank_unmarked marks k h

pub rank_le : (marks : List Bool) (k : ℕ) → rank marks k ≤ k
rank_le marks zero = omega arith
rank_le [] (suc k) = omega arith
rank_le (true ∷ marks) (suc k) = let rest = rank_le marks k in omega (arith, rest)
rank_le (false ∷ marks) (suc k) = let rest = rank_le marks k in omega (arith, rest)

rank_mono : (marks : List Bool) (j k : ℕ) → j ≤ k → rank marks j ≤ rank marks k
rank_mono marks zero k h = omega arith
rank_mono marks (suc j) zero h = absurd (omega (arith, h))
rank_mono [] (suc j) (suc k) h = omega arith
rank_mono (true ∷ marks) (suc j) (suc k) h = let rest = rank_mono marks j k (omega (arith, h)) in omega (arith, rest)
rank_mono (false ∷ marks) (suc j) (suc k) h = rank_mono marks j k (omega (arith, h))

-- a marked place has a lower rank than the places behind it
pub rank_rises : (marks : List Bool) (j k : ℕ) → IsMarked marks j → j < k → rank marks j < rank marks k
rank_rises marks j k h low = let here = rank_marked marks j h in let rest = rank_mono marks (suc j) k (omega (arith, low)) in omega (arith, here, rest)

-- where all places before one are marked its rank is its number
pub rank_all : (marks : List Bool) (k : ℕ) → ((j : ℕ) → j < k → IsMarked marks j) → rank marks k ≡ k
rank_all marks zero h = refl
rank_all marks (suc k) h = rank_marked marks k (h k (omega arith)) ∙ ap suc (rank_all marks k (λ j low. h j (omega (arith, low))))

-- the ids of one place more
pub ids_more : (clauses : ℕ) (marks : List Bool) (ids new : List ℕ) (i next : ℕ) → length ids ≡ i → ((k : ℕ) → k < i → get_or ids k 0 ≡ clauses + 1 + rank marks k)
    → next ≡ clauses + 1 + rank marks i → new ≡ ids ++ next ∷ [] → (k : ℕ) → k < i + 1 → get_or new k 0 ≡ clauses + 1 + rank marks k
ids_more clauses marks ids new i next count h here is k low = elim (cases_lt k i) [
  | inl before ↦ ap (λ all. get_or all k 0) is ∙ get_or_append_left ids (next ∷ []) 0 k (omega (arith, before, count)) ∙ h k before
  | inr behind ↦ let at : k ≡ i = omega (arith, low, behind) in ap (λ all. get_or all k 0) is ∙ get_or_push ids next 0 k (count ∙ sym at) ∙ here ∙ ap (λ p. clauses + 1 + rank marks p) (sym at)
]

module _ {X : Type 0} where
  -- how many are kept of the first p
  pub length_kept : (marks : List Bool) (xs : List X) (p : ℕ) → length marks ≡ length xs → length (kept (take p marks) (take p xs)) ≡ rank marks p
  length_kept marks xs zero e = refl
  length_kept [] xs (suc p) e = refl
  length_kept (mark ∷ marks) [] (suc p) e = absurd (omega (arith, e))
  length_kept (true ∷ marks) (x ∷ xs) (suc p) e = ap suc (length_kept marks xs p (omega (arith, e)))
  length_kept (false ∷ marks) (x ∷ xs) (suc p) e = length_kept marks xs p (omega (arith, e))

  pub kept_marked : (marks : List Bool) (xs : List X) (p : ℕ) (d : X) → length marks ≡ length xs → IsMarked marks p
      → kept (take (suc p) marks) (take (suc p) xs) ≡ kept (take p marks) (take p xs) ++ get_or xs p d ∷ []
  kept_marked [] xs p d e h = cc
  kept_marked (mark ∷ marks) [] p d e h = absurd (omega (arith, e))
  kept_marked (true ∷ marks) (x ∷ xs) zero d e h = refl
  kept_marked (false ∷ marks) (x ∷ xs) zero d e h = cc
  kept_marked (true ∷ marks) (x ∷ xs) (suc p) d e h = ap (λ rest. x ∷ rest) (kept_marked marks xs p d (omega (arith, e)) h)
  kept_marked (false ∷ marks) (x ∷ xs) (suc p) d e h = kept_marked marks xs p d (omega (arith, e)) h

  pub kept_unmarked : (marks : List Bool) (xs : List X) (p : ℕ) → length marks ≡ length xs → get_or marks p false ≡ false
      → kept (take (suc p) marks) (take (suc p) xs) ≡ kept (take p marks) (take p xs)
  kept_unmarked [] [] zero e h = refl
  kept_unmarked [] [] (suc p) e h = refl
  kept_unmarked [] (x ∷ xs) p e h = absurd (omega (arith, e))
  kept_unmarked (mark ∷ marks) [] p e h = absurd (omega (arith, e))
  kept_unmarked (true ∷ marks) (x ∷ xs) zero e h = cc
  kept_unmarked (false ∷ marks) (x ∷ xs) zero e h = refl
  kept_unmarked (true ∷ marks) (x ∷ xs) (suc p) e h = ap (λ rest. x ∷ rest) (kept_unmarked marks xs p (omega (arith, e)) h)
  kept_unmarked (false ∷ marks) (x ∷ xs) (suc p) e h = kept_unmarked marks xs p (omega (arith, e)) h

  -- what is kept of the first p stands first
  pub kept_take : (marks : List Bool) (xs : List X) (p : ℕ) → length marks ≡ length xs → take (rank marks p) (kept marks xs) ≡ kept (take p marks) (take p xs)
  kept_take marks xs zero e = refl
  kept_take [] xs (suc p) e = refl
  kept_take (mark ∷ marks) [] (suc p) e = absurd (omega (arith, e))
  kept_take (true ∷ marks) (x ∷ xs) (suc p) e = ap (λ rest. x ∷ rest) (kept_take marks xs p (omega (arith, e)))
  kept_take (false ∷ marks) (x ∷ xs) (suc p) e = kept_take marks xs p (omega (arith, e))

  -- the first p are all kept where they are marked
  pub kept_all : (marks : List Bool) (xs : List X) (p : ℕ) → length marks ≡ length xs → ((k : ℕ) → k < p → IsMarked marks k) → kept (take p marks) (take p xs) ≡ take p xs
  kept_all marks xs zero e h = refl
  kept_all [] [] (suc p) e h = refl
  kept_all [] (x ∷ xs) (suc p) e h = absurd (omega (arith, e))
  kept_all (mark ∷ marks) [] (suc p) e h = absurd (omega (arith, e))
  kept_all (true ∷ marks) (x ∷ xs) (suc p) e h = ap (λ rest. x ∷ rest) (kept_all marks xs p (omega (arith, e)) (λ k low. h (suc k) (omega (arith, low))))
  kept_all (false ∷ marks) (x ∷ xs) (suc p) e h = let bad : false ≡ true = h 0 (omega arith) in cc

  -- among what is kept of the first p
  pub kept_before : (marks : List Bool) (xs : List X) (p k : ℕ) (d : X) → length marks ≡ length xs → k < p → IsMarked marks k
      → get_or (kept (take p marks) (take p xs)) (rank marks k) d ≡ get_or xs k d
  kept_before marks xs zero k d e low h = absurd (omega (arith, low))
  kept_before [] xs (suc p) k d e low h = cc
  kept_before (mark ∷ marks) [] (suc p) k d e low h = absurd (omega (arith, e))
  kept_before (true ∷ marks) (x ∷ xs) (suc p) zero d e low h = refl
  kept_before (false ∷ marks) (x ∷ xs) (suc p) zero d e low h = cc
  kept_before (true ∷ marks) (x ∷ xs) (suc p) (suc k) d e low h = kept_before marks xs p k d (omega (arith, e)) (omega (arith, low)) h
  kept_before (false ∷ marks) (x ∷ xs) (suc p) (suc k) d e low h = kept_before marks xs p k d (omega (arith, e)) (omega (arith, low)) h

  -- what is kept stood at a marked place
  pub place_of : (marks : List Bool) (xs : List X) (i : ℕ) → length marks ≡ length xs → i < length (kept marks xs) → (k : ℕ) × (k < length xs) × IsMarked marks k × (rank marks k ≡ i)
  place_of [] xs i e low = absurd (omega (arith, low))
  place_of (mark ∷ marks) [] i e low = absurd (omega (arith, e))
  place_of (true ∷ marks) (x ∷ xs) zero e low = (0, omega arith, refl, refl)
  place_of (true ∷ marks) (x ∷ xs) (suc i) e low =
      let found = place_of marks xs i (omega (arith, e)) (omega (arith, low)) in let within = found.1 in (suc found.0, omega (arith, within), found.2, ap suc found.3)
  place_of (false ∷ marks) (x ∷ xs) i e low = let found = place_of marks xs i (omega (arith, e)) low in let within = found.1 in (suc found.0, omega (arith, within), found.2, found.3)
