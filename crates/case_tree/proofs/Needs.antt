-- Signals that are needed, by a flag for each: what rows and tables ask for joins them.
use Rattle.std.proofs.Common.{◌≡◌, ◌≢◌, ℕ, ◌<◌, Bool, true, false, cond, List, [], ◌∷◌, length, get_or, set, refl, sym, subst, ◌∙◌, inl, inr, arith}
use Rattle.std.specs.List.{AllByRecursion}
use Rattle.std.proofs.lemmas.Bool.{cases_lt, cases_eq}
use Rattle.std.proofs.lemmas.List.{get_or-set_same, get_or-set_other, get_or_past, length-set}
use Rattle.semantics.specs.declared.mark.Mark.{Mark}
use Rattle.semantics.specs.declared.mark.Mark.TheVariants.{Zero, One, Dash}
use Rattle.semantics.specs.Net.{TableValue}
use Rattle.semantics.specs.Value.{Assignment, mark_matches, row_matches}
use Rattle.case_tree.specs.Cases.{has_match, asked_by_row, asked_by_failing, asked_by_match, asked_by_rows, asked_by_table}

abbrev pub IsNeeded : List Bool → ℕ → Type 0
IsNeeded needed s = get_or needed s false ≡ true

-- one flag more, or less
abbrev pub set_flag : List Bool → ℕ → List Bool
set_flag needed s = set needed s true

abbrev pub set_off : List Bool → ℕ → List Bool
set_off needed s = set needed s false

pub flag_within : (needed : List Bool) (s : ℕ) → IsNeeded needed s → s < length needed
flag_within needed s h =
    elim (cases_lt s (length needed)) [
      | inl low ↦ low
      | inr high ↦ absurd (let past = get_or_past needed s false high in cc (past, h))
    ]

-- ---- one flag more, or less

pub needed-set : (needed : List Bool) (s : ℕ) → s < length needed → IsNeeded (set needed s true) s
needed-set needed s low = get_or-set_same needed s true false low

pub needed-kept : (needed : List Bool) (s q : ℕ) → IsNeeded needed q → IsNeeded (set needed s true) q
needed-kept needed s q h =
    elim (cases_eq q s) [
      | inl same ↦ subst (λ k. IsNeeded (set needed s true) k) (sym same) (needed-set needed s (subst (λ k. k < length needed) same (flag_within needed q h)))
      | inr other ↦ get_or-set_other needed s q true false other ∙ h
    ]

pub needed-old : (needed : List Bool) (s q : ℕ) (b : Bool) → q ≢ s → IsNeeded (set needed s b) q → IsNeeded needed q
needed-old needed s q b other h = sym (get_or-set_other needed s q b false other) ∙ h

-- the signal that is taken off is no longer needed, and no other joins
pub needed-less : (needed : List Bool) (s q : ℕ) → IsNeeded (set needed s false) q → (q ≢ s) × IsNeeded needed q
needed-less needed s q h =
    elim (cases_eq q s) [
      | inl same ↦ absurd
          (elim (cases_lt s (length needed)) [
            | inl low ↦ let off = get_or-set_same needed s false false low in cc (same, off, h)
            | inr high ↦ let past = get_or_past (set needed s false) s false (omega (arith, high, length-set needed s false)) in cc (same, past, h)
          ])
      | inr other ↦ (other, needed-old needed s q false other h)
    ]

-- ---- what is needed stays needed

pub row-keeps : (marks : List Mark) (pins : List ℕ) (needed : List Bool) (q : ℕ) → IsNeeded needed q → IsNeeded (asked_by_row marks pins needed) q
row-keeps [] pins needed q h = h
row-keeps (m ∷ marks) [] needed q h = h
row-keeps (Zero ∷ marks) (s ∷ pins) needed q h = row-keeps marks pins (set needed s true) q (needed-kept needed s q h)
row-keeps (One ∷ marks) (s ∷ pins) needed q h = row-keeps marks pins (set needed s true) q (needed-kept needed s q h)
row-keeps (Dash ∷ marks) (s ∷ pins) needed q h = row-keeps marks pins needed q h

pub failing-keeps : (marks : List Mark) (pins : List ℕ) (v : Assignment) (needed : List Bool) (q : ℕ) → IsNeeded needed q → IsNeeded (asked_by_failing marks pins v needed) q
failing-keeps [] pins v needed q h = h
failing-keeps (m ∷ marks) [] v needed q h = h
failing-keeps (m ∷ marks) (s ∷ pins) v needed q h = by_test (mark_matches m (v s)) (failing-keeps marks pins v needed q h) where
  by_test : (t : Bool) → IsNeeded (asked_by_failing marks pins v needed) q → IsNeeded (cond t (asked_by_failing marks pins v needed) (set needed s true)) q
  by_test true rest = rest
  by_test false rest = needed-kept needed s q h

pub match-keeps : (pins : List ℕ) (rows : List (List Mark)) (v : Assignment) (needed : List Bool) (q : ℕ) → IsNeeded needed q → IsNeeded (asked_by_match pins rows v needed) q
match-keeps pins [] v needed q h = h
match-keeps pins (marks ∷ rows) v needed q h = by_test (row_matches marks pins v) (match-keeps pins rows v needed q h) where
  by_test : (t : Bool) → IsNeeded (asked_by_match pins rows v needed) q → IsNeeded (cond t (asked_by_row marks pins needed) (asked_by_match pins rows v needed)) q
  by_test true rest = row-keeps marks pins needed q h
  by_test false rest = rest

pub rows-keep : (pins : List ℕ) (rows : List (List Mark)) (v : Assignment) (needed : List Bool) (q : ℕ) → IsNeeded needed q → IsNeeded (asked_by_rows pins rows v needed) q
rows-keep pins [] v needed q h = h
rows-keep pins (marks ∷ rows) v needed q h = failing-keeps marks pins v (asked_by_rows pins rows v needed) q (rows-keep pins rows v needed q h)

pub table-keeps : (s : ℕ) (t : TableValue) (v : Assignment) (needed : List Bool) (q : ℕ) → IsNeeded needed q → IsNeeded (asked_by_table s t v needed) q
table-keeps s t v needed q h = by_test (has_match t.plane (v s)) where
  by_test : (b : Bool) → IsNeeded (cond b (asked_by_match t.pins t.rows v needed) (asked_by_rows t.pins t.rows v needed)) q
  by_test true = match-keeps t.pins t.rows v needed q h
  by_test false = rows-keep t.pins t.rows v needed q h

-- ---- only pins join

module _ (P : ℕ → Type 0) where
  abbrev Only : List Bool → Type 0
  Only needed = (q : ℕ) → IsNeeded needed q → P q

  set-only : (needed : List Bool) (s : ℕ) → P s → Only needed → Only (set needed s true)
  set-only needed s here h q is =
      elim (cases_eq q s) [
        | inl same ↦ subst P (sym same) here
        | inr other ↦ h q (needed-old needed s q true other is)
      ]

  row-only : (marks : List Mark) (pins : List ℕ) (needed : List Bool) → AllByRecursion P pins → Only needed → Only (asked_by_row marks pins needed)
  row-only [] pins needed all h = h
  row-only (m ∷ marks) [] needed all h = h
  row-only (Zero ∷ marks) (s ∷ pins) needed all h = row-only marks pins (set needed s true) all.1 (set-only needed s all.0 h)
  row-only (One ∷ marks) (s ∷ pins) needed all h = row-only marks pins (set needed s true) all.1 (set-only needed s all.0 h)
  row-only (Dash ∷ marks) (s ∷ pins) needed all h = row-only marks pins needed all.1 h

  failing-only : (marks : List Mark) (pins : List ℕ) (v : Assignment) (needed : List Bool) → AllByRecursion P pins → Only needed → Only (asked_by_failing marks pins v needed)
  failing-only [] pins v needed all h = h
  failing-only (m ∷ marks) [] v needed all h = h
  failing-only (m ∷ marks) (s ∷ pins) v needed all h = by_test (mark_matches m (v s)) (failing-only marks pins v needed all.1 h) where
    by_test : (t : Bool) → Only (asked_by_failing marks pins v needed) → Only (cond t (asked_by_failing marks pins v needed) (set needed s true))
    by_test true rest = rest
    by_test false rest = set-only needed s all.0 h

  match-only : (pins : List ℕ) (rows : List (List Mark)) (v : Assignment) (needed : List Bool) → AllByRecursion P pins → Only needed → Only (asked_by_match pins rows v needed)
  match-only pins [] v needed all h = h
  match-only pins (marks ∷ rows) v needed all h = by_test (row_matches marks pins v) (match-only pins rows v needed all h) where
    by_test : (t : Bool) → Only (asked_by_match pins rows v needed) → Only (cond t (asked_by_row marks pins needed) (asked_by_match pins rows v needed))
    by_test true rest = row-only marks pins needed all h
    by_test false rest = rest

  rows-only : (pins : List ℕ) (rows : List (List Mark)) (v : Assignment) (needed : List Bool) → AllByRecursion P pins → Only needed → Only (asked_by_rows pins rows v needed)
  rows-only pins [] v needed all h = h
  rows-only pins (marks ∷ rows) v needed all h = failing-only marks pins v (asked_by_rows pins rows v needed) all (rows-only pins rows v needed all h)

  pub table-only : (s : ℕ) (t : TableValue) (v : Assignment) (needed : List Bool) → AllByRecursion P t.pins → ((q : ℕ) → IsNeeded needed q → P q)
      → (q : ℕ) → IsNeeded (asked_by_table s t v needed) q → P q
  table-only s t v needed all h = by_test (has_match t.plane (v s)) where
    by_test : (b : Bool) → Only (cond b (asked_by_match t.pins t.rows v needed) (asked_by_rows t.pins t.rows v needed))
    by_test true = match-only t.pins t.rows v needed all h
    by_test false = rows-only t.pins t.rows v needed all h

-- ---- there are as many flags as before

pub length-row : (marks : List Mark) (pins : List ℕ) (needed : List Bool) → length (asked_by_row marks pins needed) ≡ length needed
length-row [] pins needed = refl
length-row (m ∷ marks) [] needed = refl
length-row (Zero ∷ marks) (s ∷ pins) needed = length-row marks pins (set needed s true) ∙ length-set needed s true
length-row (One ∷ marks) (s ∷ pins) needed = length-row marks pins (set needed s true) ∙ length-set needed s true
length-row (Dash ∷ marks) (s ∷ pins) needed = length-row marks pins needed

pub length-failing : (marks : List Mark) (pins : List ℕ) (v : Assignment) (needed : List Bool) → length (asked_by_failing marks pins v needed) ≡ length needed
length-failing [] pins v needed = refl
length-failing (m ∷ marks) [] v needed = refl
length-failing (m ∷ marks) (s ∷ pins) v needed = by_test (mark_matches m (v s)) (length-failing marks pins v needed) where
  by_test : (t : Bool) → length (asked_by_failing marks pins v needed) ≡ length needed → length (cond t (asked_by_failing marks pins v needed) (set needed s true)) ≡ length needed
  by_test true rest = rest
  by_test false rest = length-set needed s true

length-match : (pins : List ℕ) (rows : List (List Mark)) (v : Assignment) (needed : List Bool) → length (asked_by_match pins rows v needed) ≡ length needed
length-match pins [] v needed = refl
length-match pins (marks ∷ rows) v needed = by_test (row_matches marks pins v) (length-match pins rows v needed) where
  by_test : (t : Bool) → length (asked_by_match pins rows v needed) ≡ length needed → length (cond t (asked_by_row marks pins needed) (asked_by_match pins rows v needed)) ≡ length needed
  by_test true rest = length-row marks pins needed
  by_test false rest = rest

pub length-rows : (pins : List ℕ) (rows : List (List Mark)) (v : Assignment) (needed : List Bool) → length (asked_by_rows pins rows v needed) ≡ length needed
length-rows pins [] v needed = refl
length-rows pins (marks ∷ rows) v needed = length-failing marks pins v (asked_by_rows pins rows v needed) ∙ length-rows pins rows v needed

pub length-table : (s : ℕ) (t : TableValue) (v : Assignment) (needed : List Bool) → length (asked_by_table s t v needed) ≡ length needed
length-table s t v needed = by_test (has_match t.plane (v s)) where
  by_test : (b : Bool) → length (cond b (asked_by_match t.pins t.rows v needed) (asked_by_rows t.pins t.rows v needed)) ≡ length needed
  by_test true = length-match t.pins t.rows v needed
  by_test false = length-rows t.pins t.rows v needed
