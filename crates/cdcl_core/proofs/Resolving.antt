-- Resolving an entry.
use Rattle.std.specs.Prelude.{ℤ, neg_ℤ, ◌≢◌, ◌⊎◌, All}
use Rattle.std.proofs.Common.{◌≡◌, ℕ, suc, Bool, true, false, ◌<◌, ◌≤◌, List, [], ◌∷◌, ◌++◌, length, get_or, reverse, refl, ap, sym, ◌∙◌, inl, inr, arith}
use Rattle.std.proofs.lemmas.Bool.{cases_eq}
use Rattle.std.proofs.lemmas.List.{get_or-set_same, get_or-set_other, reverse-append}
use Rattle.std.proofs.Math.ListN.{set}
use Rattle.proof_semantics.specs.Clauses.{Clause}
use Rattle.cdcl_core.specs.Trail.{literal_at, IsTrueBelow, IsConsistent, IsReason}
use Rattle.cdcl_core.specs.Explained.{IsMarked, IsExplained}
use Rattle.cdcl_core.specs.Analysis.{mark_at, AreOthersMarked, IsShortened}
use Rattle.cdcl_core.proofs.Derived.{marks-resolved}
use Rattle.cdcl_core.proofs.Propagating.{clause_read}

-- the other literals of a reason, in the clause as it was read
pub reason_others : (clauses : List Clause) (trail : List ℤ) (i j : ℕ) (C D : Clause) (own : ℤ) → IsReason clauses trail i j → C ≡ get_or clauses j C → D ≡ C → own ≡ literal_at trail i
    → All (λ a. (a ≡ own) ⊎ IsTrueBelow trail i (neg_ℤ a)) D
reason_others clauses trail i j C D own r is same e =
    rw (clause_read clauses j C D r.held is same, e) r.others

pub resolved_explained : (clauses : List Clause) (trail : List ℤ) (old new : List Bool) (hints after : List ℕ) (i j id : ℕ) (C D : Clause) (own : ℤ) → IsConsistent trail → i < length trail
    → IsReason clauses trail i j
    → C ≡ get_or clauses j C → D ≡ C → own ≡ literal_at trail i → ((p : ℕ) → mark_at (set old i false) p ≡ true → mark_at new p ≡ true)
    → All (λ a. (a ≡ own) ⊎ IsMarked trail new (neg_ℤ a)) D → id ≡ suc j → after ≡ hints ++ id ∷ []
    → IsExplained clauses trail old (reverse hints) → IsExplained clauses trail new (reverse after)
resolved_explained clauses trail old new hints after i j id C D own c within r is same e kept marked number more h =
    let turned : reverse after ≡ suc j ∷ reverse hints = ap reverse more ∙ reverse-append hints (id ∷ []) ∙ ap (λ n. n ∷ reverse hints) number in
    rw turned (marks-resolved clauses trail old new (reverse hints) i j c within r
    (λ p other m. kept p (get_or-set_other old i p false false other ∙ m))
    (rw (sym (clause_read clauses j C D r.held is same), sym e) marked) h)

pub resolved_kept : (old new : List Bool) (i p : ℕ) → ((q : ℕ) → mark_at (set old i false) q ≡ true → mark_at new q ≡ true) → p ≢ i → mark_at old p ≡ true → mark_at new p ≡ true
resolved_kept old new i p kept other m = kept p (get_or-set_other old i p false false other ∙ m)

pub resolved_below : (old new : List Bool) (i p : ℕ) → i < length old → ((q : ℕ) → i ≤ q → mark_at new q ≡ true → mark_at (set old i false) q ≡ true) → i ≤ p → mark_at new p ≡ true
    → (p ≢ i) × (mark_at old p ≡ true)
resolved_below old new i p within below high m = elim (cases_eq p i) [
  | inl e ↦ let one : mark_at (set old i false) i ≡ true = ap (mark_at (set old i false)) (sym e) ∙ below p high m in let two = get_or-set_same old i false false within in absurd (cc)
  | inr other ↦ (other, sym (get_or-set_other old i p false false other) ∙ below p high m)
]

-- the mark of an entry was taken away, and then others were set before it
pub replaced_kept : (trail : List ℤ) (old unset new : List Bool) (C : Clause) (own : ℤ) (entry : ℕ) → unset ≡ set old entry false
    → AreOthersMarked trail unset new (record { clause = C; own = own; bound = entry })
    → (p : ℕ) → p ≢ entry → mark_at old p ≡ true → mark_at new p ≡ true
replaced_kept trail old unset new C own entry e h p other m = h.kept p (ap (λ xs. mark_at xs p) e ∙ get_or-set_other old entry p false false other ∙ m)

pub replaced_below : (trail : List ℤ) (old unset new : List Bool) (C : Clause) (own : ℤ) (entry : ℕ) → unset ≡ set old entry false → entry < length old
    → AreOthersMarked trail unset new (record { clause = C; own = own; bound = entry })
    → (p : ℕ) → entry ≤ p → mark_at new p ≡ true → (p ≢ entry) × (mark_at old p ≡ true)
replaced_below trail old unset new C own entry e inside h p high m =
    let was : mark_at (set old entry false) p ≡ true = ap (λ xs. mark_at xs p) (sym e) ∙ h.below p high m in
    elim (cases_eq p entry) [
      | inl here ↦
          let off : mark_at (set old entry false) p ≡ false = ap (mark_at (set old entry false)) here ∙ get_or-set_same old entry false false inside in
          absurd (cc)
      | inr other ↦ (other, sym (get_or-set_other old entry p false false other) ∙ was)
    ]

-- one entry less before start
pub shortened_resolved : (old new : List Bool) (place start : ℕ) → length new ≡ length old → ((p : ℕ) → p ≢ place → mark_at old p ≡ true → mark_at new p ≡ true)
    → ((p : ℕ) → place ≤ p → mark_at new p ≡ true → (p ≢ place) × (mark_at old p ≡ true)) → place < start → IsShortened old new start
shortened_resolved old new place start same kept below low = record {
  same_length = same;
  kept = λ p high m. kept p (λ e. omega arith) m;
  only = λ p high m. (below p (omega arith) m).1;
}

pub shortened_same : (marks : List Bool) (start : ℕ) → IsShortened marks marks start
shortened_same marks start = record { same_length = refl; kept = λ p high m. m; only = λ p high m. m }

pub shortened_more : (one two three : List Bool) (start : ℕ) → IsShortened one two start → IsShortened two three start → IsShortened one three start
shortened_more one two three start a b = record {
  same_length = b.same_length ∙ a.same_length;
  kept = λ p high m. b.kept p high (a.kept p high m);
  only = λ p high m. a.only p high (b.only p high m);
}

-- what stays from an earlier place on stays from a later one on
pub shortened_later : (old new : List Bool) (first start : ℕ) → first ≤ start → IsShortened old new first → IsShortened old new start
shortened_later old new first start low h = record {
  same_length = h.same_length;
  kept = λ p high m. h.kept p (omega arith) m;
  only = λ p high m. h.only p (omega arith) m;
}
