-- The steps of a table from what the code computed.
use Rattle.std.proofs.Common.{◌≡◌, ℕ, zero, suc, ◌+◌, ◌^◌, ◌<◌, Bool, true, false, not, List, [], ◌∷◌, ◌++◌, length, refl, ap, subst, sym, ◌∙◌, arith, inl, inr}
use mathlib.Core.Bool.{beq}
use Rattle.proof_semantics.specs.declared.item.Item.TheVariants.{Add}
use Rattle.proof_semantics.specs.Clauses.{Clause}
use Rattle.proof_semantics.specs.NetClauses.{literal_at, implications, variables_from}
use Rattle.proof_semantics.specs.Formula.{Formula}
use Rattle.proof_semantics.specs.Logs.{LogItem, IsDerivation}
use Rattle.proof_semantics.specs.Conflicts.{clauses_with}
use Rattle.proof_semantics.proofs.Counts.{length-implications}
use Rattle.merge_log.specs.Chains.{ChainValue, started, ended_with, table_chain}
use Rattle.merge_log.specs.Ids.{HasId, HaveIds, link}
use Rattle.merge_log.specs.Steps.{Adds, row_pairs}
use Rattle.merge_log.proofs.Chained.{knows-first, knows-second}
use Rattle.merge_log.proofs.ClauseIds.{ids-parts}
use Rattle.merge_log.proofs.TableSteps.{SaySo}
use Rattle.merge_log.proofs.Adding.{literal-of, adds-table}

beq_true : (a b : Bool) → beq a b ≡ true → a ≡ b
beq_true true true e = refl
beq_true true false e = cc
beq_true false true e = cc
beq_true false false e = refl

beq_false : (a b : Bool) → beq a b ≡ false → a ≡ b → ⊥
beq_false true true e same = cc
beq_false true false e same = cc
beq_false false true e same = cc
beq_false false false e same = cc

say_forth : (clauses : List Clause) (row other count equal : ℕ) → HaveIds clauses equal (row_pairs row other count) → SaySo clauses equal other row count
say_forth clauses row other zero equal h = tt
say_forth clauses row other (suc count) equal h = (inl h.0, say_forth clauses (suc row) (suc other) count (suc (suc equal)) h.1.1)

say_back : (clauses : List Clause) (row other count equal : ℕ) → HaveIds clauses equal (row_pairs row other count) → SaySo clauses (suc equal) row other count
say_back clauses row other zero equal h = tt
say_back clauses row other (suc count) equal h = (inr h.1.0, say_back clauses (suc row) (suc other) count (suc (suc equal)) h.1.1)

module _ (f : Formula) (old new : List LogItem) (h : IsDerivation f old) (s u row other id behind equal count : ℕ) (hints : List ℕ) (low : s < f.variables) (lower : u < f.variables)
    (pairs : HaveIds (clauses_with f.clauses old) equal (row_pairs row other count)) (short : length f.clauses + length old + 1 < 2 ^ 61) where
  abbrev pub Implied : Bool → ℕ → ℕ → ℕ → Type 0
  Implied plane from first at = HaveIds f.clauses at (implications first count (literal_at from plane) ++ (literal_at from (not plane) ∷ variables_from first count) ∷ [])

  parts : (plane : Bool) (from first at : ℕ) → Implied plane from first at
      → HaveIds f.clauses at (implications first count (literal_at from plane)) × HasId f.clauses (at + count) (literal_at from (not plane) ∷ variables_from first count)
  parts plane from first at ids =
      let split = ids-parts f.clauses (implications first count (literal_at from plane)) ((literal_at from (not plane) ∷ variables_from first count) ∷ []) at (at + count)
      (ap (λ k. at + k) (sym (length-implications first count (literal_at from plane)))) ids in
      (split.0, split.1.0)

  pub table_direct : (plane : Bool) → Implied plane s row id → Implied plane u other behind
      → hints ≡ ended_with (table_chain other row behind equal count (started (literal_at s plane) (literal_at u (not plane)))) (id + count)
      → new ≡ old ++ Add (record { id = length f.clauses + length old + 1; literals = literal_at s (not plane) ∷ literal_at u plane ∷ []; hints = hints }) ∷ []
      → Adds f old new ((literal_at s (not plane) ∷ literal_at u plane ∷ []) ∷ [])
  table_direct true own there is grown =
      adds-table f old new h s u other row count behind equal (id + count) (length f.clauses + length old + 1) true (literal_at s false) (literal_at u true) hints
      (literal-of f.variables s false low) (literal-of f.variables u true lower) (knows-first (literal_at s true) (literal_at u false)) (knows-second (literal_at s true) (literal_at u false))
      (parts true u other behind there).0 (say_forth (clauses_with f.clauses old) row other count equal pairs) (parts true s row id own).1 is refl (omega (arith, short)) grown
  table_direct false own there is grown =
      adds-table f old new h s u other row count behind equal (id + count) (length f.clauses + length old + 1) false (literal_at s true) (literal_at u false) hints
      (literal-of f.variables s true low) (literal-of f.variables u false lower) (knows-first (literal_at s false) (literal_at u true)) (knows-second (literal_at s false) (literal_at u true))
      (parts false u other behind there).0 (say_forth (clauses_with f.clauses old) row other count equal pairs) (parts false s row id own).1 is refl (omega (arith, short)) grown

  pub table_turned : (plane : Bool) → Implied plane s row id → Implied plane u other behind
      → hints ≡ ended_with (table_chain row other id (equal + 1) count (started (literal_at s (not plane)) (literal_at u plane))) (behind + count)
      → new ≡ old ++ Add (record { id = length f.clauses + length old + 1; literals = literal_at s plane ∷ literal_at u (not plane) ∷ []; hints = hints }) ∷ []
      → Adds f old new ((literal_at s plane ∷ literal_at u (not plane) ∷ []) ∷ [])
  table_turned true own there is grown =
      let next : suc equal ≡ equal + 1 = omega arith in
      adds-table f old new h u s row other count id (equal + 1) (behind + count) (length f.clauses + length old + 1) true (literal_at s true) (literal_at u false) hints
      (literal-of f.variables s true low) (literal-of f.variables u false lower) (knows-second (literal_at s false) (literal_at u true)) (knows-first (literal_at s false) (literal_at u true))
      (parts true s row id own).0 (subst (λ e. SaySo (clauses_with f.clauses old) e row other count) next (say_back (clauses_with f.clauses old) row other count equal pairs))
      (parts true u other behind there).1 is refl (omega (arith, short)) grown
  table_turned false own there is grown =
      let next : suc equal ≡ equal + 1 = omega arith in
      adds-table f old new h u s row other count id (equal + 1) (behind + count) (length f.clauses + length old + 1) false (literal_at s false) (literal_at u true) hints
      (literal-of f.variables s false low) (literal-of f.variables u true lower) (knows-second (literal_at s true) (literal_at u false)) (knows-first (literal_at s true) (literal_at u false))
      (parts false s row id own).0 (subst (λ e. SaySo (clauses_with f.clauses old) e row other count) next (say_back (clauses_with f.clauses old) row other count equal pairs))
      (parts false u other behind there).1 is refl (omega (arith, short)) grown

  -- the sign is the plane
  pub pushed_direct : (sign plane : Bool) → beq sign plane ≡ true → (c : ChainValue) (clause : Clause) → Implied plane s row id → Implied plane u other behind
      → c ≡ started (literal_at s sign) (literal_at u (not sign)) → hints ≡ ended_with (table_chain other row behind equal count c) (id + count) → clause ≡ link s u sign
      → new ≡ old ++ Add (record { id = length f.clauses + length old + 1; literals = clause; hints = hints }) ∷ [] → Adds f old new (link s u sign ∷ [])
  pushed_direct sign plane test c clause own there chain is made grown =
      let same : sign ≡ plane = beq_true sign plane test in
      table_direct sign (subst (λ p. Implied p s row id) (sym same) own) (subst (λ p. Implied p u other behind) (sym same) there)
      (is ∙ ap (λ d. ended_with (table_chain other row behind equal count d) (id + count)) chain)
      (subst (λ l. new ≡ old ++ Add (record { id = length f.clauses + length old + 1; literals = l; hints = hints }) ∷ []) made grown)

  turned : (sign plane : Bool) → beq sign plane ≡ false → (c : ChainValue) → Implied plane s row id → Implied plane u other behind
      → c ≡ started (literal_at s sign) (literal_at u (not sign)) → hints ≡ ended_with (table_chain row other id (equal + 1) count c) (behind + count)
      → new ≡ old ++ Add (record { id = length f.clauses + length old + 1; literals = link s u sign; hints = hints }) ∷ [] → Adds f old new (link s u sign ∷ [])
  turned true true test c own there chain is grown = absurd (beq_false true true test refl)
  turned true false test c own there chain is grown =
      table_turned false own there (is ∙ ap (λ d. ended_with (table_chain row other id (equal + 1) count d) (behind + count)) chain) grown
  turned false true test c own there chain is grown =
      table_turned true own there (is ∙ ap (λ d. ended_with (table_chain row other id (equal + 1) count d) (behind + count)) chain) grown
  turned false false test c own there chain is grown = absurd (beq_false false false test refl)

  -- the sign is the plane's opposite
  pub pushed_turned : (sign plane : Bool) → beq sign plane ≡ false → (c : ChainValue) (clause : Clause) → Implied plane s row id → Implied plane u other behind
      → c ≡ started (literal_at s sign) (literal_at u (not sign)) → hints ≡ ended_with (table_chain row other id (equal + 1) count c) (behind + count) → clause ≡ link s u sign
      → new ≡ old ++ Add (record { id = length f.clauses + length old + 1; literals = clause; hints = hints }) ∷ [] → Adds f old new (link s u sign ∷ [])
  pushed_turned sign plane test c clause own there chain is made grown =
      turned sign plane test c own there chain is
      (subst (λ l. new ≡ old ++ Add (record { id = length f.clauses + length old + 1; literals = l; hints = hints }) ∷ []) made grown)
