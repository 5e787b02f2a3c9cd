-- What one signal has, another has that was made equal to the same one.
use Rattle.std.proofs.Common.{◌≡◌, ℕ, suc, ◌+◌, Bool, true, false, cond, not, ◌==◌, List, [], ◌∷◌, refl, subst, sym, arith, inl, inr, ◌⊎◌, ℤ, neg_ℤ}
use Rattle.std.specs.FinMap.{get}
use Rattle.std.proofs.lemmas.Bool.{eqb-true, eq-eqb}
use Rattle.std.proofs.lemmas.List.Elements.{All-from_recursion}
use Rattle.proof_semantics.specs.Clauses.{Clause}
use Rattle.proof_semantics.specs.NetClauses.{literal_at}
use Rattle.proof_semantics.specs.Logs.{LiteralSet, held_of}
use Rattle.merge_log.specs.Chains.{ChainValue, implied, MergedValue, first_of, id_of, to_first, from_first, carried}
use Rattle.merge_log.specs.Ids.{HasId, forth, back, AreMerged}
use Rattle.merge_log.proofs.Chained.{Knows, IsChain, Implies, chain-implied, knows-kept, knows-implied}
use Rattle.merge_log.proofs.ClauseIds.{held-id}

pub negated : (s : ℕ) (sign : Bool) → neg_ℤ (literal_at s sign) ≡ literal_at s (not sign)
negated s true = refl
negated s false = refl

-- two clauses of two literals, in either order
module _ (clauses : List Clause) (start : LiteralSet) where
  abbrev HintChain : ChainValue → Type 0
  HintChain c = IsChain (get (held_of clauses)) start c

  -- the second literal follows, as the first one is false
  pub implies-second : (c : ChainValue) (id : ℕ) (a l : ℤ) → HasId clauses id (a ∷ l ∷ []) → Knows c (neg_ℤ a) → Implies (get (held_of clauses)) start c id l
  implies-second c id a l h known = record {
    clause = a ∷ l ∷ [];
    is = held-id clauses id (a ∷ l ∷ []) h;
    inside = (1, omega arith, refl);
    others = All-from_recursion (λ b. (b ≡ l) ⊎ Knows c (neg_ℤ b)) (a ∷ l ∷ []) (inr known, (inl refl, tt));
  }

  -- one more clause: still a chain, what was known stays known, and the literal is known
  pub record Longer (c d : ChainValue) (l : ℤ) : Type 0 where
    pub chain : HintChain d
    pub kept : (m : ℤ) → Knows c m → Knows d m
    pub known : Knows d l

  pub longer-implied : (c : ChainValue) (id : ℕ) (a l : ℤ) → HintChain c → HasId clauses id (a ∷ l ∷ []) → Knows c (neg_ℤ a) → Longer c (implied c id l) l
  longer-implied c id a l chain h known = record {
    chain = chain-implied (get (held_of clauses)) start c id l chain (implies-second c id a l h known);
    kept = λ m. knows-kept c id l m;
    known = knows-implied c id l;
  }

  longer-here : (c : ChainValue) (l : ℤ) → HintChain c → Knows c l → Longer c c l
  longer-here c l chain known = record { chain = chain; kept = λ m h. h; known = known }

  module _ (m : MergedValue) (merged : AreMerged clauses m) where
    up : (c : ChainValue) (p : ℕ) (sign : Bool) → HintChain c → Knows c (literal_at p sign) → (first_of m p ≡ p → ⊥)
        → Longer c (implied c (id_of m p + cond sign 0 1) (literal_at (first_of m p) sign)) (literal_at (first_of m p) sign)
    up c p true chain known other =
        let id : id_of m p ≡ id_of m p + 0 = omega arith in
        longer-implied c (id_of m p + 0) (literal_at p false) (literal_at (first_of m p) true) chain (subst (λ k. HasId clauses k (forth p (first_of m p))) id (merged p other).0) known
    up c p false chain known other =
        let id : suc (id_of m p) ≡ id_of m p + 1 = omega arith in
        longer-implied c (id_of m p + 1) (literal_at p true) (literal_at (first_of m p) false) chain (subst (λ k. HasId clauses k (back p (first_of m p))) id (merged p other).1) known

    to_first-longer : (c : ChainValue) (p : ℕ) (sign : Bool) → HintChain c → Knows c (literal_at p sign) → Longer c (to_first c m p sign) (literal_at (first_of m p) sign)
    to_first-longer c p sign chain known = by_test (first_of m p == p) refl where
      by_test : (t : Bool) → (first_of m p == p) ≡ t
          → Longer c (cond t c (implied c (id_of m p + cond sign 0 1) (literal_at (first_of m p) sign))) (literal_at (first_of m p) sign)
      by_test true e = longer-here c (literal_at (first_of m p) sign) chain (subst (λ s. Knows c (literal_at s sign)) (sym (eqb-true (first_of m p) p e)) known)
      by_test false e = up c p sign chain known (λ same. let t = eq-eqb (first_of m p) p same in cc (t, e))

    down : (c : ChainValue) (q : ℕ) (sign : Bool) → HintChain c → Knows c (literal_at (first_of m q) sign) → (first_of m q ≡ q → ⊥)
        → Implies (get (held_of clauses)) start c (id_of m q + cond sign 1 0) (literal_at q sign)
    down c q true chain known other =
        let id : suc (id_of m q) ≡ id_of m q + 1 = omega arith in record {
          clause = back q (first_of m q);
          is = held-id clauses (id_of m q + 1) (back q (first_of m q)) (subst (λ k. HasId clauses k (back q (first_of m q))) id (merged q other).1);
          inside = (0, omega arith, refl);
          others = All-from_recursion (λ b. (b ≡ literal_at q true) ⊎ Knows c (neg_ℤ b)) (back q (first_of m q)) (inl refl, (inr known, tt));
        }
    down c q false chain known other =
        let id : id_of m q ≡ id_of m q + 0 = omega arith in record {
          clause = forth q (first_of m q);
          is = held-id clauses (id_of m q + 0) (forth q (first_of m q)) (subst (λ k. HasId clauses k (forth q (first_of m q))) id (merged q other).0);
          inside = (0, omega arith, refl);
          others = All-from_recursion (λ b. (b ≡ literal_at q false) ⊎ Knows c (neg_ℤ b)) (forth q (first_of m q)) (inl refl, (inr known, tt));
        }

    from_first-longer : (c : ChainValue) (q : ℕ) (sign : Bool) → HintChain c → Knows c (literal_at (first_of m q) sign) → Longer c (from_first c m q sign) (literal_at q sign)
    from_first-longer c q sign chain known = by_test (first_of m q == q) refl where
      by_test : (t : Bool) → (first_of m q == q) ≡ t → Longer c (cond t c (implied c (id_of m q + cond sign 1 0) (literal_at q sign))) (literal_at q sign)
      by_test true e = longer-here c (literal_at q sign) chain (subst (λ s. Knows c (literal_at s sign)) (eqb-true (first_of m q) q e) known)
      by_test false e = record {
        chain =
            chain-implied (get (held_of clauses)) start c (id_of m q + cond sign 1 0) (literal_at q sign) chain
            (down c q sign chain known (λ same. let t = eq-eqb (first_of m q) q same in cc (t, e)));
        kept = λ l. knows-kept c (id_of m q + cond sign 1 0) (literal_at q sign) l;
        known = knows-implied c (id_of m q + cond sign 1 0) (literal_at q sign);
      }

    pub carried-longer : (c : ChainValue) (p q : ℕ) (sign : Bool) → HintChain c → Knows c (literal_at p sign) → first_of m p ≡ first_of m q → Longer c (carried c m p q sign) (literal_at q sign)
    carried-longer c p q sign chain known same = by_test (p == q) refl where
      by_test : (t : Bool) → (p == q) ≡ t → Longer c (cond t c (from_first (to_first c m p sign) m q sign)) (literal_at q sign)
      by_test true e = longer-here c (literal_at q sign) chain (subst (λ s. Knows c (literal_at s sign)) (eqb-true p q e) known)
      by_test false e =
          let first = to_first-longer c p sign chain known in
          let next = from_first-longer (to_first c m p sign) q sign first.chain (subst (λ s. Knows (to_first c m p sign) (literal_at s sign)) same first.known) in
          record { chain = next.chain; kept = λ l h. next.kept l (first.kept l h); known = next.known }
