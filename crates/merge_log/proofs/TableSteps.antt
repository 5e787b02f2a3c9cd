-- Tables of the same plane, whose rows were made equal, are made equal.
use Rattle.std.proofs.Common.{◌≡◌, ℕ, zero, suc, Bool, true, false, not, List, [], ◌∷◌, refl, subst, sym, arith, inl, inr, ◌⊎◌, ℤ, neg_ℤ}
use Rattle.std.specs.List.{AllByRecursion}
use Rattle.std.specs.FinMap.{get}
use Rattle.std.proofs.lemmas.List.Elements.{All-from_recursion}
use Rattle.proof_semantics.specs.Clauses.{Clause}
use Rattle.proof_semantics.specs.NetClauses.{literal_at, implications, variables_from}
use Rattle.proof_semantics.specs.Logs.{LiteralSet, EndsInConflict, held_of}
use Rattle.merge_log.specs.Chains.{ChainValue, implied, ended_with, table_chain}
use Rattle.merge_log.specs.Ids.{HasId, HaveIds, forth, back}
use Rattle.merge_log.proofs.Chained.{Knows, IsChain, Implies, chain-implied, knows-kept, knows-implied, chain-finished}
use Rattle.merge_log.proofs.ClauseIds.{held-id}
use Rattle.merge_log.proofs.Carried.{negated, implies-second}

-- the clause of this id says that the second row implies the first
abbrev pub SaysSo : List Clause → ℕ → ℕ → ℕ → Type 0
SaysSo clauses id row other = HasId clauses id (forth other row) ⊎ HasId clauses id (back row other)

-- each second clause from the id `id` on says so, of `count` rows
abbrev pub SaySo : List Clause → ℕ → ℕ → ℕ → ℕ → Type 0
SaySo clauses id row other zero = Unit {0}
SaySo clauses id row other (suc count) = SaysSo clauses id row other × SaySo clauses (suc (suc id)) (suc row) (suc other) count

module _ (clauses : List Clause) (start : LiteralSet) where
  abbrev HintChain : ChainValue → Type 0
  HintChain c = IsChain (get (held_of clauses)) start c

  implies-first : (c : ChainValue) (id : ℕ) (l b : ℤ) → HasId clauses id (l ∷ b ∷ []) → Knows c (neg_ℤ b) → Implies (get (held_of clauses)) start c id l
  implies-first c id l b h known = record {
    clause = l ∷ b ∷ [];
    is = held-id clauses id (l ∷ b ∷ []) h;
    inside = (0, omega arith, refl);
    others = All-from_recursion (λ x. (x ≡ l) ⊎ Knows c (neg_ℤ x)) (l ∷ b ∷ []) (inl refl, (inr known, tt));
  }

  implies-equal : (c : ChainValue) (id row other : ℕ) → SaysSo clauses id row other → Knows c (literal_at row false) → Implies (get (held_of clauses)) start c id (literal_at other false)
  implies-equal c id row other (inl h) known = implies-first c id (literal_at other false) (literal_at row true) h known
  implies-equal c id row other (inr h) known = implies-second clauses start c id (literal_at row true) (literal_at other false) h known

  record RowsKnown (c d : ChainValue) (other count : ℕ) : Type 0 where
    chain : HintChain d
    kept : (l : ℤ) → Knows c l → Knows d l
    known : AllByRecursion (λ a. Knows d (neg_ℤ a)) (variables_from other count)

  rows_known : (count row other id equal : ℕ) (l : ℤ) (c : ChainValue) → HintChain c → Knows c (neg_ℤ l) → HaveIds clauses id (implications row count l) → SaySo clauses equal row other count
      → RowsKnown c (table_chain row other id equal count c) other count
  rows_known zero row other id equal l c chain false_l ids say = record { chain = chain; kept = λ x h. h; known = tt }
  rows_known (suc count) row other id equal l c chain false_l ids say =
      let one : ChainValue = implied c id (literal_at row false) in
      let two : ChainValue = implied one equal (literal_at other false) in
      let first : HintChain one = chain-implied (get (held_of clauses)) start c id (literal_at row false) chain (implies-first c id (literal_at row false) l ids.0 false_l) in
      let second : HintChain two =
      chain-implied (get (held_of clauses)) start one equal (literal_at other false) first (implies-equal one equal row other say.0 (knows-implied c id (literal_at row false))) in
      let keeps : (x : ℤ) → Knows c x → Knows two x = λ x h. knows-kept one equal (literal_at other false) x (knows-kept c id (literal_at row false) x h) in
      let rest = rows_known count (suc row) (suc other) (suc id) (suc (suc equal)) l two second (keeps (neg_ℤ l) false_l) ids.1 say.1 in
      record {
        chain = rest.chain;
        kept = λ x h. rest.kept x (keeps x h);
        known = (rest.kept (literal_at other false) (knows-implied one equal (literal_at other false)), rest.known);
      }

  -- where one table has its plane and the other has not, a conflict comes
  pub table_derives : (count from to row other id equal last : ℕ) (plane : Bool) (c : ChainValue) → HintChain c → Knows c (literal_at from plane) → Knows c (literal_at to (not plane))
      → HaveIds clauses id (implications row count (literal_at to plane)) → SaySo clauses equal row other count
      → HasId clauses last (literal_at from (not plane) ∷ variables_from other count)
      → EndsInConflict (get (held_of clauses)) start (ended_with (table_chain row other id equal count c) last)
  table_derives count from to row other id equal last plane c chain here there ids say big =
      let d : ChainValue = table_chain row other id equal count c in
      let known = rows_known count row other id equal (literal_at to plane) c chain (subst (Knows c) (sym (negated to plane)) there) ids say in
      let clause : Clause = literal_at from (not plane) ∷ variables_from other count in
      chain-finished (get (held_of clauses)) start d last known.chain (record {
        clause = clause;
        is = held-id clauses last clause big;
        none = All-from_recursion (λ a. Knows d (neg_ℤ a)) clause (known.kept (neg_ℤ (literal_at from (not plane))) (subst (Knows c) (back_again plane) here), known.known);
      })
    where
      back_again : (plane : Bool) → literal_at from plane ≡ neg_ℤ (literal_at from (not plane))
      back_again true = refl
      back_again false = refl
