-- Hints that grow one clause at a time lead from the negations of a clause to what is known, or end in a conflict.
use Rattle.std.proofs.Common.{◌≡◌, ℕ, Bool, true, false, cond, ◌||◌, List, [], ◌∷◌, ◌++◌, refl, ap, subst, sym, ◌∙◌, append_assoc, inl, inr, ◌⊎◌, ℤ, neg_ℤ, Option, Some}
use Rattle.std.specs.Prelude.{All, Contains}
use Rattle.std.specs.Ordering.{int_eq, int_cmp}
use Rattle.std.specs.Cmp.{int_cmp_total}
use Rattle.std.specs.FinSet as literals
use Rattle.std.specs.FinSet.{contains-insert, contains-empty}
use Rattle.std.proofs.lemmas.Bool.Decides.{Decides-int_eq}
use Rattle.std.proofs.lemmas.Bool.{false_from_ne_true}
use Rattle.std.proofs.lemmas.List.Elements.{All-weaker}
use Rattle.proof_semantics.specs.Clauses.{Clause, has_literal}
use Rattle.proof_semantics.specs.Logs.{LiteralSet, with_negations, is_false_in, EndsInConflict}
use Rattle.proof_semantics.proofs.OpenLiterals.{open-none, open-one}
use Rattle.merge_log.specs.Chains.{ChainValue, started, implied, ended_with}

-- ---- truth values

or_parts : (a b : Bool) → (a || b) ≡ false → (a ≡ false) × (b ≡ false)
or_parts true b e = cc
or_parts false b e = (refl, e)

or_swap : (a b d : Bool) → (a || (b || d)) ≡ (b || (a || d))
or_swap true true d = refl
or_swap true false d = refl
or_swap false b d = refl

or_true : (a b : Bool) → b ≡ true → (a || b) ≡ true
or_true true b e = refl
or_true false b e = e

int_eq-turned : (a b : ℤ) → int_eq a b ≡ int_eq b a
int_eq-turned a b = by_test (int_eq a b) refl where
  by_test : (t : Bool) → int_eq a b ≡ t → int_eq a b ≡ int_eq b a
  by_test true e = e ∙ sym ((Decides-int_eq b a).1 (sym ((Decides-int_eq a b).0 e)))
  by_test false e =
      e ∙ sym (false_from_ne_true (int_eq b a) (λ t. let back = (Decides-int_eq a b).1 (sym ((Decides-int_eq b a).0 t)) in cc (back, e)))

-- ---- what stands in a list of literals

has-push : (ls : List ℤ) (x l : ℤ) → has_literal (ls ++ x ∷ []) l ≡ (int_eq x l || has_literal ls l)
has-push [] x l = refl
has-push (o ∷ ls) x l = ap (λ b. int_eq o l || b) (has-push ls x l) ∙ or_swap (int_eq o l) (int_eq x l) (has_literal ls l)

has-itself : (ls : List ℤ) (x : ℤ) → has_literal (ls ++ x ∷ []) x ≡ true
has-itself ls x = has-push ls x x ∙ ap (λ b. b || has_literal ls x) ((Decides-int_eq x x).1 refl)

has-more : (ls : List ℤ) (x l : ℤ) → has_literal ls l ≡ true → has_literal (ls ++ x ∷ []) l ≡ true
has-more ls x l h = has-push ls x l ∙ or_true (int_eq x l) (has_literal ls l) h

-- exactly these literals are in the set
pub HoldsExactly : LiteralSet → List ℤ → Type 0
HoldsExactly set ls = (l : ℤ) → literals.contains set l ≡ has_literal ls l

exactly-more : (set : LiteralSet) (ls : List ℤ) (x : ℤ) → HoldsExactly set ls → HoldsExactly (literals.insert set x) (ls ++ x ∷ [])
unfolding HoldsExactly
exactly-more set ls x h l = contains-insert int_cmp_total set x l ∙ ap (λ b. b || literals.contains set l) (int_eq-turned l x) ∙ ap (λ b. int_eq x l || b) (h l) ∙ sym (has-push ls x l)

exactly-none : HoldsExactly literals.empty []
unfolding HoldsExactly
exactly-none l = contains-empty int_cmp l

exactly-negations : (one other : ℤ) → HoldsExactly (with_negations literals.empty (one ∷ other ∷ [])) (neg_ℤ one ∷ neg_ℤ other ∷ [])
exactly-negations one other =
    exactly-more (literals.insert literals.empty (neg_ℤ one)) (neg_ℤ one ∷ []) (neg_ℤ other) (exactly-more literals.empty [] (neg_ℤ one) exactly-none)

-- ---- chains

-- the literal is true behind the hints, unless they ended
abbrev pub Knows : ChainValue → ℤ → Type 0
Knows c l = c.ended ≡ false → has_literal c.literals l ≡ true

module _ (held : ℕ → Option Clause) (start : LiteralSet) where
  -- what ends in a conflict from these literals does so from the start, behind the hints
  pub LeadsTo : List ℕ → List ℤ → Type 0
  LeadsTo hints ls = (hint : ℕ) (rest : List ℕ) → ((set : LiteralSet) → HoldsExactly set ls → EndsInConflict held set (hint ∷ rest)) → EndsInConflict held start (hints ++ hint ∷ rest)

  pub record IsChain (c : ChainValue) : Type 0 where
    pub conflict : c.ended ≡ true → EndsInConflict held start c.hints
    pub leads : c.ended ≡ false → LeadsTo c.hints c.literals

  -- the clause makes the literal true
  pub record Implies (c : ChainValue) (id : ℕ) (l : ℤ) : Type 0 where
    pub clause : Clause
    pub is : held id ≡ Some clause
    pub inside : Contains clause l
    pub others : All (λ a. (a ≡ l) ⊎ Knows c (neg_ℤ a)) clause

  -- the clause is false
  pub record Refutes (c : ChainValue) (id : ℕ) : Type 0 where
    pub clause : Clause
    pub is : held id ≡ Some clause
    pub none : All (λ a. Knows c (neg_ℤ a)) clause

  refuted : (ls : List ℤ) (c : ChainValue) (id : ℕ) (set : LiteralSet) → c.literals ≡ ls → c.ended ≡ false → Refutes c id → HoldsExactly set ls → EndsInConflict held set (id ∷ [])
  unfolding HoldsExactly
  refuted ls c id set same going r ok = (
    r.clause,
    r.is,
    open-none set r.clause
        (All-weaker (λ a. Knows c (neg_ℤ a)) (λ a. is_false_in set a ≡ true) (λ a known. ok (neg_ℤ a) ∙ ap (λ list. has_literal list (neg_ℤ a)) (sym same) ∙ known going) r.clause r.none),
  )

  pub chain-finished : (c : ChainValue) (id : ℕ) → IsChain c → Refutes c id → EndsInConflict held start (ended_with c id)
  unfolding LeadsTo
  chain-finished c id h r = by_end c.ended refl where
    by_end : (t : Bool) → c.ended ≡ t → EndsInConflict held start (cond t c.hints (c.hints ++ id ∷ []))
    by_end true e = h.conflict e
    by_end false e = h.leads e id [] (λ set ok. refuted c.literals c id set refl e r ok)

  -- the chain with one clause more, where the literal is new
  more : ChainValue → ℕ → ℤ → ChainValue
  more c id l = record { hints = c.hints ++ id ∷ []; literals = c.literals ++ l ∷ []; ended = has_literal c.literals (neg_ℤ l) }

  chain-more : (c : ChainValue) (id : ℕ) (l : ℤ) → c.ended ≡ false → IsChain c → Implies c id l → IsChain (more c id l)
  unfolding LeadsTo HoldsExactly more
  chain-more c id l going h i = record {
    conflict = λ against. h.leads going id [] (λ set ok. refuted c.literals c id set refl going (record {
      clause = i.clause;
      is = i.is;
      none = All-weaker (λ a. (a ≡ l) ⊎ Knows c (neg_ℤ a)) (λ a. Knows c (neg_ℤ a))
          (λ a other. elim other [ inl same ↦ λ e. ap (λ x. has_literal c.literals (neg_ℤ x)) same ∙ against | inr known ↦ known ]) i.clause i.others;
    }) ok);
    leads = λ calm hint rest next. subst (EndsInConflict held start) (sym (append_assoc c.hints (id ∷ []) (hint ∷ rest)))
        (h.leads going id (hint ∷ rest) (λ set ok. (
          i.clause,
          l,
          i.is,
          open-one set i.clause l i.inside (ok (neg_ℤ l) ∙ calm)
              (All-weaker (λ a. (a ≡ l) ⊎ Knows c (neg_ℤ a)) (λ a. (a ≡ l) ⊎ (is_false_in set a ≡ true))
              (λ a other. elim other [ inl same ↦ inl same | inr known ↦ inr (ok (neg_ℤ a) ∙ known going) ]) i.clause i.others),
          next (literals.insert set l) (exactly-more set c.literals l ok),
        )));
  }

  pub chain-implied : (c : ChainValue) (id : ℕ) (l : ℤ) → IsChain c → Implies c id l → IsChain (implied c id l)
  unfolding more
  chain-implied c id l h i = by_test (c.ended || has_literal c.literals l) refl where
    by_test : (t : Bool) → (c.ended || has_literal c.literals l) ≡ t
        → IsChain (cond t c (record { hints = c.hints ++ id ∷ []; literals = c.literals ++ l ∷ []; ended = has_literal c.literals (neg_ℤ l) }))
    by_test true e = h
    by_test false e = chain-more c id l (or_parts c.ended (has_literal c.literals l) e).0 h i

  pub chain-started : (one other a b : ℤ) → start ≡ with_negations literals.empty (a ∷ b ∷ []) → neg_ℤ a ≡ one → neg_ℤ b ≡ other → IsChain (started one other)
  unfolding LeadsTo
  chain-started one other a b is first second = record {
    conflict = λ e. cc;
    leads = λ e hint rest next.
        next start (subst (λ set. HoldsExactly set (one ∷ other ∷ [])) (sym is)
        (subst (λ x. HoldsExactly (with_negations literals.empty (a ∷ b ∷ [])) (x ∷ other ∷ [])) first
        (subst (λ y. HoldsExactly (with_negations literals.empty (a ∷ b ∷ [])) (neg_ℤ a ∷ y ∷ [])) second (exactly-negations a b))));
  }

pub knows-kept : (c : ChainValue) (id : ℕ) (l m : ℤ) → Knows c m → Knows (implied c id l) m
knows-kept c id l m h = by_test (c.ended || has_literal c.literals l) refl where
  by_test : (t : Bool) → (c.ended || has_literal c.literals l) ≡ t
      → Knows (cond t c (record { hints = c.hints ++ id ∷ []; literals = c.literals ++ l ∷ []; ended = has_literal c.literals (neg_ℤ l) })) m
  by_test true e = h
  by_test false e = λ calm. has-more c.literals l m (h (or_parts c.ended (has_literal c.literals l) e).0)

pub knows-implied : (c : ChainValue) (id : ℕ) (l : ℤ) → Knows (implied c id l) l
knows-implied c id l = by_test (c.ended || has_literal c.literals l) refl where
  held_before : (e h : Bool) → (e || h) ≡ true → e ≡ false → h ≡ true
  held_before true h t f = cc
  held_before false h t f = t

  by_test : (t : Bool) → (c.ended || has_literal c.literals l) ≡ t
      → Knows (cond t c (record { hints = c.hints ++ id ∷ []; literals = c.literals ++ l ∷ []; ended = has_literal c.literals (neg_ℤ l) })) l
  by_test true e = held_before c.ended (has_literal c.literals l) e
  by_test false e = λ calm. has-itself c.literals l

pub knows-first : (one other : ℤ) → Knows (started one other) one
knows-first one other = λ calm. ap (λ b. b || has_literal (other ∷ []) one) ((Decides-int_eq one one).1 refl)

pub knows-second : (one other : ℤ) → Knows (started one other) other
knows-second one other = λ calm. or_true (int_eq one other) (has_literal (other ∷ []) other) (ap (λ b. b || false) ((Decides-int_eq other other).1 refl))
