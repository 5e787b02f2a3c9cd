-- The watches of the clauses that a search begins with.
use Rattle.std.specs.Prelude.{ℤ, neg_ℤ, ◌⊎◌, All}
use Rattle.std.proofs.Common.{◌≡◌, ℕ, Bool, true, ◌+◌, ◌*◌, ◌<◌, ◌≤◌, List, [], take, length, get_or, refl, ap, subst, sym, ◌∙◌, inl, inr, arith}
use Rattle.std.specs.List.{Contains}
use Rattle.std.proofs.lemmas.Bool.{cases_lt}
use Rattle.std.proofs.lemmas.List.{take_more, take_all, get_or-replicate, get_or_past, length-replicate}
use Rattle.std.proofs.lemmas.List.Elements.{All-nil, All-contains, Contains-get_or}
use Rattle.proof_semantics.specs.Clauses.{Clause, IsLiteralOf, AreClausesOf}
use Rattle.proof_semantics.specs.Conflicts.{clause_at}
use Rattle.cdcl_core.specs.Settled.{HasTrue, IsFalse}
use Rattle.cdcl_core.specs.Trail.{IsTrueBelow}
use Rattle.cdcl_core.specs.Explained.{Holds}
use Rattle.cdcl_core.specs.Placed.{TrailValue}
use Rattle.cdcl_core.specs.Propagation.{IsExtended}
use Rattle.cdcl_core.specs.Watched.{index_of, IsBinary}
use Rattle.cdcl_core.specs.Watches.{WatchesValue, list_at, no_watches, watches_with}
use Rattle.cdcl_core.specs.Watching.{IsKept, IsWatching}
use Rattle.cdcl_core.specs.Started.{IsStarting}
use Rattle.cdcl_core.specs.declared.watches.Watch.{Watch}
use Rattle.cdcl_core.specs.declared.watches.Pair.{Pair}
use Rattle.cdcl_core.proofs.Watching.{index_low, kept_added, watched_added, watching_extended, longer_from}

no_list : (n : ℕ) (y : ℤ) → list_at (no_watches n).lists y ≡ []
no_list n y = elim (cases_lt (index_of y) (n * 2 + 2)) [
  | inl low ↦ get_or-replicate (n * 2 + 2) (index_of y) [] [] low
  | inr past ↦ get_or_past (no_watches n).lists (index_of y) [] (omega (arith, length-replicate {A = List Watch} (n * 2 + 2) []))
]

pub starting_none : (clauses : List Clause) (t : TrailValue) (w : WatchesValue) → t.starts ≡ [] → w ≡ no_watches t.variables → IsStarting clauses 0 t w
starting_none clauses t w starts e = rw e (record {
  watching = record {
    base = record {
      formed = record {
        literals = All-nil (All (IsLiteralOf t.variables));
        lists_length = length-replicate {A = List Watch} (t.variables * 2 + 2) [];
        pairs_length = refl;
        watchers = λ y k within. let none = ap (λ (ys : List Watch). length ys) (no_list t.variables y) in absurd (omega arith);
        inside = λ j l within. absurd (omega arith);
        watched = λ j l within. absurd (omega arith);
      };
      low = rw starts (λ k d within. absurd (omega arith));
      below = rw starts (λ k d within. absurd (omega arith));
    };
    within = omega arith;
    kept = record { each = λ j within. absurd (omega arith) };
  };
  handled = refl;
  starts = starts;
})

-- nothing is true before the first entry
none_below : (trail : List ℤ) (l : ℤ) → IsTrueBelow trail 0 l → ⊥
none_below trail l h = let low = h.below in omega arith

pub starting_next : (clauses : List Clause) (n : ℕ) (t new : TrailValue) (w after : WatchesValue) (one other : ℤ) (binary : Bool) → IsStarting clauses n t w → AreClausesOf t.variables clauses
    → n < length clauses
    → Contains (clause_at clauses n) one → Contains (clause_at clauses n) other → IsExtended clauses t new → ((one ≡ other → ⊥) ⊎ HasTrue (Holds new.literals) (clause_at clauses n))
    → (binary ≡ true → IsBinary one other (clause_at clauses n)) → after ≡ watches_with w one other binary → IsStarting clauses (n + 1) new after
starting_next clauses n t new w after one other binary h literals low one_in other_in e free only a =
    let C : Clause = clause_at clauses n in
    let first : List Clause = take n clauses in
    let p : Pair = record { one = one; other = other } in
    let now : IsWatching first new w = watching_extended first t new w h.watching (longer_from clauses t new e) in
    let count = now.base.formed.pairs_length in
    let starts : new.starts ≡ [] = e.starts ∙ h.starts in
    let kept_p : IsKept (Holds new.literals) (IsTrueBelow new.literals w.handled) C p = elim free [
      | inl differ ↦ inr (rw h.handled (record { differ = differ; one = none_below new.literals (neg_ℤ one); other = none_below new.literals (neg_ℤ other) }))
      | inr holds ↦ inl holds
    ] in
    rw a (record {
      watching = rw (take_more clauses n [] low) (record {
        base = record {
          formed = watched_added first new.variables w.lists w.pairs C one other binary now.base.formed (rw e.variables (literals n [] low)) one_in other_in only;
          low = now.base.low;
          below = rw starts (λ k d within. absurd (omega arith));
        };
        within = now.within;
        kept = kept_added (Holds new.literals) (IsTrueBelow new.literals w.handled) first w.pairs C p count now.kept kept_p;
      });
      handled = h.handled;
      starts = starts;
    })

pub starting_done : (clauses : List Clause) (n : ℕ) (t : TrailValue) (w : WatchesValue) → IsStarting clauses n t w → length clauses ≤ n → IsWatching clauses t w
starting_done clauses n t w h past = subst (λ cs. IsWatching cs t w) (take_all n clauses past) h.watching

-- ---- a clause as it was read

pub read_inside : (C D : Clause) (x : ℤ) → D ≡ C → x ≡ get_or D 0 x → 0 < length D → Contains C x
read_inside C D x same is some = subst (λ X. Contains X x) same (subst (Contains D) (sym is) (Contains-get_or D 0 x some))

pub empty_false : (T : ℤ → Type 0) (C D : Clause) → D ≡ C → length D ≡ 0 → IsFalse T C
empty_false T C D same none = subst (IsFalse T) same (λ k d within. absurd (omega arith))

pub list_low : (clauses : List Clause) (n : ℕ) (t : TrailValue) (w : WatchesValue) (l : ℤ) → IsStarting clauses n t w → IsLiteralOf t.variables l → index_of l < length w.lists
list_low clauses n t w l h ok = rw h.watching.base.formed.lists_length (index_low t.variables l ok)

pub literal_of : (clauses : List Clause) (n variables : ℕ) (l : ℤ) → AreClausesOf variables clauses → n < length clauses → Contains (clause_at clauses n) l → IsLiteralOf variables l
literal_of clauses n variables l ok low inside = All-contains (IsLiteralOf variables) (clause_at clauses n) l (ok n [] low) inside
