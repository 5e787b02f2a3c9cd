-- What each step of propagation keeps of the watches.
use Rattle.std.specs.Prelude.{ℤ, neg_ℤ, ◌⊎◌}
use Rattle.std.proofs.Common.{◌≡◌, ℕ, ◌+◌, ◌<◌, ◌≤◌, List, [], ◌∷◌, ◌++◌, length, set, ap, subst, sym, ◌∙◌, inl, inr, arith}
use Rattle.std.specs.List.{Contains, swap_remove}
use Rattle.std.specs.Ordering.{int_eq}
use Rattle.std.proofs.lemmas.Bool.{cases_lt, cases_Bool}
use Rattle.std.proofs.lemmas.Bool.Decides.{eqb_tells, Decides-int_eq}
use Rattle.std.proofs.lemmas.List.{get_or-set_same, get_or-set_other, length-set}
use Rattle.std.proofs.lemmas.List.Elements.{All-weaker}
use Rattle.std.proofs.Math.IntN.{neg_ℤ-neg_ℤ}
use Rattle.proof_semantics.specs.Clauses.{Clause}
use Rattle.proof_semantics.specs.Conflicts.{clause_at}
use Rattle.cdcl_core.specs.Settled.{HasTrue}
use Rattle.cdcl_core.specs.Trail.{literal_at, IsTrueBelow}
use Rattle.cdcl_core.specs.Explained.{Holds}
use Rattle.cdcl_core.specs.Placed.{TrailValue}
use Rattle.cdcl_core.specs.Propagation.{IsExtended}
use Rattle.cdcl_core.specs.Watched.{index_of}
use Rattle.cdcl_core.specs.Watches.{WatchesValue, list_at, watch_at, pair_at, lists_with, no_watch, no_pair}
use Rattle.cdcl_core.specs.Watching.{IsOneOf, AreFree, AreKept, AreKeptAt, HasWatcher, IsWatcher, IsWatching, IsHandling}
use Rattle.cdcl_core.specs.declared.watches.Watch.{Watch}
use Rattle.cdcl_core.specs.declared.watches.Pair.{Pair}
use Rattle.cdcl_core.proofs.WatchLists.{here, there, written, watcher_removed, watcher_changed, removed_was}
use Rattle.cdcl_core.proofs.Watching.{true_more, holds_longer, watching_extended, longer_from, has_pushed, watchers_pushed}

pub neg_injective : (a b : ℤ) → neg_ℤ a ≡ neg_ℤ b → a ≡ b
neg_injective a b e = sym (neg_ℤ-neg_ℤ a) ∙ ap neg_ℤ e ∙ neg_ℤ-neg_ℤ b

int_tells : (a b : ℤ) → (a ≡ b) ⊎ (a ≡ b → ⊥)
int_tells a b = elim (cases_Bool (int_eq a b)) [
  | inl t ↦ inl ((Decides-int_eq a b).0 t)
  | inr f ↦ inr (λ e. let t = (Decides-int_eq a b).1 e in cc)
]

pub one_of_tells : (p : Pair) (x : ℤ) → IsOneOf p x ⊎ (IsOneOf p x → ⊥)
one_of_tells p x = elim (int_tells x p.one) [
  | inl e ↦ inl (inl e)
  | inr not_one ↦ elim (int_tells x p.other) [
    | inl e ↦ inl (inr e)
    | inr not_other ↦ inr (λ h. elim h [ inl e ↦ not_one e | inr e ↦ not_other e ])
  ]
]

-- the next entry is taken
pub handling_start : (clauses : List Clause) (t : TrailValue) (w : WatchesValue) (x : ℤ) → IsWatching clauses t w → w.handled < length t.literals → literal_at t.literals w.handled ≡ neg_ℤ x
    → IsHandling clauses t w x 0
handling_start clauses t w x h low is = record {
  watching = h;
  low = low;
  is = is;
  pending = λ j within one_of.
      let one = h.base.formed.watched j x within one_of in
      record { place = one.place; within = one.within; is = one.is; later = inl (omega arith) };
}

-- the watcher's clause is true
pub handling_next : (clauses : List Clause) (t : TrailValue) (w : WatchesValue) (x : ℤ) (at : ℕ) → IsHandling clauses t w x at
    → HasTrue (Holds t.literals) (clause_at clauses (watch_at (list_at w.lists x) at).clause)
    → IsHandling clauses t w x (at + 1)
handling_next clauses t w x at h holds = record {
  watching = h.watching;
  low = h.low;
  is = h.is;
  pending = λ j within one_of.
      let one = h.pending j within one_of in
      record {
        place = one.place;
        within = one.within;
        is = one.is;
        later = elim one.later [
          | inr now ↦ inr now
          | inl from ↦ elim (eqb_tells one.place at) [
            | inl same ↦
                let j_is : (watch_at (list_at w.lists x) at).clause ≡ j = ap (λ k. (watch_at (list_at w.lists x) k).clause) (sym same.1) ∙ one.is in
                inr (subst (λ k. HasTrue (Holds t.literals) (clause_at clauses k)) j_is holds)
            | inr other ↦ elim (cases_lt at one.place) [
              | inl more ↦ inl (omega arith)
              | inr less ↦ let e : one.place ≡ at = omega arith in absurd (other.1 e)
            ]
          ]
        ];
      };
}

-- what is not x is no more false than before
not_by : (trail : List ℤ) (n : ℕ) (x l : ℤ) → literal_at trail n ≡ neg_ℤ x → (l ≡ x → ⊥) → (IsTrueBelow trail n (neg_ℤ l) → ⊥) → IsTrueBelow trail (n + 1) (neg_ℤ l) → ⊥
not_by trail n x l is differ free f =
    let low = f.below in
    elim (cases_lt f.place n) [
      | inl before ↦ free (record { place = f.place; below = before; within = f.within; is = f.is })
      | inr past ↦ let this : f.place ≡ n = omega arith in differ (neg_injective l x (sym f.is ∙ ap (literal_at trail) this ∙ is))
    ]

-- all watchers have been handled
pub handling_done : (clauses : List Clause) (t : TrailValue) (w : WatchesValue) (x : ℤ) (at : ℕ) → IsHandling clauses t w x at → length (list_at w.lists x) ≤ at
    → IsWatching clauses t (record w { handled = w.handled + 1 })
handling_done clauses t w x at h past =
    let low = h.low in
    record {
      base = record { formed = h.watching.base.formed; low = h.watching.base.low; below = h.watching.base.below };
      within = omega arith;
      kept = record {
        each = λ j within. elim (h.watching.kept.each j within) [
          | inl true_one ↦ inl true_one
          | inr free ↦ elim (one_of_tells (pair_at w.pairs j) x) [
            | inl one_of ↦
                let one = h.pending j within one_of in
                let one_within = one.within in
                elim one.later [
                  | inl from ↦ absurd (omega arith)
                  | inr now ↦ inl now
                ]
            | inr never ↦ inr (record {
              differ = free.differ;
              one = not_by t.literals w.handled x (pair_at w.pairs j).one h.is (λ e. never (inl (sym e))) free.one;
              other = not_by t.literals w.handled x (pair_at w.pairs j).other h.is (λ e. never (inr (sym e))) free.other;
            })
          ]
        ];
      };
    }

-- another watcher in the list of l
pub handling_pushed : (clauses : List Clause) (t : TrailValue) (w : WatchesValue) (x l : ℤ) (at : ℕ) (v : Watch) → IsHandling clauses t w x at → IsWatcher clauses l v → index_of l < length w.lists
    → IsHandling clauses t (record w { lists = lists_with w.lists l v }) x at
handling_pushed clauses t w x l at v h ok low =
    let formed = h.watching.base.formed in
    record {
      watching = record {
        base = record {
          formed = record {
            literals = formed.literals;
            lists_length = length-set w.lists (index_of l) (list_at w.lists l ++ v ∷ []) ∙ formed.lists_length;
            pairs_length = formed.pairs_length;
            watchers = watchers_pushed clauses w.lists l v low formed.watchers ok;
            inside = formed.inside;
            watched = λ j y within one_of. has_pushed w.lists l v low y 0 j ⊥ (formed.watched j y within one_of);
          };
          low = h.watching.base.low;
          below = h.watching.base.below;
        };
        within = h.watching.within;
        kept = h.watching.kept;
      };
      low = h.low;
      is = h.is;
      pending = λ j within one_of. has_pushed w.lists l v low x at j (HasTrue (Holds t.literals) (clause_at clauses j)) (h.pending j within one_of);
    }

-- a watcher of a clause that no longer watches x is taken out
pub handling_removed : (clauses : List Clause) (t : TrailValue) (w : WatchesValue) (x : ℤ) (at : ℕ) (v : Watch) → IsHandling clauses t w x at → at < length (list_at w.lists x)
    → index_of x < length w.lists
    → (IsOneOf (pair_at w.pairs (watch_at (list_at w.lists x) at).clause) x → ⊥) → IsHandling clauses t (record w { lists = set w.lists (index_of x) (swap_remove (list_at w.lists x) at v) }) x at
handling_removed clauses t w x at v h here_at low stale =
    let formed = h.watching.base.formed in
    let list : List Watch = list_at w.lists x in
    let new : List (List Watch) = set w.lists (index_of x) (swap_remove list at v) in
    let less : (y : ℤ) (from j : ℕ) (T : Type 0) → IsOneOf (pair_at w.pairs j) y → from ≤ at → HasWatcher (list_at w.lists y) from j T
    → HasWatcher (list_at new y) from j T = λ y from j T one_of le one.
    elim (written w.lists x (swap_remove list at v) y low) [
      | here same e ↦
          rw e (watcher_removed list at from j v T here_at le (λ k. stale (subst (λ c. IsOneOf (pair_at w.pairs c) x) (sym k) (subst (IsOneOf (pair_at w.pairs j)) same one_of)))
          (subst (λ z. HasWatcher (list_at w.lists z) from j T) same one))
      | there differ e ↦ rw e one
    ] in
    record {
      watching = record {
        base = record {
          formed = record {
            literals = formed.literals;
            lists_length = length-set w.lists (index_of x) (swap_remove list at v) ∙ formed.lists_length;
            pairs_length = formed.pairs_length;
            watchers = λ y k within. elim (written w.lists x (swap_remove list at v) y low) [
              | here same e ↦
                  let was = removed_was list at k v here_at (rw e at within) in
                  subst (λ z. IsWatcher clauses z (watch_at (list_at new y) k)) (sym same) (rw (e, was.2) (formed.watchers x was.0 was.1))
              | there differ e ↦ rw e (formed.watchers y k (rw e at within))
            ];
            inside = formed.inside;
            watched = λ j y within one_of. less y 0 j ⊥ one_of (omega arith) (formed.watched j y within one_of);
          };
          low = h.watching.base.low;
          below = h.watching.base.below;
        };
        within = h.watching.within;
        kept = h.watching.kept;
      };
      low = h.low;
      is = h.is;
      pending = λ j within one_of. less x at j (HasTrue (Holds t.literals) (clause_at clauses j)) one_of (omega arith) (h.pending j within one_of);
    }

-- another watcher of the same clause in the place of one
pub handling_rewatched : (clauses : List Clause) (t : TrailValue) (w : WatchesValue) (x : ℤ) (at : ℕ) (v : Watch) → IsHandling clauses t w x at → at < length (list_at w.lists x)
    → index_of x < length w.lists
    → v.clause ≡ (watch_at (list_at w.lists x) at).clause → IsWatcher clauses x v → IsHandling clauses t (record w { lists = set w.lists (index_of x) (set (list_at w.lists x) at v) }) x at
handling_rewatched clauses t w x at v h here_at low same ok =
    let formed = h.watching.base.formed in
    let list : List Watch = list_at w.lists x in
    let new : List (List Watch) = set w.lists (index_of x) (set list at v) in
    let still : (y : ℤ) (from j : ℕ) (T : Type 0) → HasWatcher (list_at w.lists y) from j T → HasWatcher (list_at new y) from j T = λ y from j T one.
    elim (written w.lists x (set list at v) y low) [
      | here is_x e ↦ rw e (watcher_changed list at from j v T here_at same (subst (λ z. HasWatcher (list_at w.lists z) from j T) is_x one))
      | there differ e ↦ rw e one
    ] in
    record {
      watching = record {
        base = record {
          formed = record {
            literals = formed.literals;
            lists_length = length-set w.lists (index_of x) (set list at v) ∙ formed.lists_length;
            pairs_length = formed.pairs_length;
            watchers = λ y k within. elim (written w.lists x (set list at v) y low) [
              | here is_x e ↦
                  let inside : k < length (set list at v) = rw e at within in
                  subst (λ z. IsWatcher clauses z (watch_at (list_at new y) k)) (sym is_x) (elim (eqb_tells k at) [
                    | inl t ↦ rw (e, t.1, get_or-set_same list at v no_watch here_at) ok
                    | inr f ↦ rw (e, get_or-set_other list at k v no_watch f.1) (formed.watchers x k (omega (arith, length-set list at v)))
                  ])
              | there differ e ↦ rw e (formed.watchers y k (rw e at within))
            ];
            inside = formed.inside;
            watched = λ j y within one_of. still y 0 j ⊥ (formed.watched j y within one_of);
          };
          low = h.watching.base.low;
          below = h.watching.base.below;
        };
        within = h.watching.within;
        kept = h.watching.kept;
      };
      low = h.low;
      is = h.is;
      pending = λ j within one_of. still x at j (HasTrue (Holds t.literals) (clause_at clauses j)) (h.pending j within one_of);
    }

-- a pair after another one was written
data PairWritten (pairs : List Pair) (j : ℕ) (p : Pair) (i : ℕ) : Type 0 where
  the_pair : i ≡ j → pair_at (set pairs j p) i ≡ p → PairWritten pairs j p i
  another : (i ≡ j → ⊥) → pair_at (set pairs j p) i ≡ pair_at pairs i → PairWritten pairs j p i

pair_written : (pairs : List Pair) (j : ℕ) (p : Pair) (i : ℕ) → j < length pairs → PairWritten pairs j p i
pair_written pairs j p i within = elim (eqb_tells i j) [
  | inl t ↦ the_pair t.1 (ap (pair_at (set pairs j p)) t.1 ∙ get_or-set_same pairs j p no_pair within)
  | inr f ↦ another f.1 (get_or-set_other pairs j i p no_pair f.1)
]

kept_changed : (T F : ℤ → Type 0) (clauses : List Clause) (pairs : List Pair) (j : ℕ) (p : Pair) → j < length pairs → (AreFree F (pair_at pairs j) → AreFree F p) → AreKept T F clauses pairs
    → AreKept T F clauses (set pairs j p)
kept_changed T F clauses pairs j p low free h = record {
  each = λ i within. elim (h.each i within) [
    | inl t ↦ inl t
    | inr f ↦ elim (pair_written pairs j p i low) [
      | the_pair e g ↦ inr (rw g (free (subst (λ k. AreFree F (pair_at pairs k)) e f)))
      | another n g ↦ inr (rw g f)
    ]
  ];
}

-- clause j watches others
pub handling_changed : (clauses : List Clause) (t : TrailValue) (w : WatchesValue) (x : ℤ) (at j : ℕ) (p : Pair) → IsHandling clauses t w x at → j < length clauses
    → ((l : ℤ) → IsOneOf p l → Contains (clause_at clauses j) l)
    → ((l : ℤ) → IsOneOf p l → HasWatcher (list_at w.lists l) 0 j ⊥) → ((s : ℕ) → AreFree (IsTrueBelow t.literals s) (pair_at w.pairs j) → AreFree (IsTrueBelow t.literals s) p) → (IsOneOf p x → ⊥)
    → IsHandling clauses t (record w { pairs = set w.pairs j p }) x at
handling_changed clauses t w x at j p h held inside has free not_x =
    let formed = h.watching.base.formed in
    let count = formed.pairs_length in
    let low : j < length w.pairs = omega arith in
    record {
      watching = record {
        base = record {
          formed = record {
            literals = formed.literals;
            lists_length = formed.lists_length;
            pairs_length = length-set w.pairs j p ∙ formed.pairs_length;
            watchers = formed.watchers;
            inside = λ i l within one_of. elim (pair_written w.pairs j p i low) [
              | the_pair e g ↦ rw e (inside l (rw g at one_of))
              | another n g ↦ formed.inside i l within (rw g at one_of)
            ];
            watched = λ i l within one_of. elim (pair_written w.pairs j p i low) [
              | the_pair e g ↦ rw e (has l (rw g at one_of))
              | another n g ↦ formed.watched i l within (rw g at one_of)
            ];
          };
          low = h.watching.base.low;
          below = All-weaker (AreKeptAt clauses t.literals w.pairs) (AreKeptAt clauses t.literals (set w.pairs j p))
              (λ s kept. kept_changed (IsTrueBelow t.literals s) (IsTrueBelow t.literals s) clauses w.pairs j p low (free s) kept) t.starts h.watching.base.below;
        };
        within = h.watching.within;
        kept = kept_changed (Holds t.literals) (IsTrueBelow t.literals w.handled) clauses w.pairs j p low (free w.handled) h.watching.kept;
      };
      low = h.low;
      is = h.is;
      pending = λ i within one_of. elim (pair_written w.pairs j p i low) [
        | the_pair e g ↦ absurd (not_x (rw g at one_of))
        | another n g ↦ h.pending i within (rw g at one_of)
      ];
    }

-- entries more
pub handling_extended : (clauses : List Clause) (t new : TrailValue) (w : WatchesValue) (x : ℤ) (at : ℕ) → IsHandling clauses t w x at → IsExtended clauses t new
    → literal_at new.literals w.handled ≡ literal_at t.literals w.handled
    → IsHandling clauses new w x at
handling_extended clauses t new w x at h e same =
    let low = h.low in
    let longer = e.longer in
    record {
      watching = watching_extended clauses t new w h.watching (longer_from clauses t new e);
      low = omega arith;
      is = same ∙ h.is;
      pending = λ j within one_of.
          let one = h.pending j within one_of in
          record {
            place = one.place;
            within = one.within;
            is = one.is;
            later = elim one.later [
              | inl from ↦ inl from
              | inr now ↦ inr (true_more (Holds t.literals) (Holds new.literals) (clause_at clauses j) (λ l. holds_longer t.literals new.literals l longer e.before) now)
            ];
          };
    }
