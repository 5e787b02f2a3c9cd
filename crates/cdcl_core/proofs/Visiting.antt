-- The steps of a visit.
use Rattle.std.specs.Prelude.{ℤ, pos, neg_ℤ, ◌⊎◌}
use Rattle.std.proofs.Common.{◌≡◌, ℕ, zero, true, false, ◌+◌, ◌<◌, Some, List, [], ◌∷◌, ◌++◌, length, set, refl, ap, subst, sym, ◌∙◌, inl, inr, length-append, arith}
use Rattle.std.specs.List.{Contains, swap_remove}
use Rattle.std.proofs.lemmas.List.{get_or_push, get_or_past, get_or_append_left, get_or-set_same, length-set}
use Rattle.std.proofs.lemmas.Bool.{cases_lt}
use Rattle.std.proofs.lemmas.List.Elements.{All-contains, All-weaker}
use Rattle.proof_semantics.specs.Clauses.{Clause, IsLiteralOf}
use Rattle.proof_semantics.specs.Conflicts.{clause_at}
use Rattle.cdcl_core.specs.Settled.{IsFalse}
use Rattle.cdcl_core.specs.Trail.{literal_at, IsTrueBelow}
use Rattle.cdcl_core.specs.Explained.{Holds}
use Rattle.cdcl_core.specs.Placed.{TrailValue}
use Rattle.cdcl_core.specs.Propagation.{IsExtended}
use Rattle.cdcl_core.specs.Watched.{index_of}
use Rattle.cdcl_core.specs.Watches.{WatchesValue, list_at, watch_at, pair_at, lists_with, no_watch, no_pair}
use Rattle.cdcl_core.specs.Watching.{IsOneOf, AreFree, HasWatcher, IsWatcher, IsHandling}
use Rattle.cdcl_core.specs.Visited.{IsOtherWatch, AreOthersFalse, IsPartner, IsFollowed, IsVisited}
use Rattle.cdcl_core.specs.declared.watches.Watch.{Watch}
use Rattle.cdcl_core.specs.declared.watches.Pair.{Pair}
use Rattle.cdcl_core.specs.declared.visit.Visit.{Visit}
use Rattle.cdcl_core.specs.declared.visit.Visit.TheVariants.{Next, Again, Conflict}
use Rattle.cdcl_core.proofs.WatchLists.{here, there, written, removed_length}
use Rattle.cdcl_core.proofs.Watching.{below_holds, index_low, has_pushed, has_new}
use Rattle.cdcl_core.proofs.WatchSteps.{handling_next, handling_pushed, handling_changed, handling_removed, handling_rewatched, handling_extended}
use Rattle.cdcl_core.proofs.Propagating.{extended_push, extended_same}

pub never_binary : {P : Type 0} → false ≡ true → P
never_binary b = absurd (cc)

-- x is false
pub false_by : (clauses : List Clause) (t : TrailValue) (w : WatchesValue) (x : ℤ) (at : ℕ) → IsHandling clauses t w x at → Holds t.literals (neg_ℤ x)
false_by clauses t w x at h = record { place = w.handled; below = h.low; within = h.low; is = h.is }

pub held_by : (clauses : List Clause) (t : TrailValue) (w : WatchesValue) (x : ℤ) (at j : ℕ) → IsHandling clauses t w x at → at < length (list_at w.lists x)
    → (watch_at (list_at w.lists x) at).clause ≡ j → j < length clauses
held_by clauses t w x at j h low e = let held = (h.watching.base.formed.watchers x at low).held in omega arith

pub literal_in : (clauses : List Clause) (t : TrailValue) (w : WatchesValue) (x : ℤ) (at j : ℕ) (l : ℤ) → IsHandling clauses t w x at → j < length clauses → Contains (clause_at clauses j) l
    → IsLiteralOf t.variables l
literal_in clauses t w x at j l h within inside = All-contains (IsLiteralOf t.variables) (clause_at clauses j) l (h.watching.base.formed.literals j [] within) inside

pub list_in : (clauses : List Clause) (t : TrailValue) (w : WatchesValue) (x : ℤ) (at j : ℕ) (l : ℤ) → IsHandling clauses t w x at → j < length clauses → Contains (clause_at clauses j) l
    → index_of l < length w.lists
list_in clauses t w x at j l h within inside = rw h.watching.base.formed.lists_length (index_low t.variables l (literal_in clauses t w x at j l h within inside))

-- the blocker's literal is one of the variables
pub blocker_literal : (clauses : List Clause) (t : TrailValue) (w : WatchesValue) (x : ℤ) (at : ℕ) (v : Watch) → IsHandling clauses t w x at → at < length (list_at w.lists x)
    → v ≡ watch_at (list_at w.lists x) at → IsLiteralOf t.variables v.blocker
blocker_literal clauses t w x at v h low e =
    let ok = h.watching.base.formed.watchers x at low in
    rw e (literal_in clauses t w x at (watch_at (list_at w.lists x) at).clause (watch_at (list_at w.lists x) at).blocker h ok.held ok.inside)

pub next_by : (clauses : List Clause) (t : TrailValue) (w : WatchesValue) (x : ℤ) (at j : ℕ) (l : ℤ) → IsHandling clauses t w x at → (watch_at (list_at w.lists x) at).clause ≡ j
    → Contains (clause_at clauses j) l → Holds t.literals l → IsHandling clauses t w x (at + 1)
next_by clauses t w x at j l h e inside holds = handling_next clauses t w x at h (rw e (record { literal = l; inside = inside; holds = holds }))

pub blocker_next : (clauses : List Clause) (t : TrailValue) (w : WatchesValue) (x : ℤ) (at : ℕ) (v : Watch) → IsHandling clauses t w x at → at < length (list_at w.lists x)
    → v ≡ watch_at (list_at w.lists x) at
    → Holds t.literals v.blocker → IsHandling clauses t w x (at + 1)
blocker_next clauses t w x at v h low e holds =
    let ok = h.watching.base.formed.watchers x at low in
    handling_next clauses t w x at h (record { literal = v.blocker; inside = rw e ok.inside; holds = holds })

-- a literal that has watchers has a list
pub list_low : (lists : List (List Watch)) (x : ℤ) (at : ℕ) → at < length (list_at lists x) → index_of x < length lists
list_low lists x at low = elim (cases_lt (index_of x) (length lists)) [
  | inl fine ↦ fine
  | inr past ↦ let none : list_at lists x ≡ [] = get_or_past lists (index_of x) [] past in let short = ap (λ (ys : List Watch). length ys) none in absurd (omega arith)
]

-- the list is shorter by one
removed_one : (lists : List (List Watch)) (x : ℤ) (at : ℕ) (v : Watch) → at < length (list_at lists x)
    → length (list_at (set lists (index_of x) (swap_remove (list_at lists x) at v)) x) + 1 ≡ length (list_at lists x)
removed_one lists x at v low = elim (written lists x (swap_remove (list_at lists x) at v) x (list_low lists x at low)) [
  | here s f ↦ ap (λ ys. length ys + 1) f ∙ removed_length (list_at lists x) at v low
  | there n f ↦ absurd (n refl)
]

-- a watcher of a clause that does not watch x
pub stale_at : (clauses : List Clause) (t : TrailValue) (w new : WatchesValue) (x : ℤ) (at : ℕ) (p : Pair) (j : ℕ) → IsHandling clauses t w x at → at < length (list_at w.lists x)
    → (watch_at (list_at w.lists x) at).clause ≡ j → p ≡ pair_at w.pairs j
    → (IsOneOf p x → ⊥) → new ≡ record w { lists = set w.lists (index_of x) (swap_remove (list_at w.lists x) at (watch_at (list_at w.lists x) at)) }
    → IsHandling clauses t new x at × (length (list_at new.lists x) + 1 ≡ length (list_at w.lists x))
stale_at clauses t w new x at p j h low clause p_is stale e =
    let v : Watch = watch_at (list_at w.lists x) at in
    (rw e (handling_removed clauses t w x at v h low (list_low w.lists x at low) (rw (clause, sym p_is) stale)), rw e (removed_one w.lists x at v low))

-- the literals of a pair stand in the clause
pub partner_in : (clauses : List Clause) (t : TrailValue) (w : WatchesValue) (x : ℤ) (at j : ℕ) (first : ℤ) → IsHandling clauses t w x at → j < length clauses → IsPartner (pair_at w.pairs j) x first
    → Contains (clause_at clauses j) first
partner_in clauses t w x at j first h held (inl e) = h.watching.base.formed.inside j first held (inr (sym e.1))
partner_in clauses t w x at j first h held (inr e) = h.watching.base.formed.inside j first held (inl (sym e.1))

partner_watched : (clauses : List Clause) (t : TrailValue) (w : WatchesValue) (x : ℤ) (at j : ℕ) (first : ℤ) → IsHandling clauses t w x at → j < length clauses → IsPartner (pair_at w.pairs j) x first
    → HasWatcher (list_at w.lists first) 0 j ⊥
partner_watched clauses t w x at j first h held (inl e) = h.watching.base.formed.watched j first held (inr (sym e.1))
partner_watched clauses t w x at j first h held (inr e) = h.watching.base.formed.watched j first held (inl (sym e.1))

x_in : (clauses : List Clause) (t : TrailValue) (w : WatchesValue) (x : ℤ) (at j : ℕ) (first : ℤ) → IsHandling clauses t w x at → j < length clauses → IsPartner (pair_at w.pairs j) x first
    → Contains (clause_at clauses j) x
x_in clauses t w x at j first h held (inl e) = h.watching.base.formed.inside j x held (inl (sym e.0))
x_in clauses t w x at j first h held (inr e) = h.watching.base.formed.inside j x held (inr (sym e.0))

partner_free : (F : ℤ → Type 0) (p : Pair) (x first : ℤ) → IsPartner p x first → AreFree F p → F (neg_ℤ first) → ⊥
partner_free F p x first (inl e) h f = h.other (subst (λ l. F (neg_ℤ l)) (sym e.1) f)
partner_free F p x first (inr e) h f = h.one (subst (λ l. F (neg_ℤ l)) (sym e.1) f)

partner_differ : (F : ℤ → Type 0) (p : Pair) (x first : ℤ) → IsPartner p x first → AreFree F p → first ≡ x → ⊥
partner_differ F p x first (inl e) h same = h.differ (e.0 ∙ sym same ∙ sym e.1)
partner_differ F p x first (inr e) h same = h.differ (e.1 ∙ same ∙ sym e.0)

-- its other literal is true, and becomes the blocker
pub rewatched : (clauses : List Clause) (t : TrailValue) (w new : WatchesValue) (x : ℤ) (at j : ℕ) (first : ℤ) → IsHandling clauses t w x at → at < length (list_at w.lists x)
    → (watch_at (list_at w.lists x) at).clause ≡ j
    → Contains (clause_at clauses j) first → Holds t.literals first
    → new ≡ record w { lists = set w.lists (index_of x) (set (list_at w.lists x) at (record { clause = j; blocker = first; binary = false })) }
    → IsHandling clauses t new x (at + 1) × (length (list_at new.lists x) ≡ length (list_at w.lists x))
rewatched clauses t w new x at j first h low clause inside holds e =
    let v : Watch = record { clause = j; blocker = first; binary = false } in
    let lists1 : List (List Watch) = set w.lists (index_of x) (set (list_at w.lists x) at v) in
    let x_low : index_of x < length w.lists = list_low w.lists x at low in
    let ok : IsWatcher clauses x v = record { held = held_by clauses t w x at j h low clause; inside = inside; only = never_binary } in
    let one : IsHandling clauses t (record w { lists = lists1 }) x at = handling_rewatched clauses t w x at v h low x_low (sym clause) ok in
    let list_is : list_at lists1 x ≡ set (list_at w.lists x) at v = elim (written w.lists x (set (list_at w.lists x) at v) x x_low) [
      | here s f ↦ f
      | there n f ↦ absurd (n refl)
    ] in
    let clause1 : (watch_at (list_at lists1 x) at).clause ≡ j = ap (λ ls. (watch_at ls at).clause) list_is ∙ ap (λ (u : Watch). u.clause) (get_or-set_same (list_at w.lists x) at v no_watch low) in
    rw e (next_by clauses t (record w { lists = lists1 }) x at j first one clause1 inside holds, ap (λ (ls : List Watch). length ls) list_is ∙ length-set (list_at w.lists x) at v)

-- a clause that watches one literal twice is true
pub twice_next : (clauses : List Clause) (t : TrailValue) (w : WatchesValue) (x : ℤ) (at j : ℕ) (first : ℤ) → IsHandling clauses t w x at → j < length clauses
    → (watch_at (list_at w.lists x) at).clause ≡ j
    → IsPartner (pair_at w.pairs j) x first → first ≡ x → IsHandling clauses t w x (at + 1)
twice_next clauses t w x at j first h held clause partner same = elim (h.watching.kept.each j held) [
  | inl holds ↦ handling_next clauses t w x at h (rw clause holds)
  | inr free ↦ absurd (partner_differ (IsTrueBelow t.literals w.handled) (pair_at w.pairs j) x first partner free same)
]

-- l is watched in place of x
moved : (clauses : List Clause) (t : TrailValue) (w : WatchesValue) (x : ℤ) (at j : ℕ) (first l : ℤ) → IsHandling clauses t w x at → at < length (list_at w.lists x)
    → (watch_at (list_at w.lists x) at).clause ≡ j
    → IsPartner (pair_at w.pairs j) x first → (first ≡ x → ⊥) → IsOtherWatch t.literals (clause_at clauses j) first l
    → (let v : Watch = record { clause = j; blocker = first; binary = false } in
    let p : Pair = record { one = first; other = l } in
    let lists1 : List (List Watch) = lists_with w.lists l v in
    let w3 : WatchesValue = record w { lists = set lists1 (index_of x) (swap_remove (list_at lists1 x) at (watch_at (list_at lists1 x) at)); pairs = set w.pairs j p } in
    IsHandling clauses t w3 x at × (length (list_at w3.lists x) + 1 ≡ length (list_at w.lists x)))
moved clauses t w x at j first l h low clause partner first_x other =
    let held : j < length clauses = held_by clauses t w x at j h low clause in
    let v : Watch = record { clause = j; blocker = first; binary = false } in
    let p : Pair = record { one = first; other = l } in
    let lists1 : List (List Watch) = lists_with w.lists l v in
    let w1 : WatchesValue = record w { lists = lists1 } in
    let w2 : WatchesValue = record w1 { pairs = set w.pairs j p } in
    let first_in : Contains (clause_at clauses j) first = partner_in clauses t w x at j first h held partner in
    let l_low : index_of l < length w.lists = list_in clauses t w x at j l h held other.inside in
    let differ : l ≡ x → ⊥ = λ e. other.not_false (rw e (false_by clauses t w x at h)) in
    let h1 : IsHandling clauses t w1 x at = handling_pushed clauses t w x l at v h (record { held = held; inside = first_in; only = never_binary }) l_low in
    let x_list : list_at lists1 x ≡ list_at w.lists x = elim (written w.lists l (list_at w.lists l ++ v ∷ []) x l_low) [
      | here same f ↦ absurd (differ (sym same))
      | there n f ↦ f
    ] in
    let h2 : IsHandling clauses t w2 x at = handling_changed clauses t w1 x at j p h1 held
    (λ y one_of. elim one_of [ inl e ↦ rw e first_in | inr e ↦ rw e other.inside ])
    (λ y one_of. elim one_of [
      | inl e ↦ rw e (has_pushed w.lists l v l_low first 0 j ⊥ (partner_watched clauses t w x at j first h held partner))
      | inr e ↦ rw e (has_new w.lists l v j l_low refl)
    ])
    (λ s free. record {
      differ = λ e. other.differ (sym e);
      one = partner_free (IsTrueBelow t.literals s) (pair_at w.pairs j) x first partner free;
      other = λ f. other.not_false (below_holds t.literals s (neg_ℤ l) f);
    })
    (λ one_of. elim one_of [ inl e ↦ first_x (sym e) | inr e ↦ differ (sym e) ]) in
    let low1 : at < length (list_at lists1 x) = rw x_list low in
    let count = h.watching.base.formed.pairs_length in
    let changed : pair_at (set w.pairs j p) j ≡ p = get_or-set_same w.pairs j p no_pair (omega arith) in
    let clause1 : (watch_at (list_at lists1 x) at).clause ≡ j = rw x_list clause in
    let h3 = handling_removed clauses t w2 x at (watch_at (list_at lists1 x) at) h2 low1 (list_low lists1 x at low1)
    (rw (clause1, changed) (λ one_of. elim one_of [ inl e ↦ first_x (sym e) | inr e ↦ differ (sym e) ])) in
    (h3, removed_one lists1 x at (watch_at (list_at lists1 x) at) low1 ∙ ap (λ (ys : List Watch). length ys) x_list)

pub moved_at : (clauses : List Clause) (t : TrailValue) (w w1 w2 w3 : WatchesValue) (x : ℤ) (at j : ℕ) (first l : ℤ) → IsHandling clauses t w x at → at < length (list_at w.lists x)
    → (watch_at (list_at w.lists x) at).clause ≡ j
    → IsPartner (pair_at w.pairs j) x first → (first ≡ x → ⊥) → IsOtherWatch t.literals (clause_at clauses j) first l
    → w1 ≡ record w { lists = lists_with w.lists l (record { clause = j; blocker = first; binary = false }) } → w2 ≡ record w1 { pairs = set w1.pairs j (record { one = first; other = l }) }
    → w3 ≡ record w2 { lists = set w2.lists (index_of x) (swap_remove (list_at w2.lists x) at (watch_at (list_at w2.lists x) at)) }
    → IsHandling clauses t w3 x at × (length (list_at w3.lists x) + 1 ≡ length (list_at w.lists x))
moved_at clauses t w w1 w2 w3 x at j first l h low clause partner first_x other e1 e2 e3 = rw (e3, e2, e1) (moved clauses t w x at j first l h low clause partner first_x other)

pub all_false : (trail : List ℤ) (C D : Clause) (first : ℤ) → D ≡ C → AreOthersFalse trail D first → Holds trail (neg_ℤ first) → IsFalse (Holds trail) C
all_false trail C D first same others f = rw (sym same) (λ k d within. elim (others k d within) [
  | inl e ↦ rw e f
  | inr no_more ↦ no_more
])

pub holds_last : (trail : List ℤ) (l : ℤ) → Holds (trail ++ l ∷ []) l
holds_last trail l = record {
  place = length trail;
  below = omega (arith, length-append trail (l ∷ []));
  within = omega (arith, length-append trail (l ∷ []));
  is = get_or_push trail l (pos zero) (length trail) refl;
}

-- the literal follows
pub implied_extended : (clauses : List Clause) (t new : TrailValue) (D : Clause) (j : ℕ) (l : ℤ) → j < length clauses → Contains (clause_at clauses j) l → D ≡ clause_at clauses j
    → AreOthersFalse t.literals D l
    → new ≡ record t { literals = t.literals ++ l ∷ []; reasons = t.reasons ++ Some j ∷ [] } → IsExtended clauses t new
implied_extended clauses t new D j l held inside same others n =
    extended_push clauses t t new l j (extended_same clauses t) held inside (subst (λ C. AreOthersFalse t.literals C l) same others) n

-- and its clause is true
pub implied_at : (clauses : List Clause) (t new : TrailValue) (w : WatchesValue) (x : ℤ) (at j : ℕ) (l : ℤ) → IsHandling clauses t w x at → (watch_at (list_at w.lists x) at).clause ≡ j
    → Contains (clause_at clauses j) l
    → IsExtended clauses t new → new ≡ record t { literals = t.literals ++ l ∷ []; reasons = t.reasons ++ Some j ∷ [] } → IsHandling clauses new w x (at + 1)
implied_at clauses t new w x at j l h clause inside e n =
    let literals : new.literals ≡ t.literals ++ l ∷ [] = ap (λ (u : TrailValue). u.literals) n in
    next_by clauses new w x at j l
    (handling_extended clauses t new w x at h e (ap (λ (ls : List ℤ). literal_at ls w.handled) literals ∙ get_or_append_left t.literals (l ∷ []) (pos zero) w.handled h.low)) clause inside
    (rw literals (holds_last t.literals l))

-- the other literal of the pair
pub first_in : (clauses : List Clause) (t : TrailValue) (w : WatchesValue) (x : ℤ) (at j : ℕ) (first : ℤ) → IsHandling clauses t w x at → at < length (list_at w.lists x)
    → (watch_at (list_at w.lists x) at).clause ≡ j
    → IsPartner (pair_at w.pairs j) x first → Contains (clause_at clauses j) first
first_in clauses t w x at j first h low clause partner = partner_in clauses t w x at j first h (held_by clauses t w x at j h low clause) partner

pub first_literal : (clauses : List Clause) (t : TrailValue) (w : WatchesValue) (x : ℤ) (at j : ℕ) (first : ℤ) → IsHandling clauses t w x at → at < length (list_at w.lists x)
    → (watch_at (list_at w.lists x) at).clause ≡ j
    → IsPartner (pair_at w.pairs j) x first → IsLiteralOf t.variables first
first_literal clauses t w x at j first h low clause partner =
    let held = held_by clauses t w x at j h low clause in literal_in clauses t w x at j first h held (partner_in clauses t w x at j first h held partner)

pub holds_implied : (t new : TrailValue) (l : ℤ) (j : ℕ) → new ≡ record t { literals = t.literals ++ l ∷ []; reasons = t.reasons ++ Some j ∷ [] } → Holds new.literals l
holds_implied t new l j n = let literals : new.literals ≡ t.literals ++ l ∷ [] = ap (λ (u : TrailValue). u.literals) n in rw literals (holds_last t.literals l)

-- the literal follows, or the clause is false
pub followed_visited : (clauses : List Clause) (t new : TrailValue) (w : WatchesValue) (x : ℤ) (at j : ℕ) (l : ℤ) → IsHandling clauses t w x at → (watch_at (list_at w.lists x) at).clause ≡ j
    → j < length clauses → Contains (clause_at clauses j) l
    → AreOthersFalse t.literals (clause_at clauses j) l → (v : Visit) → IsFollowed t new j l v → IsVisited clauses new w w x at v
followed_visited clauses t new w x at j l h clause held inside others Next n =
    (implied_at clauses t new w x at j l h clause inside (implied_extended clauses t new (clause_at clauses j) j l held inside refl others n) n, refl)
followed_visited clauses t new w x at j l h clause held inside others Again none = absurd none
followed_visited clauses t new w x at j l h clause held inside others (Conflict k) f =
    rw (f.1, f.0) (h.watching.base, record { within = held; false_clause = all_false t.literals (clause_at clauses j) (clause_at clauses j) l refl others f.2 })

pub followed_extended : (clauses : List Clause) (t new : TrailValue) (j : ℕ) (l : ℤ) → j < length clauses → Contains (clause_at clauses j) l → AreOthersFalse t.literals (clause_at clauses j) l
    → (v : Visit) → IsFollowed t new j l v
    → IsExtended clauses t new
followed_extended clauses t new j l held inside others Next n = implied_extended clauses t new (clause_at clauses j) j l held inside refl others n
followed_extended clauses t new j l held inside others Again none = absurd none
followed_extended clauses t new j l held inside others (Conflict k) f = rw f.1 (extended_same clauses t)

-- in a binary clause that watches x the literals other than the blocker are false
pub binary_false : (clauses : List Clause) (t : TrailValue) (w : WatchesValue) (x : ℤ) (at : ℕ) (v : Watch) → IsHandling clauses t w x at → at < length (list_at w.lists x)
    → v ≡ watch_at (list_at w.lists x) at → v.binary ≡ true
    → AreOthersFalse t.literals (clause_at clauses v.clause) v.blocker
binary_false clauses t w x at v h low e binary =
    let ok : IsWatcher clauses x v = subst (IsWatcher clauses x) (sym e) (h.watching.base.formed.watchers x at low) in
    All-weaker (λ a. (a ≡ x) ⊎ (a ≡ v.blocker)) (λ a. (a ≡ v.blocker) ⊎ Holds t.literals (neg_ℤ a))
    (λ a either. elim either [
      | inl is_x ↦ inr (subst (λ l. Holds t.literals (neg_ℤ l)) (sym is_x) (false_by clauses t w x at h))
      | inr is_blocker ↦ inl is_blocker
    ]) (clause_at clauses v.clause) (ok.only binary)

pub watcher_read : (clauses : List Clause) (t : TrailValue) (w : WatchesValue) (x : ℤ) (at : ℕ) (v : Watch) → IsHandling clauses t w x at → at < length (list_at w.lists x)
    → v ≡ watch_at (list_at w.lists x) at → IsWatcher clauses x v
watcher_read clauses t w x at v h low e = subst (IsWatcher clauses x) (sym e) (h.watching.base.formed.watchers x at low)
