-- What is kept of the watches as the trail and the clauses change.
use Rattle.std.specs.Prelude.{ℤ, pos, neg_ℤ, ◌⊎◌, All, int_lt}
use Rattle.std.proofs.Common.{◌≡◌, ℕ, zero, suc, Bool, true, false, cond, ◌+◌, ◌*◌, ◌<◌, ◌≤◌, None, List, [], ◌∷◌, ◌++◌, take, length, get_or, refl, ap, subst, sym, ◌∙◌, inl, inr, length-append}
use Rattle.std.proofs.Common.{arith}
use Rattle.std.specs.List.{Contains}
use Rattle.std.specs.Ordering.{int_eq}
use Rattle.std.proofs.lemmas.Bool.{cases_lt, cases_Bool}
use Rattle.std.proofs.lemmas.Bool.Decides.{Decides-int_eq}
use Rattle.std.proofs.lemmas.List.{get_or_append_left, get_or_push, length-set, take-append-le, get_or_default}
use Rattle.std.proofs.Math.Seq.{take-length}
use Rattle.std.proofs.lemmas.List.Elements.{All-push, All-weaker, All-contains}
use Rattle.proof_semantics.specs.Clauses.{Clause, IsLiteralOf}
use Rattle.proof_semantics.specs.Conflicts.{clause_at}
use Rattle.cdcl_core.specs.Settled.{HasTrue, IsSettled, IsSettledAt}
use Rattle.cdcl_core.specs.Trail.{literal_at, IsTrueBelow}
use Rattle.cdcl_core.specs.Explained.{Holds}
use Rattle.cdcl_core.specs.Placed.{TrailValue}
use Rattle.cdcl_core.specs.Propagation.{IsExtended}
use Rattle.cdcl_core.specs.Watched.{index_of, IsBinary}
use Rattle.cdcl_core.specs.Watches.{WatchesValue, list_at, watch_at, pair_at, lists_with, no_watch, no_pair}
use Rattle.cdcl_core.specs.Watching.{IsOneOf, AreFree, IsKept, AreKept, AreKeptAt, HasWatcher, IsWatcher, AreWatched, IsWatchedBelow, IsWatching}
use Rattle.cdcl_core.specs.Visited.{IsPropagated}
use Rattle.cdcl_core.specs.declared.watches.Watch.{Watch}
use Rattle.cdcl_core.specs.declared.watches.Pair.{Pair}
use Rattle.cdcl_core.proofs.Back.{true-same}
use Rattle.cdcl_core.proofs.WatchLists.{here, there, written, watcher_pushed, watcher_new}

-- ---- what is true and what is false

pub true_more : (T U : ℤ → Type 0) (C : Clause) → ((l : ℤ) → T l → U l) → HasTrue T C → HasTrue U C
true_more T U C to h = record { literal = h.literal; inside = h.inside; holds = to h.literal h.holds }

pub free_less : (F G : ℤ → Type 0) (p : Pair) → ((l : ℤ) → G l → F l) → AreFree F p → AreFree G p
free_less F G p from h = record { differ = h.differ; one = λ g. h.one (from (neg_ℤ p.one) g); other = λ g. h.other (from (neg_ℤ p.other) g) }

pub kept_same : (T F U G : ℤ → Type 0) (clauses : List Clause) (pairs : List Pair) → ((l : ℤ) → T l → U l) → ((l : ℤ) → G l → F l) → AreKept T F clauses pairs → AreKept U G clauses pairs
kept_same T F U G clauses pairs to from h = record {
  each = λ j within. elim (h.each j within) [
    | inl t ↦ inl (true_more T U (clause_at clauses j) to t)
    | inr f ↦ inr (free_less F G (pair_at pairs j) from f)
  ];
}

pub below_holds : (trail : List ℤ) (s : ℕ) (l : ℤ) → IsTrueBelow trail s l → Holds trail l
below_holds trail s l h = record { place = h.place; below = h.within; within = h.within; is = h.is }

pub holds_longer : (before after : List ℤ) (l : ℤ) → length before ≤ length after → take (length before) after ≡ before → Holds before l → Holds after l
holds_longer before after l longer same h =
    below_holds after (length before) l (true-same before after (length before) (length before) l (omega arith) longer (take-length before ∙ sym same) h)

-- below a place that both have
pub kept_at_same : (clauses : List Clause) (pairs : List Pair) (before after : List ℤ) (q s : ℕ) → s ≤ q → q ≤ length before → q ≤ length after → take q before ≡ take q after
    → AreKeptAt clauses before pairs s → AreKeptAt clauses after pairs s
kept_at_same clauses pairs before after q s low in_before in_after same h =
    kept_same (IsTrueBelow before s) (IsTrueBelow before s) (IsTrueBelow after s) (IsTrueBelow after s) clauses pairs
    (λ l. true-same before after q s l low in_after same) (λ l. true-same after before q s l low in_before (sym same)) h

-- a literal is true below a place or not
true_below : (trail : List ℤ) (l : ℤ) (n : ℕ) → n ≤ length trail → IsTrueBelow trail n l ⊎ (IsTrueBelow trail n l → ⊥)
true_below trail l zero within = inr (λ h. let low = h.below in omega arith)
true_below trail l (suc n) within = elim (true_below trail l n (omega arith)) [
  | inl h ↦ let low = h.below in inl (record { place = h.place; below = omega arith; within = h.within; is = h.is })
  | inr never ↦ elim (cases_Bool (int_eq (literal_at trail n) l)) [
    | inl t ↦ inl (record { place = n; below = omega arith; within = omega arith; is = (Decides-int_eq (literal_at trail n) l).0 t })
    | inr f ↦ inr (λ h. elim (cases_lt h.place n) [
      | inl low ↦ never (record { place = h.place; below = low; within = h.within; is = h.is })
      | inr high ↦
          let low = h.below in
          let last : h.place ≡ n = omega arith in
          let t = (Decides-int_eq (literal_at trail n) l).1 (ap (literal_at trail) (sym last) ∙ h.is) in cc
    ])
  ]
]

pub decide_holds : (trail : List ℤ) (l : ℤ) → Holds trail l ⊎ (Holds trail l → ⊥)
decide_holds trail l = true_below trail l (length trail) (omega arith)

-- ---- when every entry has been handled

pub kept_settled : (clauses : List Clause) (trail : List ℤ) (pairs : List Pair) → AreKept (Holds trail) (Holds trail) clauses pairs
    → ((j : ℕ) (l : ℤ) → j < length clauses → IsOneOf (pair_at pairs j) l → Contains (clause_at clauses j) l) → IsSettled (Holds trail) clauses
kept_settled clauses trail pairs h inside j d within =
    subst (IsSettledAt (Holds trail)) (get_or_default clauses j [] d within) (elim (h.each j within) [
      | inl t ↦ inl t
      | inr f ↦
          let p : Pair = pair_at pairs j in
          let one_in = inside j p.one within (inl refl) in
          let other_in = inside j p.other within (inr refl) in
          elim (decide_holds trail p.one) [
            | inl holds ↦ inl (record { literal = p.one; inside = one_in; holds = holds })
            | inr not_one ↦ elim (decide_holds trail p.other) [
              | inl holds ↦ inl (record { literal = p.other; inside = other_in; holds = holds })
              | inr not_other ↦ inr (record {
                one = p.one;
                other = p.other;
                one_inside = one_in;
                other_inside = other_in;
                one_open = record { not_true = not_one; not_false = f.one };
                other_open = record { not_true = not_other; not_false = f.other };
                differ = f.differ;
              })
            ]
          ]
    ])

pub watching_done : (clauses : List Clause) (t : TrailValue) (w : WatchesValue) → IsWatching clauses t w → length t.literals ≤ w.handled → IsPropagated clauses t w
watching_done clauses t w h past =
    let within = h.within in
    let all : w.handled ≡ length t.literals = omega arith in
    let kept : AreKept (Holds t.literals) (Holds t.literals) clauses w.pairs = subst (λ n. AreKept (Holds t.literals) (IsTrueBelow t.literals n) clauses w.pairs) all h.kept in
    record { watching = h; all = all; settled = kept_settled clauses t.literals w.pairs kept h.base.formed.inside }

-- ---- the trail

-- entries were added
pub record IsLonger (old new : TrailValue) : Type 0 where
  pub variables : new.variables ≡ old.variables
  pub starts : new.starts ≡ old.starts
  pub longer : length old.literals ≤ length new.literals
  pub before : take (length old.literals) new.literals ≡ old.literals

pub longer_from : (clauses : List Clause) (old new : TrailValue) → IsExtended clauses old new → IsLonger old new
longer_from clauses old new e = record { variables = e.variables; starts = e.starts; longer = e.longer; before = e.before }

pub below_extended : (clauses : List Clause) (old new : TrailValue) (w : WatchesValue) → IsWatchedBelow clauses old w → IsLonger old new → IsWatchedBelow clauses new w
below_extended clauses old new w h e =
    let longer = e.longer in
    record {
      formed = rw e.variables h.formed;
      low = rw e.starts (All-weaker (λ s. s ≤ length old.literals) (λ s. s ≤ length new.literals) (λ s low. omega arith) old.starts h.low);
      below = rw e.starts (λ k d within.
          kept_at_same clauses w.pairs old.literals new.literals (length old.literals) (get_or old.starts k d) (h.low k d within) (omega arith) longer (take-length old.literals ∙ sym e.before)
          (h.below k d within));
    }

pub watching_extended : (clauses : List Clause) (old new : TrailValue) (w : WatchesValue) → IsWatching clauses old w → IsLonger old new → IsWatching clauses new w
watching_extended clauses old new w h e =
    let longer = e.longer in
    let within = h.within in
    record {
      base = below_extended clauses old new w h.base e;
      within = omega arith;
      kept = kept_same (Holds old.literals) (IsTrueBelow old.literals w.handled) (Holds new.literals) (IsTrueBelow new.literals w.handled) clauses w.pairs
          (λ l. holds_longer old.literals new.literals l longer e.before)
          (λ l. true-same new.literals old.literals (length old.literals) w.handled l within (omega arith) (e.before ∙ sym (take-length old.literals))) h.kept;
    }

-- a decision, when all entries have been handled
pub watching_decided : (clauses : List Clause) (t new : TrailValue) (w : WatchesValue) (l : ℤ) → IsPropagated clauses t w
    → new ≡ record t { literals = t.literals ++ l ∷ []; reasons = t.reasons ++ None ∷ []; starts = t.starts ++ length t.literals ∷ [] } → IsWatching clauses new w
watching_decided clauses t new w l h e =
    let n : ℕ = length t.literals in
    let more : List ℤ = t.literals ++ l ∷ [] in
    let longer : n ≤ length more = omega (arith, length-append t.literals (l ∷ [])) in
    let same : take n more ≡ t.literals = take-append-le n t.literals (l ∷ []) (omega arith) ∙ take-length t.literals in
    let both : take n t.literals ≡ take n more = take-length t.literals ∙ sym same in
    let b = h.watching.base in
    let within = h.watching.within in
    rw e (record {
      base = record {
        formed = b.formed;
        low = All-push (λ s. s ≤ length more) t.starts n (All-weaker (λ s. s ≤ n) (λ s. s ≤ length more) (λ s low. omega arith) t.starts b.low) longer;
        below = All-push (AreKeptAt clauses more w.pairs) t.starts n
            (λ k d k_within. kept_at_same clauses w.pairs t.literals more n (get_or t.starts k d) (b.low k d k_within) (omega arith) longer both (b.below k d k_within))
            (kept_at_same clauses w.pairs t.literals more n n (omega arith) (omega arith) longer both
            (subst (λ m. AreKept (Holds t.literals) (IsTrueBelow t.literals m) clauses w.pairs) h.all h.watching.kept));
      };
      within = omega arith;
      kept = kept_same (Holds t.literals) (IsTrueBelow t.literals w.handled) (Holds more) (IsTrueBelow more w.handled) clauses w.pairs
          (λ l2. holds_longer t.literals more l2 longer same)
          (λ l2. true-same more t.literals n w.handled l2 within (omega arith) (sym both)) h.watching.kept;
    })

-- ---- a clause more

pub sign_low : (b : Bool) → cond b 1 0 < 2
sign_low true = omega arith
sign_low false = omega arith

pub index_low : (n : ℕ) (l : ℤ) → IsLiteralOf n l → index_of l < n * 2 + 2
index_low n l h =
    let within = h.within in
    let sign = sign_low (int_lt (pos 0) l) in
    omega arith

-- another watcher in the list of l
pub has_pushed : (lists : List (List Watch)) (l : ℤ) (w : Watch) → index_of l < length lists → (y : ℤ) (from j : ℕ) (T : Type 0) → HasWatcher (list_at lists y) from j T
    → HasWatcher (list_at (lists_with lists l w) y) from j T
has_pushed lists l w low y from j T one = elim (written lists l (list_at lists l ++ w ∷ []) y low) [
  | here same e ↦ rw e (watcher_pushed (list_at lists l) w from j T (subst (λ z. HasWatcher (list_at lists z) from j T) same one))
  | there differ e ↦ rw e one
]

pub has_new : (lists : List (List Watch)) (l : ℤ) (w : Watch) (j : ℕ) → index_of l < length lists → w.clause ≡ j → HasWatcher (list_at (lists_with lists l w) l) 0 j ⊥
has_new lists l w j low e = elim (written lists l (list_at lists l ++ w ∷ []) l low) [
  | here same f ↦ rw f (watcher_new (list_at lists l) w j ⊥ e)
  | there n f ↦ absurd (n refl)
]

pub watchers_pushed : (clauses : List Clause) (lists : List (List Watch)) (l : ℤ) (w : Watch) → index_of l < length lists
    → ((y : ℤ) (k : ℕ) → k < length (list_at lists y) → IsWatcher clauses y (watch_at (list_at lists y) k)) → IsWatcher clauses l w
    → (y : ℤ) (k : ℕ) → k < length (list_at (lists_with lists l w) y) → IsWatcher clauses y (watch_at (list_at (lists_with lists l w) y) k)
watchers_pushed clauses lists l w low all ok y k within = elim (written lists l (list_at lists l ++ w ∷ []) y low) [
  | here same e ↦
      let inside : k < length (list_at lists l ++ w ∷ []) = rw e at within in
      subst (λ z. IsWatcher clauses z (watch_at (list_at (lists_with lists l w) y) k)) (sym same) (elim (cases_lt k (length (list_at lists l))) [
        | inl was ↦ rw (e, get_or_append_left (list_at lists l) (w ∷ []) no_watch k was) (all l k was)
        | inr last ↦
            let here_is : length (list_at lists l) ≡ k = omega (arith, length-append (list_at lists l) (w ∷ [])) in
            rw (e, get_or_push (list_at lists l) w no_watch k here_is) ok
      ])
  | there differ e ↦ rw e (all y k (rw e at within))
]

-- a clause with the pair that it watches
pub kept_added : (T F : ℤ → Type 0) (clauses : List Clause) (pairs : List Pair) (C : Clause) (p : Pair) → length pairs ≡ length clauses → AreKept T F clauses pairs → IsKept T F C p
    → AreKept T F (clauses ++ C ∷ []) (pairs ++ p ∷ [])
kept_added T F clauses pairs C p count h new = record {
  each = λ j within. elim (cases_lt j (length clauses)) [
    | inl low ↦ rw (get_or_append_left clauses (C ∷ []) [] j low, get_or_append_left pairs (p ∷ []) no_pair j (omega arith)) (h.each j low)
    | inr high ↦
        let this : length clauses ≡ j = omega (arith, length-append clauses (C ∷ [])) in
        rw (get_or_push clauses C [] j this, get_or_push pairs p no_pair j (omega arith)) new
  ];
}

-- the two in the other order
binary_turned : (one other : ℤ) (C : Clause) → IsBinary one other C → IsBinary other one C
binary_turned one other C h = All-weaker (λ a. (a ≡ one) ⊎ (a ≡ other)) (λ a. (a ≡ other) ⊎ (a ≡ one)) (λ a either. elim either [ inl e ↦ inr e | inr e ↦ inl e ]) C h

pub watched_added : (clauses : List Clause) (n : ℕ) (lists : List (List Watch)) (pairs : List Pair) (C : Clause) (one other : ℤ) (binary : Bool) → AreWatched clauses n lists pairs
    → All (IsLiteralOf n) C → Contains C one → Contains C other
    → (binary ≡ true → IsBinary one other C)
    → AreWatched (clauses ++ C ∷ []) n (lists_with (lists_with lists one (record { clause = length pairs; blocker = other; binary = binary })) other
    (record { clause = length pairs; blocker = one; binary = binary })) (pairs ++ record { one = one; other = other } ∷ [])
watched_added clauses n lists pairs C one other binary h literals one_in other_in only =
    let more : List Clause = clauses ++ C ∷ [] in
    let p : Pair = record { one = one; other = other } in
    let first : Watch = record { clause = length pairs; blocker = other; binary = binary } in
    let second : Watch = record { clause = length pairs; blocker = one; binary = binary } in
    let lists1 : List (List Watch) = lists_with lists one first in
    let count = h.pairs_length in
    let low_one : index_of one < length lists = rw h.lists_length (index_low n one (All-contains (IsLiteralOf n) C one literals one_in)) in
    let low_other : index_of other < length lists = rw h.lists_length (index_low n other (All-contains (IsLiteralOf n) C other literals other_in)) in
    let long1 : length lists1 ≡ length lists = length-set lists (index_of one) (list_at lists one ++ first ∷ []) in
    let long2 : length (lists_with lists1 other second) ≡ length lists1 = length-set lists1 (index_of other) (list_at lists1 other ++ second ∷ []) in
    let low_other1 : index_of other < length lists1 = omega arith in
    let old : (j : ℕ) → j < length clauses → clause_at more j ≡ clause_at clauses j = λ j low. get_or_append_left clauses (C ∷ []) [] j low in
    let old_pair : (j : ℕ) → j < length clauses → pair_at (pairs ++ p ∷ []) j ≡ pair_at pairs j = λ j low. get_or_append_left pairs (p ∷ []) no_pair j (omega arith) in
    let last : clause_at more (length pairs) ≡ C = get_or_push clauses C [] (length pairs) (sym count) in
    let last_pair : pair_at (pairs ++ p ∷ []) (length pairs) ≡ p = get_or_push pairs p no_pair (length pairs) refl in
    let is_old : (y : ℤ) (w : Watch) → IsWatcher clauses y w → IsWatcher more y w = λ y w was.
    let held = was.held in
    record { held = omega (arith, length-append clauses (C ∷ [])); inside = rw (old w.clause was.held) was.inside; only = λ b. rw (old w.clause was.held) (was.only b) } in
    let held_new : length pairs < length more = omega (arith, length-append clauses (C ∷ [])) in
    record {
      literals = All-push (All (IsLiteralOf n)) clauses C h.literals literals;
      lists_length = long2 ∙ long1 ∙ h.lists_length;
      pairs_length = omega (arith, length-append clauses (C ∷ []), length-append pairs (p ∷ []));
      watchers = watchers_pushed more lists1 other second low_other1
          (watchers_pushed more lists one first low_one (λ y k k_within. is_old y (watch_at (list_at lists y) k) (h.watchers y k k_within))
          (record { held = held_new; inside = rw last other_in; only = λ b. rw last (only b) }))
          (record { held = held_new; inside = rw last one_in; only = λ b. rw last (binary_turned one other C (only b)) });
      inside = λ j l within is_one. elim (cases_lt j (length clauses)) [
        | inl low ↦ rw (old j low) (h.inside j l low (rw (old_pair j low) at is_one))
        | inr high ↦
            let this : j ≡ length pairs = omega (arith, length-append clauses (C ∷ [])) in
            let of_p : IsOneOf p l = subst (λ q. IsOneOf q l) (ap (pair_at (pairs ++ p ∷ [])) this ∙ last_pair) is_one in
            rw (this, last) (elim of_p [
              | inl e ↦ rw e one_in
              | inr e ↦ rw e other_in
            ])
      ];
      watched = λ j l within is_one. elim (cases_lt j (length clauses)) [
        | inl low ↦ has_pushed lists1 other second low_other1 l 0 j ⊥ (has_pushed lists one first low_one l 0 j ⊥ (h.watched j l low (rw (old_pair j low) at is_one)))
        | inr high ↦
            let this : j ≡ length pairs = omega (arith, length-append clauses (C ∷ [])) in
            let of_p : IsOneOf p l = subst (λ q. IsOneOf q l) (ap (pair_at (pairs ++ p ∷ [])) this ∙ last_pair) is_one in
            rw this (elim of_p [
              | inl e ↦ rw e (has_pushed lists1 other second low_other1 one 0 (length pairs) ⊥ (has_new lists one first (length pairs) low_one refl))
              | inr e ↦ rw e (has_new lists1 other second (length pairs) low_other1 refl)
            ])
      ];
    }
