-- The trimmed log is the one list of the kept additions with their removals.
use Rattle.std.proofs.Common.{◌≡◌, ℕ, suc, ◌<◌, ◌≤◌, true, false, List, [], ◌∷◌, ◌++◌, map, refl, ap, subst, sym, ◌∙◌, arith, inl, inr, Some}
use Rattle.std.specs.Prelude.{◌↔◌}
use Rattle.std.specs.List.{Contains, AllPairs}
use Rattle.std.proofs.lemmas.Bool.{and_parts, and_from, not-true, not_from_false, false_from_ne_true, cases_lt}
use Rattle.std.proofs.lemmas.List.Kept.{AllPairs-cons, AllPairs-filter}
use Rattle.proof_semantics.specs.declared.item.Item.TheVariants.{Add, Remove}
use Rattle.proof_semantics.specs.Clauses.{Clause}
use Rattle.proof_semantics.specs.Logs.{StepValue, LogItem, Refutes}
use Rattle.trim_semantics.specs.Kept.{root_of, IsKept}
use Rattle.trim_semantics.specs.Trimmed.{AreKept, IsLastToName, AreEndedAfter, removal_of, IsListOf, IsTrimmed}
use Rattle.trim_semantics.specs.Trimming.{has_id, is_named, kept_steps, ended_after, with_removals, trimmed}
use Rattle.trim_semantics.proofs.Members.{contains_first, contains_later, contains_cases, contains_none, all_contained, filter_contains, contains_filter, map_contains, contains_map, pairs_head}
use Rattle.trim_semantics.proofs.Members.{pairs_tail, same_list}
use Rattle.trim_semantics.proofs.Naming.{has-contains, contains-has, namer, naming}
use Rattle.trim_semantics.proofs.Keeping.{contains_kept, kept_contains, root_kept, has_root, none_behind, kept_in_order}

-- the ids of rising additions rise
pub ids_rise : (steps : List StepValue) → AllPairs (λ s t. s.id < t.id) steps → AllPairs (λ a b. a < b) (map (λ s. s.id) steps)
ids_rise [] h = λ i j d under within. absurd (omega arith)
ids_rise (s ∷ steps) h =
    AllPairs-cons (λ a b. a < b) s.id (map (λ t. t.id) steps)
    (all_contained (λ b. s.id < b) (map (λ t. t.id) steps) (λ id m.
    let found = contains_map (λ (t : StepValue). t.id) steps id m in
    let low = pairs_head (λ a b. a.id < b.id) s steps h found.0 found.1 in
    subst (λ b. s.id < b) found.2 low))
    (ids_rise steps (pairs_tail (λ a b. a.id < b.id) s steps h))

-- the steps are the kept additions from an id on
abbrev IsTail : List LogItem → ℕ → List StepValue → Type 0
IsTail log low steps = (t : StepValue) → Contains steps t ↔ (IsKept log t × (low ≤ t.id))

tail_next : (log : List LogItem) (low : ℕ) (s : StepValue) (later : List StepValue) → AllPairs (λ a b. a.id < b.id) (s ∷ later) → IsTail log low (s ∷ later) → IsTail log (suc s.id) later
tail_next log low s later h tail t = (
  (λ m. let under = pairs_head (λ a b. a.id < b.id) s later h t m in (((tail t).0 (contains_later s later t m)).0, omega (arith, under))),
  (λ k.
      let first = ((tail s).0 (contains_first s later)).1 in
      let under = k.1 in
      elim (contains_cases s later t ((tail t).1 (k.0, omega (arith, first, under)))) [
        | inl same ↦ let ids : s.id ≡ t.id = ap (λ v. v.id) same in absurd (omega (arith, ids, under))
        | inr m ↦ m
      ]),
)

-- ---- what ends after an addition

-- what ends after an addition in a trimmed log, where the kept additions from it on are these
module _ (formula : List Clause) (log : List LogItem) (r : Refutes formula log) where
  ended_kept : (low : ℕ) (s : StepValue) (later : List StepValue) → AllPairs (λ a b. a.id < b.id) (s ∷ later) → IsTail log low (s ∷ later) → (id : ℕ)
      → Contains (ended_after (map (λ t. t.id) (kept_steps log)) s later) id → (¬ (root_of log ≡ Some s)) × ((t : StepValue) × (t.id ≡ id) × IsLastToName log s t)
  ended_kept low s [] h tail id m = absurd (contains_none id m)
  ended_kept low s (t ∷ later) h tail id m =
      let next = tail_next log low s (t ∷ later) h tail in
      let parts = contains_filter _ (map (λ v. v.id) (kept_steps log)) id m in
      let both = and_parts _ _ parts.1 in
      let found = contains_map (λ (v : StepValue). v.id) (kept_steps log) id parts.0 in
      let unnamed : is_named (t ∷ later) id ≡ false = not-true _ both.1 in
      let behind = (next t).0 (contains_first t later) in (
        (λ root. let under = none_behind formula log r s t root behind.0 in let over = behind.1 in omega (arith, under, over)),
        (
          found.0,
          found.2,
          record {
            kept = contains_kept log found.0 found.1;
            named = subst (Contains s.hints) (sym found.2) (has-contains s.hints id both.0);
            last = λ u k n. elim (cases_lt s.id u.id) [
              | inl above ↦
                  let yes = naming (t ∷ later) id u ((next u).1 (k, omega (arith, above))) (subst (Contains u.hints) found.2 n) in
                  absurd (let bad : true ≡ false = sym yes ∙ unnamed in let no : ⊥ = cc in no)
              | inr under ↦ under
            ];
          },
        ),
      )

  -- the root is among the later ones
  some_later : (low : ℕ) (s : StepValue) (later : List StepValue) → IsTail log low (s ∷ later) → ¬ (root_of log ≡ Some s) → (t : StepValue) × Contains later t
  some_later low s later tail none =
      let root = has_root formula log r in
      let here = (tail s).0 (contains_first s later) in
      let under = none_behind formula log r root.0 s root.1 here.0 in
      let over = here.1 in
      elim (contains_cases s later root.0 ((tail root.0).1 (contains_kept log root.0 (root_kept log root.0 root.1), omega (arith, under, over)))) [
        | inl same ↦ absurd (none (root.1 ∙ ap Some (sym same)))
        | inr m ↦ (root.0, m)
      ]

  kept_ended : (low : ℕ) (s : StepValue) (later : List StepValue) → AllPairs (λ a b. a.id < b.id) (s ∷ later) → IsTail log low (s ∷ later) → (id : ℕ)
      → (¬ (root_of log ≡ Some s)) × ((t : StepValue) × (t.id ≡ id) × IsLastToName log s t) → Contains (ended_after (map (λ t. t.id) (kept_steps log)) s later) id
  kept_ended low s [] h tail id (none, k) = let other = some_later low s [] tail none in absurd (contains_none other.0 other.1)
  kept_ended low s (u ∷ later) h tail id (none, (t, is, k)) =
      let next = tail_next log low s (u ∷ later) h tail in
      let here : Contains (map (λ v. v.id) (kept_steps log)) id =
      subst (Contains (map (λ v. v.id) (kept_steps log))) is (map_contains (λ (v : StepValue). v.id) (kept_steps log) t (kept_contains formula log r t k.kept)) in
      let named : has_id s.hints id ≡ true = contains-has s.hints id (subst (Contains s.hints) is k.named) in
      let unnamed : is_named (u ∷ later) id ≡ false = false_from_ne_true _ (λ yes.
      let by = namer (u ∷ later) id yes in
      let above = (next by.0).0 by.1 in
      let over = above.1 in
      let under = k.last by.0 above.0 (subst (Contains by.0.hints) (sym is) by.2) in
      omega (arith, over, under)) in
      filter_contains _ (map (λ v. v.id) (kept_steps log)) id here (and_from _ _ named (not_from_false _ unnamed))

  ended_rise : (s : StepValue) (later : List StepValue) → AllPairs (λ a b. a < b) (ended_after (map (λ t. t.id) (kept_steps log)) s later)
  ended_rise s [] = λ i j d under within. absurd (omega arith)
  ended_rise s (t ∷ later) = AllPairs-filter (λ a b. a < b) _ (map (λ v. v.id) (kept_steps log)) (ids_rise (kept_steps log) (kept_in_order formula log r))

  ended_right : (low : ℕ) (s : StepValue) (later : List StepValue) → AllPairs (λ a b. a.id < b.id) (s ∷ later) → IsTail log low (s ∷ later)
      → AreEndedAfter log s (ended_after (map (λ t. t.id) (kept_steps log)) s later)
  ended_right low s later h tail = record {
    exactly = λ id. (ended_kept low s later h tail id, kept_ended low s later h tail id);
    in_order = ended_rise s later;
  }

  ended_only : (s : StepValue) (ids more : List ℕ) → AreEndedAfter log s ids → AreEndedAfter log s more → ids ≡ more
  ended_only s ids more h k =
      same_list (λ a. a) ids more h.in_order k.in_order (λ id m. (k.exactly id).1 ((h.exactly id).0 m)) (λ id m. (h.exactly id).1 ((k.exactly id).0 m))

  -- ---- one list

  list_right : (low : ℕ) (steps : List StepValue) → AllPairs (λ a b. a.id < b.id) steps → IsTail log low steps → IsListOf log steps (with_removals (map (λ t. t.id) (kept_steps log)) steps)
  list_right low [] h tail = refl
  list_right low (s ∷ later) h tail = (
    ended_after (map (λ t. t.id) (kept_steps log)) s later,
    with_removals (map (λ t. t.id) (kept_steps log)) later,
    ended_right low s later h tail,
    refl,
    list_right (suc s.id) later (pairs_tail (λ a b. a.id < b.id) s later h) (tail_next log low s later h tail),
  )

  list_only : (low : ℕ) (steps : List StepValue) (short : List LogItem) → AllPairs (λ a b. a.id < b.id) steps → IsTail log low steps → IsListOf log steps short
      → short ≡ with_removals (map (λ t. t.id) (kept_steps log)) steps
  list_only low [] short h tail e = e
  list_only low (s ∷ later) short h tail (ids, rest, ended, e, more) =
      let same : ids ≡ ended_after (map (λ t. t.id) (kept_steps log)) s later = ended_only s ids _ ended (ended_right low s later h tail) in
      let on : rest ≡ with_removals (map (λ t. t.id) (kept_steps log)) later =
      list_only (suc s.id) later rest (pairs_tail (λ a b. a.id < b.id) s later h) (tail_next log low s later h tail) more in
      e ∙ ap (λ gone. Add s ∷ (removal_of gone ++ rest)) same
      ∙ ap (λ behind. Add s ∷ (removal_of (ended_after (map (λ t. t.id) (kept_steps log)) s later) ++ behind)) on

  all_kept : IsTail log 0 (kept_steps log)
  all_kept t = ((λ m. (contains_kept log t m, omega arith)), (λ k. kept_contains formula log r t k.0))

  pub is_trimmed : IsTrimmed log (trimmed log)
  is_trimmed = record {
    steps = kept_steps log;
    kept = record { exactly = λ t. (contains_kept log t, kept_contains formula log r t); in_order = kept_in_order formula log r };
    lists = list_right 0 (kept_steps log) (kept_in_order formula log r) all_kept;
  }

  steps_only : (steps : List StepValue) → AreKept log steps → steps ≡ kept_steps log
  steps_only steps h =
      same_list (λ t. t.id) steps (kept_steps log) h.in_order (kept_in_order formula log r)
      (λ t m. kept_contains formula log r t ((h.exactly t).0 m)) (λ t m. (h.exactly t).1 (contains_kept log t m))

  pub only_trimmed : (short : List LogItem) → IsTrimmed log short → short ≡ trimmed log
  only_trimmed short h =
      list_only 0 (kept_steps log) short (kept_in_order formula log r) all_kept (subst (λ steps. IsListOf log steps short) (steps_only h.steps h.kept) h.lists)

-- ---- the trimmed log adds what is kept

in_removal : (ids : List ℕ) (s : StepValue) (rest : List LogItem) → Contains (removal_of ids ++ rest) (Add s) → Contains rest (Add s)
in_removal [] s rest m = m
in_removal (id ∷ ids) s rest m = elim (contains_cases (Remove (id ∷ ids)) rest (Add s) m) [
  | inl e ↦ absurd (let no : ⊥ = cc in no)
  | inr later ↦ later
]

behind_removal : (ids : List ℕ) (item : LogItem) (rest : List LogItem) → Contains rest item → Contains (removal_of ids ++ rest) item
behind_removal [] item rest m = m
behind_removal (id ∷ ids) item rest m = contains_later (Remove (id ∷ ids)) rest item m

added_listed : (ids : List ℕ) (steps : List StepValue) (s : StepValue) → Contains (with_removals ids steps) (Add s) → Contains steps s
added_listed ids [] s m = absurd (contains_none (Add s) m)
added_listed ids (t ∷ later) s m = elim (contains_cases (Add t) (removal_of (ended_after ids t later) ++ with_removals ids later) (Add s) m) [
  | inl e ↦ let same : t ≡ s = cc in subst (Contains (t ∷ later)) same (contains_first t later)
  | inr behind ↦ contains_later t later s (added_listed ids later s (in_removal (ended_after ids t later) s (with_removals ids later) behind))
]

listed_added : (ids : List ℕ) (steps : List StepValue) (s : StepValue) → Contains steps s → Contains (with_removals ids steps) (Add s)
listed_added ids [] s m = absurd (contains_none s m)
listed_added ids (t ∷ later) s m = elim (contains_cases t later s m) [
  | inl same ↦
      subst (λ u. Contains (Add t ∷ (removal_of (ended_after ids t later) ++ with_removals ids later)) (Add u)) same
      (contains_first (Add t) (removal_of (ended_after ids t later) ++ with_removals ids later))
  | inr behind ↦
      contains_later (Add t) (removal_of (ended_after ids t later) ++ with_removals ids later) (Add s)
      (behind_removal (ended_after ids t later) (Add s) (with_removals ids later) (listed_added ids later s behind))
]

-- the trimmed log adds just what is kept
pub added_kept : (formula : List Clause) (log : List LogItem) → Refutes formula log → (s : StepValue) → Contains (trimmed log) (Add s) ↔ IsKept log s
added_kept formula log r s = (
  (λ m. contains_kept log s (added_listed (map (λ t. t.id) (kept_steps log)) (kept_steps log) s m)),
  (λ k. listed_added (map (λ t. t.id) (kept_steps log)) (kept_steps log) s (kept_contains formula log r s k)),
)
