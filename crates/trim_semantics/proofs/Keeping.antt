-- The kept additions, found from the end, are those that the root reaches through hints.
use Rattle.std.proofs.Common.{◌≡◌, ℕ, suc, ◌+◌, ◌<◌, ◌≤◌, Bool, true, false, cond, List, [], ◌∷◌, ◌++◌, length, map, refl, ap, subst, sym, ◌∙◌, arith, inl, inr, Option, None, Some}
use Rattle.std.specs.Prelude.{◌⊎◌}
use Rattle.std.specs.List.{Contains, AllPairs}
use Rattle.std.specs.Ordering.{nat_cmp}
use Rattle.std.specs.FinMap.{get, insert, empty, get-empty}
use Rattle.std.specs.FinSet as literals
use Rattle.std.proofs.lemmas.Bool.{cases_eq}
use Rattle.std.proofs.lemmas.List.Kept.{AllPairs-cons}
use Rattle.proof_semantics.specs.declared.item.Item.TheVariants.{Add, Remove}
use Rattle.proof_semantics.specs.Clauses.{Clause}
use Rattle.proof_semantics.specs.Logs.{StepValue, LogItem, Held, Derives, with_negations, removed_from, IsSoundFrom, held_from, held_of, last_added_after, Refutes}
use Rattle.trim_semantics.specs.Kept.{is_empty_clause, root_of, IsKept}
use Rattle.trim_semantics.specs.Trimming.{is_named, kept_steps}
use Rattle.trim_semantics.proofs.Members.{contains_first, contains_later, contains_cases, contains_none, all_contained}
use Rattle.trim_semantics.proofs.Naming.{namer, naming, hints_held}
use Rattle.trim_semantics.proofs.Refuting.{held_elsewhere, was_held_all}

-- the kept additions with one more in front
abbrev kept_with : Bool → Bool → StepValue → List StepValue → List StepValue
kept_with empty named s kept = cond empty (s ∷ []) (cond named (s ∷ kept) kept)

-- ---- what is kept is an addition of the log

with_cases : (empty named : Bool) (s t : StepValue) (kept : List StepValue) → Contains (kept_with empty named s kept) t → (s ≡ t) ⊎ Contains kept t
with_cases true named s t kept m = elim (contains_cases s [] t m) [ inl e ↦ inl e | inr later ↦ absurd (contains_none t later) ]
with_cases false true s t kept m = contains_cases s kept t m
with_cases false false s t kept m = inr m

pub kept_added : (log : List LogItem) (t : StepValue) → Contains (kept_steps log) t → Contains log (Add t)
kept_added [] t m = absurd (contains_none t m)
kept_added (Add s ∷ log) t m = elim (with_cases (is_empty_clause s.literals) (is_named (kept_steps log) s.id) s t (kept_steps log) m) [
  | inl same ↦ subst (λ u. Contains (Add s ∷ log) (Add u)) same (contains_first (Add s) log)
  | inr later ↦ contains_later (Add s) log (Add t) (kept_added log t later)
]
kept_added (Remove ids ∷ log) t m = contains_later (Remove ids) log (Add t) (kept_added log t m)

-- an addition is the first item, or a later one
added_cases : (s t : StepValue) (log : List LogItem) → Contains (Add s ∷ log) (Add t) → (s ≡ t) ⊎ Contains log (Add t)
added_cases s t log m = elim (contains_cases (Add s) log (Add t) m) [
  | inl e ↦ inl (let same : s ≡ t = cc in same)
  | inr later ↦ inr later
]

added_behind : (ids : List ℕ) (t : StepValue) (log : List LogItem) → Contains (Remove ids ∷ log) (Add t) → Contains log (Add t)
added_behind ids t log m = elim (contains_cases (Remove ids) log (Add t) m) [
  | inl e ↦ absurd (let no : ⊥ = cc in no)
  | inr later ↦ later
]

-- ---- ids along a sound log

pub later_id : (log : List LogItem) (held : Held) (last : ℕ) → IsSoundFrom held last log → (t : StepValue) → Contains log (Add t) → last < t.id
later_id [] held last h t m = absurd (contains_none (Add t) m)
later_id (Add s ∷ log) held last (rises, derives, h) t m = elim (added_cases s t log m) [
  | inl same ↦ subst (λ u. last < u.id) same rises
  | inr later ↦ let behind = later_id log (insert held s.id s.literals) s.id h t later in omega (arith, rises, behind)
]
later_id (Remove ids ∷ log) held last h t m = later_id log (removed_from held ids) last h t (added_behind ids t log m)

sound_behind : (before rest : List LogItem) (held : Held) (last : ℕ) → IsSoundFrom held last (before ++ rest) → (later : Held) × (id : ℕ) × IsSoundFrom later id rest
sound_behind [] rest held last h = (held, last, h)
sound_behind (Add s ∷ before) rest held last (rises, derives, h) = sound_behind before rest (insert held s.id s.literals) s.id h
sound_behind (Remove ids ∷ before) rest held last h = sound_behind before rest (removed_from held ids) last h

-- an addition behind another has a greater id
pub in_order : (formula : List Clause) (log : List LogItem) → Refutes formula log → (before behind : List LogItem) (s t : StepValue) → log ≡ before ++ Add s ∷ behind
    → Contains behind (Add t) → s.id < t.id
in_order formula log r before behind s t is m =
    let rest = sound_behind before (Add s ∷ behind) (held_of formula) (length formula) (subst (IsSoundFrom (held_of formula) (length formula)) is r.sound) in
    later_id behind (insert rest.0 s.id s.literals) s.id rest.2.2 t m

-- no id above the last one is held
abbrev pub IsBelow : Held → ℕ → Type 0
IsBelow held last = (id : ℕ) (clause : Clause) → get held id ≡ Some clause → id ≤ last

below_inserted : (held : Held) (last id : ℕ) (clause : Clause) → IsBelow held last → last < id → IsBelow (insert held id clause) id
below_inserted held last id clause h rises q c e = elim (cases_eq q id) [
  | inl same ↦ omega (arith, same)
  | inr apart ↦ let low = h q c (sym (held_elsewhere held id q clause apart) ∙ e) in omega (arith, low, rises)
]

below_removed : (ids : List ℕ) (held : Held) (last : ℕ) → IsBelow held last → IsBelow (removed_from held ids) last
below_removed ids held last h q c e = h q c (was_held_all ids held q c e)

below_from : (clauses : List Clause) (held : Held) (last next : ℕ) → next ≡ suc last → IsBelow held last → IsBelow (held_from held next clauses) (last + length clauses)
below_from [] held last next at h id clause e = let low = h id clause e in omega (arith, low)
below_from (c ∷ clauses) held last next at h id clause e =
    let low = below_from clauses (insert held next c) next (suc next) refl (below_inserted held last next c h (omega (arith, at))) id clause e in
    omega (arith, low, at)

pub below_of : (formula : List Clause) → IsBelow (held_of formula) (length formula)
below_of formula id clause e =
    let none : IsBelow empty 0 = λ q c e'. let no = get-empty {X = Clause} nat_cmp q in cc in
    let low = below_from formula empty 0 1 refl none id clause e in
    omega (arith, low)

named_below : (held : Held) (last : ℕ) (s : StepValue) (id : ℕ) → IsBelow held last → Derives held s → Contains s.hints id → id ≤ last
named_below held last s id h d m =
    let found = hints_held (get held) (with_negations literals.empty s.literals) s.hints id d m in
    h id found.0 found.1

-- ---- what a kept addition names is kept

reaches_with : (empty named : Bool) (u s t : StepValue) (kept : List StepValue) → is_named kept u.id ≡ named → Contains (kept_with empty named u kept) t → Contains t.hints s.id
    → ((u ≡ t) → ⊥) → (u ≡ s) ⊎ (Contains kept t → Contains kept s) → Contains (kept_with empty named u kept) s
reaches_with true named u s t kept is m n apart at = elim (contains_cases u [] t m) [ inl e ↦ absurd (apart e) | inr later ↦ absurd (contains_none t later) ]
reaches_with false true u s t kept is m n apart (inl e) = subst (λ v. Contains (u ∷ kept) v) e (contains_first u kept)
reaches_with false true u s t kept is m n apart (inr next) = elim (contains_cases u kept t m) [ inl e ↦ absurd (apart e) | inr later ↦ contains_later u kept s (next later) ]
reaches_with false false u s t kept is m n apart (inl e) = let bad : true ≡ false = sym (naming kept u.id t m (subst (λ v. Contains t.hints v.id) (sym e) n)) ∙ is in cc
reaches_with false false u s t kept is m n apart (inr next) = next m

-- the addition with a hint's id stands before the one that names it
reaches : (log : List LogItem) (held : Held) (last : ℕ) → IsSoundFrom held last log → IsBelow held last → (s t : StepValue) → Contains (kept_steps log) t → Contains log (Add s)
    → Contains t.hints s.id → Contains (kept_steps log) s
reaches [] held last h low s t m a n = absurd (contains_none t m)
reaches (Add u ∷ log) held last (rises, derives, h) low s t m a n =
    let first : last < s.id = later_id (Add u ∷ log) held last (rises, derives, h) s a in
    let apart : u ≡ t → ⊥ = λ e. (let under = named_below held last u s.id low derives (subst (λ v. Contains v.hints s.id) (sym e) n) in omega (arith, under, first)) in
    reaches_with (is_empty_clause u.literals) (is_named (kept_steps log) u.id) u s t (kept_steps log) refl m n apart (elim (added_cases u s log a) [
      | inl e ↦ inl e
      | inr later ↦ inr (λ m'. reaches log (insert held u.id u.literals) u.id h (below_inserted held last u.id u.literals low rises) s t m' later n)
    ])
reaches (Remove ids ∷ log) held last h low s t m a n = reaches log (removed_from held ids) last h (below_removed ids held last low) s t m (added_behind ids s log a) n

-- ---- the root

root_with : (empty named : Bool) (u s : StepValue) (kept : List StepValue) (rest : Option StepValue) → cond empty (Some u) rest ≡ Some s → (rest ≡ Some s → Contains kept s)
    → Contains (kept_with empty named u kept) s
root_with true named u s kept rest e next = let same : u ≡ s = cc in subst (λ v. Contains (u ∷ []) v) same (contains_first u [])
root_with false true u s kept rest e next = contains_later u kept s (next e)
root_with false false u s kept rest e next = next e

pub root_kept : (log : List LogItem) (s : StepValue) → root_of log ≡ Some s → Contains (kept_steps log) s
root_kept [] s e = cc
root_kept (Add u ∷ log) s e = root_with (is_empty_clause u.literals) (is_named (kept_steps log) u.id) u s (kept_steps log) (root_of log) e (root_kept log s)
root_kept (Remove ids ∷ log) s e = root_kept log s e

root_here : (empty : Bool) (s : StepValue) (rest : Option StepValue) → (empty ≡ false → (t : StepValue) × (rest ≡ Some t)) → (t : StepValue) × (cond empty (Some s) rest ≡ Some t)
root_here true s rest h = (s, refl)
root_here false s rest h = h refl

root_found : (log : List LogItem) (before : Option Clause) → last_added_after before log ≡ Some [] → (before ≡ Some []) ⊎ ((s : StepValue) × (root_of log ≡ Some s))
root_found [] before e = inl e
root_found (Add s ∷ log) before e =
    inr (root_here (is_empty_clause s.literals) s (root_of log) (λ no. elim (root_found log (Some s.literals) e) [
      | inl same ↦ let is : s.literals ≡ [] = cc in let bad : true ≡ false = sym (ap is_empty_clause is) ∙ no in cc
      | inr found ↦ found
    ]))
root_found (Remove ids ∷ log) before e = root_found log before e

-- a log that refutes has a root
pub has_root : (formula : List Clause) (log : List LogItem) → Refutes formula log → (s : StepValue) × (root_of log ≡ Some s)
has_root formula log r = elim (root_found log None r.ends) [
  | inl none ↦ cc
  | inr found ↦ found
]

behind_with : (empty named : Bool) (u s t : StepValue) (kept : List StepValue) (rest : Option StepValue) → cond empty (Some u) rest ≡ Some s → Contains (kept_with empty named u kept) t
    → (rest ≡ Some s → u.id < s.id) → (rest ≡ Some s → Contains kept t → t.id ≤ s.id) → t.id ≤ s.id
behind_with true named u s t kept rest e m low next = elim (contains_cases u [] t m) [
  | inl same ↦ let is : u ≡ s = cc in let ids : t.id ≡ s.id = ap (λ v. v.id) (sym same ∙ is) in omega (arith, ids)
  | inr later ↦ absurd (contains_none t later)
]
behind_with false true u s t kept rest e m low next = elim (contains_cases u kept t m) [
  | inl same ↦ let ids : u.id ≡ t.id = ap (λ v. v.id) same in let under = low e in omega (arith, ids, under)
  | inr later ↦ next e later
]
behind_with false false u s t kept rest e m low next = next e m

behind : (log : List LogItem) (held : Held) (last : ℕ) → IsSoundFrom held last log → (s t : StepValue) → root_of log ≡ Some s → Contains (kept_steps log) t → t.id ≤ s.id
behind [] held last h s t e m = cc
behind (Add u ∷ log) held last (rises, derives, h) s t e m =
    behind_with (is_empty_clause u.literals) (is_named (kept_steps log) u.id) u s t (kept_steps log) (root_of log) e m
    (λ e'. later_id log (insert held u.id u.literals) u.id h s (kept_added log s (root_kept log s e')))
    (λ e' m'. behind log (insert held u.id u.literals) u.id h s t e' m')
behind (Remove ids ∷ log) held last h s t e m = behind log (removed_from held ids) last h s t e m

-- ---- kept additions, in both words

kept_found : (whole log : List LogItem) → root_of log ≡ root_of whole → ((s : StepValue) → Contains log (Add s) → Contains whole (Add s)) → (t : StepValue) → Contains (kept_steps log) t
    → IsKept whole t
kept_found whole [] same all t m = absurd (contains_none t m)
kept_found whole (Add u ∷ log) same all t m =
    at_tests (is_empty_clause u.literals) (is_named (kept_steps log) u.id) refl same m
    (λ root t' m'. kept_found whole log root (λ s a. all s (contains_later (Add u) log (Add s) a)) t' m') where
      at_tests : (empty named : Bool) → is_named (kept_steps log) u.id ≡ named → cond empty (Some u) (root_of log) ≡ root_of whole → Contains (kept_with empty named u (kept_steps log)) t
          → (root_of log ≡ root_of whole → (t' : StepValue) → Contains (kept_steps log) t' → IsKept whole t') → IsKept whole t
      at_tests true named is root m next = elim (contains_cases u [] t m) [
        | inl e ↦ subst (IsKept whole) e (IsKept.root u (sym root))
        | inr later ↦ absurd (contains_none t later)
      ]
      at_tests false true is root m next = elim (contains_cases u (kept_steps log) t m) [
        | inl e ↦
            let by = namer (kept_steps log) u.id is in
            subst (IsKept whole) e (IsKept.named u by.0 (all u (contains_first (Add u) log)) (next root by.0 by.1) by.2)
        | inr later ↦ next root t later
      ]
      at_tests false false is root m next = next root t m
kept_found whole (Remove ids ∷ log) same all t m = kept_found whole log same (λ s a. all s (contains_later (Remove ids) log (Add s) a)) t m

pub contains_kept : (log : List LogItem) (t : StepValue) → Contains (kept_steps log) t → IsKept log t
contains_kept log t m = kept_found log log refl (λ s a. a) t m

pub kept_contains : (formula : List Clause) (log : List LogItem) → Refutes formula log → (t : StepValue) → IsKept log t → Contains (kept_steps log) t
kept_contains formula log r t (IsKept.root s e) = root_kept log t e
kept_contains formula log r t (IsKept.named s u a k n) =
    reaches log (held_of formula) (length formula) r.sound (below_of formula) t u (kept_contains formula log r u k) a n

pub none_behind : (formula : List Clause) (log : List LogItem) → Refutes formula log → (s t : StepValue) → root_of log ≡ Some s → IsKept log t → t.id ≤ s.id
none_behind formula log r s t e k = behind log (held_of formula) (length formula) r.sound s t e (kept_contains formula log r t k)

-- ---- their order, and what they name

pairs_with : (empty named : Bool) (u : StepValue) (kept : List StepValue) → ((t : StepValue) → Contains kept t → u.id < t.id) → AllPairs (λ s t. s.id < t.id) kept
    → AllPairs (λ s t. s.id < t.id) (kept_with empty named u kept)
pairs_with true named u kept low h = λ i j d under within. absurd (omega arith)
pairs_with false true u kept low h = AllPairs-cons (λ s t. s.id < t.id) u kept (all_contained (λ t. u.id < t.id) kept low) h
pairs_with false false u kept low h = h

kept_rise : (log : List LogItem) (held : Held) (last : ℕ) → IsSoundFrom held last log → AllPairs (λ s t. s.id < t.id) (kept_steps log)
kept_rise [] held last h = λ i j d under within. absurd (omega arith)
kept_rise (Add u ∷ log) held last (rises, derives, h) =
    pairs_with (is_empty_clause u.literals) (is_named (kept_steps log) u.id) u (kept_steps log)
    (λ t m. later_id log (insert held u.id u.literals) u.id h t (kept_added log t m)) (kept_rise log (insert held u.id u.literals) u.id h)
kept_rise (Remove ids ∷ log) held last h = kept_rise log (removed_from held ids) last h

pub kept_in_order : (formula : List Clause) (log : List LogItem) → Refutes formula log → AllPairs (λ s t. s.id < t.id) (kept_steps log)
kept_in_order formula log r = kept_rise log (held_of formula) (length formula) r.sound

-- what is named is held before the log, or kept
abbrev IsKnown : Held → List StepValue → ℕ → Type 0
IsKnown held kept id = ((clause : Clause) × (get held id ≡ Some clause)) ⊎ Contains (map (λ s. s.id) kept) id

known_with : (held : Held) (empty named : Bool) (u t : StepValue) (kept : List StepValue) (id : ℕ) → is_named kept u.id ≡ named → Derives held u
    → Contains (kept_with empty named u kept) t → Contains t.hints id → (Contains kept t → IsKnown (insert held u.id u.literals) kept id) → IsKnown held (kept_with empty named u kept) id
known_with held empty named u t kept id is d m n next = elim (with_cases empty named u t kept m) [
  | inl e ↦ inl (hints_held (get held) (with_negations literals.empty u.literals) u.hints id d (subst (λ v. Contains v.hints id) (sym e) n))
  | inr later ↦ at_tests empty named is m later (next later)
] where
  at_tests : (empty named : Bool) → is_named kept u.id ≡ named → Contains (kept_with empty named u kept) t → Contains kept t → IsKnown (insert held u.id u.literals) kept id
      → IsKnown held (kept_with empty named u kept) id
  at_tests true named is m later k = elim (contains_cases u [] t m) [
    | inl e ↦ inl (hints_held (get held) (with_negations literals.empty u.literals) u.hints id d (subst (λ v. Contains v.hints id) (sym e) n))
    | inr none ↦ absurd (contains_none t none)
  ]
  at_tests false true is m later (inr k) = inr (contains_later u.id (map (λ s. s.id) kept) id k)
  at_tests false true is m later (inl (clause, e)) = elim (cases_eq id u.id) [
    | inl same ↦ inr (subst (λ x. Contains (u.id ∷ map (λ s. s.id) kept) x) (sym same) (contains_first u.id (map (λ s. s.id) kept)))
    | inr apart ↦ inl (clause, sym (held_elsewhere held u.id id u.literals apart) ∙ e)
  ]
  at_tests false false is m later (inr k) = inr k
  at_tests false false is m later (inl (clause, e)) = elim (cases_eq id u.id) [
    | inl same ↦ let bad : true ≡ false = sym (naming kept u.id t later (subst (λ x. Contains t.hints x) same n)) ∙ is in cc
    | inr apart ↦ inl (clause, sym (held_elsewhere held u.id id u.literals apart) ∙ e)
  ]

named_known : (log : List LogItem) (held : Held) (last : ℕ) → IsSoundFrom held last log → (t : StepValue) (id : ℕ) → Contains (kept_steps log) t → Contains t.hints id
    → IsKnown held (kept_steps log) id
named_known [] held last h t id m n = absurd (contains_none t m)
named_known (Add u ∷ log) held last (rises, derives, h) t id m n =
    known_with held (is_empty_clause u.literals) (is_named (kept_steps log) u.id) u t (kept_steps log) id refl derives m n
    (λ m'. named_known log (insert held u.id u.literals) u.id h t id m' n)
named_known (Remove ids ∷ log) held last h t id m n = elim (named_known log (removed_from held ids) last h t id m n) [
  | inl (clause, e) ↦ inl (clause, was_held_all ids held id clause e)
  | inr k ↦ inr k
]

-- a hint above the formula's clauses is the id of a kept addition
pub named_kept : (formula : List Clause) (log : List LogItem) → Refutes formula log → (t : StepValue) (id : ℕ) → Contains (kept_steps log) t → Contains t.hints id → length formula < id
    → Contains (map (λ s. s.id) (kept_steps log)) id
named_kept formula log r t id m n above = elim (named_known log (held_of formula) (length formula) r.sound t id m n) [
  | inl (clause, e) ↦ let low = below_of formula id clause e in absurd (omega (arith, low, above))
  | inr k ↦ k
]

pub kept_above : (formula : List Clause) (log : List LogItem) → Refutes formula log → (t : StepValue) → Contains (kept_steps log) t → length formula < t.id
kept_above formula log r t m = later_id log (held_of formula) (length formula) r.sound t (kept_added log t m)
