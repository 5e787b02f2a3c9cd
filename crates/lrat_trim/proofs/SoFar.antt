-- What a pass to the front has kept so far is the trimmed log from that place on, the other way round.
use Rattle.std.proofs.Common.{◌≡◌, ℕ, suc, ◌<◌, Bool, true, false, cond, ◌||◌, List, [], ◌∷◌, ◌++◌, length, get_or, drop, drop-cons, map, reverse, refl, ap, subst, sym, ◌∙◌, arith, Some}
use Rattle.std.specs.Prelude.{◌&&◌, not, filter, position}
use Rattle.std.specs.List.{Contains, list_any}
use Rattle.std.specs.BTreeSet.{BTreeSet}
use Rattle.std.specs.BTreeMap.{is_at}
use Rattle.std.specs.Ordering.{nat_cmp}
use Rattle.std.specs.Bool.{MatchBool}
use Rattle.std.proofs.lemmas.List.{reverse-append}
use Rattle.std.proofs.lemmas.List.Quantifiers.{position-Some}
use Rattle.proof_semantics.specs.declared.item.Item.TheVariants.{Add, Remove}
use Rattle.proof_semantics.specs.Clauses.{Clause}
use Rattle.proof_semantics.specs.Logs.{StepValue, LogItem, Refutes}
use Rattle.trim_semantics.specs.Kept.{is_empty_clause}
use Rattle.trim_semantics.specs.Trimmed.{removal_of}
use Rattle.trim_semantics.specs.Trimming.{has_id, is_named, kept_steps, ended_after, with_removals}
use Rattle.trim_semantics.proofs.Members.{contains_first}
use Rattle.lrat_trim.specs.Backwards.{adds_empty_clause, is_in, KeptSoFar, KeptStep, Passed, Visited}
use Rattle.lrat_trim.proofs.Roots.{none_before, kept_from}
use Rattle.lrat_trim.proofs.Fresh.{fresh_ended}

pub record IsSoFar (ids : List ℕ) (steps : List StepValue) (all_named : ℕ → Bool) (items : List LogItem) : Type 0 where
  pub named : (id : ℕ) → all_named id ≡ is_named steps id
  pub kept : reverse items ≡ with_removals ids steps

pub none_in : (ids : BTreeSet ℕ) → ids.keys ≡ [] → (id : ℕ) → is_in ids id ≡ false
none_in ids e id = ap (λ keys. list_any (is_at (nat_cmp id)) keys) e

-- ---- the root

pub first_kept : (log : List LogItem) (root : ℕ) (s : StepValue) (ids : List ℕ) (old new : ℕ → Bool) (items : List LogItem) → position adds_empty_clause log ≡ Some root
    → Add s ≡ get_or log root (Add s)
    → ((id : ℕ) → old id ≡ false) → ((id : ℕ) → new id ≡ (has_id s.hints id || old id)) → items ≡ Add s ∷ [] → IsSoFar ids (kept_steps (drop root log)) new items
first_kept log root s ids old new items is here none names e =
    let found = position-Some adds_empty_clause log root (Add s) is in
    let front : drop root log ≡ Add s ∷ drop (suc root) log = drop-cons log root (Add s) found.0 ∙ ap (λ item. item ∷ drop (suc root) log) (sym here) in
    let empty : is_empty_clause s.literals ≡ true = ap adds_empty_clause here ∙ found.1 in
    let steps : kept_steps (drop root log) ≡ s ∷ [] = ap kept_steps front ∙ ap
    (λ t. cond t (s ∷ []) (cond (is_named (kept_steps (drop (suc root) log)) s.id) (s ∷ kept_steps (drop (suc root) log)) (kept_steps (drop (suc root) log)))) empty in
    subst (λ steps. IsSoFar ids steps new items) (sym steps) (record {
      named = λ id. names id ∙ ap (λ t. has_id s.hints id || t) (none id);
      kept = ap reverse e;
    })

pub no_root : (log : List LogItem) (root : ℕ) (gone : List ℕ) → position adds_empty_clause log ≡ Some root → ¬ (Remove gone ≡ get_or log root (Remove gone))
no_root log root gone is here =
    let found = position-Some adds_empty_clause log root (Remove gone) is in
    let bad : false ≡ true = ap adds_empty_clause here ∙ found.1 in
    let no : ⊥ = cc in
    no

-- ---- an item before it

removal_turned : (ids : List ℕ) → reverse (removal_of ids) ≡ removal_of ids
removal_turned [] = refl
removal_turned (id ∷ ids) = refl

turned : (ids : List ℕ) (s : StepValue) (items : List LogItem) → reverse ((items ++ removal_of ids) ++ Add s ∷ []) ≡ Add s ∷ (removal_of ids ++ reverse items)
turned ids s items =
    reverse-append (items ++ removal_of ids) (Add s ∷ [])
    ∙ ap (λ rest. Add s ∷ rest) (reverse-append items (removal_of ids) ∙ ap (λ front. front ++ reverse items) (removal_turned ids))

-- what ends after a step behind which one names it
ended_is : (ids more : List ℕ) (s : StepValue) (later : List StepValue) (id : ℕ) → is_named later id ≡ true → ids ≡ filter (λ q. has_id s.hints q && not (is_named later q)) more
    → ids ≡ ended_after more s later
ended_is ids more s [] id named e = cc
ended_is ids more s (t ∷ later) id named e = e

module _ (formula : List Clause) (log : List LogItem) (r : Refutes formula log) where
  passed : (steps : List StepValue) (old new : KeptSoFar) → IsSoFar (map (λ t. t.id) (kept_steps log)) steps old.named old.kept
      → Passed old new → IsSoFar (map (λ t. t.id) (kept_steps log)) steps new.named new.kept
  passed steps old new h p = record { named = λ id. p.named id ∙ h.named id; kept = ap reverse p.kept ∙ h.kept }

  one_kept : (s : StepValue) (later : List StepValue) (old new : KeptSoFar) → is_named later s.id ≡ true → Contains (kept_steps log) s
      → IsSoFar (map (λ t. t.id) (kept_steps log)) later old.named old.kept → KeptStep (length formula) s old new
      → IsSoFar (map (λ t. t.id) (kept_steps log)) (s ∷ later) new.named new.kept
  one_kept s later old new is m h k =
      let ends : k.ids ≡ ended_after (map (λ t. t.id) (kept_steps log)) s later =
      ended_is k.ids (map (λ t. t.id) (kept_steps log)) s later s.id is (fresh_ended formula log r s later old.named k.ids h.named m k.fresh) in
      record {
        named = λ id. k.named id ∙ ap (λ t. has_id s.hints id || t) (h.named id);
        kept =
            ap reverse k.kept ∙ turned k.ids s old.kept
            ∙ ap (λ rest. Add s ∷ (removal_of k.ids ++ rest)) h.kept
            ∙ ap (λ gone. Add s ∷ (removal_of gone ++ with_removals (map (λ t. t.id) (kept_steps log)) later)) ends;
      }

  -- an addition, given the steps behind it
  added : (s : StepValue) (later : List StepValue) (empty named : Bool) (old new : KeptSoFar) → empty ≡ false → is_named later s.id ≡ named
      → (Contains (cond empty (s ∷ []) (cond named (s ∷ later) later)) s → Contains (kept_steps log) s)
      → IsSoFar (map (λ t. t.id) (kept_steps log)) later old.named old.kept
      → MatchBool named (KeptStep (length formula) s old new) (Passed old new)
      → IsSoFar (map (λ t. t.id) (kept_steps log)) (cond empty (s ∷ []) (cond named (s ∷ later) later)) new.named new.kept
  added s later true named old new e is up h v = cc
  added s later false true old new e is up h v = one_kept s later old new is (up (contains_first s later)) h v
  added s later false false old new e is up h v = passed later old new h v

  visited : (item : LogItem) (rest : List LogItem) (old new : KeptSoFar) → adds_empty_clause item ≡ false
      → ((t : StepValue) → Contains (kept_steps (item ∷ rest)) t → Contains (kept_steps log) t)
      → IsSoFar (map (λ t. t.id) (kept_steps log)) (kept_steps rest) old.named old.kept → Visited (length formula) item old new
      → IsSoFar (map (λ t. t.id) (kept_steps log)) (kept_steps (item ∷ rest)) new.named new.kept
  visited (Remove gone) rest old new e up h v = passed (kept_steps rest) old new h v
  visited (Add s) rest old new e up h v =
      added s (kept_steps rest) (is_empty_clause s.literals) (is_named (kept_steps rest) s.id) old new e refl (up s) h
      (subst (λ t. MatchBool t (KeptStep (length formula) s old new) (Passed old new)) (h.named s.id) v)

  pub next_kept : (root place next : ℕ) (item : LogItem) (old new : KeptSoFar) → position adds_empty_clause log ≡ Some root → place < root
      → next ≡ suc place → item ≡ get_or log place item
      → IsSoFar (map (λ t. t.id) (kept_steps log)) (kept_steps (drop next log)) old.named old.kept → Visited (length formula) item old new
      → IsSoFar (map (λ t. t.id) (kept_steps log)) (kept_steps (drop place log)) new.named new.kept
  next_kept root place next item old new is low at here h v =
      let found = position-Some adds_empty_clause log root item is in
      let within : place < length log = (let far = found.0 in omega (arith, far, low)) in
      let front : drop place log ≡ item ∷ drop (suc place) log = drop-cons log place item within ∙ ap (λ first. first ∷ drop (suc place) log) (sym here) in
      let plain : adds_empty_clause item ≡ false = ap adds_empty_clause here ∙ none_before log root is place item low in
      subst (λ rest. IsSoFar (map (λ t. t.id) (kept_steps log)) (kept_steps rest) new.named new.kept) (sym front)
      (visited item (drop (suc place) log) old new plain
      (λ t m. kept_from log place t (λ k d under. none_before log root is k d (omega (arith, under, low))) (subst (λ rest. Contains (kept_steps rest) t) (sym front) m))
      (subst (λ k. IsSoFar (map (λ t. t.id) (kept_steps log)) (kept_steps (drop k log)) old.named old.kept) at h) v)
