-- What is kept of a derivation, under new ids, is a derivation: it begins as the old one, and what it adds behind that is needed.
use Rattle.std.proofs.Common.{◌≡◌, ℕ, zero, suc, ◌+◌, ◌-◌, ◌<◌, ◌≤◌, Bool, true, false, List, [], ◌∷◌, ◌++◌}
use Rattle.std.proofs.Common.{length, get_or, take, drop, map, refl, ap, subst, sym, ◌∙◌, inl, inr, arith, length-append, None, Some}
use Rattle.std.specs.List.{Contains}
use Rattle.std.specs.FinMap.{get}
use Rattle.std.specs.FinSet as literals
use Rattle.std.proofs.lemmas.Bool.{cases_lt, cases_eq}
use Rattle.std.proofs.lemmas.List.{length-map, length-take-le, get_or-map, map-append, take-map, take_all, get_or_append_left, get_or-append-add, get_or-take, get_or-drop, length-drop, get_or_past}
use Rattle.std.proofs.lemmas.List.Elements.{All-weaker, All-contains_itself}
use Rattle.proof_semantics.specs.declared.item.Item.TheVariants.{Add, Remove}
use Rattle.proof_semantics.specs.Clauses.{Clause}
use Rattle.proof_semantics.specs.Formula.{Formula}
use Rattle.proof_semantics.specs.Logs.{StepValue, LogItem, held_of, with_negations, last_added, AddsInTurn, IsDerivation, Refutes}
use Rattle.proof_semantics.specs.Conflicts.{clause_at, added_clauses, clauses_with}
use Rattle.proof_semantics.specs.ConflictLaws.{IsNextStep}
use Rattle.proof_semantics.proofs.Conflicts.{derivation_law}
use Rattle.proof_semantics.proofs.HeldClauses.{held_of-at}
use Rattle.needed_log.specs.Needed.{IsNeeded, IsNeededFrom, hints_at, hints_of}
use Rattle.needed_log.specs.Kept.{IsMarked, KeepsNeeded, kept}
use Rattle.needed_log.specs.Marks.{AreMarked}
use Rattle.needed_log.specs.Renumbered.{AreNewIds, new_id, new_item, new_step, rank}
use Rattle.needed_log.proofs.Keeping.{rank_marked, rank_le, rank_rises, rank_all, length_kept, kept_marked, kept_unmarked, kept_take, kept_all, kept_before, place_of}
use Rattle.needed_log.proofs.Steps.{clause_of, held_of-within, added_at, added_counted, take_in_turn, last_at, IsStepAt, step_at, id_at, length_before, hints_before}
use Rattle.needed_log.proofs.Carrying.{new_id-early, new_id-late, conflict_carried, clause_of-new, map_same, step_same}

pub record IsShortened (f : Formula) (first : ℕ) (log short : List LogItem) : Type 0 where
  pub derivation : IsDerivation f short
  pub refutes : Refutes f.clauses short
  pub begins : take first short ≡ take first log
  pub kept : KeepsNeeded (length f.clauses) first log short
  pub needed : IsNeededFrom first short
  pub shorter : length short ≤ length log

abbrev id_of : LogItem → ℕ
id_of (Add s) = s.id
id_of (Remove gone) = 0

map_contains : (h : ℕ → ℕ) (xs : List ℕ) (x : ℕ) → Contains xs x → Contains (map h xs) (h x)
map_contains h xs x (k, within, is) = let count = length-map xs h in (k, omega (arith, within, count), get_or-map h xs k x (h x) within ∙ ap h is)

kept_clauses : (variables last clauses : ℕ) (ids : List ℕ) (marks : List Bool) (log : List LogItem) → AddsInTurn variables last log
    → added_clauses (map (new_item clauses ids) (kept marks log)) ≡ kept marks (added_clauses log)
kept_clauses variables last clauses ids [] log h = refl
kept_clauses variables last clauses ids (mark ∷ marks) [] h = refl
kept_clauses variables last clauses ids (mark ∷ marks) (Remove gone ∷ log) h = absurd h
kept_clauses variables last clauses ids (true ∷ marks) (Add s ∷ log) h = ap (λ rest. s.literals ∷ rest) (kept_clauses variables s.id clauses ids marks log h.2)
kept_clauses variables last clauses ids (false ∷ marks) (Add s ∷ log) h = kept_clauses variables s.id clauses ids marks log h.2

not_empty : (log : List LogItem) → last_added log ≡ Some [] → 0 < length log
not_empty [] e = cc
not_empty (item ∷ log) e = omega arith

module _ (f : Formula) (first : ℕ) (log : List LogItem) (marks : List Bool) (ids : List ℕ) (d : IsDerivation f log) (m : AreMarked (length f.clauses) first 0 log marks)
    (n : AreNewIds (length f.clauses) marks ids) where
  -- what is kept of the first p items
  short : ℕ → List LogItem
  short p = map (new_item (length f.clauses) ids) (kept (take p marks) (take p log))

  length_short : (p : ℕ) → length (short p) ≡ rank marks p
  unfolding short
  length_short p = length-map (kept (take p marks) (take p log)) (new_item (length f.clauses) ids) ∙ length_kept marks log p m.count

  -- the new id of an addition
  id_is : (k id : ℕ) → k < length log → id ≡ length f.clauses + 1 + k → new_id (length f.clauses) ids id ≡ length f.clauses + 1 + rank marks k
  id_is k id within e = let count = m.count in new_id-late (length f.clauses) ids id k e ∙ n.ranks k (omega (arith, within, count))

  -- an addition that is kept stands in what is kept so far
  item_is : (p k : ℕ) (e : LogItem) → k < p → p ≤ length log → IsMarked marks k → get_or (short p) (rank marks k) e ≡ new_item (length f.clauses) ids (get_or log k e)
  unfolding short
  item_is p k e low within marked =
      let inside : rank marks k < length (kept (take p marks) (take p log)) =
      (let rises = rank_rises marks k p marked low in let count = length_kept marks log p m.count in omega (arith, rises, count)) in
      get_or-map (new_item (length f.clauses) ids) (kept (take p marks) (take p log)) (rank marks k) e e inside
      ∙ ap (new_item (length f.clauses) ids) (kept_before marks log p k e m.count low marked)

  -- the clause of an addition that is kept, among the formula's clauses and those kept so far
  clause_is : (p k : ℕ) → k < p → p ≤ length log → IsMarked marks k → IsDerivation f (short p)
      → clause_at (clauses_with f.clauses (short p)) (length f.clauses + rank marks k) ≡ clause_at (clauses_with f.clauses (take p log)) (length f.clauses + k)
  clause_is p k low within marked sd =
      let e : LogItem = Remove [] in
      let rises = rank_rises marks k p marked low in
      let inside : rank marks k < length (short p) = (let count = length_short p in omega (arith, rises, count)) in
      let before : k < length (take p log) = (let count : length (take p log) ≡ p = length-take-le p log within in omega (arith, low, count)) in
      let new : clause_at (added_clauses (short p)) (rank marks k) ≡ clause_of (get_or log k e) =
      added_at f.variables (length f.clauses) (short p) (rank marks k) e sd.in_turn inside ∙ ap clause_of (item_is p k e low within marked) ∙ clause_of-new (length f.clauses) ids (get_or log k e) in
      let old : clause_at (added_clauses (take p log)) k ≡ clause_of (get_or log k e) =
      added_at f.variables (length f.clauses) (take p log) k e (take_in_turn f.variables (length f.clauses) log p d.in_turn) before ∙ ap clause_of (get_or-take p log k e low) in
      get_or-append-add f.clauses (added_clauses (short p)) (rank marks k) [] ∙ new ∙ sym old ∙ sym (get_or-append-add f.clauses (added_clauses (take p log)) k [])

  -- of an addition that a kept one names
  added_held : (p k id : ℕ) → p < length log → IsMarked marks p → IsDerivation f (short p) → Contains (hints_at log p) id → id ≡ length f.clauses + 1 + k → k < p
      → get (held_of (clauses_with f.clauses (short p))) (new_id (length f.clauses) ids id) ≡ Some (clause_at (clauses_with f.clauses (take p log)) (length f.clauses + k))
  added_held p k id within marked sd named at low =
      let kept_too : IsMarked marks k = m.closed p k (omega arith) within (omega (arith, low, within)) marked (subst (Contains (hints_at log p)) at named) in
      let rises = rank_rises marks k p kept_too low in
      let count : length (clauses_with f.clauses (short p)) ≡ length f.clauses + rank marks p =
      length-append f.clauses (added_clauses (short p)) ∙ ap (λ q. length f.clauses + q) (added_counted f.variables (length f.clauses) (short p) sd.in_turn ∙ length_short p) in
      ap (get (held_of (clauses_with f.clauses (short p)))) (id_is k id (omega (arith, low, within)) at)
      ∙ held_of-at (clauses_with f.clauses (short p)) (length f.clauses + rank marks k) (length f.clauses + 1 + rank marks k) (omega arith) (omega (arith, rises, count))
      ∙ ap Some (clause_is p k low (omega (arith, within)) kept_too sd)

  -- what a hint of a kept addition names is held under its new id
  held_is : (p id : ℕ) (clause : Clause) → p < length log → IsMarked marks p → IsDerivation f (short p) → Contains (hints_at log p) id
      → get (held_of (clauses_with f.clauses (take p log))) id ≡ Some clause → get (held_of (clauses_with f.clauses (short p))) (new_id (length f.clauses) ids id) ≡ Some clause
  held_is p id clause within marked sd named e =
      let range = held_of-within (clauses_with f.clauses (take p log)) id clause e in
      let low = range.0 in
      let high = range.1 in
      let count = length_before f log p d within in
      let at : get (held_of (clauses_with f.clauses (take p log))) id ≡ Some (clause_at (clauses_with f.clauses (take p log)) (id - 1)) =
      held_of-at (clauses_with f.clauses (take p log)) (id - 1) id (omega (arith, low)) (omega (arith, low, high)) in
      let new_count : length (clauses_with f.clauses (short p)) ≡ length f.clauses + rank marks p =
      length-append f.clauses (added_clauses (short p)) ∙ ap (λ k. length f.clauses + k) (added_counted f.variables (length f.clauses) (short p) sd.in_turn ∙ length_short p) in
      elim (cases_lt (length f.clauses) id) [
        | inr early ↦
            let first_of : (added : List Clause) → clause_at (f.clauses ++ added) (id - 1) ≡ clause_at f.clauses (id - 1) =
            λ (added : List Clause). get_or_append_left f.clauses added [] (id - 1) (omega (arith, low, early)) in
            ap (get (held_of (clauses_with f.clauses (short p)))) (new_id-early (length f.clauses) ids id early)
            ∙ held_of-at (clauses_with f.clauses (short p)) (id - 1) id (omega (arith, low)) (omega (arith, low, early, new_count))
            ∙ ap Some (first_of (added_clauses (short p)) ∙ sym (first_of (added_clauses (take p log)))) ∙ sym at ∙ e
        | inl late ↦ added_held p (id - length f.clauses - 1) id within marked sd named (omega (arith, late)) (omega (arith, late, high, count))
            ∙ ap (λ q. Some (clause_at (clauses_with f.clauses (take p log)) q)) (omega (arith, late)) ∙ sym at ∙ e
      ]

  -- a kept addition goes on from what is kept before it
  next_is : (p : ℕ) (s : StepValue) → p < length log → IsStepAt f log p s → IsMarked marks p → IsDerivation f (short p) → IsNextStep f (short p) (new_step (length f.clauses) ids s)
  next_is p s within at marked sd =
      let id : new_id (length f.clauses) ids s.id ≡ length f.clauses + 1 + rank marks p = id_is p s.id within (id_at f log p s within at) in
      let count = length_short p in
      let low = rank_le marks p in
      let few = d.short in
      let named : (h : ℕ) → Contains s.hints h → Contains (hints_at log p) h = λ (h : ℕ) (c : Contains s.hints h). subst (λ item. Contains (hints_of item) h) (sym (at.is (Remove []))) c in
      record {
        id = omega (arith, id, count);
        short = omega (arith, id, low, few, within);
        literals = at.next.literals;
        derives = conflict_carried (get (held_of (clauses_with f.clauses (take p log)))) (get (held_of (clauses_with f.clauses (short p)))) (new_id (length f.clauses) ids) s.hints
            (with_negations literals.empty s.literals)
            (All-weaker (Contains s.hints)
            (λ h. (c : Clause) → get (held_of (clauses_with f.clauses (take p log))) h ≡ Some c → get (held_of (clauses_with f.clauses (short p))) (new_id (length f.clauses) ids h) ≡ Some c)
            (λ h c clause e. held_is p h clause within marked sd (named h c) e) s.hints (All-contains_itself s.hints))
            at.next.derives;
      }

  short-marked : (p : ℕ) (s : StepValue) → IsStepAt f log p s → IsMarked marks p → short (suc p) ≡ short p ++ Add (new_step (length f.clauses) ids s) ∷ []
  unfolding short
  short-marked p s at marked =
      ap (map (new_item (length f.clauses) ids)) (kept_marked marks log p (Add s) m.count marked)
      ∙ map-append (new_item (length f.clauses) ids) (kept (take p marks) (take p log)) (get_or log p (Add s) ∷ [])
      ∙ ap (λ item. map (new_item (length f.clauses) ids) (kept (take p marks) (take p log)) ++ new_item (length f.clauses) ids item ∷ []) (at.is (Add s))

  short-unmarked : (p : ℕ) → get_or marks p false ≡ false → short (suc p) ≡ short p
  unfolding short
  short-unmarked p none = ap (map (new_item (length f.clauses) ids)) (kept_unmarked marks log p m.count none)

  short_none : IsDerivation f (short 0)
  unfolding short
  short_none = let few = d.short in record { sound = tt; in_turn = tt; short = omega (arith, few) }

  short_derives : (p : ℕ) → p ≤ length log → IsDerivation f (short p)
  short_derives zero within = short_none
  short_derives (suc p) within = by_mark (get_or marks p false) refl (short_derives p (omega (arith, within))) where
    by_mark : (t : Bool) → get_or marks p false ≡ t → IsDerivation f (short p) → IsDerivation f (short (suc p))
    by_mark false e sd = subst (IsDerivation f) (sym (short-unmarked p e)) sd
    by_mark true e sd =
        let found = step_at f log p d (omega (arith, within)) in
        subst (IsDerivation f) (sym (short-marked p found.0 found.1 e))
        (derivation_law.next f (short p) (new_step (length f.clauses) ids found.0) sd (next_is p found.0 (omega (arith, within)) found.1 e sd))

  short_refutes : (p : ℕ) → suc p ≡ length log → last_added log ≡ Some [] → Refutes f.clauses (short (suc p))
  short_refutes p e ends =
      let found = step_at f log p d (omega (arith, e)) in
      let marked = m.last p (omega (arith, e)) in
      let sd = short_derives p (omega (arith, e)) in
      let clause : Some (found.0.literals) ≡ Some [] =
      sym (last_at f.variables (length f.clauses) None log p (Add found.0) d.in_turn e ∙ ap (λ item. Some (clause_of item)) (found.1.is (Add found.0))) ∙ ends in
      let empty : found.0.literals ≡ [] = cc (clause) in
      subst (Refutes f.clauses) (sym (short-marked p found.0 found.1 marked))
      (derivation_law.refutes f (short p) (new_step (length f.clauses) ids found.0) sd (next_is p found.0 (omega (arith, e)) found.1 marked sd) empty)

  -- the first places keep their ids
  id_stays : (k id : ℕ) → k < first → k < length log → id ≤ length f.clauses + 1 + k → new_id (length f.clauses) ids id ≡ id
  id_stays k id low within high = elim (cases_lt (length f.clauses) id) [
    | inr early ↦ new_id-early (length f.clauses) ids id early
    | inl late ↦
        let at : id ≡ length f.clauses + 1 + (id - length f.clauses - 1) = omega (arith, late) in
        let all : rank marks (id - length f.clauses - 1) ≡ id - length f.clauses - 1 = rank_all marks (id - length f.clauses - 1) (λ j below. m.early j (omega (arith, below, low, high, late))) in
        id_is (id - length f.clauses - 1) id (omega (arith, late, high, within)) at ∙ ap (λ q. length f.clauses + 1 + q) all ∙ sym at
  ]

  item_stays : (k : ℕ) (e : LogItem) → k < first → k < length log → new_item (length f.clauses) ids (get_or log k e) ≡ get_or log k e
  item_stays k e low within =
      let found = step_at f log k d within in
      let id = id_at f log k found.0 within found.1 in
      let stays : new_step (length f.clauses) ids found.0 ≡ found.0 =
      step_same (length f.clauses) ids found.0 (id_stays k found.0.id low within (omega (arith, id)))
      (All-weaker (λ h. h ≤ length f.clauses + k) (λ h. new_id (length f.clauses) ids h ≡ h) (λ h high. id_stays k h low within (omega (arith, high))) found.0.hints
      (hints_before f log k found.0 d within found.1)) in
      ap (new_item (length f.clauses) ids) (found.1.is e) ∙ ap Add stays ∙ sym (found.1.is e)

  short_begins : first ≤ length log → take first (map (new_item (length f.clauses) ids) (kept marks log)) ≡ take first log
  short_begins within =
      let all : rank marks first ≡ first = rank_all marks first m.early in
      let same : take first (kept marks log) ≡ take first log =
      ap (λ q. take q (kept marks log)) (sym all) ∙ kept_take marks log first m.count ∙ kept_all marks log first m.count m.early in
      take-map (new_item (length f.clauses) ids) first (kept marks log) ∙ ap (map (new_item (length f.clauses) ids)) same
      ∙ map_same (new_item (length f.clauses) ids) (take first log)
      (λ k e low.
      let count : length (take first log) ≡ first = length-take-le first log within in
      let here : get_or (take first log) k e ≡ get_or log k e = get_or-take first log k e (omega (arith, low, count)) in
      ap (new_item (length f.clauses) ids) here ∙ item_stays k e (omega (arith, low, count)) (omega (arith, low, count, within)) ∙ sym here)

  -- the whole of it
  short_all : short (length log) ≡ map (new_item (length f.clauses) ids) (kept marks log)
  unfolding short
  short_all =
      let count = m.count in
      let marks_all : take (length log) marks ≡ marks = take_all (length log) marks (omega (arith, count)) in
      let log_all : take (length log) log ≡ log = take_all (length log) log (omega arith) in
      ap (λ all. map (new_item (length f.clauses) ids) (kept all (take (length log) log))) marks_all ∙ ap (λ all. map (new_item (length f.clauses) ids) (kept marks all)) log_all

  length_all : length (kept marks log) ≡ rank marks (length log)
  length_all = sym (length-map (kept marks log) (new_item (length f.clauses) ids)) ∙ ap length (sym short_all) ∙ length_short (length log)

  -- the step that is kept from a place
  step_is : (k : ℕ) (s : StepValue) (e : LogItem) → k < length log → IsStepAt f log k s → IsMarked marks k → get_or (short (length log)) (rank marks k) e ≡ Add (new_step (length f.clauses) ids s)
  step_is k s e within at marked = item_is (length log) k e within (omega arith) marked ∙ ap (new_item (length f.clauses) ids) (at.is e)

  later_names : (i k j : ℕ) (s t : StepValue) → k < j → j < length log → IsStepAt f log k s → IsStepAt f log j t → IsMarked marks k → IsMarked marks j → rank marks k ≡ i
      → Contains (hints_at log j) (length f.clauses + 1 + k)
      → Contains (drop (i + 1) (short (length log))) (Add (new_step (length f.clauses) ids t)) × Contains (map (new_id (length f.clauses) ids) t.hints) (new_id (length f.clauses) ids s.id)
  later_names i k j s t low within at behind marked marked_too is named =
      let rises = rank_rises marks k j marked low in
      let below = rank_rises marks j (length log) marked_too within in
      let count = length_short (length log) in
      let place : (i + 1) + (rank marks j - (i + 1)) ≡ rank marks j = omega (arith, rises, is) in
      let inside : rank marks j - (i + 1) < length (drop (i + 1) (short (length log))) =
      (let left = length-drop (i + 1) (short (length log)) in omega (arith, left, count, below, rises, is)) in
      let id : s.id ≡ length f.clauses + 1 + k = id_at f log k s (omega (arith, low, within)) at in
      let here : Contains t.hints s.id = subst (Contains t.hints) (sym id) (subst (λ item. Contains (hints_of item) (length f.clauses + 1 + k)) (behind.is (Remove [])) named) in (
        (
          rank marks j - (i + 1),
          inside,
          get_or-drop (i + 1) (short (length log)) (rank marks j - (i + 1)) (Add (new_step (length f.clauses) ids t))
              ∙ ap (λ q. get_or (short (length log)) q (Add (new_step (length f.clauses) ids t))) place
              ∙ step_is j t (Add (new_step (length f.clauses) ids t)) within behind marked_too,
        ),
        map_contains (new_id (length f.clauses) ids) t.hints s.id here,
      )

  needed_at : (i : ℕ) (s : StepValue) → first ≤ i → i + 1 < length (kept marks log) → get_or (short (length log)) i (Add s) ≡ Add s
      → (t : StepValue) × Contains (drop (i + 1) (short (length log))) (Add t) × Contains t.hints s.id
  needed_at i s high low e =
      let found = place_of marks log i m.count (omega (arith, low)) in
      let k = found.0 in
      let within = found.1 in
      let marked = found.2 in
      let is = found.3 in
      let before = rank_le marks k in
      let count = length_all in
      let one : rank marks (suc k) ≡ suc (rank marks k) = rank_marked marks k marked in
      let inside : k + 1 < length log = elim (cases_eq (suc k) (length log)) [
        | inl end ↦ absurd (let full : rank marks (length log) ≡ suc (rank marks k) = ap (rank marks) (sym end) ∙ one in omega (arith, full, count, low, is))
        | inr apart ↦ omega (arith, within, apart)
      ] in
      let later = m.needed k (omega (arith, before, is, high)) inside marked in
      let here = step_at f log k d within in
      let there = step_at f log later.0 d later.3 in
      let same : Add s ≡ Add (new_step (length f.clauses) ids here.0) =
      sym e ∙ ap (λ q. get_or (short (length log)) q (Add s)) (sym is) ∙ step_is k here.0 (Add s) within here.1 marked in
      let id : new_id (length f.clauses) ids here.0.id ≡ s.id = ap id_of (sym same) in
      let both = later_names i k later.0 here.0 there.0 later.1 later.3 here.1 there.1 marked later.4 is later.5 in
      (new_step (length f.clauses) ids there.0, both.0, subst (Contains (map (new_id (length f.clauses) ids) there.0.hints)) id both.1)

  short_needed : IsNeededFrom first (map (new_item (length f.clauses) ids) (kept marks log))
  short_needed k s high low e =
      let count = length-map (kept marks log) (new_item (length f.clauses) ids) in
      subst (λ all. (t : StepValue) × Contains (drop (k + 1) all) (Add t) × Contains t.hints s.id) short_all
      (needed_at k s high (omega (arith, low, count)) (subst (λ all. get_or all k (Add s) ≡ Add s) (sym short_all) e))

  -- a marked place is needed, by a search from the end of the log on, `left` places at most
  marked_needed : (left k : ℕ) → length log ≤ k + left → k < length log → IsMarked marks k → IsNeeded (length f.clauses) first log k
  marked_needed zero k far within marked = absurd (omega (arith, far, within))
  marked_needed (suc left) k far within marked = elim (cases_lt k first) [
    | inl low ↦ IsNeeded.early k low
    | inr high ↦ elim (cases_eq (k + 1) (length log)) [
      | inl end ↦ IsNeeded.last k end
      | inr apart ↦
          let later = m.needed k high (omega (arith, within, apart)) marked in
          let behind = later.1 in
          IsNeeded.named k later.0 (marked_needed left later.0 (omega (arith, far, behind)) later.3 later.4) later.5
    ]
  ]

  none_past : (j id : ℕ) → length log ≤ j → ¬ Contains (hints_at log j) id
  none_past j id past named =
      let bad : Contains [] id = subst (λ item. Contains (hints_of item) id) (get_or_past log j (Remove []) past) named in
      let low = bad.1 in
      omega (arith, low)

  needed_marked : (k : ℕ) → k < length log → IsNeeded (length f.clauses) first log k → IsMarked marks k
  needed_marked k within (IsNeeded.early q low) = m.early q low
  needed_marked k within (IsNeeded.last q end) = m.last q end
  needed_marked k within (IsNeeded.named q j by named) = elim (cases_lt j (length log)) [
    | inl inside ↦ m.closed j q (omega arith) inside within (needed_marked j inside by) named
    | inr past ↦ absurd (none_past j (length f.clauses + 1 + q) past named)
  ]

  keeps_needed : KeepsNeeded (length f.clauses) first log (map (new_item (length f.clauses) ids) (kept marks log))
  keeps_needed = record {
    marks = marks;
    exactly = λ k within. (marked_needed (length log) k (omega arith) within, needed_marked k within);
    same = kept_clauses f.variables (length f.clauses) (length f.clauses) ids marks log d.in_turn;
  }

  shortened_of : Refutes f.clauses log → first ≤ length log → IsShortened f first log (map (new_item (length f.clauses) ids) (kept marks log))
  shortened_of r within =
      let some : 0 < length log = not_empty log r.ends in
      let refutes : Refutes f.clauses (short (suc (length log - 1))) = short_refutes (length log - 1) (omega (arith, some)) r.ends in
      let count = length_all in
      let few = rank_le marks (length log) in
      let width = length-map (kept marks log) (new_item (length f.clauses) ids) in
      record {
        derivation = subst (IsDerivation f) short_all (short_derives (length log) (omega arith));
        refutes = subst (Refutes f.clauses) short_all (subst (λ p. Refutes f.clauses (short p)) (omega (arith, some)) refutes);
        begins = short_begins within;
        kept = keeps_needed;
        needed = short_needed;
        shorter = omega (arith, count, few, width);
      }

-- with what the code read
pub shortened_is : (f : Formula) (first clauses : ℕ) (log items short : List LogItem) (marks some more : List Bool) (ids new : List ℕ) → items ≡ log → clauses ≡ length f.clauses
    → some ≡ marks → more ≡ marks → new ≡ ids → IsDerivation f log → Refutes f.clauses log → first ≤ length log → AreMarked (length f.clauses) first 0 items marks
    → AreNewIds clauses some ids → short ≡ map (new_item (length f.clauses) new) (kept more items) → IsShortened f first log short
shortened_is f first clauses log items short marks some more ids new items_is clauses_is some_is more_is new_is d r within m n is =
    let marked : AreMarked (length f.clauses) first 0 log marks = subst (λ all. AreMarked (length f.clauses) first 0 all marks) items_is m in
    let numbered : AreNewIds (length f.clauses) marks ids = subst (λ q. AreNewIds q marks ids) clauses_is (subst (λ all. AreNewIds clauses all ids) some_is n) in
    let same : short ≡ map (new_item (length f.clauses) ids) (kept marks log) =
    is ∙ ap (λ all. map (new_item (length f.clauses) all) (kept more items)) new_is ∙ ap (λ all. map (new_item (length f.clauses) ids) (kept all items)) more_is
    ∙ ap (λ all. map (new_item (length f.clauses) ids) (kept marks all)) items_is in
    subst (IsShortened f first log) (sym same) (shortened_of f first log marks ids d marked numbered r within)
