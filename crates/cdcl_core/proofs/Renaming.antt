-- The steps of a round derive under the ids of the whole log.
use Rattle.std.proofs.Common.{◌≡◌, ℕ, zero, suc, ◌+◌, ◌-◌, ◌^◌, ◌<◌, ◌≤◌, cond, List, [], ◌∷◌, ◌++◌, map}
use Rattle.std.proofs.Common.{take, length, get_or, refl, ap, subst, sym, ◌∙◌, inl, inr, arith, length-append, append_assoc, Option, None, Some}
use Rattle.std.specs.Prelude.{◌⊎◌}
use Rattle.std.specs.Cmp.{nat_cmp_total, unsigned_tied}
use Rattle.std.specs.Ordering.{nat_cmp}
use Rattle.std.specs.FinSet as literals
use Rattle.std.specs.FinMap.{get, insert, empty, get-insert, get-empty}
use Rattle.std.proofs.lemmas.Bool.{cases_lt, cases_eq, false_from_ne_true}
use Rattle.std.proofs.lemmas.Bool.Decides.{Decides-eqb}
use Rattle.std.proofs.lemmas.List.{append-nil, get_or-take, length-take}
use Rattle.std.proofs.Math.ListN.{get_or-append}
use Rattle.std.proofs.Math.Seq.{take-append_seam, take-length, get_or-append_seam}
use Rattle.proof_semantics.specs.declared.item.Item.TheVariants.{Add, Remove}
use Rattle.proof_semantics.specs.Clauses.{Clause}
use Rattle.proof_semantics.specs.Formula.{Formula}
use Rattle.proof_semantics.specs.Logs.{StepValue, LogItem, LiteralSet, Held, with_negations, EndsInConflict, Derives}
use Rattle.proof_semantics.specs.Logs.{held_from, held_of, IsSoundFrom, AddsInTurn, last_added, last_added_after, Refutes, IsDerivation}
use Rattle.proof_semantics.specs.Conflicts.{clause_at, added_clauses, clauses_with}
use Rattle.proof_semantics.specs.ConflictLaws.{IsNextStep}
use Rattle.proof_semantics.proofs.Conflicts.{derivation_law, length-added, clauses_with-pushed}
use Rattle.proof_semantics.proofs.HeldClauses.{held_of-at, held_of-push}
use Rattle.cdcl_core.specs.Answers.{IsRefutation, IsSpent, IsAnswer}
use Rattle.cdcl_core.specs.Searched.{Begins}
use Rattle.cdcl_core.specs.Outcomes.{IsOpenBehind, IsRefutationBehind}
use Rattle.cdcl_core.specs.Rounds.{HasId, IsRound, HasNextIds, IsLogWithin, IsAnswerWithin, whole_id, renamed}
use Rattle.cdcl_core.specs.declared.answer.Answer.{Answer}
use Rattle.cdcl_core.specs.declared.answer.Answer.TheVariants.{Refuted, Spent}
use Rattle.cdcl_core.proofs.Named.{has_wider, has_last}

-- ---- what is held has its id

-- what is held was held before, or is one of the clauses
record IsFrom (clauses : List Clause) (next id : ℕ) (C : Clause) : Type 0 where
  low : next ≤ id
  within : id < next + length clauses
  is : clause_at clauses (id - next) ≡ C

held_from-only : (clauses : List Clause) (held : Held) (next id : ℕ) (C : Clause) → get (held_from held next clauses) id ≡ Some C → (get held id ≡ Some C) ⊎ IsFrom clauses next id C
held_from-only [] held next id C h = inl h
held_from-only (D ∷ clauses) held next id C h = elim (held_from-only clauses (insert held next D) (suc next) id C h) [
  | inl before ↦ by_place (cases_eq id next) before
  | inr later ↦
      let low = later.low in
      let within = later.within in
      let place : id - next ≡ suc (id - suc next) = omega (arith, low) in
      inr (record { low = omega (arith, low); within = omega (arith, within); is = ap (λ k. clause_at (D ∷ clauses) k) place ∙ later.is })
] where
  by_place : (id ≡ next) ⊎ (id ≡ next → ⊥) → get (insert held next D) id ≡ Some C → (get held id ≡ Some C) ⊎ IsFrom (D ∷ clauses) next id C
  by_place (inl same) e =
      let tied = unsigned_tied id next ∙ (Decides-eqb id next).1 same in
      let here : Some D ≡ Some C = sym (get-insert nat_cmp_total held next D id ∙ ap (λ b. cond b (Some D) (get held id)) tied) ∙ e in
      let is : D ≡ C = cc in
      let place : id - next ≡ 0 = omega (arith, same) in
      inr (record { low = omega (arith, same); within = omega (arith, same); is = ap (λ k. clause_at (D ∷ clauses) k) place ∙ is })
  by_place (inr other) e =
      let apart = unsigned_tied id next ∙ false_from_ne_true _ (λ t. other ((Decides-eqb id next).0 t)) in
      inl (sym (get-insert nat_cmp_total held next D id ∙ ap (λ b. cond b (Some D) (get held id)) apart) ∙ e)

held_of-only : (clauses : List Clause) (id : ℕ) (C : Clause) → get (held_of clauses) id ≡ Some C → HasId clauses C id
held_of-only clauses id C h = elim (held_from-only clauses empty 1 id C h) [
  | inl before ↦ let none = get-empty {X = Clause} nat_cmp id in cc
  | inr from ↦
      let low = from.low in
      let within = from.within in
      record { low = low; within = omega (arith, low, within); is = from.is }
]

held_of-has : (clauses : List Clause) (id : ℕ) (C : Clause) → HasId clauses C id → get (held_of clauses) id ≡ Some C
held_of-has clauses id C h =
    let low = h.low in
    let within = h.within in
    held_of-at clauses (id - 1) id (omega (arith, low)) (omega (arith, low, within)) ∙ ap Some h.is

-- ---- a step under other ids

ends_renamed : (held other : ℕ → Option Clause) (name : ℕ → ℕ) → ((id : ℕ) (C : Clause) → held id ≡ Some C → other (name id) ≡ Some C) → (hints : List ℕ) (set : LiteralSet)
    → EndsInConflict held set hints → EndsInConflict other set (map name hints)
ends_renamed held other name same [] set h = h
ends_renamed held other name same (hint ∷ []) set (clause, is, none) = (clause, same hint clause is, none)
ends_renamed held other name same (hint ∷ next ∷ hints) set (clause, l, is, unit, rest) =
    (clause, l, same hint clause is, unit, ends_renamed held other name same (next ∷ hints) (literals.insert set l) rest)

-- each clause of the round has its id in the whole; there may be more ids
AreAmong : List Clause → List Clause → List ℕ → Type 0
AreAmong whole round ids = (k : ℕ) → k < length round → HasId whole (clause_at round k) (get_or ids k 0)

derives_renamed : (whole round : List Clause) (ids : List ℕ) (s t : StepValue) → AreAmong whole round ids → t.literals ≡ s.literals → t.hints ≡ map (whole_id ids) s.hints
    → Derives (held_of round) s → Derives (held_of whole) t
unfolding AreAmong
derives_renamed whole round ids s t among same hints h = rw (same, hints)
    (ends_renamed (get (held_of round)) (get (held_of whole)) (whole_id ids)
    (λ id C is.
    let there : HasId round C id = held_of-only round id C is in
    let low = there.low in
    let within = there.within in
    held_of-has whole (whole_id ids id) C (subst (λ D. HasId whole D (whole_id ids id)) there.is (among (id - 1) (omega (arith, low, within)))))
    s.hints (with_negations literals.empty s.literals) h)

among_pushed : (whole round : List Clause) (ids : List ℕ) (C : Clause) → AreAmong whole round ids → get_or ids (length round) 0 ≡ length whole + 1
    → AreAmong (whole ++ C ∷ []) (round ++ C ∷ []) ids
unfolding AreAmong
among_pushed whole round ids C among e k within = elim (cases_lt k (length round)) [
  | inl low ↦
      let here : clause_at (round ++ C ∷ []) k ≡ clause_at round k = get_or-append round (C ∷ []) [] k low in
      rw here (has_wider whole (C ∷ []) (clause_at round k) (get_or ids k 0) (among k low))
  | inr high ↦
      let at_end : k ≡ length round = omega (arith, high, within, length-append round (C ∷ [])) in
      let here : clause_at (round ++ C ∷ []) k ≡ C = ap (λ n. clause_at (round ++ C ∷ []) n) at_end ∙ get_or-append_seam round C [] [] in
      rw here (has_last whole C (get_or ids k 0) (ap (λ n. get_or ids n 0) at_end ∙ e))
]

-- ---- the steps of a round behind the whole log

carried : (f : Formula) (ids : List ℕ) (log : List LogItem) (round : List Clause) (held : Held) (last : ℕ) (whole : List LogItem) → held ≡ held_of round → last ≡ length round
    → IsSoundFrom held last log → AddsInTurn f.variables last log → IsDerivation f whole → AreAmong (clauses_with f.clauses whole) round ids
    → ((j : ℕ) → j < length log → get_or ids (length round + j) 0 ≡ length f.clauses + length whole + 1 + j) → length f.clauses + length whole + length log < 2 ^ 63
    → IsDerivation f (whole ++ map (renamed ids) log)
carried f ids [] round held last whole is at sound turn derivation among names room = subst (IsDerivation f) (sym (append-nil whole)) derivation
carried f ids (Add s ∷ log) round held last whole is at (rises, here, sound) (next, ok, turn) derivation among names room =
    let t : StepValue = record { id = whole_id ids s.id; literals = s.literals; hints = map (whole_id ids) s.hints } in
    let all : List Clause = clauses_with f.clauses whole in
    let place : s.id - 1 ≡ length round + 0 = omega (arith, next, at) in
    let named : t.id ≡ length f.clauses + length whole + 1 = ap (λ k. get_or ids k 0) place ∙ names 0 (omega arith) ∙ omega arith in
    let count : length all ≡ length f.clauses + length whole = length-append f.clauses (added_clauses whole) ∙ ap (λ n. length f.clauses + n) (length-added f whole derivation) in
    let step : IsNextStep f whole t = record {
      id = named;
      short = omega (arith, named, room);
      literals = ok;
      derives = derives_renamed all round ids s t among refl refl (subst (λ h. Derives h s) is here);
    } in
    let longer : List LogItem = whole ++ Add t ∷ [] in
    let length_longer : length longer ≡ length whole + 1 = length-append whole (Add t ∷ []) in
    let length_round : length (round ++ s.literals ∷ []) ≡ length round + 1 = length-append round (s.literals ∷ []) in
    let more : insert held s.id s.literals ≡ held_of (round ++ s.literals ∷ []) =
    ap (λ h. insert h s.id s.literals) is ∙ sym (held_of-push round s.id s.literals (next ∙ ap (λ n. n + 1) at)) in
    let behind : get_or ids (length round) 0 ≡ length all + 1 = ap (λ k. get_or ids k 0) (omega arith) ∙ names 0 (omega arith) ∙ omega (arith, count) in
    let wider : AreAmong (clauses_with f.clauses longer) (round ++ s.literals ∷ []) ids =
    subst (λ W. AreAmong W (round ++ s.literals ∷ []) ids) (sym (clauses_with-pushed f.clauses whole t)) (among_pushed all round ids s.literals among behind) in
    subst (IsDerivation f) (append_assoc whole (Add t ∷ []) (map (renamed ids) log))
    (carried f ids log (round ++ s.literals ∷ []) (insert held s.id s.literals) s.id longer more (omega (arith, next, at, length_round)) sound turn
    (derivation_law.next f whole t derivation step) wider
    (λ j low. ap (λ k. get_or ids k 0) (omega (arith, length_round)) ∙ names (suc j) (omega (arith, low)) ∙ omega (arith, length_longer))
    (omega (arith, length_longer, room)))
carried f ids (Remove removed ∷ log) round held last whole is at sound turn derivation among names room = absurd turn

-- ---- the clause that is added last

last-either : (log : List LogItem) (before : Option Clause) (C : Clause) → last_added log ≡ Some C → last_added_after before log ≡ Some C
last-either [] before C h = cc
last-either (Add s ∷ log) before C h = h
last-either (Remove ids ∷ log) before C h = last-either log before C h

last-behind : (whole log : List LogItem) (ids : List ℕ) (before : Option Clause) (C : Clause) → last_added log ≡ Some C → last_added_after before (whole ++ map (renamed ids) log) ≡ Some C
last-behind [] log ids before C h = same log before ∙ last-either log before C h where
  same : (log : List LogItem) (before : Option Clause) → last_added_after before (map (renamed ids) log) ≡ last_added_after before log
  same [] before = refl
  same (Add s ∷ log) before = same log (Some s.literals)
  same (Remove removed ∷ log) before = same log before
last-behind (Add s ∷ whole) log ids before C h = last-behind whole log ids (Some s.literals) C h
last-behind (Remove removed ∷ whole) log ids before C h = last-behind whole log ids before C h

-- ---- a round

pub round_open : (f round : Formula) (whole new log : List LogItem) (old_ids ids : List ℕ) → IsDerivation f whole → IsRound f whole round old_ids → IsDerivation round log
    → length f.clauses + length whole + length log < 2 ^ 63 → HasNextIds (length f.clauses + length whole + 1) (length log) old_ids ids
    → new ≡ whole ++ map (renamed ids) log → IsOpenBehind f whole new
unfolding AreAmong
round_open f round whole new log old_ids ids derivation h steps room names is =
    let count : length old_ids ≡ length round.clauses = h.named.count in
    rw is (record {
      begins = take-append_seam whole (map (renamed ids) log);
      derivation = carried f ids log round.clauses (held_of round.clauses) (length round.clauses) whole refl refl steps.sound
          (subst (λ v. AddsInTurn v (length round.clauses) log) h.variables steps.in_turn) derivation
          (λ k within.
          let old : get_or ids k 0 ≡ get_or old_ids k 0 =
          sym (get_or-take (length old_ids) ids k 0 (omega (arith, within, count))) ∙ ap (λ (ns : List ℕ). get_or ns k 0) names.begins in
          rw old (h.named.each k within))
          (λ j low. subst (λ n. get_or ids (n + j) 0 ≡ length f.clauses + length whole + 1 + j) count (names.each j low)) room;
    })

pub round_refuted : (f round : Formula) (whole new log : List LogItem) (ids : List ℕ) → IsOpenBehind f whole new → Refutes round.clauses log → new ≡ whole ++ map (renamed ids) log
    → IsRefutationBehind f whole new
round_refuted f round whole new log ids h r is = record {
  begins = h.begins;
  derivation = h.derivation;
  refutes = record {
    sound = h.derivation.sound;
    ends = ap last_added is ∙ last-behind whole log ids None [] r.ends;
  };
}

-- ---- what a round's answer shows

pub within_refuted : (f round : Formula) (whole log : List LogItem) (answer : Answer) → IsAnswerWithin f whole round answer → answer ≡ Refuted log → IsLogWithin f whole round log
within_refuted f round whole log answer h is =
    let right : IsRefutation round [] log h.conflicts = subst (IsAnswer round [] h.conflicts) is h.right in
    let room = h.room in
    let short = right.short in
    record { steps = right.derivation; room = omega arith }

pub within_spent : (f round : Formula) (whole log : List LogItem) (answer : Answer) → IsAnswerWithin f whole round answer → answer ≡ Spent log → IsLogWithin f whole round log
within_spent f round whole log answer h is =
    let right : IsSpent round [] log h.conflicts = subst (IsAnswer round [] h.conflicts) is h.right in
    let room = h.room in
    let count = right.chain.count in
    record { steps = right.chain.derivation; room = omega arith }

pub within_open : (f round : Formula) (whole new log : List LogItem) (old_ids ids : List ℕ) → IsDerivation f whole → IsRound f whole round old_ids → IsLogWithin f whole round log
    → HasNextIds (length f.clauses + length whole + 1) (length log) old_ids ids → new ≡ whole ++ map (renamed ids) log → IsOpenBehind f whole new
within_open f round whole new log old_ids ids derivation h within names is = round_open f round whole new log old_ids ids derivation h within.steps within.room names is

pub refuted_behind : (f round : Formula) (whole new log : List LogItem) (ids : List ℕ) (answer : Answer) → IsAnswerWithin f whole round answer → answer ≡ Refuted log → IsOpenBehind f whole new
    → new ≡ whole ++ map (renamed ids) log → IsRefutationBehind f whole new
refuted_behind f round whole new log ids answer h kind open_behind is =
    let right : IsRefutation round [] log h.conflicts = subst (IsAnswer round [] h.conflicts) kind h.right in
    round_refuted f round whole new log ids open_behind right.refutes is

-- ---- rounds behind rounds

begins_joined : (derived whole log : List LogItem) → Begins derived whole → Begins whole log → Begins derived log
begins_joined derived whole log first second =
    let count : length (take (length derived) whole) ≡ length derived = ap length first in
    let short : length derived ≤ length whole = omega (arith, count, length-take (length derived) whole) in
    sym (take-take_less (length derived) (length whole) log short) ∙ ap (take (length derived)) second ∙ first where
      take-take_less : (m n : ℕ) (xs : List LogItem) → m ≤ n → take m (take n xs) ≡ take m xs
      take-take_less zero n xs h = refl
      take-take_less (suc m) zero xs h = absurd (omega (arith, h))
      take-take_less (suc m) (suc n) [] h = refl
      take-take_less (suc m) (suc n) (x ∷ xs) h = ap (λ rest. x ∷ rest) (take-take_less m n xs (omega (arith, h)))

pub open_joined : (f : Formula) (derived whole log : List LogItem) → Begins derived whole → IsOpenBehind f whole log → IsOpenBehind f derived log
open_joined f derived whole log first h = record { begins = begins_joined derived whole log first h.begins; derivation = h.derivation }

pub refuted_joined : (f : Formula) (derived whole log : List LogItem) → Begins derived whole → IsRefutationBehind f whole log → IsRefutationBehind f derived log
refuted_joined f derived whole log first h = record { begins = begins_joined derived whole log first h.begins; derivation = h.derivation; refutes = h.refutes }

pub open_first : (f : Formula) (derived : List LogItem) → IsDerivation f derived → IsOpenBehind f derived derived
open_first f derived h = record { begins = take-length derived; derivation = h }

pub derivation_none : (f : Formula) (log : List LogItem) → log ≡ [] → length f.clauses < 2 ^ 63 → IsDerivation f log
derivation_none f log e short = rw e (record { sound = tt; in_turn = tt; short = omega arith })
