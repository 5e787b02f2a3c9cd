-- Clauses of a round, under the ids that they have in the whole.
use Rattle.std.proofs.Common.{◌≡◌, ℕ, zero, suc, ◌+◌, ◌-◌, ◌<◌, List, [], ◌∷◌, ◌++◌, length, get_or, refl, ap, subst, sym, ◌∙◌, inl, inr, arith, length-append}
use Rattle.std.specs.Prelude.{All, Option, Some, IfSome}
use Rattle.std.specs.Borrow.{Bor}
use Rattle.std.proofs.lemmas.Bool.{cases_lt}
use Rattle.std.proofs.lemmas.List.Elements.{All-append, All-get_or, All-from_get_or}
use Rattle.std.proofs.Math.ListN.{get_or-append}
use Rattle.std.proofs.Math.Seq.{get_or-append_seam}
use Rattle.proof_semantics.specs.declared.item.Item.TheVariants.{Add, Remove}
use Rattle.proof_semantics.specs.Clauses.{Clause, IsLiteralOf, AreClausesOf}
use Rattle.proof_semantics.specs.Formula.{Formula}
use Rattle.proof_semantics.specs.Logs.{StepValue, LogItem, AddsInTurn, IsDerivation}
use Rattle.proof_semantics.specs.Conflicts.{clause_at, added_clauses, clauses_with}
use Rattle.proof_semantics.proofs.Conflicts.{length-added}
use Rattle.cdcl_core.specs.Rounds.{HasId, AreNamed}
use Rattle.cdcl_core.proofs.Searching.{added-literals}

pub has_wider : (whole more : List Clause) (C : Clause) (id : ℕ) → HasId whole C id → HasId (whole ++ more) C id
has_wider whole more C id h =
    let low = h.low in
    let within = h.within in
    record {
      low = h.low;
      within = omega (arith, length-append whole more);
      is = get_or-append whole more [] (id - 1) (omega arith) ∙ h.is;
    }

pub has_last : (whole : List Clause) (C : Clause) (id : ℕ) → id ≡ length whole + 1 → HasId (whole ++ C ∷ []) C id
has_last whole C id e =
    let place : length whole ≡ id - 1 = omega (arith, e) in
    record {
      low = omega (arith, e);
      within = omega (arith, e, length-append whole (C ∷ []));
      is = subst (λ k. clause_at (whole ++ C ∷ []) k ≡ C) place (get_or-append_seam whole C [] []);
    }

-- the clause at a place has the id behind the place
pub has_at : (whole : List Clause) (C : Clause) (place id : ℕ) → place < length whole → clause_at whole place ≡ C → id ≡ place + 1 → HasId whole C id
has_at whole C place id within is e =
    let same : place ≡ id - 1 = omega (arith, e) in
    record {
      low = omega (arith, e);
      within = omega (arith, e, within);
      is = subst (λ k. clause_at whole k ≡ C) same is;
    }

pub named_pushed : (whole round : List Clause) (ids : List ℕ) (C : Clause) (id : ℕ) → AreNamed whole round ids → HasId whole C id → AreNamed whole (round ++ C ∷ []) (ids ++ id ∷ [])
named_pushed whole round ids C id h new =
    let count = h.count in
    record {
      count = omega (arith, length-append round (C ∷ []), length-append ids (id ∷ []));
      each = λ k within. elim (cases_lt k (length round)) [
        | inl low ↦
            let here : clause_at (round ++ C ∷ []) k ≡ clause_at round k = get_or-append round (C ∷ []) [] k low in
            let there : get_or (ids ++ id ∷ []) k 0 ≡ get_or ids k 0 = get_or-append ids (id ∷ []) 0 k (omega (arith, count, low)) in
            rw (here, there) (h.each k low)
        | inr high ↦
            let at_round : k ≡ length round = omega (arith, high, within, length-append round (C ∷ [])) in
            let at_ids : k ≡ length ids = omega (arith, at_round, count) in
            let here : clause_at (round ++ C ∷ []) k ≡ C = ap (λ n. clause_at (round ++ C ∷ []) n) at_round ∙ get_or-append_seam round C [] [] in
            let there : get_or (ids ++ id ∷ []) k 0 ≡ id = ap (λ n. get_or (ids ++ id ∷ []) n 0) at_ids ∙ get_or-append_seam ids id [] 0 in
            rw (here, there) new
      ];
    }

pub named_pushed_as : (whole round longer : List Clause) (ids more : List ℕ) (C : Clause) (id : ℕ) → AreNamed whole round ids → HasId whole C id → longer ≡ round ++ C ∷ []
    → more ≡ ids ++ id ∷ [] → AreNamed whole longer more
named_pushed_as whole round longer ids more C id h new clauses names = rw (clauses, names) (named_pushed whole round ids C id h new)

-- a clause that was found
pub found_has_id : (whole : List Clause) (found : Option (Bor Clause)) (lits : Bor Clause) (id : ℕ) → IfSome found (λ x. HasId whole x.now id) → found ≡ Some lits → HasId whole lits.now id
found_has_id whole found lits id h is = subst (λ o. IfSome o (λ x. HasId whole x.now id)) is h

-- ---- clauses of the whole log

added_at : (variables last : ℕ) (log : List LogItem) (place : ℕ) (s : StepValue) → AddsInTurn variables last log → place < length log → get_or log place (Add s) ≡ Add s
    → clause_at (added_clauses log) place ≡ s.literals
added_at variables last [] place s h within is = absurd (omega arith)
added_at variables last (Add t ∷ log) zero s h within is = cc
added_at variables last (Add t ∷ log) (suc place) s h within is = added_at variables t.id log place s h.2 (omega (arith, within)) is
added_at variables last (Remove ids ∷ log) place s h within is = absurd h

-- the clause of a step of the whole log has the id of the step
pub step_has_id : (f : Formula) (whole : List LogItem) (item : LogItem) (s : StepValue) (place id : ℕ) → IsDerivation f whole → place < length whole → item ≡ get_or whole place item
    → item ≡ Add s → id ≡ length f.clauses + place + 1 → HasId (clauses_with f.clauses whole) s.literals id
step_has_id f whole item s place id h within is kind e =
    let here : get_or whole place (Add s) ≡ Add s = sym (subst (λ (x : LogItem). x ≡ get_or whole place x) kind is) in
    let count = length-added f whole h in
    let both = length-append f.clauses (added_clauses whole) in
    has_at (clauses_with f.clauses whole) s.literals (length f.clauses + place) id (omega (arith, within, count, both))
    (get_or_behind f.clauses (added_clauses whole) place (length f.clauses + place) refl ∙ added_at f.variables (length f.clauses) whole place s h.in_turn within here) (omega (arith, e)) where
      get_or_behind : (xs ys : List Clause) (k n : ℕ) → n ≡ length xs + k → clause_at (xs ++ ys) n ≡ clause_at ys k
      get_or_behind [] ys k n e = ap (clause_at ys) (omega (arith, e))
      get_or_behind (x ∷ xs) ys k zero e = absurd (omega (arith, e))
      get_or_behind (x ∷ xs) ys k (suc n) e = get_or_behind xs ys k n (omega (arith, e))

-- ---- the formula of a round

pub round_literals : (f : Formula) (whole : List LogItem) (round : List Clause) (ids : List ℕ) → AreClausesOf f.variables f.clauses → IsDerivation f whole
    → AreNamed (clauses_with f.clauses whole) round ids → AreClausesOf f.variables round
round_literals f whole round ids literals derivation h =
    let all : AreClausesOf f.variables (clauses_with f.clauses whole) =
    All-append (All (IsLiteralOf f.variables)) f.clauses (added_clauses whole) literals (added-literals f.variables (length f.clauses) whole derivation.in_turn) in
    All-from_get_or (All (IsLiteralOf f.variables)) round []
    (λ k within.
    let id : ℕ = get_or ids k 0 in
    let named : HasId (clauses_with f.clauses whole) (clause_at round k) id = h.each k within in
    let low = named.low in
    let inside = named.within in
    subst (All (IsLiteralOf f.variables)) named.is (All-get_or (All (IsLiteralOf f.variables)) (clauses_with f.clauses whole) (id - 1) [] (omega arith) all))

-- a clause of the formula
pub formula_has_id : (f : Formula) (whole : List LogItem) (C : Clause) (place id : ℕ) → place < length f.clauses → C ≡ clause_at f.clauses place → id ≡ place + 1
    → HasId (clauses_with f.clauses whole) C id
formula_has_id f whole C place id within is e =
    has_wider f.clauses (added_clauses whole) C id (has_at f.clauses C place id within (sym is) e)

-- nothing is named
pub none_named : (whole : List Clause) → AreNamed whole [] []
none_named whole = record { count = refl; each = λ k within. absurd (omega (arith, within)) }
