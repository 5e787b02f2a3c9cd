-- The steps of the search.
use Rattle.std.specs.Prelude.{ℤ, neg_ℤ, ◌⊎◌, All}
use Rattle.std.proofs.Common.{◌≡◌, ℕ, ◌+◌, ◌-◌, ◌<◌, ◌≤◌, Option, Some, None, List, [], ◌∷◌, ◌++◌, take, length, get_or, refl, ap, subst, sym, ◌∙◌, inl, inr, length-append, arith}
use Rattle.std.proofs.lemmas.List.{take-append-le, take_all, length-take}
use Rattle.std.proofs.lemmas.Bool.{cases_lt}
use Rattle.std.proofs.Math.Seq.{take-length, get_or-append_seam}
use Rattle.std.proofs.lemmas.List.Elements.{All-weaker, All-take, All-push}
use Rattle.proof_semantics.specs.Clauses.{Clause}
use Rattle.proof_semantics.specs.Conflicts.{clause_at}
use Rattle.cdcl_core.specs.Settled.{IsSettled}
use Rattle.cdcl_core.specs.Trail.{IsTrueBelow, IsConsistent, AreLevels, IsLearned, IsSettledBelow}
use Rattle.cdcl_core.specs.Explained.{Holds}
use Rattle.cdcl_core.specs.Placed.{TrailValue}
use Rattle.cdcl_core.specs.Propagation.{IsExtended}
use Rattle.cdcl_core.specs.Jump.{IsRunning, IsJump, HasLast, jumped, closed, IsLastOther}
use Rattle.cdcl_core.proofs.Back.{true-same, back-learned, back-cut}
use Rattle.cdcl_core.proofs.Trails.{trail-implied, trail-decided, levels-decided, trail-closed, trail-added}

-- the learned clause is settled below each level that stays
stays_settled : (clauses : List Clause) (t : TrailValue) (s : ℕ) (C : Clause) (u : ℤ) (at m : ℕ) → IsConsistent t.literals → IsSettledBelow clauses t.literals t.starts → IsLearned t.literals s C u at
    → (m ≡ 0) ⊎ HasLast t s C m → IsSettledBelow (clauses ++ C ∷ []) t.literals (take m t.starts)
stays_settled clauses t s C u at m c settled h (inl e) = λ k d within. absurd (omega (arith, length-take m t.starts))
stays_settled clauses t s C u at m c settled h (inr w) =
    back-learned clauses t.literals (take m t.starts) s C u at w.literal w.place c
    (All-take (λ r. IsSettled (IsTrueBelow t.literals r) clauses) m t.starts settled) h w.inside w.below w.is w.last

pub running_jumped : (clauses : List Clause) (t : TrailValue) (s : ℕ) (C : Clause) (u : ℤ) (at m : ℕ) → IsConsistent t.literals → IsRunning clauses t
    → IsLearned t.literals s C u at → IsJump t s C u m → IsRunning (clauses ++ C ∷ []) (jumped clauses t u m)
running_jumped clauses t s C u at m c h learned jump =
    let q : ℕ = get_or t.starts m 0 in
    let more : List Clause = clauses ++ C ∷ [] in
    let q_within : q < length t.literals = h.levels.within m 0 jump.within in
    let cut : length (take q t.literals) ≡ q = omega (arith, length-take q t.literals) in
    let same : take q t.literals ≡ take q (take q t.literals) = sym (ap (λ n. take n (take q t.literals)) (sym cut) ∙ take-length (take q t.literals)) in
    let added : clause_at more (length clauses) ≡ C = get_or-append_seam clauses C [] [] in
    let closed = trail-closed more t.literals t.reasons t.starts m (trail-added clauses C t.literals t.reasons t.starts h.trail) h.levels jump.within in
    record {
      trail = trail-implied more (take q t.literals) (take q t.reasons) (take m t.starts) u (length clauses) closed.0
          (omega (arith, length-append clauses (C ∷ []))) (rw added learned.inside)
          (rw added (All-weaker (λ a. (a ≡ u) ⊎ IsTrueBelow t.literals q (neg_ℤ a)) (λ a. (a ≡ u) ⊎ Holds (take q t.literals) (neg_ℤ a))
          (λ a o. elim o [
            | inl e ↦ inl e
            | inr b ↦ inr (rw cut (true-same t.literals (take q t.literals) q q (neg_ℤ a) (omega arith) (omega arith) same b))
          ]) C jump.others));
      levels = record {
        rising = closed.1.rising;
        within = All-weaker (λ r. r < length (take q t.literals)) (λ r. r < length (take q t.literals ++ u ∷ [])) (λ r low. omega (arith, length-append (take q t.literals) (u ∷ [])))
            (take m t.starts) closed.1.within;
      };
      settled = back-cut more t.literals (take q t.literals ++ u ∷ []) (take m t.starts) q
          (All-weaker (λ r. r < length (take q t.literals)) (λ r. r ≤ q) (λ r low. omega arith) (take m t.starts) closed.1.within)
          (omega arith) (omega (arith, length-append (take q t.literals) (u ∷ [])))
          (same ∙ sym (take-append-le q (take q t.literals) (u ∷ []) (omega arith)))
          (stays_settled clauses t s C u at m c h.settled learned jump.last);
    }

pub running_closed : (clauses : List Clause) (t : TrailValue) (m : ℕ) → IsRunning clauses t → m < length t.starts → IsRunning clauses (closed t m)
running_closed clauses t m h m_low =
    let q : ℕ = get_or t.starts m 0 in
    let q_within : q < length t.literals = h.levels.within m 0 m_low in
    let cut : length (take q t.literals) ≡ q = omega (arith, length-take q t.literals) in
    let same : take q t.literals ≡ take q (take q t.literals) = sym (ap (λ n. take n (take q t.literals)) (sym cut) ∙ take-length (take q t.literals)) in
    let stays = trail-closed clauses t.literals t.reasons t.starts m h.trail h.levels m_low in
    record {
      trail = stays.0;
      levels = stays.1;
      settled = back-cut clauses t.literals (take q t.literals) (take m t.starts) q
          (All-weaker (λ r. r < length (take q t.literals)) (λ r. r ≤ q) (λ r low. omega arith) (take m t.starts) stays.1.within)
          (omega arith) (omega arith) same
          (All-take (λ r. IsSettled (IsTrueBelow t.literals r) clauses) m t.starts h.settled);
    }

-- the starts of the levels are not after the end
starts_low : (t : TrailValue) → AreLevels t.literals t.starts → All (λ r. r ≤ length t.literals) t.starts
starts_low t h = All-weaker (λ r. r < length t.literals) (λ r. r ≤ length t.literals) (λ r low. omega arith) t.starts h.within

pub running_decided : (clauses : List Clause) (t : TrailValue) (l : ℤ) → IsRunning clauses t → IsSettled (Holds t.literals) clauses
    → IsRunning clauses (record t { literals = t.literals ++ l ∷ []; reasons = t.reasons ++ None ∷ []; starts = t.starts ++ length t.literals ∷ [] })
running_decided clauses t l h settled =
    let n : ℕ = length t.literals in
    record {
      trail = trail-decided clauses t.literals t.reasons t.starts l h.trail;
      levels = levels-decided t.literals t.starts l h.levels;
      settled = back-cut clauses t.literals (t.literals ++ l ∷ []) (t.starts ++ n ∷ []) n
          (All-push (λ r. r ≤ n) t.starts n (starts_low t h.levels) (omega arith)) (omega arith) (omega (arith, length-append t.literals (l ∷ [])))
          (sym (take-append-le n t.literals (l ∷ []) (omega arith)))
          (All-push (λ r. IsSettled (IsTrueBelow t.literals r) clauses) t.starts n h.settled settled);
    }

pub running_extended : (clauses : List Clause) (old new : TrailValue) → IsRunning clauses old → IsExtended clauses old new → IsRunning clauses new
running_extended clauses old new h e =
    let n : ℕ = length old.literals in
    let longer = e.longer in
    record {
      trail = e.follows h.trail;
      levels = rw e.starts (record {
        rising = h.levels.rising;
        within = All-weaker (λ r. r < n) (λ r. r < length new.literals) (λ r low. omega arith) old.starts h.levels.within;
      });
      settled = rw e.starts (back-cut clauses old.literals new.literals old.starts n (starts_low old h.levels) (omega arith) longer (take-length old.literals ∙ sym e.before) h.settled);
    }

pub jump_none : (t : TrailValue) (s : ℕ) (C D : Clause) (own : ℤ) (r : Option ℕ) (level : ℕ) → 0 < length t.starts → IsLastOther t.literals s own D D r → D ≡ C → r ≡ None → level ≡ 0
    → IsJump t s C own level
jump_none t s C D own r level some h same e zero_level =
    let none : IsLastOther t.literals s own D D None = subst (IsLastOther t.literals s own D D) e h in
    rw (zero_level, sym same) (record {
      within = some;
      others = All-weaker (λ a. a ≡ own) (λ a. (a ≡ own) ⊎ IsTrueBelow t.literals (get_or t.starts 0 0) (neg_ℤ a)) (λ a own_a. inl own_a) D none;
      last = inl refl;
    })

pub jump_some : (t : TrailValue) (s : ℕ) (C D : Clause) (own : ℤ) (r : Option ℕ) (p n level : ℕ) → 0 < length t.starts → s ≡ get_or t.starts (length t.starts - 1) 0
    → IsLastOther t.literals s own D D r → D ≡ C → r ≡ Some p → All (λ x. x ≤ p) (take n t.starts) → ((k : ℕ) → n ≤ k → k < length t.starts → p < get_or t.starts k 0) → level ≡ n
    → IsJump t s C own level
jump_some t s C D own r p n level some is_last h same e before after level_is =
    let o : IsLastOther t.literals s own D D (Some p) = subst (IsLastOther t.literals s own D D) e h in
    let low : p < s = o.below in
    let within : n < length t.starts = elim (cases_lt n (length t.starts)) [
      | inl inside ↦ inside
      | inr high ↦
          let whole : take n t.starts ≡ t.starts = take_all n t.starts high in
          let last : get_or t.starts (length t.starts - 1) 0 ≤ p = subst (All (λ x. x ≤ p)) whole before (length t.starts - 1) 0 (omega arith) in
          absurd (omega arith)
    ] in
    let open_at : p < get_or t.starts n 0 = after n (omega arith) within in
    rw (level_is, sym same) (record {
      within = within;
      others = All-weaker (λ a. (a ≡ own) ⊎ IsTrueBelow t.literals (p + 1) (neg_ℤ a)) (λ a. (a ≡ own) ⊎ IsTrueBelow t.literals (get_or t.starts n 0) (neg_ℤ a))
          (λ a x. elim x [
            | inl own_a ↦ inl own_a
            | inr b ↦ let below = b.below in inr (record { place = b.place; below = omega arith; within = b.within; is = b.is })
          ]) D o.others;
      last = inr (record { literal = o.literal; inside = o.inside; place = p; below = low; is = o.is; last = before });
    })

pub jump_done : (clauses more : List Clause) (t u : TrailValue) (s : ℕ) (C : Clause) (x own : ℤ) (at m n : ℕ) → IsConsistent t.literals → IsRunning clauses t → IsLearned t.literals s C x at → own ≡ x
    → IsJump t s C own m → more ≡ clauses ++ C ∷ [] → n ≡ length clauses → u ≡ record t {
      literals = take (get_or t.starts m 0) t.literals ++ own ∷ [];
      reasons = take (get_or t.starts m 0) t.reasons ++ Some n ∷ [];
      starts = take m t.starts;
    } → IsRunning more u
jump_done clauses more t u s C x own at m n c h learned same jump added count e =
    rw (added, e, count) (running_jumped clauses t s C own at m c h (subst (λ y. IsLearned t.literals s C y at) (sym same) learned) jump)
