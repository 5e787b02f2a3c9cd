-- The watches after a jump.
use Rattle.std.specs.Prelude.{ℤ, pos, neg_ℤ, All}
use Rattle.std.proofs.Common.{◌≡◌, ℕ, zero, Bool, true, ◌-◌, ◌<◌, ◌≤◌, Some, List, [], ◌∷◌, ◌++◌, take, length, get_or, ap, subst, sym, ◌∙◌, inl, inr, length-append, arith}
use Rattle.std.specs.List.{Contains}
use Rattle.std.proofs.lemmas.Bool.{cases_lt}
use Rattle.std.proofs.lemmas.List.{take-append-le, length-take, get_or-take, get_or_push}
use Rattle.std.proofs.Math.Seq.{take-length}
use Rattle.std.proofs.lemmas.List.Elements.{All-take, All-contains}
use Rattle.proof_semantics.specs.Clauses.{Clause, IsLiteralOf}
use Rattle.cdcl_core.specs.Settled.{HasTrue, IsOpen}
use Rattle.cdcl_core.specs.Trail.{literal_at, IsTrueBelow, IsConsistent, AreLevels, IsLearned}
use Rattle.cdcl_core.specs.Explained.{Holds}
use Rattle.cdcl_core.specs.Placed.{TrailValue, last_start}
use Rattle.cdcl_core.specs.Watched.{index_of, IsBinary}
use Rattle.cdcl_core.specs.Watches.{WatchesValue, watches_with}
use Rattle.cdcl_core.specs.Watching.{AreFree, AreKeptAt, IsWatchedBelow, IsWatching}
use Rattle.cdcl_core.specs.Jump.{IsRunning, IsJumpPair, jumped, closed}
use Rattle.cdcl_core.specs.declared.watches.Pair.{Pair}
use Rattle.cdcl_core.proofs.Back.{open-below, true-same}
use Rattle.cdcl_core.proofs.Trails.{kept-below}
use Rattle.cdcl_core.proofs.Watching.{index_low, below_holds, kept_same, kept_at_same, kept_added, watched_added}

-- the two literals of a learned clause are open below each start up to the entry of the second
pair_free : (trail : List ℤ) (s : ℕ) (C : Clause) (u : ℤ) (at r : ℕ) (other : ℤ) (place : ℕ) → IsConsistent trail → IsLearned trail s C u at → place < s → literal_at trail place ≡ neg_ℤ other
    → r ≤ place
    → AreFree (IsTrueBelow trail r) (record { one = u; other = other })
pair_free trail s C u at r other place c h low is past =
    let after = h.after in
    let within = h.within in
    record {
      differ = λ e. let same : at ≡ place = c.distinct at place h.within (omega arith) (h.is ∙ ap neg_ℤ e ∙ sym is) in omega arith;
      one = (open-below trail r at u c (omega arith) h.within h.is).not_false;
      other = (open-below trail r place other c past (omega arith) is).not_false;
    }

free_same : (before after : List ℤ) (q r : ℕ) (p : Pair) → r ≤ q → q ≤ length before → take q before ≡ take q after → AreFree (IsTrueBelow before r) p → AreFree (IsTrueBelow after r) p
free_same before after q r p low within same h = record {
  differ = h.differ;
  one = λ f. h.one (true-same after before q r (neg_ℤ p.one) low within (sym same) f);
  other = λ f. h.other (true-same after before q r (neg_ℤ p.other) low within (sym same) f);
}

pub watching_jumped : (clauses : List Clause) (t : TrailValue) (w : WatchesValue) (s : ℕ) (C : Clause) (u : ℤ) (at m : ℕ) (other : ℤ) (binary : Bool) → IsConsistent t.literals → IsRunning clauses t
    → IsWatchedBelow clauses t w
    → IsLearned t.literals s C u at → m < length t.starts → IsJumpPair t s C u m other → All (IsLiteralOf t.variables) C → (binary ≡ true → IsBinary u other C)
    → IsWatching (clauses ++ C ∷ []) (jumped clauses t u m) (record (watches_with w u other binary) { handled = get_or t.starts m 0 })
watching_jumped clauses t w s C u at m other binary c running h learned m_low pair literals only =
    let q : ℕ = get_or t.starts m 0 in
    let after : List ℤ = take q t.literals ++ u ∷ [] in
    let p : Pair = record { one = u; other = other } in
    let q_within : q < length t.literals = running.levels.within m 0 m_low in
    let cut : length (take q t.literals) ≡ q = omega (arith, length-take q t.literals) in
    let in_after : q ≤ length after = omega (arith, length-append (take q t.literals) (u ∷ [])) in
    let whole : take q (take q t.literals) ≡ take q t.literals = ap (λ n. take n (take q t.literals)) (sym cut) ∙ take-length (take q t.literals) in
    let same : take q t.literals ≡ take q after = sym whole ∙ sym (take-append-le q (take q t.literals) (u ∷ []) (omega arith)) in
    let count = h.formed.pairs_length in
    let other_in : Contains C other = elim pair [
      | inl first ↦ subst (Contains C) (sym first.1) learned.inside
      | inr last ↦ last.inside
    ] in
    let below_q : (k d : ℕ) → k < length (take m t.starts) → get_or (take m t.starts) k d < q = λ k d within.
    let k_low : k < m = omega (arith, length-take m t.starts) in
    rw (get_or-take m t.starts k d k_low) (kept-below t.starts m k d running.levels.rising m_low k_low) in
    let at_q : AreKeptAt clauses after w.pairs q = kept_at_same clauses w.pairs t.literals after q q (omega arith) (omega arith) in_after same (h.below m 0 m_low) in
    let u_holds : HasTrue (Holds after) C = record {
      literal = u;
      inside = learned.inside;
      holds = record {
        place = q;
        below = omega (arith, length-append (take q t.literals) (u ∷ []));
        within = omega (arith, length-append (take q t.literals) (u ∷ []));
        is = get_or_push (take q t.literals) u (pos zero) q cut;
      };
    } in
    record {
      base = record {
        formed = watched_added clauses t.variables w.lists w.pairs C u other binary h.formed literals learned.inside other_in only;
        low = λ k d within. let low = below_q k d within in omega arith;
        below = λ k d within.
            let r : ℕ = get_or (take m t.starts) k d in
            let low : r < q = below_q k d within in
            let kept : AreKeptAt clauses t.literals w.pairs r = All-take (AreKeptAt clauses t.literals w.pairs) m t.starts h.below k d within in
            kept_added (IsTrueBelow after r) (IsTrueBelow after r) clauses w.pairs C p count (kept_at_same clauses w.pairs t.literals after q r (omega arith) (omega arith) in_after same kept)
            (elim pair [
              | inl first ↦ absurd (let none = first.0 in omega (arith, length-take m t.starts))
              | inr last ↦ inr (free_same t.literals after q r p (omega arith) (omega arith) same
                  (pair_free t.literals s C u at r other last.place c learned last.below last.is (last.last k d within)))
            ]);
      };
      within = in_after;
      kept = kept_added (Holds after) (IsTrueBelow after q) clauses w.pairs C p count
          (kept_same (IsTrueBelow after q) (IsTrueBelow after q) (Holds after) (IsTrueBelow after q) clauses w.pairs (λ l. below_holds after q l) (λ l f. f) at_q) (inl u_holds);
    }

-- the watches after a jump, by the terms of the code
pub jump_watching : (clauses more : List Clause) (t u : TrailValue) (w added new : WatchesValue) (s : ℕ) (C : Clause) (x own : ℤ) (at m n q : ℕ) (other : ℤ) (binary : Bool) → IsConsistent t.literals
    → IsRunning clauses t → IsWatchedBelow clauses t w
    → IsLearned t.literals s C x at → own ≡ x → m < length t.starts → IsJumpPair t s C own m other → All (IsLiteralOf t.variables) C → (binary ≡ true → IsBinary own other C)
    → more ≡ clauses ++ C ∷ [] → n ≡ length clauses
    → added ≡ watches_with w own other binary → q ≡ get_or t.starts m 0 → new ≡ record added { handled = q } → u ≡ record t {
      literals = take (get_or t.starts m 0) t.literals ++ own ∷ [];
      reasons = take (get_or t.starts m 0) t.reasons ++ Some n ∷ [];
      starts = take m t.starts;
    } → IsWatching more u new
jump_watching clauses more t u w added new s C x own at m n q other binary c running h learned same m_low pair literals only more_is count added_is q_is new_is e =
    rw (more_is, e, new_is, added_is, q_is, count)
    (watching_jumped clauses t w s C own at m other binary c running h (subst (λ y. IsLearned t.literals s C y at) (sym same) learned) m_low pair literals only)

watching_closed : (clauses : List Clause) (t : TrailValue) (w : WatchesValue) (m : ℕ) → IsRunning clauses t → IsWatchedBelow clauses t w → m < length t.starts
    → IsWatching clauses (closed t m) (record w { handled = get_or t.starts m 0 })
watching_closed clauses t w m running h m_low =
    let q : ℕ = get_or t.starts m 0 in
    let after : List ℤ = take q t.literals in
    let q_within : q < length t.literals = running.levels.within m 0 m_low in
    let cut : length after ≡ q = omega (arith, length-take q t.literals) in
    let same : take q t.literals ≡ take q after = sym (ap (λ n. take n after) (sym cut) ∙ take-length after) in
    let below_q : (k d : ℕ) → k < length (take m t.starts) → get_or (take m t.starts) k d < q = λ k d within.
    let k_low : k < m = omega (arith, length-take m t.starts) in
    rw (get_or-take m t.starts k d k_low) (kept-below t.starts m k d running.levels.rising m_low k_low) in
    let at_q : AreKeptAt clauses after w.pairs q = kept_at_same clauses w.pairs t.literals after q q (omega arith) (omega arith) (omega arith) same (h.below m 0 m_low) in
    record {
      base = record {
        formed = h.formed;
        low = λ k d within. let low = below_q k d within in omega arith;
        below = λ k d within.
            let r : ℕ = get_or (take m t.starts) k d in
            let low : r < q = below_q k d within in
            kept_at_same clauses w.pairs t.literals after q r (omega arith) (omega arith) (omega arith) same (All-take (AreKeptAt clauses t.literals w.pairs) m t.starts h.below k d within);
      };
      within = omega arith;
      kept = kept_same (IsTrueBelow after q) (IsTrueBelow after q) (Holds after) (IsTrueBelow after q) clauses w.pairs (λ l. below_holds after q l) (λ l f. f) at_q;
    }

-- the watches after a restart, by the terms of the code
pub restart_watching : (clauses : List Clause) (t u : TrailValue) (w new : WatchesValue) (m q : ℕ) → IsRunning clauses t → IsWatchedBelow clauses t w → m < length t.starts
    → q ≡ get_or t.starts m 0 → new ≡ record w { handled = q } → u ≡ closed t m → IsWatching clauses u new
restart_watching clauses t u w new m q running h m_low q_is new_is e = rw (e, new_is, q_is) (watching_closed clauses t w m running h m_low)

pub pair_low : (clauses : List Clause) (t : TrailValue) (w : WatchesValue) (C : Clause) (l : ℤ) → IsWatchedBelow clauses t w → All (IsLiteralOf t.variables) C → Contains C l
    → index_of l < length w.lists
pair_low clauses t w C l h literals inside = rw h.formed.lists_length (index_low t.variables l (All-contains (IsLiteralOf t.variables) C l literals inside))

pub other_inside : (t : TrailValue) (s : ℕ) (C : Clause) (own : ℤ) (m : ℕ) (other : ℤ) → IsJumpPair t s C own m other → Contains C own → Contains C other
other_inside t s C own m other (inl first) inside = subst (Contains C) (sym first.1) inside
other_inside t s C own m other (inr last) inside = last.inside

-- the literal that follows is open after the levels were closed
pub own_open : (t : TrailValue) (C : Clause) (x own : ℤ) (at m : ℕ) → IsConsistent t.literals → AreLevels t.literals t.starts → IsLearned t.literals (last_start t) C x at → own ≡ x
    → m < length t.starts
    → IsOpen (Holds (take (get_or t.starts m 0) t.literals)) own
own_open t C x own at m c levels learned same m_low =
    let q : ℕ = get_or t.starts m 0 in
    let cut : List ℤ = take q t.literals in
    let n : ℕ = length t.starts - 1 in
    let low : q ≤ last_start t = elim (cases_lt m n) [
      | inl below ↦ let less = kept-below t.starts n m 0 levels.rising (omega arith) below in omega arith
      | inr high ↦ let last : m ≡ n = omega arith in let e = ap (λ k. get_or t.starts k 0) last in omega arith
    ] in
    let after = learned.after in
    let within = learned.within in
    let long : length cut ≡ q = omega (arith, length-take q t.literals) in
    let whole : take q cut ≡ take q t.literals = ap (λ k. take k cut) (sym long) ∙ take-length cut in
    let open_own : IsOpen (IsTrueBelow t.literals q) own = open-below t.literals q at own c (omega arith) learned.within (learned.is ∙ ap neg_ℤ (sym same)) in
    let down : (l : ℤ) → Holds cut l → IsTrueBelow t.literals q l = λ l h. true-same cut t.literals q q l (omega arith) (omega arith) whole (subst (λ k. IsTrueBelow cut k l) long h) in
    record { not_true = λ h. open_own.not_true (down own h); not_false = λ h. open_own.not_false (down (neg_ℤ own) h) }
