-- What is chosen of the pins, row by row and split by split.
use Rattle.std.proofs.Common.{◌≡◌, ℕ, zero, suc, ◌+◌, ◌<◌, Bool, true, false, cond, List, [], ◌∷◌, length, get_or, replicate, refl, sym, ap, ◌∙◌, arith}
use Rattle.std.specs.Prelude.{◌&&◌, ◌||◌, slice_set}
use Rattle.std.specs.List.{list_any}
use Rattle.std.proofs.lemmas.Bool.{and_parts}
use Rattle.semantics.specs.declared.mark.Mark.{Mark}
use Rattle.semantics.specs.declared.mark.Mark.TheVariants.{Zero, One, Dash}
use Rattle.semantics.specs.Value.{Assignment, mark_matches, row_matches}
use Rattle.bdd_core.specs.declared.node.Node.{Node}
use Rattle.bdd_core.specs.Diagrams.{IsValuation, AreDiagrams, Grows, IsIteOf}
use Rattle.bdd_core.proofs.Growing.{grows_trans, valuation_before}
use Rattle.bdd_nets.specs.Tables.{signal_values, IsSomeRowOf}
use Rattle.bdd_nets.specs.Splits.{IsSettled, DrawnRows, IsSplitOver}

-- a mark asks for what is not chosen, or for nothing else
abbrev pub IsOpposite : Mark → Mark → Type 0
IsOpposite m c = (bit : Bool) → mark_matches c bit ≡ true → mark_matches m bit ≡ false

abbrev pub IsImplied : Mark → Mark → Type 0
IsImplied m c = (bit : Bool) → mark_matches c bit ≡ true → mark_matches m bit ≡ true

-- the row never matches where the pins are as they are chosen, or always
abbrev pub NeverMatches : List Mark → List Mark → Type 0
NeverMatches chosen marks = (pins : List ℕ) (v : Assignment) → length pins ≡ length chosen → row_matches chosen pins v ≡ true → row_matches marks pins v ≡ false

abbrev pub AlwaysMatches : List Mark → List Mark → Type 0
AlwaysMatches chosen marks = (pins : List ℕ) (v : Assignment) → length pins ≡ length chosen → row_matches chosen pins v ≡ true → row_matches marks pins v ≡ true

-- the first i marks ask for nothing but what is chosen
pub record AreImplied (marks chosen : List Mark) (i : ℕ) : Type 0 where
  pub each : (j : ℕ) → j < i → IsImplied (get_or marks j Zero) (get_or chosen j Zero)

-- no row so far ever matches, unless one was seen that may
pub record NoneSoFar (rows : List (List Mark)) (chosen : List Mark) (i : ℕ) (possible : Bool) : Type 0 where
  pub none : possible ≡ false → (j : ℕ) → j < i → NeverMatches chosen (get_or rows j [])

and_false : (a : Bool) → (a && false) ≡ false
and_false true = refl
and_false false = refl

both : (a b : Bool) → a ≡ true → b ≡ true → (a && b) ≡ true
both true true ha hb = refl
both true false ha hb = hb
both false b ha hb = ha

or_true : (a : Bool) → (a || true) ≡ true
or_true true = refl
or_true false = refl

pub clash_at : (marks chosen : List Mark) (i : ℕ) → length marks ≡ length chosen → i < length marks → IsOpposite (get_or marks i Zero) (get_or chosen i Zero) → NeverMatches chosen marks
clash_at [] chosen i same low opposite pins v width on = absurd (omega (arith, low))
clash_at (m ∷ ms) [] i same low opposite pins v width on = absurd (omega (arith, same))
clash_at (m ∷ ms) (c ∷ cs) i same low opposite [] v width on = absurd (omega (arith, width))
clash_at (m ∷ ms) (c ∷ cs) zero same low opposite (p ∷ ps) v width on = ap (λ b. b && row_matches ms ps v) (opposite (v p) (and_parts _ _ on).0)
clash_at (m ∷ ms) (c ∷ cs) (suc i) same low opposite (p ∷ ps) v width on =
    ap (λ b. mark_matches m (v p) && b) (clash_at ms cs i (omega (arith, same)) (omega (arith, low)) opposite ps v (omega (arith, width)) (and_parts _ _ on).1) ∙ and_false (mark_matches m (v p))

pub all_implied : (marks chosen : List Mark) → length marks ≡ length chosen → ((j : ℕ) → j < length marks → IsImplied (get_or marks j Zero) (get_or chosen j Zero)) → AlwaysMatches chosen marks
all_implied [] chosen same each pins v width on = refl
all_implied (m ∷ ms) [] same each pins v width on = absurd (omega (arith, same))
all_implied (m ∷ ms) (c ∷ cs) same each [] v width on = refl
all_implied (m ∷ ms) (c ∷ cs) same each (p ∷ ps) v width on =
    both (mark_matches m (v p)) (row_matches ms ps v) (each 0 (omega arith) (v p) (and_parts _ _ on).0)
    (all_implied ms cs (omega (arith, same)) (λ j low. each (suc j) (omega (arith, low))) ps v (omega (arith, width)) (and_parts _ _ on).1)

pub never_settled : (rows : List (List Mark)) (chosen : List Mark) → ((j : ℕ) → j < length rows → NeverMatches chosen (get_or rows j [])) → IsSettled rows chosen false
never_settled [] chosen none pins v width on = refl
never_settled (r ∷ rs) chosen none pins v width on =
    ap (λ b. b || list_any (λ marks. row_matches marks pins v) rs) (none 0 (omega arith) pins v width on)
    ∙ never_settled rs chosen (λ j low. none (suc j) (omega (arith, low))) pins v width on

pub always_settled : (rows : List (List Mark)) (chosen : List Mark) (i : ℕ) → i < length rows → AlwaysMatches chosen (get_or rows i []) → IsSettled rows chosen true
always_settled [] chosen i low always pins v width on = absurd (omega (arith, low))
always_settled (r ∷ rs) chosen zero low always pins v width on = ap (λ b. b || list_any (λ marks. row_matches marks pins v) rs) (always pins v width on)
always_settled (r ∷ rs) chosen (suc i) low always pins v width on =
    ap (λ b. row_matches r pins v || b) (always_settled rs chosen i (omega (arith, low)) always pins v width on) ∙ or_true (row_matches r pins v)

-- one more pin is chosen, as it is
pub chosen_more : (chosen : List Mark) (pins : List ℕ) (v : Assignment) (p : ℕ) (m : Mark) → mark_matches m (v (get_or pins p 0)) ≡ true → row_matches chosen pins v ≡ true
    → row_matches (slice_set chosen p m) pins v ≡ true
chosen_more [] pins v p m is on = refl
chosen_more (c ∷ cs) [] v zero m is on = refl
chosen_more (c ∷ cs) [] v (suc p) m is on = refl
chosen_more (c ∷ cs) (s ∷ ps) v zero m is on = both (mark_matches m (v s)) (row_matches cs ps v) is (and_parts _ _ on).1
chosen_more (c ∷ cs) (s ∷ ps) v (suc p) m is on =
    both (mark_matches c (v s)) (row_matches (slice_set cs p m) ps v) (and_parts _ _ on).0 (chosen_more cs ps v p m is (and_parts _ _ on).1)

-- a choice that is taken back
pub chosen_back : (chosen : List Mark) (p : ℕ) (m : Mark) → get_or chosen p Zero ≡ Dash → slice_set (slice_set chosen p m) p Dash ≡ chosen
chosen_back [] p m dash = refl
chosen_back (c ∷ cs) zero m dash = ap (λ d. d ∷ cs) (sym dash)
chosen_back (c ∷ cs) (suc p) m dash = ap (λ ds. c ∷ ds) (chosen_back cs p m dash)

pub chosen_anew : (chosen : List Mark) (p : ℕ) (m n : Mark) → slice_set (slice_set chosen p m) p n ≡ slice_set chosen p n
chosen_anew [] p m n = refl
chosen_anew (c ∷ cs) zero m n = refl
chosen_anew (c ∷ cs) (suc p) m n = ap (λ ds. c ∷ ds) (chosen_anew cs p m n)

pub settled_true : (nodes : List Node) (t : DrawnRows) (chosen : List Mark) → AreDiagrams nodes → length chosen ≡ length t.pins → IsSettled t.rows chosen true → IsSplitOver nodes t chosen 1
settled_true nodes t chosen are width settled = record {
  within = omega (arith, are.constants);
  is = λ x v val on. val.one_is ∙ sym (settled t.pins (signal_values t.signals v) (sym width) on);
}

pub settled_false : (nodes : List Node) (t : DrawnRows) (chosen : List Mark) → AreDiagrams nodes → length chosen ≡ length t.pins → IsSettled t.rows chosen false → IsSplitOver nodes t chosen 0
settled_false nodes t chosen are width settled = record {
  within = omega (arith, are.constants);
  is = λ x v val on. val.zero_is ∙ sym (settled t.pins (signal_values t.signals v) (sym width) on);
}

-- both halves of a split
module _ (b c e : List Node) (t : DrawnRows) (chosen : List Mark) (p pin low high r : ℕ) where
  pub split_halves : IsSplitOver b t (slice_set chosen p Zero) low → IsSplitOver c t (slice_set chosen p One) high → Grows b c → Grows c e → IsIteOf e pin high low r
      → pin ≡ get_or t.signals (get_or t.pins p 0) 0 → IsSplitOver e t chosen r
  split_halves is_low is_high bc ce ite read = record {
    within = ite.within;
    is = λ x v val on.
        let at_c : IsValuation c x v = valuation_before c e x v ce val in
        let at_b : IsValuation b x v = valuation_before b c x v bc at_c in
        ite.is x v val ∙ half x v at_b at_c on (v pin) refl;
  }
    where
      half : (x v : Assignment) → IsValuation b x v → IsValuation c x v → row_matches chosen t.pins (signal_values t.signals v) ≡ true → (bit : Bool) → v pin ≡ bit
          → cond (v pin) (v high) (v low) ≡ list_any (λ marks. row_matches marks t.pins (signal_values t.signals v)) t.rows
      half x v at_b at_c on true is =
          ap (λ bit. cond bit (v high) (v low)) is
          ∙ is_high.is x v at_c (chosen_more chosen t.pins (signal_values t.signals v) p One (ap v (sym read) ∙ is) on)
      half x v at_b at_c on false is =
          ap (λ bit. cond bit (v high) (v low)) is
          ∙ is_low.is x v at_b (chosen_more chosen t.pins (signal_values t.signals v) p Zero (rw (← read, is) refl) on)

-- where nothing is chosen
nothing_chosen : (n : ℕ) (pins : List ℕ) (v : Assignment) → row_matches (replicate n Dash) pins v ≡ true
nothing_chosen zero pins v = refl
nothing_chosen (suc n) [] v = refl
nothing_chosen (suc n) (s ∷ ps) v = nothing_chosen n ps v

pub split_all : (nodes : List Node) (t : DrawnRows) (chosen : List Mark) (n r : ℕ) → chosen ≡ replicate n Dash → IsSplitOver nodes t chosen r → IsSomeRowOf nodes t.rows t.pins t.signals r
split_all nodes t chosen n r is over = record {
  within = over.within;
  is = λ x v val. over.is x v val (ap (λ (cs : List Mark). row_matches cs t.pins (signal_values t.signals v)) is ∙ nothing_chosen n t.pins (signal_values t.signals v));
}
