-- What a row matches, and its literals, after an edit of its marks.
use Rattle.std.proofs.Common.{◌≡◌, ℕ, zero, suc, ◌+◌, ◌<◌, ◌≤◌, Bool, true, false, cond, not, eqb, List, [], ◌∷◌, map, length, get_or, take, refl, ap, sym, ◌∙◌, arith}
use Rattle.std.specs.Prelude.{◌&&◌, ◌||◌}
use Rattle.std.specs.List.{remove}
use Rattle.std.proofs.lemmas.Bool.{and_right, eqb-true, false≢true}
use Rattle.std.proofs.lemmas.List.Sums.{sum_by-cons}
use Rattle.semantics.specs.declared.mark.Mark.{Mark}
use Rattle.semantics.specs.declared.mark.Mark.TheVariants.{Zero, One, Dash}
use Rattle.semantics.specs.Net.{is_literal, row_literals}
use Rattle.semantics.specs.Value.{Assignment, mark_matches, row_matches}
use Rattle.chain_semantics.specs.TidyRules.{mark_at, is_dash, clash, joined, with_marks_joined, opposite, with_marks_turned, has, first_place_of}
use Rattle.semantics.specs.Renamed.{redirect}

and_swap : (a b c : Bool) → (a && (b && c)) ≡ (b && (a && c))
and_swap true b c = refl
and_swap false true c = refl
and_swap false false c = refl

-- a row matches where its mark at q matches and its other marks do
pub row_matches-split : (marks : List Mark) (pins : List ℕ) (q : ℕ) (v : Assignment) → q < length pins
    → row_matches marks pins v ≡ (mark_matches (mark_at marks q) (v (get_or pins q 0)) && row_matches (remove marks q) (remove pins q) v)
row_matches-split marks [] q v h = absurd (omega arith)
row_matches-split [] (s ∷ pins) zero v h = refl
row_matches-split [] (s ∷ pins) (suc q) v h = refl
row_matches-split (m ∷ marks) (s ∷ pins) zero v h = refl
row_matches-split (m ∷ marks) (s ∷ pins) (suc q) v h =
    ap (λ b. mark_matches m (v s) && b) (row_matches-split marks pins q v (omega arith))
    ∙ and_swap (mark_matches m (v s)) (mark_matches (mark_at marks q) (v (get_or pins q 0))) (row_matches (remove marks q) (remove pins q) v)

-- a dash asks for nothing
pub dash_matches : (m : Mark) (b : Bool) → is_dash m ≡ true → mark_matches m b ≡ true
dash_matches Zero b h = absurd (false≢true h)
dash_matches One b h = absurd (false≢true h)
dash_matches Dash b h = refl

joined_matches : (a b : Mark) (w c : Bool) → clash a b ≡ false → (mark_matches (joined a b) w && c) ≡ (mark_matches a w && (mark_matches b w && c))
joined_matches Zero Zero true c h = refl
joined_matches Zero Zero false c h = refl
joined_matches Zero One w c h = cc
joined_matches Zero Dash true c h = refl
joined_matches Zero Dash false c h = refl
joined_matches One Zero w c h = cc
joined_matches One One true c h = refl
joined_matches One One false c h = refl
joined_matches One Dash true c h = refl
joined_matches One Dash false c h = refl
joined_matches Dash b w c h = refl

clash_matches : (a b : Mark) (w c : Bool) → clash a b ≡ true → (mark_matches a w && (mark_matches b w && c)) ≡ false
clash_matches Zero Zero w c h = cc
clash_matches Zero One true c h = refl
clash_matches Zero One false c h = refl
clash_matches Zero Dash w c h = cc
clash_matches One Zero true c h = refl
clash_matches One Zero false c h = refl
clash_matches One One w c h = cc
clash_matches One Dash w c h = cc
clash_matches Dash b w c h = cc

-- two pins of one signal: the joined row asks for what both marks ask
pub joined-matches : (marks : List Mark) (pins : List ℕ) (p q : ℕ) (v : Assignment) → p < q → q < length pins → get_or pins p 0 ≡ get_or pins q 0
    → clash (mark_at marks p) (mark_at marks q) ≡ false → row_matches (remove (with_marks_joined p q marks) q) (remove pins q) v ≡ row_matches marks pins v
joined-matches marks pins p zero v less h e c = absurd (omega arith)
joined-matches marks [] p (suc q) v less h e c = absurd (omega arith)
joined-matches [] (s ∷ pins) p (suc q) v less h e c = refl
joined-matches (m ∷ marks) (s ∷ pins) zero (suc q) v less h e c =
    joined_matches m (mark_at marks q) (v s) (row_matches (remove marks q) (remove pins q) v) c
    ∙ ap (λ i. mark_matches m (v s) && (mark_matches (mark_at marks q) (v i) && row_matches (remove marks q) (remove pins q) v)) e
    ∙ ap (λ b. mark_matches m (v s) && b) (sym (row_matches-split marks pins q v (omega arith)))
joined-matches (m ∷ marks) (s ∷ pins) (suc p) (suc q) v less h e c =
    ap (λ b. mark_matches m (v s) && b) (joined-matches marks pins p q v (omega arith) (omega arith) e c)

-- and a row that asks for both values matches nowhere
pub clash-matches : (marks : List Mark) (pins : List ℕ) (p q : ℕ) (v : Assignment) → p < q → q < length pins → get_or pins p 0 ≡ get_or pins q 0
    → clash (mark_at marks p) (mark_at marks q) ≡ true → row_matches marks pins v ≡ false
clash-matches marks pins p zero v less h e c = absurd (omega arith)
clash-matches marks [] p (suc q) v less h e c = absurd (omega arith)
clash-matches [] (s ∷ pins) zero (suc q) v less h e c = cc
clash-matches [] (s ∷ pins) (suc p) (suc q) v less h e c = cc
clash-matches (m ∷ marks) (s ∷ pins) zero (suc q) v less h e c =
    ap (λ b. mark_matches m (v s) && b) (row_matches-split marks pins q v (omega arith))
    ∙ ap (λ i. mark_matches m (v s) && (mark_matches (mark_at marks q) (v i) && row_matches (remove marks q) (remove pins q) v)) (sym e)
    ∙ clash_matches m (mark_at marks q) (v s) (row_matches (remove marks q) (remove pins q) v) c
clash-matches (m ∷ marks) (s ∷ pins) (suc p) (suc q) v less h e c =
    and_right (mark_matches m (v s)) (row_matches marks pins v) (clash-matches marks pins p q v (omega arith) (omega arith) e c)

abbrev pub bit : Mark → ℕ
bit m = cond (is_literal m) 1 0

literals-cons : (m : Mark) (marks : List Mark) → row_literals (m ∷ marks) ≡ bit m + row_literals marks
literals-cons m marks = sum_by-cons bit m marks

-- a row without literals matches everywhere
pub no_literal-matches : (marks : List Mark) (pins : List ℕ) (v : Assignment) → row_literals marks ≡ 0 → row_matches marks pins v ≡ true
no_literal-matches [] pins v h = refl
no_literal-matches (m ∷ marks) [] v h = refl
no_literal-matches (Zero ∷ marks) (s ∷ pins) v h = absurd (omega (arith, literals-cons Zero marks))
no_literal-matches (One ∷ marks) (s ∷ pins) v h = absurd (omega (arith, literals-cons One marks))
no_literal-matches (Dash ∷ marks) (s ∷ pins) v h = no_literal-matches marks pins v (omega (arith, literals-cons Dash marks))

-- the literals of a row are those at q and those at the other places
pub literals-remove : (marks : List Mark) (q : ℕ) → row_literals (remove marks q) + bit (mark_at marks q) ≡ row_literals marks
literals-remove [] zero = refl
literals-remove [] (suc q) = refl
literals-remove (m ∷ marks) zero = omega (arith, literals-cons m marks)
literals-remove (m ∷ marks) (suc q) = omega (arith, literals-cons m marks, literals-cons m (remove marks q), literals-remove marks q)

joined_bit : (a b : Mark) → bit (joined a b) ≤ bit a + bit b
joined_bit Zero b = omega arith
joined_bit One b = omega arith
joined_bit Dash b = omega arith

pub literals-joined : (marks : List Mark) (p q : ℕ) → p < q → row_literals (remove (with_marks_joined p q marks) q) ≤ row_literals marks
literals-joined marks p zero h = absurd (omega arith)
literals-joined [] p (suc q) h = omega arith
literals-joined (m ∷ marks) zero (suc q) h =
    omega (arith, literals-cons m marks, literals-cons (joined m (mark_at marks q)) (remove marks q), literals-remove marks q, joined_bit m (mark_at marks q))
literals-joined (m ∷ marks) (suc p) (suc q) h =
    omega (arith, literals-cons m marks, literals-cons m (remove (with_marks_joined p q marks) q), literals-joined marks p q (omega arith))

-- what reads past an inverter has as many literals and marks
literal-opposite : (m : Mark) → is_literal (opposite m) ≡ is_literal m
literal-opposite Zero = refl
literal-opposite One = refl
literal-opposite Dash = refl

literal-turned : (b : Bool) (m : Mark) → is_literal (cond b (opposite m) m) ≡ is_literal m
literal-turned true m = literal-opposite m
literal-turned false m = refl

pub literals-turned : (s : ℕ) (pins : List ℕ) (marks : List Mark) → row_literals (with_marks_turned s pins marks) ≡ row_literals marks
literals-turned s [] marks = refl
literals-turned s (p ∷ pins) [] = refl
literals-turned s (p ∷ pins) (m ∷ marks) =
    literals-cons (cond (eqb p s) (opposite m) m) (with_marks_turned s pins marks)
    ∙ ap (λ b. cond b 1 0 + row_literals (with_marks_turned s pins marks)) (literal-turned (eqb p s) m)
    ∙ ap (λ k. bit m + k) (literals-turned s pins marks)
    ∙ sym (literals-cons m marks)

pub length-turned : (s : ℕ) (pins : List ℕ) (marks : List Mark) → length (with_marks_turned s pins marks) ≡ length marks
length-turned s [] marks = refl
length-turned s (p ∷ pins) [] = refl
length-turned s (p ∷ pins) (m ∷ marks) = let rest = length-turned s pins marks in cc

opposite_matches : (m : Mark) (b : Bool) → mark_matches (opposite m) b ≡ mark_matches m (not b)
opposite_matches Zero true = refl
opposite_matches Zero false = refl
opposite_matches One b = refl
opposite_matches Dash b = refl

turned_matches : (s to p : ℕ) (m : Mark) (v : Assignment) → v s ≡ not (v to) → (b : Bool) → eqb p s ≡ b → mark_matches (cond b (opposite m) m) (v (cond b to p)) ≡ mark_matches m (v p)
turned_matches s to p m v e true same =
    opposite_matches m (v to) ∙ ap (mark_matches m) (sym e ∙ ap v (sym (eqb-true p s same)))
turned_matches s to p m v e false other = refl

-- a row that reads past an inverter matches as before
pub turned-matches : (s to : ℕ) (pins : List ℕ) (marks : List Mark) (v : Assignment) → v s ≡ not (v to)
    → row_matches (with_marks_turned s pins marks) (map (redirect s to) pins) v ≡ row_matches marks pins v
turned-matches s to [] [] v e = refl
turned-matches s to [] (m ∷ marks) v e = refl
turned-matches s to (p ∷ pins) [] v e = refl
turned-matches s to (p ∷ pins) (m ∷ marks) v e =
    let here = turned_matches s to p m v e (eqb p s) refl in
    let rest = turned-matches s to pins marks v e in
    cc

-- the first place of a number that stands among the first q
place_at_test : (s p : ℕ) (pins : List ℕ) (q : ℕ) → ((has (take q pins) s) ≡ true → (first_place_of pins s < q) × (get_or pins (first_place_of pins s) 0 ≡ s))
    → (t : Bool) → eqb s p ≡ t → (t || has (take q pins) s) ≡ true
    → (cond t 0 (suc (first_place_of pins s)) < suc q) × (get_or (p ∷ pins) (cond t 0 (suc (first_place_of pins s))) 0 ≡ s)
place_at_test s p pins q f true e h = (omega arith, sym (eqb-true s p e))
place_at_test s p pins q f false e h = let rest = f h in (omega (arith, rest.0), rest.1)

pub first_place : (pins : List ℕ) (s q : ℕ) → has (take q pins) s ≡ true → (first_place_of pins s < q) × (get_or pins (first_place_of pins s) 0 ≡ s)
first_place [] s zero h = absurd (false≢true h)
first_place [] s (suc q) h = absurd (false≢true h)
first_place (p ∷ pins) s zero h = absurd (false≢true h)
first_place (p ∷ pins) s (suc q) h = place_at_test s p pins q (first_place pins s q) (eqb s p) refl h
