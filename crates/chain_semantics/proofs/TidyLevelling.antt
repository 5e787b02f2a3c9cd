-- Acyclic tables have levels; they do not rise where pins are renamed to signals of no greater level.
use Rattle.std.proofs.Common.{◌≡◌, ℕ, zero, suc, ◌+◌, ◌-◌, ◌<◌, ◌≤◌, true, eqb, List, [], ◌∷◌, map, length, refl, ap, sym, subst, ◌∙◌, inl, inr, arith}
use Rattle.std.specs.List.{sum_by, AllByRecursion}
use Rattle.std.proofs.lemmas.Bool.{lt-ltb, le-ltb, cases_lt, eqb-true, or_cases, false≢true}
use Rattle.std.proofs.lemmas.List.Sums.{sum_by-cons}
use Rattle.semantics.specs.Net.{TableValue, table_at, IsGroundedIn, IsAcyclic}
use Rattle.semantics.proofs.Values.{IsGroundedIn-signal}
use Rattle.semantics.proofs.Depends.{each_member, each_weaker, IsGroundedIn-pin}
use Rattle.chain_semantics.specs.TidyRules.{has, is_read}
use Rattle.chain_semantics.specs.TidyLevels.{greatest, AreLevels, level_round, after_level_rounds, level_of, pin_levels}

greatest-same : (f g : ℕ → ℕ) (pins : List ℕ) → AllByRecursion (λ s. f s ≡ g s) pins → greatest f pins ≡ greatest g pins
greatest-same f g [] h = refl
greatest-same f g (s ∷ pins) h = let here = h.0 in let rest = greatest-same f g pins h.1 in cc

pub greatest-le : (f g : ℕ → ℕ) (pins : List ℕ) → AllByRecursion (λ s. f s ≤ g s) pins → greatest f pins ≤ greatest g pins
greatest-le f g [] h = omega arith
greatest-le f g (s ∷ pins) h = omega (arith, h.0, greatest-le f g pins h.1)

pub greatest-map-le : (g : ℕ → ℕ) (f : ℕ → ℕ) → ((s : ℕ) → g (f s) ≤ g s) → (pins : List ℕ) → greatest g (map f pins) ≤ greatest g pins
greatest-map-le g f less [] = omega arith
greatest-map-le g f less (s ∷ pins) = omega (arith, less s, greatest-map-le g f less pins)

level-input : (n : ℕ) (tables : List TableValue) (level : ℕ → ℕ) (s : ℕ) → s < n → level_round n tables level s ≡ 0
level-input n tables level s h = rw (lt-ltb s n h) refl

level-past : (n : ℕ) (tables : List TableValue) (level : ℕ → ℕ) (s : ℕ) → n ≤ s → level_round n tables level s ≡ 1 + greatest level (table_at tables (s - n)).pins
level-past n tables level s h = rw (le-ltb s n h) refl

-- two ends of enough rounds agree
rounds-agree : (n : ℕ) (tables : List TableValue) (k a b s : ℕ) → IsGroundedIn n tables k s → k ≤ a → k ≤ b → after_level_rounds n tables (suc a) s ≡ after_level_rounds n tables (suc b) s
unfolding after_level_rounds
rounds-agree n tables zero a b s h la lb = level-input n tables (after_level_rounds n tables a) s h ∙ sym (level-input n tables (after_level_rounds n tables b) s h)
rounds-agree n tables (suc k) zero b s h la lb = absurd (omega arith)
rounds-agree n tables (suc k) (suc a) zero s h la lb = absurd (omega arith)
rounds-agree n tables (suc k) (suc a) (suc b) s h la lb =
    elim (cases_lt s n) [
      | inl low ↦ level-input n tables (after_level_rounds n tables (suc a)) s low ∙ sym (level-input n tables (after_level_rounds n tables (suc b)) s low)
      | inr high ↦
          level-past n tables (after_level_rounds n tables (suc a)) s high
          ∙ ap (λ m. 1 + m) (greatest-same (after_level_rounds n tables (suc a)) (after_level_rounds n tables (suc b)) (table_at tables (s - n)).pins
          (each_member (λ p. after_level_rounds n tables (suc a) p ≡ after_level_rounds n tables (suc b) p) (table_at tables (s - n)).pins
          (λ p c. rounds-agree n tables k a b p (IsGroundedIn-pin n tables k s p high h c) (omega arith) (omega arith))))
          ∙ sym (level-past n tables (after_level_rounds n tables (suc b)) s high)
    ]

pub levels : (n : ℕ) (tables : List TableValue) → IsAcyclic n tables → AreLevels n tables (level_of n tables)
unfolding level_of after_level_rounds
levels n tables acyclic = record {
  input = λ s h. level-input n tables (after_level_rounds n tables (length tables)) s h;
  table = λ i h.
      let place : (n + i) - n ≡ i = omega arith in
      rounds-agree n tables (length tables) (length tables) (suc (length tables)) (n + i) (acyclic i h) (omega arith) (omega arith)
      ∙ level-past n tables (after_level_rounds n tables (suc (length tables))) (n + i) (omega arith)
      ∙ ap (λ j. 1 + greatest (after_level_rounds n tables (suc (length tables))) (table_at tables j).pins) place;
}

-- levels of two lists, where the pins of the second have no greater levels
module _ (n : ℕ) (a b : List TableValue) (la lb : ℕ → ℕ) (old : AreLevels n a la) (new : AreLevels n b lb) (count : length b ≡ length a)
    (less : (i : ℕ) → i < length b → greatest la (table_at b i).pins ≤ greatest la (table_at a i).pins) where
  levels-fall-in : (k s : ℕ) → IsGroundedIn n b k s → lb s ≤ la s
  levels-fall-in zero s h = omega (arith, new.input s h)
  levels-fall-in (suc k) s (inl h) = omega (arith, new.input s h)
  levels-fall-in (suc k) s (inr h) =
      elim (cases_lt s n) [
        | inl low ↦ omega (arith, new.input s low)
        | inr high ↦
            let place : n + (s - n) ≡ s = omega arith in
            let inside : s - n < length b = omega (arith, h.0) in
            let of_b : lb s ≡ 1 + greatest lb (table_at b (s - n)).pins = ap lb (sym place) ∙ new.table (s - n) inside in
            let of_a : la s ≡ 1 + greatest la (table_at a (s - n)).pins = ap la (sym place) ∙ old.table (s - n) (omega arith) in
            let pins : greatest lb (table_at b (s - n)).pins ≤ greatest la (table_at b (s - n)).pins =
            greatest-le lb la (table_at b (s - n)).pins (each_weaker (IsGroundedIn n b k) (λ p. lb p ≤ la p) (table_at b (s - n)).pins (levels-fall-in k) h.1) in
            omega (arith, less (s - n) inside)
      ]

  pub levels-fall : IsAcyclic n b → (s : ℕ) → s < n + length b → lb s ≤ la s
  levels-fall acyclic s h = levels-fall-in (length b) s (IsGroundedIn-signal n b acyclic s h)

-- sums over pins
pins-le : (la lb f : ℕ → ℕ) (pins : List ℕ) → AllByRecursion (λ s. lb (f s) ≤ la s) pins → sum_by lb (map f pins) ≤ sum_by la pins
pins-le la lb f [] h = omega arith
pins-le la lb f (s ∷ pins) h = omega (arith, sum_by-cons la s pins, sum_by-cons lb (f s) (map f pins), h.0, pins-le la lb f pins h.1)

pins-lt : (la lb f : ℕ → ℕ) (gone : ℕ) → lb (f gone) < la gone → (pins : List ℕ) → AllByRecursion (λ s. lb (f s) ≤ la s) pins → has pins gone ≡ true → sum_by lb (map f pins) < sum_by la pins
pins-lt la lb f gone less [] h e = absurd (false≢true e)
pins-lt la lb f gone less (s ∷ pins) h e =
    elim (or_cases (eqb gone s) (has pins gone) e) [
      | inl here ↦
          let lower : lb (f s) < la s = subst (λ p. lb (f p) < la p) (eqb-true gone s here) less in
          omega (arith, sum_by-cons la s pins, sum_by-cons lb (f s) (map f pins), pins-le la lb f pins h.1)
      | inr later ↦ omega (arith, sum_by-cons la s pins, sum_by-cons lb (f s) (map f pins), h.0, pins-lt la lb f gone less pins h.1 later)
    ]

-- the pins of every table renamed by f
pub tables-le : (la lb f : ℕ → ℕ) (g : TableValue → TableValue) → ((t : TableValue) → (g t).pins ≡ map f t.pins) → (tables : List TableValue)
    → AllByRecursion (λ t. AllByRecursion (λ s. lb (f s) ≤ la s) t.pins) tables → pin_levels lb (map g tables) ≤ pin_levels la tables
tables-le la lb f g same [] h = omega arith
tables-le la lb f g same (t ∷ tables) h =
    let here : sum_by lb (g t).pins ≡ sum_by lb (map f t.pins) = ap (sum_by lb) (same t) in
    omega (arith, sum_by-cons (λ u. sum_by la u.pins) t tables, sum_by-cons (λ u. sum_by lb u.pins) (g t) (map g tables), pins-le la lb f t.pins h.0, tables-le la lb f g same tables h.1)

pub tables-lt : (la lb f : ℕ → ℕ) (g : TableValue → TableValue) → ((t : TableValue) → (g t).pins ≡ map f t.pins) → (gone : ℕ) → lb (f gone) < la gone → (tables : List TableValue)
    → AllByRecursion (λ t. AllByRecursion (λ s. lb (f s) ≤ la s) t.pins) tables → is_read tables gone ≡ true → pin_levels lb (map g tables) < pin_levels la tables
tables-lt la lb f g same gone less [] h e = absurd (false≢true e)
tables-lt la lb f g same gone less (t ∷ tables) h e =
    let here : sum_by lb (g t).pins ≡ sum_by lb (map f t.pins) = ap (sum_by lb) (same t) in
    elim (or_cases (has t.pins gone) (is_read tables gone) e) [
      | inl first ↦ omega (
        arith,
        sum_by-cons (λ u. sum_by la u.pins) t tables,
        sum_by-cons (λ u. sum_by lb u.pins) (g t) (map g tables),
        pins-lt la lb f gone less t.pins h.0 first,
        tables-le la lb f g same tables h.1,
      )
      | inr later ↦ omega (
        arith,
        sum_by-cons (λ u. sum_by la u.pins) t tables,
        sum_by-cons (λ u. sum_by lb u.pins) (g t) (map g tables),
        pins-le la lb f t.pins h.0,
        tables-lt la lb f g same gone less tables h.1 later,
      )
    ]
