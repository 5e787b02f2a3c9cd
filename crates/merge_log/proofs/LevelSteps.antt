-- Levels: alike signals have the same one, and the pins of a table have lower ones.
use Rattle.std.proofs.Common.{◌≡◌, ℕ, zero, suc, ◌+◌, ◌-◌, ◌<◌, ◌≤◌, max, List, [], ◌∷◌, length, replicate, drop, drop-cons, get_or, refl, ap, subst, sym, ◌∙◌, inl, inr, arith}
use Rattle.std.specs.Prelude.{Contains}
use Rattle.std.specs.List.{AllZip, AllByRecursion}
use Rattle.std.proofs.lemmas.Bool.{cases_lt}
use Rattle.semantics.specs.Net.{TableValue, table_at, IsGroundedIn, IsAcyclic}
use Rattle.semantics.specs.Order.{IsKnown, IsNext}
use Rattle.semantics.proofs.Members.{member_holds, each_member}
use Rattle.semantics.proofs.Depends.{IsGroundedIn-more, IsGroundedIn-pin, own_pin}
use Rattle.proof_semantics.specs.Alike.{IsAlikeIn, IsAlike}
use Rattle.proof_semantics.proofs.Alike.{alike-turned}
use Rattle.merge_log.specs.Levels.{IsLevel, highest}

-- ---- the greatest of some levels

pub highest-above : (levels signals : List ℕ) (s : ℕ) → Contains signals s → get_or levels s 0 ≤ highest levels signals
highest-above levels [] s c = absurd (omega (arith, c.1))
highest-above levels (x ∷ signals) s (zero, within, is) = let here : get_or levels x 0 ≡ get_or levels s 0 = ap (λ i. get_or levels i 0) is in omega (arith, here)
highest-above levels (x ∷ signals) s (suc k, within, is) = let rest = highest-above levels signals s (k, omega (arith, within), is) in omega (arith, rest)

pub highest-below : (levels signals : List ℕ) (bound : ℕ) → AllByRecursion (λ s. get_or levels s 0 ≤ bound) signals → highest levels signals ≤ bound
highest-below levels [] bound h = omega arith
highest-below levels (x ∷ signals) bound h = let rest = highest-below levels signals bound h.1 in omega (arith, rest, h.0)

pub get_or_zeros : (k s : ℕ) → ◌≡◌ {A = ℕ} (get_or (replicate k 0) s 0) 0
get_or_zeros zero s = refl
get_or_zeros (suc k) zero = refl
get_or_zeros (suc k) (suc s) = get_or_zeros k s

-- one signal more
pub highest_turn : (levels signals : List ℕ) (k level all : ℕ) → k < length signals → max level (highest levels (drop k signals)) ≡ all
    → max (max level (get_or levels (get_or signals k 0) 0)) (highest levels (drop (k + 1) signals)) ≡ all
highest_turn levels signals k level all low before =
    let next : suc k ≡ k + 1 = omega arith in
    let cut : drop k signals ≡ get_or signals k 0 ∷ drop (k + 1) signals = drop-cons signals k 0 low ∙ ap (λ i. get_or signals k 0 ∷ drop i signals) next in
    let opened : highest levels (drop k signals) ≡ max (get_or levels (get_or signals k 0) 0) (highest levels (drop (k + 1) signals)) = ap (highest levels) cut in
    omega (arith, before, opened)

get_or_past : (xs : List ℕ) (k : ℕ) → length xs ≤ k → get_or xs k 0 ≡ 0
get_or_past [] k past = refl
get_or_past (x ∷ xs) zero past = absurd (omega (arith, past))
get_or_past (x ∷ xs) (suc k) past = get_or_past xs k (omega (arith, past))

pub depth_turn : (levels : List ℕ) (k depth : ℕ) → ((s : ℕ) → s < k → get_or levels s 0 ≤ depth) → (s : ℕ) → s < k + 1 → get_or levels s 0 ≤ max depth (get_or levels k 0)
depth_turn levels k depth before s low =
    elim (cases_lt s k) [
      | inl old ↦ let most = before s old in omega (arith, most)
      | inr new ↦ let same : s ≡ k = omega (arith, low, new) in let here : get_or levels s 0 ≡ get_or levels k 0 = ap (λ i. get_or levels i 0) same in omega (arith, here)
    ]

pub depth_all : (levels : List ℕ) (k depth : ℕ) → length levels ≤ k → ((s : ℕ) → s < k → get_or levels s 0 ≤ depth) → (s : ℕ) → get_or levels s 0 ≤ depth
depth_all levels k depth past before s =
    elim (cases_lt s k) [ inl old ↦ before s old | inr beyond ↦ let none = get_or_past levels s (omega (arith, past, beyond)) in omega (arith, none) ]

module _ (n : ℕ) (tables : List TableValue) where
  grounded-at : (k more s : ℕ) → k ≤ more → IsGroundedIn n tables k s → IsGroundedIn n tables more s
  grounded-at k zero s low h = let none : k ≡ 0 = omega (arith, low) in subst (λ j. IsGroundedIn n tables j s) none h
  grounded-at k (suc more) s low h =
      elim (cases_lt more k) [
        | inl past ↦ let same : k ≡ suc more = omega (arith, low, past) in subst (λ j. IsGroundedIn n tables j s) same h
        | inr within ↦ IsGroundedIn-more n tables more s (grounded-at k more s within h)
      ]

  -- ---- alike signals

  zip_all : (P : ℕ → Type 0) (R : ℕ → ℕ → Type 0) → ((p q : ℕ) → R p q → P p → P q) → (pins others : List ℕ) → AllZip R pins others → AllByRecursion P pins → AllByRecursion P others
  zip_all P R f [] [] h all = tt
  zip_all P R f [] (q ∷ others) h all = absurd h
  zip_all P R f (p ∷ pins) [] h all = absurd h
  zip_all P R f (p ∷ pins) (q ∷ others) h all = (f p q h.0 all.0, zip_all P R f pins others h.1 all.1)

  alike-grounded : (levels k s u : ℕ) → IsAlikeIn n tables levels s u → IsGroundedIn n tables k s → IsGroundedIn n tables k u
  alike-grounded zero k s u same h = subst (IsGroundedIn n tables k) same h
  alike-grounded (suc levels) k s u (inl same) h = subst (IsGroundedIn n tables k) same h
  alike-grounded (suc levels) zero s u (inr form) h = absurd (omega (arith, form.s_table.0, h))
  alike-grounded (suc levels) (suc k) s u (inr form) (inl low) = absurd (omega (arith, form.s_table.0, low))
  alike-grounded (suc levels) (suc k) s u (inr form) (inr h) =
      inr (
        form.u_table.1,
        zip_all (IsGroundedIn n tables k) (IsAlikeIn n tables levels) (λ p q like ground. alike-grounded levels k p q like ground) (table_at tables (s - n)).pins
            (table_at tables (u - n)).pins form.pins h.1,
      )

  pub alike-level : (s u a b : ℕ) → IsAlike n tables s u → IsLevel n tables s a → IsLevel n tables u b → a ≡ b
  alike-level s u a b like h k =
      let back = alike-turned n tables s u like in
      let low : b ≤ a = k.least a (alike-grounded like.0 a s u like.1 h.grounded) in
      let high : a ≤ b = h.least b (alike-grounded back.0 b u s back.1 k.grounded) in
      omega (arith, low, high)

  -- ---- tables and their pins

  pub level-pin : (i p a b : ℕ) → Contains (table_at tables i).pins p → IsLevel n tables (n + i) a → IsLevel n tables p b → b < a
  level-pin i p zero b c h k = absurd (let low = h.grounded in omega (arith, low))
  level-pin i p (suc a) b c h k =
      let low : b ≤ a = k.least a (IsGroundedIn-pin n tables a (n + i) p (omega arith) h.grounded (own_pin n tables i p c)) in omega (arith, low)

  pub level-input : (s : ℕ) → s < n → IsLevel n tables s 0
  level-input s low = record { grounded = low; least = λ steps h. omega arith }

  place : (i : ℕ) → (table_at tables ((n + i) - n)).pins ≡ (table_at tables i).pins
  place i = let same : (n + i) - n ≡ i = omega arith in ap (λ j. (table_at tables j).pins) same

  pub level-next : (levels before : List ℕ) (i : ℕ) → IsNext n tables before i → ((s : ℕ) → IsKnown n before s → IsLevel n tables s (get_or levels s 0))
      → IsLevel n tables (n + i) (suc (highest levels (table_at tables i).pins))
  level-next levels before i next known =
      let pins : List ℕ = (table_at tables i).pins in
      let at : (p : ℕ) → Contains pins p → IsLevel n tables p (get_or levels p 0) = λ p c. known p (member_holds (IsKnown n before) pins p next.reads c) in
      record {
        grounded = inr (
          omega (arith, next.table),
          subst (AllByRecursion (IsGroundedIn n tables (highest levels pins))) (sym (place i))
              (each_member (IsGroundedIn n tables (highest levels pins)) pins
              (λ p c. grounded-at (get_or levels p 0) (highest levels pins) p (highest-above levels pins p c) (at p c).grounded)),
        );
        least = lowest at;
      }
    where
      lowest : ((p : ℕ) → Contains (table_at tables i).pins p → IsLevel n tables p (get_or levels p 0)) → (steps : ℕ) → IsGroundedIn n tables steps (n + i)
          → suc (highest levels (table_at tables i).pins) ≤ steps
      lowest at zero h = absurd (omega (arith, h))
      lowest at (suc steps) (inl low) = absurd (omega (arith, low))
      lowest at (suc steps) (inr h) =
          let low : highest levels (table_at tables i).pins ≤ steps =
          highest-below levels (table_at tables i).pins steps
          (each_member (λ p. get_or levels p 0 ≤ steps) (table_at tables i).pins
          (λ p c. (at p c).least steps (member_holds (IsGroundedIn n tables steps) (table_at tables i).pins p (subst (AllByRecursion (IsGroundedIn n tables steps)) (place i) h.1) c))) in
          omega (arith, low)

  -- no level is above the number of tables
  pub level-most : (s level : ℕ) → IsAcyclic n tables → s < n + length tables → IsLevel n tables s level → level ≤ length tables
  level-most s level acyclic within h =
      elim (cases_lt s n) [
        | inl low ↦ let none = h.least 0 low in omega (arith, none)
        | inr high ↦
            let at : n + (s - n) ≡ s = omega (arith, high) in
            h.least (length tables) (subst (IsGroundedIn n tables (length tables)) at (acyclic (s - n) (omega (arith, within, high))))
      ]
