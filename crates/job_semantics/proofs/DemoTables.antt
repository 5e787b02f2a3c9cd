-- The tables of the demonstration's net, stage by stage.
use Rattle.std.proofs.Common.{◌≡◌, ℕ, zero, suc, ◌+◌, ◌-◌, ◌*◌, ◌<◌, ◌≤◌, List, [], ◌∷◌, map, flat_map, length, refl, ap, subst, arith, length-append, add-one, codes}
use Rattle.std.specs.Prelude.{sum_by}
use Rattle.std.specs.List.{range_with_len}
use Rattle.std.proofs.lemmas.List.Sums.{sum_by-cons}
use Rattle.std.proofs.lemmas.List.FromFn.{length-map-range_with_len}
use Rattle.semantics.specs.Net.{TableValue, table_at, input_count, table_count, literal_count, table_literals}
use Rattle.job_semantics.specs.Demo.{demo_name, sum_signal, sum_form, carry_form, demo_table, stage_tables, demo_net}

-- the two tables of stage i
abbrev pub sum_table : ℕ → ℕ → TableValue
sum_table w i = demo_table (demo_name (codes "s") i) (sum_form w i)

abbrev pub carry_table : ℕ → ℕ → TableValue
carry_table w i = demo_table (demo_name (codes "c") (i + 1)) (carry_form w i)

-- the tables of n stages, from stage i on
abbrev pub stages : ℕ → ℕ → ℕ → List TableValue
stages w i n = flat_map (stage_tables w) (range_with_len i n)

pub demo_inputs : (w : ℕ) → input_count (demo_net w) ≡ w + w
unfolding demo_net
demo_inputs w =
    omega (
      arith,
      length-append (map (demo_name (codes "a")) (range_with_len 0 w)) (map (demo_name (codes "b")) (range_with_len 0 w)),
      length-map-range_with_len (demo_name (codes "a")) 0 w,
      length-map-range_with_len (demo_name (codes "b")) 0 w,
    )

pub demo_outputs : (w : ℕ) → length (demo_net w).outputs ≡ w + 1
unfolding demo_net
demo_outputs w = omega (arith, length-append (map (sum_signal w) (range_with_len 0 w)) ((w + w + 2 * (w - 1) + 1) ∷ []), length-map-range_with_len (sum_signal w) 0 w)

stages_count : (w i n : ℕ) → length (stages w i n) ≡ 2 * n
stages_count w i zero = refl
stages_count w i (suc n) = omega (arith, stages_count w (i + 1) n)

pub demo_tables : (w : ℕ) → table_count (demo_net w) ≡ 2 * w
unfolding demo_net
demo_tables w = stages_count w 0 w

-- what holds of each stage's tables at their places holds of every table at its place
each_from : (w : ℕ) (P : ℕ → TableValue → Type 0) (i n : ℕ) → ((k : ℕ) → k < i + n → P (2 * k) (sum_table w k)) → ((k : ℕ) → k < i + n → P (2 * k + 1) (carry_table w k)) → (t : ℕ) → t < 2 * n
    → P (2 * i + t) (table_at (stages w i n) t)
each_from w P i zero sum carry t within = absurd (omega arith)
each_from w P i (suc n) sum carry zero within = let place : 2 * i ≡ 2 * i + 0 = omega arith in subst (λ p. P p (sum_table w i)) place (sum i (omega arith))
each_from w P i (suc n) sum carry (suc zero) within = carry i (omega arith)
each_from w P i (suc n) sum carry (suc (suc t)) within =
    let place : 2 * (i + 1) + t ≡ 2 * i + suc (suc t) = omega arith in
    subst (λ p. P p (table_at (stages w (i + 1) n) t)) place
    (each_from w P (i + 1) n (λ k low. sum k (omega arith)) (λ k low. carry k (omega arith)) t (omega arith))

pub each_table : (w : ℕ) (P : ℕ → TableValue → Type 0) → ((k : ℕ) → k < w → P (2 * k) (sum_table w k)) → ((k : ℕ) → k < w → P (2 * k + 1) (carry_table w k)) → (t : ℕ) → t < table_count (demo_net w)
    → P t (table_at (demo_net w).tables t)
unfolding demo_net
each_table w P sum carry t within =
    let place : 2 * 0 + t ≡ t = omega arith in
    subst (λ p. P p (table_at (stages w 0 w) t)) place
    (each_from w P 0 w (λ k low. sum k (omega arith)) (λ k low. carry k (omega arith)) t (omega (arith, within, stages_count w 0 w)))

pub sum_table_at : (w k : ℕ) → k < w → table_at (demo_net w).tables (2 * k) ≡ sum_table w k
sum_table_at w k within =
    each_table w (λ t u. (j : ℕ) → t ≡ 2 * j → u ≡ sum_table w j)
    (λ i low j e. let same : i ≡ j = omega (arith, e) in ap (sum_table w) same)
    (λ i low j e. absurd (omega (arith, e)))
    (2 * k) (omega (arith, within, demo_tables w)) k refl

pub carry_table_at : (w k : ℕ) → k < w → table_at (demo_net w).tables (2 * k + 1) ≡ carry_table w k
carry_table_at w k within =
    each_table w (λ t u. (j : ℕ) → t ≡ 2 * j + 1 → u ≡ carry_table w j)
    (λ i low j e. absurd (omega (arith, e)))
    (λ i low j e. let same : i ≡ j = omega (arith, e) in ap (carry_table w) same)
    (2 * k + 1) (omega (arith, within, demo_tables w)) k refl

-- the literals of full adders
full_literals : (w i n : ℕ) → sum_by table_literals (stages w (suc i) n) ≡ 18 * n
full_literals w i zero = refl
full_literals w i (suc n) =
    let rest : sum_by table_literals (stages w (suc i + 1) n) ≡ 18 * n = rw add-one (full_literals w (suc i) n) in
    omega (
      arith,
      sum_by-cons table_literals (sum_table w (suc i)) (carry_table w (suc i) ∷ stages w (suc i + 1) n),
      sum_by-cons table_literals (carry_table w (suc i)) (stages w (suc i + 1) n),
      rest,
    )

pub demo_literals : (w : ℕ) → 1 ≤ w → literal_count (demo_net w) ≡ 6 + 18 * (w - 1)
unfolding demo_net
demo_literals zero some = absurd (omega arith)
demo_literals (suc n) some =
    omega (
      arith,
      sum_by-cons table_literals (sum_table (suc n) 0) (carry_table (suc n) 0 ∷ stages (suc n) 1 n),
      sum_by-cons table_literals (carry_table (suc n) 0) (stages (suc n) 1 n),
      full_literals (suc n) 0 n,
    )
