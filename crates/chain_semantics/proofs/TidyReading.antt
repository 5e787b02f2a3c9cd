-- Which signals are read, and how many.
use Rattle.std.proofs.Common.{◌≡◌, ℕ, zero, suc, ◌+◌, ◌<◌, ◌≤◌, Bool, true, false, eqb, List, length, get_or, refl, ap, sym, subst, ◌∙◌, inl, inr, arith}
use Rattle.std.specs.Prelude.{Contains}
use Rattle.std.proofs.lemmas.Bool.{eqb-true, eq-eqb, both_ways, cases_lt}
use Rattle.std.proofs.lemmas.List.{get_or_read}
use Rattle.std.proofs.lemmas.List.Folds.{Any-from_list_any, list_any_at}
use Rattle.std.proofs.lemmas.Map.Views.{Contains-from_any}
use Rattle.semantics.specs.Net.{TableValue, no_table, table_at}
use Rattle.chain_semantics.specs.TidyRules.{has, is_read}
use Rattle.chain_semantics.proofs.TidyMeasure.{one_if, count_below}

pub has-Contains : (xs : List ℕ) (s : ℕ) → has xs s ≡ true → Contains xs s
has-Contains xs s e = Contains-from_any eqb-true s xs e

pub Contains-has : (xs : List ℕ) (s : ℕ) → Contains xs s → has xs s ≡ true
Contains-has xs s c = list_any_at (eqb s) xs c.0 s c.1 (eq-eqb s (get_or xs c.0 s) (sym c.2))

pub has_not : (xs : List ℕ) (s : ℕ) → has xs s ≡ false → ¬ Contains xs s
has_not xs s e c = both_ways (has xs s) e (Contains-has xs s c)

-- some table reads the signal
pub record IsReadBy (tables : List TableValue) (s : ℕ) : Type 0 where
  pub place : ℕ
  pub within : place < length tables
  pub pin : Contains (table_at tables place).pins s

pub read-by : (tables : List TableValue) (s : ℕ) → is_read tables s ≡ true → IsReadBy tables s
read-by tables s e =
    let some = Any-from_list_any (λ t. has t.pins s) tables e in
    let same : some.1 ≡ get_or tables some.0 no_table = get_or_read tables some.0 some.1 some.2 (sym some.3) no_table in
    record { place = some.0; within = some.2; pin = subst (λ t. Contains t.pins s) same (has-Contains some.1.pins s some.4) }

pub by-read : (tables : List TableValue) (s : ℕ) → IsReadBy tables s → is_read tables s ≡ true
by-read tables s r = list_any_at (λ t. has t.pins s) tables r.place no_table r.within (Contains-has (table_at tables r.place).pins s r.pin)

pub unread : (tables : List TableValue) (s : ℕ) → is_read tables s ≡ false → (i : ℕ) → i < length tables → ¬ Contains (table_at tables i).pins s
unread tables s e i within c = both_ways (is_read tables s) e (by-read tables s (record { place = i; within = within; pin = c }))

bit_le : (a b : Bool) → (a ≡ true → b ≡ true) → one_if a ≤ one_if b
bit_le true b f = let yes : one_if b ≡ 1 = ap one_if (f refl) in omega arith
bit_le false b f = omega arith

pub count_below-le : (p q : ℕ → Bool) (bound : ℕ) → ((s : ℕ) → s < bound → p s ≡ true → q s ≡ true) → count_below p bound ≤ count_below q bound
count_below-le p q zero f = omega arith
count_below-le p q (suc bound) f =
    omega (arith, bit_le (p bound) (q bound) (f bound (omega arith)), count_below-le p q bound (λ s h. f s (omega arith)))

-- one number that passed passes no more
pub count_below-lt : (p q : ℕ → Bool) (bound : ℕ) → ((s : ℕ) → s < bound → p s ≡ true → q s ≡ true) → (s : ℕ) → s < bound → p s ≡ false → q s ≡ true → count_below p bound < count_below q bound
count_below-lt p q zero f s h off on = absurd (omega arith)
count_below-lt p q (suc bound) f s h off on =
    elim (cases_lt s bound) [
      | inl low ↦
          omega (arith, bit_le (p bound) (q bound) (f bound (omega arith)), count_below-lt p q bound (λ i below. f i (omega arith)) s low off on)
      | inr last ↦
          let at : s ≡ bound = omega arith in
          let gone : one_if (p bound) ≡ 0 = ap one_if (ap p (sym at) ∙ off) in
          let had : one_if (q bound) ≡ 1 = ap one_if (ap q (sym at) ∙ on) in
          omega (arith, count_below-le p q bound (λ i below. f i (omega arith)))
    ]

-- one number left out
pub count_below-without : (p q : ℕ → Bool) (gone bound : ℕ)
    → ((s : ℕ) → s < gone → p s ≡ true → q s ≡ true) → ((s : ℕ) → gone ≤ s → p s ≡ true → q (s + 1) ≡ true)
    → count_below p bound ≤ count_below q (suc bound)
count_below-without p q gone zero low high = omega arith
count_below-without p q gone (suc bound) low high =
    elim (cases_lt bound gone) [
      | inl below ↦ omega (arith, count_below-le p q (suc bound) (λ s h. low s (omega arith)))
      | inr above ↦
          let next : bound + 1 ≡ suc bound = omega arith in
          let here : p bound ≡ true → q (suc bound) ≡ true = λ e. ap q (sym next) ∙ high bound above e in
          omega (arith, bit_le (p bound) (q (suc bound)) here, count_below-without p q gone bound low high)
    ]
