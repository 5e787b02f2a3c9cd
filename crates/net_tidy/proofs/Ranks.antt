-- Places that stay, once others have gone.
use Rattle.std.proofs.Common.{◌≡◌, ℕ, zero, suc, ◌+◌, ◌<◌, ◌≤◌, Bool, true, false, cond, List, [], ◌∷◌, ◌++◌, map, length, get_or, set, take, replicate, refl, ap, sym, ◌∙◌, inl, inr, arith}
use Rattle.std.specs.Prelude.{◌⊎◌}
use Rattle.std.specs.List.{remove}
use Rattle.std.proofs.lemmas.Bool.{cases_lt, lt-ltb, le-ltb, false≢true}
use Rattle.std.proofs.lemmas.List.{get_or_at, get_or_append_left, get_or_default, take_more, take_all, length-take-le}
use Rattle.semantics.specs.Renamed.{raised}
use Rattle.net_tidy.specs.Places.{kept, rank, signals_gone, Stays, number_at}

-- the place of the k-th that stays
abbrev pub place : List Bool → ℕ → ℕ
place [] k = k
place (true ∷ gone) k = suc (place gone k)
place (false ∷ gone) zero = 0
place (false ∷ gone) (suc k) = suc (place gone k)

rank_zero : (gone : List Bool) → rank gone 0 ≡ 0
rank_zero [] = refl
rank_zero (g ∷ gone) = refl

pub rank_place : (gone : List Bool) (k : ℕ) → rank gone (place gone k) ≡ k
rank_place [] k = refl
rank_place (true ∷ gone) k = rank_place gone k
rank_place (false ∷ gone) zero = refl
rank_place (false ∷ gone) (suc k) = ap suc (rank_place gone k)

pub place_distinct : (gone : List Bool) (a b : ℕ) → place gone a ≡ place gone b → a ≡ b
place_distinct gone a b e = sym (rank_place gone a) ∙ ap (rank gone) e ∙ rank_place gone b

pub place_less : (gone : List Bool) (a b : ℕ) → a < b → place gone a < place gone b
place_less [] a b h = h
place_less (true ∷ gone) a b h = let rest = place_less gone a b h in omega (arith, rest)
place_less (false ∷ gone) zero zero h = absurd (omega arith)
place_less (false ∷ gone) zero (suc b) h = omega arith
place_less (false ∷ gone) (suc a) zero h = absurd (omega arith)
place_less (false ∷ gone) (suc a) (suc b) h = let rest = place_less gone a b (omega arith) in omega (arith, rest)

pub place_rank : (gone : List Bool) (i : ℕ) → i < length gone → Stays gone i → place gone (rank gone i) ≡ i
place_rank [] i h s = absurd (omega arith)
place_rank (true ∷ gone) zero h s = absurd (false≢true (sym s))
place_rank (false ∷ gone) zero h s = refl
place_rank (true ∷ gone) (suc i) h s = ap suc (place_rank gone i (omega arith) s)
place_rank (false ∷ gone) (suc i) h s = ap suc (place_rank gone i (omega arith) s)

module _ {X : Type 0} where
  -- what stands at the k-th that stays
  pub record StandsIn (gone : List Bool) (xs : List X) (k : ℕ) (d : X) : Type 0 where
    pub within : place gone k < length xs
    pub stays : Stays gone (place gone k)
    pub is : get_or (kept gone xs) k d ≡ get_or xs (place gone k) d

  pub stands_in : (gone : List Bool) (xs : List X) (k : ℕ) (d : X) → length gone ≡ length xs → k < length (kept gone xs) → StandsIn gone xs k d
  stands_in [] [] k d same h = absurd (omega arith)
  stands_in [] (x ∷ xs) k d same h = absurd (omega (arith, same))
  stands_in (g ∷ gone) [] k d same h = absurd (omega (arith, same))
  stands_in (true ∷ gone) (x ∷ xs) k d same h =
      let rest = stands_in gone xs k d (omega (arith, same)) h in
      record { within = let low = rest.within in omega (arith, low); stays = rest.stays; is = rest.is }
  stands_in (false ∷ gone) (x ∷ xs) zero d same h = record { within = omega arith; stays = refl; is = refl }
  stands_in (false ∷ gone) (x ∷ xs) (suc k) d same h =
      let rest = stands_in gone xs k d (omega (arith, same)) (omega (arith, h)) in
      record { within = let low = rest.within in omega (arith, low); stays = rest.stays; is = rest.is }

  pub rank_within : (gone : List Bool) (xs : List X) (i : ℕ) → length gone ≡ length xs → i < length xs → Stays gone i → rank gone i < length (kept gone xs)
  rank_within [] [] i same h s = absurd (omega arith)
  rank_within [] (x ∷ xs) i same h s = absurd (omega (arith, same))
  rank_within (g ∷ gone) [] i same h s = absurd (omega arith)
  rank_within (true ∷ gone) (x ∷ xs) zero same h s = absurd (false≢true (sym s))
  rank_within (false ∷ gone) (x ∷ xs) zero same h s = omega arith
  rank_within (true ∷ gone) (x ∷ xs) (suc i) same h s = rank_within gone xs i (omega (arith, same)) (omega arith) s
  rank_within (false ∷ gone) (x ∷ xs) (suc i) same h s = let rest = rank_within gone xs i (omega (arith, same)) (omega arith) s in omega (arith, rest)

  pub kept_set : (gone : List Bool) (xs : List X) (i : ℕ) (y : X) → i < length gone → Stays gone i → kept gone (set xs i y) ≡ set (kept gone xs) (rank gone i) y
  kept_set [] xs i y h s = absurd (omega arith)
  kept_set (g ∷ gone) [] i y h s = refl
  kept_set (true ∷ gone) (x ∷ xs) zero y h s = absurd (false≢true (sym s))
  kept_set (false ∷ gone) (x ∷ xs) zero y h s = refl
  kept_set (true ∷ gone) (x ∷ xs) (suc i) y h s = kept_set gone xs i y (omega arith) s
  kept_set (false ∷ gone) (x ∷ xs) (suc i) y h s = ap (λ l. x ∷ l) (kept_set gone xs i y (omega arith) s)

  pub kept_gone : (gone : List Bool) (xs : List X) (i : ℕ) → length gone ≡ length xs → i < length gone → Stays gone i → kept (set gone i true) xs ≡ remove (kept gone xs) (rank gone i)
  kept_gone [] xs i same h s = absurd (omega arith)
  kept_gone (g ∷ gone) [] i same h s = absurd (omega (arith, same))
  kept_gone (true ∷ gone) (x ∷ xs) zero same h s = absurd (false≢true (sym s))
  kept_gone (false ∷ gone) (x ∷ xs) zero same h s = refl
  kept_gone (true ∷ gone) (x ∷ xs) (suc i) same h s = kept_gone gone xs i (omega (arith, same)) (omega arith) s
  kept_gone (false ∷ gone) (x ∷ xs) (suc i) same h s = ap (λ l. x ∷ l) (kept_gone gone xs i (omega (arith, same)) (omega arith) s)

  pub kept_none : (n : ℕ) (xs : List X) → kept (replicate n false) xs ≡ xs
  kept_none zero xs = refl
  kept_none (suc n) [] = refl
  kept_none (suc n) (x ∷ xs) = ap (λ l. x ∷ l) (kept_none n xs)

pub kept_map : {X Y : Type 0} (f : X → Y) (gone : List Bool) (xs : List X) → kept gone (map f xs) ≡ map f (kept gone xs)
kept_map f [] xs = refl
kept_map f (g ∷ gone) [] = refl
kept_map f (true ∷ gone) (x ∷ xs) = kept_map f gone xs
kept_map f (false ∷ gone) (x ∷ xs) = ap (λ l. f x ∷ l) (kept_map f gone xs)

suc_raised : (g k : ℕ) → suc (raised g k) ≡ raised (suc g) (suc k)
suc_raised g k =
    elim (cases_lt k g) [
      | inl low ↦ ap suc (ap (λ b. cond b k (k + 1)) (lt-ltb k g low)) ∙ sym (ap (λ b. cond b (suc k) (suc k + 1)) (lt-ltb (suc k) (suc g) (omega arith)))
      | inr high ↦ ap suc (ap (λ b. cond b k (k + 1)) (le-ltb k g high)) ∙ (let on : suc (k + 1) ≡ suc k + 1 = omega arith in on) ∙ sym
          (ap (λ b. cond b (suc k) (suc k + 1)) (le-ltb (suc k) (suc g) (omega arith)))
    ]

-- one more has gone
pub place_gone : (gone : List Bool) (i k : ℕ) → i < length gone → Stays gone i → place (set gone i true) k ≡ place gone (raised (rank gone i) k)
place_gone [] i k h s = absurd (omega arith)
place_gone (true ∷ gone) zero k h s = absurd (false≢true (sym s))
place_gone (false ∷ gone) zero k h s =
    let up : raised 0 k ≡ suc k = ap (λ b. cond b k (k + 1)) (le-ltb k 0 (omega arith)) ∙ omega arith in
    ap (place (false ∷ gone)) (sym up)
place_gone (true ∷ gone) (suc i) k h s = ap suc (place_gone gone i k (omega arith) s)
place_gone (false ∷ gone) (suc i) zero h s = ap (place (false ∷ gone)) (sym (ap (λ b. cond b 0 1) (lt-ltb 0 (suc (rank gone i)) (omega arith))))
place_gone (false ∷ gone) (suc i) (suc k) h s = ap suc (place_gone gone i k (omega arith) s) ∙ ap (place (false ∷ gone)) (suc_raised (rank gone i) k)

-- ---- over n inputs
pub place_input : (n : ℕ) (gone : List Bool) (s : ℕ) → s < n → place (signals_gone n gone) s ≡ s
place_input zero gone s h = absurd (omega arith)
place_input (suc n) gone zero h = refl
place_input (suc n) gone (suc s) h = ap suc (place_input n gone s (omega arith))

pub place_table : (n : ℕ) (gone : List Bool) (k : ℕ) → place (signals_gone n gone) (n + k) ≡ n + place gone k
place_table zero gone k =
    let one : 0 + k ≡ k = omega arith in
    let two : place gone k ≡ 0 + place gone k = omega arith in
    ap (place gone) one ∙ two
place_table (suc n) gone k =
    let one : suc n + k ≡ suc (n + k) = omega arith in
    let two : suc (n + place gone k) ≡ suc n + place gone k = omega arith in
    ap (place (signals_gone (suc n) gone)) one ∙ ap suc (place_table n gone k) ∙ two

pub rank_input : (n : ℕ) (gone : List Bool) (s : ℕ) → s < n → rank (signals_gone n gone) s ≡ s
rank_input zero gone s h = absurd (omega arith)
rank_input (suc n) gone zero h = refl
rank_input (suc n) gone (suc s) h = ap suc (rank_input n gone s (omega arith))

pub rank_table : (n : ℕ) (gone : List Bool) (i : ℕ) → rank (signals_gone n gone) (n + i) ≡ n + rank gone i
rank_table zero gone i =
    let one : 0 + i ≡ i = omega arith in
    let two : rank gone i ≡ 0 + rank gone i = omega arith in
    ap (rank gone) one ∙ two
rank_table (suc n) gone i =
    let one : suc n + i ≡ suc (n + i) = omega arith in
    let two : suc (n + rank gone i) ≡ suc n + rank gone i = omega arith in
    ap (rank (signals_gone (suc n) gone)) one ∙ ap suc (rank_table n gone i) ∙ two

pub signals_gone_set : (n : ℕ) (gone : List Bool) (i : ℕ) → signals_gone n (set gone i true) ≡ set (signals_gone n gone) (n + i) true
signals_gone_set zero gone i = let one : i ≡ 0 + i = omega arith in ap (λ k. set gone k true) one
signals_gone_set (suc n) gone i =
    let one : suc (n + i) ≡ suc n + i = omega arith in
    ap (λ l. false ∷ l) (signals_gone_set n gone i) ∙ ap (λ k. set (signals_gone (suc n) gone) k true) one

pub stays_table : (n : ℕ) (gone : List Bool) (i : ℕ) → Stays gone i → Stays (signals_gone n gone) (n + i)
stays_table zero gone i s = let one : 0 + i ≡ i = omega arith in ap (λ k. get_or gone k true) one ∙ s
stays_table (suc n) gone i s =
    let one : suc n + i ≡ suc (n + i) = omega arith in
    ap (λ k. get_or (signals_gone (suc n) gone) k true) one ∙ stays_table n gone i s

pub length_signals : (n : ℕ) (gone : List Bool) → length (signals_gone n gone) ≡ n + length gone
length_signals zero gone = omega arith
length_signals (suc n) gone = let rest = length_signals n gone in omega (arith, rest)

pub rank_none : (n s : ℕ) → rank (replicate n false) s ≡ s
rank_none zero s = refl
rank_none (suc n) zero = refl
rank_none (suc n) (suc s) = ap suc (rank_none n s)

-- ---- the numbers one after another
suc_cond : (b : Bool) (r : ℕ) → suc (cond b r (suc r)) ≡ cond b (suc r) (suc (suc r))
suc_cond true r = refl
suc_cond false r = refl

pub rank_next : (gone : List Bool) (i : ℕ) → i < length gone → rank gone (suc i) ≡ cond (get_or gone i true) (rank gone i) (suc (rank gone i))
rank_next [] i h = absurd (omega arith)
rank_next (true ∷ gone) zero h = rank_zero gone
rank_next (false ∷ gone) zero h = ap suc (rank_zero gone)
rank_next (true ∷ gone) (suc i) h = rank_next gone i (omega arith)
rank_next (false ∷ gone) (suc i) h = ap suc (rank_next gone i (omega arith)) ∙ suc_cond (get_or gone i true) (rank gone i)

pub rank_at : (n : ℕ) (gone : List Bool) → rank (signals_gone n gone) (n + 0) ≡ n + 0
rank_at n gone = rank_table n gone 0 ∙ ap (λ k. n + k) (rank_zero gone)

pub rank_stays : (n : ℕ) (gone : List Bool) (i : ℕ) → i < length gone → get_or gone i true ≡ false → rank (signals_gone n gone) (n + (i + 1)) ≡ rank (signals_gone n gone) (n + i) + 1
rank_stays n gone i h e =
    let next : i + 1 ≡ suc i = omega arith in
    let one = rank_table n gone (suc i) in
    let two = rank_table n gone i in
    let step : rank gone (suc i) ≡ suc (rank gone i) = rank_next gone i h ∙ ap (λ b. cond b (rank gone i) (suc (rank gone i))) e in
    ap (λ k. rank (signals_gone n gone) (n + k)) next ∙ omega (arith, one, two, step)

pub rank_goes : (n : ℕ) (gone : List Bool) (i : ℕ) → i < length gone → get_or gone i true ≡ true → rank (signals_gone n gone) (n + (i + 1)) ≡ rank (signals_gone n gone) (n + i)
rank_goes n gone i h e =
    let next : i + 1 ≡ suc i = omega arith in
    let one = rank_table n gone (suc i) in
    let two = rank_table n gone i in
    let step : rank gone (suc i) ≡ rank gone i = rank_next gone i h ∙ ap (λ b. cond b (rank gone i) (suc (rank gone i))) e in
    ap (λ k. rank (signals_gone n gone) (n + k)) next ∙ omega (arith, one, two, step)

-- one more number
pub number_last : (xs : List ℕ) (s k y : ℕ) → length xs ≡ k → s < k + 1 → ((s < k) → number_at xs s ≡ number_at (xs ++ y ∷ []) s) × (s ≡ k → number_at (xs ++ y ∷ []) s ≡ y)
number_last xs s k y long low = (
  λ below. sym (get_or_append_left xs (y ∷ []) 0 s (omega (arith, long, below))),
  λ same. ap (number_at (xs ++ y ∷ [])) same ∙ get_or_at xs y [] 0 k long,
)

pub numbers_more : (n i next after : ℕ) (gone : List Bool) (numbers new : List ℕ) (g : Bool) → i < length gone → length numbers ≡ n + i → new ≡ numbers ++ next ∷ []
    → next ≡ rank (signals_gone n gone) (n + i) → ((s : ℕ) → s < n + i → number_at numbers s ≡ rank (signals_gone n gone) s)
    → (s : ℕ) → s < n + (i + 1) → number_at new s ≡ rank (signals_gone n gone) s
numbers_more n i next after gone numbers new g low count is at before s below =
    elim (cases_lt s (n + i)) [
      | inl less ↦ ap (λ l. number_at l s) is ∙ sym ((number_last numbers s (n + i) next count (omega (arith, less))).0 less) ∙ before s less
      | inr more ↦
          let same : s ≡ n + i = omega (arith, more, below) in
          ap (λ l. number_at l s) is ∙ (number_last numbers s (n + i) next count (omega (arith, same))).1 same ∙ at ∙ ap (rank (signals_gone n gone)) (sym same)
    ]

pub next_number : (n i next after : ℕ) (gone : List Bool) → i < length gone → next ≡ rank (signals_gone n gone) (n + i) → next ≤ n + i
    → ((get_or gone i true ≡ false) × (after ≡ next + 1)) ⊎ ((get_or gone i true ≡ true) × (after ≡ next))
    → (after ≡ rank (signals_gone n gone) (n + (i + 1))) × (after ≤ n + (i + 1))
next_number n i next after gone low at small (inl stays) = (
  stays.1 ∙ ap (λ k. k + 1) at ∙ sym (rank_stays n gone i low stays.0),
  omega (arith, small, stays.1),
)
next_number n i next after gone low at small (inr goes) = (goes.1 ∙ at ∙ sym (rank_goes n gone i low goes.0), omega (arith, small, goes.1))

pub number_by : (n i next after : ℕ) (g d : Bool) (gone : List Bool) → i < length gone → next ≡ rank (signals_gone n gone) (n + i) → next ≤ n + i → g ≡ get_or gone i d
    → after ≡ cond g next (next + 1) → (after ≡ rank (signals_gone n gone) (n + (i + 1))) × (after ≤ n + (i + 1))
number_by n i next after true d gone low at small is made = next_number n i next after gone low at small (inr (get_or_default gone i true d low ∙ sym is, made))
number_by n i next after false d gone low at small is made = next_number n i next after gone low at small (inl (get_or_default gone i true d low ∙ sym is, made))

kept_append : {X : Type 0} (gone : List Bool) (xs : List X) (g : Bool) (x : X) → length gone ≡ length xs → kept (gone ++ g ∷ []) (xs ++ x ∷ []) ≡ kept gone xs ++ kept (g ∷ []) (x ∷ [])
kept_append [] [] g x same = refl
kept_append [] (y ∷ xs) g x same = absurd (omega (arith, same))
kept_append (h ∷ gone) [] g x same = absurd (omega (arith, same))
kept_append (true ∷ gone) (y ∷ xs) g x same = kept_append gone xs g x (omega (arith, same))
kept_append (false ∷ gone) (y ∷ xs) g x same = ap (λ l. y ∷ l) (kept_append gone xs g x (omega (arith, same)))

pub kept_more : {X : Type 0} (gone : List Bool) (xs list new : List X) (i : ℕ) (g d : Bool) (x : X) → length gone ≡ length xs → i < length xs → x ≡ get_or xs i x → g ≡ get_or gone i d
    → list ≡ kept (take i gone) (take i xs) → new ≡ list ++ kept (g ∷ []) (x ∷ []) → new ≡ kept (take (i + 1) gone) (take (i + 1) xs)
kept_more gone xs list new i g d x same low at goes before made =
    let front : length (take i gone) ≡ length (take i xs) = length-take-le i gone (omega (arith, low, same)) ∙ sym (length-take-le i xs (omega (arith, low))) in
    let one : take (i + 1) xs ≡ take i xs ++ x ∷ [] = take_more xs i x low ∙ ap (λ y. take i xs ++ y ∷ []) (sym at) in
    let two : take (i + 1) gone ≡ take i gone ++ g ∷ [] = take_more gone i d (omega (arith, low, same)) ∙ ap (λ y. take i gone ++ y ∷ []) (sym goes) in
    made ∙ ap (λ l. l ++ kept (g ∷ []) (x ∷ [])) before ∙ sym (kept_append (take i gone) (take i xs) g x front)
    ∙ ap (λ l. kept l (take i xs ++ x ∷ [])) (sym two) ∙ ap (kept (take (i + 1) gone)) (sym one)

pub kept_full : {X : Type 0} (gone : List Bool) (xs list : List X) (i : ℕ) → length gone ≡ length xs → length xs ≤ i → list ≡ kept (take i gone) (take i xs) → list ≡ kept gone xs
kept_full gone xs list i same high is = is ∙ ap (λ l. kept l (take i xs)) (take_all i gone (omega (arith, high, same))) ∙ ap (kept gone) (take_all i xs high)
