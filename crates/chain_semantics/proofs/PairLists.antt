-- Pairs of a list, and the eight moves of a pair: what holds of all of them, that each is there, and their order.
use Rattle.std.proofs.Common.{◌≡◌, ◌≢◌, ◌⊎◌, ℕ, zero, suc, ◌<◌, Bool, true, false, List, [], ◌∷◌, map, length, get_or, All, refl, subst, ◌∙◌, inl, inr, arith}
use Rattle.std.specs.Prelude.{AllPairs}
use Rattle.std.specs.List.{Contains, flat_map}
use Rattle.std.proofs.lemmas.List.{get_or_default}
use Rattle.std.proofs.lemmas.List.Elements.{All-nil, All-append, All-map, All-weaker, Contains-append_left, Contains-append_right}
use Rattle.chain_semantics.specs.declared.moves.Move.{Move}
use Rattle.chain_semantics.specs.declared.moves.Move.TheVariants.{Pair}
use Rattle.chain_semantics.specs.TidyRules.{first_place_of}
use Rattle.chain_semantics.specs.Moves.{pairs_of, plain_and_flipped, flips_of}
use Rattle.chain_semantics.specs.MoveLaws.{AreInOrder}
use Rattle.chain_semantics.proofs.MoveLists.{All-flat_map, Contains-here, Contains-later, Contains-map, Contains-flat_map}
use Rattle.chain_semantics.proofs.OrderedLists.{AllPairs-nil, AllPairs-head, AllPairs-tail, AllPairs-append, AllPairs-map}
use Rattle.chain_semantics.proofs.NearSignals.{place-at}

abbrev with_first : ℕ → ℕ → ℕ × ℕ
with_first s u = (s, u)

pub All-pairs : (R : ℕ → ℕ → Type 0) (xs : List ℕ) → AllPairs R xs → All (λ (p : ℕ × ℕ). R p.0 p.1) (pairs_of xs)
All-pairs R [] h = All-nil (λ (p : ℕ × ℕ). R p.0 p.1)
All-pairs R (x ∷ xs) h =
    let P : ℕ × ℕ → Type 0 = λ p. R p.0 p.1 in
    All-append P (map (with_first x) xs) (pairs_of xs) (All-map P (with_first x) xs (AllPairs-head R x xs h)) (All-pairs R xs (AllPairs-tail R x xs h))

All-firsts : (P : ℕ → Type 0) (xs : List ℕ) → All P xs → All (λ (p : ℕ × ℕ). P p.0) (pairs_of xs)
All-firsts P xs h = All-pairs (λ s u. P s) xs (λ i j d before low. h i d (omega arith))

pub Contains-pairs : (xs : List ℕ) (s u i j : ℕ) → i < j → j < length xs → get_or xs i 0 ≡ s → get_or xs j 0 ≡ u → Contains (pairs_of xs) (s, u)
Contains-pairs [] s u i j before low first second = absurd (omega arith)
Contains-pairs (x ∷ xs) s u i zero before low first second = absurd (omega arith)
Contains-pairs (x ∷ xs) s u zero (suc j) before low first second =
    let there : Contains xs u = (j, omega arith, get_or_default xs j u 0 (omega arith) ∙ second) in
    Contains-append_left (map (with_first x) xs) (pairs_of xs) (s, u)
    (subst (λ w. Contains (map (with_first x) xs) (with_first w u)) first (Contains-map (with_first x) xs u there))
Contains-pairs (x ∷ xs) s u (suc i) (suc j) before low first second =
    Contains-append_right (map (with_first x) xs) (pairs_of xs) (s, u) (Contains-pairs xs s u i j (omega arith) (omega arith) first second)

pub in_order-itself : (xs : List ℕ) → AllPairs (AreInOrder xs) xs
in_order-itself xs i j d before low = record {
  first = i;
  second = j;
  order = before;
  within = low;
  is_first = get_or_default xs i 0 d (omega (arith, before, low));
  is_second = get_or_default xs j 0 d low;
}

-- by the place of the first, and then by that of the second
abbrev pub PairBefore : (ℕ → ℕ) → ℕ × ℕ → ℕ × ℕ → Type 0
PairBefore place p q = (place p.0 < place q.0) ⊎ ((place p.0 ≡ place q.0) × (place p.1 < place q.1))

pairs-ordered : (place : ℕ → ℕ) (xs : List ℕ) → AllPairs (λ s u. place s < place u) xs → AllPairs (PairBefore place) (pairs_of xs)
pairs-ordered place [] h = AllPairs-nil (PairBefore place)
pairs-ordered place (x ∷ xs) h =
    let R : ℕ → ℕ → Type 0 = λ s u. place s < place u in
    AllPairs-append (PairBefore place) (map (with_first x) xs) (pairs_of xs)
    (AllPairs-map R (PairBefore place) (with_first x) (λ a b less. inr (refl, less)) xs (AllPairs-tail R x xs h))
    (pairs-ordered place xs (AllPairs-tail R x xs h))
    (All-map (λ p. All (PairBefore place p) (pairs_of xs)) (with_first x) xs
    (λ i d low. All-weaker (λ (q : ℕ × ℕ). place x < place q.0) (PairBefore place (with_first x (get_or xs i d))) (λ q less. inl less) (pairs_of xs)
    (All-firsts (R x) xs (AllPairs-head R x xs h))))

-- the pairs of a list without a number twice, by the places in it
pub pairs-in_order : (xs : List ℕ) → AllPairs ◌≢◌ xs → AllPairs (PairBefore (first_place_of xs)) (pairs_of xs)
pairs-in_order xs apart =
    pairs-ordered (first_place_of xs) xs
    (λ i j d before low. omega (arith, place-at xs i d apart (omega (arith, before, low)), place-at xs j d apart low, before))

-- ---- the eight moves of a pair

All-both : (P : Bool → Type 0) → ((b : Bool) → P b) → All P plain_and_flipped
All-both P f k d low = f (get_or plain_and_flipped k d)

pub All-flips : (P : Move → Type 0) (t s u : ℕ) → ((a b c : Bool) → P (Pair t s a u b c)) → All P (flips_of t s u)
All-flips P t s u f =
    All-flat_map P (λ a. flat_map (λ b. map (Pair t s a u b) plain_and_flipped) plain_and_flipped) plain_and_flipped
    (All-both (λ a. All P (flat_map (λ b. map (Pair t s a u b) plain_and_flipped) plain_and_flipped))
    (λ a. All-flat_map P (λ b. map (Pair t s a u b) plain_and_flipped) plain_and_flipped
    (All-both (λ b. All P (map (Pair t s a u b) plain_and_flipped))
    (λ b. All-map P (Pair t s a u b) plain_and_flipped (All-both (λ c. P (Pair t s a u b c)) (f a b))))))

Contains-both : (b : Bool) → Contains plain_and_flipped b
Contains-both false = Contains-here false (true ∷ [])
Contains-both true = Contains-later false (true ∷ []) true (Contains-here true [])

pub Contains-flips : (t s u : ℕ) (a b c : Bool) → Contains (flips_of t s u) (Pair t s a u b c)
Contains-flips t s u a b c =
    let inner : Contains (map (Pair t s a u b) plain_and_flipped) (Pair t s a u b c) = Contains-map (Pair t s a u b) plain_and_flipped c (Contains-both c) in
    let middle : Contains (flat_map (λ b. map (Pair t s a u b) plain_and_flipped) plain_and_flipped) (Pair t s a u b c) =
    Contains-flat_map (λ b. map (Pair t s a u b) plain_and_flipped) plain_and_flipped b (Pair t s a u b c) (Contains-both b) inner in
    Contains-flat_map (λ a. flat_map (λ b. map (Pair t s a u b) plain_and_flipped) plain_and_flipped) plain_and_flipped a (Pair t s a u b c)
    (Contains-both a) middle
