-- The moves to two signals that are left, one on and at the ends of their rows.
use Rattle.std.proofs.Common.{◌≡◌, ℕ, ◌+◌, ◌<◌, List, [], ◌∷◌, ◌++◌, map, length, get_or, drop, refl, ap, sym, ◌∙◌, arith}
use Rattle.std.specs.List.{flat_map}
use Rattle.std.proofs.lemmas.List.{drop_more, drop_all}
use Rattle.chain_semantics.specs.declared.moves.Move.{Move}
use Rattle.chain_semantics.specs.Moves.{pairs_of, flips_of}
use Rattle.net_moves.specs.Left.{flips_of_pair, pairs_from, pairs_left}

flips-all : (t s u : ℕ) (rest : List Move) → drop 8 (flips_of t s u ++ rest) ≡ rest
flips-all t s u rest = refl

abbrev with_first : ℕ → ℕ → ℕ × ℕ
with_first s u = (s, u)

-- the pair at hand, and the rest of its row
row-more : (near : List ℕ) (i j : ℕ) → j < length near → pairs_from near i j ≡ (get_or near i 0, get_or near j 0) ∷ pairs_from near i (j + 1)
row-more near i j low = ap (λ l. map (with_first (get_or near i 0)) l ++ pairs_of (drop (i + 1) near)) (drop_more near j 0 low)

-- past the end of a row the next row begins
row-end : (near : List ℕ) (i j : ℕ) → j ≡ length near → i + 1 < length near → pairs_from near i j ≡ pairs_from near (i + 1) (i + 1 + 1)
row-end near i j end low =
    let none : drop j near ≡ [] = drop_all j near (omega (arith, end)) in
    ap (λ l. map (with_first (get_or near i 0)) l ++ pairs_of (drop (i + 1) near)) none ∙ ap pairs_of (drop_more near (i + 1) 0 low)

-- one move on
pairs-one : (t : ℕ) (near : List ℕ) (i j k s u : ℕ) (m : Move) → j < length near → s ≡ get_or near i 0 → u ≡ get_or near j 0
    → ((rest : List Move) → drop k (flips_of t s u ++ rest) ≡ m ∷ drop (k + 1) (flips_of t s u ++ rest))
    → pairs_left t near i j k ≡ m ∷ pairs_left t near i j (k + 1)
pairs-one t near i j k s u m low is_first is_second one =
    let rest : List Move = flat_map (flips_of_pair t) (pairs_from near i (j + 1)) in
    let row : flat_map (flips_of_pair t) (pairs_from near i j) ≡ flips_of t s u ++ rest =
    ap (flat_map (flips_of_pair t)) (row-more near i j low)
    ∙ ap (λ n. flips_of t n (get_or near j 0) ++ rest) (sym is_first)
    ∙ ap (λ n. flips_of t s n ++ rest) (sym is_second) in
    ap (drop k) row ∙ one rest ∙ ap (λ l. m ∷ drop (k + 1) l) (sym row)

-- after the last move of a pair the next pair
pairs-next : (t : ℕ) (near : List ℕ) (i j k : ℕ) → j < length near → k ≡ 8 → pairs_left t near i j k ≡ pairs_left t near i (j + 1) 0
pairs-next t near i j k low all =
    let rest : List Move = flat_map (flips_of_pair t) (pairs_from near i (j + 1)) in
    ap (λ n. drop n (flat_map (flips_of_pair t) (pairs_from near i j))) all
    ∙ ap (λ l. drop 8 (flat_map (flips_of_pair t) l)) (row-more near i j low)
    ∙ flips-all t (get_or near i 0) (get_or near j 0) rest

-- and past the end of a row the next row
pub pairs-row : (t : ℕ) (near : List ℕ) (i j k s u : ℕ) (m : Move) → i < j → j + 1 ≡ length near → k + 1 ≡ 8 → s ≡ get_or near i 0 → u ≡ get_or near j 0
    → ((rest : List Move) → drop k (flips_of t s u ++ rest) ≡ m ∷ drop (k + 1) (flips_of t s u ++ rest))
    → pairs_left t near i j k ≡ m ∷ pairs_left t near (i + 1) (i + 1 + 1) 0
pairs-row t near i j k s u m order end all is_first is_second one =
    let low : j < length near = omega (arith, end) in
    pairs-one t near i j k s u m low is_first is_second one
    ∙ ap (λ l. m ∷ l)
    (pairs-next t near i j (k + 1) low all ∙ ap (flat_map (flips_of_pair t)) (row-end near i (j + 1) end (omega (arith, order, end))))
