-- Edits of lists in place: a loop that writes f s over each number s, and a slice that is written back.
use Rattle.std.proofs.Common.{◌≡◌, ℕ, ◌+◌, ◌<◌, List, ◌++◌, map, length, get_or, set, take, drop, ◌∙◌, arith}
use Rattle.std.proofs.lemmas.List.{get_or_default, take-append-le, take_all}
use Rattle.std.proofs.lemmas.List.Edits.{map_over_more}

pub map_numbers_more : (f : ℕ → ℕ) (xs ys : List ℕ) (i : ℕ) → i < length xs → length ys ≡ length xs → ys ≡ map f (take i xs) ++ drop i xs
    → set ys i (f (get_or ys i 0)) ≡ map f (take (i + 1) xs) ++ drop (i + 1) xs
map_numbers_more f xs ys i h w e = map_over_more f xs ys i (get_or ys i 0) h e (get_or_default ys i 0 (get_or ys i 0) (omega arith))

pub written_back : {X : Type 0} (n : ℕ) (new old : List X) → length new ≡ n → take n (new ++ drop (length new) old) ≡ new
written_back n new old e = take-append-le n new (drop (length new) old) (omega (arith, e)) ∙ take_all n new (omega (arith, e))
