-- A list copied around an item that is replaced.
use Rattle.std.proofs.Common.{◌≡◌, ℕ, suc, ◌+◌, ◌<◌, List, [], ◌∷◌, ◌++◌, length, take, drop, slice_set, sym, ap, ◌∙◌, append_assoc, arith}
use Rattle.std.proofs.lemmas.List.{set_split, take_all, length-drop}

pub copied_with : {X : Type 0} (xs front copy all : List X) (i n : ℕ) (x : X) → i < length xs → length xs ≡ i + 1 + n → front ≡ take i xs → copy ≡ front ++ x ∷ []
    → all ≡ copy ++ take n (drop (i + 1) xs) → all ≡ slice_set xs i x
copied_with xs front copy all i n x within size before one after =
    let more : take i xs ++ (x ∷ drop (i + 1) xs) ≡ take i xs ++ (x ∷ drop (suc i) xs) = (let next : i + 1 ≡ suc i = omega arith in ap (λ k. take i xs ++ (x ∷ drop k xs)) next) in
    let rest : take n (drop (i + 1) xs) ≡ drop (i + 1) xs = take_all n (drop (i + 1) xs) (omega (arith, length-drop (i + 1) xs)) in
    after ∙ ap (λ l. copy ++ l) rest ∙ ap (λ l. l ++ drop (i + 1) xs) (one ∙ ap (λ l. l ++ x ∷ []) before) ∙ append_assoc (take i xs) (x ∷ []) (drop (i + 1) xs) ∙ more ∙ sym (set_split xs i x within)
