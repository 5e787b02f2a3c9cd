-- The lines that mean something, without their numbers.
use Rattle.std.proofs.Common.{◌≡◌, ℕ, ◌+◌, Bool, true, false, List, [], ◌∷◌, map, refl, ap, ◌∙◌}
use Rattle.std.specs.Prelude.{filter}
use Rattle.std.specs.Borrow.{Bor}
use Rattle.std.specs.List.{enumerate_from}
use Rattle.semantics.specs.Texts.{Bytes}
use Rattle.solve_cnf.specs.Slices.{line_texts}

at_test : {X : Type 0} (p : X → Bool) (n : ℕ) (x : X) (xs : List X) (b : Bool) → p x ≡ b
    → map (λ (e : ℕ × X). e.1) (filter (λ (e : ℕ × X). p e.1) (enumerate_from (n + 1) xs)) ≡ filter p xs
    → map (λ (e : ℕ × X). e.1) (filter (λ (e : ℕ × X). p e.1) (enumerate_from n (x ∷ xs))) ≡ filter p (x ∷ xs)
at_test p n x xs true is rest = rw is (ap (λ l. x ∷ l) rest)
at_test p n x xs false is rest = rw is rest

-- numbers mean nothing to a test that looks at items
pub filter-enumerated : {X : Type 0} (p : X → Bool) (n : ℕ) (xs : List X) → map (λ (e : ℕ × X). e.1) (filter (λ (e : ℕ × X). p e.1) (enumerate_from n xs)) ≡ filter p xs
filter-enumerated p n [] = refl
filter-enumerated p n (x ∷ xs) = at_test p n x xs (p x) refl (filter-enumerated p (n + 1) xs)

numbers_dropped : (lines : List (ℕ × Bor Bytes)) → line_texts lines ≡ map (λ (e : ℕ × Bytes). e.1) (map (λ (l : ℕ × Bor Bytes). (l.0, l.1.now)) lines)
numbers_dropped [] = refl
numbers_dropped (l ∷ lines) = ap (λ ls. l.1.now ∷ ls) (numbers_dropped lines)

-- numbered lines that pass a test, without their numbers
pub without_numbers : (p : Bytes → Bool) (lines : List (ℕ × Bor Bytes)) (all : List Bytes)
    → map (λ (l : ℕ × Bor Bytes). (l.0, l.1.now)) lines ≡ filter (λ (e : ℕ × Bytes). p e.1) (enumerate_from 0 all) → line_texts lines ≡ filter p all
without_numbers p lines all same = numbers_dropped lines ∙ ap (map (λ (e : ℕ × Bytes). e.1)) same ∙ filter-enumerated p 0 all
