-- Marks that are turned one after another.
use Rattle.std.proofs.Common.{◌≡◌, ℕ, zero, suc, ◌+◌, ◌<◌, ◌≤◌, cond, eqb, List, [], ◌∷◌, ◌++◌, length, get_or, set, take, drop, refl, ap, ◌∙◌, arith}
use Rattle.semantics.specs.declared.mark.Mark.{Mark}
use Rattle.semantics.specs.declared.mark.Mark.TheVariants.{Zero}
use Rattle.chain_semantics.specs.TidyRules.{opposite, with_marks_turned}

-- the first i marks are turned, and the marks behind them are as they were
abbrev pub turned_to : ℕ → ℕ → List ℕ → List Mark → List Mark
turned_to i s pins marks = take i (with_marks_turned s pins marks) ++ drop i marks

-- one more mark is turned
pub turned_more : (i s : ℕ) (pins : List ℕ) (marks now : List Mark) (m : Mark) → i < length pins → length marks ≡ length pins → now ≡ turned_to i s pins marks
    → m ≡ get_or now i Zero → set now i (cond (eqb (get_or pins i 0) s) (opposite m) m) ≡ turned_to (suc i) s pins marks
turned_more i s [] marks now m h w e at = absurd (omega arith)
turned_more i s (p ∷ pins) [] now m h w e at = absurd (omega arith)
turned_more zero s (p ∷ pins) (k ∷ marks) now m h w e at =
    let is : m ≡ k = at ∙ ap (λ list. get_or list 0 Zero) e in
    let turned : cond (eqb p s) (opposite m) m ≡ cond (eqb p s) (opposite k) k = ap (λ j. cond (eqb p s) (opposite j) j) is in
    ap (λ list. set list 0 (cond (eqb p s) (opposite m) m)) e ∙ ap (λ j. j ∷ marks) turned
turned_more (suc i) s (p ∷ pins) (k ∷ marks) now m h w e at =
    let rest : set (turned_to i s pins marks) i (cond (eqb (get_or pins i 0) s) (opposite m) m) ≡ turned_to (suc i) s pins marks =
    turned_more i s pins marks (turned_to i s pins marks) m (omega arith) (omega arith) refl (at ∙ ap (λ list. get_or list (suc i) Zero) e) in
    ap (λ list. set list (suc i) (cond (eqb (get_or pins i 0) s) (opposite m) m)) e ∙ ap (λ list. cond (eqb p s) (opposite k) k ∷ list) rest

pub turned_next : (i s : ℕ) (pins : List ℕ) (marks now : List Mark) (m : Mark) → i < length pins → length marks ≡ length pins → now ≡ turned_to i s pins marks
    → m ≡ get_or now i Zero → set now i (cond (eqb (get_or pins i 0) s) (opposite m) m) ≡ turned_to (i + 1) s pins marks
turned_next i s pins marks now m h w e at =
    let next : suc i ≡ i + 1 = omega arith in
    turned_more i s pins marks now m h w e at ∙ ap (λ k. turned_to k s pins marks) next

-- all
pub turned_all : (i s : ℕ) (pins : List ℕ) (marks : List Mark) → length pins ≤ i → length marks ≡ length pins → turned_to i s pins marks ≡ with_marks_turned s pins marks
turned_all zero s [] [] h w = refl
turned_all (suc i) s [] [] h w = refl
turned_all i s [] (k ∷ marks) h w = absurd (omega arith)
turned_all i s (p ∷ pins) [] h w = absurd (omega arith)
turned_all zero s (p ∷ pins) (k ∷ marks) h w = absurd (omega arith)
turned_all (suc i) s (p ∷ pins) (k ∷ marks) h w = ap (λ list. cond (eqb p s) (opposite k) k ∷ list) (turned_all i s pins marks (omega arith) (omega arith))
