-- Literals that are asked for and joined, one after another.
use Rattle.std.proofs.Common.{◌≡◌, ℕ, zero, suc, ◌+◌, ◌-◌, ◌*◌, ◌<◌, ◌≤◌, List, [], ◌∷◌, ◌++◌, length, take, get_or, refl, sym, ap, ◌∙◌, append_assoc, arith}
use Rattle.std.proofs.lemmas.List.{append-nil}
use Rattle.semantics.specs.declared.mark.Mark.{Mark}
use Rattle.aiger_semantics.specs.declared.and_line.AndLine.{AndLine}
use Rattle.aiger_semantics.specs.Circuit.{literal_of_variable}
use Rattle.aiger_semantics.specs.NetCircuit.{Literals, joins_after, joined_after, joined, marked, row_inputs}

-- one more pin
row_inputs-suc : (literals : Literals) (marks : List Mark) (pins : List ℕ) (i : ℕ) (d : Mark) (e : ℕ) → i < length marks → i < length pins
    → row_inputs literals (take (suc i) marks) pins ≡ row_inputs literals (take i marks) pins ++ marked (get_or marks i d) (literals (get_or pins i e))
row_inputs-suc literals [] pins i d e low low' = absurd (omega arith)
row_inputs-suc literals (m ∷ marks) [] i d e low low' = absurd (omega arith)
row_inputs-suc literals (m ∷ marks) (s ∷ pins) zero d e low low' = append-nil (marked m (literals s))
row_inputs-suc literals (m ∷ marks) (s ∷ pins) (suc i) d e low low' =
    ap (λ l. marked m (literals s) ++ l) (row_inputs-suc literals marks pins i d e (omega arith) (omega arith))
    ∙ sym (append_assoc (marked m (literals s)) (row_inputs literals (take i marks) pins) (marked (get_or marks i d) (literals (get_or pins i e))))

pub row_asked : (literals : Literals) (marks : List Mark) (pins : List ℕ) (i : ℕ) (d : Mark) (before after : List ℕ) → before ≡ row_inputs literals (take i marks) pins → i < length marks
    → length marks ≡ length pins
    → after ≡ before ++ marked (get_or marks i d) (literals (get_or pins i 0)) → after ≡ row_inputs literals (take (i + 1) marks) pins
row_asked literals marks pins i d before after so low same more =
    let next : suc i ≡ i + 1 = omega arith in
    more ∙ ap (λ l. l ++ marked (get_or marks i d) (literals (get_or pins i 0))) so
    ∙ sym (row_inputs-suc literals marks pins i d 0 low (omega arith))
    ∙ ap (λ k. row_inputs literals (take k marks) pins) next

-- what is joined from two literals on is the last line's variable
joined_after-last : (next so_far literal : ℕ) (literals : List ℕ) → joined_after next so_far (literal ∷ literals) ≡ 2 * (next + length literals)
joined_after-last next so_far literal [] = omega arith
joined_after-last next so_far literal (other ∷ literals) = let e = joined_after-last (next + 1) (literal_of_variable next) other literals in omega (arith, e)

pub joined-none : (next : ℕ) (literals : List ℕ) → length literals ≡ 0 → 1 ≡ joined next literals
joined-none next [] none = refl
joined-none next (literal ∷ literals) none = absurd (omega arith)

pub joined-one : (next read : ℕ) (literals : List ℕ) → length literals ≡ 1 → read ≡ get_or literals 0 read → read ≡ joined next literals
joined-one next read [] one is = absurd (omega arith)
joined-one next read (literal ∷ []) one is = is
joined-one next read (literal ∷ other ∷ literals) one is = absurd (omega arith)

pub joined-more : (next : ℕ) (literals : List ℕ) → 2 ≤ length literals → 2 * (next + (length literals - 2)) ≡ joined next literals
joined-more next [] some = absurd (omega arith)
joined-more next (literal ∷ []) some = absurd (omega arith)
joined-more next (literal ∷ other ∷ literals) some = let e = joined_after-last next literal other literals in omega (arith, e)

-- one more line
joins_after-suc : (next so_far : ℕ) (literals : List ℕ) (i variable d : ℕ) → i < length literals → variable ≡ next + i
    → joins_after next so_far (take (suc i) literals)
    ≡ joins_after next so_far (take i literals) ++ record { variable = variable; left = joined_after next so_far (take i literals); right = get_or literals i d } ∷ []
joins_after-suc next so_far [] i variable d low at = absurd (omega arith)
joins_after-suc next so_far (literal ∷ literals) zero variable d low at =
    let same : next ≡ variable = omega arith in ap (λ (k : ℕ). record { variable = k; left = so_far; right = literal } ∷ []) same
joins_after-suc next so_far (literal ∷ literals) (suc i) variable d low at =
    ap (λ l. record { variable = next; left = so_far; right = literal } ∷ l) (joins_after-suc (next + 1) (literal_of_variable next) literals i variable d (omega arith) (omega arith))

joined_after-suc : (next so_far : ℕ) (literals : List ℕ) (i variable : ℕ) → i < length literals → variable ≡ next + i → joined_after next so_far (take (suc i) literals) ≡ 2 * variable
joined_after-suc next so_far [] i variable low at = absurd (omega arith)
joined_after-suc next so_far (literal ∷ literals) zero variable low at = let same : next ≡ variable = omega arith in ap (λ k. 2 * k) same
joined_after-suc next so_far (literal ∷ literals) (suc i) variable low at = joined_after-suc (next + 1) (literal_of_variable next) literals i variable (omega arith) (omega arith)

-- the lines so far, and the literal joined so far
pub record AreJoined (next first : ℕ) (rest : List ℕ) (i : ℕ) (before lines : List AndLine) (left : ℕ) : Type 0 where
  pub lines_are : lines ≡ before ++ joins_after next first (take i rest)
  pub left_is : left ≡ joined_after next first (take i rest)

pub joined_start : (next first : ℕ) (rest : List ℕ) (before lines : List AndLine) (left : ℕ) → lines ≡ before → left ≡ first → AreJoined next first rest 0 before lines left
joined_start next first rest before lines left el ef = record { lines_are = el ∙ sym (append-nil before); left_is = ef }

pub joined_next : (next first : ℕ) (rest : List ℕ) (i : ℕ) (before lines more : List AndLine) (left right variable : ℕ) → AreJoined next first rest i before lines left → i < length rest
    → right ≡ get_or rest i right → variable ≡ next + i → more ≡ lines ++ record { variable = variable; left = left; right = right } ∷ []
    → AreJoined next first rest (i + 1) before more (2 * variable)
joined_next next first rest i before lines more left right variable so low er at em =
    let one : suc i ≡ i + 1 = omega arith in
    let line : List AndLine = record { variable = variable; left = left; right = right } ∷ [] in
    let whole : before ++ joins_after next first (take (suc i) rest) ≡ lines ++ line =
    ap (λ l. before ++ l) (joins_after-suc next first rest i variable right low at
    ∙ ap (λ (k : ℕ). joins_after next first (take i rest) ++ record { variable = variable; left = joined_after next first (take i rest); right = k } ∷ []) (sym er)
    ∙ ap (λ (k : ℕ). joins_after next first (take i rest) ++ record { variable = variable; left = k; right = right } ∷ []) (sym so.left_is))
    ∙ sym (append_assoc before (joins_after next first (take i rest)) line)
    ∙ ap (λ l. l ++ line) (sym so.lines_are) in
    record {
      lines_are = em ∙ sym whole ∙ ap (λ k. before ++ joins_after next first (take k rest)) one;
      left_is = sym (joined_after-suc next first rest i variable low at) ∙ ap (λ k. joined_after next first (take k rest)) one;
    }
