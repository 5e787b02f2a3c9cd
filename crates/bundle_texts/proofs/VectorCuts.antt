-- A text of lines of vectors, cut at a place between two of them.
use Rattle.std.proofs.Common.{◌≡◌, ℕ, Bool, List, [], ◌∷◌, ◌++◌, length, refl, ap, sym, ◌∙◌, append_assoc, arith}
use Rattle.std.specs.List.{AllByRecursion}
use Rattle.std.proofs.lemmas.List.{append_cancel_left, length-append, length_push}
use Rattle.semantics.specs.Texts.{Bytes, bits_word}
use Rattle.job_semantics.specs.Certificate.{IsVectorsText}
use Rattle.job_semantics.proofs.ReportTexts.{bits-cut}
use Rattle.bundle_writing.specs.VectorLines.{vector_line, vector_lines}
use Rattle.bundle_writing.proofs.VectorTexts.{vectors_text-is}

pub assoc_line : (x : List Bool) (rest : Bytes) → vector_line x ++ rest ≡ bits_word x ++ 10 ∷ rest
assoc_line x rest = append_assoc (bits_word x) (10 ∷ []) rest

-- what stands behind first lines are the other lines
pub lines_behind : (inputs : ℕ) (us vs : List (List Bool)) (rest : Bytes) → AllByRecursion (λ x. length x ≡ inputs) us → AllByRecursion (λ x. length x ≡ inputs) vs
    → vector_lines us ++ rest ≡ vector_lines vs → (ws : List (List Bool)) × (rest ≡ vector_lines ws) × (vs ≡ us ++ ws)
lines_behind inputs [] vs rest wide wider same = (vs, same, refl)
lines_behind inputs (u ∷ us) [] rest wide wider same =
    absurd (omega (arith, ap length same, length-append (vector_lines (u ∷ us)) rest, length-append (vector_line u) (vector_lines us), length_push (bits_word u) 10))
lines_behind inputs (u ∷ us) (v ∷ vs) rest wide wider same =
    let lines : bits_word u ++ 10 ∷ (vector_lines us ++ rest) ≡ bits_word v ++ 10 ∷ vector_lines vs =
    sym (assoc_line u (vector_lines us ++ rest)) ∙ sym (append_assoc (vector_line u) (vector_lines us) rest) ∙ same ∙ assoc_line v (vector_lines vs) in
    let cut = bits-cut u v (10 ∷ (vector_lines us ++ rest)) (10 ∷ vector_lines vs) (wide.0 ∙ sym wider.0) lines in
    let behind = lines_behind inputs us vs rest wide.1 wider.1 (append_cancel_left (10 ∷ []) (vector_lines us ++ rest) (vector_lines vs) cut.1) in
    (behind.0, behind.1, λ i. sym cut.0 i ∷ behind.2 i)

pub no_vectors : (inputs : ℕ) (text : Bytes) (witness : List Bool) (pool : List (List Bool)) → text ≡ [] → ¬ IsVectorsText inputs text witness pool
no_vectors inputs text witness pool none h =
    omega (arith, ap length none, ap length (h.spelled ∙ sym (vectors_text-is witness pool)), length-append (vector_line witness) (vector_lines pool), length_push (bits_word witness) 10)
