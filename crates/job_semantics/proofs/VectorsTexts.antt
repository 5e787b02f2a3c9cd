-- A text of vectors is that of one list of vectors.
use Rattle.std.proofs.Common.{◌≡◌, ℕ, Bool, List, [], ◌∷◌, ◌++◌, map, length, refl, ap, sym, ◌∙◌, append_assoc, arith}
use Rattle.std.specs.List.{AllByRecursion}
use Rattle.std.proofs.lemmas.List.{append_cancel_left, length-append}
use Rattle.semantics.specs.Texts.{Bytes, bits_word, text_of}
use Rattle.job_semantics.specs.Report.{vectors_text}
use Rattle.job_semantics.specs.Certificate.{IsVectorsText}
use Rattle.job_semantics.proofs.ReportTexts.{bits-cut}

abbrev lines_of : List (List Bool) → Bytes
lines_of [] = []
lines_of (x ∷ vectors) = bits_word x ++ 10 ∷ lines_of vectors

lines_text : (vectors : List (List Bool)) → text_of (map (λ x. bits_word x ∷ []) vectors) ≡ lines_of vectors
unfolding text_of
lines_text [] = refl
lines_text (x ∷ vectors) =
    append_assoc (bits_word x) (10 ∷ []) (text_of (map (λ x. bits_word x ∷ []) vectors)) ∙ ap (λ t. bits_word x ++ 10 ∷ t) (lines_text vectors)

same_lines : (inputs : ℕ) (us vs : List (List Bool)) → AllByRecursion (λ x. length x ≡ inputs) us → AllByRecursion (λ x. length x ≡ inputs) vs → lines_of us ≡ lines_of vs → us ≡ vs
same_lines inputs [] [] wide wider same = refl
same_lines inputs [] (v ∷ vs) wide wider same = absurd (omega (arith, ap length same, length-append (bits_word v) (10 ∷ lines_of vs)))
same_lines inputs (u ∷ us) [] wide wider same = absurd (omega (arith, ap length same, length-append (bits_word u) (10 ∷ lines_of us)))
same_lines inputs (u ∷ us) (v ∷ vs) wide wider same =
    let cut = bits-cut u v (10 ∷ lines_of us) (10 ∷ lines_of vs) (wide.0 ∙ sym wider.0) same in
    let rest = same_lines inputs us vs wide.1 wider.1 (append_cancel_left (10 ∷ []) (lines_of us) (lines_of vs) cut.1) in
    λ i. cut.0 i ∷ rest i

pub one_pool : (inputs : ℕ) (text : Bytes) (witness : List Bool) (pool others : List (List Bool)) → IsVectorsText inputs text witness pool
    → IsVectorsText inputs text witness others → pool ≡ others
unfolding vectors_text
one_pool inputs text witness pool others h k =
    let same = same_lines inputs (witness ∷ pool) (witness ∷ others) h.widths k.widths
    (sym (lines_text (witness ∷ pool)) ∙ sym h.spelled ∙ k.spelled ∙ lines_text (witness ∷ others)) in
    append_cancel_left (witness ∷ []) pool others same
