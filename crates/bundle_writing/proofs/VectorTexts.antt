-- The text of vectors is their lines.
use Rattle.std.proofs.Common.{◌≡◌, Bool, List, [], ◌∷◌, ◌++◌, map, refl, ap, sym}
use Rattle.semantics.specs.Texts.{bits_word, text_of}
use Rattle.job_semantics.specs.Report.{vectors_text}
use Rattle.bundle_writing.specs.VectorLines.{vector_line, vector_lines}

lines_text : (vectors : List (List Bool)) → text_of (map (λ x. bits_word x ∷ []) vectors) ≡ vector_lines vectors
unfolding text_of
lines_text [] = refl
lines_text (x ∷ vectors) = ap (λ t. vector_line x ++ t) (lines_text vectors)

pub vectors_text-is : (witness : List Bool) (pool : List (List Bool)) → vector_line witness ++ vector_lines pool ≡ vectors_text witness pool
unfolding vectors_text
vectors_text-is witness pool = sym (lines_text (witness ∷ pool))
