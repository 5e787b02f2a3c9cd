-- The text of an answer. Source: the output of SAT solvers, `s` before the answer and `v` before the literals
-- of a model; LRAT.
use Rattle.std.specs.Prelude.{ℕ, suc, Bool, if◌then◌else◌, List, [], ◌∷◌, ◌++◌, map, codes, ℤ, pos, neg_ℤ}
use Rattle.std.specs.Fmt.{signed_decimal}
use Rattle.semantics.specs.Texts.{Bytes, Line, line_text}
use Rattle.proof_semantics.specs.Lrat.{lrat_text}
use Rattle.cdcl_core.specs.declared.answer.Answer.{Answer}
use Rattle.cdcl_core.specs.declared.answer.Answer.TheVariants.{Model, Refuted, Spent}

abbrev pub status_line : Bytes → Line
status_line word = codes "s" ∷ word ∷ []

-- the true literals, where these are the values of the variables from this one on
abbrev pub true_literals : ℕ → List Bool → List ℤ
true_literals variable [] = []
true_literals variable (bit ∷ bits)
    = (if bit then pos variable else neg_ℤ (pos variable)) ∷ true_literals (suc variable) bits

abbrev pub model_line : List Bool → Line
model_line bits = codes "v" ∷ (map signed_decimal (true_literals 1 bits) ++ codes "0" ∷ [])

abbrev pub answer_text : Answer → Bytes
answer_text (Model bits) = line_text (status_line (codes "SATISFIABLE")) ++ line_text (model_line bits)
answer_text (Refuted log) = line_text (status_line (codes "UNSATISFIABLE")) ++ lrat_text log
answer_text (Spent log) = line_text (status_line (codes "UNKNOWN")) ++ lrat_text log
