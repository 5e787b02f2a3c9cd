-- The parts of a formula's text make the whole.
use Rattle.std.proofs.Common.{◌≡◌, ◌<◌, Bool, true, false, List, [], ◌∷◌, ◌++◌, length, map, flat_map, codes, Option, None, Some, refl, ap, sym, ◌∙◌}
use Rattle.std.specs.Bool.{MatchBool}
use Rattle.std.proofs.lemmas.Option.{none-some}
use Rattle.std.specs.Borrow.{Bor}
use Rattle.std.specs.Fmt.{signed_decimal}
use Rattle.semantics.specs.Texts.{Bytes, line_text, text_of}
use Rattle.proof_semantics.specs.Clauses.{Clause}
use Rattle.proof_semantics.specs.Formula.{Formula, header_line, clause_line, dimacs_text}
use Rattle.cnf_core.specs.NumberList.{list_text, list_rest}
use Rattle.cnf_core.specs.FormulaText.{clauses_text, clauses_rest}
use Rattle.cnf_core.proofs.NumberLists.{list_text-line, first_token}

clauses_lines : (clauses : List Clause) → clauses_text clauses ≡ flat_map line_text (map clause_line clauses)
clauses_lines [] = refl
clauses_lines (clause ∷ clauses) = ap (λ rest. line_text (clause_line clause) ++ rest) (clauses_lines clauses)

-- the text is the header and the clauses
pub dimacs_text-parts : (f : Formula) (clauses : List Clause) → clauses ≡ f.clauses → line_text (header_line f) ++ clauses_text clauses ≡ dimacs_text f
unfolding text_of dimacs_text
dimacs_text-parts f clauses same = ap (λ text. line_text (header_line f) ++ text) (ap clauses_text same ∙ clauses_lines f.clauses)

-- a clause, and those behind it
pub clauses_text-next : (clauses rest : List Clause) (clause literals : Clause) → clauses ≡ clause ∷ rest → literals ≡ clause
    → clauses_text clauses ≡ list_text signed_decimal (codes "0\n") literals ++ clauses_text rest
clauses_text-next clauses rest clause literals first same =
    ap clauses_text first
    ∙ ap (λ t. t ++ clauses_text rest) (sym (ap (list_text signed_decimal (codes "0\n")) same ∙ list_text-line signed_decimal clause))

-- the first token of the next clause
pub next_clause : (some : Bool) (before new : Option (Bor Clause)) (literals : Bor Clause) (clauses rest : List Clause) (clause : Clause) (token passed kept : Bytes) → before ≡ None
    → clauses ≡ clause ∷ rest → literals.now ≡ clause
    → MatchBool some ((list_text signed_decimal (codes "0\n") literals.now ≡ token ++ list_rest signed_decimal (codes "0\n") new) × (0 < length token))
    ((Some literals ≡ None) × (new ≡ None) × (token ≡ passed))
    → MatchBool some ((clauses_rest before clauses ≡ token ++ clauses_rest new rest) × (0 < length token)) ((clauses_rest before clauses ≡ []) × (clauses_rest new rest ≡ []) × (token ≡ kept))
next_clause true before new literals clauses rest clause token passed kept none first same h = (
  ap (λ o. clauses_rest o clauses) none
      ∙ clauses_text-next clauses rest clause literals.now first same
      ∙ first_token (list_text signed_decimal (codes "0\n") literals.now) token (list_rest signed_decimal (codes "0\n") new) (clauses_text rest) h.0,
  h.1,
)
next_clause false before new literals clauses rest clause token passed kept none first same h = absurd (none-some literals (sym h.0))
