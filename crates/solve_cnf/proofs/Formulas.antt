-- A text as its header and its clauses.
use Rattle.std.proofs.Common.{◌≡◌, ℕ, List, [], ◌∷◌, flat_map, Option, None, Some, Result, refl, sym, ap, ◌∙◌}
use Rattle.std.specs.Prelude.{option_map}
use Rattle.std.specs.Borrow.{Bor}
use Rattle.semantics.specs.Texts.{Bytes}
use Rattle.blif_semantics.specs.Lines.{words_of}
use Rattle.proof_semantics.specs.Clauses.{Clause}
use Rattle.proof_semantics.specs.Formula.{Formula}
use Rattle.solve_cnf.specs.Reading.{Refusal, Header, lines_of, header_of, clauses_of, formula_with, formula_behind, formula_of_lines, formula_of_text}
use Rattle.solve_cnf.specs.Slices.{line_texts}
use Rattle.text_words.specs.Slices.{texts}
use Rattle.solve_cnf.specs.Header.{held_number, held_header}
use Rattle.solve_cnf.specs.FormulaDraft.{DraftValue, clauses_with}
use Rattle.solve_cnf.specs.Counts.{counts_with, counts_behind, counts_of_lines, clause_counts}
use Rattle.solve_cnf.proofs.Words.{words_in, clauses_from_start}

-- the header of which a header in memory is made
told_header : (told : Option Header) (held : Header) → Some held ≡ option_map held_header told → (h : Header) × (told ≡ Some h) × (held ≡ held_header h)
told_header None held is = cc
told_header (Some h) held is = (h, refl, cc)

-- what a text comes to, where it goes by the header and the clauses behind it
text_read : {X : Type 0} (of_lines : List Bytes → X) (made : Header → Result (List Clause) Refusal → X) (text : Bytes) (lines : List (ℕ × Bor Bytes)) (first : ℕ × Bor Bytes)
    (rest : List (ℕ × Bor Bytes))
    (words : List (Bor Bytes)) (held : Header) (start : DraftValue) (variables : ℕ) (clauses : Result (List Clause) Refusal) (answer : X)
    → ((header : Bytes) (behind : List Bytes) (h : Header) → header_of (words_of header) ≡ Some h → of_lines (header ∷ behind) ≡ made h (clauses_of h.variables (flat_map words_of behind)))
    → line_texts lines ≡ lines_of text → lines ≡ first ∷ rest → texts words ≡ words_of first.1.now → Some held ≡ option_map held_header (header_of (texts words))
    → start ≡ record { variables = held.variables; ended = []; begun = [] } → variables ≡ start.variables → clauses ≡ clauses_with start (words_in rest)
    → ((count : ℕ) → held.clauses ≡ held_number count → made (record { variables = variables; clauses = count }) clauses ≡ answer) → of_lines (lines_of text) ≡ answer
text_read of_lines made text lines first rest words held start variables clauses answer behind same_lines cut same_words same_header begins same_variables same_clauses judged =
    let told = told_header (header_of (texts words)) held same_header in
    let h : Header = told.0 in
    let begun = begins ∙ ap (λ (x : Header). record { variables = x.variables; ended = []; begun = [] }) told.2 in
    ap of_lines (sym same_lines ∙ ap line_texts cut)
    ∙ behind first.1.now (line_texts rest) h (ap header_of (sym same_words) ∙ told.1)
    ∙ ap (made h) (sym (clauses_from_start h.variables (words_in rest)) ∙ ap (λ s. clauses_with s (words_in rest)) (sym begun) ∙ sym same_clauses)
    ∙ ap (λ n. made (record { variables = n; clauses = h.clauses }) clauses) (sym (same_variables ∙ ap (λ s. s.variables) begun))
    ∙ judged h.clauses (ap (λ (x : Header). x.clauses) told.2)

pub formula_read : (text : Bytes) (lines : List (ℕ × Bor Bytes)) (first : ℕ × Bor Bytes) (rest : List (ℕ × Bor Bytes)) (words : List (Bor Bytes)) (held : Header) (start : DraftValue) (variables : ℕ)
    (clauses : Result (List Clause) Refusal) (answer : Result Formula Refusal)
    → line_texts lines ≡ lines_of text → lines ≡ first ∷ rest → texts words ≡ words_of first.1.now → Some held ≡ option_map held_header (header_of (texts words))
    → start ≡ record { variables = held.variables; ended = []; begun = [] } → variables ≡ start.variables → clauses ≡ clauses_with start (words_in rest)
    → ((count : ℕ) → held.clauses ≡ held_number count → formula_with (record { variables = variables; clauses = count }) clauses ≡ answer) → formula_of_text text ≡ answer
unfolding formula_of_text
formula_read text lines first rest words held start variables clauses answer =
    text_read formula_of_lines formula_with text lines first rest words held start variables clauses answer (λ header behind h same. ap (λ x. formula_behind x (flat_map words_of behind)) same)

pub counts_read : (text : Bytes) (lines : List (ℕ × Bor Bytes)) (first : ℕ × Bor Bytes) (rest : List (ℕ × Bor Bytes)) (words : List (Bor Bytes)) (held : Header) (start : DraftValue) (variables : ℕ)
    (clauses : Result (List Clause) Refusal) (answer : Option (ℕ × ℕ))
    → line_texts lines ≡ lines_of text → lines ≡ first ∷ rest → texts words ≡ words_of first.1.now → Some held ≡ option_map held_header (header_of (texts words))
    → start ≡ record { variables = held.variables; ended = []; begun = [] } → variables ≡ start.variables → clauses ≡ clauses_with start (words_in rest)
    → ((count : ℕ) → held.clauses ≡ held_number count → counts_with (record { variables = variables; clauses = count }) clauses ≡ answer) → clause_counts text ≡ answer
unfolding clause_counts
counts_read text lines first rest words held start variables clauses answer =
    text_read counts_of_lines counts_with text lines first rest words held start variables clauses answer (λ header behind h same. ap (λ x. counts_behind x (flat_map words_of behind)) same)
