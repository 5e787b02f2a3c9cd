-- The lines of models, cut one after another.
use Rattle.std.proofs.Common.{◌≡◌, ℕ, zero, suc, ◌+◌, ◌-◌, ◌<◌, ◌==◌, ◌&&◌, not, Bool, true, false, cond, List, [], ◌∷◌, ◌++◌, map, length, take, drop, get_or, append_assoc, refl, ap, sym, subst}
use Rattle.std.proofs.Common.{◌∙◌, arith}
use Rattle.std.proofs.lemmas.Bool.{ne_eqb, false≢true}
use Rattle.std.proofs.lemmas.List.{drop_more, drop-drop}
use Rattle.blif_semantics.specs.Lines.{Statement}
use Rattle.blif_semantics.specs.Statements.{kind_of, is_model}
use Rattle.hierarchy_semantics.specs.Models.{BlifModel, Sections, model_from, sections_of, all_sections, hierarchy_of}
use Rattle.hier_parts.specs.Sections.{leading, section_end, models_from, Begins}

abbrev ended : Statement → Sections → Sections
ended s rest = record { before = []; sections = (s ∷ rest.before) ∷ rest.sections }

abbrev gone_on : Statement → Sections → Sections
gone_on s rest = record { before = s ∷ rest.before; sections = rest.sections }

abbrev cut_at : ℕ → List Statement → Sections
cut_at k t = record { before = take k t; sections = (sections_of (drop k t)).sections }

cut : (t : List Statement) → sections_of t ≡ cut_at (leading t) t
cut [] = refl
cut (s ∷ t) = at_test (is_model (kind_of s.words)) refl (cut t)
  where
    at_test : (b : Bool) → is_model (kind_of s.words) ≡ b → sections_of t ≡ cut_at (leading t) t
        → cond b (ended s (sections_of t)) (gone_on s (sections_of t)) ≡ cut_at (cond b 0 (suc (leading t))) (s ∷ t)
    at_test true is rest = ap (λ (b : Bool). record { before = []; sections = (cond b (ended s (sections_of t)) (gone_on s (sections_of t))).sections }) (sym is)
    at_test false is rest = ap (gone_on s) rest

begins : (t : List Statement) → (sections_of (drop (leading t) t)).before ≡ []
begins [] = refl
begins (s ∷ t) = at_test (is_model (kind_of s.words)) refl (begins t)
  where
    at_test : (b : Bool) → is_model (kind_of s.words) ≡ b → (sections_of (drop (leading t) t)).before ≡ [] → (sections_of (drop (cond b 0 (suc (leading t))) (s ∷ t))).before ≡ []
    at_test true is rest = ap (λ (b : Bool). (cond b (ended s (sections_of t)) (gone_on s (sections_of t))).before) is
    at_test false is rest = rest

-- ---- one section

abbrev first_cut : Statement → List Statement → List (List Statement)
first_cut s t = (s ∷ take (leading t) t) ∷ (sections_of (drop (leading t) t)).sections

later_cut : (s : Statement) (t : List Statement) → (sections_of (s ∷ t)).before ≡ [] → (sections_of (s ∷ t)).sections ≡ first_cut s t
later_cut s t begun = at_test (is_model (kind_of s.words)) begun
  where
    at_test : (b : Bool) → (cond b (ended s (sections_of t)) (gone_on s (sections_of t))).before ≡ [] → (cond b (ended s (sections_of t)) (gone_on s (sections_of t))).sections ≡ first_cut s t
    at_test true h = ap (λ (r : Sections). (s ∷ r.before) ∷ r.sections) (cut t)
    at_test false h = absurd (filled h)
      where
        filled : s ∷ (sections_of t).before ≡ [] → ⊥
        filled e = cc

all_full : (x : List Statement) (xs : List (List Statement)) → all_sections (record { before = []; sections = x ∷ xs }) ≡ x ∷ xs
all_full x xs = ap (λ (b : Bool). cond (not b) (x ∷ xs) ([] ∷ x ∷ xs)) (ne_eqb (suc (length xs)) 0 (λ e. omega (arith, e)))

all_begun : (s : Statement) (b : List Statement) (xs : List (List Statement)) → all_sections (record { before = s ∷ b; sections = xs }) ≡ (s ∷ b) ∷ xs
all_begun s b xs = ap (λ (e : Bool). cond (e && not (length xs == 0)) xs ((s ∷ b) ∷ xs)) (ne_eqb (suc (length b)) 0 (λ e. omega (arith, e)))

main_cut : (s : Statement) (t : List Statement) → all_sections (sections_of (s ∷ t)) ≡ first_cut s t
main_cut s t = at_test (is_model (kind_of s.words))
  where
    at_test : (b : Bool) → all_sections (cond b (ended s (sections_of t)) (gone_on s (sections_of t))) ≡ first_cut s t
    at_test true = all_full (s ∷ (sections_of t).before) (sections_of t).sections ∙ ap (λ (r : Sections). (s ∷ r.before) ∷ r.sections) (cut t)
    at_test false = all_begun s (sections_of t).before (sections_of t).sections ∙ ap (λ (r : Sections). (s ∷ r.before) ∷ r.sections) (cut t)

-- ---- one model more

later : (lines : List Statement) (n : ℕ) → 0 < n → models_from lines n ≡ map model_from (sections_of (drop n lines)).sections
later lines zero some = absurd (omega (arith, some))
later lines (suc i) some = refl

begun : (lines : List Statement) (n : ℕ) → 0 < n → (sections_of (drop n lines)).before ≡ [] → Begins lines n
begun lines zero some h = tt
begun lines (suc i) some h = h

no_statement : Statement
no_statement = record { line = 0; words = [] }

left : (lines : List Statement) (start : ℕ) → drop (section_end lines start) lines ≡ drop (leading (drop (start + 1) lines)) (drop (start + 1) lines)
left lines start = sym (drop-drop (leading (drop (start + 1) lines)) (start + 1) lines)

models_left : (lines : List Statement) (start : ℕ)
    → models_from lines (section_end lines start) ≡ map model_from (sections_of (drop (leading (drop (start + 1) lines)) (drop (start + 1) lines))).sections
models_left lines start = later lines (section_end lines start) (omega arith) ∙ ap (λ l. map model_from (sections_of l).sections) (left lines start)

pub begins-next : (lines : List Statement) (start : ℕ) → Begins lines (section_end lines start)
begins-next lines start = begun lines (section_end lines start) (omega arith) (ap (λ l. (sections_of l).before) (left lines start) ∙ begins (drop (start + 1) lines))

here : (lines : List Statement) (start : ℕ) (s : Statement) → drop start lines ≡ s ∷ drop (start + 1) lines
    → take (section_end lines start - start) (drop start lines) ≡ s ∷ take (leading (drop (start + 1) lines)) (drop (start + 1) lines)
here lines start s e =
    let k : ℕ = leading (drop (start + 1) lines) in
    let size : (start + 1 + k) - start ≡ suc k = omega arith in
    ap (λ l. take ((start + 1 + k) - start) l) e ∙ ap (λ m. take m (s ∷ drop (start + 1) lines)) size

both : (x y : List Statement) (xs ys : List BlifModel) → x ≡ y → xs ≡ ys → model_from x ∷ xs ≡ model_from y ∷ ys
both x y xs ys e f = cc

models-cut : (lines : List Statement) (start : ℕ) (s : Statement) → drop start lines ≡ s ∷ drop (start + 1) lines → Begins lines start
    → models_from lines start ≡ map model_from (first_cut s (drop (start + 1) lines))
models-cut lines zero s e begins = ap (λ l. map model_from (all_sections (sections_of l))) e ∙ ap (map model_from) (main_cut s (drop 1 lines))
models-cut lines (suc i) s e begins =
    ap (λ l. map model_from (sections_of l).sections) e
    ∙ ap (map model_from) (later_cut s (drop (suc i + 1) lines) (ap (λ l. (sections_of l).before) (sym e) ∙ begins))

-- the model that begins there, and those that are left
pub models-next : (lines : List Statement) (start : ℕ) → start < length lines → Begins lines start
    → models_from lines start ≡ model_from (take (section_end lines start - start) (drop start lines)) ∷ models_from lines (section_end lines start)
models-next lines start within begins =
    let s : Statement = get_or lines start no_statement in
    let e : drop start lines ≡ s ∷ drop (start + 1) lines = drop_more lines start no_statement within in
    models-cut lines start s e begins ∙ sym (both _ _ _ _ (here lines start s e) (models_left lines start))

pub models-none : (lines : List Statement) (start : ℕ) → 0 < start → drop start lines ≡ [] → models_from lines start ≡ []
models-none lines start some e = later lines start some ∙ ap (λ l. map model_from (sections_of l).sections) e

pub models-all : (lines : List Statement) → models_from lines 0 ≡ hierarchy_of lines
unfolding hierarchy_of
models-all lines = refl

no_lines : (lines : List Statement) → true ≡ (length lines == 0) → hierarchy_of lines ≡ model_from lines ∷ []
unfolding hierarchy_of
no_lines [] e = refl
no_lines (s ∷ t) e = absurd (false≢true (sym (e ∙ ne_eqb (suc (length t)) 0 (λ z. omega (arith, z)))))

pub only_model : (lines : List Statement) (old new : List BlifModel) (m : BlifModel) → true ≡ (length lines == 0) → old ≡ [] → new ≡ old ++ m ∷ [] → m ≡ model_from lines → new ≡ hierarchy_of lines
only_model lines old new m e none added made = added ∙ ap (λ v. v ++ m ∷ []) none ∙ ap (λ x. x ∷ []) made ∙ sym (no_lines lines e)

pub some_lines : (lines : List Statement) → false ≡ (length lines == 0) → 0 < length lines
some_lines [] e = absurd (false≢true e)
some_lines (s ∷ t) e = omega arith

-- a model was added
pub hierarchy-next : (lines : List Statement) (start end : ℕ) (old new : List BlifModel) (m : BlifModel) (all : List BlifModel) → start < length lines → Begins lines start
    → end ≡ section_end lines start → new ≡ old ++ m ∷ []
    → m ≡ model_from (take (end - start) (drop start lines)) → old ++ models_from lines start ≡ all → new ++ models_from lines end ≡ all
hierarchy-next lines start end old new m all within begins is added made so_far =
    let cut : models_from lines start ≡ model_from (take (end - start) (drop start lines)) ∷ models_from lines end =
    subst (λ e. models_from lines start ≡ model_from (take (e - start) (drop start lines)) ∷ models_from lines e) (sym is) (models-next lines start within begins) in
    ap (λ v. v ++ models_from lines end) added
    ∙ append_assoc old (m ∷ []) (models_from lines end)
    ∙ ap (λ x. old ++ x ∷ models_from lines end) made
    ∙ ap (λ v. old ++ v) (sym cut)
    ∙ so_far
