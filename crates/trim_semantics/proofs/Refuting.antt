-- The trimmed log refutes: what a kept addition names is held at its place, since it ends only after its last naming.
use Rattle.std.proofs.Common.{◌≡◌, ℕ, ◌<◌, ◌≤◌, Bool, true, false, cond, not, List, [], ◌∷◌, ◌++◌, length, map, refl, ap, subst, sym, ◌∙◌, arith, inl, inr, Option, None, Some}
use Rattle.std.specs.Prelude.{◌⊎◌}
use Rattle.std.specs.List.{Contains}
use Rattle.std.specs.Ordering.{nat_cmp, eq_by_cmp}
use Rattle.std.specs.Cmp.{nat_cmp_total, unsigned_tied}
use Rattle.std.specs.FinMap.{get, insert, remove, get-insert, get-remove}
use Rattle.std.specs.FinSet as literals
use Rattle.std.proofs.lemmas.Bool.{and_parts, not-true, false_from_ne_true}
use Rattle.std.proofs.lemmas.Bool.Decides.{Decides-eqb}
use Rattle.proof_semantics.specs.declared.item.Item.TheVariants.{Add, Remove}
use Rattle.proof_semantics.specs.Clauses.{Clause}
use Rattle.proof_semantics.specs.Logs.{StepValue, LogItem, Held, Derives, with_negations, removed_from, IsSoundFrom, held_of, last_added_after, Refutes}
use Rattle.trim_semantics.specs.Kept.{is_empty_clause}
use Rattle.trim_semantics.specs.Trimmed.{removal_of}
use Rattle.trim_semantics.specs.Trimming.{has_id, is_named, kept_steps, ended_after, with_removals, trimmed}
use Rattle.trim_semantics.proofs.Members.{contains_first, contains_later, contains_none, contains_filter}
use Rattle.trim_semantics.proofs.Naming.{naming, empty_is, conflict_kept}

-- ---- what is held after an addition and after a removal

pub held_there : (held : Held) (id q : ℕ) (clause : Clause) → q ≡ id → get (insert held id clause) q ≡ Some clause
held_there held id q clause e =
    get-insert nat_cmp_total held id clause q ∙ ap (λ b. cond b (Some clause) (get held q)) (unsigned_tied q id ∙ (Decides-eqb q id).1 e)

pub held_elsewhere : (held : Held) (id q : ℕ) (clause : Clause) → (q ≡ id → ⊥) → get (insert held id clause) q ≡ get held q
held_elsewhere held id q clause apart =
    get-insert nat_cmp_total held id clause q
    ∙ ap (λ b. cond b (Some clause) (get held q)) (unsigned_tied q id ∙ false_from_ne_true _ (λ t. apart ((Decides-eqb q id).0 t)))

still_there : (held : Held) (id q : ℕ) → (q ≡ id → ⊥) → get (remove held id) q ≡ get held q
still_there held id q apart =
    get-remove nat_cmp_total held id q
    ∙ ap (λ b. cond b None (get held q)) (unsigned_tied q id ∙ false_from_ne_true _ (λ t. apart ((Decides-eqb q id).0 t)))

was_held : (held : Held) (id q : ℕ) (clause : Clause) → get (remove held id) q ≡ Some clause → get held q ≡ Some clause
was_held held id q clause e = at_test (eq_by_cmp nat_cmp q id) (sym (get-remove nat_cmp_total held id q) ∙ e) where
  at_test : (t : Bool) → cond t None (get held q) ≡ Some clause → get held q ≡ Some clause
  at_test true e' = cc
  at_test false e' = e'

-- what is held after removals was held before
pub was_held_all : (ids : List ℕ) (held : Held) (q : ℕ) (clause : Clause) → get (removed_from held ids) q ≡ Some clause → get held q ≡ Some clause
was_held_all [] held q clause e = e
was_held_all (id ∷ ids) held q clause e = was_held held id q clause (was_held_all ids (remove held id) q clause e)

still_held : (ids : List ℕ) (held : Held) (q : ℕ) → ¬ Contains ids q → get (removed_from held ids) q ≡ get held q
still_held [] held q none = refl
still_held (id ∷ ids) held q none =
    still_held ids (remove held id) q (λ m. none (contains_later id ids q m))
    ∙ still_there held id q (λ e. none (subst (λ x. Contains (x ∷ ids) q) e (contains_first q ids)))

-- ---- the trimmed log is sound

-- what one of the steps names is held alike
abbrev Agrees : Held → Held → List StepValue → Type 0
Agrees held short steps = (t : StepValue) (id : ℕ) (clause : Clause) → Contains steps t → Contains t.hints id → get held id ≡ Some clause → get short id ≡ Some clause

-- nothing that a later step names ends
ended_apart : (ids : List ℕ) (s : StepValue) (later : List StepValue) (id : ℕ) → is_named later id ≡ true → ¬ Contains (ended_after ids s later) id
ended_apart ids s [] id named m = contains_none id m
ended_apart ids s (t ∷ later) id named m =
    let passes = (contains_filter _ ids id m).1 in
    let both = and_parts (has_id s.hints id) (not (is_named (t ∷ later) id)) passes in
    let bad : true ≡ false = sym named ∙ not-true (is_named (t ∷ later) id) both.1 in
    absurd (let no : ⊥ = cc in no)

after_removal : (ids : List ℕ) (held : Held) (last : ℕ) (rest : List LogItem) → IsSoundFrom (removed_from held ids) last rest → IsSoundFrom held last (removal_of ids ++ rest)
after_removal [] held last rest h = h
after_removal (id ∷ ids) held last rest h = h

-- the kept additions with one more in front
abbrev kept_with : Bool → Bool → StepValue → List StepValue → List StepValue
kept_with empty named s kept = cond empty (s ∷ []) (cond named (s ∷ kept) kept)

agrees_unnamed : (held short : Held) (s : StepValue) (kept : List StepValue) → is_named kept s.id ≡ false → Agrees held short kept → Agrees (insert held s.id s.literals) short kept
agrees_unnamed held short s kept unnamed agree t id clause m n e =
    let apart : id ≡ s.id → ⊥ = λ same. (let yes = naming kept s.id t m (subst (Contains t.hints) same n) in cc) in
    agree t id clause m n (sym (held_elsewhere held s.id id s.literals apart) ∙ e)

agrees_inserted : (held short : Held) (s : StepValue) (id : ℕ) (clause : Clause) → (get held id ≡ Some clause → get short id ≡ Some clause)
    → get (insert held s.id s.literals) id ≡ Some clause → get (insert short s.id s.literals) id ≡ Some clause
agrees_inserted held short s id clause agree e =
    at_test (eq_by_cmp nat_cmp id s.id) (sym (get-insert nat_cmp_total held s.id s.literals id) ∙ e) (get-insert nat_cmp_total short s.id s.literals id) where
      at_test : (t : Bool) → cond t (Some s.literals) (get held id) ≡ Some clause → get (insert short s.id s.literals) id ≡ cond t (Some s.literals) (get short id)
          → get (insert short s.id s.literals) id ≡ Some clause
      at_test true e' is = is ∙ e'
      at_test false e' is = is ∙ agree e'

agrees_named : (ids : List ℕ) (held short : Held) (s : StepValue) (kept : List StepValue) → Agrees held short (s ∷ kept)
    → Agrees (insert held s.id s.literals) (removed_from (insert short s.id s.literals) (ended_after ids s kept)) kept
agrees_named ids held short s kept agree t id clause m n e =
    still_held (ended_after ids s kept) (insert short s.id s.literals) id (ended_apart ids s kept id (naming kept id t m n))
    ∙ agrees_inserted held short s id clause (agree t id clause (contains_later s kept t m) n) e

derives_alike : (held short : Held) (s : StepValue) (steps : List StepValue) → Agrees held short (s ∷ steps) → Derives held s → Derives short s
derives_alike held short s steps agree d =
    conflict_kept (get held) (get short) (with_negations literals.empty s.literals) s.hints d (λ id clause m e. agree s id clause (contains_first s steps) m e)

one_more : (ids : List ℕ) (held short : Held) (last low : ℕ) (s : StepValue) (kept : List StepValue) (empty named : Bool) → is_named kept s.id ≡ named
    → low ≤ last → last < s.id → Derives held s → Agrees held short (kept_with empty named s kept)
    → ((short : Held) (low : ℕ) → low ≤ s.id → Agrees (insert held s.id s.literals) short kept → IsSoundFrom short low (with_removals ids kept))
    → IsSoundFrom short low (with_removals ids (kept_with empty named s kept))
one_more ids held short last low s kept true named is below rises d agree rest = (omega arith, derives_alike held short s [] agree d, tt)
one_more ids held short last low s kept false true is below rises d agree rest = (
  omega arith,
  derives_alike held short s kept agree d,
  after_removal (ended_after ids s kept) (insert short s.id s.literals) s.id (with_removals ids kept)
      (rest (removed_from (insert short s.id s.literals) (ended_after ids s kept)) s.id (omega arith) (agrees_named ids held short s kept agree)),
)
one_more ids held short last low s kept false false is below rises d agree rest = rest short low (omega arith) (agrees_unnamed held short s kept is agree)

trimmed_sound : (ids : List ℕ) (log : List LogItem) (held short : Held) (last low : ℕ) → IsSoundFrom held last log → low ≤ last → Agrees held short (kept_steps log)
    → IsSoundFrom short low (with_removals ids (kept_steps log))
trimmed_sound ids [] held short last low h below agree = tt
trimmed_sound ids (Add s ∷ log) held short last low (rises, derives, h) below agree =
    one_more ids held short last low s (kept_steps log) (is_empty_clause s.literals) (is_named (kept_steps log) s.id) refl below rises derives agree
    (λ more under lower alike. trimmed_sound ids log (insert held s.id s.literals) more s.id under h lower alike)
trimmed_sound ids (Remove gone ∷ log) held short last low h below agree =
    trimmed_sound ids log (removed_from held gone) short last low h below (λ t id clause m n e. agree t id clause m n (was_held_all gone held id clause e))

-- ---- it ends with the empty clause

over_removal : (before : Option Clause) (ids : List ℕ) (rest : List LogItem) → last_added_after before (removal_of ids ++ rest) ≡ last_added_after before rest
over_removal before [] rest = refl
over_removal before (id ∷ ids) rest = refl

-- whatever was added before
abbrev EndsEmpty : List ℕ → List StepValue → Type 0
EndsEmpty ids steps = (before : Option Clause) → last_added_after before (with_removals ids steps) ≡ Some []

one_more_ends : (ids : List ℕ) (s : StepValue) (kept : List StepValue) (empty named : Bool) → is_empty_clause s.literals ≡ empty
    → (Some s.literals ≡ Some []) ⊎ EndsEmpty ids kept → EndsEmpty ids (kept_with empty named s kept)
one_more_ends ids s kept true named is h = λ before. ap Some (empty_is s.literals is)
one_more_ends ids s kept false named is (inl e) = let bad : false ≡ true = sym is ∙ ap is_empty_clause (let same : s.literals ≡ [] = cc in same) in cc
one_more_ends ids s kept false true is (inr h) = λ before. over_removal (Some s.literals) (ended_after ids s kept) (with_removals ids kept) ∙ h (Some s.literals)
one_more_ends ids s kept false false is (inr h) = h

trimmed_ends : (ids : List ℕ) (log : List LogItem) (before : Option Clause) → last_added_after before log ≡ Some [] → (before ≡ Some []) ⊎ EndsEmpty ids (kept_steps log)
trimmed_ends ids [] before e = inl e
trimmed_ends ids (Add s ∷ log) before e =
    inr (one_more_ends ids s (kept_steps log) (is_empty_clause s.literals) (is_named (kept_steps log) s.id) refl (trimmed_ends ids log (Some s.literals) e))
trimmed_ends ids (Remove gone ∷ log) before e = trimmed_ends ids log before e

pub trimmed_refutes : (formula : List Clause) (log : List LogItem) → Refutes formula log → Refutes formula (trimmed log)
trimmed_refutes formula log r =
    let ids : List ℕ = map (λ s. s.id) (kept_steps log) in
    record {
      sound = trimmed_sound ids log (held_of formula) (held_of formula) (length formula) (length formula) r.sound (omega arith) (λ t id clause m n e. e);
      ends = elim (trimmed_ends ids log None r.ends) [
        | inl none ↦ cc
        | inr ends ↦ ends None
      ];
    }
