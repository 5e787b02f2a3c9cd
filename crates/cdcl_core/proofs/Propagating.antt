-- The steps of propagation.
use Rattle.std.specs.Prelude.{ℤ, neg_ℤ, ◌⊎◌, All}
use Rattle.std.specs.List.{Contains}
use Rattle.std.proofs.Common.{◌≡◌, ℕ, ◌<◌, ◌≤◌, Some, List, [], ◌∷◌, ◌++◌, take, drop, length, get_or, refl, ap, sym, ◌∙◌, length-append, arith}
use Rattle.std.proofs.lemmas.List.{take-append-le, take-append-drop, get_or_read}
use Rattle.std.proofs.Math.Seq.{take-length}
use Rattle.proof_semantics.specs.Clauses.{Clause}
use Rattle.proof_semantics.specs.Conflicts.{clause_at}
use Rattle.cdcl_core.specs.Explained.{Holds}
use Rattle.cdcl_core.specs.Placed.{TrailValue}
use Rattle.cdcl_core.specs.Propagation.{IsExtended}
use Rattle.cdcl_core.proofs.Trails.{trail-implied}

pub extended_same : (clauses : List Clause) (t : TrailValue) → IsExtended clauses t t
extended_same clauses t = record { variables = refl; starts = refl; longer = omega arith; before = take-length t.literals; follows = λ h. h }

pub extended_push : (clauses : List Clause) (old t new : TrailValue) (l : ℤ) (j : ℕ) → IsExtended clauses old t → j < length clauses → Contains (clause_at clauses j) l
    → All (λ a. (a ≡ l) ⊎ Holds t.literals (neg_ℤ a)) (clause_at clauses j)
    → new ≡ record t { literals = t.literals ++ l ∷ []; reasons = t.reasons ++ Some j ∷ [] } → IsExtended clauses old new
extended_push clauses old t new l j h within inside others e =
    let longer = h.longer in
    rw e (record {
      variables = h.variables;
      starts = h.starts;
      longer = omega (arith, length-append t.literals (l ∷ []));
      before = take-append-le (length old.literals) t.literals (l ∷ []) h.longer ∙ h.before;
      follows = λ was. trail-implied clauses t.literals t.reasons t.starts l j (h.follows was) within inside others;
    })

-- the part of a part
take_take : (ys zs : List ℤ) (n : ℕ) → n ≤ length ys → take (length ys) zs ≡ ys → take n ys ≡ take n zs
take_take ys zs n low e =
    let whole : take (length ys) zs ++ drop (length ys) zs ≡ zs = take-append-drop (length ys) zs in
    sym (take-append-le n ys (drop (length ys) zs) low) ∙ ap (take n) (ap (λ xs. xs ++ drop (length ys) zs) (sym e) ∙ whole)

pub extended_trans : (clauses : List Clause) (a b c : TrailValue) → IsExtended clauses a b → IsExtended clauses b c → IsExtended clauses a c
extended_trans clauses a b c h k =
    let one = h.longer in
    let two = k.longer in
    record {
      variables = k.variables ∙ h.variables;
      starts = k.starts ∙ h.starts;
      longer = omega arith;
      before =
          sym (take_take b.literals c.literals (length a.literals) h.longer k.before) ∙ h.before;
      follows = λ was. k.follows (h.follows was);
    }

-- a clause as it was read
pub clause_read : (clauses : List Clause) (j : ℕ) (C D : Clause) → j < length clauses → C ≡ get_or clauses j C → D ≡ C → D ≡ clause_at clauses j
clause_read clauses j C D within is same = same ∙ get_or_read clauses j C within is []
