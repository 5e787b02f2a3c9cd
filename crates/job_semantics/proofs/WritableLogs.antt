-- A derivation over a formula with fewer than 2 ^ 31 variables is a log whose text is read as that log.
use Rattle.std.proofs.Common.{◌≡◌, ℕ, suc, ◌+◌, ◌^◌, ◌<◌, ◌≤◌, Bool, true, false, cond, List, [], ◌∷◌, length, refl, sym, ◌∙◌, Option, None, Some, All, arith}
use Rattle.std.specs.Ordering.{nat_cmp, eq_by_cmp}
use Rattle.std.specs.FinMap.{get, insert, empty, get-insert, get-empty}
use Rattle.std.specs.FinSet as literals
use Rattle.std.specs.Cmp.{nat_cmp_total, unsigned_tied}
use Rattle.std.proofs.lemmas.Bool.{eqb-true}
use Rattle.std.proofs.lemmas.List.Elements.{All-cons, All-nil, All-weaker}
use Rattle.proof_semantics.specs.declared.item.Item.TheVariants.{Add, Remove}
use Rattle.proof_semantics.specs.Clauses.{Clause, IsLiteralOf}
use Rattle.proof_semantics.specs.Formula.{Formula}
use Rattle.proof_semantics.specs.Logs.{LogItem, Held, LiteralSet, EndsInConflict, IsSoundFrom, held_from, held_of, AddsInTurn, IsDerivation}
use Rattle.proof_semantics.specs.LratLaws.{IsId, IsWritable}

-- the ids of the clauses that are held go from 1 to the last
record AreHeldTo (held : Held) (last : ℕ) : Type 0 where
  ids : (id : ℕ) (clause : Clause) → get held id ≡ Some clause → (0 < id) × (id ≤ last)

held_more : (held : Held) (last id : ℕ) (clause : Clause) → AreHeldTo held last → last < id → AreHeldTo (insert held id clause) id
held_more held last id clause h above = record { ids = λ q c e. at_test q c (eq_by_cmp nat_cmp q id) refl (sym (get-insert nat_cmp_total held id clause q) ∙ e) } where
  at_test : (q : ℕ) (c : Clause) (t : Bool) → eq_by_cmp nat_cmp q id ≡ t → cond t (Some clause) (get held q) ≡ Some c → (0 < q) × (q ≤ id)
  at_test q c true same e = let is : q ≡ id = eqb-true q id (sym (unsigned_tied q id) ∙ same) in (omega arith, omega arith)
  at_test q c false same e = let before = h.ids q c e in (before.0, omega arith)

held_all : (held : Held) (last : ℕ) (clauses : List Clause) → AreHeldTo held last → AreHeldTo (held_from held (suc last) clauses) (last + length clauses)
held_all held last [] h = record { ids = λ q c e. let before = h.ids q c e in (before.0, omega arith) }
held_all held last (clause ∷ clauses) h =
    let rest = held_all (insert held (suc last) clause) (suc last) clauses (held_more held last (suc last) clause h (omega arith)) in
    record { ids = λ q c e. let there = rest.ids q c e in (there.0, omega arith) }

none_held : (id : ℕ) (clause : Clause) → get (empty {R = nat_cmp}) id ≡ Some clause → (0 < id) × (id ≤ 0)
none_held id clause e =
    let bad : ◌≡◌ {A = Option Clause} None (Some clause) = sym (get-empty nat_cmp id) ∙ e in cc

held_first : (clauses : List Clause) → AreHeldTo (held_of clauses) (length clauses)
held_first clauses =
    let none : AreHeldTo empty 0 = record { ids = none_held } in
    let all = held_all empty 0 clauses none in
    record { ids = λ q c e. let there = all.ids q c e in (there.0, omega arith) }

-- each hint of a step that derives is held
hints_held : (held : Held) (last : ℕ) (set : LiteralSet) (hints : List ℕ) → AreHeldTo held last → last < 2 ^ 63 → EndsInConflict (get held) set hints → All IsId hints
hints_held held last set [] h few e = All-nil IsId
hints_held held last set (hint ∷ []) h few (clause, is, none) = let there = h.ids hint clause is in All-cons IsId hint [] (there.0, omega arith) (All-nil IsId)
hints_held held last set (hint ∷ next ∷ hints) h few (clause, l, is, unit, rest) =
    let there = h.ids hint clause is in
    All-cons IsId hint (next ∷ hints) (there.0, omega arith) (hints_held held last (literals.insert set l) (next ∷ hints) h few rest)

writable_from : (variables : ℕ) → variables < 2 ^ 31 → (held : Held) (last : ℕ) (log : List LogItem) → AreHeldTo held last → last + length log < 2 ^ 63
    → IsSoundFrom held last log → AddsInTurn variables last log → All IsWritable log
writable_from variables few held last [] h short sound turn = All-nil IsWritable
writable_from variables few held last (Add s ∷ log) h short sound turn =
    All-cons IsWritable (Add s) log (
      (omega (arith, sound.0), omega (arith, turn.0)),
      All-weaker (IsLiteralOf variables) (IsLiteralOf 2147483647) (λ l is. record { not_zero = is.not_zero; within = omega (arith, is.within) }) s.literals turn.1,
      hints_held held last _ s.hints h (omega arith) sound.1,
    )
    (writable_from variables few (insert held s.id s.literals) s.id log (held_more held last s.id s.literals h sound.0) (omega (arith, turn.0)) sound.2 turn.2)
writable_from variables few held last (Remove ids ∷ log) h short sound turn = absurd turn

pub writable : (f : Formula) (log : List LogItem) → f.variables < 2 ^ 31 → IsDerivation f log → All IsWritable log
writable f log few d = writable_from f.variables few (held_of f.clauses) (length f.clauses) log (held_first f.clauses) d.short d.sound d.in_turn
