-- The items of a derivation hold numbers that a text may hold.
use Rattle.std.proofs.Common.{◌≡◌, ℕ, suc, ◌+◌, ◌^◌, ◌<◌, ◌≤◌, ◌==◌, true, false, Bool, cond, List, [], ◌∷◌, length, refl, ap, subst, sym, ◌∙◌, Some, ℤ, arith}
use Rattle.std.specs.Prelude.{All}
use Rattle.std.specs.Ordering.{nat_cmp}
use Rattle.std.specs.Cmp.{nat_cmp_total, unsigned_tied}
use Rattle.std.specs.FinMap.{get, insert, empty, get-insert, get-empty}
use Rattle.std.specs.FinSet as literals
use Rattle.std.proofs.lemmas.Bool.{eqb-true}
use Rattle.std.proofs.lemmas.List.Elements.{All-nil, All-cons, All-weaker}
use Rattle.proof_semantics.specs.declared.item.Item.TheVariants.{Add, Remove}
use Rattle.proof_semantics.specs.Clauses.{Clause, IsLiteralOf}
use Rattle.proof_semantics.specs.Logs.{LogItem, Held, LiteralSet, EndsInConflict, IsSoundFrom, held_from, held_of, AddsInTurn}
use Rattle.proof_semantics.specs.LratLaws.{IsId, IsWritable, DerivationTextLaw}
use Rattle.proof_semantics.proofs.LratRoundTrip.{round_trip_law}

-- only clauses with ids from 1 on and below the next one are held
unfoldable IsHeldBelow : ℕ → Held → Type 0
IsHeldBelow next held = (id : ℕ) (clause : Clause) → get held id ≡ Some clause → (0 < id) × (id < next)

IsHeldBelow-empty : IsHeldBelow 1 (empty {R = nat_cmp})
unfolding IsHeldBelow
IsHeldBelow-empty id clause e = let none = get-empty {X = Clause} nat_cmp id in cc

IsHeldBelow-insert : (next id : ℕ) (held : Held) (clause : Clause) → 0 < id → next ≤ id → IsHeldBelow next held → IsHeldBelow (suc id) (insert held id clause)
unfolding IsHeldBelow
IsHeldBelow-insert next id held clause p above h q c e
    = at_test (q == id) refl (sym (get-insert nat_cmp_total held id clause q ∙ ap (λ b. cond b (Some clause) (get held q)) (unsigned_tied q id)) ∙ e) where
      at_test : (t : Bool) → (q == id) ≡ t → cond t (Some clause) (get held q) ≡ Some c → (0 < q) × (q < suc id)
      at_test true same f = let is = eqb-true q id same in (omega (arith, is), omega (arith, is))
      at_test false same f = let below = h q c f in (below.0, omega (arith, below.1))

IsHeldBelow-from : (clauses : List Clause) (held : Held) (next : ℕ) → 0 < next → IsHeldBelow next held → IsHeldBelow (next + length clauses) (held_from held next clauses)
IsHeldBelow-from [] held next p h = let same : next + 0 ≡ next = omega arith in subst (λ n. IsHeldBelow n held) (sym same) h
IsHeldBelow-from (clause ∷ clauses) held next p h =
    let same : suc next + length clauses ≡ next + suc (length clauses) = omega arith in
    subst (λ n. IsHeldBelow n (held_from (insert held next clause) (suc next) clauses)) same
    (IsHeldBelow-from clauses (insert held next clause) (suc next) (omega arith) (IsHeldBelow-insert next next held clause p (omega arith) h))

-- each hint of a conflict is held
hints_held : (next : ℕ) (held : Held) (hints : List ℕ) (set : LiteralSet) → next ≤ 2 ^ 63 → IsHeldBelow next held → EndsInConflict (get held) set hints → All IsId hints
unfolding IsHeldBelow
hints_held next held [] set n h e = absurd e
hints_held next held (hint ∷ []) set n h (clause, is, none) = let here = h hint clause is in All-cons IsId hint [] (here.0, omega (arith, here.1)) (All-nil IsId)
hints_held next held (hint ∷ more ∷ hints) set n h (clause, l, is, unit, rest) =
    let here = h hint clause is in
    All-cons IsId hint (more ∷ hints) (here.0, omega (arith, here.1)) (hints_held next held (more ∷ hints) (literals.insert set l) n h rest)

narrow : (variables : ℕ) (l : ℤ) → variables < 2 ^ 31 → IsLiteralOf variables l → IsLiteralOf 2147483647 l
narrow variables l v h = record { not_zero = h.not_zero; within = omega (arith, h.within) }

writable : (variables last : ℕ) (held : Held) (log : List LogItem) → variables < 2 ^ 31 → last + length log < 2 ^ 63 → IsHeldBelow (suc last) held → AddsInTurn variables last log
    → IsSoundFrom held last log
    → All IsWritable log
writable variables last held [] v short h adds sound = All-nil IsWritable
writable variables last held (Remove ids ∷ log) v short h adds sound = absurd adds
writable variables last held (Add s ∷ log) v short h adds sound =
    let id : IsId s.id = (omega (arith, adds.0), omega (arith, adds.0)) in
    let hints = hints_held (suc last) held s.hints _ (omega arith) h sound.1 in
    let formed = All-weaker (IsLiteralOf variables) (IsLiteralOf 2147483647) (λ l is. narrow variables l v is) s.literals adds.1 in
    All-cons IsWritable (Add s) log (id, formed, hints)
    (writable variables s.id (insert held s.id s.literals) log v (omega (arith, adds.0)) (IsHeldBelow-insert (suc last) s.id held s.literals id.0 (omega (arith, adds.0)) h) adds.2 sound.2)

pub derivation_text_law : DerivationTextLaw
derivation_text_law f log v d =
    let next : 1 + length f.clauses ≡ suc (length f.clauses) = omega arith in
    round_trip_law log (writable f.variables (length f.clauses) (held_of f.clauses) log v d.short
    (subst (λ n. IsHeldBelow n (held_of f.clauses)) next (IsHeldBelow-from f.clauses empty 1 (omega arith) IsHeldBelow-empty)) d.in_turn d.sound)
