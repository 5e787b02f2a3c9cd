-- Logs grow item by item: from the front, in turn, and before the checker.
use Rattle.std.proofs.Common.{◌≡◌, ℕ, suc, ◌+◌, ◌<◌, List, [], ◌∷◌, ◌++◌, length, take, drop, get_or, ap, sym, subst, ◌∙◌, add-one, arith}
use Rattle.std.proofs.lemmas.List.{take-append-le, length-take}
use Rattle.std.proofs.Math.Seq.{drop-cons}
use Rattle.proof_semantics.specs.declared.item.Item.TheVariants.{Add, Remove}
use Rattle.proof_semantics.specs.Logs.{LogItem, AddsInTurn}
use Rattle.direct_clauses.specs.Turns.{AddsAt}

pub begins_more : (first log next : List LogItem) (item : LogItem) → take (length first) log ≡ first → next ≡ log ++ item ∷ [] → take (length first) next ≡ first
begins_more first log next item begins is =
    let count : length first ≡ length (take (length first) log) = ap length (sym begins) in
    ap (take (length first)) is ∙ take-append-le (length first) log (item ∷ []) (omega (arith, count, length-take (length first) log)) ∙ begins

turn_front : (v last id : ℕ) (item : LogItem) (rest : List LogItem) → id ≡ last + 1 → AddsAt v id item → AddsInTurn v id rest → AddsInTurn v last (item ∷ rest)
turn_front v last id (Add s) rest is at behind = (at.0 ∙ is, at.1, subst (λ n. AddsInTurn v n rest) (sym at.0) behind)
turn_front v last id (Remove ids) rest is at behind = at

pub turn_more : (v last i : ℕ) (items : List LogItem) (item : LogItem) → i < length items → get_or items i item ≡ item → AddsAt v (last + i + 1) item
    → AddsInTurn v (last + (i + 1)) (drop (i + 1) items) → AddsInTurn v (last + i) (drop i items)
turn_more v last i items item low is at behind =
    let front : drop i items ≡ item ∷ drop (i + 1) items = rw add-one (drop-cons items i item low ∙ ap (λ x. x ∷ drop (suc i) items) is) in
    let same : last + (i + 1) ≡ last + i + 1 = omega arith in
    subst (AddsInTurn v (last + i)) (sym front) (turn_front v (last + i) (last + i + 1) item (drop (i + 1) items) (omega arith) at (subst (λ n. AddsInTurn v n (drop (i + 1) items)) same behind))
