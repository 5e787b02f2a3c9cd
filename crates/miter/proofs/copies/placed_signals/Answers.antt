use Rattle.std.proofs.Common.{◌≡◌, ℕ, ◌+◌, ◌<◌, List, [], ◌∷◌, ◌++◌, length, get_or, map, take, ap, sym, ◌∙◌}
use Rattle.std.proofs.lemmas.List.{take_more, map-append}
use Rattle.miter.specs.Copies.{placed}
use Rattle.miter.proofs.copies.placed_signals.Goals as goal

-- one more of the list
mapped_one_more : (f : ℕ → ℕ) (xs : List ℕ) (i d y : ℕ) (list next : List ℕ) → i < length xs → y ≡ f (get_or xs i d) → next ≡ list ++ y ∷ [] → list ≡ map f (take i xs) → next ≡ map f (take (i + 1) xs)
mapped_one_more f xs i d y list next within is pushed before =
    pushed ∙ ap (λ l. l ++ y ∷ []) before ∙ ap (λ z. map f (take i xs) ++ z ∷ []) is ∙ sym (ap (map f) (take_more xs i d within) ∙ map-append f (take i xs) (get_or xs i d ∷ []))

pub loop-signal-preserved : goal.loop-signal-preserved
loop-signal-preserved c =
    mapped_one_more (placed c.args.inputs.now c.args.first) c.args.signals.now c.loop-signal.signal-index _ c.placed.result c.loop-signal.list c.push.new.self c.loop-signal-test.true
    c.placed.ensures c.in_ok-push.ensures.ok c.loop-signal.invariant
