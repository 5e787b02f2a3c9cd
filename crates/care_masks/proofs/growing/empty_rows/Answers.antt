use Rattle.std.proofs.Common.{◌≡◌, [], ◌∷◌, ◌++◌, ◌+◌, replicate, ℕ, List, ◌∙◌}
use Rattle.std.proofs.lemmas.List.{replicate-append-replicate}
use Rattle.care_masks.proofs.growing.empty_rows.Goals as goal

-- one more row without words
more_rows : (rows new : List (List ℕ)) (row : List ℕ) (n : ℕ) → rows ≡ replicate n [] → row ≡ [] → new ≡ rows ++ row ∷ [] → new ≡ replicate (n + 1) []
more_rows rows new row n before empty is = is ∙ (λ i. before i ++ empty i ∷ []) ∙ replicate-append-replicate n 1 []

pub loop-t-preserved : goal.loop-t-preserved
loop-t-preserved c = more_rows c.loop-t.rows.items c.push.new.self.items c.new.result c.loop-t._t c.loop-t.invariant c.new.ensures c.in_ok-push.ensures.items
