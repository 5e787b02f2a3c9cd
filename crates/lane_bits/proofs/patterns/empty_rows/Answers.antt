use Rattle.std.proofs.Common.{◌≡◌, [], ◌∷◌, ◌++◌, ◌+◌, replicate, ℕ, List, ◌∙◌}
use Rattle.std.proofs.lemmas.List.{replicate-append-replicate}
use Rattle.lane_bits.proofs.patterns.empty_rows.Goals as goal

-- one more row without words
more_rows : (rows new : List (List ℕ)) (row : List ℕ) (n : ℕ) → rows ≡ replicate n [] → row ≡ [] → new ≡ rows ++ row ∷ [] → new ≡ replicate (n + 1) []
more_rows rows new row n before empty is = is ∙ (λ i. before i ++ empty i ∷ []) ∙ replicate-append-replicate n 1 []

pub loop-i-preserved : goal.loop-i-preserved
loop-i-preserved c = more_rows c.loop-i.rows.items c.push.new.self.items c.new.result c.loop-i._i c.loop-i.invariant c.new.ensures c.in_ok-push.ensures.items
