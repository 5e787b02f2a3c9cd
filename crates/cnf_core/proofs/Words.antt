-- Lines of numbers, each before a blank.
use Rattle.std.proofs.Common.{◌≡◌, List, [], ◌∷◌, ◌++◌, map, flat_map, refl, ap, sym, ◌∙◌, append_assoc}
use Rattle.std.specs.List.{join_with_byte}
use Rattle.semantics.specs.Texts.{Bytes, line_text}

-- a word before others
pub line_text-word : (word : Bytes) (words : List Bytes) (next : Bytes) (more : List Bytes) → line_text (word ∷ (words ++ next ∷ more)) ≡ (word ++ 32 ∷ []) ++ line_text (words ++ next ∷ more)
line_text-word word [] next more =
    append_assoc word (32 ∷ join_with_byte 32 (next ∷ more)) (10 ∷ []) ∙ sym (append_assoc word (32 ∷ []) (line_text (next ∷ more)))
line_text-word word (w ∷ words) next more =
    append_assoc word (32 ∷ join_with_byte 32 (w ∷ (words ++ next ∷ more))) (10 ∷ []) ∙ sym (append_assoc word (32 ∷ []) (line_text (w ∷ (words ++ next ∷ more))))

-- the words of numbers before others
pub line_text-numbers : {X : Type 0} (text : X → Bytes) (numbers : List X) (next : Bytes) (more : List Bytes)
    → flat_map (λ n. text n ++ 32 ∷ []) numbers ++ line_text (next ∷ more) ≡ line_text (map text numbers ++ next ∷ more)
line_text-numbers text [] next more = refl
line_text-numbers text (n ∷ numbers) next more =
    append_assoc (text n ++ 32 ∷ []) (flat_map (λ k. text k ++ 32 ∷ []) numbers) (line_text (next ∷ more))
    ∙ ap (λ rest. (text n ++ 32 ∷ []) ++ rest) (line_text-numbers text numbers next more) ∙ sym (line_text-word (text n) (map text numbers) next more)
