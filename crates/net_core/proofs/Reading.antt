-- What is past the signals, table by table.
use Rattle.std.proofs.Common.{◌≡◌, ℕ, ◌+◌, ◌<◌, Bool, true, false, List, ◌++◌, length, get_or, drop, find, flat_map, Option, Some, None, append_assoc, true≢false, refl, sym, ap, subst, ◌∙◌}
use Rattle.std.proofs.lemmas.List.{drop_more}
use Rattle.std.proofs.lemmas.List.Folds.{find-append}
use Rattle.std.specs.Option.{option_or, is_some}
use Rattle.semantics.specs.Net.{TableValue}

or_found : (o rest : Option ℕ) → is_some o ≡ true → option_or o rest ≡ o
or_found None rest e = absurd (true≢false (sym e))
or_found (Some s) rest e = refl

or_missed : (o rest : Option ℕ) → is_some o ≡ false → option_or o rest ≡ rest
or_missed None rest e = refl
or_missed (Some s) rest e = absurd (true≢false e)

module _ (p : ℕ → Bool) (tables : List TableValue) (outputs : List ℕ) where
  -- the first in the tables from table i on, and then the outputs
  abbrev pub past_from : ℕ → Option ℕ
  past_from i = find p (flat_map (λ t. t.pins) (drop i tables) ++ outputs)

  module _ (items : List TableValue) (i : ℕ) (t : TableValue) (pins : List ℕ) (found : Option ℕ) (all : items ≡ tables) (within : i < length items) (read : t ≡ get_or items i t)
      (are : pins ≡ t.pins) (is : found ≡ find p pins) where
    -- what is past in the pins of the table, or else in the rest
    past_from-next : past_from i ≡ option_or found (past_from (i + 1))
    past_from-next =
        let rest = flat_map (λ (u : TableValue). u.pins) (drop (i + 1) tables) in
        let here : get_or tables i t ≡ t = ap (λ l. get_or l i t) (sym all) ∙ sym read in
        let same : find p t.pins ≡ found = ap (find p) (sym are) ∙ sym is in
        ap (λ l. find p (flat_map (λ (u : TableValue). u.pins) l ++ outputs)) (drop_more tables i t (subst (λ l. i < length l) all within))
        ∙ ap (λ (u : TableValue). find p ((u.pins ++ rest) ++ outputs)) here
        ∙ ap (find p) (append_assoc t.pins rest outputs)
        ∙ find-append p t.pins (rest ++ outputs)
        ∙ ap (λ o. option_or o (find p (rest ++ outputs))) same

    pub past_here : is_some found ≡ true → found ≡ past_from i
    past_here e = sym (past_from-next ∙ or_found found (past_from (i + 1)) e)

    pub past_later : is_some found ≡ false → past_from (i + 1) ≡ past_from i
    past_later e = sym (past_from-next ∙ or_missed found (past_from (i + 1)) e)
