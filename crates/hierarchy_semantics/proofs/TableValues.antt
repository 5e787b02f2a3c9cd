-- The value of a flat table is that of the table at the values of its pins.
use Rattle.std.proofs.Common.{◌≡◌, ℕ, ◌+◌, Bool, false, cond, not, ◌&&◌, List, [], ◌∷◌, ◌++◌, map, length, get_or, Option, Some, None, refl, ap, sym, subst, ◌∙◌}
use Rattle.std.specs.List.{list_any, range_with_len}
use Rattle.std.proofs.lemmas.List.{append_assoc, length-append}
use Rattle.std.proofs.lemmas.Option.{none-some, same_Some}
use Rattle.semantics.specs.declared.mark.Mark.{Mark}
use Rattle.semantics.specs.Texts.{Bytes}
use Rattle.semantics.specs.Value.{Assignment, mark_matches, row_matches, table_value}
use Rattle.blif_semantics.specs.Tables.{NamedTable}
use Rattle.hierarchy_semantics.specs.Places.{and_value, values_of, value_at_bits}

-- v at the signals of the pins is w at the numbers from k on
AgreesFrom : (f : Bytes → ℕ) (v w : Assignment) → ℕ → List Bytes → Type 0
AgreesFrom f v w k [] = Unit {0}
AgreesFrom f v w k (p ∷ pins) = (v (f p) ≡ w k) × AgreesFrom f v w (k + 1) pins

row_matches-agrees : (f : Bytes → ℕ) (v w : Assignment) (marks : List Mark) (pins : List Bytes) (k : ℕ) → AgreesFrom f v w k pins
    → row_matches marks (map f pins) v ≡ row_matches marks (range_with_len k (length pins)) w
unfolding AgreesFrom
row_matches-agrees f v w [] pins k h = refl
row_matches-agrees f v w (m ∷ marks) [] k h = refl
row_matches-agrees f v w (m ∷ marks) (p ∷ pins) k h = let rest
    = row_matches-agrees f v w marks pins (k + 1) h.1 in ap (λ b. mark_matches m b && row_matches marks (map f pins) v) h.0 ∙ ap (λ b. mark_matches m (w k) && b) rest

some_row-agrees : (f : Bytes → ℕ) (v w : Assignment) (rows : List (List Mark)) (pins : List Bytes) → AgreesFrom f v w 0 pins
    → list_any (λ marks. row_matches marks (map f pins) v) rows ≡ list_any (λ marks. row_matches marks (range_with_len 0 (length pins)) w) rows
some_row-agrees f v w [] pins h = refl
some_row-agrees f v w (marks ∷ rows) pins h =
    let here = row_matches-agrees f v w marks pins 0 h in
    let rest = some_row-agrees f v w rows pins h in
    cc (here, rest)

at_end : (front : List Bool) (b : Bool) (rest : List Bool) → get_or (front ++ b ∷ rest) (length front) false ≡ b
at_end [] b rest = refl
at_end (a ∷ front) b rest = at_end front b rest

agrees : (f : Bytes → ℕ) (v : Assignment) (front : List Bool) (pins : List Bytes) → AgreesFrom f v (λ s. get_or (front ++ map (λ p. v (f p)) pins) s false) (length front) pins
unfolding AgreesFrom
agrees f v front [] = tt
agrees f v front (p ∷ pins) =
    let b : Bool = v (f p) in
    let rest : List Bool = map (λ p. v (f p)) pins in
    let next = agrees f v (front ++ b ∷ []) pins in
    let size : length (front ++ b ∷ []) ≡ length front + 1 = length-append front (b ∷ []) in
    let joined : (front ++ b ∷ []) ++ rest ≡ front ++ b ∷ rest = append_assoc front (b ∷ []) rest in (
      sym (at_end front b rest),
      subst (λ bits. AgreesFrom f v (λ s. get_or bits s false) (length front + 1) pins) joined
          (subst (λ k. AgreesFrom f v (λ s. get_or ((front ++ b ∷ []) ++ rest) s false) k pins) size next),
    )

pub table_value-pins : (f : Bytes → ℕ) (v : Assignment) (t : NamedTable) (label : Bytes)
    → table_value (record { name = label; pins = map f t.pins; rows = t.rows; plane = t.plane }) v ≡ value_at_bits t (map (λ p. v (f p)) t.pins)
table_value-pins f v t label =
    ap (λ b. cond b t.plane (not t.plane)) (some_row-agrees f v (λ s. get_or (map (λ p. v (f p)) t.pins) s false) t.rows t.pins (agrees f v [] t.pins))

-- ---- values of all pins

values_next : (g : Bytes → Bool) (p : Bytes) (pins : List Bytes) (o : Option Bool) (r : Option (List Bool)) (bits : List Bool) → and_value o r ≡ Some bits
    → ((b : Bool) → o ≡ Some b → g p ≡ b) → ((rest : List Bool) → r ≡ Some rest → map g pins ≡ rest) → map g (p ∷ pins) ≡ bits
values_next g p pins None r bits e here others = absurd (none-some bits e)
values_next g p pins (Some b) None bits e here others = absurd (none-some bits e)
values_next g p pins (Some b) (Some rest) bits e here others =
    ap (λ c. c ∷ map g pins) (here b refl) ∙ ap (λ cs. b ∷ cs) (others rest refl) ∙ same_Some (b ∷ rest) bits e

pub values-only : (value : Bytes → Option Bool) (g : Bytes → Bool) (pins : List Bytes) (bits : List Bool) → ((name : Bytes) (b : Bool) → value name ≡ Some b → g name ≡ b)
    → values_of value pins ≡ Some bits → map g pins ≡ bits
values-only value g [] bits only e = same_Some [] bits e
values-only value g (p ∷ pins) bits only e =
    values_next g p pins (value p) (values_of value pins) bits e (only p) (λ rest is. values-only value g pins rest only is)
