-- What one turn of the loops over a row and over a table's rows makes of a chain.
use Rattle.std.proofs.Common.{◌≡◌, ℕ, suc, ◌+◌, ◌*◌, ◌-◌, ◌<◌, Bool, false, List, [], ◌∷◌, ◌++◌, length, drop, get_or, map, append_assoc, ap, sym, ◌∙◌, arith, drop-cons, None, Some}
use Rattle.std.specs.Prelude.{flat_map}
use Rattle.semantics.specs.declared.mark.Mark.{Mark}
use Rattle.proof_semantics.specs.NetClauses.{literal_at}
use Rattle.merge_log.specs.Chains.{ChainValue, MergedValue, implied, carried, asked, row_chain, table_chain}

cut : {X : Type 0} (xs : List X) (i : ℕ) (d : X) → i < length xs → drop i xs ≡ get_or xs i d ∷ drop (i + 1) xs
cut xs i d within =
    let next : suc i ≡ i + 1 = omega arith in
    drop-cons xs i d within ∙ ap (λ k. get_or xs i d ∷ drop k xs) next

-- one more in a list that is mapped, or that each item adds to
pub map_turn : {X Y : Type 0} (f : X → Y) (xs : List X) (i : ℕ) (d : X) (y : Y) (ys more whole : List Y) → i < length xs → y ≡ f (get_or xs i d) → more ≡ ys ++ y ∷ []
    → ys ++ map f (drop i xs) ≡ whole → more ++ map f (drop (i + 1) xs) ≡ whole
map_turn f xs i d y ys more whole within is pushed before =
    ap (λ l. l ++ map f (drop (i + 1) xs)) (pushed ∙ ap (λ z. ys ++ z ∷ []) is) ∙ append_assoc ys (f (get_or xs i d) ∷ []) (map f (drop (i + 1) xs))
    ∙ ap (λ l. ys ++ map f l) (sym (cut xs i d within)) ∙ before

pub flat_turn : {X Y : Type 0} (f : X → List Y) (xs : List X) (i : ℕ) (x : X) (ys more whole : List Y) → i < length xs → x ≡ get_or xs i x → more ≡ ys ++ f x
    → ys ++ flat_map f (drop i xs) ≡ whole → more ++ flat_map f (drop (i + 1) xs) ≡ whole
flat_turn f xs i x ys more whole within read added before =
    ap (λ l. l ++ flat_map f (drop (i + 1) xs)) added ∙ append_assoc ys (f x) (flat_map f (drop (i + 1) xs))
    ∙ ap (λ l. ys ++ flat_map f l) (sym (cut xs i x within ∙ ap (λ a. a ∷ drop (i + 1) xs) (sym read))) ∙ before

module _ (m : MergedValue) (marks : List Mark) (pins others : List ℕ) (k next : ℕ) (d : Mark) (c whole : ChainValue) (within : k < length marks)
    (width : length marks ≡ length pins) (wide : length marks ≡ length others) (before : row_chain m next (drop k marks) (drop k pins) (drop k others) c ≡ whole) where
  opened : row_chain m next (get_or marks k d ∷ drop (k + 1) marks) (get_or pins k 0 ∷ drop (k + 1) pins) (get_or others k 0 ∷ drop (k + 1) others) c ≡ whole
  opened =
      ap (λ ms. row_chain m next ms (get_or pins k 0 ∷ drop (k + 1) pins) (get_or others k 0 ∷ drop (k + 1) others) c) (sym (cut marks k d within))
      ∙ ap (λ ps. row_chain m next (drop k marks) ps (get_or others k 0 ∷ drop (k + 1) others) c) (sym (cut pins k 0 (omega (arith, within, width))))
      ∙ ap (λ qs. row_chain m next (drop k marks) (drop k pins) qs c) (sym (cut others k 0 (omega (arith, within, wide)))) ∙ before

  pub row_none : asked (get_or marks k d) ≡ None → row_chain m next (drop (k + 1) marks) (drop (k + 1) pins) (drop (k + 1) others) c ≡ whole
  row_none none = rw (none, row_chain) at opened

  pub row_some : (sign : Bool) (one two : ChainValue) → asked (get_or marks k d) ≡ Some sign → one ≡ implied c next (literal_at (get_or pins k 0) sign)
      → two ≡ carried one m (get_or pins k 0) (get_or others k 0) sign
      → row_chain m (next + 1) (drop (k + 1) marks) (drop (k + 1) pins) (drop (k + 1) others) two ≡ whole
  row_some sign one two some first second =
      let id : next + 1 ≡ suc next = omega arith in
      let step : row_chain m (suc next) (drop (k + 1) marks) (drop (k + 1) pins) (drop (k + 1) others)
      (carried (implied c next (literal_at (get_or pins k 0) sign)) m (get_or pins k 0) (get_or others k 0) sign) ≡ whole =
      rw (some, row_chain) at opened in
      ap (λ i. row_chain m i (drop (k + 1) marks) (drop (k + 1) pins) (drop (k + 1) others) two) id
      ∙ ap (λ e. row_chain m (suc next) (drop (k + 1) marks) (drop (k + 1) pins) (drop (k + 1) others) e) (second ∙ ap (λ e. carried e m (get_or pins k 0) (get_or others k 0) sign) first) ∙ step

-- one row more
pub table_turn : (row own implication equal rows j : ℕ) (c one two whole : ChainValue) → j < rows
    → table_chain (row + j) (own + j) (implication + j) (equal + 2 * j) (rows - j) c ≡ whole
    → one ≡ implied c (implication + j) (literal_at (row + j) false) → two ≡ implied one (equal + 2 * j) (literal_at (own + j) false)
    → table_chain (row + (j + 1)) (own + (j + 1)) (implication + (j + 1)) (equal + 2 * (j + 1)) (rows - (j + 1)) two ≡ whole
table_turn row own implication equal rows j c one two whole low before first second =
    let left : rows - j ≡ suc (rows - (j + 1)) = omega (arith, low) in
    let step : table_chain (suc (row + j)) (suc (own + j)) (suc (implication + j)) (suc (suc (equal + 2 * j))) (rows - (j + 1))
    (implied (implied c (implication + j) (literal_at (row + j) false)) (equal + 2 * j) (literal_at (own + j) false)) ≡ whole =
    ap (λ count. table_chain (row + j) (own + j) (implication + j) (equal + 2 * j) count c) (sym left) ∙ before in
    let a : row + (j + 1) ≡ suc (row + j) = omega arith in
    let b : own + (j + 1) ≡ suc (own + j) = omega arith in
    let d : implication + (j + 1) ≡ suc (implication + j) = omega arith in
    let e : equal + 2 * (j + 1) ≡ suc (suc (equal + 2 * j)) = omega arith in
    let last = second ∙ ap (λ x. implied x (equal + 2 * j) (literal_at (own + j) false)) first in
    ap (λ x. table_chain x (own + (j + 1)) (implication + (j + 1)) (equal + 2 * (j + 1)) (rows - (j + 1)) two) a
    ∙ ap (λ x. table_chain (suc (row + j)) x (implication + (j + 1)) (equal + 2 * (j + 1)) (rows - (j + 1)) two) b
    ∙ ap (λ x. table_chain (suc (row + j)) (suc (own + j)) x (equal + 2 * (j + 1)) (rows - (j + 1)) two) d
    ∙ ap (λ x. table_chain (suc (row + j)) (suc (own + j)) (suc (implication + j)) x (rows - (j + 1)) two) e
    ∙ ap (λ x. table_chain (suc (row + j)) (suc (own + j)) (suc (implication + j)) (suc (suc (equal + 2 * j))) (rows - (j + 1)) x) last ∙ step
