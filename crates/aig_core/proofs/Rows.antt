-- The literals of rows and tables, mark by mark and row by row.
use Rattle.std.proofs.Common.{◌≡◌, ℕ, suc, ◌+◌, ◌<◌, ◌≤◌, Bool, true, false, cond, not, List, [], ◌∷◌, length, get_or, drop, refl, sym, ap, subst, ◌∙◌, drop-cons, add-one, arith}
use Rattle.std.specs.Prelude.{◌&&◌, ◌||◌, All}
use Rattle.std.specs.List.{list_any}
use Rattle.std.proofs.lemmas.List.{drop_all}
use Rattle.std.proofs.lemmas.List.Elements.{All-weaker}
use Rattle.semantics.specs.declared.mark.Mark.{Mark}
use Rattle.semantics.specs.declared.mark.Mark.TheVariants.{Zero, One, Dash}
use Rattle.semantics.specs.Net.{TableValue}
use Rattle.semantics.specs.Value.{Assignment, mark_matches, row_matches}
use Rattle.aig_core.specs.Graph.{GraphValue, IsLiteralOf, literal_value, IsConsistent}
use Rattle.aig_core.specs.Grown.{Grows, IsConjunctionOf, IsDisjunctionOf, IsOppositeOf}
use Rattle.aig_core.specs.Tables.{signal_values, IsMarked, IsRowOf, IsSomeRowOf, IsTableOf}
use Rattle.aig_core.proofs.Growing.{grows_refl, grows_trans, consistent_before, literal_later}

-- the marks so far and those that are left are the whole row
pub record IsRowSoFar (start g : GraphValue) (marks : List Mark) (pins signals : List ℕ) (k all : ℕ) : Type 0 where
  pub grows : Grows start g
  pub within : IsLiteralOf g all
  pub is : (x : List Bool) (v : Assignment) → IsConsistent g x v
      → (literal_value v all && row_matches (drop k marks) (drop k pins) (signal_values signals v)) ≡ row_matches marks pins (signal_values signals v)

-- the rows so far and those that are left are all rows
pub record AreRowsSoFar (start g : GraphValue) (rows : List (List Mark)) (pins signals : List ℕ) (k some : ℕ) : Type 0 where
  pub grows : Grows start g
  pub within : IsLiteralOf g some
  pub is : (x : List Bool) (v : Assignment) → IsConsistent g x v
      → (literal_value v some || list_any (λ marks. row_matches marks pins (signal_values signals v)) (drop k rows)) ≡ list_any (λ marks. row_matches marks pins (signal_values signals v)) rows

-- facts on truth values
and_shifted : (a b c : Bool) → ((a && b) && c) ≡ (a && (b && c))
and_shifted true b c = refl
and_shifted false b c = refl

and_true : (a : Bool) → (a && true) ≡ a
and_true true = refl
and_true false = refl

or_shifted : (a b c : Bool) → ((a || b) || c) ≡ (a || (b || c))
or_shifted true b c = refl
or_shifted false b c = refl

or_false : (a : Bool) → (a || false) ≡ a
or_false true = refl
or_false false = refl

cond_constants : (a : Bool) → cond a true false ≡ a
cond_constants true = refl
cond_constants false = refl

cond_opposite : (a : Bool) → not a ≡ cond a false true
cond_opposite true = refl
cond_opposite false = refl

-- the literals of a graph stay such while it grows
pub all_later : (old new : GraphValue) (signals : List ℕ) → Grows old new → All (IsLiteralOf old) signals → All (IsLiteralOf new) signals
all_later old new signals grows all = All-weaker (IsLiteralOf old) (IsLiteralOf new) (λ l low. literal_later old new l grows low) signals all

-- one mark
pub marked_zero : (g : GraphValue) (pin other all r : ℕ) → IsOppositeOf pin other → IsConjunctionOf g all other r → IsMarked g Zero pin all r
marked_zero g pin other all r opposite both = record {
  within = both.within;
  is = λ x v val. both.is x v val ∙ ap (λ b. literal_value v all && b) (opposite.is v);
}

pub marked_one : (g : GraphValue) (pin all r : ℕ) → IsConjunctionOf g all pin r → IsMarked g One pin all r
marked_one g pin all r both = record { within = both.within; is = both.is }

pub marked_dash : (g : GraphValue) (pin all : ℕ) → IsLiteralOf g all → IsMarked g Dash pin all all
marked_dash g pin all within = record { within = within; is = λ x v val. sym (and_true (literal_value v all)) }

-- the constant true is a row of no marks so far
pub row_none : (g : GraphValue) (marks : List Mark) (pins signals : List ℕ) (k : ℕ) → k ≡ 0 → IsRowSoFar g g marks pins signals k 1
row_none g marks pins signals k start = record {
  grows = grows_refl g;
  within = omega arith;
  is = λ x v val. let zero_is : v 0 ≡ false = val.constant in rw (start, zero_is) refl;
}

-- one more mark of a row
module _ (start b c : GraphValue) (marks : List Mark) (pins signals : List ℕ) (k all : ℕ) (mark : Mark) (signal pin r : ℕ) where
  row_step : (v : Assignment) → literal_value v pin ≡ literal_value v (get_or signals signal 0) → drop k marks ≡ mark ∷ drop (k + 1) marks → drop k pins ≡ signal ∷ drop (k + 1) pins
      → ((literal_value v all && mark_matches mark (literal_value v pin)) && row_matches (drop (k + 1) marks) (drop (k + 1) pins) (signal_values signals v))
      ≡ (literal_value v all && row_matches (drop k marks) (drop k pins) (signal_values signals v))
  row_step v same em ep =
      and_shifted (literal_value v all) (mark_matches mark (literal_value v pin)) (row_matches (drop (k + 1) marks) (drop (k + 1) pins) (signal_values signals v))
      ∙ (rw (em, ep, same) refl)

  pub row_more : IsRowSoFar start b marks pins signals k all → Grows b c → IsMarked c mark pin all r → pin ≡ get_or signals signal 0 → drop k marks ≡ mark ∷ drop (k + 1) marks
      → drop k pins ≡ signal ∷ drop (k + 1) pins
      → IsRowSoFar start c marks pins signals (k + 1) r
  row_more so grows marked same em ep = record {
    grows = grows_trans start b c so.grows grows;
    within = marked.within;
    is = λ x v val.
        ap (λ t. t && row_matches (drop (k + 1) marks) (drop (k + 1) pins) (signal_values signals v)) (marked.is x v val)
        ∙ row_step v (ap (literal_value v) same) em ep
        ∙ so.is x v (consistent_before b c x v grows val);
  }

pub row_done : (start g : GraphValue) (marks : List Mark) (pins signals : List ℕ) (k all : ℕ) → IsRowSoFar start g marks pins signals k all → length marks ≤ k → IsRowOf g marks pins signals all
row_done start g marks pins signals k all so past = record {
  within = so.within;
  is = λ x v val.
      sym (and_true (literal_value v all)) ∙ (let none : drop k marks ≡ [] = drop_all k marks past in
      subst (λ (rest : List Mark). (literal_value v all && row_matches rest (drop k pins) (signal_values signals v)) ≡ row_matches marks pins (signal_values signals v)) none (so.is x v val));
}

-- the constant false is no row so far
pub rows_none : (g : GraphValue) (rows : List (List Mark)) (pins signals : List ℕ) (k : ℕ) → k ≡ 0 → AreRowsSoFar g g rows pins signals k 0
rows_none g rows pins signals k start = record {
  grows = grows_refl g;
  within = omega arith;
  is = λ x v val. let zero_is : v 0 ≡ false = val.constant in rw (start, zero_is) refl;
}

-- one more row
module _ (start b c d : GraphValue) (rows : List (List Mark)) (pins signals : List ℕ) (k some : ℕ) (row : List Mark) (this r : ℕ) where
  pub rows_more : AreRowsSoFar start b rows pins signals k some → Grows b c → Grows c d → IsRowOf c row pins signals this → IsDisjunctionOf d some this r → drop k rows ≡ row ∷ drop (k + 1) rows
      → AreRowsSoFar start d rows pins signals (k + 1) r
  rows_more so bc cd one either er = record {
    grows = grows_trans start b d so.grows (grows_trans b c d bc cd);
    within = either.within;
    is = λ x v val.
        let before : IsConsistent c x v = consistent_before c d x v cd val in
        let P : List Mark → Bool = λ marks. row_matches marks pins (signal_values signals v) in
        ap (λ t. t || list_any P (drop (k + 1) rows)) (either.is x v val)
        ∙ or_shifted (literal_value v some) (literal_value v this) (list_any P (drop (k + 1) rows))
        ∙ ap (λ t. literal_value v some || (t || list_any P (drop (k + 1) rows))) (one.is x v before)
        ∙ ap (λ (rs : List (List Mark)). literal_value v some || list_any P rs) (sym er)
        ∙ so.is x v (consistent_before b c x v bc before);
  }

pub rows_done : (start g : GraphValue) (rows : List (List Mark)) (pins signals : List ℕ) (k some : ℕ) → AreRowsSoFar start g rows pins signals k some → length rows ≤ k
    → IsSomeRowOf g rows pins signals some
rows_done start g rows pins signals k some so past = record {
  within = so.within;
  is = λ x v val.
      sym (or_false (literal_value v some)) ∙ (let none : drop k rows ≡ [] = drop_all k rows past in
      subst (λ (rest : List (List Mark)). (literal_value v some || list_any (λ marks. row_matches marks pins (signal_values signals v)) rest)
      ≡ list_any (λ marks. row_matches marks pins (signal_values signals v)) rows) none (so.is x v val));
}

-- the plane of a table
pub table_true : (g : GraphValue) (t : TableValue) (signals : List ℕ) (r : ℕ) → IsSomeRowOf g t.rows t.pins signals r → t.plane ≡ true → IsTableOf g t signals r
table_true g t signals r some plane = record {
  within = some.within;
  is = λ x v val.
      some.is x v val ∙ sym (ap (λ p. cond (list_any (λ marks. row_matches marks t.pins (signal_values signals v)) t.rows) p (not p)) plane ∙ cond_constants
      (list_any (λ marks. row_matches marks t.pins (signal_values signals v)) t.rows));
}

pub table_false : (g : GraphValue) (t : TableValue) (signals : List ℕ) (some r : ℕ) → IsSomeRowOf g t.rows t.pins signals some → IsOppositeOf some r → t.plane ≡ false → IsTableOf g t signals r
table_false g t signals some r is_some opposite plane = record {
  within = opposite.within g is_some.within;
  is = λ x v val.
      opposite.is v ∙ ap not (is_some.is x v val) ∙ cond_opposite (list_any (λ marks. row_matches marks t.pins (signal_values signals v)) t.rows)
      ∙ sym (ap (λ p. cond (list_any (λ marks. row_matches marks t.pins (signal_values signals v)) t.rows) p (not p)) plane);
}

-- an item that was read is the first of those that are left
pub row_front : {X : Type 0} (xs : List X) (k : ℕ) (x : X) → k < length xs → x ≡ get_or xs k x → drop k xs ≡ x ∷ drop (k + 1) xs
row_front xs k x low read = rw add-one (drop-cons xs k x low ∙ ap (λ y. y ∷ drop (suc k) xs) (sym read))

pub same_rows : (g : GraphValue) (rows rows' : List (List Mark)) (pins pins' signals : List ℕ) (r : ℕ) → IsSomeRowOf g rows pins signals r → rows ≡ rows' → pins ≡ pins'
    → IsSomeRowOf g rows' pins' signals r
same_rows g rows rows' pins pins' signals r is er ep =
    subst (λ (ps : List ℕ). IsSomeRowOf g rows' ps signals r) ep (subst (λ (rs : List (List Mark)). IsSomeRowOf g rs pins signals r) er is)

pub row_next : {X : Type 0} (xs : List X) (k : ℕ) (d : X) → k < length xs → drop k xs ≡ get_or xs k d ∷ drop (k + 1) xs
row_next xs k d low = rw add-one (drop-cons xs k d low)
