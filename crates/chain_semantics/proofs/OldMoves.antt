-- The moves but those to two signals, as those of all moves that are of the other kinds.
use Rattle.std.proofs.Common.{◌≡◌, ℕ, suc, ◌+◌, ◌<◌, Bool, true, false, List, [], ◌∷◌, ◌++◌, All, refl, ap, sym, subst, ◌∙◌, arith}
use Rattle.std.specs.List.{AllByRecursion, Contains, filter}
use Rattle.std.proofs.lemmas.Bool.{cond-true, cond-false}
use Rattle.std.proofs.lemmas.List.{append-nil}
use Rattle.std.proofs.lemmas.List.Elements.{All-weaker, All-filter, All-from_recursion, recursion_from_All, filter-append}
use Rattle.semantics.specs.Net.{TableValue, NetValue}
use Rattle.semantics.specs.declared.metric.Metric.{Metric}
use Rattle.chain_semantics.specs.declared.moves.Move.{Move}
use Rattle.chain_semantics.specs.declared.moves.Move.TheVariants.{Const, DropRow, DropLiteral, Signal, Pair}
use Rattle.chain_semantics.specs.Moves.{old_moves_of_table, pair_moves, moves_of_table, moves_from, moves_of, old_moves_of, is_old}
use Rattle.chain_semantics.specs.Minimality.{IsBrokenBySome, AreBrokenBySome, IsMinimalBy}
use Rattle.chain_semantics.specs.MoveOrder.{kind_number}
use Rattle.chain_semantics.proofs.MoveLists.{Contains-filter}
use Rattle.chain_semantics.proofs.MoveOrder.{IsOf, pairs_of_kind, old_kinds}
use Rattle.chain_semantics.proofs.NearSignals.{Contains-filtered}

kept_whole : {X : Type 0} (test : X → Bool) (xs : List X) → All (λ x. test x ≡ true) xs → filter test xs ≡ xs
kept_whole test [] h = refl
kept_whole test (x ∷ xs) h =
    cond-true (test x) (x ∷ filter test xs) (filter test xs) (h 0 x (omega arith)) ∙ ap (λ l. x ∷ l) (kept_whole test xs (λ k d low. h (suc k) d (omega arith)))

dropped_whole : {X : Type 0} (test : X → Bool) (xs : List X) → All (λ x. test x ≡ false) xs → filter test xs ≡ []
dropped_whole test [] h = refl
dropped_whole test (x ∷ xs) h =
    cond-false (test x) (x ∷ filter test xs) (filter test xs) (h 0 x (omega arith)) ∙ dropped_whole test xs (λ k d low. h (suc k) d (omega arith))

old-kind : (m : Move) → kind_number m < 4 → is_old m ≡ true
old-kind (Const t value) low = refl
old-kind (DropRow t row) low = refl
old-kind (DropLiteral t row pin) low = refl
old-kind (Signal t s flip) low = refl
old-kind (Pair t s flip_s u flip_u flip) low = absurd (omega arith)

new-kind : (m : Move) → kind_number m ≡ 4 → is_old m ≡ false
new-kind (Const t value) e = absurd (omega (arith, e))
new-kind (DropRow t row) e = absurd (omega (arith, e))
new-kind (DropLiteral t row pin) e = absurd (omega (arith, e))
new-kind (Signal t s flip) e = absurd (omega (arith, e))
new-kind (Pair t s flip_s u flip_u flip) e = refl

module _ (N : NetValue) where
  of_table : (t : ℕ) (table : TableValue) → filter is_old (moves_of_table N t table) ≡ old_moves_of_table N t table
  of_table t table =
      let old : List Move = old_moves_of_table N t table in
      let pairs : List Move = pair_moves N t table in
      let kept : filter is_old old ≡ old =
      kept_whole is_old old (old_kinds N (λ m. is_old m ≡ true) t table (λ k m low h. old-kind m (omega (arith, low, h.1)))) in
      let dropped : filter is_old pairs ≡ [] =
      dropped_whole is_old pairs (All-weaker (IsOf N t 4) (λ m. is_old m ≡ false) (λ m h. new-kind m h.1) pairs (pairs_of_kind N t table)) in
      filter-append is_old old pairs ∙ ap (λ l. l ++ filter is_old pairs) kept ∙ ap (λ l. old ++ l) dropped ∙ append-nil old

  of_tables : (t : ℕ) (tables : List TableValue) → filter is_old (moves_from (moves_of_table N) t tables) ≡ moves_from (old_moves_of_table N) t tables
  of_tables t [] = refl
  of_tables t (table ∷ tables) =
      filter-append is_old (moves_of_table N t table) (moves_from (moves_of_table N) (t + 1) tables)
      ∙ ap (λ l. l ++ filter is_old (moves_from (moves_of_table N) (t + 1) tables)) (of_table t table)
      ∙ ap (λ l. old_moves_of_table N t table ++ l) (of_tables (t + 1) tables)

  pub old-is : old_moves_of N ≡ filter is_old (moves_of N)
  unfolding moves_of old_moves_of
  old-is = sym (of_tables 0 N.tables)

  pub old-move : (m : Move) → Contains (old_moves_of N) m → Contains (moves_of N) m × (is_old m ≡ true)
  old-move m c = Contains-filtered is_old (moves_of N) m (subst (λ l. Contains l m) old-is c)

  pub move-old : (m : Move) → Contains (moves_of N) m × (is_old m ≡ true) → Contains (old_moves_of N) m
  move-old m h = subst (λ l. Contains l m) (sym old-is) (Contains-filter is_old (moves_of N) m h.1 h.0)

pub old-minimal : (metric : Metric) (exact : NetValue) (bound : ℕ) (N : NetValue) (vectors : List (List Bool))
    → IsMinimalBy metric exact bound N vectors → AreBrokenBySome metric exact bound N vectors (old_moves_of N)
old-minimal metric exact bound N vectors h =
    let P : Move → Type 0 = IsBrokenBySome metric exact bound N vectors in
    subst (AllByRecursion P) (sym (old-is N)) (recursion_from_All P (filter is_old (moves_of N)) (All-filter is_old P (moves_of N) (All-from_recursion P (moves_of N) h)))
