-- Rows with the same marks, whose pins were made equal, are made equal.
use Rattle.std.proofs.Common.{◌≡◌, ℕ, suc, ◌+◌, Bool, true, false, cond, List, [], ◌∷◌, ◌++◌, length, map, refl, ap, subst, sym, ◌∙◌, ℤ, neg_ℤ}
use Rattle.std.specs.List.{AllZip, AllByRecursion}
use Rattle.std.specs.FinMap.{get}
use Rattle.std.proofs.Math.IntN.{neg_ℤ-neg_ℤ}
use Rattle.std.proofs.lemmas.List.{length-map}
use Rattle.std.proofs.lemmas.List.Elements.{All-from_recursion}
use Rattle.semantics.specs.declared.mark.Mark.{Mark}
use Rattle.semantics.specs.declared.mark.Mark.TheVariants.{Zero, One, Dash}
use Rattle.semantics.specs.Net.{row_literals}
use Rattle.proof_semantics.specs.Clauses.{Clause, has_literal, with_literals}
use Rattle.proof_semantics.specs.NetClauses.{literal_at, literals_of_row, implication, row_clauses}
use Rattle.proof_semantics.specs.Logs.{LiteralSet, EndsInConflict, held_of}
use Rattle.proof_semantics.proofs.Counts.{length-literals_of_row}
use Rattle.merge_log.specs.Chains.{ChainValue, implied, ended_with, MergedValue, first_of, carried, row_chain}
use Rattle.merge_log.specs.Ids.{HaveIds, AreMerged}
use Rattle.merge_log.proofs.Chained.{Knows, IsChain, chain-finished}
use Rattle.merge_log.proofs.ClauseIds.{held-id, ids-parts}
use Rattle.merge_log.proofs.Carried.{Longer, longer-implied, carried-longer}

neg_twice : (l : ℤ) → neg_ℤ (neg_ℤ l) ≡ l
neg_twice l = neg_ℤ-neg_ℤ l

push_all : (P : ℤ → Type 0) (clause : Clause) (l : ℤ) → AllByRecursion P clause → P l → AllByRecursion P (clause ++ l ∷ [])
push_all P [] l h k = (k, tt)
push_all P (a ∷ clause) l h k = (h.0, push_all P clause l h.1 k)

with_all : (P : ℤ → Type 0) (clause literals : Clause) → AllByRecursion P clause → AllByRecursion P literals → AllByRecursion P (with_literals clause literals)
with_all P clause [] h k = h
with_all P clause (l ∷ literals) h k = with_all P (cond (has_literal clause l) clause (clause ++ l ∷ [])) literals (by_test (has_literal clause l)) k.1 where
  by_test : (t : Bool) → AllByRecursion P (cond t clause (clause ++ l ∷ []))
  by_test true = h
  by_test false = push_all P clause l h k.0

-- the negations of literals that are known are false
negations_false : (c : ChainValue) (literals : List ℤ) → AllByRecursion (Knows c) literals → AllByRecursion (λ a. Knows c (neg_ℤ a)) (map neg_ℤ literals)
negations_false c [] h = tt
negations_false c (l ∷ literals) h = (subst (Knows c) (sym (neg_twice l)) h.0, negations_false c literals h.1)

module _ (clauses : List Clause) (start : LiteralSet) (m : MergedValue) (merged : AreMerged clauses m) (row : ℕ) where
  record RowKnown (c d : ChainValue) (literals : List ℤ) : Type 0 where
    chain : IsChain (get (held_of clauses)) start d
    kept : (l : ℤ) → Knows c l → Knows d l
    known : AllByRecursion (Knows d) literals

  row_known : (marks : List Mark) (pins others : List ℕ) (id : ℕ) (c : ChainValue) → IsChain (get (held_of clauses)) start c → Knows c (literal_at row true)
      → AllZip (λ p q. first_of m p ≡ first_of m q) pins others → HaveIds clauses id (map (implication row) (literals_of_row marks pins))
      → RowKnown c (row_chain m id marks pins others c) (literals_of_row marks others)
  row_known [] pins others id c chain here same ids = record { chain = chain; kept = λ l h. h; known = tt }
  row_known (mark ∷ marks) [] [] id c chain here same ids = record { chain = chain; kept = λ l h. h; known = tt }
  row_known (mark ∷ marks) [] (q ∷ others) id c chain here same ids = absurd same
  row_known (mark ∷ marks) (p ∷ pins) [] id c chain here same ids = absurd same
  row_known (Dash ∷ marks) (p ∷ pins) (q ∷ others) id c chain here same ids = row_known marks pins others id c chain here same.1 ids
  row_known (Zero ∷ marks) (p ∷ pins) (q ∷ others) id c chain here same ids =
      let one : ChainValue = implied c id (literal_at p false) in
      let two : ChainValue = carried one m p q false in
      let first : Longer clauses start c one (literal_at p false) = longer-implied clauses start c id (literal_at row false) (literal_at p false) chain ids.0 here in
      let second : Longer clauses start one two (literal_at q false) = carried-longer clauses start m merged one p q false first.chain first.known same.0 in
      let rest = row_known marks pins others (suc id) two second.chain (second.kept (literal_at row true) (first.kept (literal_at row true) here)) same.1 ids.1 in
      record {
        chain = rest.chain;
        kept = λ l h. rest.kept l (second.kept l (first.kept l h));
        known = (rest.kept (literal_at q false) second.known, rest.known);
      }
  row_known (One ∷ marks) (p ∷ pins) (q ∷ others) id c chain here same ids =
      let one : ChainValue = implied c id (literal_at p true) in
      let two : ChainValue = carried one m p q true in
      let first : Longer clauses start c one (literal_at p true) = longer-implied clauses start c id (literal_at row false) (literal_at p true) chain ids.0 here in
      let second : Longer clauses start one two (literal_at q true) = carried-longer clauses start m merged one p q true first.chain first.known same.0 in
      let rest = row_known marks pins others (suc id) two second.chain (second.kept (literal_at row true) (first.kept (literal_at row true) here)) same.1 ids.1 in
      record {
        chain = rest.chain;
        kept = λ l h. rest.kept l (second.kept l (first.kept l h));
        known = (rest.kept (literal_at q true) second.known, rest.known);
      }

  -- where the row is true and the other one is false, a conflict comes
  pub row_derives : (other : ℕ) (marks : List Mark) (pins others : List ℕ) (id behind : ℕ) (c : ChainValue) → IsChain (get (held_of clauses)) start c
      → Knows c (literal_at row true) → Knows c (literal_at other false) → length marks ≡ length pins → length marks ≡ length others
      → AllZip (λ p q. first_of m p ≡ first_of m q) pins others → HaveIds clauses id (row_clauses row (literals_of_row marks pins))
      → HaveIds clauses behind (row_clauses other (literals_of_row marks others))
      → EndsInConflict (get (held_of clauses)) start (ended_with (row_chain m id marks pins others c) (behind + row_literals marks))
  row_derives other marks pins others id behind c chain here there width wide same ids more =
      let d : ChainValue = row_chain m id marks pins others c in
      let asked : List ℤ = literals_of_row marks others in
      let whole : Clause = with_literals (literal_at other true ∷ []) (map neg_ℤ asked) in
      let own = ids-parts clauses (map (implication row) (literals_of_row marks pins)) (with_literals (literal_at row true ∷ []) (map neg_ℤ (literals_of_row marks pins)) ∷ []) id
      (id + length (map (implication row) (literals_of_row marks pins))) refl ids in
      let count : behind + row_literals marks ≡ behind + length (map (implication other) asked) =
      ap (λ k. behind + k) (sym (length-map asked (implication other) ∙ length-literals_of_row marks others wide)) in
      let last = ids-parts clauses (map (implication other) asked) (whole ∷ []) behind (behind + row_literals marks) count more in
      let known = row_known marks pins others id c chain here same own.0 in
      chain-finished (get (held_of clauses)) start d (behind + row_literals marks) known.chain (record {
        clause = whole;
        is = held-id clauses (behind + row_literals marks) whole last.1.0;
        none = All-from_recursion (λ a. Knows d (neg_ℤ a)) whole
            (with_all (λ a. Knows d (neg_ℤ a)) (literal_at other true ∷ []) (map neg_ℤ asked) (known.kept (literal_at other false) there, tt) (negations_false d asked known.known));
      })
