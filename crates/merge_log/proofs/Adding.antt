-- One step more, and what it makes equal.
use Rattle.std.proofs.Common.{◌≡◌, ℕ, suc, ◌+◌, ◌^◌, ◌<◌, Bool, true, false, not, List, [], ◌∷◌, ◌++◌, length, get_or, refl, ap, subst, sym, ◌∙◌, arith, append_assoc, ℤ, neg_ℤ, Option}
use Rattle.std.proofs.lemmas.List.{append-nil}
use Rattle.std.specs.List.{AllZip}
use Rattle.std.specs.FinSet as literals
use Rattle.std.specs.FinMap.{get}
use Rattle.std.proofs.lemmas.List.Elements.{All-from_recursion}
use Rattle.semantics.specs.declared.mark.Mark.{Mark}
use Rattle.semantics.specs.Net.{row_literals}
use Rattle.proof_semantics.specs.declared.item.Item.TheVariants.{Add, Remove}
use Rattle.proof_semantics.specs.Clauses.{Clause, IsLiteralOf}
use Rattle.proof_semantics.specs.NetClauses.{literal_at, literals_of_row, row_clauses, implications, variables_from}
use Rattle.proof_semantics.specs.Formula.{Formula}
use Rattle.proof_semantics.specs.Logs.{StepValue, LogItem, LiteralSet, with_negations, EndsInConflict, held_of, IsDerivation}
use Rattle.proof_semantics.specs.Conflicts.{added_clauses, clauses_with}
use Rattle.proof_semantics.proofs.Conflicts.{derivation_law}
use Rattle.merge_log.specs.Chains.{ChainValue, started, ended_with, MergedValue, first_of, row_chain, table_chain}
use Rattle.merge_log.specs.Ids.{HasId, HaveIds, link, forth, back, AreMerged}
use Rattle.merge_log.specs.Steps.{Adds}
use Rattle.merge_log.proofs.Chained.{Knows, chain-started, knows-first, knows-second}
use Rattle.merge_log.proofs.ClauseIds.{id-more, ids-more}
use Rattle.merge_log.proofs.RowLoops.{zip_turned}
use Rattle.merge_log.proofs.RowSteps.{row_derives}
use Rattle.merge_log.proofs.TableSteps.{SaySo, table_derives}

not_both : false ≡ true → ⊥
not_both e = cc

-- ---- growing logs

pub adds-none : (f : Formula) (log : List LogItem) → IsDerivation f log → Adds f log log []
adds-none f log h = record { derivation = h; added = sym (append-nil (added_clauses log)) }

pub adds-both : (f : Formula) (old mid new : List LogItem) (xs ys : List Clause) → Adds f old mid xs → Adds f mid new ys → Adds f old new (xs ++ ys)
adds-both f old mid new xs ys h k = record {
  derivation = k.derivation;
  added = k.added ∙ ap (λ l. l ++ ys) h.added ∙ append_assoc (added_clauses old) xs ys;
}

-- what had an id keeps it
pub adds-with : (f : Formula) (old new : List LogItem) (xs : List Clause) → Adds f old new xs → clauses_with f.clauses new ≡ clauses_with f.clauses old ++ xs
adds-with f old new xs h = ap (λ l. f.clauses ++ l) h.added ∙ sym (append_assoc f.clauses (added_clauses old) xs)

pub merged-more : (f : Formula) (old new : List LogItem) (xs : List Clause) (m : MergedValue) → Adds f old new xs → AreMerged (clauses_with f.clauses old) m → AreMerged (clauses_with f.clauses new) m
merged-more f old new xs m h merged s other =
    let both = merged s other in
    subst (λ cs. HasId cs (id_at s) (forth s (first_of m s)) × HasId cs (suc (id_at s)) (back s (first_of m s))) (sym (adds-with f old new xs h))
    (id-more (clauses_with f.clauses old) xs _ _ both.0, id-more (clauses_with f.clauses old) xs _ _ both.1)
  where
    id_at : ℕ → ℕ
    id_at q = get_or m.ids q 0

added-pushed : (log : List LogItem) (s : StepValue) → added_clauses (log ++ Add s ∷ []) ≡ added_clauses log ++ s.literals ∷ []
added-pushed [] s = refl
added-pushed (Add t ∷ log) s = ap (λ rest. t.literals ∷ rest) (added-pushed log s)
added-pushed (Remove ids ∷ log) s = added-pushed log s

pub literal-of : (variables place : ℕ) (sign : Bool) → place < variables → IsLiteralOf variables (literal_at place sign)
literal-of variables place true low = record { not_zero = omega arith; within = omega (arith, low) }
literal-of variables place false low = record { not_zero = omega arith; within = omega (arith, low) }

pub adds-pair : (f : Formula) (old new : List LogItem) (one other : ℤ) (hints : List ℕ) (id : ℕ) → IsDerivation f old → id ≡ length f.clauses + length old + 1 → id < 2 ^ 63
    → IsLiteralOf f.variables one → IsLiteralOf f.variables other
    → EndsInConflict (get (held_of (clauses_with f.clauses old))) (with_negations literals.empty (one ∷ other ∷ [])) hints
    → new ≡ old ++ Add (record { id = id; literals = one ∷ other ∷ []; hints = hints }) ∷ [] → Adds f old new ((one ∷ other ∷ []) ∷ [])
adds-pair f old new one other hints id h is short first second derives grown =
    let s : StepValue = record { id = id; literals = one ∷ other ∷ []; hints = hints } in
    record {
      derivation = subst (IsDerivation f) (sym grown)
          (derivation_law.next f old s h (record { id = is; short = short; literals = All-from_recursion (IsLiteralOf f.variables) (one ∷ other ∷ []) (first, (second, tt)); derives = derives }));
      added = ap added_clauses grown ∙ added-pushed old s;
    }

module _ (f : Formula) (old new : List LogItem) (h : IsDerivation f old) where
  Held : ℕ → Option Clause
  Held = get (held_of (clauses_with f.clauses old))

  -- ---- rows

  module _ (m : MergedValue) (merged : AreMerged (clauses_with f.clauses old) m) (marks : List Mark) where
    pub adds-row_forth : (row other id behind step : ℕ) (pins others hints : List ℕ) → length marks ≡ length pins → length marks ≡ length others
        → AllZip (λ p q. first_of m p ≡ first_of m q) pins others → HaveIds f.clauses id (row_clauses row (literals_of_row marks pins))
        → HaveIds f.clauses behind (row_clauses other (literals_of_row marks others)) → row < f.variables → other < f.variables
        → hints ≡ ended_with (row_chain m id marks pins others (started (literal_at row true) (literal_at other false))) (behind + row_literals marks)
        → step ≡ length f.clauses + length old + 1 → step < 2 ^ 63 → new ≡ old ++ Add (record { id = step; literals = forth row other; hints = hints }) ∷ []
        → Adds f old new (forth row other ∷ [])
    adds-row_forth row other id behind step pins others hints width wide same ids more low lower is at short grown =
        let start : LiteralSet = with_negations literals.empty (forth row other) in
        let all : List Clause = clauses_with f.clauses old in
        adds-pair f old new (literal_at row false) (literal_at other true) hints step h at short (literal-of f.variables row false low) (literal-of f.variables other true lower)
        (subst (EndsInConflict (get (held_of all)) start) (sym is)
        (row_derives all start m merged row other marks pins others id behind (started (literal_at row true) (literal_at other false))
        (chain-started (get (held_of all)) start (literal_at row true) (literal_at other false) (literal_at row false) (literal_at other true) refl refl refl)
        (knows-first (literal_at row true) (literal_at other false)) (knows-second (literal_at row true) (literal_at other false))
        width wide same (ids-more f.clauses (added_clauses old) _ id ids) (ids-more f.clauses (added_clauses old) _ behind more)))
        grown

    pub adds-row_back : (row other id behind step : ℕ) (pins others hints : List ℕ) → length marks ≡ length pins → length marks ≡ length others
        → AllZip (λ p q. first_of m p ≡ first_of m q) others pins → HaveIds f.clauses id (row_clauses row (literals_of_row marks pins))
        → HaveIds f.clauses behind (row_clauses other (literals_of_row marks others)) → row < f.variables → other < f.variables
        → hints ≡ ended_with (row_chain m behind marks others pins (started (literal_at row false) (literal_at other true))) (id + row_literals marks)
        → step ≡ length f.clauses + length old + 1 → step < 2 ^ 63 → new ≡ old ++ Add (record { id = step; literals = back row other; hints = hints }) ∷ []
        → Adds f old new (back row other ∷ [])
    adds-row_back row other id behind step pins others hints width wide same ids more low lower is at short grown =
        let start : LiteralSet = with_negations literals.empty (back row other) in
        let all : List Clause = clauses_with f.clauses old in
        adds-pair f old new (literal_at row true) (literal_at other false) hints step h at short (literal-of f.variables row true low) (literal-of f.variables other false lower)
        (subst (EndsInConflict (get (held_of all)) start) (sym is)
        (row_derives all start m merged other row marks others pins behind id (started (literal_at row false) (literal_at other true))
        (chain-started (get (held_of all)) start (literal_at row false) (literal_at other true) (literal_at row true) (literal_at other false) refl refl refl)
        (knows-second (literal_at row false) (literal_at other true)) (knows-first (literal_at row false) (literal_at other true))
        wide width same (ids-more f.clauses (added_clauses old) _ behind more) (ids-more f.clauses (added_clauses old) _ id ids)))
        grown

    pub row_forth_by : (row other id behind : ℕ) (pins others hints : List ℕ) (c : ChainValue) → length marks ≡ length pins → length marks ≡ length others
        → AllZip (λ p q. first_of m p ≡ first_of m q) pins others → HaveIds f.clauses id (row_clauses row (literals_of_row marks pins))
        → HaveIds f.clauses behind (row_clauses other (literals_of_row marks others)) → row < f.variables → other < f.variables
        → c ≡ started (literal_at row true) (literal_at other false)
        → hints ≡ ended_with (row_chain m id marks pins others c) (behind + row_literals marks) → length f.clauses + length old + 1 < 2 ^ 61
        → new ≡ old ++ Add (record { id = length f.clauses + length old + 1; literals = forth row other; hints = hints }) ∷ [] → Adds f old new (forth row other ∷ [])
    row_forth_by row other id behind pins others hints c width wide same ids more low lower chain is short grown =
        adds-row_forth row other id behind (length f.clauses + length old + 1) pins others hints width wide same ids more low lower
        (is ∙ ap (λ d. ended_with (row_chain m id marks pins others d) (behind + row_literals marks)) chain) refl (omega (arith, short)) grown

    pub row_back_by : (row other id behind : ℕ) (pins others hints : List ℕ) (c : ChainValue) → length marks ≡ length pins → length marks ≡ length others
        → AllZip (λ p q. first_of m p ≡ first_of m q) others pins → HaveIds f.clauses id (row_clauses row (literals_of_row marks pins))
        → HaveIds f.clauses behind (row_clauses other (literals_of_row marks others)) → row < f.variables → other < f.variables
        → c ≡ started (literal_at row false) (literal_at other true)
        → hints ≡ ended_with (row_chain m behind marks others pins c) (id + row_literals marks) → length f.clauses + length old + 1 < 2 ^ 61
        → new ≡ old ++ Add (record { id = length f.clauses + length old + 1; literals = back row other; hints = hints }) ∷ [] → Adds f old new (back row other ∷ [])
    row_back_by row other id behind pins others hints c width wide same ids more low lower chain is short grown =
        adds-row_back row other id behind (length f.clauses + length old + 1) pins others hints width wide same ids more low lower
        (is ∙ ap (λ d. ended_with (row_chain m behind marks others pins d) (id + row_literals marks)) chain) refl (omega (arith, short)) grown

    pub row_forth_linked : (sign : Bool) → sign ≡ true → (row other id behind : ℕ) (pins others hints : List ℕ) (c : ChainValue) (clause : Clause) → length marks ≡ length pins
        → length marks ≡ length others → AllZip (λ p q. first_of m p ≡ first_of m q) pins others → HaveIds f.clauses id (row_clauses row (literals_of_row marks pins))
        → HaveIds f.clauses behind (row_clauses other (literals_of_row marks others)) → row < f.variables → other < f.variables
        → c ≡ started (literal_at row sign) (literal_at other (not sign))
        → hints ≡ ended_with (row_chain m id marks pins others c) (behind + row_literals marks) → length f.clauses + length old + 1 < 2 ^ 61
        → clause ≡ link row other sign → new ≡ old ++ Add (record { id = length f.clauses + length old + 1; literals = clause; hints = hints }) ∷ [] → Adds f old new (link row other sign ∷ [])
    row_forth_linked true e row other id behind pins others hints c clause width wide same ids more low lower chain is short made grown =
        row_forth_by row other id behind pins others hints c width wide same ids more low lower chain is short (subst (λ l. new ≡ old ++ Add (record {
          id = length f.clauses + length old + 1;
          literals = l;
          hints = hints;
        }) ∷ []) made grown)
    row_forth_linked false e row other id behind pins others hints c clause width wide same ids more low lower chain is short made grown = absurd (not_both e)

    pub row_back_linked : (sign : Bool) → sign ≡ false → (row other id behind : ℕ) (pins others hints : List ℕ) (c : ChainValue) (clause : Clause) → length marks ≡ length pins
        → length marks ≡ length others → AllZip (λ p q. first_of m p ≡ first_of m q) pins others → HaveIds f.clauses id (row_clauses row (literals_of_row marks pins))
        → HaveIds f.clauses behind (row_clauses other (literals_of_row marks others)) → row < f.variables → other < f.variables
        → c ≡ started (literal_at row sign) (literal_at other (not sign))
        → hints ≡ ended_with (row_chain m behind marks others pins c) (id + row_literals marks) → length f.clauses + length old + 1 < 2 ^ 61
        → clause ≡ link row other sign → new ≡ old ++ Add (record { id = length f.clauses + length old + 1; literals = clause; hints = hints }) ∷ [] → Adds f old new (link row other sign ∷ [])
    row_back_linked true e row other id behind pins others hints c clause width wide same ids more low lower chain is short made grown = absurd (not_both (sym e))
    row_back_linked false e row other id behind pins others hints c clause width wide same ids more low lower chain is short made grown =
        row_back_by row other id behind pins others hints c width wide (zip_turned (first_of m) pins others same) ids more low lower chain is short
        (subst (λ l. new ≡ old ++ Add (record { id = length f.clauses + length old + 1; literals = l; hints = hints }) ∷ []) made grown)

  -- ---- tables

  pub adds-table : (from to row other count id equal last step : ℕ) (plane : Bool) (one two : ℤ) (hints : List ℕ)
      → IsLiteralOf f.variables one → IsLiteralOf f.variables two
      → Knows (started (neg_ℤ one) (neg_ℤ two)) (literal_at from plane) → Knows (started (neg_ℤ one) (neg_ℤ two)) (literal_at to (not plane))
      → HaveIds f.clauses id (implications row count (literal_at to plane)) → SaySo (clauses_with f.clauses old) equal row other count
      → HasId f.clauses last (literal_at from (not plane) ∷ variables_from other count)
      → hints ≡ ended_with (table_chain row other id equal count (started (neg_ℤ one) (neg_ℤ two))) last
      → step ≡ length f.clauses + length old + 1 → step < 2 ^ 63 → new ≡ old ++ Add (record { id = step; literals = one ∷ two ∷ []; hints = hints }) ∷ []
      → Adds f old new ((one ∷ two ∷ []) ∷ [])
  adds-table from to row other count id equal last step plane one two hints low lower here there ids say big is at short grown =
      let start : LiteralSet = with_negations literals.empty (one ∷ two ∷ []) in
      let all : List Clause = clauses_with f.clauses old in
      adds-pair f old new one two hints step h at short low lower
      (subst (EndsInConflict (get (held_of all)) start) (sym is)
      (table_derives all start count from to row other id equal last plane (started (neg_ℤ one) (neg_ℤ two))
      (chain-started (get (held_of all)) start (neg_ℤ one) (neg_ℤ two) one two refl refl refl) here there (ids-more f.clauses (added_clauses old) _ id ids) say
      (id-more f.clauses (added_clauses old) last _ big)))
      grown
