-- The steps by cases refute the goal of a net whose output is 0 at every input vector.
use Rattle.std.proofs.Common.{◌≡◌, ℕ, zero, suc, ◌+◌, ◌-◌, ◌^◌, ◌<◌, ◌≤◌, Bool, true, false, List, [], ◌∷◌, ◌++◌, length, refl, ap, subst, sym, ◌∙◌, arith, append_assoc, length-append, All, Option}
use Rattle.std.proofs.Common.{None, Some}
use Rattle.std.specs.FinMap.{get, insert}
use Rattle.std.proofs.lemmas.List.{append-nil}
use Rattle.std.proofs.lemmas.List.Elements.{All-nil, All-cons}
use Rattle.semantics.specs.Net.{TableValue}
use Rattle.semantics.specs.Order.{IsOrderOf}
use Rattle.semantics.specs.Value.{value_of}
use Rattle.proof_semantics.specs.declared.item.Item.TheVariants.{Add, Remove}
use Rattle.proof_semantics.specs.Clauses.{Clause, IsLiteralOf}
use Rattle.proof_semantics.specs.NetClauses.{goal_clauses}
use Rattle.proof_semantics.specs.Logs.{Held, StepValue, LogItem, IsSoundFrom, IsSoundLog, held_of, last_added_after, last_added, Refutes, AddsInTurn, IsDerivation}
use Rattle.proof_semantics.proofs.Bounds.{IsLiteralOf-at}
use Rattle.case_tree.specs.Cases.{negation_from, negation, join_step, step_count, cases_from}
use Rattle.case_tree.proofs.Units.{AreHeldFrom}
use Rattle.case_tree.proofs.Held.{get-added, get-other, AreHeldFrom-same, held_of-held}
use Rattle.case_tree.proofs.Vectors.{vector-derives}
use Rattle.case_tree.proofs.Joins.{join-derives}

-- tables over n inputs and an order in which they can be evaluated, with a signal that is 0 at every input vector
pub record IsZeroSignal (n : ℕ) (tables : List TableValue) (order : List ℕ) (output : ℕ) : Type 0 where
  pub is_order : IsOrderOf n tables order
  pub widths : All (λ t. All (λ marks. length marks ≡ length t.pins) t.rows) tables
  pub within : output < n + length tables
  pub is_zero : (x : List Bool) → length x ≡ n → value_of n tables x output ≡ false

-- the halves and their join, behind one another
halves : (xs ys zs rest : List LogItem) → (xs ++ (ys ++ zs)) ++ rest ≡ xs ++ (ys ++ (zs ++ rest))
halves xs ys zs rest = append_assoc xs (ys ++ zs) rest ∙ ap (λ l. xs ++ l) (append_assoc ys zs rest)

-- what may follow the steps up to an id that derive the negation of a front
Follows : List Clause → Held → ℕ → ℕ → List Bool → List LogItem → Type 0
Follows goal held last id front rest =
    (later : Held) → AreHeldFrom (get later) 1 goal → ((q : ℕ) → q < last + 1 → get later q ≡ get held q) → get later id ≡ Some (negation front) → IsSoundFrom later id rest

cases-sound : (n : ℕ) (tables : List TableValue) (order : List ℕ) (output : ℕ) → IsZeroSignal n tables order output
    → (free : ℕ) (front : List Bool) (last : ℕ) (held : Held) (rest : List LogItem) → length front + free ≡ n → length (goal_clauses n tables output) ≤ last
    → AreHeldFrom (get held) 1 (goal_clauses n tables output) → Follows (goal_clauses n tables output) held last (last + step_count free) front rest
    → IsSoundFrom held last (cases_from n tables order output free front last ++ rest)
unfolding cases_from Follows
cases-sound n tables order output z zero front last held rest e few base follows =
    let width : length front ≡ n = omega (arith, e) in
    let below = λ (q : ℕ) (h : q < last + 1). get-other held (last + 1) (negation front) q h in (
      omega arith,
      vector-derives n tables order output front (get held) z.is_order z.widths z.within width (z.is_zero front width) base,
      follows (insert held (last + 1) (negation front))
          (AreHeldFrom-same (get held) (get (insert held (last + 1) (negation front))) (goal_clauses n tables output) 1 (last + 1) (omega (arith, few)) below base)
          below (get-added held (last + 1) (negation front)),
    )
cases-sound n tables order output z (suc free) front last held rest e few base follows =
    let goal : List Clause = goal_clauses n tables output in
    let c : ℕ = step_count free in
    let id : ℕ = last + step_count (suc free) in
    let join : StepValue = join_step id front (last + c) (last + c + c) in
    let zeros : List LogItem = cases_from n tables order output free (front ++ false ∷ []) last in
    let others : List LogItem = cases_from n tables order output free (front ++ true ∷ []) (last + c) in
    let longer = λ (b : Bool). length-append front (b ∷ []) in
    subst (IsSoundFrom held last) (sym (halves zeros others (Add join ∷ []) rest))
    (cases-sound n tables order output z free (front ++ false ∷ []) last held (others ++ Add join ∷ rest) (omega (arith, e, longer false)) few base
    (λ h1 base1 keep1 new1.
    cases-sound n tables order output z free (front ++ true ∷ []) (last + c) h1 (Add join ∷ rest) (omega (arith, e, longer true)) (omega (arith, few)) base1
    (λ h2 base2 keep2 new2.
    let half : get h2 (last + c) ≡ Some (negation (front ++ false ∷ [])) = keep2 (last + c) (omega arith) ∙ new1 in
    let below = λ (q : ℕ) (h : q < id). get-other h2 id (negation front) q h in (
      omega arith,
      join-derives front (get h2) (last + c) (last + c + c) half new2,
      follows (insert h2 id (negation front))
          (AreHeldFrom-same (get h2) (get (insert h2 id (negation front))) goal 1 id (omega (arith, few)) below base2)
          (λ q h. below q (omega (arith, h)) ∙ keep2 q (omega (arith, h)) ∙ keep1 q h)
          (get-added h2 id (negation front)),
    ))))

last_added-end : (log : List LogItem) (s : StepValue) (before : Option Clause) → last_added_after before (log ++ Add s ∷ []) ≡ Some s.literals
last_added-end [] s before = refl
last_added-end (Add t ∷ log) s before = last_added-end log s (Some t.literals)
last_added-end (Remove ids ∷ log) s before = last_added-end log s before

cases-end : (n : ℕ) (tables : List TableValue) (order : List ℕ) (output : ℕ) (free : ℕ) (front : List Bool) (last : ℕ)
    → last_added (cases_from n tables order output free front last) ≡ Some (negation front)
unfolding cases_from
cases-end n tables order output zero front last = refl
cases-end n tables order output (suc free) front last =
    let c : ℕ = step_count free in
    let zeros : List LogItem = cases_from n tables order output free (front ++ false ∷ []) last in
    let others : List LogItem = cases_from n tables order output free (front ++ true ∷ []) (last + c) in
    let join : StepValue = join_step (last + step_count (suc free)) front (last + c) (last + c + c) in
    ap last_added (sym (append_assoc zeros others (Add join ∷ []))) ∙ last_added-end (zeros ++ others) join None

pub cases-count : (n : ℕ) (tables : List TableValue) (order : List ℕ) (output : ℕ) (free : ℕ) (front : List Bool) (last : ℕ)
    → length (cases_from n tables order output free front last) ≡ step_count free
unfolding cases_from
cases-count n tables order output zero front last = refl
cases-count n tables order output (suc free) front last =
    let c : ℕ = step_count free in
    let zeros : List LogItem = cases_from n tables order output free (front ++ false ∷ []) last in
    let others : List LogItem = cases_from n tables order output free (front ++ true ∷ []) (last + c) in
    let join : List LogItem = Add (join_step (last + step_count (suc free)) front (last + c) (last + c + c)) ∷ [] in
    let one = cases-count n tables order output free (front ++ false ∷ []) last in
    let two = cases-count n tables order output free (front ++ true ∷ []) (last + c) in
    omega (arith, one, two, length-append zeros (others ++ join), length-append others join)

literals_of-negation : (variables : ℕ) (bits : List Bool) (place : ℕ) → place + length bits ≤ variables → All (IsLiteralOf variables) (negation_from place bits)
literals_of-negation variables [] place e = All-nil (IsLiteralOf variables)
literals_of-negation variables (b ∷ bits) place e =
    All-cons (IsLiteralOf variables) _ (negation_from (suc place) bits) (IsLiteralOf-at variables place _ (omega (arith, e))) (literals_of-negation variables bits (suc place) (omega (arith, e)))

cases-in_turn : (n : ℕ) (tables : List TableValue) (order : List ℕ) (output : ℕ) (variables : ℕ) → n ≤ variables → (free : ℕ) (front : List Bool) (last : ℕ) (rest : List LogItem)
    → length front + free ≡ n
    → AddsInTurn variables (last + step_count free) rest → AddsInTurn variables last (cases_from n tables order output free front last ++ rest)
unfolding cases_from
cases-in_turn n tables order output variables few zero front last rest e follows = (refl, literals_of-negation variables front 0 (omega (arith, e, few)), follows)
cases-in_turn n tables order output variables few (suc free) front last rest e follows =
    let c : ℕ = step_count free in
    let join : StepValue = join_step (last + step_count (suc free)) front (last + c) (last + c + c) in
    let zeros : List LogItem = cases_from n tables order output free (front ++ false ∷ []) last in
    let others : List LogItem = cases_from n tables order output free (front ++ true ∷ []) (last + c) in
    let longer = λ (b : Bool). length-append front (b ∷ []) in
    subst (AddsInTurn variables last) (sym (halves zeros others (Add join ∷ []) rest))
    (cases-in_turn n tables order output variables few free (front ++ false ∷ []) last (others ++ Add join ∷ rest) (omega (arith, e, longer false))
    (cases-in_turn n tables order output variables few free (front ++ true ∷ []) (last + c) (Add join ∷ rest) (omega (arith, e, longer true))
    (omega arith, literals_of-negation variables front 0 (omega (arith, e, few)), follows)))

-- with more inputs there are no fewer steps
step_count-more : (free more : ℕ) → step_count free ≤ step_count (more + free)
step_count-more free zero = let same : 0 + free ≡ free = omega arith in rw same (omega arith)
step_count-more free (suc more) =
    let rest = step_count-more free more in
    let next : suc more + free ≡ suc (more + free) = omega arith in
    rw next (omega (arith, rest))

pub step_count-few : (free : ℕ) → free ≤ 15 → step_count free ≤ 65535
step_count-few free few =
    let e : (15 - free) + free ≡ 15 = omega (arith, few) in
    subst (λ k. step_count free ≤ step_count k) e (step_count-more free (15 - free))

sound : (n : ℕ) (tables : List TableValue) (order : List ℕ) (output : ℕ) → IsZeroSignal n tables order output
    → IsSoundLog (goal_clauses n tables output) (cases_from n tables order output n [] (length (goal_clauses n tables output)))
unfolding Follows
sound n tables order output z =
    let goal : List Clause = goal_clauses n tables output in
    subst (IsSoundFrom (held_of goal) (length goal)) (append-nil (cases_from n tables order output n [] (length goal)))
    (cases-sound n tables order output z n [] (length goal) (held_of goal) [] (omega arith) (omega arith) (held_of-held goal) (λ later base keep new. tt))

pub cases-refute : (n : ℕ) (tables : List TableValue) (order : List ℕ) (output : ℕ) → IsZeroSignal n tables order output
    → Refutes (goal_clauses n tables output) (cases_from n tables order output n [] (length (goal_clauses n tables output)))
cases-refute n tables order output z = record { sound = sound n tables order output z; ends = cases-end n tables order output n [] (length (goal_clauses n tables output)) }

pub cases-derivation : (n : ℕ) (tables : List TableValue) (order : List ℕ) (output variables : ℕ) → IsZeroSignal n tables order output → n ≤ variables → n ≤ 15
    → length (goal_clauses n tables output) < 2 ^ 62
    → IsDerivation (record { variables = variables; clauses = goal_clauses n tables output }) (cases_from n tables order output n [] (length (goal_clauses n tables output)))
cases-derivation n tables order output variables z few inputs short =
    let goal : List Clause = goal_clauses n tables output in
    let log : List LogItem = cases_from n tables order output n [] (length goal) in
    record {
      sound = sound n tables order output z;
      in_turn = subst (AddsInTurn variables (length goal)) (append-nil log) (cases-in_turn n tables order output variables few n [] (length goal) [] (omega arith) tt);
      short = omega (arith, short, cases-count n tables order output n [] (length goal), step_count-few n inputs);
    }
