-- The clauses of a gate are true where its node has its value, and are over the variables of the graph.
use Rattle.std.proofs.Common.{◌≡◌, ℕ, ◌/◌, ◌%◌, ◌==◌, ◌<◌, inl, inr, Bool, true, false, cond, not, ◌&&◌, ◌||◌, List, [], ◌∷◌, ◌++◌, length, refl, sym, ap, subst, ◌∙◌, append_assoc, arith}
use Rattle.std.specs.Prelude.{ℤ, All}
use Rattle.std.proofs.lemmas.List.Elements.{All-from_recursion, All-append}
use Rattle.std.proofs.lemmas.List.Folds.{list_all-append}
use Rattle.semantics.specs.Value.{Assignment}
use Rattle.aig_core.specs.declared.gate.Gate.{Gate}
use Rattle.aig_core.specs.Graph.{GraphValue, gate_at, gate_node, node_count, IsGraph, IsLiteralOf, gate_value, value_of, truth_of, HasOneValue}
use Rattle.aig_core.specs.Graph as graph
use Rattle.proof_semantics.specs.Clauses.{Clause, clause_value, clauses_value, Satisfies, AreClausesOf}
use Rattle.proof_semantics.specs.Clauses as clauses
use Rattle.proof_semantics.specs.NetClauses.{literal_at}
use Rattle.proof_semantics.specs.Variables.{by_place}
use Rattle.proof_semantics.proofs.Bounds.{IsLiteralOf-at}
use Rattle.proof_semantics.proofs.TruthValues.{not_not}
use Rattle.graph_questions.specs.GraphClauses.{where_is, gate_clauses, node_values, AddsGate, StayTrue, StayWithin, AreNeededFor}

-- ---- values of literals

value_where : (t value : Bool) (f : ℕ → Bool) (p : ℕ) → clauses.literal_value (by_place f) (literal_at p (cond t (not value) value))
    ≡ cond value (cond t (not (f p)) (f p)) (not (cond t (not (f p)) (f p)))
value_where true true f p = refl
value_where true false f p = not_not (f p)
value_where false true f p = refl
value_where false false f p = refl

pub is_true : (v : Assignment) (l : ℕ) → clauses.literal_value (by_place v) (where_is l true) ≡ graph.literal_value v l
is_true v l = value_where (l % 2 == 1) true v (l / 2)

pub is_false : (v : Assignment) (l : ℕ) → clauses.literal_value (by_place v) (where_is l false) ≡ not (graph.literal_value v l)
is_false v l = value_where (l % 2 == 1) false v (l / 2)

-- ---- the clauses of a gate

gate_bools : (l r : Bool) → ((not (l && r) || (l || false)) && ((not (l && r) || (r || false)) && (((l && r) || (not l || (not r || false))) && true))) ≡ true
gate_bools true true = refl
gate_bools true false = refl
gate_bools false true = refl
gate_bools false false = refl

pub gate_true : (v : Assignment) (node : ℕ) (gate : Gate) → v node ≡ gate_value v gate → Satisfies (by_place v) (gate_clauses node gate)
gate_true v node gate is =
    rw (is_true v gate.left, is_true v gate.right, is_false v gate.left, is_false v gate.right, is)
    (gate_bools (graph.literal_value v gate.left) (graph.literal_value v gate.right))

both_true : (a : Assignment) (old more : List Clause) → Satisfies a old → Satisfies a more → Satisfies a (old ++ more)
both_true a old more h k = list_all-append (clause_value a) old more ∙ rw (h, k) refl

-- a gate more, or none
pub stays_more : (g : GraphValue) (old so new : List Clause) (i : ℕ) → ((x : List Bool) → HasOneValue g x) → i < length g.gates → StayTrue g old so
    → AddsGate so (gate_node g i) (gate_at g i) new → StayTrue g old new
stays_more g old so new i one low h (inl same) x all = subst (Satisfies (node_values g x)) (sym same) (h x all)
stays_more g old so new i one low h (inr pushed) x all =
    subst (Satisfies (node_values g x)) (sym pushed)
    (both_true (node_values g x) so (gate_clauses (gate_node g i) (gate_at g i)) (h x all)
    (gate_true (value_of g x) (gate_node g i) (gate_at g i) ((one x).consistent.gate i low)))

-- ---- the whole formula

unit_true : (g : GraphValue) (x : List Bool) (l : ℕ) → truth_of g x l ≡ true → Satisfies (node_values g x) ((where_is l true ∷ []) ∷ [])
unit_true g x l is = rw (is_true (value_of g x) l, is) refl

one_true : (g : GraphValue) (x : List Bool) (l : ℕ) → HasOneValue g x → l ≡ 1 → truth_of g x l ≡ true
one_true g x l one is = rw (is, one.consistent.constant) refl

pub whole_needed : (g : GraphValue) (goal l : ℕ) (none first gates all : List Clause) → ((x : List Bool) → HasOneValue g x) → none ≡ [] → l ≡ 1
    → first ≡ none ++ (where_is l true ∷ []) ∷ [] → StayTrue g first gates → all ≡ gates ++ (where_is goal true ∷ []) ∷ [] → AreNeededFor g goal all
whole_needed g goal l none first gates all one empty constant begins stay ends x is =
    let P : List Clause → Type 0 = Satisfies (node_values g x) in
    let start : P first = subst P (sym (begins ∙ ap (λ cs. cs ++ (where_is l true ∷ []) ∷ []) empty)) (unit_true g x l (one_true g x l (one x) constant)) in
    subst P (sym ends) (both_true (node_values g x) gates ((where_is goal true ∷ []) ∷ []) (stay x start) (unit_true g x goal is))

-- ---- the variables of the clauses

pub literal_within : (n l : ℕ) (value : Bool) → l / 2 < n → clauses.IsLiteralOf n (where_is l value)
literal_within n l value low = IsLiteralOf-at n (l / 2) (cond (l % 2 == 1) (not value) value) low

unit_within : (n l : ℕ) (value : Bool) → l / 2 < n → AreClausesOf n ((where_is l value ∷ []) ∷ [])
unit_within n l value low =
    let P : ℤ → Type 0 = clauses.IsLiteralOf n in
    All-from_recursion (All P) ((where_is l value ∷ []) ∷ []) (All-from_recursion P (where_is l value ∷ []) (literal_within n l value low, tt), tt)

gate_within : (n node : ℕ) (gate : Gate) → node < n → gate.left / 2 < n → gate.right / 2 < n → AreClausesOf n (gate_clauses node gate)
gate_within n node gate here left right =
    let P : ℤ → Type 0 = clauses.IsLiteralOf n in
    All-from_recursion (All P) (gate_clauses node gate) (
      All-from_recursion P (literal_at node false ∷ where_is gate.left true ∷ []) (IsLiteralOf-at n node false here, (literal_within n gate.left true left, tt)),
      (
        All-from_recursion P (literal_at node false ∷ where_is gate.right true ∷ []) (IsLiteralOf-at n node false here, (literal_within n gate.right true right, tt)),
        (
          All-from_recursion P (literal_at node true ∷ where_is gate.left false ∷ where_is gate.right false ∷ [])
              (IsLiteralOf-at n node true here, (literal_within n gate.left false left, (literal_within n gate.right false right, tt))),
          tt,
        ),
      ),
    )

pub within_more : (g : GraphValue) (old so new : List Clause) (i : ℕ) → IsGraph g → i < length g.gates → StayWithin g old so → AddsGate so (gate_node g i) (gate_at g i) new
    → StayWithin g old new
within_more g old so new i formed low h (inl same) all = subst (AreClausesOf (node_count g)) (sym same) (h all)
within_more g old so new i formed low h (inr pushed) all =
    let right : (gate_at g i).right / 2 < node_count g = omega (arith, formed.before i low, low) in
    let left : (gate_at g i).left / 2 < node_count g = omega (arith, formed.before i low, formed.apart i low, low) in
    subst (AreClausesOf (node_count g)) (sym pushed)
    (All-append (All (clauses.IsLiteralOf (node_count g))) so (gate_clauses (gate_node g i) (gate_at g i)) (h all)
    (gate_within (node_count g) (gate_node g i) (gate_at g i) (omega (arith, low)) left right))

pub whole_within : (g : GraphValue) (goal l : ℕ) (none first gates all : List Clause) → IsLiteralOf g goal → none ≡ [] → l ≡ 1
    → first ≡ none ++ (where_is l true ∷ []) ∷ [] → StayWithin g first gates → all ≡ gates ++ (where_is goal true ∷ []) ∷ [] → AreClausesOf (node_count g) all
whole_within g goal l none first gates all low empty constant begins stay ends =
    let n : ℕ = node_count g in
    let start : AreClausesOf n first = subst (AreClausesOf n) (sym (begins ∙ ap (λ cs. cs ++ (where_is l true ∷ []) ∷ []) empty)) (unit_within n l true (omega (arith, constant))) in
    subst (AreClausesOf n) (sym ends) (All-append (All (clauses.IsLiteralOf n)) gates ((where_is goal true ∷ []) ∷ []) (stay start) (unit_within n goal true (omega (arith, low))))

-- ---- the clauses of a gate, pushed one after another

pub gate_pushed : (old first second new : List Clause) (node : ℕ) (gate : Gate) → first ≡ old ++ (literal_at node false ∷ where_is gate.left true ∷ []) ∷ []
    → second ≡ first ++ (literal_at node false ∷ where_is gate.right true ∷ []) ∷ []
    → new ≡ second ++ (literal_at node true ∷ where_is gate.left false ∷ where_is gate.right false ∷ []) ∷ [] → new ≡ old ++ gate_clauses node gate
gate_pushed old first second new node gate one two three =
    three ∙ ap (λ cs. cs ++ converse ∷ []) (two ∙ ap (λ cs. cs ++ right ∷ []) one)
    ∙ append_assoc (old ++ left ∷ []) (right ∷ []) (converse ∷ []) ∙ append_assoc old (left ∷ []) (right ∷ converse ∷ []) where
      left : Clause
      left = literal_at node false ∷ where_is gate.left true ∷ []

      right : Clause
      right = literal_at node false ∷ where_is gate.right true ∷ []

      converse : Clause
      converse = literal_at node true ∷ where_is gate.left false ∷ where_is gate.right false ∷ []
