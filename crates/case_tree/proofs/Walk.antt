-- The walk over the vectors' fronts gives the steps by cases.
use Rattle.std.proofs.Common.{◌≡◌, ℕ, suc, ◌+◌, ◌-◌, ◌<◌, ◌≤◌, ◌^◌, Bool, true, false, List, [], ◌∷◌, ◌++◌, length, get_or, map, take, drop, set, refl, ap, sym, ◌∙◌, arith, append_assoc, sum_by}
use Rattle.std.proofs.lemmas.List.{take_all, take-append-le, take-take, take-set, take_more_set, length-set}
use Rattle.semantics.specs.Net.{TableValue, NetValue, input_count}
use Rattle.semantics.specs.Order.{IsOrderOf}
use Rattle.semantics.specs.Value.{Assignment, value_of, outputs_of}
use Rattle.semantics.proofs.Ordered.{order-acyclic, order-tables}
use Rattle.net_core.specs.Built.{IsBuilt}
use Rattle.proof_semantics.specs.declared.item.Item.TheVariants.{Add}
use Rattle.proof_semantics.specs.Clauses.{Clause}
use Rattle.proof_semantics.specs.Variables.{table_clause_count, variable_count}
use Rattle.proof_semantics.specs.Formula.{Formula, goal_of}
use Rattle.proof_semantics.specs.Logs.{StepValue, LogItem, Refutes, IsDerivation}
use Rattle.proof_semantics.proofs.Counts.{length-net_clauses, length-goal_clauses}
use Rattle.case_tree.specs.Cases.{negation, ordered_hints, vector_step, join_step, step_count, cases_from}
use Rattle.case_tree.proofs.Refuted.{IsZeroSignal, cases-refute, cases-derivation}
use Rattle.case_tree.proofs.Steps.{hints-evaluated}

-- ---- one step

pub vector_step-is : (id n : ℕ) (tables : List TableValue) (order : List ℕ) (output : ℕ) (x : List Bool) (v : Assignment) (clause : Clause) (hints : List ℕ) → IsOrderOf n tables order
    → clause ≡ negation x → hints ≡ ordered_hints n tables order output v → ((s : ℕ) → s < n + length tables → v s ≡ value_of n tables x s)
    → record { id = id; literals = clause; hints = hints } ≡ vector_step id n tables order output x
vector_step-is id n tables order output x v clause hints h is along same =
    let evaluated = hints-evaluated n tables order output v (value_of n tables x) (order-acyclic n tables order h) (order-tables n tables [] order h.in_turn) same in
    cc (is, along, evaluated)

-- what was written into a vector through its slice
pub written-back : (count : ℕ) (new old : List Bool) → length new ≡ count → take count (new ++ drop (length new) old) ≡ new
written-back count new old e =
    let h : count ≤ length new = omega (arith, e) in
    rw take-append-le (take_all count new (omega (arith, e)))

-- ---- two halves

step_count-next : (n d : ℕ) → d < n → step_count (n - d) ≡ step_count (n - (d + 1)) + step_count (n - (d + 1)) + 1
step_count-next n d h = let e : n - d ≡ suc (n - (d + 1)) = omega (arith, h) in ap step_count e

pub half-fits : (n m d last : ℕ) → m ≡ n → d < n → last + step_count (n - d) < 2 ^ 63 → last + step_count (m - (d + 1)) < 2 ^ 63
half-fits n m d last same h few = rw same (omega (arith, few, step_count-next n d h))

pub other-id : (n m k d last half other : ℕ) → m ≡ n → k ≡ n → d < n → half ≡ last + step_count (m - (d + 1)) → other ≡ half + step_count (k - (d + 1))
    → other + 1 ≡ last + step_count (n - d)
other-id n m k d last half other first second h is also =
    let one = rw first at is in
    let two = rw second at also in
    omega (arith, one, two, step_count-next n d h)

pub other-fits : (n m k d last half : ℕ) → m ≡ n → k ≡ n → d < n → half ≡ last + step_count (m - (d + 1)) → last + step_count (n - d) < 2 ^ 63
    → half + step_count (k - (d + 1)) < 2 ^ 63
other-fits n m k d last half first second h is few =
    let whole = other-id n m k d last half (half + step_count (k - (d + 1))) first second h is refl in
    omega (arith, whole, few)

pub front-kept : (x y : List Bool) (d : ℕ) (b : Bool) → take (d + 1) y ≡ take (d + 1) (set x d b) → take d y ≡ take d x
front-kept x y d b e =
    let within : d ≤ d + 1 = omega arith in
    sym (take-take d (d + 1) y within) ∙ ap (take d) e ∙ take-take d (d + 1) (set x d b) within ∙ take-set x d b

pub walk-none : (n : ℕ) (tables : List TableValue) (order : List ℕ) (output : ℕ) (x : List Bool) (d last : ℕ) (log more : List LogItem) (s : StepValue) → d ≡ length x
    → s ≡ vector_step (last + 1) n tables order output x
    → more ≡ log ++ Add s ∷ [] → more ≡ log ++ cases_from n tables order output (length x - d) (take d x) last
unfolding cases_from
walk-none n tables order output x d last log more s end is pushed =
    let none : length x - d ≡ 0 = omega (arith, end) in
    let whole : take d x ≡ x = take_all d x (omega (arith, end)) in
    rw (none, whole) (pushed ∙ ap (λ u. log ++ Add u ∷ []) is)

pub walk-joined : (n : ℕ) (tables : List TableValue) (order : List ℕ) (output : ℕ) (x y z : List Bool) (d last half other : ℕ) (log log1 log2 log3 : List LogItem) (join : StepValue) → d < length x
    → length y ≡ length x
    → log1 ≡ log ++ cases_from n tables order output (length (set x d false) - (d + 1)) (take (d + 1) (set x d false)) last
    → half ≡ last + step_count (length (set x d false) - (d + 1)) → take (d + 1) y ≡ take (d + 1) (set x d false)
    → log2 ≡ log1 ++ cases_from n tables order output (length (set y d true) - (d + 1)) (take (d + 1) (set y d true)) half
    → other ≡ half + step_count (length (set y d true) - (d + 1)) → take (d + 1) z ≡ take (d + 1) (set y d true)
    → join ≡ join_step (other + 1) (take d z) half other → log3 ≡ log2 ++ Add join ∷ []
    → log3 ≡ log ++ cases_from n tables order output (length x - d) (take d x) last
unfolding cases_from
walk-joined n tables order output x y z d last half other log log1 log2 log3 join within wide first at kept second at2 kept2 is pushed =
    let k : ℕ = length x - (d + 1) in
    let c : ℕ = step_count k in
    let m1 : length (set x d false) - (d + 1) ≡ k = omega (arith, length-set x d false) in
    let m2 : length (set y d true) - (d + 1) ≡ k = omega (arith, length-set y d true, wide) in
    let same = front-kept x y d false kept in
    let same2 = front-kept y z d true kept2 ∙ same in
    let front1 = take_more_set x d false within in
    let front2 : take (d + 1) (set y d true) ≡ take d x ++ true ∷ [] = take_more_set y d true (omega (arith, within, wide)) ∙ ap (λ l. l ++ true ∷ []) same in
    let id1 : half ≡ last + c = rw m1 at at in
    let id2 : other ≡ half + c = rw m2 at at2 in
    let id2' : other ≡ last + c + c = omega (arith, id1, id2) in
    let id3 : other + 1 ≡ last + step_count (suc k) = omega (arith, id2') in
    let zeros : List LogItem = cases_from n tables order output k (take d x ++ false ∷ []) last in
    let others : List LogItem = cases_from n tables order output k (take d x ++ true ∷ []) (last + c) in
    let end : List LogItem = Add (join_step (last + step_count (suc k)) (take d x) (last + c) (last + c + c)) ∷ [] in
    let one : log1 ≡ log ++ zeros = rw (m1, front1) at first in
    let two : log2 ≡ log1 ++ others = rw (m2, front2, id1) at second in
    let joined : Add join ∷ [] ≡ end = ap (λ u. Add u ∷ []) (is ∙ cc (id1, id2', id3, same2)) in
    let free : length x - d ≡ suc k = omega (arith, within) in
    rw free
    (pushed ∙ cc (joined, two, one) ∙ append_assoc (log ++ zeros) others end ∙ append_assoc log zeros (others ++ end))

-- ---- the whole walk

first-output : (v : Assignment) (outputs : List ℕ) → map v outputs ≡ false ∷ [] → v (get_or outputs 0 0) ≡ false
first-output v [] h = cc
first-output v (o ∷ outputs) h = ap (λ l. get_or l 0 true) h

pub IsZeroSignal-output : (N : NetValue) (order : List ℕ) → IsBuilt N → IsOrderOf (input_count N) N.tables order → ((x : List Bool) → length x ≡ input_count N → outputs_of N x ≡ false ∷ [])
    → IsZeroSignal (input_count N) N.tables order (get_or N.outputs 0 0)
unfolding outputs_of
IsZeroSignal-output N order built is_order always = record {
  is_order = is_order;
  widths = λ k d within. (built.sound.tables_formed k d within).widths;
  within = built.sound.outputs_are_signals 0 0 built.sound.has_output;
  is_zero = λ x width. first-output (value_of (input_count N) N.tables x) N.outputs (always x width);
}

pub clauses-counted : (N : NetValue) (f : Formula) → IsBuilt N → f ≡ goal_of N → length f.clauses ≡ sum_by table_clause_count N.tables + 1
clauses-counted N f built is =
    ap (λ (g : Formula). length g.clauses) is
    ∙ length-goal_clauses (input_count N) N.tables (get_or N.outputs 0 0)
    ∙ ap (λ count. count + 1) (length-net_clauses (input_count N) N.tables (λ k d within. (built.sound.tables_formed k d within).widths))

pub whole_walk : (n : ℕ) (tables : List TableValue) (order : List ℕ) (output : ℕ) (x : List Bool) (last : ℕ) (start log : List LogItem) → length x ≡ n → start ≡ []
    → log ≡ start ++ cases_from n tables order output (length x - 0) (take 0 x) last → log ≡ cases_from n tables order output n [] last
whole_walk n tables order output x last start log width none is =
    let free : length x - 0 ≡ n = omega (arith, width) in
    rw (free, none) at is

pub walk-refutes : (N : NetValue) (order : List ℕ) (f : Formula) (last : ℕ) (log : List LogItem) → IsBuilt N → IsOrderOf (input_count N) N.tables order → f ≡ goal_of N
    → ((y : List Bool) → length y ≡ input_count N → outputs_of N y ≡ false ∷ []) → last ≡ length f.clauses
    → log ≡ cases_from (input_count N) N.tables order (get_or N.outputs 0 0) (input_count N) [] last → Refutes f.clauses log
walk-refutes N order f last log built is_order is always count walked =
    let clauses = ap (λ (g : Formula). g.clauses) is in
    rw (walked, count, clauses) (cases-refute (input_count N) N.tables order (get_or N.outputs 0 0) (IsZeroSignal-output N order built is_order always))

pub walk-derives : (N : NetValue) (order : List ℕ) (f : Formula) (last : ℕ) (log : List LogItem) → IsBuilt N → IsOrderOf (input_count N) N.tables order → f ≡ goal_of N → input_count N ≤ 15
    → ((y : List Bool) → length y ≡ input_count N → outputs_of N y ≡ false ∷ []) → last ≡ length f.clauses → length f.clauses < 2 ^ 58
    → log ≡ cases_from (input_count N) N.tables order (get_or N.outputs 0 0) (input_count N) [] last → IsDerivation f log
walk-derives N order f last log built is_order is few always count short walked =
    let clauses = ap (λ (g : Formula). length g.clauses) is in
    rw (walked, count, is)
    (cases-derivation (input_count N) N.tables order (get_or N.outputs 0 0) (variable_count (input_count N) N.tables) (IsZeroSignal-output N order built is_order always) (omega arith) few
    (omega (arith, short, clauses)))
