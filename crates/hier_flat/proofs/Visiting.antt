-- Stacks of visits.
use Rattle.std.proofs.Common.{◌≡◌, ℕ, ◌+◌, ◌<◌, false, List, [], ◌∷◌, ◌++◌, map, length, get_or, drop, refl, ap, sym, subst, ◌∙◌}
use Rattle.std.specs.List.{AllByRecursion}
use Rattle.std.proofs.lemmas.List.{drop_more}
use Rattle.semantics.specs.Net.{TableValue}
use Rattle.hierarchy_semantics.specs.Models.{subckt_part, Hierarchy}
use Rattle.hier_parts.specs.Driven.{driven_names}
use Rattle.hier_flat.specs.Flattening.{with_part, with_parts, with_model, IsFormedPart}
use Rattle.hier_flat.specs.Plans.{part_of, slot_table, with_slot_buffers, IsPartPlan, IsPlan}
use Rattle.hier_flat.specs.Visits.{visit_signal, with_visit_part, with_visit, with_visits}
use Rattle.hier_flat.specs.declared.plans.PartPlan.{PartPlan}
use Rattle.hier_flat.specs.declared.plans.PartPlan.TheVariants.{Table, Use}
use Rattle.hier_flat.specs.declared.plans.TablePlan.{TablePlan}
use Rattle.hier_flat.specs.declared.plans.UsePlan.{UsePlan}
use Rattle.hier_flat.specs.declared.plans.Plan.{Plan}
use Rattle.hier_flat.specs.declared.visits.Visit.{Visit}
use Rattle.hier_flat.proofs.FlatSteps.{at_part, at_item}
use Rattle.hier_flat.proofs.Planned.{slot_table_is}

pub visits_push : (h : Hierarchy) (n : ℕ) (below : List Visit) (v : Visit) (tables : List TableValue) → with_visits h n (below ++ v ∷ []) tables ≡ with_visits h n below (with_visit h n v tables)
visits_push h n [] v tables = refl
visits_push h n (w ∷ below) v tables = ap (with_visit h n w) (visits_push h n below v tables)

abbrev pub advanced : Visit → Visit
advanced v = record { plan = v.plan; signals = v.signals; next = v.next + 1; levels = v.levels; own = v.own; outputs = v.outputs; buffers_own = v.buffers_own }

pub part_done : (h : Hierarchy) (n : ℕ) (v : Visit) (x : PartPlan) (tables : List TableValue) → v.next < length v.plan.now.parts.items → get_or v.plan.now.parts.items v.next x ≡ x
    → with_visit h n v tables ≡ with_visit h n (advanced v) (with_visit_part h n v (part_of x) tables)
part_done h n v x tables within is =
    let rest = drop (v.next + 1) v.plan.now.parts.items in
    let inner = with_model h n v.levels false in
    ap (λ l. with_slot_buffers v.buffers_own v.signals v.outputs.now (with_parts h n inner v.own (visit_signal h v) (map part_of l) tables)) (drop_more v.plan.now.parts.items v.next x within)
    ∙ ap
    (λ y. with_slot_buffers v.buffers_own v.signals v.outputs.now (with_parts h n inner v.own (visit_signal h v) (map part_of rest) (with_part h n inner v.own (visit_signal h v) (part_of y) tables)))
    is

-- ---- the next part

pub part_formed : (h : Hierarchy) (p : Plan) (i : ℕ) (x y : PartPlan) → IsPlan h p → i < length p.parts.items → x ≡ get_or p.parts.items i x → x ≡ y → IsFormedPart (part_of y)
part_formed h p i x y plan within at is =
    subst (λ q. IsFormedPart (part_of q)) is (at_part IsFormedPart part_of p.parts.items i x (subst (AllByRecursion IsFormedPart) (sym plan.parts) plan.formed) within (sym at))

pub part_planned : (h : Hierarchy) (p : Plan) (i : ℕ) (x y : PartPlan) → IsPlan h p → i < length p.parts.items → x ≡ get_or p.parts.items i x → x ≡ y → IsPartPlan h (driven_names h p.model.now) y
part_planned h p i x y plan within at is =
    subst (IsPartPlan h (driven_names h p.model.now)) is (at_item (IsPartPlan h (driven_names h p.model.now)) p.parts.items i x plan.each within (sym at))

part_next : (h : Hierarchy) (n : ℕ) (v : Visit) (x y : PartPlan) (tables : List TableValue) → v.next < length v.plan.now.parts.items → x ≡ get_or v.plan.now.parts.items v.next x → x ≡ y
    → with_visit h n (advanced v) (with_visit_part h n v (part_of y) tables) ≡ with_visit h n v tables
part_next h n v x y tables within at is =
    ap (λ q. with_visit h n (advanced v) (with_visit_part h n v (part_of q) tables)) (sym is) ∙ sym (part_done h n v x tables within (sym at))

pub table_step : (h : Hierarchy) (n : ℕ) (v : Visit) (t : TablePlan) (x : PartPlan) (stack new : List Visit) (old tables : List TableValue) → IsPlan h v.plan.now
    → v.next < length v.plan.now.parts.items → x ≡ get_or v.plan.now.parts.items v.next x → x ≡ Table t → new ≡ stack ++ advanced v ∷ []
    → tables ≡ old ++ slot_table v.own v.signals t (length old) ∷ []
    → with_visits h n new tables ≡ with_visits h n stack (with_visit h n v old)
table_step h n v t x stack new old tables plan within at is pushed added =
    let planned = part_planned h v.plan.now v.next x (Table t) plan within at is in
    let made : tables ≡ with_visit_part h n v (part_of (Table t)) old = added ∙ ap (λ y. old ++ y ∷ []) (slot_table_is (driven_names h v.plan.now.model.now) v.own v.signals t (length old) planned) in
    ap (λ s. with_visits h n s tables) pushed
    ∙ visits_push h n stack (advanced v) tables
    ∙ ap (λ ts. with_visits h n stack (with_visit h n (advanced v) ts)) made
    ∙ ap (with_visits h n stack) (part_next h n v x (Table t) old within at is)

pub use_step : (h : Hierarchy) (n : ℕ) (v w : Visit) (u : UsePlan) (x : PartPlan) (stack middle new : List Visit) (old : List TableValue)
    → v.next < length v.plan.now.parts.items → x ≡ get_or v.plan.now.parts.items v.next x → x ≡ Use u → middle ≡ stack ++ advanced v ∷ [] → new ≡ middle ++ w ∷ []
    → with_visit h n w old ≡ with_visit_part h n v (subckt_part u.subcircuit.now) old
    → with_visits h n new old ≡ with_visits h n stack (with_visit h n v old)
use_step h n v w u x stack middle new old within at is pushed more adds =
    ap (λ s. with_visits h n s old) more
    ∙ visits_push h n middle w old
    ∙ ap (λ s. with_visits h n s (with_visit h n w old)) pushed
    ∙ visits_push h n stack (advanced v) (with_visit h n w old)
    ∙ ap (λ ts. with_visits h n stack (with_visit h n (advanced v) ts)) adds
    ∙ ap (with_visits h n stack) (part_next h n v x (Use u) old within at is)

-- ---- the last visit of a stack

pub top_step : (h : Hierarchy) (n : ℕ) (stack below new : List Visit) (v : Visit) (old tables all : List TableValue) → stack ≡ below ++ v ∷ []
    → with_visits h n new tables ≡ with_visits h n below (with_visit h n v old) → with_visits h n stack old ≡ all → with_visits h n new tables ≡ all
top_step h n stack below new v old tables all popped stepped so_far =
    stepped ∙ sym (visits_push h n below v old) ∙ ap (λ s. with_visits h n s old) (sym popped) ∙ so_far
