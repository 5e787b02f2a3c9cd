-- Names at their places, and what plans say of them.
use Rattle.std.proofs.Common.{◌≡◌, ℕ, suc, zero, ◌+◌, ◌-◌, ◌<◌, not, ◌||◌, Bool, true, false, cond, List, []}
use Rattle.std.proofs.Common.{◌∷◌, ◌++◌, map, filter, length, get_or, find, bytes_eq, Option, Some, None, refl, ap, sym, ◌∙◌, arith}
use Rattle.std.specs.List.{position_or_len, range_with_len, AllByRecursion}
use Rattle.std.proofs.lemmas.Bool.{false≢true}
use Rattle.std.proofs.lemmas.List.{length-map, map-append}
use Rattle.semantics.specs.Texts.{Bytes}
use Rattle.semantics.specs.Net.{TableValue, IsName}
use Rattle.semantics.specs.Refusals.{has_name}
use Rattle.blif_text.specs.Names.{place_of}
use Rattle.blif_text.proofs.Places.{has_name-unplaced}
use Rattle.hierarchy_semantics.specs.Models.{Binding, Subcircuit, Part, names_part, subckt_part, BlifModel, Hierarchy, no_model, main_of, model_named}
use Rattle.hierarchy_semantics.specs.Refusals.{model_names, formals_of}
use Rattle.hierarchy_semantics.specs.Driven.{bound_outputs}
use Rattle.hierarchy_semantics.specs.Places.{actual_of}
use Rattle.hier_parts.specs.Driven.{driven_names}
use Rattle.hier_parts.specs.Sets.{with_name}
use Rattle.hier_parts.proofs.Found.{find-same, sym_eq, found_at, placed, model-at, model-none}
use Rattle.hier_flat.specs.Outputs.{OutputPlan}
use Rattle.hier_flat.specs.Flattening.{size_of, own_signals, part_size, part_signals, signal_in, slot_signal, used_signal}
use Rattle.hier_flat.specs.Flattening.{main_signal, label, table_made, buffer_made, with_buffers, with_part, with_parts, with_model}
use Rattle.hier_flat.specs.Plans.{output_plan, with_slot_buffers, slot_table}
use Rattle.hier_flat.specs.declared.plans.TablePlan.{TablePlan}
use Rattle.hier_flat.specs.declared.plans.Plan.{Plan}
use Rattle.hier_flat.proofs.FlatSteps.{levels_made}

-- ---- names that differ

pub name_added : (old new : List Bytes) (x : Bytes) (b : Bool) → new ≡ with_name old x → b ≡ not (has_name old x) → b ≡ true → new ≡ old ++ x ∷ []
name_added old new x b added is_new was = added ∙ at_test (has_name old x) (sym is_new ∙ was)
  where
    at_test : (t : Bool) → not t ≡ true → cond t old (old ++ x ∷ []) ≡ old ++ x ∷ []
    at_test false e = refl
    at_test true e = absurd (false≢true e)

-- ---- the name that is bound to a port

abbrev actual_or_none : Option Binding → Bytes
actual_or_none o = elim o [ None ↦ [] | Some b ↦ b.actual ]

same_formal : (word : Bytes) (bs : List Binding) → position_or_len (λ name. bytes_eq word name) (map (λ b. b.formal) bs) ≡ position_or_len (λ (b : Binding). bytes_eq word b.formal) bs
same_formal word [] = refl
same_formal word (b ∷ bs) = ap (λ (k : ℕ). cond (not (bytes_eq word b.formal)) (1 + k) 0) (same_formal word bs)

pub formal_within : (c : Subcircuit) (name : Bytes) (i : ℕ) → Some i ≡ place_of (formals_of c) name → i < length c.bindings
formal_within c name i e =
    let at = placed (position_or_len (λ word. bytes_eq name word) (formals_of c)) (length (formals_of c)) i e in
    let size : length (formals_of c) ≡ length c.bindings = length-map c.bindings (λ b. b.formal) in
    omega (arith, at.0, at.1, size)

pub actual_found : (c : Subcircuit) (name : Bytes) (i : ℕ) (d : Binding) → Some i ≡ place_of (formals_of c) name → (get_or c.bindings i d).actual ≡ actual_of c name
actual_found c name i d e =
    let at = placed (position_or_len (λ word. bytes_eq name word) (formals_of c)) (length (formals_of c)) i e in
    let same : position_or_len (λ (b : Binding). bytes_eq name b.formal) c.bindings ≡ i = sym (same_formal name c.bindings) ∙ at.0 in
    let there = formal_within c name i e in
    let within : position_or_len (λ (b : Binding). bytes_eq name b.formal) c.bindings < length c.bindings = omega (arith, same, there) in
    sym
    (ap actual_or_none
    (find-same (λ (b : Binding). bytes_eq b.formal name) (λ (b : Binding). bytes_eq name b.formal) c.bindings (λ b. sym_eq b.formal name)
    ∙ found_at (λ (b : Binding). bytes_eq name b.formal) c.bindings d within)
    ∙ ap (λ k. (get_or c.bindings k d).actual) same)

none_there : (name : Bytes) (bs : List Binding) → has_name (map (λ b. b.formal) bs) name ≡ false → find (λ (b : Binding). bytes_eq name b.formal) bs ≡ None
none_there name [] e = refl
none_there name (b ∷ bs) e = at_test (bytes_eq name b.formal) e (none_there name bs)
  where
    at_test : (t : Bool) → t || has_name (map (λ (b : Binding). b.formal) bs) name ≡ false
        → (has_name (map (λ (b : Binding). b.formal) bs) name ≡ false → find (λ (b : Binding). bytes_eq name b.formal) bs ≡ None)
        → cond t (Some b) (find (λ (b : Binding). bytes_eq name b.formal) bs) ≡ None
    at_test true e rest = absurd (false≢true (sym e))
    at_test false e rest = rest e

pub actual_none : (c : Subcircuit) (name : Bytes) → None ≡ place_of (formals_of c) name → [] ≡ actual_of c name
actual_none c name e =
    sym
    (ap actual_or_none
    (find-same (λ (b : Binding). bytes_eq b.formal name) (λ (b : Binding). bytes_eq name b.formal) c.bindings (λ b. sym_eq b.formal name)
    ∙ none_there name c.bindings (has_name-unplaced (formals_of c) name e)))

-- ---- the names of the model at a place

mapped_at : {X : Type 0} (f : BlifModel → X) (h : Hierarchy) (i : ℕ) (d : X) → i < length h → get_or (map f h) i d ≡ f (get_or h i no_model)
mapped_at f [] i d within = absurd (omega (arith, within))
mapped_at f (m ∷ h) zero d within = refl
mapped_at f (m ∷ h) (suc i) d within = mapped_at f h i d (omega (arith, within))

pub place_within : (h : Hierarchy) (name : Bytes) (i : ℕ) → Some i ≡ place_of (model_names h) name → i < length h
place_within h name i e =
    let at = placed (position_or_len (λ word. bytes_eq name word) (model_names h)) (length (model_names h)) i e in
    let size : length (model_names h) ≡ length h = length-map h (λ m. m.name) in
    omega (arith, at.0, at.1, size)

pub mapped_named : {X : Type 0} (f : BlifModel → X) (h : Hierarchy) (name : Bytes) (all : List X) (i : ℕ) (d : X) → all ≡ map f h → Some i ≡ place_of (model_names h) name
    → get_or all i d ≡ f (model_named h name)
mapped_named f h name all i d same e = ap (λ l. get_or l i d) same ∙ mapped_at f h i d (place_within h name i e) ∙ ap f (model-at h name i no_model e)

pub nameless : (h : Hierarchy) (name : Bytes) → None ≡ place_of (model_names h) name → [] ≡ driven_names h (model_named h name)
nameless h name e = ap (driven_names h) (model-none h name e)

model_mapped : (all : List Plan) (i : ℕ) (d : Plan) → (get_or all i d).model.now ≡ get_or (map (λ (p : Plan). p.model.now) all) i d.model.now
model_mapped [] i d = refl
model_mapped (p ∷ all) zero d = refl
model_mapped (p ∷ all) (suc i) d = model_mapped all i d

pub plan_found : (h : Hierarchy) (all : List Plan) (name : Bytes) (i : ℕ) (p : Plan) → map (λ (q : Plan). q.model.now) all ≡ h → p ≡ get_or all i p → Some i ≡ place_of (model_names h) name
    → p.model.now ≡ model_named h name
plan_found h all name i p models at e =
    ap (λ (q : Plan). q.model.now) at ∙ model_mapped all i p ∙ ap (λ l. get_or l i p.model.now) models ∙ model-at h name i p.model.now e

-- ---- signals counted from the first flat table

range_from : (a b k : ℕ) → range_with_len (a + b) k ≡ map (λ s. a + s) (range_with_len b k)
range_from a b zero = refl
range_from a b (suc k) = let more : (a + b) + 1 ≡ a + (b + 1) = omega arith in ap (λ l. (a + b) ∷ l) (ap (λ s. range_with_len s k) more ∙ range_from a (b + 1) k)

own_from : (h : Hierarchy) (a b : ℕ) (p : Part) → own_signals h (a + b) p ≡ map (λ s. a + s) (own_signals h b p)
own_from h a b (names_part t) = refl
own_from h a b (subckt_part c) =
    let size : ℕ = size_of h (model_named h c.model) in
    let count : ℕ = length (bound_outputs h c) in
    let more : (a + b) + size ≡ a + (b + size) = omega arith in
    ap (λ s. range_with_len s count) more ∙ range_from a (b + size) count

parts_from : (h : Hierarchy) (a b : ℕ) (ps : List Part) → part_signals h (a + b) ps ≡ map (λ s. a + s) (part_signals h b ps)
parts_from h a b [] = refl
parts_from h a b (p ∷ ps) =
    let size : ℕ = part_size h p in
    let more : (a + b) + size ≡ a + (b + size) = omega arith in
    ap (λ l. l ++ part_signals h ((a + b) + size) ps) (own_from h a b p)
    ∙ ap (λ l. map (λ s. a + s) (own_signals h b p) ++ l) (ap (λ s. part_signals h s ps) more ∙ parts_from h a (b + size) ps)
    ∙ sym (map-append (λ s. a + s) (own_signals h b p) (part_signals h (b + size) ps))

pub offsets_from : (h : Hierarchy) (first : ℕ) (offsets : List ℕ) (m : BlifModel) → offsets ≡ part_signals h 0 m.parts → map (λ s. first + s) offsets ≡ part_signals h first m.parts
offsets_from h first offsets m are =
    let none : first + 0 ≡ first = omega arith in
    ap (map (λ s. first + s)) are ∙ sym (parts_from h first 0 m.parts) ∙ ap (λ s. part_signals h s m.parts) none

-- ---- slots and names

pub mapped_twice : {X Y Z : Type 0} (f : Y → Z) (g : X → Y) (xs : List X) → map f (map g xs) ≡ map (λ x. f (g x)) xs
mapped_twice f g [] = refl
mapped_twice f g (x ∷ xs) = ap (λ l. f (g x) ∷ l) (mapped_twice f g xs)

pub slots_signals : (names : List Bytes) (signals : List ℕ) (slots : List (Option ℕ)) (words : List Bytes) → slots ≡ map (place_of names) words
    → map (slot_signal signals) slots ≡ map (signal_in names signals) words
slots_signals names signals slots words are = ap (map (slot_signal signals)) are ∙ mapped_twice (slot_signal signals) (place_of names) words

pub slot_table_is : (names : List Bytes) (own : Bool) (signals : List ℕ) (t : TablePlan) (number : ℕ) → t.pins.items ≡ map (place_of names) t.table.now.pins
    → slot_table own signals t number ≡ table_made own (signal_in names signals) t.table.now number
slot_table_is names own signals t number are =
    ap (λ (pins : List ℕ). record { name = label own t.table.now.name number; pins = pins; rows = t.table.now.rows; plane = t.table.now.plane })
    (slots_signals names signals t.pins.items t.table.now.pins are)

slot_buffers_are : (own : Bool) (signals : List ℕ) (names : List Bytes) (bs : List Binding) (tables : List TableValue)
    → with_slot_buffers own signals (map (output_plan names) bs) tables ≡ with_buffers own (signal_in names signals) bs tables
slot_buffers_are own signals names [] tables = refl
slot_buffers_are own signals names (b ∷ bs) tables = slot_buffers_are own signals names bs (tables ++ buffer_made own (signal_in names signals b.formal) b.actual (length tables) ∷ [])

pub outputs_named : (names : List Bytes) (f : Binding → Bool) (bs : List Binding) → AllByRecursion (λ b. IsName b.actual) bs
    → AllByRecursion (λ o. IsName o.actual) (map (output_plan names) (filter f bs))
outputs_named names f [] all = tt
outputs_named names f (b ∷ bs) all = at_test (f b) (outputs_named names f bs all.1)
  where
    at_test : (t : Bool) → AllByRecursion (λ (o : OutputPlan). IsName o.actual) (map (output_plan names) (filter f bs))
        → AllByRecursion (λ (o : OutputPlan). IsName o.actual) (map (output_plan names) (cond t (b ∷ filter f bs) (filter f bs)))
    at_test true rest = (all.0, rest)
    at_test false rest = rest

-- ---- the visit of a model that is used

-- the signals that its names have
pub frame_is : (h : Hierarchy) (signals : List ℕ) (names : List Bytes) (c : Subcircuit) (m : BlifModel) (slots : List (Option ℕ)) (offsets : List ℕ) (first : ℕ) (found frame : List ℕ)
    → slots ≡ map (λ name. place_of names (actual_of c name)) m.inputs → offsets ≡ part_signals h 0 m.parts
    → found ≡ map (slot_signal signals) slots → frame ≡ found ++ map (λ s. first + s) offsets
    → frame ≡ map (λ name. signal_in names signals (actual_of c name)) m.inputs ++ part_signals h first m.parts
frame_is h signals names c m slots offsets first found frame are counted read is =
    is
    ∙ ap (λ l. l ++ map (λ s. first + s) offsets) (read ∙ ap (map (slot_signal signals)) are ∙ mapped_twice (slot_signal signals) (λ name. place_of names (actual_of c name)) m.inputs)
    ∙ ap (λ l. map (λ name. signal_in names signals (actual_of c name)) m.inputs ++ l) (offsets_from h first offsets m counted)

pub inside_adds : (h : Hierarchy) (n levels : ℕ) (own : Bool) (signal : Bytes → ℕ) (c : Subcircuit) (k : BlifModel) (parts : List Part) (frame : List ℕ) (outputs : List OutputPlan)
    (tables : List TableValue) → 0 < levels → k ≡ model_named h c.model → parts ≡ k.parts
    → frame ≡ map (λ name. signal (actual_of c name)) (model_named h c.model).inputs ++ part_signals h (n + length tables) (model_named h c.model).parts
    → outputs ≡ map (output_plan (driven_names h (model_named h c.model))) (bound_outputs h c)
    → with_slot_buffers own frame outputs (with_parts h n (with_model h n (levels - 1) false) false (signal_in (driven_names h k) frame) parts tables)
    ≡ with_part h n (with_model h n levels false) own signal (subckt_part c) tables
inside_adds h n levels own signal c k parts frame outputs tables some model held framed bound =
    let m : BlifModel = model_named h c.model in
    let g : (Bytes → ℕ) = used_signal h signal (n + length tables) c in
    let signals : signal_in (driven_names h m) frame ≡ g = ap (λ s. signal_in (driven_names h m) s) framed in
    let inner : with_parts h n (with_model h n (levels - 1) false) false (signal_in (driven_names h k) frame) parts tables ≡ with_model h n levels false g m tables =
    ap (λ ps. with_parts h n (with_model h n (levels - 1) false) false (signal_in (driven_names h k) frame) ps tables) held
    ∙ ap (λ (j : BlifModel). with_parts h n (with_model h n (levels - 1) false) false (signal_in (driven_names h j) frame) j.parts tables) model
    ∙ ap (λ s. with_parts h n (with_model h n (levels - 1) false) false s m.parts tables) signals
    ∙ levels_made h n levels false g m tables some in
    ap (λ ts. with_slot_buffers own frame outputs ts) inner
    ∙ ap (λ os. with_slot_buffers own frame os (with_model h n levels false g m tables)) bound
    ∙ slot_buffers_are own frame (driven_names h m) (bound_outputs h c) (with_model h n levels false g m tables)
    ∙ ap (λ s. with_buffers own s (bound_outputs h c) (with_model h n levels false g m tables)) signals

-- ---- the main model

pub main_tables : (h : Hierarchy) (n levels : ℕ) (k : BlifModel) (parts : List Part) (frame : List ℕ) (old new : List TableValue) → 0 < levels → k ≡ main_of h → parts ≡ k.parts
    → frame ≡ range_with_len 0 (length (main_of h).inputs) ++ part_signals h (length (main_of h).inputs) (main_of h).parts → n ≡ length (main_of h).inputs → old ≡ []
    → new ≡ with_parts h n (with_model h n (levels - 1) false) true (signal_in (driven_names h k) frame) parts old
    → new ≡ with_model h (length (main_of h).inputs) levels true (main_signal h) (main_of h) []
main_tables h n levels k parts frame old new some model held framed size none made =
    let inner = with_model h n (levels - 1) false in
    let m : BlifModel = main_of h in
    made
    ∙ ap (λ ts. with_parts h n inner true (signal_in (driven_names h k) frame) parts ts) none
    ∙ ap (λ ps. with_parts h n inner true (signal_in (driven_names h k) frame) ps []) held
    ∙ ap (λ (j : BlifModel). with_parts h n inner true (signal_in (driven_names h j) frame) j.parts []) model
    ∙ ap (λ s. with_parts h n inner true (signal_in (driven_names h m) s) m.parts []) framed
    ∙ levels_made h n levels true (main_signal h) m [] some
    ∙ ap (λ i. with_model h i levels true (main_signal h) m []) size

pub main_outputs : (h : Hierarchy) (k : BlifModel) (frame found : List ℕ) (slots : List (Option ℕ)) → k ≡ main_of h
    → frame ≡ range_with_len 0 (length (main_of h).inputs) ++ part_signals h (length (main_of h).inputs) (main_of h).parts
    → slots ≡ map (place_of (driven_names h k)) k.outputs → found ≡ map (slot_signal frame) slots → found ≡ map (main_signal h) (main_of h).outputs
main_outputs h k frame found slots model framed are is =
    is
    ∙ slots_signals (driven_names h k) frame slots k.outputs are
    ∙ ap (λ (j : BlifModel). map (signal_in (driven_names h j) frame) j.outputs) model
    ∙ ap (λ s. map (signal_in (driven_names h (main_of h)) s) (main_of h).outputs) framed

pub main_frame : (h : Hierarchy) (k : BlifModel) (frame offsets : List ℕ) → k ≡ main_of h → offsets ≡ part_signals h 0 k.parts
    → frame ≡ range_with_len 0 (length k.inputs) ++ map (λ s. length k.inputs + s) offsets
    → frame ≡ range_with_len 0 (length (main_of h).inputs) ++ part_signals h (length (main_of h).inputs) (main_of h).parts
main_frame h k frame offsets model counted is =
    is
    ∙ ap (λ l. range_with_len 0 (length k.inputs) ++ l) (offsets_from h (length k.inputs) offsets k counted)
    ∙ ap (λ (j : BlifModel). range_with_len 0 (length j.inputs) ++ part_signals h (length j.inputs) j.parts) model
