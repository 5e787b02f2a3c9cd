-- What is told of models whose names are names is told with names.
use Rattle.std.proofs.Common.{◌≡◌, Bool, true, false, not, ◌==◌, ◌||◌, cond, List, [], ◌∷◌, ◌++◌, map, flat_map, filter, find, length, bytes_eq, All, Option, Some, None, option_map, sym, subst}
use Rattle.std.specs.Prelude.{IfSome}
use Rattle.std.proofs.lemmas.Option.{IfSome_then}
use Rattle.std.proofs.lemmas.List.Elements.{All-nil, All-cons, All-append, All-map, All-head, All-tail, All-weaker}
use Rattle.semantics.specs.Texts.{Bytes}
use Rattle.semantics.specs.Net.{IsName}
use Rattle.semantics.specs.Refusals.{has_name, first_doubled_after, first_doubled, or_else}
use Rattle.blif_semantics.specs.Reading.{doubled, no_output, undriven}
use Rattle.hierarchy_semantics.specs.Models.{Binding, Part, names_part, subckt_part, Subcircuit, BlifModel, Hierarchy, no_model, main_of, model_named, part_uses, uses_of, all_uses}
use Rattle.hierarchy_semantics.specs.Driven.{bound_outputs, bound_inputs, names_driven, part_reads, names_read}
use Rattle.hierarchy_semantics.specs.Refusals.{HierRefusal, same_model, no_model_named, recursive, ports, formal, unbound, part, taken, first_found, model_names, first_unknown, first_recursive}
use Rattle.hierarchy_semantics.specs.Refusals.{is_model_grounded, doubled_port, wrong_formal, formals_of, formal_refusal, unbound_refusal, model_refusal, part_refusal, is_taken, hier_refusal}
use Rattle.hier_faults.specs.Named.{IsNamedBinding, IsNamedPart, IsNamedModel, AreNamed, PartTellsName, TellsNames}
use Rattle.hier_parts.specs.Driven.{part_names}
use Rattle.hier_parts.proofs.DrivenNames.{driven-same}

-- ---- what is found among members that have a property

if_else : {X R : Type 0} (P : R → Type 0) (o : Option X) (f : X → R) (rest : Option R) → IfSome o (λ x. P (f x)) → IfSome rest P → IfSome (or_else o f rest) P
if_else P None f rest first others = others
if_else P (Some x) f rest first others = first

if_mapped : {X Y : Type 0} (P : Y → Type 0) (f : X → Y) (o : Option X) → IfSome o (λ x. P (f x)) → IfSome (option_map f o) P
if_mapped P f None h = tt
if_mapped P f (Some x) h = h

if_found : {X : Type 0} (P : X → Type 0) (p : X → Bool) (xs : List X) → All P xs → IfSome (find p xs) P
if_found P p [] all = tt
if_found {X} P p (x ∷ xs) all = at_test (p x) (if_found P p xs (All-tail P x xs all))
  where
    at_test : (b : Bool) → IfSome (find p xs) P → IfSome (cond b (Some x) (find p xs)) P
    at_test true rest = All-head P x xs all
    at_test false rest = rest

if_first : {X Y : Type 0} (P : Y → Type 0) (Q : X → Type 0) (f : X → Option Y) (xs : List X) → ((x : X) → Q x → IfSome (f x) P) → All Q xs → IfSome (first_found f xs) P
if_first P Q f [] each all = tt
if_first {X} {Y} P Q f (x ∷ xs) each all = at_answer (f x) (each x (All-head Q x xs all)) (if_first P Q f xs each (All-tail Q x xs all))
  where
    at_answer : (o : Option Y) → IfSome o P → IfSome (first_found f xs) P → IfSome (elim o [ None ↦ first_found f xs | Some y ↦ Some y ]) P
    at_answer None here rest = rest
    at_answer (Some y) here rest = here

if_doubled : (earlier names : List Bytes) → All IsName names → IfSome (first_doubled_after earlier names) IsName
if_doubled earlier [] all = tt
if_doubled earlier (name ∷ names) all = at_test (has_name earlier name) (if_doubled (earlier ++ name ∷ []) names (All-tail IsName name names all))
  where
    at_test : (b : Bool) → IfSome (first_doubled_after (earlier ++ name ∷ []) names) IsName → IfSome (cond b (Some name) (first_doubled_after (earlier ++ name ∷ []) names)) IsName
    at_test true rest = All-head IsName name names all
    at_test false rest = rest

if_wrong : (known earlier names : List Bytes) → All IsName names → IfSome (wrong_formal known earlier names) IsName
if_wrong known earlier [] all = tt
if_wrong known earlier (name ∷ names) all = at_test (not (has_name known name) || has_name earlier name) (if_wrong known (earlier ++ name ∷ []) names (All-tail IsName name names all))
  where
    at_test : (b : Bool) → IfSome (wrong_formal known (earlier ++ name ∷ []) names) IsName → IfSome (cond b (Some name) (wrong_formal known (earlier ++ name ∷ []) names)) IsName
    at_test true rest = All-head IsName name names all
    at_test false rest = rest

-- ---- the lists of names of models

all_flat : {X Y : Type 0} (P : X → Type 0) (Q : Y → Type 0) (f : X → List Y) (xs : List X) → ((x : X) → P x → All Q (f x)) → All P xs → All Q (flat_map f xs)
all_flat P Q f [] each all = All-nil Q
all_flat P Q f (x ∷ xs) each all = All-append Q (f x) (flat_map f xs) (each x (All-head P x xs all)) (all_flat P Q f xs each (All-tail P x xs all))

all_kept : {X : Type 0} (P : X → Type 0) (p : X → Bool) (xs : List X) → All P xs → All P (filter p xs)
all_kept P p [] all = All-nil P
all_kept {X} P p (x ∷ xs) all = at_test (p x) (all_kept P p xs (All-tail P x xs all))
  where
    at_test : (b : Bool) → All P (filter p xs) → All P (cond b (x ∷ filter p xs) (filter p xs))
    at_test true rest = All-cons P x (filter p xs) (All-head P x xs all) rest
    at_test false rest = rest

names_named : (h : Hierarchy) → AreNamed h → All IsName (model_names h)
names_named h all = All-map IsName (λ m. m.name) h (All-weaker IsNamedModel (λ m. IsName m.name) (λ m named. named.name) h all)

abbrev IsNamedUse : Subcircuit → Type 0
IsNamedUse c = IsName c.model × All IsNamedBinding c.bindings

part_uses_named : (p : Part) → IsNamedPart p → All IsNamedUse (part_uses p)
part_uses_named (names_part t) named = All-nil IsNamedUse
part_uses_named (subckt_part c) named = All-cons IsNamedUse c [] named (All-nil IsNamedUse)

uses_named : (h : Hierarchy) → AreNamed h → All IsNamedUse (all_uses h)
uses_named h all = all_flat IsNamedModel IsNamedUse uses_of h (λ m named. all_flat IsNamedPart IsNamedUse part_uses m.parts part_uses_named named.parts) all

formals_named : (c : Subcircuit) → IsNamedUse c → All IsName (formals_of c)
formals_named c named = All-map IsName (λ b. b.formal) c.bindings (All-weaker IsNamedBinding (λ b. IsName b.formal) (λ b both. both.0) c.bindings named.1)

actuals_named : (bs : List Binding) → All IsNamedBinding bs → All IsName (map (λ b. b.actual) bs)
actuals_named bs all = All-map IsName (λ b. b.actual) bs (All-weaker IsNamedBinding (λ b. IsName b.actual) (λ b both. both.1) bs all)

abbrev model_or_none : Option BlifModel → BlifModel
model_or_none o = elim o [ None ↦ no_model | Some m ↦ m ]

inputs_named : (h : Hierarchy) (name : Bytes) → AreNamed h → All IsName (model_named h name).inputs
inputs_named h name all = at_found (find (λ m. bytes_eq m.name name) h) (if_found IsNamedModel (λ m. bytes_eq m.name name) h all)
  where
    at_found : (o : Option BlifModel) → IfSome o IsNamedModel → All IsName (model_or_none o).inputs
    at_found None h = All-nil IsName
    at_found (Some m) h = h.inputs

part_names_named : (h : Hierarchy) (p : Part) → IsNamedPart p → All IsName (part_names h p)
part_names_named h (names_part t) named = All-cons IsName t.name [] named.0 (All-nil IsName)
part_names_named h (subckt_part c) named = actuals_named (bound_outputs h c) (all_kept IsNamedBinding _ c.bindings named.1)

part_reads_named : (h : Hierarchy) (p : Part) → IsNamedPart p → All IsName (part_reads h p)
part_reads_named h (names_part t) named = named.1
part_reads_named h (subckt_part c) named = actuals_named (bound_inputs h c) (all_kept IsNamedBinding _ c.bindings named.1)

driven_named : (h : Hierarchy) (m : BlifModel) → IsNamedModel m → All IsName (names_driven h m)
driven_named h m named =
    subst (All IsName) (sym (driven-same h m))
    (All-append IsName m.inputs (flat_map (part_names h) m.parts) named.inputs (all_flat IsNamedPart IsName (part_names h) m.parts (part_names_named h) named.parts))

main_named : (h : Hierarchy) → AreNamed h → All IsName (names_driven h (main_of h))
main_named [] all = All-nil IsName
main_named (m ∷ h) all = driven_named (m ∷ h) m (All-head IsNamedModel m h all)

read_named : (h : Hierarchy) (m : BlifModel) → IsNamedModel m → All IsName (names_read h m)
read_named h m named =
    All-append IsName (flat_map (part_reads h) m.parts) m.outputs (all_flat IsNamedPart IsName (part_reads h) m.parts (part_reads_named h) named.parts) named.outputs

-- ---- the tests

if_port : (h : Hierarchy) (m : BlifModel) → IsNamedModel m → IfSome (doubled_port h m) TellsNames
if_port h m named = at_test (has_name (map (λ c. c.model) (all_uses h)) m.name)
  where
    at_test : (b : Bool) → IfSome (cond b (option_map (ports m.name) (first_doubled m.ports)) None) TellsNames
    at_test true =
        if_mapped TellsNames (ports m.name) (first_doubled m.ports) (IfSome_then (first_doubled m.ports) (if_doubled [] m.ports named.ports) (λ name is. (named.name, is)))
    at_test false = tt

if_formal : (h : Hierarchy) (c : Subcircuit) → IsNamedUse c → IfSome (formal_refusal h c) TellsNames
if_formal h c named =
    if_mapped TellsNames (formal c.line) (wrong_formal (model_named h c.model).ports [] (formals_of c)) (if_wrong (model_named h c.model).ports [] (formals_of c) (formals_named c named))

if_unbound : (h : Hierarchy) → AreNamed h → (c : Subcircuit) → IsNamedUse c → IfSome (unbound_refusal h c) TellsNames
if_unbound h all c named =
    if_mapped TellsNames (unbound c.line) (find (λ name. not (has_name (formals_of c) name)) (model_named h c.model).inputs)
    (if_found IsName (λ name. not (has_name (formals_of c) name)) (model_named h c.model).inputs (inputs_named h c.model all))

if_fault : (h : Hierarchy) (m : BlifModel) → IsNamedModel m → IfSome (model_refusal h m) PartTellsName
if_fault h m named =
    let missing : Option Bytes = find (λ name. not (has_name (names_driven h m) name)) (names_read h m) in
    if_else PartTellsName (first_doubled (names_driven h m)) doubled (cond (length m.outputs == 0) (Some no_output) (option_map undriven missing))
    (if_doubled [] (names_driven h m) (driven_named h m named)) (at_test (length m.outputs == 0))
  where
    at_test : (b : Bool) → IfSome (cond b (Some no_output) (option_map undriven (find (λ name. not (has_name (names_driven h m) name)) (names_read h m)))) PartTellsName
    at_test true = tt
    at_test false =
        if_mapped PartTellsName undriven (find (λ name. not (has_name (names_driven h m) name)) (names_read h m))
        (if_found IsName (λ name. not (has_name (names_driven h m) name)) (names_read h m) (read_named h m named))

if_part : (h : Hierarchy) (m : BlifModel) → IsNamedModel m → IfSome (part_refusal h m) TellsNames
if_part h m named = if_mapped TellsNames (part m.name) (model_refusal h m) (IfSome_then (model_refusal h m) (if_fault h m named) (λ r is. (named.name, is)))

if_unknown : (h : Hierarchy) → AreNamed h → IfSome (first_unknown h) (λ c. IsName c.model)
if_unknown h all =
    IfSome_then (first_unknown h) (if_found IsNamedUse (λ c. not (has_name (model_names h) c.model)) (all_uses h) (uses_named h all)) (λ c named. named.0)

if_recursive : (h : Hierarchy) → AreNamed h → IfSome (first_recursive h) (λ m. IsName m.name)
if_recursive h all =
    IfSome_then (first_recursive h) (if_found IsNamedModel (λ m. not (is_model_grounded h (length h) m)) h all) (λ m named. named.name)

pub if_refused : (h : Hierarchy) → AreNamed h → IfSome (hier_refusal h) TellsNames
unfolding hier_refusal
if_refused h all =
    let d : Option HierRefusal = first_found (doubled_port h) h in
    let e : Option HierRefusal = first_found (formal_refusal h) (all_uses h) in
    let f : Option HierRefusal = first_found (unbound_refusal h) (all_uses h) in
    let g : Option HierRefusal = first_found (part_refusal h) h in
    let k : Option Bytes = find is_taken (names_driven h (main_of h)) in
    let k1 = or_else k taken None in
    let g1 = or_else g (λ r. r) k1 in
    let f1 = or_else f (λ r. r) g1 in
    let e1 = or_else e (λ r. r) f1 in
    let d1 = or_else d (λ r. r) e1 in
    let c1 = or_else (first_recursive h) (λ m. recursive m.name) d1 in
    let b1 = or_else (first_unknown h) (λ c. no_model_named c.model) c1 in
    if_else TellsNames (first_doubled (model_names h)) same_model b1 (if_doubled [] (model_names h) (names_named h all))
    (if_else TellsNames (first_unknown h) (λ c. no_model_named c.model) c1 (if_unknown h all)
    (if_else TellsNames (first_recursive h) (λ m. recursive m.name) d1 (if_recursive h all)
    (if_else TellsNames d (λ r. r) e1 (if_first TellsNames IsNamedModel (doubled_port h) h (if_port h) all)
    (if_else TellsNames e (λ r. r) f1 (if_first TellsNames IsNamedUse (formal_refusal h) (all_uses h) (if_formal h) (uses_named h all))
    (if_else TellsNames f (λ r. r) g1 (if_first TellsNames IsNamedUse (unbound_refusal h) (all_uses h) (if_unbound h all) (uses_named h all))
    (if_else TellsNames g (λ r. r) k1 (if_first TellsNames IsNamedModel (part_refusal h) h (if_part h) all)
    (if_else TellsNames k taken None (if_found IsName is_taken (names_driven h (main_of h)) (main_named h all)) tt)))))))

-- the refusal that is told of named models
pub told_named : (h : Hierarchy) (r : HierRefusal) → AreNamed h → Some r ≡ hier_refusal h → TellsNames r
told_named h r all is = subst (λ o. IfSome o TellsNames) (sym is) (if_refused h all)
