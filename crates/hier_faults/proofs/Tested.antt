-- The tests in three groups are the refusals in their order.
use Rattle.std.proofs.Common.{◌≡◌, ◌==◌, Bool, true, false, not, cond, List, [], ◌∷◌, ◌++◌, map, flat_map, length, Option, Some, None, option_map, is_some, find, append_assoc, refl, sym, ap, ◌∙◌}
use Rattle.std.proofs.lemmas.Option.{none-some}
use Rattle.std.proofs.lemmas.Bool.{false≢true}
use Rattle.hier_faults.specs.declared.faults.Fault.{Fault}
use Rattle.semantics.specs.Texts.{Bytes}
use Rattle.semantics.specs.Refusals.{has_name, first_doubled, or_else}
use Rattle.blif_semantics.specs.Reading.{doubled, no_output, undriven}
use Rattle.hierarchy_semantics.specs.Models.{Part, Subcircuit, BlifModel, Hierarchy, main_of, all_uses}
use Rattle.hierarchy_semantics.specs.Driven.{names_driven, part_reads, names_read}
use Rattle.hierarchy_semantics.specs.Refusals.{HierRefusal, same_model, no_model_named, recursive, ports, part, taken, first_found, model_names, first_unknown, first_recursive, doubled_port}
use Rattle.hierarchy_semantics.specs.Refusals.{formal_refusal, unbound_refusal, model_refusal, part_refusal, is_taken, hier_refusal}
use Rattle.hier_faults.specs.Faults.{fault_value, doubled_port_in}
use Rattle.hier_parts.specs.Sets.{with_names}
use Rattle.hier_faults.specs.Tests.{or_first, names_refusal, ports_refusal, part_fault, whole_refusal, form_refusal}
use Rattle.hier_parts.specs.Driven.{driven_names}
use Rattle.hier_faults.specs.Whole.{undriven_in, model_fault}
use Rattle.hier_parts.proofs.Found.{find-same}
use Rattle.hier_parts.proofs.Sets.{has-set, same-set}
use Rattle.hier_parts.proofs.DrivenNames.{driven-same}

-- ---- the names that a model reads

abbrev or_found : Option Bytes → Option Bytes → Option Bytes
or_found o rest = elim o [ None ↦ rest | Some name ↦ Some name ]

find-append : (p : Bytes → Bool) (xs ys : List Bytes) → find p (xs ++ ys) ≡ or_found (find p xs) (find p ys)
find-append p [] ys = refl
find-append p (x ∷ xs) ys = at_test (p x) (find-append p xs ys)
  where
    at_test : (b : Bool) → find p (xs ++ ys) ≡ or_found (find p xs) (find p ys) → cond b (Some x) (find p (xs ++ ys)) ≡ or_found (cond b (Some x) (find p xs)) (find p ys)
    at_test true rest = refl
    at_test false rest = rest

undriven-same : (h : Hierarchy) (names : List Bytes) (ps : List Part) (outputs : List Bytes)
    → undriven_in h (with_names [] names) ps outputs ≡ find (λ name. not (has_name names name)) (flat_map (part_reads h) ps ++ outputs)
undriven-same h names [] outputs = find-same (λ name. not (has_name (with_names [] names) name)) (λ name. not (has_name names name)) outputs (λ name. ap not (has-set names name))
undriven-same h names (p ∷ ps) outputs =
    ap (λ o. or_found o (undriven_in h (with_names [] names) ps outputs))
    (find-same (λ name. not (has_name (with_names [] names) name)) (λ name. not (has_name names name)) (part_reads h p) (λ name. ap not (has-set names name)))
    ∙ ap (λ o. or_found (find (λ name. not (has_name names name)) (part_reads h p)) o) (undriven-same h names ps outputs)
    ∙ sym (find-append (λ name. not (has_name names name)) (part_reads h p) (flat_map (part_reads h) ps ++ outputs))
    ∙ ap (find (λ name. not (has_name names name))) (sym (append_assoc (part_reads h p) (flat_map (part_reads h) ps) outputs))

fault-same : (h : Hierarchy) (m : BlifModel) → model_fault h m ≡ model_refusal h m
fault-same h m =
    ap
    (λ (o : Option Bytes). or_else (first_doubled (driven_names h m)) doubled (cond (length m.outputs == 0) (Some no_output) (option_map undriven o)))
    (undriven-same h (driven_names h m) m.parts m.outputs)
    ∙ ap
    (λ (names : List Bytes).
    or_else (first_doubled names) doubled (cond (length m.outputs == 0) (Some no_output) (option_map undriven (find (λ name. not (has_name names name)) (names_read h m)))))
    (sym (driven-same h m))

-- ---- the tests

found-first : {X : Type 0} (f : X → Option HierRefusal) (x : X) (xs : List X) → first_found f (x ∷ xs) ≡ or_first (f x) (first_found f xs)
found-first f x xs = at_answer (f x)
  where
    at_answer : (o : Option HierRefusal) → elim o [ None ↦ first_found f xs | Some y ↦ Some y ] ≡ or_first o (first_found f xs)
    at_answer None = refl
    at_answer (Some y) = refl

found-same : {X : Type 0} (f g : X → Option HierRefusal) (xs : List X) → ((x : X) → f x ≡ g x) → first_found f xs ≡ first_found g xs
found-same f g [] same = refl
found-same f g (x ∷ xs) same =
    found-first f x xs ∙ ap (λ (o : Option HierRefusal). or_first o (first_found f xs)) (same x) ∙ ap (λ (o : Option HierRefusal). or_first (g x) o) (found-same f g xs same)
    ∙ sym (found-first g x xs)

else-first : {X : Type 0} (o : Option X) (f : X → HierRefusal) (rest : Option HierRefusal) → or_else o f rest ≡ or_first (option_map f o) rest
else-first None f rest = refl
else-first (Some x) f rest = refl

self-first : (o rest : Option HierRefusal) → or_else o (λ r. r) rest ≡ or_first o rest
self-first None rest = refl
self-first (Some x) rest = refl

first-assoc : (a b c : Option HierRefusal) → or_first (or_first a b) c ≡ or_first a (or_first b c)
first-assoc None b c = refl
first-assoc (Some r) b c = refl

first-none : (a : Option HierRefusal) → or_first a None ≡ a
first-none None = refl
first-none (Some r) = refl

-- ---- the whole

names-group : (h : Hierarchy) → names_refusal (model_names h) (with_names [] (model_names h)) (all_uses h) h
    ≡ or_first (option_map same_model (first_doubled (model_names h))) (or_first (option_map (λ c. no_model_named c.model) (first_unknown h)) (option_map (λ m. recursive m.name) (first_recursive h)))
names-group h =
    ap
    (λ (o : Option Subcircuit).
    or_first (option_map same_model (first_doubled (model_names h))) (or_first (option_map (λ c. no_model_named c.model) o) (option_map (λ m. recursive m.name) (first_recursive h))))
    (find-same (λ (c : Subcircuit). not (has_name (with_names [] (model_names h)) c.model)) (λ (c : Subcircuit). not (has_name (model_names h) c.model)) (all_uses h)
    (λ c. ap not (has-set (model_names h) c.model)))

port-same : (h : Hierarchy) (m : BlifModel) → doubled_port_in (with_names [] (map (λ c. c.model) (all_uses h))) m ≡ doubled_port h m
port-same h m = ap (λ (b : Bool). cond b (option_map (ports m.name) (first_doubled m.ports)) None) (has-set (map (λ c. c.model) (all_uses h)) m.name)

ports-group : (h : Hierarchy) → ports_refusal (all_uses h) h
    ≡ or_first (first_found (doubled_port h) h) (or_first (first_found (formal_refusal h) (all_uses h)) (first_found (unbound_refusal h) (all_uses h)))
ports-group h =
    ap (λ (o : Option HierRefusal). or_first o (or_first (first_found (formal_refusal h) (all_uses h)) (first_found (unbound_refusal h) (all_uses h))))
    (found-same (doubled_port_in (with_names [] (map (λ c. c.model) (all_uses h)))) (doubled_port h) h (port-same h))

whole-group : (h : Hierarchy) → whole_refusal h ≡ or_first (first_found (part_refusal h) h) (option_map taken (find is_taken (names_driven h (main_of h))))
whole-group h =
    ap (λ (o : Option HierRefusal). or_first o (option_map taken (find is_taken (driven_names h (main_of h)))))
    (found-same (part_fault h) (part_refusal h) h (λ m. ap (option_map (part m.name)) (fault-same h m)))
    ∙ ap (λ names. or_first (first_found (part_refusal h) h) (option_map taken (find is_taken names))) (sym (driven-same h (main_of h)))

chain : (a b c d e f g k : Option HierRefusal) → or_first a (or_first b (or_first c (or_first d (or_first e (or_first f (or_first g (or_first k None)))))))
    ≡ or_first (or_first a (or_first b c)) (or_first (or_first d (or_first e f)) (or_first g k))
chain (Some r) b c d e f g k = refl
chain None (Some r) c d e f g k = refl
chain None None (Some r) d e f g k = refl
chain None None None (Some r) e f g k = refl
chain None None None None (Some r) f g k = refl
chain None None None None None (Some r) g k = refl
chain None None None None None None (Some r) k = refl
chain None None None None None None None k = first-none k

pub tests : (h : Hierarchy) → hier_refusal h ≡ or_first (names_refusal (model_names h) (with_names [] (model_names h)) (all_uses h) h) (or_first (ports_refusal (all_uses h) h) (whole_refusal h))
unfolding hier_refusal
tests h =
    let a = first_doubled (model_names h) in
    let b = first_unknown h in
    let c = first_recursive h in
    let d = first_found (doubled_port h) h in
    let e = first_found (formal_refusal h) (all_uses h) in
    let f = first_found (unbound_refusal h) (all_uses h) in
    let g = first_found (part_refusal h) h in
    let k = find is_taken (names_driven h (main_of h)) in
    let k1 = or_else k taken None in
    let g1 = or_else g (λ r. r) k1 in
    let f1 = or_else f (λ r. r) g1 in
    let e1 = or_else e (λ r. r) f1 in
    let d1 = or_else d (λ r. r) e1 in
    let c1 = or_else c (λ m. recursive m.name) d1 in
    let b1 = or_else b (λ c. no_model_named c.model) c1 in
    else-first a same_model b1
    ∙ ap (or_first (option_map same_model a))
    (else-first b (λ c. no_model_named c.model) c1
    ∙ ap (or_first (option_map (λ c. no_model_named c.model) b))
    (else-first c (λ m. recursive m.name) d1
    ∙ ap (or_first (option_map (λ m. recursive m.name) c))
    (self-first d e1 ∙ ap (or_first d) (self-first e f1 ∙ ap (or_first e) (self-first f g1 ∙ ap (or_first f) (self-first g k1 ∙ ap (or_first g) (else-first k taken None)))))))
    ∙ chain (option_map same_model a) (option_map (λ c. no_model_named c.model) b) (option_map (λ m. recursive m.name) c) d e f g (option_map taken k)
    ∙ ap (λ (o : Option HierRefusal). or_first o (or_first (or_first d (or_first e f)) (or_first g (option_map taken k)))) (sym (names-group h))
    ∙ ap (λ (o : Option HierRefusal). or_first (names_refusal (model_names h) (with_names [] (model_names h)) (all_uses h) h) (or_first o (or_first g (option_map taken k)))) (sym (ports-group h))
    ∙ ap (λ (o : Option HierRefusal). or_first (names_refusal (model_names h) (with_names [] (model_names h)) (all_uses h) h) (or_first (ports_refusal (all_uses h) h) o)) (sym (whole-group h))

-- ---- the answers of the groups

pub record IsNamesFault (h : Hierarchy) (o : Option HierRefusal) : Type 0 where
  pub names : List Bytes
  pub known : List Bytes
  pub uses : List Subcircuit
  pub is : o ≡ names_refusal names known uses h
  pub names_is : names ≡ model_names h
  pub known_is : known ≡ with_names [] names
  pub uses_is : uses ≡ all_uses h

names-answer : (h : Hierarchy) (o : Option HierRefusal) → IsNamesFault h o → o ≡ names_refusal (model_names h) (with_names [] (model_names h)) (all_uses h) h
names-answer h o a =
    a.is ∙ ap (λ k. names_refusal a.names k a.uses h) a.known_is ∙ ap (λ n. names_refusal n (with_names [] n) a.uses h) a.names_is ∙ ap
    (λ u. names_refusal (model_names h) (with_names [] (model_names h)) u h) a.uses_is

pub first-told : (h : Hierarchy) (x : Option Fault) → true ≡ is_some x → IsNamesFault h (option_map fault_value x) → option_map fault_value x ≡ hier_refusal h
first-told h None some a = absurd (false≢true (sym some))
first-told h (Some v) some a =
    ap (λ (o : Option HierRefusal). or_first o (or_first (ports_refusal (all_uses h) h) (whole_refusal h))) (names-answer h (Some (fault_value v)) a) ∙ sym (tests h)

pub known-none : (h : Hierarchy) (x : Option Fault) (known : List Bytes) → false ≡ is_some x → (a : IsNamesFault h (option_map fault_value x)) → known ≡ a.known → known ≡ model_names h
known-none h (Some v) known none a is = absurd (false≢true none)
known-none h None known none a is =
    is ∙ a.known_is ∙ ap (with_names []) a.names_is
    ∙ same-set (model_names h) (first_part (first_doubled (model_names h)) _ (sym (names-answer h None a)))
  where
    first_part : (o : Option Bytes) (rest : Option HierRefusal) → or_first (option_map same_model o) rest ≡ None → o ≡ None
    first_part None rest e = refl
    first_part (Some n) rest e = absurd (none-some (same_model n) (sym e))

pub after-names : (h : Hierarchy) (x : Option Fault) (uses : List Subcircuit) → false ≡ is_some x → IsNamesFault h (option_map fault_value x) → uses ≡ all_uses h
    → form_refusal uses h ≡ hier_refusal h
after-names h (Some v) uses none a all = absurd (false≢true none)
after-names h None uses none a all =
    ap (λ u. form_refusal u h) all ∙ ap (λ (o : Option HierRefusal). or_first o (or_first (ports_refusal (all_uses h) h) (whole_refusal h))) (names-answer h None a) ∙ sym (tests h)

pub ports-told : (h : Hierarchy) (uses : List Subcircuit) (y : Option Fault) → true ≡ is_some y → option_map fault_value y ≡ ports_refusal uses h → option_map fault_value y ≡ form_refusal uses h
ports-told h uses None some is = absurd (false≢true (sym some))
ports-told h uses (Some v) some is = ap (λ (o : Option HierRefusal). or_first o (whole_refusal h)) is

pub parts-told : (h : Hierarchy) (uses : List Subcircuit) (y : Option Fault) → false ≡ is_some y → option_map fault_value y ≡ ports_refusal uses h → whole_refusal h ≡ form_refusal uses h
parts-told h uses (Some v) none is = absurd (false≢true none)
parts-told h uses None none is = ap (λ (o : Option HierRefusal). or_first o (whole_refusal h)) is

-- ---- what a test that finds nothing says

pub none_found : {X : Type 0} (x : Option Fault) (f : X → HierRefusal) (o : Option X) → false ≡ is_some x → option_map fault_value x ≡ option_map f o → o ≡ None
none_found x f None none is = refl
none_found None f (Some y) none is = absurd (none-some (f y) is)
none_found (Some v) f (Some y) none is = absurd (false≢true none)

pub none_unknown : (h : Hierarchy) (x : Option Fault) (known : List Bytes) (uses : List Subcircuit) → known ≡ model_names h → uses ≡ all_uses h → false ≡ is_some x
    → option_map fault_value x ≡ option_map (λ c. no_model_named c.model) (find (λ c. not (has_name known c.model)) uses) → first_unknown h ≡ None
none_unknown h x known uses names all none is =
    ap (λ (n : List Bytes). find (λ (c : Subcircuit). not (has_name n c.model)) (all_uses h)) (sym names)
    ∙ ap (λ (cs : List Subcircuit). find (λ (c : Subcircuit). not (has_name known c.model)) cs) (sym all)
    ∙ none_found x (λ (c : Subcircuit). no_model_named c.model) (find (λ (c : Subcircuit). not (has_name known c.model)) uses) none is
