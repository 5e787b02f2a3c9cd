-- The models that have no refusal are the hierarchies.
use Rattle.std.proofs.Common.{◌≡◌, ◌↔◌, ℕ, zero, suc, Bool, true, false, not, ◌==◌, ◌||◌, cond, List, [], ◌∷◌, ◌++◌, map, length, find, Contains, Option, Some, None, option_map, refl, ap, sym, ◌∙◌}
use Rattle.std.proofs.Common.{inl, inr, arith}
use Rattle.std.specs.List.{AllByRecursion, list_all}
use Rattle.std.proofs.lemmas.Bool.{false≢true, and_parts, and_from, not-false, ne_eqb}
use Rattle.std.proofs.lemmas.Option.{none-some}
use Rattle.semantics.specs.Texts.{Bytes}
use Rattle.semantics.specs.Refusals.{has_name, first_doubled_after, first_doubled}
use Rattle.semantics.proofs.Refused.{undoubled, differ-undoubled}
use Rattle.blif_semantics.specs.Reading.{undriven}
use Rattle.semantics.proofs.FirstFound.{none_if}
use Rattle.hierarchy_semantics.specs.Models.{Subcircuit, BlifModel, Hierarchy, main_of, model_named, uses_of, all_uses}
use Rattle.hierarchy_semantics.specs.Driven.{names_driven, names_read}
use Rattle.hierarchy_semantics.specs.Refusals.{ports, formal, unbound, part, first_found, model_names, first_unknown, is_model_grounded, first_recursive, doubled_port, wrong_formal, formals_of}
use Rattle.hierarchy_semantics.specs.Refusals.{formal_refusal, unbound_refusal, model_refusal, part_refusal, is_taken, hier_refusal}
use Rattle.hierarchy_semantics.specs.RefusalLaws.{IsModelGrounded, HasPorts, IsBound, IsWholeModel, IsHierarchy}
use Rattle.hierarchy_semantics.proofs.Members.{IsIn, named_in, in_named}
use Rattle.hierarchy_semantics.proofs.Parts.{in_get}
use Rattle.hierarchy_semantics.proofs.Accepted.{none_mapped, first_answer, has_no_refusal, fault_parts}

-- ---- names that are there

contains_in : {X : Type 0} (xs : List X) (x : X) → IsIn x xs → Contains xs x
contains_in [] x h = absurd h
contains_in (z ∷ xs) x (inl e) = (0, omega arith, e)
contains_in (z ∷ xs) x (inr h) = let rest = contains_in xs x h in (suc rest.0, omega (arith, rest.1), rest.2)

there : (names : List Bytes) (word : Bytes) → has_name names word ≡ true → Contains names word
there names word e = contains_in names word (named_in names word e)

is_there : (names : List Bytes) (word : Bytes) → Contains names word → has_name names word ≡ true
is_there names word c = in_named names word (in_get names c.0 word word c.1 c.2)

-- ---- lists in which nothing is found

each_none : {X : Type 0} (p : X → Bool) (xs : List X) → find p xs ≡ None → AllByRecursion (λ x. p x ≡ false) xs
each_none p [] e = tt
each_none p (x ∷ xs) e = let parts = none_if (p x) x (find p xs) e in (parts.0, each_none p xs parts.1)

none_each : {X : Type 0} (p : X → Bool) (xs : List X) → AllByRecursion (λ x. p x ≡ false) xs → find p xs ≡ None
none_each p [] h = refl
none_each p (x ∷ xs) h = rw h.0 (none_each p xs h.1)

first_parts : {Y : Type 0} (o rest : Option Y) → first_answer o rest ≡ None → (o ≡ None) × (rest ≡ None)
first_parts None rest e = (refl, e)
first_parts (Some y) rest e = absurd (none-some y (sym e))

each_first : {X Y : Type 0} (f : X → Option Y) (xs : List X) → first_found f xs ≡ None → AllByRecursion (λ x. f x ≡ None) xs
each_first f [] e = tt
each_first f (x ∷ xs) e = let parts = first_parts (f x) (first_found f xs) e in (parts.0, each_first f xs parts.1)

first_each : {X Y : Type 0} (f : X → Option Y) (xs : List X) → AllByRecursion (λ x. f x ≡ None) xs → first_found f xs ≡ None
first_each f [] h = refl
first_each f (x ∷ xs) h = ap (λ o. first_answer o (first_found f xs)) h.0 ∙ first_each f xs h.1

weaker : {X : Type 0} (P Q : X → Type 0) (xs : List X) → ((x : X) → P x → Q x) → AllByRecursion P xs → AllByRecursion Q xs
weaker P Q [] f h = tt
weaker P Q (x ∷ xs) f h = (f x h.0, weaker P Q xs f h.1)

both_all : {X : Type 0} (P Q R : X → Type 0) (xs : List X) → ((x : X) → P x → Q x → R x) → AllByRecursion P xs → AllByRecursion Q xs → AllByRecursion R xs
both_all P Q R [] f h k = tt
both_all P Q R (x ∷ xs) f h k = (f x h.0 k.0, both_all P Q R xs f h.1 k.1)

each_there : (names words : List Bytes) → find (λ word. not (has_name names word)) words ≡ None → AllByRecursion (Contains names) words
each_there names words e =
    weaker (λ word. not (has_name names word) ≡ false) (Contains names) words (λ word h. there names word (not-false (has_name names word) h)) (each_none (λ word. not (has_name names word)) words e)

lacks_none : (names : List Bytes) (word : Bytes) → Contains names word → not (has_name names word) ≡ false
lacks_none names word c = ap not (is_there names word c)

none_missing : (names words : List Bytes) → AllByRecursion (Contains names) words → find (λ word. not (has_name names word)) words ≡ None
none_missing names words h = none_each (λ word. not (has_name names word)) words (weaker (Contains names) (λ word. not (has_name names word) ≡ false) words (lacks_none names) h)

-- ---- grounded models

each_passed : {X : Type 0} (p : X → Bool) (P : X → Type 0) (xs : List X) → ((x : X) → p x ≡ true → P x) → list_all p xs ≡ true → AllByRecursion P xs
each_passed p P [] f e = tt
each_passed p P (x ∷ xs) f e = let parts = and_parts (p x) (list_all p xs) e in (f x parts.0, each_passed p P xs f parts.1)

passed_each : {X : Type 0} (p : X → Bool) (P : X → Type 0) (xs : List X) → ((x : X) → P x → p x ≡ true) → AllByRecursion P xs → list_all p xs ≡ true
passed_each p P [] f h = refl
passed_each p P (x ∷ xs) f h = and_from (p x) (list_all p xs) (f x h.0) (passed_each p P xs f h.1)

grounded_model : (h : Hierarchy) (steps : ℕ) (m : BlifModel) → is_model_grounded h steps m ≡ true → IsModelGrounded h steps m
grounded_model h zero m e = absurd (false≢true e)
grounded_model h (suc steps) m e =
    each_passed (λ c. is_model_grounded h steps (model_named h c.model)) (λ c. IsModelGrounded h steps (model_named h c.model)) (uses_of m) (λ c. grounded_model h steps (model_named h c.model)) e

model_grounded : (h : Hierarchy) (steps : ℕ) (m : BlifModel) → IsModelGrounded h steps m → is_model_grounded h steps m ≡ true
model_grounded h zero m g = absurd g
model_grounded h (suc steps) m g =
    passed_each (λ c. is_model_grounded h steps (model_named h c.model)) (λ c. IsModelGrounded h steps (model_named h c.model)) (uses_of m) (λ c. model_grounded h steps (model_named h c.model)) g

-- ---- ports and formals

port_parts : (h : Hierarchy) (m : BlifModel) (used : Bool) → has_name (map (λ c. c.model) (all_uses h)) m.name ≡ used → cond used (option_map (ports m.name) (first_doubled m.ports)) None ≡ None
    → HasPorts h m
port_parts h m true is e = λ c. undoubled m.ports (none_mapped (ports m.name) (first_doubled m.ports) e)
port_parts h m false is e = λ c. absurd (false≢true (sym is ∙ is_there (map (λ c. c.model) (all_uses h)) m.name c))

ports_none : (h : Hierarchy) (m : BlifModel) (used : Bool) → has_name (map (λ c. c.model) (all_uses h)) m.name ≡ used → HasPorts h m
    → cond used (option_map (ports m.name) (first_doubled m.ports)) None ≡ None
ports_none h m true is p = ap (option_map (ports m.name)) (differ-undoubled m.ports (p (there (map (λ c. c.model) (all_uses h)) m.name is)))
ports_none h m false is p = refl

or_parts : (a b : Bool) → a || b ≡ false → (a ≡ false) × (b ≡ false)
or_parts true b e = absurd (false≢true (sym e))
or_parts false b e = (refl, e)

formals_parts : (known earlier names : List Bytes) → wrong_formal known earlier names ≡ None → AllByRecursion (Contains known) names × (first_doubled_after earlier names ≡ None)
formals_parts known earlier [] e = (tt, refl)
formals_parts known earlier (name ∷ names) e =
    let parts = none_if (not (has_name known name) || has_name earlier name) name (wrong_formal known (earlier ++ name ∷ []) names) e in
    let tests = or_parts (not (has_name known name)) (has_name earlier name) parts.0 in
    let rest = formals_parts known (earlier ++ name ∷ []) names parts.1 in
    ((there known name (not-false (has_name known name) tests.0), rest.0), ap (λ b. cond b (Some name) (first_doubled_after (earlier ++ name ∷ []) names)) tests.1 ∙ rest.1)

formals_none : (known earlier names : List Bytes) → AllByRecursion (Contains known) names → first_doubled_after earlier names ≡ None → wrong_formal known earlier names ≡ None
formals_none known earlier [] h e = refl
formals_none known earlier (name ∷ names) h e =
    let parts = none_if (has_name earlier name) name (first_doubled_after (earlier ++ name ∷ []) names) e in
    ap (λ b. cond (b || has_name earlier name) (Some name) (wrong_formal known (earlier ++ name ∷ []) names)) (lacks_none known name h.0)
    ∙ ap (λ b. cond b (Some name) (wrong_formal known (earlier ++ name ∷ []) names)) parts.0
    ∙ formals_none known (earlier ++ name ∷ []) names h.1 parts.1

bound_use : (h : Hierarchy) (c : Subcircuit) → formal_refusal h c ≡ None → unbound_refusal h c ≡ None → IsBound h c
bound_use h c e u =
    let parts = formals_parts (model_named h c.model).ports [] (formals_of c) (none_mapped (formal c.line) (wrong_formal (model_named h c.model).ports [] (formals_of c)) e) in
    record {
      ports = parts.0;
      once = undoubled (formals_of c) parts.1;
      inputs = each_there (formals_of c) (model_named h c.model).inputs (none_mapped (unbound c.line) (find (λ name. not (has_name (formals_of c) name)) (model_named h c.model).inputs) u);
    }

formal_none : (h : Hierarchy) (c : Subcircuit) → IsBound h c → formal_refusal h c ≡ None
formal_none h c b = ap (option_map (formal c.line)) (formals_none (model_named h c.model).ports [] (formals_of c) b.ports (differ-undoubled (formals_of c) b.once))

unbound_none : (h : Hierarchy) (c : Subcircuit) → IsBound h c → unbound_refusal h c ≡ None
unbound_none h c b = ap (option_map (unbound c.line)) (none_missing (formals_of c) (model_named h c.model).inputs b.inputs)

-- ---- models

whole_model : (h : Hierarchy) (m : BlifModel) → part_refusal h m ≡ None → IsWholeModel h m
whole_model h m e =
    let fault = fault_parts h m (none_mapped (part m.name) (model_refusal h m) e) in
    record { once = undoubled (names_driven h m) fault.once; output = fault.some_output; driven = each_there (names_driven h m) (names_read h m) fault.reads }

part_none : (h : Hierarchy) (m : BlifModel) → IsWholeModel h m → part_refusal h m ≡ None
part_none h m w =
    let some : length m.outputs == 0 ≡ false = ne_eqb (length m.outputs) 0 (λ e. omega (arith, e, w.output)) in
    let none : model_refusal h m ≡ None = rw (differ-undoubled (names_driven h m) w.once, some) (ap (option_map undriven) (none_missing (names_driven h m) (names_read h m) w.driven)) in
    ap (option_map (part m.name)) none

-- ---- hierarchies

is_hierarchy : (h : Hierarchy) → hier_refusal h ≡ None → IsHierarchy h
is_hierarchy h e =
    let none = has_no_refusal h e in
    record {
      names_differ = undoubled (model_names h) none.names_differ;
      known = weaker (λ c. not (has_name (model_names h) c.model) ≡ false) (λ c. Contains (model_names h) c.model) (all_uses h)
          (λ c k. there (model_names h) c.model (not-false (has_name (model_names h) c.model) k)) (each_none (λ c. not (has_name (model_names h) c.model)) (all_uses h) none.known);
      grounded = weaker (λ m. not (is_model_grounded h (length h) m) ≡ false) (IsModelGrounded h (length h)) h
          (λ m g. grounded_model h (length h) m (not-false (is_model_grounded h (length h) m) g)) (each_none (λ m. not (is_model_grounded h (length h) m)) h none.grounded);
      ports = weaker (λ m. doubled_port h m ≡ None) (HasPorts h) h (λ m. port_parts h m (has_name (map (λ c. c.model) (all_uses h)) m.name) refl) (each_first (doubled_port h) h none.ports);
      bound = both_all (λ c. formal_refusal h c ≡ None) (λ c. unbound_refusal h c ≡ None) (IsBound h) (all_uses h) (bound_use h) (each_first (formal_refusal h) (all_uses h) none.formals)
          (each_first (unbound_refusal h) (all_uses h) none.bound);
      whole = weaker (λ m. part_refusal h m ≡ None) (IsWholeModel h) h (whole_model h) (each_first (part_refusal h) h none.parts);
      free = each_none is_taken (names_driven h (main_of h)) none.free;
    }

no_refusal : (h : Hierarchy) → IsHierarchy h → hier_refusal h ≡ None
unfolding hier_refusal
no_refusal h is =
    let names = differ-undoubled (model_names h) is.names_differ in
    let known : first_unknown h ≡ None =
    none_each (λ c. not (has_name (model_names h) c.model)) (all_uses h)
    (weaker (λ c. Contains (model_names h) c.model) (λ c. not (has_name (model_names h) c.model) ≡ false) (all_uses h) (λ c. lacks_none (model_names h) c.model) is.known) in
    let grounded : first_recursive h ≡ None =
    none_each (λ m. not (is_model_grounded h (length h) m)) h
    (weaker (IsModelGrounded h (length h)) (λ m. not (is_model_grounded h (length h) m) ≡ false) h (λ m g. ap not (model_grounded h (length h) m g)) is.grounded) in
    let ported = first_each (doubled_port h) h (weaker (HasPorts h) (λ m. doubled_port h m ≡ None) h (λ m. ports_none h m (has_name (map (λ c. c.model) (all_uses h)) m.name) refl) is.ports) in
    let formals = first_each (formal_refusal h) (all_uses h) (weaker (IsBound h) (λ c. formal_refusal h c ≡ None) (all_uses h) (formal_none h) is.bound) in
    let bound = first_each (unbound_refusal h) (all_uses h) (weaker (IsBound h) (λ c. unbound_refusal h c ≡ None) (all_uses h) (unbound_none h) is.bound) in
    let parts = first_each (part_refusal h) h (weaker (IsWholeModel h) (λ m. part_refusal h m ≡ None) h (part_none h) is.whole) in
    rw (names, known, grounded, ported, formals, bound, parts, none_each is_taken (names_driven h (main_of h)) is.free) refl

pub accepted : (h : Hierarchy) → (hier_refusal h ≡ None) ↔ IsHierarchy h
accepted h = (is_hierarchy h, no_refusal h)
