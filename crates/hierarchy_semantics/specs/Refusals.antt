-- What keeps the models of a text from being a hierarchy, in the order in which it is told. Source: BLIF's
-- `.model` and `.subckt`; the order is this tool's own.
use Rattle.std.specs.Prelude.{ℕ, zero, suc, ◌==◌, Bool, false, not, ◌||◌, ◌&&◌, List, [], ◌∷◌, ◌++◌, map}
use Rattle.std.specs.Prelude.{length, take, drop, codes, bytes_eq, Option, Some, None, option_map}
use Rattle.std.specs.Prelude.{if◌then◌else◌}
use Rattle.std.specs.List.{list_all, find}
use Rattle.semantics.specs.Texts.{Bytes}
use Rattle.semantics.specs.Decimal.{is_digit}
use Rattle.semantics.specs.Refusals.{has_name, first_doubled, or_else}
use Rattle.blif_semantics.specs.Reading.{Refusal, doubled, no_output, undriven}
use Rattle.hierarchy_semantics.specs.Models.{Subcircuit, BlifModel, Hierarchy, main_of, model_named, uses_of}
use Rattle.hierarchy_semantics.specs.Models.{all_uses}
use Rattle.hierarchy_semantics.specs.Driven.{names_driven, names_read}

pub data HierRefusal : Type 0 where
  -- the text is too long, or a line is wrong
  line : Refusal → HierRefusal
  same_model : (name : Bytes) → HierRefusal
  no_model_named : (name : Bytes) → HierRefusal
  recursive : (name : Bytes) → HierRefusal
  ports : (model name : Bytes) → HierRefusal
  formal : (line : ℕ) (name : Bytes) → HierRefusal
  unbound : (line : ℕ) (name : Bytes) → HierRefusal
  part : (model : Bytes) → Refusal → HierRefusal
  taken : (name : Bytes) → HierRefusal
  -- the flat net has a cycle or passes a limit
  flat : Refusal → HierRefusal

-- the first that is found in the list
abbrev pub first_found : {X Y : Type 0} → (X → Option Y) → List X → Option Y
first_found f [] = None
first_found f (x ∷ xs) = elim (f x) [ None ↦ first_found f xs | Some y ↦ Some y ]

abbrev pub model_names : Hierarchy → List Bytes
model_names h = map (λ m. m.name) h

-- a `.subckt` that names no model of the text
abbrev pub first_unknown : Hierarchy → Option Subcircuit
first_unknown h = find (λ c. not (has_name (model_names h) c.model)) (all_uses h)

-- a model needs one step more than each model that it uses
abbrev pub is_model_grounded : Hierarchy → ℕ → BlifModel → Bool
is_model_grounded h zero m = false
is_model_grounded h (suc steps) m
    = list_all (λ c. is_model_grounded h steps (model_named h c.model)) (uses_of m)

-- a model that is not grounded in `length h` steps
abbrev pub first_recursive : Hierarchy → Option BlifModel
first_recursive h = find (λ m. not (is_model_grounded h (length h) m)) h

-- a model that is used has a name twice among its ports
abbrev pub doubled_port : Hierarchy → BlifModel → Option HierRefusal
doubled_port h m = if has_name (map (λ c. c.model) (all_uses h)) m.name
    then option_map (ports m.name) (first_doubled m.ports) else None

-- a formal that is no port, or that is bound a second time
abbrev pub wrong_formal : List Bytes → List Bytes → List Bytes → Option Bytes
wrong_formal known earlier [] = None
wrong_formal known earlier (name ∷ names) =
    if not (has_name known name)
    || has_name earlier name then Some name else wrong_formal known (earlier ++ name ∷ []) names

abbrev pub formals_of : Subcircuit → List Bytes
formals_of c = map (λ b. b.formal) c.bindings

abbrev pub formal_refusal : Hierarchy → Subcircuit → Option HierRefusal
formal_refusal h c = option_map (formal c.line) (wrong_formal (model_named h c.model).ports [] (formals_of c))

-- an input that is not bound
abbrev pub unbound_refusal : Hierarchy → Subcircuit → Option HierRefusal
unbound_refusal h c = option_map (unbound c.line)
    (find (λ name. not (has_name (formals_of c) name)) (model_named h c.model).inputs)

-- a name that is driven twice, no output, or a name that is read and not driven
abbrev pub model_refusal : Hierarchy → BlifModel → Option Refusal
model_refusal h m =
    or_else (first_doubled (names_driven h m)) doubled
    (if length m.outputs == 0 then Some no_output
    else option_map undriven (find (λ name. not (has_name (names_driven h m) name)) (names_read h m)))

abbrev pub part_refusal : Hierarchy → BlifModel → Option HierRefusal
part_refusal h m = option_map (part m.name) (model_refusal h m)

-- `$u` and digits: the names of the flat tables of the models that are used
abbrev pub is_taken : Bytes → Bool
is_taken name = bytes_eq (take 2 name) (codes "$u") && not (length (drop 2 name) == 0)
    && list_all is_digit (drop 2 name)

-- the first refusal that holds of the models
unfoldable pub hier_refusal : Hierarchy → Option HierRefusal
hier_refusal h =
    or_else (first_doubled (model_names h)) same_model
    (or_else (first_unknown h) (λ c. no_model_named c.model)
    (or_else (first_recursive h) (λ m. recursive m.name)
    (or_else (first_found (doubled_port h) h) (λ r. r)
    (or_else (first_found (formal_refusal h) (all_uses h)) (λ r. r)
    (or_else (first_found (unbound_refusal h) (all_uses h)) (λ r. r)
    (or_else (first_found (part_refusal h) h) (λ r. r)
    (or_else (find is_taken (names_driven h (main_of h))) taken None)))))))
