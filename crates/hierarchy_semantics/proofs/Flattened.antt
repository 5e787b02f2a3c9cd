-- The flat net of a text gives each place of its hierarchy its value.
use Rattle.std.proofs.Common.{◌≡◌, ℕ, zero, suc, ◌+◌, ◌<◌, Bool, false, List, [], ◌∷◌, map, length, get_or, Option, Some, None, Result, Ok, Err, Contains, refl, ap, sym, subst, ◌∙◌, arith}
use Rattle.semantics.specs.declared.which.Which.{Which}
use Rattle.semantics.specs.Texts.{Bytes}
use Rattle.semantics.specs.Net.{NetValue, input_count, signal_names, name_of, IsAcyclic, IsSmall}
use Rattle.semantics.specs.Value.{value_of, outputs_of}
use Rattle.semantics.specs.Refusals.{first_ungrounded, first_limit}
use Rattle.semantics.proofs.Refused.{grounded as all_grounded, small}
use Rattle.blif_semantics.specs.Reading.{cycle, limit}
use Rattle.hierarchy_semantics.specs.Models.{Hierarchy, main_of}
use Rattle.hierarchy_semantics.specs.Driven.{names_driven}
use Rattle.hierarchy_semantics.specs.Refusals.{HierRefusal, flat}
use Rattle.hierarchy_semantics.specs.Places.{Path, IsPath, model_at, HasValue}
use Rattle.hierarchy_semantics.specs.Flat.{place_signal, flat_net, flattened}
use Rattle.hierarchy_semantics.specs.Laws.{IsFlattened}
use Rattle.hierarchy_semantics.proofs.Members.{IsIn, in_right}
use Rattle.hierarchy_semantics.proofs.Parts.{in_get}
use Rattle.hierarchy_semantics.proofs.Placed.{fit_at}
use Rattle.hierarchy_semantics.proofs.Some.{place_values}
use Rattle.hierarchy_semantics.proofs.Accepted.{read_parts, good_reading}

abbrev flat_answer : NetValue → Option Which → Option ℕ → Result NetValue HierRefusal
flat_answer M o p = elim o [ Some which ↦ Err (flat (limit which)) | None ↦ elim p [ Some i ↦ Err (flat (cycle (name_of (signal_names M) (input_count M + i)))) | None ↦ Ok M ] ]

given_parts : (M N : NetValue) (o : Option Which) (p : Option ℕ) → first_limit M ≡ o → first_ungrounded (input_count M) M.tables ≡ p
    → flat_answer M o p ≡ Ok N
    → (first_limit M ≡ None) × (first_ungrounded (input_count M) M.tables ≡ None) × (N ≡ M)
given_parts M N (Some which) p limits grounds e = cc
given_parts M N None (Some i) limits grounds e = cc
given_parts M N None None limits grounds e = (limits, grounds, cc)

pub flat_given : (h : Hierarchy) (N : NetValue) → flattened h ≡ Ok N → (first_limit (flat_net h) ≡ None) × (first_ungrounded (input_count (flat_net h)) (flat_net h).tables ≡ None) × (N ≡ flat_net h)
unfolding flattened
flat_given h N e = let M : NetValue = flat_net h in given_parts M N (first_limit M) (first_ungrounded (input_count M) M.tables) refl refl e

pub net_is : (text : Bytes) (most : ℕ) (h : Hierarchy) (N : NetValue) → IsFlattened text most h N → N ≡ flat_net h
net_is text most h N is = (flat_given h N is.flat).2

pub net_acyclic : (text : Bytes) (most : ℕ) (h : Hierarchy) (N : NetValue) → IsFlattened text most h N → IsAcyclic (length N.inputs) N.tables
net_acyclic text most h N is =
    let given = flat_given h N is.flat in
    subst (λ M. IsAcyclic (length M.inputs) M.tables) (sym given.2) (all_grounded (input_count (flat_net h)) (flat_net h).tables given.1)

pub net_small : (text : Bytes) (most : ℕ) (h : Hierarchy) (N : NetValue) → IsFlattened text most h N → IsSmall N
net_small text most h N is = let given = flat_given h N is.flat in subst IsSmall (sym given.2) (small (flat_net h) given.0)

flat_inputs : (h : Hierarchy) → (flat_net h).inputs ≡ (main_of h).inputs
unfolding flat_net
flat_inputs h = refl

flat_outputs : (h : Hierarchy) → (flat_net h).outputs ≡ map (place_signal h []) (main_of h).outputs
unfolding flat_net
flat_outputs h = refl

flat_values : (text : Bytes) (most : ℕ) (h : Hierarchy) (N : NetValue) → IsFlattened text most h N → (x : List Bool) (path : Path) (name : Bytes) → IsPath h path
    → IsIn name (names_driven h (model_at h path))
    → HasValue h x path name (value_of (length N.inputs) N.tables x (place_signal h path name))
flat_values text most h N is x path name path_is driven =
    let M : NetValue = flat_net h in
    let same : M ≡ N = sym (net_is text most h N is) in
    let good = good_reading text most h (read_parts text most h is.read) in
    let acyclic : IsAcyclic (length (main_of h).inputs) M.tables
    = subst (λ names. IsAcyclic (length names) M.tables) (flat_inputs h) (subst (λ K. IsAcyclic (length K.inputs) K.tables) (sym same) (net_acyclic text most h N is)) in
    let value : HasValue h x path name (value_of (length M.inputs) M.tables x (place_signal h path name)) =
    subst (λ names. HasValue h x path name (value_of (length names) M.tables x (place_signal h path name))) (sym (flat_inputs h)) (place_values h good x acyclic path name path_is driven) in
    subst (λ K. HasValue h x path name (value_of (length K.inputs) K.tables x (place_signal h path name))) same value

pub net_places : (text : Bytes) (most : ℕ) (h : Hierarchy) (N : NetValue) → IsFlattened text most h N → (x : List Bool) (path : Path) (name : Bytes) → IsPath h path
    → Contains (names_driven h (model_at h path)) name
    → HasValue h x path name (value_of (length N.inputs) N.tables x (place_signal h path name))
net_places text most h N is x path name path_is driven =
    flat_values text most h N is x path name path_is (in_get (names_driven h (model_at h path)) driven.0 name name driven.1 driven.2)

get_mapped : (f : Bytes → Bool) (names : List Bytes) (i : ℕ) → i < length names → get_or (map f names) i false ≡ f (get_or names i [])
get_mapped f [] i within = absurd (omega (arith, within))
get_mapped f (name ∷ names) zero within = refl
get_mapped f (name ∷ names) (suc i) within = get_mapped f names i (omega (arith, within))

map_twice : (f : Bytes → ℕ) (g : ℕ → Bool) (names : List Bytes) → map g (map f names) ≡ map (λ name. g (f name)) names
map_twice f g [] = refl
map_twice f g (name ∷ names) = ap (λ rest. g (f name) ∷ rest) (map_twice f g names)

pub net_outputs : (text : Bytes) (most : ℕ) (h : Hierarchy) (N : NetValue) → IsFlattened text most h N → (x : List Bool) (i : ℕ) → i < length (main_of h).outputs
    → HasValue h x [] (name_of (main_of h).outputs i) (get_or (outputs_of N x) i false)
unfolding outputs_of
net_outputs text most h N is x i within =
    let names : List Bytes = (main_of h).outputs in
    let name : Bytes = name_of names i in
    let good = good_reading text most h (read_parts text most h is.read) in
    let listed : IsIn name names = in_get names i [] name within refl in
    let driven = (fit_at h good []).reads name (in_right name _ names listed) in
    let g : ℕ → Bool = value_of (length N.inputs) N.tables x in
    let outputs : N.outputs ≡ map (place_signal h []) names = ap (λ M. M.outputs) (net_is text most h N is) ∙ flat_outputs h in
    let same : get_or (map g N.outputs) i false ≡ g (place_signal h [] name) =
    ap (λ l. get_or (map g l) i false) outputs
    ∙ ap (λ l. get_or l i false) (map_twice (place_signal h []) g names)
    ∙ get_mapped (λ name. g (place_signal h [] name)) names i within in
    subst (HasValue h x [] name) (sym same) (flat_values text most h N is x [] name tt driven)
