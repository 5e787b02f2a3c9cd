-- Some number of steps gives each place a value.
use Rattle.std.proofs.Common.{◌≡◌, ℕ, zero, suc, ◌+◌, ◌-◌, ◌<◌, Bool, false, List, [], ◌∷◌, map, length, get_or, bytes_eq, Option, Some, None, option_map, refl, ap, sym, subst, ◌∙◌, inl, inr, arith}
use Rattle.std.specs.List.{AllByRecursion}
use Rattle.std.proofs.lemmas.Option.{none-some, same_Some}
use Rattle.semantics.specs.Texts.{Bytes}
use Rattle.semantics.specs.Net.{TableValue, table_at, IsGroundedIn, IsAcyclic}
use Rattle.semantics.specs.Value.{value_of}
use Rattle.semantics.proofs.Values.{value_law, IsGroundedIn-signal}
use Rattle.semantics.specs.Refusals.{has_name}
use Rattle.blif_semantics.specs.Tables.{NamedTable}
use Rattle.hierarchy_semantics.specs.Models.{Binding, Subcircuit, names_part, subckt_part, BlifModel, Hierarchy, main_of, model_named}
use Rattle.hierarchy_semantics.specs.Driven.{Source, by_input, by_table, by_output, Driven, bound_inputs, part_driven, driven_of, names_driven, source_of, part_reads, names_read}
use Rattle.hierarchy_semantics.specs.Places.{Path, use_of, use_at, model_at, IsUse, IsPath, actual_of, and_value, values_of, value_at_bits, source_value, driven_value, place_value, HasValue}
use Rattle.hierarchy_semantics.specs.Flat.{place_signal, flat_net}
use Rattle.hierarchy_semantics.proofs.Members.{IsIn, in_left, in_right, in_map, from_map, in_filter, found_in, find_there, in_named, same_bytes, equal_bytes}
use Rattle.hierarchy_semantics.proofs.Parts.{in_get, in_flat_map, no_part, from_parts, part_source, table_part}
use Rattle.hierarchy_semantics.proofs.Placed.{IsGood, fit_at, used_model, in_uses}
use Rattle.hierarchy_semantics.proofs.Only.{input_inside, part_inside, output_below, signal-main_input, signal-input, signal-other, stands, only_value}

-- ---- a value stays, whatever the number of further steps

and_value-parts : (o : Option Bool) (r : Option (List Bool)) (bits : List Bool) → and_value o r ≡ Some bits → (b : Bool) × (rest : List Bool) × (o ≡ Some b) × (r ≡ Some rest) × (b ∷ rest ≡ bits)
and_value-parts None r bits e = absurd (none-some bits e)
and_value-parts (Some b) None bits e = absurd (none-some bits e)
and_value-parts (Some b) (Some rest) bits e = (b, rest, refl, refl, same_Some (b ∷ rest) bits e)

values-more : (before after : Bytes → Option Bool) → ((name : Bytes) (b : Bool) → before name ≡ Some b → after name ≡ Some b) → (pins : List Bytes) (bits : List Bool)
    → values_of before pins ≡ Some bits → values_of after pins ≡ Some bits
values-more before after more [] bits e = e
values-more before after more (p ∷ pins) bits e =
    let parts = and_value-parts (before p) (values_of before pins) bits e in
    rw (more p parts.0 parts.2, values-more before after more pins parts.1 parts.3) (ap Some parts.4)

mapped-more : (t : NamedTable) (o p : Option (List Bool)) (b : Bool) → ((bits : List Bool) → o ≡ Some bits → p ≡ Some bits) → option_map (value_at_bits t) o ≡ Some b
    → option_map (value_at_bits t) p ≡ Some b
mapped-more t None p b more e = absurd (none-some b e)
mapped-more t (Some bits) p b more e = ap (option_map (value_at_bits t)) (more bits refl) ∙ e

module _ (h : Hierarchy) (x : List Bool) where
  source-more : (before after : Path → Bytes → Option Bool) → ((path : Path) (name : Bytes) (b : Bool) → before path name ≡ Some b → after path name ≡ Some b)
      → (path : Path) (name : Bytes) (s : Source) (b : Bool) → source_value h x before path name s ≡ Some b → source_value h x after path name s ≡ Some b
  source-more before after more [] name (by_input i) b e = e
  source-more before after more (n ∷ up) name (by_input i) b e = more up (actual_of (use_at (model_at h up) n) name) b e
  source-more before after more path name (by_table t) b e =
      mapped-more t (values_of (before path) t.pins) (values_of (after path) t.pins) b (λ bits is. values-more (before path) (after path) (more path) t.pins bits is) e
  source-more before after more path name (by_output n formal) b e = more (n ∷ path) formal b e

  driven-more : (before after : Path → Bytes → Option Bool) → ((path : Path) (name : Bytes) (b : Bool) → before path name ≡ Some b → after path name ≡ Some b)
      → (path : Path) (o : Option Driven) (b : Bool) → driven_value h x before path o ≡ Some b → driven_value h x after path o ≡ Some b
  driven-more before after more path None b e = e
  driven-more before after more path (Some d) b e = source-more before after more path d.name d.source b e

  value-more : (j : ℕ) (path : Path) (name : Bytes) (b : Bool) → place_value h x j path name ≡ Some b → place_value h x (suc j) path name ≡ Some b
  unfolding place_value
  value-more zero path name b e = absurd (none-some b e)
  value-more (suc j) path name b e = driven-more (place_value h x j) (place_value h x (suc j)) (value-more j) path (source_of h (model_at h path) name) b e

  value-later : (i j : ℕ) (path : Path) (name : Bytes) (b : Bool) → place_value h x j path name ≡ Some b → place_value h x (i + j) path name ≡ Some b
  value-later zero j path name b e = let same : j ≡ 0 + j = omega arith in subst (λ k. place_value h x k path name ≡ Some b) same e
  value-later (suc i) j path name b e =
      let same : suc (i + j) ≡ suc i + j = omega arith in
      subst (λ k. place_value h x k path name ≡ Some b) same (value-more (i + j) path name b (value-later i j path name b e))

  -- the place has a value in some number of steps
  pub record HasSome (path : Path) (name : Bytes) : Type 0 where
    pub steps : ℕ
    pub bit : Bool
    pub is : place_value h x steps path name ≡ Some bit

  record HaveSome (path : Path) (names : List Bytes) : Type 0 where
    steps : ℕ
    bits : List Bool
    is : values_of (place_value h x steps path) names ≡ Some bits

  all_some : (path : Path) (names : List Bytes) → AllByRecursion (HasSome path) names → HaveSome path names
  all_some path [] all = record { steps = 0; bits = []; is = refl }
  all_some path (name ∷ names) all =
      let first = all.0 in
      let rest = all_some path names all.1 in
      let same : rest.steps + first.steps ≡ first.steps + rest.steps = omega arith in
      let here : place_value h x (first.steps + rest.steps) path name ≡ Some first.bit =
      subst (λ k. place_value h x k path name ≡ Some first.bit) same (value-later rest.steps first.steps path name first.bit first.is) in
      let others : values_of (place_value h x (first.steps + rest.steps) path) names ≡ Some rest.bits =
      values-more (place_value h x rest.steps path) (place_value h x (first.steps + rest.steps) path) (value-later first.steps rest.steps path) names rest.bits rest.is in
      record { steps = first.steps + rest.steps; bits = first.bit ∷ rest.bits; is = rw (here, others) refl }

  -- one step more, by what drives the name
  next_some : (k : ℕ) (path : Path) (name : Bytes) (d : Driven) (s : Source) (b : Bool) → source_of h (model_at h path) name ≡ Some d → d.source ≡ s
      → source_value h x (place_value h x k) path name s ≡ Some b → HasSome path name
  unfolding place_value
  next_some k path name d s b found source is =
      let named : d.name ≡ name = same_bytes d.name name (found_in (λ d. bytes_eq d.name name) d (driven_of h (model_at h path)) found).1 in
      record {
        steps = suc k;
        bit = b;
        is = rw found (subst (λ w. source_value h x (place_value h x k) path w d.source ≡ Some b) (sym named)
            (subst (λ s. source_value h x (place_value h x k) path name s ≡ Some b) (sym source) is));
      }

-- ---- places, the inputs of models inside after what is bound to them

actual_found : (h : Hierarchy) (c : Subcircuit) (name : Bytes) → IsIn name (map (λ b. b.formal) c.bindings) → IsIn name (model_named h c.model).inputs
    → IsIn (actual_of c name) (map (λ b. b.actual) (bound_inputs h c))
actual_found h c name bound input =
    let from = from_map (λ b. b.formal) name c.bindings bound in
    let found = find_there (λ b. bytes_eq b.formal name) from.from c.bindings from.inside (equal_bytes from.from.formal name from.is) in
    let b : Binding = found.0 in
    let inside = found_in (λ b. bytes_eq b.formal name) b c.bindings found.1 in
    let formal : b.formal ≡ name = same_bytes b.formal name inside.1 in
    let kept : IsIn b (bound_inputs h c) =
    in_filter (λ b. has_name (model_named h c.model).inputs b.formal) b c.bindings inside.0
    (in_named (model_named h c.model).inputs b.formal (subst (λ w. IsIn w (model_named h c.model).inputs) (sym formal) input)) in
    let same : b.actual ≡ actual_of c name = sym (ap (λ o. elim o [ None ↦ [] | Some b ↦ b.actual ]) found.1) in
    subst (λ w. IsIn w (map (λ b. b.actual) (bound_inputs h c))) same (in_map (λ b. b.actual) b (bound_inputs h c) kept)

-- what is bound to an input is driven one path up
actual_driven : (h : Hierarchy) → IsGood h → (up : Path) (n : ℕ) (c : Subcircuit) → IsUse (model_at h up) n c → (name : Bytes) → IsIn name (model_at h (n ∷ up)).inputs
    → IsIn (actual_of (use_at (model_at h up) n) name) (names_driven h (model_at h up))
actual_driven h good up n c there name input =
    let m : BlifModel = model_at h up in
    let fit = fit_at h good up in
    let inner : IsIn name (model_named h c.model).inputs = subst (λ k. IsIn name k.inputs) (sym (used_model h up n c there)) input in
    let bound = fit.bound c (in_uses m n c there) name inner in
    let read : IsIn (actual_of c name) (names_read h m) =
    in_left (actual_of c name) _ m.outputs
    (in_flat_map (part_reads h) (subckt_part c) (actual_of c name) m.parts (in_get m.parts n no_part (subckt_part c) there.0 there.1) (actual_found h c name bound inner)) in
    subst (λ u. IsIn (actual_of (use_of u) name) (names_driven h m)) (sym there.1) (fit.reads (actual_of c name) read)

record IsFoundSource (h : Hierarchy) (path : Path) (name : Bytes) : Type 0 where
  d : Driven
  is : source_of h (model_at h path) name ≡ Some d
  inside : IsIn d (driven_of h (model_at h path))
  named : d.name ≡ name

found_source : (h : Hierarchy) (path : Path) (name : Bytes) → IsIn name (names_driven h (model_at h path)) → IsFoundSource h path name
found_source h path name driven =
    let all : List Driven = driven_of h (model_at h path) in
    let from = from_map (λ d. d.name) name all driven in
    let found = find_there (λ d. bytes_eq d.name name) from.from all from.inside (equal_bytes from.from.name name from.is) in
    let inside = found_in (λ d. bytes_eq d.name name) found.0 all found.1 in
    record { d = found.0; is = found.1; inside = inside.0; named = same_bytes found.0.name name inside.1 }

-- what must be shown of each place
record IsInductive (h : Hierarchy) (Q : Path → Bytes → Type 0) : Type 0 where
  main_input : (name : Bytes) (d : Driven) (i : ℕ) → source_of h (main_of h) name ≡ Some d → d.source ≡ by_input i → i < length (main_of h).inputs → Q [] name
  input : (n : ℕ) (up : Path) (name : Bytes) (d : Driven) (i : ℕ) → source_of h (model_at h (n ∷ up)) name ≡ Some d → d.source ≡ by_input i
      → Q up (actual_of (use_at (model_at h up) n) name) → Q (n ∷ up) name
  table : (path : Path) (name : Bytes) (d : Driven) (t : NamedTable) → IsPath h path → source_of h (model_at h path) name ≡ Some d → d.source ≡ by_table t → Q path name
  output : (path : Path) (name : Bytes) (d : Driven) (n : ℕ) (formal : Bytes) → IsPath h path → source_of h (model_at h path) name ≡ Some d → d.source ≡ by_output n formal → Q path name

by_source : (h : Hierarchy) (Q : Path → Bytes → Type 0) → IsInductive h Q → (path : Path) (name : Bytes) (d : Driven) (s : Source) → IsPath h path → source_of h (model_at h path) name ≡ Some d
    → d.source ≡ s
    → ((i : ℕ) → d.source ≡ by_input i → Q path name) → Q path name
by_source h Q q path name d (by_input i) path_is found source of_input = of_input i source
by_source h Q q path name d (by_table t) path_is found source of_input = q.table path name d t path_is found source
by_source h Q q path name d (by_output n formal) path_is found source of_input = q.output path name d n formal path_is found source

each_place : (h : Hierarchy) → IsGood h → (Q : Path → Bytes → Type 0) → IsInductive h Q → (path : Path) (name : Bytes) → IsPath h path → IsIn name (names_driven h (model_at h path)) → Q path name
each_place h good Q q [] name path_is driven =
    let found = found_source h [] name driven in
    by_source h Q q [] name found.d found.d.source path_is found.is refl (λ i e. q.main_input name found.d i found.is e (input_inside h (main_of h) found.d i found.inside e).0)
each_place h good Q q (n ∷ up) name path_is driven =
    let found = found_source h (n ∷ up) name driven in
    by_source h Q q (n ∷ up) name found.d found.d.source path_is found.is refl
    (λ i e.
    let input : IsIn name (model_at h (n ∷ up)).inputs = subst (λ w. IsIn w (model_at h (n ∷ up)).inputs) found.named (input_inside h (model_at h (n ∷ up)) found.d i found.inside e).1 in
    q.input n up name found.d i found.is e
    (each_place h good Q q up (actual_of (use_at (model_at h up) n) name) path_is.0 (actual_driven h good up n path_is.1.0 path_is.1.1 name input)))

table_no_input : (d : Driven) (t : NamedTable) → d.source ≡ by_table t → (i : ℕ) → d.source ≡ by_input i → ⊥
table_no_input d t e i f = cc

output_no_input : (d : Driven) (n : ℕ) (formal : Bytes) → d.source ≡ by_output n formal → (i : ℕ) → d.source ≡ by_input i → ⊥
output_no_input d n formal e i f = cc

-- what a table of a model reads
table_reads : (h : Hierarchy) (path : Path) (name : Bytes) (d : Driven) (t : NamedTable) → source_of h (model_at h path) name ≡ Some d → d.source ≡ by_table t → (p : Bytes) → IsIn p t.pins
    → IsIn p (names_read h (model_at h path))
table_reads h path name d t found source p inside =
    let m : BlifModel = model_at h path in
    let driven = (found_in (λ d. bytes_eq d.name name) d (driven_of h m) found).0 in
    let from = from_parts (part_driven h) 0 m.parts d (part_inside h m d driven (table_no_input d t source)) in
    let is : from.part ≡ names_part t = table_part h (0 + from.i) from.part d.source t (part_source h (0 + from.i) from.part d from.inside) source in
    in_left p _ m.outputs (in_flat_map (part_reads h) (names_part t) p m.parts (in_get m.parts from.i no_part (names_part t) from.within (from.is ∙ is)) inside)

-- ---- the signal of each place is one

pub signal_within : (h : Hierarchy) → IsGood h → (path : Path) (name : Bytes) → IsPath h path → IsIn name (names_driven h (model_at h path))
    → place_signal h path name < length (main_of h).inputs + length (flat_net h).tables
signal_within h good =
    each_place h good (λ path name. place_signal h path name < length (main_of h).inputs + length (flat_net h).tables)
    (record {
      main_input = λ name d i found source low. let is = signal-main_input h name d i found source in omega (arith, is, low);
      input = λ n up name d i found source rest. let is = signal-input h n up name d i found source in omega (arith, is, rest);
      table = λ path name d t path_is found source.
          let at = stands h good path path_is name d (by_table t) found source (λ i e. table_no_input d t source i (source ∙ e)) in
          let is = signal-other h path name d found (table_no_input d t source) ∙ at.is in
          omega (arith, is, at.within);
      output = λ path name d n formal path_is found source.
          let at = stands h good path path_is name d (by_output n formal) found source (λ i e. output_no_input d n formal source i (source ∙ e)) in
          let is = signal-other h path name d found (output_no_input d n formal source) ∙ at.is in
          omega (arith, is, at.within);
    })

-- ---- what is grounded in the flat net has a value

mapped_each : (P : ℕ → Type 0) (f : Bytes → ℕ) (Q : Bytes → Type 0) (pins all : List Bytes) → ((p : Bytes) → IsIn p all → P (f p) → Q p) → ((p : Bytes) → IsIn p pins → IsIn p all)
    → AllByRecursion P (map f pins) → AllByRecursion Q pins
mapped_each P f Q [] all to inside h = tt
mapped_each P f Q (p ∷ pins) all to inside h = (to p (inside p (inl refl)) h.0, mapped_each P f Q pins all to (λ q i. inside q (inr i)) h.1)

table_pins : (n : ℕ) (tables : List TableValue) (k at s : ℕ) → s ≡ n + at → IsGroundedIn n tables (suc k) s → AllByRecursion (IsGroundedIn n tables k) (table_at tables at).pins
table_pins n tables k at s is (inl low) = absurd (omega (arith, is, low))
table_pins n tables k at s is (inr high) = let place : s - n ≡ at = omega (arith, is) in subst (λ i. AllByRecursion (IsGroundedIn n tables k) (table_at tables i).pins) place high.1

not_at_once : (n : ℕ) (tables : List TableValue) (at s : ℕ) → s ≡ n + at → IsGroundedIn n tables zero s → ⊥
not_at_once n tables at s is low = omega (arith, is, low)

module _ (h : Hierarchy) (good : IsGood h) (x : List Bool) where
  IsSettled : ℕ → Path → Bytes → Type 0
  IsSettled k path name = IsGroundedIn (length (main_of h).inputs) (flat_net h).tables k (place_signal h path name) → HasSome h x path name

  -- with what is shown of a table's name and of an output's
  settled_by : (k : ℕ)
      → ((path : Path) (name : Bytes) (d : Driven) (t : NamedTable) → IsPath h path → source_of h (model_at h path) name ≡ Some d → d.source ≡ by_table t → IsSettled k path name)
      → ((path : Path) (name : Bytes) (d : Driven) (n : ℕ) (formal : Bytes) → IsPath h path → source_of h (model_at h path) name ≡ Some d → d.source ≡ by_output n formal → IsSettled k path name)
      → (path : Path) (name : Bytes) → IsPath h path → IsIn name (names_driven h (model_at h path)) → IsSettled k path name
  unfolding IsSettled
  settled_by k of_table of_output =
      each_place h good (IsSettled k)
      (record {
        main_input = λ name d i found source low grounded. next_some h x 0 [] name d (by_input i) (get_or x i false) found source refl;
        input = λ m up name d i found source rest grounded.
            let outer = rest (subst (IsGroundedIn (length (main_of h).inputs) (flat_net h).tables k) (signal-input h m up name d i found source) grounded) in
            next_some h x outer.steps (m ∷ up) name d (by_input i) outer.bit found source outer.is;
        table = of_table;
        output = of_output;
      })

  settled : (k : ℕ) (path : Path) (name : Bytes) → IsPath h path → IsIn name (names_driven h (model_at h path)) → IsSettled k path name
  unfolding IsSettled
  settled zero =
      settled_by zero
      (λ path name d t path_is found source grounded.
      let at = stands h good path path_is name d (by_table t) found source (λ i e. table_no_input d t source i (source ∙ e)) in
      absurd (not_at_once (length (main_of h).inputs) (flat_net h).tables at.at (place_signal h path name) (signal-other h path name d found (table_no_input d t source) ∙ at.is) grounded))
      (λ path name d m formal path_is found source grounded.
      let at = stands h good path path_is name d (by_output m formal) found source (λ i e. output_no_input d m formal source i (source ∙ e)) in
      absurd (not_at_once (length (main_of h).inputs) (flat_net h).tables at.at (place_signal h path name) (signal-other h path name d found (output_no_input d m formal source) ∙ at.is) grounded))
  settled (suc k) =
      settled_by (suc k)
      (λ path name d t path_is found source grounded.
      let at = stands h good path path_is name d (by_table t) found source (λ i e. table_no_input d t source i (source ∙ e)) in
      let pins =
      table_pins (length (main_of h).inputs) (flat_net h).tables k at.at (place_signal h path name) (signal-other h path name d found (table_no_input d t source) ∙ at.is) grounded in
      let some : AllByRecursion (HasSome h x path) t.pins =
      mapped_each (IsGroundedIn (length (main_of h).inputs) (flat_net h).tables k) (place_signal h path) (HasSome h x path) t.pins (names_read h (model_at h path))
      (λ p read grounded. settled k path p path_is ((fit_at h good path).reads p read) grounded)
      (table_reads h path name d t found source)
      (subst (λ u. AllByRecursion (IsGroundedIn (length (main_of h).inputs) (flat_net h).tables k) u.pins) at.table pins) in
      let all = all_some h x path t.pins some in
      next_some h x all.steps path name d (by_table t) (value_at_bits t all.bits) found source (ap (option_map (value_at_bits t)) all.is))
      (λ path name d m formal path_is found source grounded.
      let at = stands h good path path_is name d (by_output m formal) found source (λ i e. output_no_input d m formal source i (source ∙ e)) in
      let pins =
      table_pins (length (main_of h).inputs) (flat_net h).tables k at.at (place_signal h path name) (signal-other h path name d found (output_no_input d m formal source) ∙ at.is) grounded in
      let inner = (subst (λ u. AllByRecursion (IsGroundedIn (length (main_of h).inputs) (flat_net h).tables k) u.pins) at.table pins).0 in
      let below = output_below h path name m formal d found source in
      let below_is : IsPath h (m ∷ path) = (path_is, (below.c, below.there)) in
      let listed : IsIn formal (model_at h (m ∷ path)).outputs = subst (λ k. IsIn formal k.outputs) (used_model h path m below.c below.there) below.listed in
      let some = settled k (m ∷ path) formal below_is ((fit_at h good (m ∷ path)).reads formal (in_right formal _ (model_at h (m ∷ path)).outputs listed)) inner in
      next_some h x some.steps path name d (by_output m formal) some.bit found source some.is)

pub place_values : (h : Hierarchy) → IsGood h → (x : List Bool) → IsAcyclic (length (main_of h).inputs) (flat_net h).tables → (path : Path) (name : Bytes) → IsPath h path
    → IsIn name (names_driven h (model_at h path))
    → HasValue h x path name (value_of (length (main_of h).inputs) (flat_net h).tables x (place_signal h path name))
unfolding IsSettled
place_values h good x acyclic path name path_is driven =
    let n : ℕ = length (main_of h).inputs in
    let tables : List TableValue = (flat_net h).tables in
    let some = settled h good x (length tables) path name path_is driven (IsGroundedIn-signal n tables acyclic (place_signal h path name) (signal_within h good path name path_is driven)) in
    let only = only_value h good x (value_of n tables x) (value_law n tables x acyclic).consistent in
    record { steps = some.steps; is = some.is ∙ ap Some (sym (only some.steps path name some.bit path_is some.is)); only = λ other value is. sym (only other path name value path_is is) }
