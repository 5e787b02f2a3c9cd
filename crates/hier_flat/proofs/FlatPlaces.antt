-- Where the flat tables of a model stand in the flat list.
use Rattle.std.proofs.Common.{◌≡◌, ℕ, zero, suc, ◌+◌, ◌<◌, ◌*◌, ◌&&◌, Bool, true, false, cond, List, [], ◌∷◌, ◌++◌, map, length, bytes_eq, Option, Some, None, append_assoc, refl, ap, sym, subst, ◌∙◌}
use Rattle.std.proofs.Common.{inl, inr, arith}
use Rattle.std.specs.List.{position_from, range_with_len}
use Rattle.std.proofs.lemmas.List.{map-append, length-append}
use Rattle.semantics.specs.Texts.{Bytes}
use Rattle.hierarchy_semantics.specs.Models.{Subcircuit, Part, names_part, subckt_part, BlifModel, Hierarchy, main_of, model_named}
use Rattle.hierarchy_semantics.specs.Driven.{Driven, bound_outputs, over_parts, part_driven}
use Rattle.hierarchy_semantics.specs.Places.{Path}
use Rattle.hierarchy_semantics.specs.Flat.{FlatItem, items_at, part_items, items_of, flat_items, is_place, table_signal}
use Rattle.hierarchy_semantics.specs.Counts.{model_weight}
use Rattle.hierarchy_semantics.proofs.Members.{IsIn, in_append, in_map, from_map, same_bytes, equal_bytes}
use Rattle.hierarchy_semantics.proofs.Distinct.{Distinct, distinct_left, distinct_right, distinct_apart}
use Rattle.hier_flat.specs.Flattening.{by_tables, size_of, part_size, own_signals, part_signals}
use Rattle.hier_flat.proofs.FlatSizes.{outputs_length, part_length, model_length}

-- ---- paths that end in a path

abbrev pub EndsIn : Path → Path → Type 0
EndsIn path longer = (front : Path) × (longer ≡ front ++ path)

pub ends_here : (path : Path) → EndsIn path path
ends_here path = ([], refl)

pub ends_before : (n : ℕ) (path longer : Path) → EndsIn (n ∷ path) longer → EndsIn path longer
ends_before n path longer ends = (ends.0 ++ n ∷ [], ends.1 ∙ sym (append_assoc ends.0 (n ∷ []) path))

pub longer_path : (n : ℕ) (path longer : Path) → EndsIn (n ∷ path) longer → length path < length longer
longer_path n path longer ends =
    let size : length longer ≡ length (ends.0 ++ n ∷ path) = ap length ends.1 in
    let both = length-append ends.0 (n ∷ path) in
    omega (arith, size, both)

pub not_itself : (n : ℕ) (path : Path) → EndsIn (n ∷ path) path → ⊥
not_itself n path ends = let more = longer_path n path path ends in omega (arith, more)

first_of_equals : (m n : ℕ) (xs ys : Path) → m ∷ xs ≡ n ∷ ys → m ≡ n
first_of_equals m n xs ys e = cc

rest_of_equals : (m n : ℕ) (xs ys : Path) → m ∷ xs ≡ n ∷ ys → xs ≡ ys
rest_of_equals m n xs ys e = cc

pub same_number : (front other : Path) (m n : ℕ) (path : Path) → front ++ m ∷ path ≡ other ++ n ∷ path → m ≡ n
same_number [] [] m n path e = first_of_equals m n path path e
same_number [] (k ∷ other) m n path e =
    let size = ap length e in
    let both = length-append (k ∷ other) (n ∷ path) in
    absurd (omega (arith, size, both))
same_number (k ∷ front) [] m n path e =
    let size = ap length e in
    let both = length-append (k ∷ front) (m ∷ path) in
    absurd (omega (arith, size, both))
same_number (k ∷ front) (j ∷ other) m n path e = same_number front other m n path (rest_of_equals k j (front ++ m ∷ path) (other ++ n ∷ path) e)

-- the two end in one path alone
pub one_end : (m n : ℕ) (path longer : Path) → EndsIn (m ∷ path) longer → EndsIn (n ∷ path) longer → m ≡ n
one_end m n path longer one two = same_number one.0 two.0 m n path (sym one.1 ∙ two.1)

-- ---- the items of a model are at paths that end in its path

pub own_path : (path : Path) (driven : List Driven) (item : FlatItem) → IsIn item (items_at path driven) → item.path ≡ path
own_path path driven item inside = let from = from_map (λ d. record { path = path; driven = d }) item driven inside in ap (λ (i : FlatItem). i.path) (sym from.is)

ends_at : (path : Path) (driven : List Driven) (item : FlatItem) → IsIn item (items_at path driven) → EndsIn path item.path
ends_at path driven item inside = ([], own_path path driven item inside)

part_ends : (h : Hierarchy) (l : ℕ) (path : Path) (n : ℕ) (p : Part) (item : FlatItem) → ((inner : Path) (m : BlifModel) → IsIn item (items_of h l inner m) → EndsIn inner item.path)
    → IsIn item (part_items h (items_of h l) path n p) → EndsIn path item.path
part_ends h l path n (names_part t) item inner inside = ends_at path (part_driven h n (names_part t)) item inside
part_ends h l path n (subckt_part c) item inner inside =
    elim (in_append item (items_of h l (n ∷ path) (model_named h c.model)) (items_at path (part_driven h n (subckt_part c))) inside) [
      | inl below ↦ ends_before n path item.path (inner (n ∷ path) (model_named h c.model) below)
      | inr own ↦ ends_at path (part_driven h n (subckt_part c)) item own
    ]

parts_end : (h : Hierarchy) (l : ℕ) (path : Path) (n : ℕ) (parts : List Part) (item : FlatItem) → ((inner : Path) (m : BlifModel) → IsIn item (items_of h l inner m) → EndsIn inner item.path)
    → IsIn item (over_parts (part_items h (items_of h l) path) n parts) → EndsIn path item.path
parts_end h l path n [] item inner inside = absurd inside
parts_end h l path n (p ∷ parts) item inner inside =
    elim (in_append item (part_items h (items_of h l) path n p) (over_parts (part_items h (items_of h l) path) (n + 1) parts) inside) [
      | inl here ↦ part_ends h l path n p item inner here
      | inr later ↦ parts_end h l path (n + 1) parts item inner later
    ]

pub model_ends : (h : Hierarchy) (l : ℕ) (path : Path) (m : BlifModel) (item : FlatItem) → IsIn item (items_of h l path m) → EndsIn path item.path
model_ends h zero path m item inside = absurd inside
model_ends h (suc l) path m item inside = parts_end h l path 0 m.parts item (λ inner k. model_ends h l inner k item) inside

-- ---- positions

-- none of these passes
pub skipped : (p : FlatItem → Bool) (k : ℕ) (xs ys : List FlatItem) → ((x : FlatItem) → IsIn x xs → p x ≡ false) → position_from p k (xs ++ ys) ≡ position_from p (k + length xs) ys
skipped p k [] ys fails = let same : k ≡ k + 0 = omega arith in ap (λ j. position_from p j ys) same
skipped p k (x ∷ xs) ys fails =
    let same : (k + 1) + length xs ≡ k + suc (length xs) = omega arith in
    ap (λ b. cond b (Some k) (position_from p (k + 1) (xs ++ ys))) (fails x (inl refl))
    ∙ skipped p (k + 1) xs ys (λ y inside. fails y (inr inside))
    ∙ ap (λ j. position_from p j ys) same

pub none_passes : (p : FlatItem → Bool) (k : ℕ) (xs : List FlatItem) → ((x : FlatItem) → IsIn x xs → p x ≡ false) → position_from p k xs ≡ None
none_passes p k [] fails = refl
none_passes p k (x ∷ xs) fails = ap (λ b. cond b (Some k) (position_from p (k + 1) xs)) (fails x (inl refl)) ∙ none_passes p (k + 1) xs (λ y inside. fails y (inr inside))

other_bytes : (a b : Bytes) → (a ≡ b → ⊥) → bytes_eq a b ≡ false
other_bytes a b other = at_test (bytes_eq a b) refl
  where
    at_test : (t : Bool) → bytes_eq a b ≡ t → bytes_eq a b ≡ false
    at_test true is = absurd (other (same_bytes a b is))
    at_test false is = is

pub other_path : (path : Path) (name : Bytes) (item : FlatItem) → (item.path ≡ path → ⊥) → is_place path name item ≡ false
other_path path name item other = ap (λ b. b && bytes_eq item.driven.name name) (other_bytes item.path path other)

and_false : (a : Bool) → a && false ≡ false
and_false true = refl
and_false false = refl

pub other_name : (path : Path) (name : Bytes) (item : FlatItem) → (item.driven.name ≡ name → ⊥) → is_place path name item ≡ false
other_name path name item other = ap (λ b. bytes_eq item.path path && b) (other_bytes item.driven.name name other) ∙ and_false (bytes_eq item.path path)

pub its_place : (path : Path) (d : Driven) → is_place path d.name (record { path = path; driven = d }) ≡ true
its_place path d = ap (λ b. b && bytes_eq d.name d.name) (equal_bytes path path refl) ∙ equal_bytes d.name d.name refl

pub map_same_in : {X Y : Type 0} (f g : X → Y) (xs : List X) → ((x : X) → IsIn x xs → f x ≡ g x) → map f xs ≡ map g xs
map_same_in f g [] same = refl
map_same_in f g (x ∷ xs) same = ap (λ y. y ∷ map f xs) (same x (inl refl)) ∙ ap (λ ys. g x ∷ ys) (map_same_in f g xs (λ y inside. same y (inr inside)))

-- the place of each of these
abbrev found_in_list : Path → ℕ → List FlatItem → Driven → Option ℕ
found_in_list path k items d = position_from (is_place path d.name) k items

own_found : (path : Path) (k : ℕ) (driven : List Driven) (rest : List FlatItem) → Distinct (map (λ d. d.name) driven)
    → map (found_in_list path k (items_at path driven ++ rest)) driven ≡ map Some (range_with_len k (length driven))
own_found path k [] rest distinct = refl
own_found path k (d ∷ driven) rest distinct =
    let here : found_in_list path k (items_at path (d ∷ driven) ++ rest) d ≡ Some k
    = ap (λ b. cond b (Some k) (position_from (is_place path d.name) (k + 1) (items_at path driven ++ rest))) (its_place path d) in
    let later : map (found_in_list path k (items_at path (d ∷ driven) ++ rest)) driven ≡ map (found_in_list path (k + 1) (items_at path driven ++ rest)) driven =
    map_same_in (found_in_list path k (items_at path (d ∷ driven) ++ rest)) (found_in_list path (k + 1) (items_at path driven ++ rest)) driven
    (λ e inside.
    ap (λ b. cond b (Some k) (position_from (is_place path e.name) (k + 1) (items_at path driven ++ rest)))
    (other_name path e.name (record { path = path; driven = d })
    (λ same. distinct.0 (subst (λ name. IsIn name (map (λ d. d.name) driven)) (sym same) (in_map (λ (d : Driven). d.name) e driven inside))))) in
    ap (λ o. o ∷ map (found_in_list path k (items_at path (d ∷ driven) ++ rest)) driven) here
    ∙ ap (λ os. Some k ∷ os) (later ∙ own_found path (k + 1) driven rest distinct.1)

-- the items of the models inside are not at this path
inside_elsewhere : (h : Hierarchy) (l n : ℕ) (path : Path) (m : BlifModel) (name : Bytes) (item : FlatItem) → IsIn item (items_of h l (n ∷ path) m) → is_place path name item ≡ false
inside_elsewhere h l n path m name item inside =
    other_path path name item (λ same. not_itself n path (subst (EndsIn (n ∷ path)) same (model_ends h l (n ∷ path) m item inside)))

part_found : (h : Hierarchy) (l : ℕ) (path : Path) (n k : ℕ) (p : Part) (rest : List FlatItem) → Distinct (map (λ d. d.name) (part_driven h n p))
    → ((c : Subcircuit) → p ≡ subckt_part c → model_weight h by_tables l (model_named h c.model) ≡ size_of h (model_named h c.model))
    → map (found_in_list path k (part_items h (items_of h l) path n p ++ rest)) (part_driven h n p) ≡ map Some (own_signals h k p)
part_found h l path n k (names_part t) rest distinct sizes = own_found path k (part_driven h n (names_part t)) rest distinct
part_found h l path n k (subckt_part c) rest distinct sizes =
    let below : List FlatItem = items_of h l (n ∷ path) (model_named h c.model) in
    let own : List Driven = part_driven h n (subckt_part c) in
    let size : length below ≡ size_of h (model_named h c.model) = model_length h l (n ∷ path) (model_named h c.model) ∙ sizes c refl in
    map_same_in (found_in_list path k ((below ++ items_at path own) ++ rest)) (found_in_list path (k + length below) (items_at path own ++ rest)) own
    (λ d inside.
    ap (position_from (is_place path d.name) k) (append_assoc below (items_at path own) rest)
    ∙ skipped (is_place path d.name) k below (items_at path own ++ rest) (λ item within. inside_elsewhere h l n path (model_named h c.model) d.name item within))
    ∙ own_found path (k + length below) own rest distinct
    ∙ ap (λ s. map Some (range_with_len (k + s) (length own))) size
    ∙ ap (λ s. map Some (range_with_len (k + size_of h (model_named h c.model)) s)) (outputs_length h n c)

-- what later parts drive is not found among the items of a part
later_elsewhere : (h : Hierarchy) (l : ℕ) (path : Path) (n : ℕ) (p : Part) (name : Bytes) (item : FlatItem) → (IsIn name (map (λ d. d.name) (part_driven h n p)) → ⊥)
    → IsIn item (part_items h (items_of h l) path n p) → is_place path name item ≡ false
later_elsewhere h l path n p name item other inside = by_part p other inside
  where
    own : (driven : List Driven) → (IsIn name (map (λ d. d.name) driven) → ⊥) → IsIn item (items_at path driven) → is_place path name item ≡ false
    own driven none within =
        let from = from_map (λ d. record { path = path; driven = d }) item driven within in
        other_name path name item
        (λ same. none (subst (λ w. IsIn w (map (λ d. d.name) driven)) (ap (λ (i : FlatItem). i.driven.name) from.is ∙ same) (in_map (λ (d : Driven). d.name) from.from driven from.inside)))

    by_part : (p : Part) → (IsIn name (map (λ d. d.name) (part_driven h n p)) → ⊥) → IsIn item (part_items h (items_of h l) path n p) → is_place path name item ≡ false
    by_part (names_part t) none within = own (part_driven h n (names_part t)) none within
    by_part (subckt_part c) none within =
        elim (in_append item (items_of h l (n ∷ path) (model_named h c.model)) (items_at path (part_driven h n (subckt_part c))) within) [
          | inl below ↦ inside_elsewhere h l n path (model_named h c.model) name item below
          | inr here ↦ own (part_driven h n (subckt_part c)) none here
        ]

-- the sizes of the models that these parts use are those at this level
abbrev pub HaveSizes : Hierarchy → ℕ → List Part → Type 0
HaveSizes h l parts = (c : Subcircuit) → IsIn (subckt_part c) parts → model_weight h by_tables l (model_named h c.model) ≡ size_of h (model_named h c.model)

pub part_size_is : (h : Hierarchy) (l : ℕ) (path : Path) (n : ℕ) (p : Part)
    → ((c : Subcircuit) → p ≡ subckt_part c → model_weight h by_tables l (model_named h c.model) ≡ size_of h (model_named h c.model))
    → length (part_items h (items_of h l) path n p) ≡ part_size h p
part_size_is h l path n (names_part t) sizes = refl
part_size_is h l path n (subckt_part c) sizes =
    part_length h l path n (subckt_part c) (model_length h l) ∙ ap (λ k. k + length (bound_outputs h c) * 1) (sizes c refl)

pub parts_found : (h : Hierarchy) (l : ℕ) (path : Path) (n k : ℕ) (parts : List Part) (rest : List FlatItem) → Distinct (map (λ d. d.name) (over_parts (part_driven h) n parts)) → HaveSizes h l parts
    → map (found_in_list path k (over_parts (part_items h (items_of h l) path) n parts ++ rest)) (over_parts (part_driven h) n parts) ≡ map Some (part_signals h k parts)
parts_found h l path n k [] rest distinct sizes = refl
parts_found h l path n k (p ∷ parts) rest distinct sizes =
    let here : List FlatItem = part_items h (items_of h l) path n p in
    let later : List FlatItem = over_parts (part_items h (items_of h l) path) (n + 1) parts in
    let own : List Driven = part_driven h n p in
    let others : List Driven = over_parts (part_driven h) (n + 1) parts in
    let own_sizes = λ (c : Subcircuit) (e : p ≡ subckt_part c). sizes c (inl e) in
    let names : map (λ (d : Driven). d.name) (own ++ others) ≡ map (λ d. d.name) own ++ map (λ d. d.name) others = map-append (λ (d : Driven). d.name) own others in
    let apart : Distinct (map (λ (d : Driven). d.name) own ++ map (λ d. d.name) others) = subst Distinct names distinct in
    let size : length here ≡ part_size h p = part_size_is h l path n p own_sizes in
    let whole : (here ++ later) ++ rest ≡ here ++ (later ++ rest) = append_assoc here later rest in
    ap (λ items. map (found_in_list path k items) (own ++ others)) whole
    ∙ map-append (found_in_list path k (here ++ (later ++ rest))) own others
    ∙ ap (λ front. front ++ map (found_in_list path k (here ++ (later ++ rest))) others)
    (part_found h l path n k p (later ++ rest) (distinct_left (map (λ d. d.name) own) (map (λ d. d.name) others) apart) own_sizes)
    ∙ ap (λ back. map Some (own_signals h k p) ++ back)
    (map_same_in (found_in_list path k (here ++ (later ++ rest))) (found_in_list path (k + part_size h p) (later ++ rest)) others
    (λ d inside.
    skipped (is_place path d.name) k here (later ++ rest)
    (λ item within.
    later_elsewhere h l path n p d.name item
    (λ listed. distinct_apart (map (λ d. d.name) own) (map (λ d. d.name) others) apart d.name listed (in_map (λ (d : Driven). d.name) d others inside)) within)
    ∙ ap (λ s. position_from (is_place path d.name) (k + s) (later ++ rest)) size)
    ∙ parts_found h l path (n + 1) (k + part_size h p) parts rest (distinct_right (map (λ d. d.name) own) (map (λ d. d.name) others) apart) (λ c inside. sizes c (inr inside)))
    ∙ sym (map-append Some (own_signals h k p) (part_signals h (k + part_size h p) parts))

-- ---- the signals of what a model drives

-- the items of a model in the flat list, behind `number` items, none of which is of this path or of one that
-- ends in it
pub record Stands (h : Hierarchy) (l number : ℕ) (path : Path) (m : BlifModel) : Type 0 where
  pub before : List FlatItem
  pub after : List FlatItem
  pub split : flat_items h ≡ before ++ (items_of h l path m ++ after)
  pub size : length before ≡ number
  pub apart : (item : FlatItem) → IsIn item before → EndsIn path item.path → ⊥

abbrev pub or_zero : Option ℕ → ℕ
or_zero o = elim o [ None ↦ 0 | Some s ↦ s ]

unwrapped : (ns : List ℕ) → map or_zero (map Some ns) ≡ ns
unwrapped [] = refl
unwrapped (n ∷ ns) = ap (λ rest. n ∷ rest) (unwrapped ns)

map_twice : {X Y Z : Type 0} (f : X → Y) (g : Y → Z) (xs : List X) → map (λ x. g (f x)) xs ≡ map g (map f xs)
map_twice f g [] = refl
map_twice f g (x ∷ xs) = ap (λ rest. g (f x) ∷ rest) (map_twice f g xs)

pub model_found : (h : Hierarchy) (l number : ℕ) (path : Path) (m : BlifModel) → Stands h (suc l) number path m → Distinct (map (λ d. d.name) (over_parts (part_driven h) 0 m.parts))
    → HaveSizes h l m.parts
    → map (λ d. table_signal h path d.name) (over_parts (part_driven h) 0 m.parts) ≡ part_signals h (length (main_of h).inputs + number) m.parts
model_found h l number path m stands distinct sizes =
    let n : ℕ = length (main_of h).inputs in
    let driven : List Driven = over_parts (part_driven h) 0 m.parts in
    let items : List FlatItem = items_of h (suc l) path m in
    map_same_in (λ d. table_signal h path d.name) (λ d. or_zero (found_in_list path (n + number) (items ++ stands.after) d)) driven
    (λ d inside.
    ap (λ all. or_zero (position_from (is_place path d.name) n all)) stands.split
    ∙ ap or_zero
    (skipped (is_place path d.name) n stands.before (items ++ stands.after)
    (λ item within. other_path path d.name item (λ same. stands.apart item within (subst (EndsIn path) (sym same) (ends_here path)))))
    ∙ ap (λ s. or_zero (position_from (is_place path d.name) (n + s) (items ++ stands.after))) stands.size)
    ∙ map_twice (found_in_list path (n + number) (items ++ stands.after)) or_zero driven
    ∙ ap (map or_zero) (parts_found h l path 0 (n + number) m.parts stands.after distinct sizes)
    ∙ unwrapped (part_signals h (n + number) m.parts)
