-- The names of the flat tables differ, from one another and from the inputs.
use Rattle.std.proofs.Common.{◌≡◌, ℕ, zero, suc, ◌+◌, ◌^◌, ◌<◌, ◌≤◌, true, false, not, ◌==◌, List, [], ◌∷◌, ◌++◌, map, length, codes, decimal, drop, refl, ap, sym, subst, ◌∙◌, inl, inr, arith}
use Rattle.std.specs.List.{list_all}
use Rattle.std.proofs.lemmas.Bool.{false≢true, and_parts, and_from, not_from_false, ne_eqb}
use Rattle.std.proofs.lemmas.Fmt.{decimal_nonempty}
use Rattle.semantics.specs.Texts.{Bytes}
use Rattle.semantics.specs.Decimal.{digits_number, is_digit, is_decimal}
use Rattle.semantics.proofs.Numerals.{digits_number-decimal, is_decimal-decimal}
use Rattle.hierarchy_semantics.specs.Models.{Part, names_part, subckt_part, BlifModel, Hierarchy, model_named}
use Rattle.hierarchy_semantics.specs.Driven.{Source, by_input, by_table, by_output, Driven, over_parts, inputs_driven, part_driven, names_driven}
use Rattle.hierarchy_semantics.specs.Refusals.{is_taken}
use Rattle.hierarchy_semantics.specs.Places.{Path}
use Rattle.hierarchy_semantics.specs.Flat.{FlatItem, items_at, part_items, items_of, flat_name, flat_table, tables_from}
use Rattle.hierarchy_semantics.proofs.Members.{IsIn, in_left, in_right}
use Rattle.hierarchy_semantics.proofs.Distinct.{Distinct, Apart, distinct_append, distinct_left, distinct_right, distinct_apart}

-- ---- the names of the main model among the names of the items

abbrev own_first : Path → Bytes → List Bytes → List Bytes
own_first [] name rest = name ∷ rest
own_first (n ∷ up) name rest = rest

abbrev pub own_names : List FlatItem → List Bytes
own_names [] = []
own_names (item ∷ items) = own_first item.path item.driven.name (own_names items)

own_first-append : (path : Path) (name : Bytes) (rest more : List Bytes) → own_first path name (rest ++ more) ≡ own_first path name rest ++ more
own_first-append [] name rest more = refl
own_first-append (n ∷ up) name rest more = refl

own_append : (items more : List FlatItem) → own_names (items ++ more) ≡ own_names items ++ own_names more
own_append [] more = refl
own_append (item ∷ items) more = ap (own_first item.path item.driven.name) (own_append items more) ∙ own_first-append item.path item.driven.name (own_names items) (own_names more)

own_here : (driven : List Driven) → own_names (items_at [] driven) ≡ map (λ d. d.name) driven
own_here [] = refl
own_here (d ∷ driven) = ap (λ rest. d.name ∷ rest) (own_here driven)

own_below : (n : ℕ) (up : Path) (driven : List Driven) → own_names (items_at (n ∷ up) driven) ≡ []
own_below n up [] = refl
own_below n up (d ∷ driven) = own_below n up driven

-- the items of a model inside have no name of the main model
below_part : (h : Hierarchy) (l n : ℕ) (up : Path) (i : ℕ) (p : Part) → ((m : ℕ) (path : Path) (k : BlifModel) → own_names (items_of h l (m ∷ path) k) ≡ [])
    → own_names (part_items h (items_of h l) (n ∷ up) i p) ≡ []
below_part h l n up i (names_part t) inner = own_below n up (part_driven h i (names_part t))
below_part h l n up i (subckt_part c) inner =
    own_append (items_of h l (i ∷ n ∷ up) (model_named h c.model)) (items_at (n ∷ up) (part_driven h i (subckt_part c)))
    ∙ ap (λ front. front ++ own_names (items_at (n ∷ up) (part_driven h i (subckt_part c)))) (inner i (n ∷ up) (model_named h c.model))
    ∙ own_below n up (part_driven h i (subckt_part c))

below_parts : (h : Hierarchy) (l n : ℕ) (up : Path) (i : ℕ) (parts : List Part) → ((m : ℕ) (path : Path) (k : BlifModel) → own_names (items_of h l (m ∷ path) k) ≡ [])
    → own_names (over_parts (part_items h (items_of h l) (n ∷ up)) i parts) ≡ []
below_parts h l n up i [] inner = refl
below_parts h l n up i (p ∷ parts) inner =
    own_append (part_items h (items_of h l) (n ∷ up) i p) (over_parts (part_items h (items_of h l) (n ∷ up)) (i + 1) parts)
    ∙ ap (λ front. front ++ own_names (over_parts (part_items h (items_of h l) (n ∷ up)) (i + 1) parts)) (below_part h l n up i p inner)
    ∙ below_parts h l n up (i + 1) parts inner

below_none : (h : Hierarchy) (l n : ℕ) (up : Path) (m : BlifModel) → own_names (items_of h l (n ∷ up) m) ≡ []
below_none h zero n up m = refl
below_none h (suc l) n up m = below_parts h l n up 0 m.parts (below_none h l)

own_part : (h : Hierarchy) (l i : ℕ) (p : Part) → own_names (part_items h (items_of h l) [] i p) ≡ map (λ d. d.name) (part_driven h i p)
own_part h l i (names_part t) = own_here (part_driven h i (names_part t))
own_part h l i (subckt_part c) =
    own_append (items_of h l (i ∷ []) (model_named h c.model)) (items_at [] (part_driven h i (subckt_part c)))
    ∙ ap (λ front. front ++ own_names (items_at [] (part_driven h i (subckt_part c)))) (below_none h l i [] (model_named h c.model))
    ∙ own_here (part_driven h i (subckt_part c))

map_joined : (ds es : List Driven) → map (λ d. d.name) (ds ++ es) ≡ map (λ d. d.name) ds ++ map (λ d. d.name) es
map_joined [] es = refl
map_joined (d ∷ ds) es = ap (λ rest. d.name ∷ rest) (map_joined ds es)

own_parts : (h : Hierarchy) (l i : ℕ) (parts : List Part) → own_names (over_parts (part_items h (items_of h l) []) i parts) ≡ map (λ d. d.name) (over_parts (part_driven h) i parts)
own_parts h l i [] = refl
own_parts h l i (p ∷ parts) =
    own_append (part_items h (items_of h l) [] i p) (over_parts (part_items h (items_of h l) []) (i + 1) parts)
    ∙ ap (λ front. front ++ own_names (over_parts (part_items h (items_of h l) []) (i + 1) parts)) (own_part h l i p)
    ∙ ap (λ rest. map (λ d. d.name) (part_driven h i p) ++ rest) (own_parts h l (i + 1) parts)
    ∙ sym (map_joined (part_driven h i p) (over_parts (part_driven h) (i + 1) parts))

-- ---- numbered names

abbrev numbered_name : ℕ → Bytes
numbered_name number = codes "$u" ++ decimal number

taken_digits : (digits : Bytes) → 0 < length digits → list_all is_digit digits ≡ true → is_taken (codes "$u" ++ digits) ≡ true
taken_digits digits some all =
    let filled : not (length digits == 0) ≡ true = not_from_false (length digits == 0) (ne_eqb (length digits) 0 (λ e. omega (arith, e, some))) in
    and_from (not (length digits == 0)) (list_all is_digit digits) filled all

all_digits : (digits : Bytes) → is_decimal digits ≡ true → list_all is_digit digits ≡ true
all_digits [] e = refl
all_digits (c ∷ []) e = and_from (is_digit c) true e refl
all_digits (c ∷ d ∷ cs) e = (and_parts (not (c == 48)) (list_all is_digit (c ∷ d ∷ cs)) e).1

taken_numbered : (number : ℕ) → number < 2 ^ 64 → is_taken (numbered_name number) ≡ true
taken_numbered number small =
    taken_digits (decimal number) (decimal_nonempty number small) (all_digits (decimal number) (is_decimal-decimal number (omega (arith, small))))

same_number : (i j : ℕ) → i < 2 ^ 64 → j < 2 ^ 64 → numbered_name i ≡ numbered_name j → i ≡ j
same_number i j si sj e =
    let digits : decimal i ≡ decimal j = ap (λ name. drop 2 name) e in
    sym (digits_number-decimal i (omega (arith, si))) ∙ ap digits_number digits ∙ digits_number-decimal j (omega (arith, sj))

-- ---- the names of all flat tables

abbrev pub names_from : ℕ → List FlatItem → List Bytes
names_from number [] = []
names_from number (item ∷ items) = flat_name number item ∷ names_from (number + 1) items

label_name : (h : Hierarchy) (label : Bytes) (path : Path) (s : Source) → ((i : ℕ) → s ≡ by_input i → ⊥) → (flat_table h label path s).name ≡ label
label_name h label path (by_input i) none = absurd (none i refl)
label_name h label path (by_table t) none = refl
label_name h label path (by_output n formal) none = refl

pub names_of_tables : (h : Hierarchy) (number : ℕ) (items : List FlatItem) → ((item : FlatItem) → IsIn item items → (i : ℕ) → item.driven.source ≡ by_input i → ⊥)
    → map (λ t. t.name) (tables_from h number items) ≡ names_from number items
names_of_tables h number [] none = refl
names_of_tables h number (item ∷ items) none =
    ap (λ name. name ∷ map (λ t. t.name) (tables_from h (number + 1) items)) (label_name h (flat_name number item) item.path item.driven.source (none item (inl refl)))
    ∙ ap (λ rest. flat_name number item ∷ rest) (names_of_tables h (number + 1) items (λ i inside. none i (inr inside)))

abbrev path_name : Path → Bytes → ℕ → Bytes
path_name path name number = elim path [ [] ↦ name | n ∷ up ↦ numbered_name number ]

-- a name that stands there is that of the main model, or numbered from here on
data OneOf (number size : ℕ) (own : List Bytes) (name : Bytes) : Type 0 where
  its_own : IsIn name own → OneOf number size own name
  by_number : (k : ℕ) → number ≤ k → k < number + size → name ≡ numbered_name k → OneOf number size own name

one_more : (number size : ℕ) (path : Path) (first : Bytes) (own : List Bytes) (name : Bytes) → OneOf (number + 1) size own name → OneOf number (suc size) (own_first path first own) name
one_more number size [] first own name (its_own h) = its_own (inr h)
one_more number size (n ∷ up) first own name (its_own h) = its_own h
one_more number size path first own name (by_number k least below is) = by_number k (omega (arith, least)) (omega (arith, below)) is

one_first : (number size : ℕ) (path : Path) (first : Bytes) (own : List Bytes) → OneOf number (suc size) (own_first path first own) (path_name path first number)
one_first number size [] first own = its_own (inl refl)
one_first number size (n ∷ up) first own = by_number number (omega arith) (omega arith) refl

one_of : (number : ℕ) (items : List FlatItem) (name : Bytes) → IsIn name (names_from number items) → OneOf number (length items) (own_names items) name
one_of number [] name h = absurd h
one_of number (item ∷ items) name (inl e) = subst (OneOf number (suc (length items)) (own_names (item ∷ items))) e (one_first number (length items) item.path item.driven.name (own_names items))
one_of number (item ∷ items) name (inr h) = one_more number (length items) item.path item.driven.name (own_names items) name (one_of (number + 1) items name h)

abbrev NoneTaken : List Bytes → Type 0
NoneTaken names = (name : Bytes) → IsIn name names → is_taken name ≡ false

fresh_first : (number size : ℕ) (path : Path) (first : Bytes) (own : List Bytes) → number + suc size < 2 ^ 64 → Distinct (own_first path first own) → NoneTaken (own_first path first own)
    → OneOf (number + 1) size own (path_name path first number) → ⊥
fresh_first number size [] first own small distinct free (its_own h) = distinct.0 h
fresh_first number size [] first own small distinct free (by_number k least below is) =
    false≢true (sym (free first (inl refl)) ∙ ap is_taken is ∙ taken_numbered k (omega (arith, below, small)))
fresh_first number size (n ∷ up) first own small distinct free (its_own h) =
    false≢true (sym (free (numbered_name number) h) ∙ taken_numbered number (omega (arith, small)))
fresh_first number size (n ∷ up) first own small distinct free (by_number k least below is) =
    let same = same_number number k (omega (arith, small)) (omega (arith, below, small)) is in
    omega (arith, same, least)

own_rest : (path : Path) (first : Bytes) (own : List Bytes) → Distinct (own_first path first own) → Distinct own
own_rest [] first own h = h.1
own_rest (n ∷ up) first own h = h

free_rest : (path : Path) (first : Bytes) (own : List Bytes) → NoneTaken (own_first path first own) → NoneTaken own
free_rest [] first own h name inside = h name (inr inside)
free_rest (n ∷ up) first own h name inside = h name inside

distinct_from : (number : ℕ) (items : List FlatItem) → number + length items < 2 ^ 64 → Distinct (own_names items) → NoneTaken (own_names items) → Distinct (names_from number items)
distinct_from number [] small distinct free = tt
distinct_from number (item ∷ items) small distinct free = (
  λ inside. fresh_first number (length items) item.path item.driven.name (own_names items) (omega (arith, small)) distinct free (one_of (number + 1) items (flat_name number item) inside),
  distinct_from (number + 1) items (omega (arith, small)) (own_rest item.path item.driven.name (own_names items) distinct) (free_rest item.path item.driven.name (own_names items) free),
)

apart_from : (inputs : List Bytes) (items : List FlatItem) → length items < 2 ^ 64 → NoneTaken inputs → Apart inputs (own_names items) → Apart inputs (names_from 0 items)
apart_from inputs items small free apart name input inside = by_kind (one_of 0 items name inside)
  where
    by_kind : OneOf 0 (length items) (own_names items) name → ⊥
    by_kind (its_own h) = apart name input h
    by_kind (by_number k least below is) = false≢true (sym (free name input) ∙ ap is_taken is ∙ taken_numbered k (omega (arith, below, small)))

pub distinct_signals : (inputs : List Bytes) (items : List FlatItem) → length items < 2 ^ 64 → Distinct (inputs ++ own_names items) → NoneTaken (inputs ++ own_names items)
    → Distinct (inputs ++ names_from 0 items)
distinct_signals inputs items small distinct free =
    distinct_append inputs (names_from 0 items) (distinct_left inputs (own_names items) distinct)
    (distinct_from 0 items (omega (arith, small)) (distinct_right inputs (own_names items) distinct) (λ name inside. free name (in_right name inputs (own_names items) inside)))
    (apart_from inputs items small (λ name inside. free name (in_left name inputs (own_names items) inside)) (distinct_apart inputs (own_names items) distinct))

inputs_names : (i : ℕ) (names : List Bytes) → map (λ d. d.name) (inputs_driven i names) ≡ names
inputs_names i [] = refl
inputs_names i (name ∷ names) = ap (λ rest. name ∷ rest) (inputs_names (i + 1) names)

-- the names that the main model drives
pub own_driven : (h : Hierarchy) (l : ℕ) (m : BlifModel) → names_driven h m ≡ m.inputs ++ own_names (items_of h (suc l) [] m)
own_driven h l m =
    map_joined (inputs_driven 0 m.inputs) (over_parts (part_driven h) 0 m.parts)
    ∙ ap (λ front. front ++ map (λ d. d.name) (over_parts (part_driven h) 0 m.parts)) (inputs_names 0 m.inputs)
    ∙ ap (λ rest. m.inputs ++ rest) (sym (own_parts h l 0 m.parts))
