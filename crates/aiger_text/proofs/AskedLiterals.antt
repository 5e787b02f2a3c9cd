-- Lists of what passes a test, one item further, and the tables of conjunctions.
use Rattle.std.proofs.Common.{◌≡◌, ℕ, ◌+◌, ◌-◌, ◌/◌, ◌<◌, ◌≤◌, Bool, true, false, cond, ◌==◌, List, [], ◌∷◌, ◌++◌, map, filter, length, get_or, take, refl, ap, sym, subst, ◌∙◌, append_assoc, arith}
use Rattle.std.specs.List.{list_any}
use Rattle.std.proofs.lemmas.List.{take_more, map-append, get_or-append-add, take_all, length-append, length-map}
use Rattle.semantics.specs.declared.mark.Mark.{Mark}
use Rattle.semantics.specs.Texts.{Bytes}
use Rattle.semantics.specs.Net.{TableValue, IsName, constant_table}
use Rattle.aiger_semantics.specs.Circuit.{CircuitValue}
use Rattle.aiger_semantics.specs.ReadNet.{signal_of_variable, literal_mark, asked, conjunction_table, Port, input_ports, output_ports, own_outputs, output_table}
use Rattle.aiger_semantics.proofs.ReadSound.{ports-named}
use Rattle.aiger_semantics.proofs.ReadWired.{new-each}
use Rattle.std.specs.List.{AllByRecursion}
use Rattle.std.proofs.lemmas.List.Elements.{All-from_recursion, recursion_from_All}
use Rattle.aiger_text.specs.ReadCircuit.{IsRead}
use Rattle.aiger_text.proofs.PortSteps.{port, inputs-count}

filter-append : {X : Type 0} (p : X → Bool) (xs ys : List X) → filter p (xs ++ ys) ≡ filter p xs ++ filter p ys
filter-append p [] ys = refl
filter-append p (x ∷ xs) ys = at_test (p x) (filter-append p xs ys)
  where
    at_test : (t : Bool) → filter p (xs ++ ys) ≡ filter p xs ++ filter p ys → cond t (x ∷ filter p (xs ++ ys)) (filter p (xs ++ ys)) ≡ cond t (x ∷ filter p xs) (filter p xs) ++ filter p ys
    at_test true rest = ap (λ l. x ∷ l) rest
    at_test false rest = rest

-- one item further
pub filter-more : {X : Type 0} (f : ℕ → X) (p : ℕ → Bool) (xs : List ℕ) (i : ℕ) → i < length xs
    → map f (filter p (take i xs)) ++ map f (filter p (get_or xs i 0 ∷ [])) ≡ map f (filter p (take (i + 1) xs))
filter-more f p xs i low =
    sym (map-append f (filter p (take i xs)) (filter p (get_or xs i 0 ∷ [])))
    ∙ ap (map f) (sym (filter-append p (take i xs) (get_or xs i 0 ∷ [])) ∙ ap (filter p) (sym (take_more xs i 0 low)))

-- the marks are as many as the pins
pub same-width : (D literals pins : List ℕ) (marks : List Mark) → pins ≡ map (λ l. signal_of_variable D (l / 2)) (asked literals) → marks ≡ map literal_mark (asked literals)
    → length marks ≡ length pins
same-width D literals pins marks read asks =
    ap length asks ∙ length-map (asked literals) literal_mark ∙ sym (length-map (asked literals) (λ l. signal_of_variable D (l / 2))) ∙ ap length (sym read)

pub conjunction-constant : (D : List ℕ) (name : Bytes) (literals : List ℕ) → list_any (λ l. l == 0) literals ≡ true → constant_table name false ≡ conjunction_table D name literals
conjunction-constant D name literals e =
    sym (ap (λ t. cond t (constant_table name false)
    (record { name = name; pins = map (λ l. signal_of_variable D (l / 2)) (asked literals); rows = map literal_mark (asked literals) ∷ []; plane = true })) e)

pub conjunction-row : (D : List ℕ) (name : Bytes) (literals pins : List ℕ) (marks : List Mark) → list_any (λ l. l == 0) literals ≡ false
    → pins ≡ map (λ l. signal_of_variable D (l / 2)) (asked literals) → marks ≡ map literal_mark (asked literals)
    → record { name = name; pins = pins; rows = marks ∷ []; plane = true } ≡ conjunction_table D name literals
conjunction-row D name literals pins marks e read asks =
    ap (λ ps. record { name = name; pins = ps; rows = marks ∷ []; plane = true }) read
    ∙ ap (λ ms. record { name = name; pins = map (λ l. signal_of_variable D (l / 2)) (asked literals); rows = ms ∷ []; plane = true }) asks
    ∙ sym (ap (λ t. cond t (constant_table name false)
    (record { name = name; pins = map (λ l. signal_of_variable D (l / 2)) (asked literals); rows = map literal_mark (asked literals) ∷ []; plane = true })) e)

-- ---- outputs with tables of their own

module _ (c : CircuitValue) (read : IsRead c) where
  own-named : AllByRecursion (λ (p : Port). IsName p.name) (own_outputs c)
  own-named = new-each (λ (p : Port). IsName p.name) (input_ports c) (output_ports c) (ports-named c.output_names c.outputs (recursion_from_All IsName c.output_names read.outputs_named))

  abbrev pub no_port : Port
  no_port = port [] 0

  module _ (all : List Port) (is : all ≡ input_ports c ++ own_outputs c) (place : ℕ) (past : length c.inputs ≤ place) (low : place < length all) where
    own-at : get_or all place no_port ≡ get_or (own_outputs c) (place - length c.inputs) no_port
    own-at =
        let sum : length (input_ports c) + (place - length c.inputs) ≡ place = omega (arith, past, inputs-count c read) in
        ap (λ l. get_or l place no_port) is ∙ ap (λ k. get_or (input_ports c ++ own_outputs c) k no_port) (sym sum) ∙ get_or-append-add (input_ports c) (own_outputs c) (place - length c.inputs)
        no_port

    own-within : place - length c.inputs < length (own_outputs c)
    own-within =
        let size = length-append (input_ports c) (own_outputs c) in
        omega (arith, past, low, ap length is, size, inputs-count c read)

    -- the name at a place behind the inputs' is one
    pub own-name : (name : Bytes) (literal : ℕ) → port name literal ≡ get_or all place no_port → IsName name
    own-name name literal here =
        subst (λ (p : Port). IsName p.name) (sym (here ∙ own-at)) (All-from_recursion (λ (p : Port). IsName p.name) (own_outputs c) own-named (place - length c.inputs) no_port own-within)

    -- one table more
    pub own-next : (D : List ℕ) (before so_far later : List TableValue) (name : Bytes) (literal : ℕ) → port name literal ≡ get_or all place no_port
        → so_far ≡ before ++ map (output_table D) (take (place - length c.inputs) (own_outputs c))
        → later ≡ so_far ++ output_table D (port name literal) ∷ []
        → later ≡ before ++ map (output_table D) (take (place + 1 - length c.inputs) (own_outputs c))
    own-next D before so_far later name literal here same added =
        let k : ℕ = place - length c.inputs in
        let next : k + 1 ≡ place + 1 - length c.inputs = omega (arith, past) in
        added
        ∙ ap (λ l. l ++ output_table D (port name literal) ∷ []) same
        ∙ append_assoc before (map (output_table D) (take k (own_outputs c))) (output_table D (port name literal) ∷ [])
        ∙ ap (λ p. before ++ (map (output_table D) (take k (own_outputs c)) ++ output_table D p ∷ [])) (here ∙ own-at)
        ∙ ap (λ l. before ++ l) (sym (map-append (output_table D) (take k (own_outputs c)) (get_or (own_outputs c) k no_port ∷ [])) ∙ ap (map (output_table D))
        (sym (take_more (own_outputs c) k no_port own-within)))
        ∙ ap (λ j. before ++ map (output_table D) (take j (own_outputs c))) next

  pub own-end : (D : List ℕ) (before so_far : List TableValue) (all : List Port) (place : ℕ) → all ≡ input_ports c ++ own_outputs c → length all ≤ place
      → so_far ≡ before ++ map (output_table D) (take (place - length c.inputs) (own_outputs c)) → so_far ≡ before ++ map (output_table D) (own_outputs c)
  own-end D before so_far all place is past same =
      let size = length-append (input_ports c) (own_outputs c) in
      same ∙ ap (λ l. before ++ map (output_table D) l) (take_all (place - length c.inputs) (own_outputs c) (omega (arith, past, ap length is, size, inputs-count c read)))
