-- Ports: those that are new, and the signal of each by its place among the inputs and the new ones.
use Rattle.std.proofs.Common.{◌≡◌, ℕ, zero, suc, ◌+◌, ◌<◌, ◌≤◌, Bool, true, false, cond, not, ◌||◌, ◌&&◌, ◌==◌, ltb, List, [], ◌∷◌, ◌++◌, map, length, get_or, take, drop, bytes_eq, Option, Some}
use Rattle.std.proofs.Common.{None, refl, ap, sym, ◌∙◌, inl, inr, ◌⊎◌, append_assoc, arith}
use Rattle.std.specs.Borrow.{Bor}
use Rattle.std.specs.List.{list_any, position, position_or_len}
use Rattle.std.proofs.lemmas.Bool.{both_ways, eq-eqb, eqb-true, lt-ltb, and_parts, false_from_ne_true}
use Rattle.std.proofs.lemmas.List.{drop_more, drop_all, append-nil, map-append, length-append, length-map, take_more, get_or_default}
use Rattle.std.proofs.lemmas.List.Elements.{All-from_recursion}
use Rattle.std.proofs.lemmas.List.Folds.{list_any-append, list_any_at}
use Rattle.std.proofs.lemmas.List.Quantifiers.{position-Some}
use Rattle.std.proofs.lemmas.Option.{none-some, same_Some}
use Rattle.semantics.specs.Texts.{Bytes}
use Rattle.aiger_semantics.specs.Circuit.{CircuitValue, literal_of_variable}
use Rattle.aiger_semantics.specs.ReadNet.{variables, Port, is_port, ports, has_port, new_ports, place_or_end, input_ports, output_ports, own_outputs, port_signal}
use Rattle.aiger_semantics.specs.Reading.{has_variable, first_repeated, first_repeated_after}
use Rattle.aiger_semantics.proofs.ReadSound.{ports-count}
use Rattle.aiger_semantics.proofs.ReadWired.{none_if, or_right, place-found, IsThere, new_there}
use Rattle.aiger_text.specs.ReadCircuit.{IsRead}

abbrev pub port : Bytes → ℕ → Port
port name literal = record { name = name; literal = literal }

abbrev pub port_of : Bor Bytes × ℕ → Port
port_of key = port key.0.now key.1

pub has_port-keys : (p : Port) (keys : List (Bor Bytes × ℕ)) → list_any (λ key. bytes_eq p.name key.0.now && p.literal == key.1) keys ≡ has_port (map port_of keys) p
has_port-keys p [] = refl
has_port-keys p (key ∷ keys) = ap (λ (b : Bool). (bytes_eq p.name key.0.now && p.literal == key.1) || b) (has_port-keys p keys)

place-keys : (p : Port) (keys : List (Bor Bytes × ℕ)) → position_or_len (λ key. bytes_eq p.name key.0.now && p.literal == key.1) keys ≡ position_or_len (is_port p) (map port_of keys)
place-keys p [] = refl
place-keys p (key ∷ keys) = ap (λ (m : ℕ). cond (not (bytes_eq p.name key.0.now && p.literal == key.1)) (1 + m) 0) (place-keys p keys)

pub position-keys : (p : Port) (keys : List (Bor Bytes × ℕ)) → position (λ key. bytes_eq p.name key.0.now && p.literal == key.1) keys ≡ position (is_port p) (map port_of keys)
position-keys p keys =
    let place = place-keys p keys in
    let size : length (map port_of keys) ≡ length keys = length-map keys port_of in
    rw (place, size) refl

-- ---- one port further

abbrev pub with_new : List Port → Port → List Port
with_new earlier p = cond (has_port earlier p) earlier (earlier ++ p ∷ [])

-- a key is added as its port is
pub added-keys : (keys after : List (Bor Bytes × ℕ)) (key : Bor Bytes × ℕ) → after ≡ cond (list_any (λ k. bytes_eq key.0.now k.0.now && key.1 == k.1) keys) keys (keys ++ key ∷ [])
    → map port_of after ≡ with_new (map port_of keys) (port_of key)
added-keys keys after key is =
    ap (map port_of) is ∙ at_test (list_any (λ k. bytes_eq key.0.now k.0.now && key.1 == k.1) keys)
    ∙ ap (λ t. cond t (map port_of keys) (map port_of keys ++ port_of key ∷ [])) (has_port-keys (port_of key) keys)
  where
    at_test : (t : Bool) → map port_of (cond t keys (keys ++ key ∷ [])) ≡ cond t (map port_of keys) (map port_of keys ++ port_of key ∷ [])
    at_test true = refl
    at_test false = map-append port_of keys (key ∷ [])

new-next : (earlier : List Port) (p : Port) (ps : List Port) → with_new earlier p ++ new_ports (with_new earlier p) ps ≡ earlier ++ new_ports earlier (p ∷ ps)
new-next earlier p ps = at_test (has_port earlier p)
  where
    at_test : (t : Bool) → cond t earlier (earlier ++ p ∷ []) ++ new_ports (cond t earlier (earlier ++ p ∷ [])) ps ≡ earlier ++ cond t (new_ports earlier ps) (p ∷ new_ports (earlier ++ p ∷ []) ps)
    at_test true = refl
    at_test false = append_assoc earlier (p ∷ []) (new_ports (earlier ++ p ∷ []) ps)

pub ports-next : (names : List Bytes) (literals : List ℕ) (k : ℕ) (name : Bytes) (literal : ℕ) (earlier later whole : List Port) → k < length names → k < length literals → name ≡ get_or names k name
    → literal ≡ get_or literals k 0
    → later ≡ with_new earlier (port name literal) → earlier ++ new_ports earlier (ports (drop k names) (drop k literals)) ≡ whole
    → later ++ new_ports later (ports (drop (k + 1) names) (drop (k + 1) literals)) ≡ whole
ports-next names literals k name literal earlier later whole low short is at added same =
    let ps : List Port = ports (drop (k + 1) names) (drop (k + 1) literals) in
    ap (λ l. l ++ new_ports l ps) added ∙ new-next earlier (port name literal) ps
    ∙ ap (λ qs. earlier ++ new_ports earlier qs)
    (sym (ap (λ ns. ports ns (drop k literals)) (drop_more names k name low ∙ ap (λ w. w ∷ drop (k + 1) names) (sym is))
    ∙ ap (λ ls. ports (name ∷ drop (k + 1) names) ls) (drop_more literals k 0 short ∙ ap (λ l. l ∷ drop (k + 1) literals) (sym at))))
    ∙ same

pub ports-end : (names : List Bytes) (literals : List ℕ) (k : ℕ) (earlier whole : List Port) → length names ≤ k → earlier ++ new_ports earlier (ports (drop k names) (drop k literals)) ≡ whole
    → earlier ≡ whole
ports-end names literals k earlier whole past same =
    sym (append-nil earlier) ∙ ap (λ ns. earlier ++ new_ports earlier (ports ns (drop k literals))) (sym (drop_all k names past)) ∙ same

-- ---- inputs are new

-- only literals of these variables stand here
abbrev Stand : List Port → List ℕ → Type 0
Stand earlier vs = (name : Bytes) (v : ℕ) → has_port earlier (port name (literal_of_variable v)) ≡ true → has_variable vs v ≡ true

or_cases : (x y : Bool) → (x || y) ≡ true → (x ≡ true) ⊎ (y ≡ true)
or_cases true y e = inl refl
or_cases false y e = inr e

stand-more : (earlier : List Port) (vs : List ℕ) (name : Bytes) (v : ℕ) → Stand earlier vs → Stand (earlier ++ port name (literal_of_variable v) ∷ []) (vs ++ v ∷ [])
stand-more earlier vs name v h other u there =
    let q : Port = port other (literal_of_variable u) in
    let p : Port = port name (literal_of_variable v) in
    elim (or_cases (has_port earlier q) (is_port q p || false) (sym (list_any-append (is_port q) earlier (p ∷ [])) ∙ there)) [
      | inl before ↦ list_any-append (λ w. w == u) vs (v ∷ []) ∙ ap (λ t. t || ((v == u) || false)) (h other u before)
      | inr now ↦
          let same : literal_of_variable u ≡ literal_of_variable v
          = eqb-true (literal_of_variable u) (literal_of_variable v) (and_parts (bytes_eq other name) (literal_of_variable u == literal_of_variable v) (one (is_port q p) now)).1 in
          list_any-append (λ w. w == u) vs (v ∷ []) ∙ ap (λ t. has_variable vs u || (t || false)) (eq-eqb v u (omega (arith, same))) ∙ last (has_variable vs u)
    ]
  where
    one : (t : Bool) → (t || false) ≡ true → t ≡ true
    one true e = refl
    one false e = e

    last : (t : Bool) → (t || true) ≡ true
    last true = refl
    last false = refl

inputs-after : (earlier : List Port) (before : List ℕ) → Stand earlier before → (names : List Bytes) (vs rest : List ℕ) → first_repeated_after before (vs ++ rest) ≡ None
    → new_ports earlier (ports names (map literal_of_variable vs)) ≡ ports names (map literal_of_variable vs)
inputs-after earlier before h [] vs rest none = refl
inputs-after earlier before h (name ∷ names) [] rest none = refl
inputs-after earlier before h (name ∷ names) (v ∷ vs) rest none =
    let p : Port = port name (literal_of_variable v) in
    let apart = none_if (has_variable before v) v (first_repeated_after (before ++ v ∷ []) (vs ++ rest)) none in
    let fresh : has_port earlier p ≡ false = false_from_ne_true (has_port earlier p) (λ there. both_ways (has_variable before v) apart.0 (h name v there)) in
    ap (λ t. cond t (new_ports earlier (ports names (map literal_of_variable vs))) (p ∷ new_ports (earlier ++ p ∷ []) (ports names (map literal_of_variable vs)))) fresh
    ∙ ap (λ ps. p ∷ ps) (inputs-after (earlier ++ p ∷ []) (before ++ v ∷ []) (stand-more earlier before name v h) names vs rest apart.1)

pub inputs-new : (c : CircuitValue) → first_repeated (variables c) ≡ None → new_ports [] (input_ports c) ≡ input_ports c
inputs-new c none = inputs-after [] [] (λ name v there. absurd (both_ways false refl there)) c.input_names c.inputs (map (λ a. a.variable) c.ands) none

-- ---- places and signals

-- what has a place is there
placed-any : {X : Type 0} (test : X → Bool) (xs : List X) (d : X) (k : ℕ) → position test xs ≡ Some k → list_any test xs ≡ true
placed-any test xs d k e = let found = position-Some test xs k d e in list_any_at test xs k d found.0 found.1

place-append : {X : Type 0} (test : X → Bool) (xs ys : List X) → position_or_len test (xs ++ ys) ≡ cond (list_any test xs) (position_or_len test xs) (length xs + position_or_len test ys)
place-append test [] ys = sym (from_zero (position_or_len test ys))
  where
    from_zero : (n : ℕ) → 0 + n ≡ n
    from_zero n = omega arith
place-append test (x ∷ xs) ys = at_test (test x) (place-append test xs ys)
  where
    next : (a b : ℕ) → 1 + (a + b) ≡ suc a + b
    next a b = omega arith

    inner : (t : Bool) (a b : ℕ) → 1 + cond t a b ≡ cond t (1 + a) (1 + b)
    inner true a b = refl
    inner false a b = refl

    at_test : (t : Bool) → position_or_len test (xs ++ ys) ≡ cond (list_any test xs) (position_or_len test xs) (length xs + position_or_len test ys)
        → cond (not t) (1 + position_or_len test (xs ++ ys)) 0 ≡ cond (t || list_any test xs) (cond (not t) (1 + position_or_len test xs) 0) (suc (length xs) + position_or_len test ys)
    at_test true rest = refl
    at_test false rest =
        ap (λ k. 1 + k) rest ∙ inner (list_any test xs) (position_or_len test xs) (length xs + position_or_len test ys)
        ∙ ap (λ k. cond (list_any test xs) (1 + position_or_len test xs) k) (next (length xs) (position_or_len test ys))

new-short : (earlier ps : List Port) → length (new_ports earlier ps) ≤ length ps
new-short earlier [] = omega arith
new-short earlier (p ∷ ps) = at_test (has_port earlier p) (new-short earlier ps) (new-short (earlier ++ p ∷ []) ps)
  where
    at_test : (t : Bool) → length (new_ports earlier ps) ≤ length ps → length (new_ports (earlier ++ p ∷ []) ps) ≤ length ps
        → length (cond t (new_ports earlier ps) (p ∷ new_ports (earlier ++ p ∷ []) ps)) ≤ suc (length ps)
    at_test true one two = omega (arith, one)
    at_test false one two = omega (arith, two)

-- an input's place is its signal, and another's comes behind the lines'
abbrev pub IsSignalAt : CircuitValue → Port → ℕ → Type 0
IsSignalAt c p at = (at < length c.inputs + length c.outputs) × ((at < length c.inputs → at ≡ port_signal c p) × (length c.inputs ≤ at → at + length c.ands ≡ port_signal c p))

module _ (c : CircuitValue) (read : IsRead c) where
  pub inputs-count : length (input_ports c) ≡ length c.inputs
  inputs-count =
      let size = length-map c.inputs literal_of_variable in
      ports-count c.input_names (map literal_of_variable c.inputs) (read.input_names ∙ sym size) ∙ size

  pub outputs-count : length (output_ports c) ≡ length c.outputs
  outputs-count = ports-count c.output_names c.outputs read.output_names

  pub own-short : length (own_outputs c) ≤ length c.outputs
  own-short = omega (arith, new-short (input_ports c) (output_ports c), outputs-count)

  pub ports-short : length (input_ports c ++ own_outputs c) ≤ length c.inputs + length c.outputs
  ports-short = omega (arith, own-short, inputs-count, length-append (input_ports c) (own_outputs c))

  module _ (p : Port) (there : IsThere (input_ports c) (own_outputs c) p) (at : ℕ) (is : at ≡ place_or_end (position (is_port p) (input_ports c ++ own_outputs c))) where
    at_place : (k : ℕ) → position_or_len (is_port p) (input_ports c ++ own_outputs c) ≡ k → k < length (input_ports c ++ own_outputs c) → at ≡ k
    at_place k place low = is ∙ ap (λ j. place_or_end (cond (ltb j (length (input_ports c ++ own_outputs c))) (Some j) None)) place
        ∙ ap (λ t. place_or_end (cond t (Some k) None)) (lt-ltb k (length (input_ports c ++ own_outputs c)) low)

    pub signal_at : IsSignalAt c p at
    signal_at = at_test (has_port (input_ports c) p) refl
      where
        sum : length (input_ports c ++ own_outputs c) ≡ length (input_ports c) + length (own_outputs c)
        sum = length-append (input_ports c) (own_outputs c)

        joined : position_or_len (is_port p) (input_ports c ++ own_outputs c)
            ≡ cond (has_port (input_ports c) p) (position_or_len (is_port p) (input_ports c)) (length (input_ports c) + position_or_len (is_port p) (own_outputs c))
        joined = place-append (is_port p) (input_ports c) (own_outputs c)

        place-of : (xs : List Port) (k : ℕ) → position (is_port p) xs ≡ Some k → position_or_len (is_port p) xs ≡ k
        place-of xs k e = at_low (ltb (position_or_len (is_port p) xs) (length xs)) e
          where
            at_low : (t : Bool) → cond t (Some (position_or_len (is_port p) xs)) None ≡ Some k → position_or_len (is_port p) xs ≡ k
            at_low true g = same_Some _ _ g
            at_low false g = absurd (none-some k g)

        none-of : (xs : List Port) → has_port xs p ≡ false → position (is_port p) xs ≡ None
        none-of xs none = at_found (position (is_port p) xs) refl
          where
            at_found : (found : Option ℕ) → position (is_port p) xs ≡ found → found ≡ None
            at_found None g = refl
            at_found (Some k) g = absurd (both_ways (has_port xs p) none (placed-any (is_port p) xs p k g))

        at_test : (t : Bool) → has_port (input_ports c) p ≡ t → IsSignalAt c p at
        at_test true h =
            let found = place-found (is_port p) (input_ports c) h in
            let place : position_or_len (is_port p) (input_ports c ++ own_outputs c) ≡ found.0 =
            joined ∙ ap (λ t. cond t (position_or_len (is_port p) (input_ports c)) (length (input_ports c) + position_or_len (is_port p) (own_outputs c))) h ∙ place-of (input_ports c) found.0
            found.1.0 in
            let low = found.1.1 in
            let same : at ≡ found.0 = at_place found.0 place (omega (arith, low, sum)) in
            let signal : port_signal c p ≡ found.0 = ap (λ o. elim o [ None ↦ length c.inputs + length c.ands + place_or_end (position (is_port p) (own_outputs c)) | Some input ↦ input ]) found.1.0 in
            (omega (arith, same, low, inputs-count), ((λ below. same ∙ sym signal), (λ past. absurd (omega (arith, past, same, low, inputs-count)))))
        at_test false h =
            let found = place-found (is_port p) (own_outputs c) (or_right (has_port (input_ports c) p) (has_port (own_outputs c) p) h there) in
            let place : position_or_len (is_port p) (input_ports c ++ own_outputs c) ≡ length (input_ports c) + found.0 =
            joined ∙ ap (λ t. cond t (position_or_len (is_port p) (input_ports c)) (length (input_ports c) + position_or_len (is_port p) (own_outputs c))) h ∙ ap (λ k. length (input_ports c) + k)
            (place-of (own_outputs c) found.0 found.1.0) in
            let low = found.1.1 in
            let same : at ≡ length (input_ports c) + found.0 = at_place (length (input_ports c) + found.0) place (omega (arith, low, sum)) in
            let signal : port_signal c p ≡ length c.inputs + length c.ands + found.0 =
            ap (λ o. elim o [ None ↦ length c.inputs + length c.ands + place_or_end (position (is_port p) (own_outputs c)) | Some input ↦ input ]) (none-of (input_ports c) h)
            ∙ ap (λ o. length c.inputs + length c.ands + place_or_end o) found.1.0 in
            (omega (arith, same, low, inputs-count, own-short), ((λ below. absurd (omega (arith, below, same, inputs-count))), (λ past. omega (arith, same, signal, inputs-count))))

pub ports-at : (names : List Bytes) (literals : List ℕ) (i : ℕ) (d : Port) → i < length names → i < length literals → get_or (ports names literals) i d ≡ port (get_or names i []) (get_or literals i 0)
ports-at [] literals i d low short = absurd (omega (arith, low))
ports-at (name ∷ names) [] i d low short = absurd (omega (arith, short))
ports-at (name ∷ names) (literal ∷ literals) zero d low short = refl
ports-at (name ∷ names) (literal ∷ literals) (suc i) d low short = ports-at names literals i d (omega (arith, low)) (omega (arith, short))

-- the place of an output among the inputs and the new ones
pub output-signal : (c : CircuitValue) → IsRead c → (all : List Port) → all ≡ input_ports c ++ own_outputs c → (names : List Bytes) → names ≡ c.output_names → (outputs : List ℕ) → outputs ≡ c.outputs
    → (i : ℕ) → i < length c.outputs → (name : Bytes) → name ≡ get_or names i name → (at : ℕ) → at ≡ place_or_end (position (is_port (port name (get_or outputs i 0))) all) → (d : Port)
    → IsSignalAt c (get_or (output_ports c) i d) at
output-signal c read all is names same outputs equal i low name here at place d =
    let short : i < length c.output_names = omega (arith, low, read.output_names) in
    let p : Port = get_or (output_ports c) i d in
    let named : name ≡ get_or c.output_names i [] = here ∙ ap (λ ns. get_or ns i name) same ∙ get_or_default c.output_names i name [] short in
    let literal : get_or outputs i 0 ≡ get_or c.outputs i 0 = ap (λ ls. get_or ls i 0) equal in
    let port_is : port name (get_or outputs i 0) ≡ p
    = ap (λ n. port n (get_or outputs i 0)) named ∙ ap (port (get_or c.output_names i [])) literal ∙ sym (ports-at c.output_names c.outputs i d short low) in
    let there : IsThere (input_ports c) (own_outputs c) p =
    All-from_recursion (IsThere (input_ports c) (own_outputs c)) (output_ports c) (new_there (input_ports c) (output_ports c)) i d (omega (arith, low, outputs-count c read)) in
    signal_at c read p there at (place ∙ ap (λ q. place_or_end (position (is_port q) all)) port_is ∙ ap (λ ps. place_or_end (position (is_port p) ps)) is)

-- one signal more
pub signals-next : (f : Port → ℕ) (ps : List Port) (i : ℕ) (d : Port) (s : ℕ) (so_far : List ℕ) → i < length ps → s ≡ f (get_or ps i d) → so_far ≡ map f (take i ps)
    → so_far ++ s ∷ [] ≡ map f (take (i + 1) ps)
signals-next f ps i d s so_far low is same =
    ap (λ l. l ++ s ∷ []) same ∙ ap (λ n. map f (take i ps) ++ n ∷ []) is
    ∙ sym (map-append f (take i ps) (get_or ps i d ∷ [])) ∙ ap (map f) (sym (take_more ps i d low))

-- the inputs, and then the outputs that are new
pub ports-of : (c : CircuitValue) → first_repeated (variables c) ≡ None → (start first last : List Port) (in_names out_names : List Bytes) (literals outputs : List ℕ) → start ≡ []
    → in_names ≡ c.input_names
    → literals ≡ map literal_of_variable c.inputs → first ≡ start ++ new_ports start (ports in_names literals) → out_names ≡ c.output_names → outputs ≡ c.outputs
    → last ≡ first ++ new_ports first (ports out_names outputs)
    → last ≡ input_ports c ++ own_outputs c
ports-of c differ start first last in_names out_names literals outputs none ins lits one outs equal two =
    let before : first ≡ input_ports c =
    one ∙ ap (λ l. l ++ new_ports l (ports in_names literals)) none
    ∙ ap (λ ns. new_ports [] (ports ns literals)) ins ∙ ap (λ ls. new_ports [] (ports c.input_names ls)) lits ∙ inputs-new c differ in
    two ∙ ap (λ l. l ++ new_ports l (ports out_names outputs)) before
    ∙ ap (λ ns. input_ports c ++ new_ports (input_ports c) (ports ns outputs)) outs
    ∙ ap (λ ls. input_ports c ++ new_ports (input_ports c) (ports c.output_names ls)) equal
