-- What is read is a small sound net: that of the circuit of the text's lines.
use Rattle.std.proofs.Common.{◌≡◌, ℕ, suc, ◌-◌, ◌/◌, ◌^◌, ◌<◌, ◌≤◌, Bool, true, false, cond, not, ◌==◌, leb, List, [], ◌∷◌, ◌++◌, map, length, codes, decimal, All, Option, Some, None, Result, Ok}
use Rattle.std.proofs.Common.{Err, refl, ap, sym, subst, ◌∙◌, arith}
use Rattle.std.specs.List.{AllByRecursion, list_any}
use Rattle.std.specs.Option.{option_map}
use Rattle.std.proofs.lemmas.Bool.{eqb-false, leb-true, not-false}
use Rattle.std.proofs.lemmas.Fmt.{decimal_nonempty, length-decimal-le}
use Rattle.std.proofs.lemmas.List.{length-map}
use Rattle.std.proofs.lemmas.List.Elements.{All-cons, All-from_recursion, recursion_from_All, All-nil}
use Rattle.std.proofs.lemmas.Option.{none-some}
use Rattle.semantics.specs.declared.mark.Mark.{Mark}
use Rattle.semantics.specs.Texts.{Bytes}
use Rattle.semantics.specs.Net.{NetValue, signal_names, IsNameByte, IsName, IsTable, IsSound, IsSmall, constant_table}
use Rattle.semantics.specs.Refusals.{first_doubled, first_ungrounded, first_limit}
use Rattle.semantics.proofs.Refused.{undoubled, small}
use Rattle.semantics.proofs.NumberedNames.{IsName-numbered}
use Rattle.blif_semantics.proofs.Names.{IsName-from_test}
use Rattle.aiger_semantics.specs.Circuit.{CircuitValue}
use Rattle.aiger_semantics.specs.TextLines.{text_lines}
use Rattle.aiger_semantics.specs.CircuitLines.{Refusal, text_long, twice, undefined, no_output, loop, doubled, limit, and_then, circuit_reading}
use Rattle.aiger_semantics.specs.ReadNet.{variables, signal_of_variable, literal_mark, asked, conjunction_table, and_name, and_table, Port, ports, input_ports, output_ports, own_outputs}
use Rattle.aiger_semantics.specs.ReadNet.{output_table, port_signal, net_of}
use Rattle.aiger_semantics.specs.Reading.{first_repeated, first_undefined, first_loop, operand_tables, unless_refused, sized, named, grounded, with_output, defined, net_reading, aiger_reading}
use Rattle.aiger_semantics.proofs.Each.{each-append}
use Rattle.aiger_semantics.proofs.ReadWired.{new-each, read-acyclic, read-pins, read-outputs}
use Rattle.aiger_semantics.proofs.ReadLines.{err-ok, ok-same, and_then-parts, IsDefinition, IsDrawn, circuit-drawn}

-- ---- the refusals that a circuit passed

parts : {X : Type 0} (o : Option X) (refuse : X → Refusal) (rest : Result NetValue Refusal) (N : NetValue) → unless_refused o refuse rest ≡ Ok N → (o ≡ None) × (rest ≡ Ok N)
parts None refuse rest N e = (refl, e)
parts (Some x) refuse rest N e = absurd (err-ok (refuse x) N e)

parts-if : (t : Bool) (r : Refusal) (rest : Result NetValue Refusal) (N : NetValue) → cond t (Err r) rest ≡ Ok N → (t ≡ false) × (rest ≡ Ok N)
parts-if false r rest N e = (refl, e)
parts-if true r rest N e = absurd (err-ok r N e)

no_loop : {X Y : Type 0} (f : X → Y) (o : Option X) → option_map f o ≡ None → o ≡ None
no_loop f None e = refl
no_loop f (Some x) e = absurd (none-some (f x) (sym e))

-- no refusal holds of the circuit and its net
pub record IsAccepted (c : CircuitValue) : Type 0 where
  pub once : first_repeated (variables c) ≡ None
  pub all_defined : first_undefined c ≡ None
  pub some_output : (length c.outputs == 0) ≡ false
  pub no_loop : first_ungrounded (length c.inputs) (operand_tables c) ≡ None
  pub undoubled : first_doubled (signal_names (net_of c)) ≡ None
  pub within : first_limit (net_of c) ≡ None

pub accepted : (c : CircuitValue) (N : NetValue) → net_reading c ≡ Ok N → IsAccepted c × (net_of c ≡ N)
accepted c N e =
    let once = parts (first_repeated (variables c)) twice (defined c) N e in
    let known = parts (first_undefined c) undefined (with_output c) N once.1 in
    let some = parts-if (length c.outputs == 0) no_output (grounded c) N known.1 in
    let loops = parts (first_loop c) loop (named (net_of c)) N some.1 in
    let names = parts (first_doubled (signal_names (net_of c))) doubled (sized (net_of c)) N loops.1 in
    let sizes = parts (first_limit (net_of c)) limit (Ok (net_of c)) N names.1 in (
      record { once = once.0; all_defined = known.0; some_output = some.0; no_loop = no_loop _ (first_ungrounded (length c.inputs) (operand_tables c)) loops.0; undoubled = names.0; within = sizes.0 },
      ok-same (net_of c) N sizes.1,
    )

-- ---- tables

-- `$a` and a number are a name
pub and-named : (n : ℕ) → n < 2 ^ 64 → IsName (and_name n)
and-named n low =
    let short : IsName (97 ∷ decimal n) = IsName-numbered 97 n (omega arith, omega arith, omega arith) low in
    let some : 0 < length (decimal n) = decimal_nonempty n (omega arith) in
    record {
      not_empty = omega arith;
      short = omega (arith, length-decimal-le 20 n (omega arith) (omega arith) (omega arith));
      printable = All-cons IsNameByte 36 (97 ∷ decimal n) (omega arith, omega arith, omega arith) short.printable;
      ending = λ e.
          let place : suc (suc (length (decimal n))) - 1 ≡ suc (suc (length (decimal n)) - 1) = omega arith in
          short.ending (rw place at e);
    }

constant-formed : (name : Bytes) → IsName name → IsTable (constant_table name false)
constant-formed name is = record { named = is; widths = All-nil (λ (row : List Mark). length row ≡ 0); plane = λ _. refl }

row-formed : (name : Bytes) (pins : List ℕ) (marks : List Mark) → IsName name → length marks ≡ length pins → IsTable (record { name = name; pins = pins; rows = marks ∷ []; plane = true })
row-formed name pins marks is same = record {
  named = is;
  widths = All-cons (λ (row : List Mark). length row ≡ length pins) marks [] same (All-nil (λ (row : List Mark). length row ≡ length pins));
  plane = λ none. absurd (cons-none marks none);
}
  where
    cons-none : (row : List Mark) → row ∷ [] ≡ [] → ⊥
    cons-none row none = omega (arith, ap length none)

conjunction-formed : (D : List ℕ) (name : Bytes) (literals : List ℕ) → IsName name → IsTable (conjunction_table D name literals)
conjunction-formed D name literals is = at_test (list_any (λ l. l == 0) literals)
  where
    at_test : (t : Bool)
        → IsTable
        (cond t (constant_table name false)
        (record { name = name; pins = map (λ l. signal_of_variable D (l / 2)) (asked literals); rows = map literal_mark (asked literals) ∷ []; plane = true }))
    at_test true = constant-formed name is
    at_test false =
        row-formed name (map (λ l. signal_of_variable D (l / 2)) (asked literals)) (map literal_mark (asked literals)) is
        (length-map (asked literals) literal_mark ∙ sym (length-map (asked literals) (λ l. signal_of_variable D (l / 2))))

mapped : {X Y : Type 0} (f : X → Y) (P : Y → Type 0) (Q : X → Type 0) → ((x : X) → Q x → P (f x)) → (xs : List X) → AllByRecursion Q xs → AllByRecursion P (map f xs)
mapped f P Q each [] h = tt
mapped f P Q each (x ∷ xs) h = (each x h.0, mapped f P Q each xs h.1)

pub ports-named : (names : List Bytes) (literals : List ℕ) → AllByRecursion IsName names → AllByRecursion (λ (p : Port). IsName p.name) (ports names literals)
ports-named [] literals h = tt
ports-named (name ∷ names) [] h = tt
ports-named (name ∷ names) (literal ∷ literals) h = (h.0, ports-named names literals h.1)

pub ports-count : (names : List Bytes) (literals : List ℕ) → length names ≡ length literals → length (ports names literals) ≡ length literals
ports-count [] [] same = refl
ports-count [] (l ∷ ls) same = absurd (omega (arith, same))
ports-count (name ∷ names) [] same = refl
ports-count (name ∷ names) (l ∷ ls) same = ap suc (ports-count names ls (omega (arith, same)))

tables-formed : (c : CircuitValue) → IsDrawn c → All IsTable (net_of c).tables
unfolding net_of
tables-formed c drawn =
    let D = variables c in
    All-from_recursion IsTable (map (and_table D) c.ands ++ map (output_table D) (own_outputs c))
    (each-append IsTable (map (and_table D) c.ands) (map (output_table D) (own_outputs c))
    (mapped (and_table D) IsTable IsDefinition (λ a h. conjunction-formed D (and_name a.variable) (a.left ∷ a.right ∷ []) (and-named a.variable h.low)) c.ands drawn.lines_define)
    (mapped (output_table D) IsTable (λ (p : Port). IsName p.name) (λ p h. conjunction-formed D p.name (p.literal ∷ []) h) (own_outputs c)
    (new-each (λ (p : Port). IsName p.name) (input_ports c) (output_ports c) (ports-named c.output_names c.outputs (recursion_from_All IsName c.output_names drawn.outputs_named)))))

pub circuit-sound : (c : CircuitValue) → IsDrawn c → IsAccepted c → IsSound (net_of c)
circuit-sound c drawn a = record {
  model_named = unfold net_of in IsName-from_test (codes "top") refl;
  inputs_named = unfold net_of in drawn.inputs_named;
  tables_formed = tables-formed c drawn;
  names_differ = undoubled (signal_names (net_of c)) a.undoubled;
  has_output = unfold net_of in
      (let size = length-map (output_ports c) (port_signal c) in
      let count = ports-count c.output_names c.outputs drawn.output_count in
      let some = eqb-false (length c.outputs) 0 a.some_output in
      omega (arith, size, count, some));
  outputs_are_signals = read-outputs c drawn.input_count a.all_defined;
  pins_are_signals = read-pins c drawn.input_count a.all_defined;
  acyclic = read-acyclic c drawn.input_count a.all_defined a.no_loop;
}

-- the circuit of what is read
pub read-circuit : (text : Bytes) (most : ℕ) (N : NetValue) → aiger_reading text most ≡ Ok N
    → (length text ≤ most) × ((c : CircuitValue) × ((circuit_reading (text_lines text) ≡ Ok c) × ((IsDrawn c × IsAccepted c) × (net_of c ≡ N))))
unfolding aiger_reading
read-circuit text most N e =
    let long = parts-if (not (leb (length text) most)) text_long (and_then (circuit_reading (text_lines text)) net_reading) N e in
    let read = and_then-parts (circuit_reading (text_lines text)) net_reading N long.1 in
    let is = accepted read.0 N read.1.1 in
    (leb-true (length text) most (not-false (leb (length text) most) long.0), (read.0, (read.1.0, ((circuit-drawn (text_lines text) read.0 read.1.0, is.0), is.1))))

pub read-sound : (text : Bytes) (most : ℕ) (N : NetValue) → aiger_reading text most ≡ Ok N → IsSound N
read-sound text most N e = let read = (read-circuit text most N e).1 in subst IsSound read.1.1.1 (circuit-sound read.0 read.1.1.0.0 read.1.1.0.1)

pub read-small : (text : Bytes) (most : ℕ) (N : NetValue) → aiger_reading text most ≡ Ok N → IsSmall N
read-small text most N e = let read = (read-circuit text most N e).1 in subst IsSmall read.1.1.1 (small (net_of read.0) read.1.1.0.1.within)
