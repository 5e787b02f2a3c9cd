-- Worked examples, computed from the definitions.
use Rattle.std.specs.Prelude.{◌≡◌, ℕ, Bool, true, false, List, [], ◌∷◌, ◌++◌, map, codes, Option, Some, None}
use Rattle.std.specs.Prelude.{Result, Ok, Err, flat_map, replicate}
use Rattle.semantics.specs.declared.limits.TheConstants.{MOST_INPUT_BYTES}
use Rattle.semantics.specs.declared.mark.Mark.{Mark}
use Rattle.semantics.specs.declared.mark.Mark.TheVariants.{Zero, One, Dash}
use Rattle.semantics.specs.declared.which.Which.TheVariants as which
use Rattle.semantics.specs.Texts.{Bytes}
use Rattle.semantics.specs.Net.{NetValue, TableValue, literal_count}
use Rattle.semantics.specs.Value.{outputs_of}
use Rattle.semantics.specs.Vectors.{all_vectors}
use Rattle.blif_semantics.specs.Statements.{stray_row, after_end, bad_name}
use Rattle.blif_semantics.specs.Reading.{text_long, wrong_line, doubled, no_output, undriven, cycle, limit}
use Rattle.blif_semantics.specs.Examples.{lf}
use Rattle.hierarchy_semantics.specs.Models.{Hierarchy}
use Rattle.hierarchy_semantics.specs.Refusals.{HierRefusal, line, same_model, no_model_named, recursive}
use Rattle.hierarchy_semantics.specs.Refusals.{ports, formal, unbound, part, taken, flat}
use Rattle.hierarchy_semantics.specs.Places.{place_value}
use Rattle.hierarchy_semantics.specs.Flat.{flattened}
use Rattle.hierarchy_semantics.specs.Reading.{hier_reading}

abbrev pub half_adder_lines : List Bytes
half_adder_lines =
    codes ".model ha" ∷ codes ".inputs a b" ∷ codes ".outputs s c" ∷ codes ".names a b s" ∷ codes "10 1"
    ∷ codes "01 1" ∷ codes ".names a b c" ∷ codes "11 1" ∷ codes ".end" ∷ []

-- a full adder of two half adders, with these lines in the place of its first `.subckt` line
abbrev pub full_adder_lines : List Bytes → List Bytes
full_adder_lines first =
    codes ".model fa" ∷ codes ".inputs a b c" ∷ codes ".outputs s co"
    ∷ (first ++ codes ".subckt ha a=t b=c s=s c=v" ∷ codes ".names u v co" ∷ codes "1- 1" ∷ codes "-1 1"
    ∷ codes ".end" ∷ [])

abbrev pub full_adder : Bytes
full_adder = lf (full_adder_lines (codes ".subckt ha a=a b=b s=t c=u" ∷ []) ++ half_adder_lines)

-- the half adder uses itself, and the full adder, which stands first, uses the half adder
abbrev pub in_a_circle : Bytes
in_a_circle =
    lf (full_adder_lines (codes ".subckt ha a=a b=b s=t c=u" ∷ []) ++ codes ".model ha" ∷ codes ".inputs a b"
    ∷ codes ".outputs s c" ∷ codes ".names a b s" ∷ codes "10 1" ∷ codes "01 1"
    ∷ codes ".names a b c" ∷ codes "11 1" ∷ codes ".subckt ha a=a b=b s=z" ∷ codes ".end" ∷ [])

abbrev pub refused : Result Hierarchy HierRefusal → Option HierRefusal
refused (Ok h) = None
refused (Err r) = Some r

abbrev pub refusal_of : Bytes → Option HierRefusal
refusal_of text = refused (hier_reading text MOST_INPUT_BYTES)

-- the flat net of a text, or its refusal
abbrev pub flat_of : Result Hierarchy HierRefusal → Result NetValue HierRefusal
flat_of (Ok h) = flattened h
flat_of (Err r) = Err r

abbrev pub flat_reading : Bytes → Result NetValue HierRefusal
flat_reading text = flat_of (hier_reading text MOST_INPUT_BYTES)

abbrev pub table_of : Bytes → List ℕ → List (List Mark) → TableValue
table_of name pins rows = record { name = name; pins = pins; rows = rows; plane = true }

abbrev pub xor_table : Bytes → ℕ → ℕ → TableValue
xor_table name a b = table_of name (a ∷ b ∷ []) ((One ∷ Zero ∷ []) ∷ (Zero ∷ One ∷ []) ∷ [])

abbrev pub and_table : Bytes → ℕ → ℕ → TableValue
and_table name a b = table_of name (a ∷ b ∷ []) ((One ∷ One ∷ []) ∷ [])

abbrev pub buffer : Bytes → ℕ → TableValue
buffer name a = table_of name (a ∷ []) ((One ∷ []) ∷ [])

abbrev pub flat_full_adder : NetValue
flat_full_adder = record {
  model = codes "fa";
  inputs = codes "a" ∷ codes "b" ∷ codes "c" ∷ [];
  tables =
      xor_table (codes "$u0") 0 1
      ∷ and_table (codes "$u1") 0 1
      ∷ buffer (codes "t") 3
      ∷ buffer (codes "u") 4
      ∷ xor_table (codes "$u4") 5 2
      ∷ and_table (codes "$u5") 5 2
      ∷ buffer (codes "s") 7
      ∷ buffer (codes "v") 8
      ∷ table_of (codes "co") (6 ∷ 10 ∷ []) ((One ∷ Dash ∷ []) ∷ (Dash ∷ One ∷ []) ∷ [])
      ∷ [];
  outputs = 9 ∷ 11 ∷ [];
}

-- the values of the main model's names after `steps` steps, at each input vector in counting order
abbrev pub values_in : Result Hierarchy HierRefusal → ℕ → ℕ → List Bytes → List (List (Option Bool))
values_in (Ok h) steps inputs names = map (λ x. map (place_value h x steps []) names) (all_vectors inputs)
values_in (Err r) steps inputs names = []

abbrev pub bits : Bool → Bool → List (Option Bool)
bits s c = Some s ∷ Some c ∷ []

abbrev pub word : Bool → Bool → List Bool
word s c = s ∷ c ∷ []

pub record FullAdderExamples : Type 0 where
  pub flat : flat_reading full_adder ≡ Ok flat_full_adder
  pub literals : literal_count flat_full_adder ≡ 18
  pub not_bound : refusal_of
      (lf (full_adder_lines (codes ".subckt ha a=a s=t c=u" ∷ []) ++ half_adder_lines))
      ≡ Some (unbound 4 (codes "b"))
  pub not_there : refusal_of
      (lf (full_adder_lines (codes ".subckt hb a=a b=b s=t c=u" ∷ []) ++ half_adder_lines))
      ≡ Some (no_model_named (codes "hb"))
  pub circle : refusal_of in_a_circle ≡ Some (recursive (codes "fa"))
  -- the sum and the carry of three bits
  pub values :
      values_in (hier_reading full_adder MOST_INPUT_BYTES) 8 3 (codes "s" ∷ codes "co" ∷ [])
      ≡ bits false false ∷ bits true false ∷ bits true false ∷ bits false true ∷ bits true false
      ∷ bits false true ∷ bits false true ∷ bits true true ∷ []
  -- too few steps give no value
  pub few_steps : values_in (hier_reading full_adder MOST_INPUT_BYTES) 2 0 (codes "s" ∷ codes "a" ∷ [])
      ≡ (None ∷ Some false ∷ []) ∷ []
  pub outputs : map (outputs_of flat_full_adder) (all_vectors 3)
      ≡ word false false ∷ word true false ∷ word true false ∷ word false true ∷ word true false
      ∷ word false true ∷ word false true ∷ word true true ∷ []

-- a main model with one input and one output, and then these lines
abbrev pub main_with : List Bytes → Bytes
main_with lines = lf (codes ".model m" ∷ codes ".inputs a" ∷ codes ".outputs y" ∷ lines)

-- a model that turns its input over
abbrev pub inverter : List Bytes
inverter = codes ".model inv" ∷ codes ".inputs p" ∷ codes ".outputs q" ∷ codes ".names p q" ∷ codes "0 1" ∷ []

-- a table that reads itself, and 65 outputs
abbrev pub many_outputs : List Bytes
many_outputs = (codes ".outputs" ++ flat_map (λ (word : Bytes). 32 ∷ word) (replicate 65 (codes "y")))
    ∷ codes ".names y y" ∷ codes "1 1" ∷ []

abbrev pub at : ℕ → Bytes → Option HierRefusal
at number name = Some (formal number name)

pub record HierRefusalExamples : Type 0 where
  pub too_long : refused (hier_reading (codes ".end") 3) ≡ Some (line text_long)
  pub empty_text : refusal_of [] ≡ Some (part (codes "top") no_output)
  pub not_a_name : refusal_of (main_with ((codes ".subckt inv p=") ∷ []))
      ≡ Some (line (wrong_line 4 bad_name))
  pub without_equals : refusal_of (main_with (codes ".subckt inv pa" ∷ []))
      ≡ Some (line (wrong_line 4 bad_name))
  pub without_formal : refusal_of (main_with (codes ".subckt inv =a" ∷ []))
      ≡ Some (line (wrong_line 4 bad_name))
  pub without_model : refusal_of (main_with (codes ".subckt" ∷ [])) ≡ Some (line (wrong_line 4 bad_name))
  pub row_behind_a_use : refusal_of (main_with (codes ".subckt inv" ∷ codes "1 1" ∷ []))
      ≡ Some (line (wrong_line 5 stray_row))
  pub line_behind_end : refusal_of (main_with (codes ".end" ∷ codes ".subckt inv" ∷ []))
      ≡ Some (line (wrong_line 5 after_end))
  pub model_behind_end_without_name : refusal_of (main_with (codes ".end" ∷ codes ".model" ∷ []))
      ≡ Some (line (wrong_line 5 bad_name))
  pub same_name : refusal_of (main_with (inverter ++ inverter)) ≡ Some (same_model (codes "inv"))
  pub first_model_is_top : refusal_of (lf (codes ".end" ∷ inverter)) ≡ Some (part (codes "top") no_output)
  pub uses_itself : refusal_of (main_with (codes ".subckt m a=a y=y" ∷ [])) ≡ Some (recursive (codes "m"))
  pub port_twice :
      refusal_of (main_with (codes ".subckt x" ∷ codes ".model x" ∷ codes ".outputs a b"
      ∷ codes ".inputs b a" ∷ [])) ≡ Some (ports (codes "x") (codes "b"))
  pub port_twice_unused : refusal_of
      (main_with (codes ".names y" ∷ codes ".model x" ∷ codes ".inputs b" ∷ codes ".outputs b" ∷ [])) ≡ None
  pub no_port : refusal_of (main_with (codes ".subckt inv p=a r=y" ∷ inverter)) ≡ at 4 (codes "r")
  pub bound_twice : refusal_of (main_with (codes ".subckt inv p=a q=y p=y" ∷ inverter)) ≡ at 4 (codes "p")
  pub not_bound : refusal_of (main_with (codes ".subckt inv q=y" ∷ inverter)) ≡ Some (unbound 4 (codes "p"))
  pub not_split_again : refusal_of (main_with (codes ".subckt inv p=a q==" ∷ inverter))
      ≡ Some (part (codes "m") (undriven (codes "y")))
  pub driven_twice : refusal_of (main_with (codes ".subckt inv p=a q=a" ∷ inverter))
      ≡ Some (part (codes "m") (doubled (codes "a")))
  pub actual_not_driven : refusal_of (main_with (codes ".subckt inv p=b q=y" ∷ inverter))
      ≡ Some (part (codes "m") (undriven (codes "b")))
  pub in_an_unused_model : refusal_of (main_with (codes ".names y" ∷ codes ".model x" ∷ []))
      ≡ Some (part (codes "x") no_output)
  pub name_taken : refusal_of (main_with (codes ".names y" ∷ codes ".names $u07" ∷ []))
      ≡ Some (taken (codes "$u07"))
  pub name_not_taken : refusal_of
      (main_with (codes ".names y" ∷ codes ".names $u" ∷ codes ".names $u7a" ∷ [])) ≡ None
  pub name_taken_inside :
      refusal_of (main_with (codes ".subckt x y=y" ∷ codes ".model x" ∷ codes ".outputs y" ∷ codes ".names y"
      ∷ codes ".names $u0" ∷ [])) ≡ None
  pub output_left_unbound : flat_reading (main_with (codes ".names y" ∷ codes ".subckt inv p=a" ∷ inverter))
      ≡ Ok (record {
        model = codes "m";
        inputs = codes "a" ∷ [];
        tables = table_of (codes "y") [] [] ∷ table_of (codes "$u1") (0 ∷ []) ((Zero ∷ []) ∷ []) ∷ [];
        outputs = 1 ∷ [];
      })
  pub cycle_through_a_use : flat_reading (main_with (codes ".subckt inv p=y q=y" ∷ inverter))
      ≡ Err (flat (cycle (codes "$u0")))
  pub limit_before_cycle : flat_reading (lf (codes ".model m" ∷ many_outputs))
      ≡ Err (flat (limit which.Outputs))
