-- Worked examples, computed from the definitions.
use Rattle.std.specs.Prelude.{◌≡◌, ℕ, true, false, List, [], ◌∷◌, ◌++◌, map, flat_map, length, replicate}
use Rattle.std.specs.Prelude.{slice_index_or, ◌^◌, ◌-◌, ℤ, pos, neg_ℤ, codes, Contains, Some, None}
use Rattle.semantics.specs.declared.mark.Mark.TheVariants.{Zero, One, Dash}
use Rattle.semantics.specs.declared.which.Which.TheVariants as which
use Rattle.semantics.specs.Texts.{Bytes, bits_word}
use Rattle.semantics.specs.Net.{TableValue, NetValue, table_at, table_count, literal_count, constant_table}
use Rattle.semantics.specs.Net.{IsName, IsAcyclic}
use Rattle.semantics.specs.Value.{value_of, outputs_of}
use Rattle.semantics.specs.Replaced.{replaced, with_table}
use Rattle.semantics.specs.Dependence.{DependsOn}
use Rattle.semantics.specs.Embedding.{IsEmbedded}
use Rattle.semantics.specs.Copies.{IsCopiedBehind}
use Rattle.semantics.specs.Renamed.{renamed, redirect, without}
use Rattle.semantics.specs.Refusals.{first_doubled, first_ungrounded, first_limit, doubled, no_output}
use Rattle.semantics.specs.Refusals.{undriven, cycle, limit, net_refusal}
use Rattle.semantics.specs.declared.metric.Kind.TheVariants.{Abs, Rel, Ham, Sabs}
use Rattle.semantics.specs.declared.limits.TheConstants.{LARGEST_ERROR}
use Rattle.semantics.specs.Error.{signed_number_of, sign_flipped, greatest_error, one_word, in_words}
use Rattle.semantics.specs.Error.{words_of, error_of, net_error}
use Rattle.semantics.specs.Vectors.{all_vectors}
use Rattle.semantics.specs.Blif.{blif_text}

abbrev pub text : List (List ℕ) → Bytes
text lines = flat_map (λ line. line ++ 10 ∷ []) lines

-- the half adder: s is the exclusive or of a and b, and c the conjunction
abbrev pub half_adder : NetValue
half_adder = record {
  model = codes "ha";
  inputs = codes "a" ∷ codes "b" ∷ [];
  tables =
      record {
        name = codes "s";
        pins = 0 ∷ 1 ∷ [];
        rows = (One ∷ Zero ∷ []) ∷ (Zero ∷ One ∷ []) ∷ [];
        plane = true;
      }
      ∷ record { name = codes "c"; pins = 0 ∷ 1 ∷ []; rows = (One ∷ One ∷ []) ∷ []; plane = true }
      ∷ [];
  outputs = 2 ∷ 3 ∷ [];
}

-- two inverters, the reader before the table that it reads
abbrev pub out_of_order : NetValue
out_of_order = record {
  model = codes "k";
  inputs = codes "a" ∷ [];
  tables =
      record { name = codes "z"; pins = 2 ∷ []; rows = (Zero ∷ []) ∷ []; plane = true }
      ∷ record { name = codes "y"; pins = 0 ∷ []; rows = (One ∷ []) ∷ []; plane = false }
      ∷ [];
  outputs = 1 ∷ 2 ∷ 0 ∷ [];
}

-- no inputs, and one constant
abbrev pub constant_one : NetValue
constant_one = record {
  model = codes "k";
  inputs = [];
  tables = constant_table (codes "y") true ∷ [];
  outputs = 0 ∷ [];
}

-- the half adder with a constant in the place of one table, and of both
abbrev pub constant_sum : NetValue
constant_sum = with_table half_adder 0 (constant_table (codes "s") false)

abbrev pub both_constant : NetValue
both_constant = with_table constant_sum 1 (constant_table (codes "c") false)

-- no tables, and an output that is an input
abbrev pub wire : NetValue
wire = record { model = codes "w"; inputs = codes "a" ∷ []; tables = []; outputs = 0 ∷ [] }

-- the disjunction twice: once by its zeros, or as a copy of the later table
abbrev pub or_twice : TableValue → NetValue
or_twice first = record {
  model = codes "m";
  inputs = codes "a" ∷ codes "b" ∷ [];
  tables =
      first
      ∷ record {
        name = codes "z";
        pins = 0 ∷ 1 ∷ [];
        rows = (One ∷ Dash ∷ []) ∷ (Dash ∷ One ∷ []) ∷ [];
        plane = true;
      }
      ∷ [];
  outputs = 2 ∷ 3 ∷ [];
}

abbrev pub by_zeros : TableValue
by_zeros = record { name = codes "y"; pins = 0 ∷ 1 ∷ []; rows = (Zero ∷ Zero ∷ []) ∷ []; plane = false }

abbrev pub by_copy : TableValue
by_copy = record { name = codes "y"; pins = 3 ∷ []; rows = (One ∷ []) ∷ []; plane = true }

pub record ValueExamples : Type 0 where
  pub half_adder_values :
      map (outputs_of half_adder) (all_vectors 2)
      ≡ (false ∷ false ∷ []) ∷ (true ∷ false ∷ []) ∷ (true ∷ false ∷ []) ∷ (false ∷ true ∷ []) ∷ []
  pub out_of_order_values : map (outputs_of out_of_order) (all_vectors 1)
      ≡ (false ∷ true ∷ false ∷ []) ∷ (true ∷ false ∷ true ∷ []) ∷ []
  pub wire_values : map (outputs_of wire) (all_vectors 1) ≡ (false ∷ []) ∷ (true ∷ []) ∷ []
  pub constant_values : map (outputs_of constant_one) (all_vectors 0) ≡ (true ∷ []) ∷ []
  pub counts : (table_count half_adder ≡ 2) × (literal_count half_adder ≡ 6)
  pub counts_after : (literal_count constant_sum ≡ 2) × (literal_count both_constant ≡ 0)
      × (table_count both_constant ≡ 2)
  pub or_literals : (literal_count (or_twice by_zeros) ≡ 4) × (literal_count (or_twice by_copy) ≡ 3)

pub record ErrorExamples : Type 0 where
  pub three_and_two :
      (error_of (one_word Abs) (true ∷ true ∷ []) (false ∷ true ∷ []) ≡ 1)
      × (error_of (one_word Ham) (true ∷ true ∷ []) (false ∷ true ∷ []) ≡ 1)
      × (error_of (one_word Rel) (true ∷ true ∷ []) (false ∷ true ∷ []) ≡ 333334)
  pub nothing_and_three :
      (error_of (one_word Abs) (false ∷ false ∷ []) (true ∷ true ∷ []) ≡ 3)
      × (error_of (one_word Ham) (false ∷ false ∷ []) (true ∷ true ∷ []) ≡ 2)
      × (error_of (one_word Rel) (false ∷ false ∷ []) (true ∷ true ∷ []) ≡ 3000000)
  pub equal :
      (error_of (one_word Abs) (true ∷ true ∷ []) (true ∷ true ∷ []) ≡ 0)
      × (error_of (one_word Ham) (true ∷ true ∷ []) (true ∷ true ∷ []) ≡ 0)
      × (error_of (one_word Rel) (true ∷ true ∷ []) (true ∷ true ∷ []) ≡ 0)
  pub largest :
      (error_of (one_word Abs) (replicate 64 false) (replicate 64 true) ≡ 18446744073709551615)
      × (error_of (one_word Ham) (replicate 64 false) (replicate 64 true) ≡ 64)
      × (error_of (one_word Rel) (replicate 64 false) (replicate 64 true) ≡ 18446744073709551615000000)
  pub unchanged : map (net_error (one_word Abs) half_adder half_adder) (all_vectors 2) ≡ 0 ∷ 0 ∷ 0 ∷ 0 ∷ []
  pub same_or : map (net_error (one_word Abs) (or_twice by_zeros) (or_twice by_copy)) (all_vectors 2)
      ≡ 0 ∷ 0 ∷ 0 ∷ 0 ∷ []
  pub other_metrics :
      (map (net_error (one_word Ham) half_adder both_constant) (all_vectors 2) ≡ 0 ∷ 1 ∷ 1 ∷ 1 ∷ [])
      × (map (net_error (one_word Rel) half_adder both_constant) (all_vectors 2)
      ≡ 0 ∷ 1000000 ∷ 1000000 ∷ 1000000 ∷ [])
  pub sum_is_constant :
      map (net_error (one_word Abs) half_adder constant_sum) (all_vectors 2) ≡ 0 ∷ 1 ∷ 1 ∷ 0 ∷ []
  pub carry_too :
      map (net_error (one_word Abs) half_adder both_constant) (all_vectors 2) ≡ 0 ∷ 1 ∷ 1 ∷ 2 ∷ []
  pub carry_to_one :
      map (net_error (one_word Abs) half_adder (with_table constant_sum 1 (constant_table (codes "c") true)))
      (all_vectors 2)
      ≡ 2 ∷ 1 ∷ 1 ∷ 0 ∷ []

abbrev pub buffer : Bytes → ℕ → TableValue
buffer name s = record { name = name; pins = s ∷ []; rows = (One ∷ []) ∷ []; plane = true }

-- Outputs that are cut into words. The exact outputs 1101 and the approximate ones 0101, bit 0 first: in
-- words of two 3 and 2 against 2 and 2, in words of three 3 and 1 against 2 and 1. The exact outputs 0010 and
-- the approximate ones 0001: as one word 4 against 8, in words of two 0 and 1 against 0 and 2 or, with signs,
-- 0 and 1 against 0 and -2.
pub record WordExamples : Type 0 where
  pub words : (words_of (in_words Abs 2) (true ∷ true ∷ false ∷ true ∷ [])
      ≡ (true ∷ true ∷ []) ∷ (false ∷ true ∷ []) ∷ [])
      × (words_of (in_words Abs 3) (true ∷ true ∷ false ∷ true ∷ [])
      ≡ (true ∷ true ∷ false ∷ []) ∷ (true ∷ []) ∷ [])
      × (words_of (in_words Abs 1) (true ∷ false ∷ []) ≡ (true ∷ []) ∷ (false ∷ []) ∷ [])
      × (words_of (one_word Abs) (true ∷ false ∷ []) ≡ (true ∷ false ∷ []) ∷ [])
  pub none : (words_of (in_words Abs 2) [] ≡ []) × (words_of (one_word Abs) [] ≡ [])
      × (error_of (in_words Abs 2) [] [] ≡ 0)
  pub in_twos : let e = true ∷ true ∷ false ∷ true ∷ [] in let a = false ∷ true ∷ false ∷ true ∷ [] in
      (error_of (in_words Abs 2) e a ≡ 1) × (error_of (in_words Ham 2) e a ≡ 1)
      × (error_of (in_words Rel 2) e a ≡ 333334)
  pub in_threes : let e = true ∷ true ∷ false ∷ true ∷ [] in let a = false ∷ true ∷ false ∷ true ∷ [] in
      error_of (in_words Abs 3) e a ≡ 1
  -- the last word, of one output, counts
  pub shorter : let e = true ∷ true ∷ false ∷ true ∷ [] in let a = true ∷ true ∷ false ∷ false ∷ [] in
      (error_of (in_words Abs 3) e a ≡ 1) × (error_of (one_word Abs) e a ≡ 8)
  pub as_one_word : let e = false ∷ false ∷ true ∷ false ∷ [] in let a = false ∷ false ∷ false ∷ true ∷ [] in
      (error_of (one_word Abs) e a ≡ 4) × (error_of (in_words Abs 4) e a ≡ 4)
      × (error_of (in_words Abs 64) e a ≡ 4)
  pub as_two_words : let e = false ∷ false ∷ true ∷ false ∷ [] in let a = false ∷ false ∷ false ∷ true ∷ [] in
      (error_of (in_words Abs 2) e a ≡ 1) × (error_of (in_words Rel 2) e a ≡ 1000000)
      × (error_of (in_words Sabs 2) e a ≡ 3)
  -- each output is a word of its own: the error is 1 where some output differs
  pub in_bits : let e = true ∷ false ∷ true ∷ [] in let a = false ∷ true ∷ true ∷ [] in
      (error_of (in_words Abs 1) e a ≡ 1) × (error_of (in_words Ham 1) e a ≡ 1)
      × (error_of (one_word Ham) e a ≡ 2)
  pub two_outputs : (map (net_error (in_words Abs 1) half_adder both_constant) (all_vectors 2)
      ≡ 0 ∷ 1 ∷ 1 ∷ 1 ∷ [])
      × (map (net_error (in_words Abs 2) half_adder both_constant) (all_vectors 2) ≡ 0 ∷ 1 ∷ 1 ∷ 2 ∷ [])

-- the number -n
abbrev pub minus : ℕ → ℤ
minus n = neg_ℤ (pos n)

pub record SignedExamples : Type 0 where
  pub none : signed_number_of [] ≡ pos 0
  pub one_bit : map signed_number_of (all_vectors 1) ≡ pos 0 ∷ minus 1 ∷ []
  -- the outputs 00, 10, 01 and 11, bit 0 first
  pub two_bits : map signed_number_of (all_vectors 2) ≡ pos 0 ∷ pos 1 ∷ minus 2 ∷ minus 1 ∷ []
  pub ends : (signed_number_of (replicate 7 true ++ false ∷ []) ≡ pos 127)
      × (signed_number_of (replicate 7 false ++ true ∷ []) ≡ minus 128)
  pub flipped : map sign_flipped (all_vectors 2)
      ≡ (false ∷ true ∷ []) ∷ (true ∷ true ∷ []) ∷ (false ∷ false ∷ []) ∷ (true ∷ false ∷ []) ∷ []
  pub flipped_none : sign_flipped [] ≡ []
  -- -2 for 1, and 0 for -1
  pub two_against_one : error_of (one_word Sabs) (false ∷ true ∷ []) (true ∷ false ∷ []) ≡ 3
  pub one_against_none : error_of (one_word Sabs) (true ∷ []) (false ∷ []) ≡ 1
  pub no_bits : error_of (one_word Sabs) [] [] ≡ 0
  pub largest : error_of (one_word Sabs) (replicate 63 true ++ false ∷ []) (replicate 63 false ++ true ∷ [])
      ≡ 18446744073709551615
  pub sum_is_constant :
      map (net_error (one_word Sabs) half_adder constant_sum) (all_vectors 2) ≡ 0 ∷ 1 ∷ 1 ∷ 0 ∷ []
  pub carry_too :
      map (net_error (one_word Sabs) half_adder both_constant) (all_vectors 2) ≡ 0 ∷ 1 ∷ 1 ∷ 2 ∷ []
  pub carry_to_one :
      map (net_error (one_word Sabs) half_adder (with_table half_adder 1 (constant_table (codes "c") true)))
      (all_vectors 2) ≡ 2 ∷ 2 ∷ 2 ∷ 0 ∷ []
  -- the sum 0, and the carry as b or as a, which is -2 in the place of 1
  pub carry_as_b : map (net_error (one_word Sabs) half_adder (with_table constant_sum 1 (buffer (codes "c") 1)))
      (all_vectors 2) ≡ 0 ∷ 1 ∷ 3 ∷ 0 ∷ []
  pub carry_as_a : map (net_error (one_word Sabs) half_adder (with_table constant_sum 1 (buffer (codes "c") 0)))
      (all_vectors 2) ≡ 0 ∷ 3 ∷ 1 ∷ 0 ∷ []

pub record TextExamples : Type 0 where
  pub half_adder_text :
      blif_text half_adder
      ≡ text (codes ".model ha" ∷ codes ".inputs a b" ∷ codes ".outputs s c" ∷ codes ".names a b s"
      ∷ codes "10 1"
      ∷ codes "01 1" ∷ codes ".names a b c" ∷ codes "11 1" ∷ codes ".end" ∷ [])
  pub half_adder_length : length (blif_text half_adder) ≡ 81
  pub lengths : (length (blif_text both_constant) ≡ 58) × (length (blif_text constant_sum) ≡ 67)
  pub both_constant_text :
      blif_text both_constant
      ≡ text (codes ".model ha" ∷ codes ".inputs a b" ∷ codes ".outputs s c" ∷ codes ".names s"
      ∷ codes ".names c" ∷ codes ".end" ∷ [])
  pub wire_text : blif_text wire
      ≡ text (codes ".model w" ∷ codes ".inputs a" ∷ codes ".outputs a" ∷ codes ".end" ∷ [])
  pub constant_text :
      blif_text constant_one
      ≡ text (codes ".model k" ∷ codes ".inputs" ∷ codes ".outputs y" ∷ codes ".names y" ∷ codes "1"
      ∷ codes ".end" ∷ [])
  pub planes :
      blif_text out_of_order
      ≡ text (codes ".model k" ∷ codes ".inputs a" ∷ codes ".outputs z y a" ∷ codes ".names y z" ∷ codes "0 1"
      ∷ codes ".names a y" ∷ codes "1 0" ∷ codes ".end" ∷ [])

-- the values of a signal at all vectors in counting order, as a word
abbrev pub truth_table : ℕ → List TableValue → ℕ → Bytes
truth_table n tables s = bits_word (map (λ x. value_of n tables x s) (all_vectors n))

-- the half adder of inputs 2 and 0, with its tables in the other order and an inverter between them; and
-- where the half adder's signals stand there
abbrev pub half_adder_within : List TableValue
half_adder_within =
    record { name = codes "q"; pins = 2 ∷ 0 ∷ []; rows = (One ∷ One ∷ []) ∷ []; plane = true }
    ∷ record { name = codes "r"; pins = 3 ∷ []; rows = (Zero ∷ []) ∷ []; plane = true }
    ∷ record {
      name = codes "p";
      pins = 2 ∷ 0 ∷ [];
      rows = (One ∷ Zero ∷ []) ∷ (Zero ∷ One ∷ []) ∷ [];
      plane = true;
    }
    ∷ []

abbrev pub place_within : ℕ → ℕ
place_within s = slice_index_or (2 ∷ 0 ∷ 5 ∷ 3 ∷ []) s 0

-- the half adder again, of the sum of the first half adder and input 2: behind the first half adder it makes
-- the sum of three bits
abbrev pub name_behind : ℕ → ℕ
name_behind s = slice_index_or (3 ∷ 2 ∷ 5 ∷ 6 ∷ []) s 0

abbrev pub half_adder_behind : List TableValue
half_adder_behind = map (renamed name_behind) half_adder.tables

-- a buffer, an inverter of it and a reader of the inverter; then each reader of the buffer reads the input;
-- and then the buffer is left out
abbrev pub buffered : List TableValue
buffered =
    buffer (codes "y") 0
    ∷ record { name = codes "z"; pins = 1 ∷ []; rows = (Zero ∷ []) ∷ []; plane = true }
    ∷ record { name = codes "w"; pins = 2 ∷ 0 ∷ []; rows = (Zero ∷ One ∷ []) ∷ []; plane = true }
    ∷ []

abbrev pub past_buffer : List TableValue
past_buffer = map (renamed (redirect 1 0)) buffered

abbrev pub without_buffer : List TableValue
without_buffer = without 1 past_buffer 0

-- after a buffer of the input a reader of a cycle, and the cycle: tables 2 and 3
abbrev pub feedback : List TableValue
feedback = buffer (codes "b") 0 ∷ buffer (codes "r") 3 ∷ buffer (codes "p") 4 ∷ buffer (codes "q") 3 ∷ []

pub record ChangeExamples : Type 0 where
  pub embedded : IsEmbedded 2 half_adder.tables 3 half_adder_within place_within
  pub embedded_sum : (truth_table 2 half_adder.tables 2 ≡ codes "0110")
      × (truth_table 3 half_adder_within 5 ≡ codes "01011010")
  pub embedded_carry : (truth_table 2 half_adder.tables 3 ≡ codes "0001")
      × (truth_table 3 half_adder_within 3 ≡ codes "00000101")
  pub copied : IsCopiedBehind 3 half_adder.tables 2 half_adder.tables half_adder_behind name_behind
  pub copied_values :
      (truth_table 3 (half_adder.tables ++ half_adder_behind) 5 ≡ codes "01101001")
      × (truth_table 3 (half_adder.tables ++ half_adder_behind) 6 ≡ codes "00000110")
  pub reader_before :
      (truth_table 1 out_of_order.tables 1 ≡ codes "01")
      × (truth_table 1 (replaced out_of_order.tables 1 (constant_table (codes "y") true)) 1 ≡ codes "00")
  pub past_the_end : replaced half_adder.tables 2 by_zeros ≡ half_adder.tables
  pub depends : DependsOn 1 out_of_order.tables 1 1 × (¬ DependsOn 1 out_of_order.tables 0 2)
  pub redirected : map (λ t. t.pins) past_buffer ≡ (0 ∷ []) ∷ (0 ∷ []) ∷ (2 ∷ 0 ∷ []) ∷ []
  pub redirected_values : (truth_table 1 buffered 2 ≡ codes "10") × (truth_table 1 past_buffer 2 ≡ codes "10")
  pub left_out : (map (λ t. t.name) without_buffer ≡ codes "z" ∷ codes "w" ∷ [])
      × (map (λ t. t.pins) without_buffer ≡ (0 ∷ []) ∷ (1 ∷ 0 ∷ []) ∷ [])
  pub left_out_values : (truth_table 1 past_buffer 3 ≡ codes "01")
      × (truth_table 1 without_buffer 2 ≡ codes "01")

-- three tables over the input a; what may be wrong: the first one's name and number of pins, the pins of the
-- others, and the outputs
abbrev pub faulty : Bytes → List ℕ → ℕ → ℕ → ℕ → NetValue
faulty name outputs second third pins = record {
  model = codes "m";
  inputs = codes "a" ∷ [];
  tables =
      record { name = name; pins = replicate pins 0; rows = []; plane = true }
      ∷ buffer (codes "y") second
      ∷ buffer (codes "z") third
      ∷ [];
  outputs = outputs;
}

-- a net with `inputs` inputs, `outputs` outputs and `tables` tables, each of which has `pins` pins and `rows`
-- rows, and then the tables `more`
abbrev pub sized : (inputs outputs tables pins rows : ℕ) → List TableValue → NetValue
sized inputs outputs tables pins rows more = record {
  model = codes "m";
  inputs = replicate inputs (codes "a");
  tables = replicate tables (record
      { name = codes "t"; pins = replicate pins 0; rows = replicate rows []; plane = true }) ++ more;
  outputs = replicate outputs 0;
}

pub record RefusalExamples : Type 0 where
  pub doubled_first : net_refusal (faulty (codes "a") [] 9 3 257) ≡ Some (doubled (codes "a"))
  pub then_no_output : net_refusal (faulty (codes "x") [] 9 3 257) ≡ Some no_output
  pub then_undriven : net_refusal (faulty (codes "x") (8 ∷ []) 9 3 257) ≡ Some (undriven 9)
  pub then_undriven_output : net_refusal (faulty (codes "x") (8 ∷ []) 0 3 257) ≡ Some (undriven 8)
  pub first_of_two_undriven : net_refusal (faulty (codes "x") (8 ∷ []) 9 7 257) ≡ Some (undriven 9)
  pub then_cycle : net_refusal (faulty (codes "x") (1 ∷ []) 0 3 257) ≡ Some (cycle 3)
  pub then_limit : net_refusal (faulty (codes "x") (1 ∷ []) 0 2 257) ≡ Some (limit which.Pins)
  pub then_none : net_refusal (faulty (codes "x") (1 ∷ []) 0 2 256) ≡ None
  pub second_of_a_name : first_doubled (codes "a" ∷ codes "b" ∷ codes "c" ∷ codes "b" ∷ codes "a" ∷ [])
      ≡ Some (codes "b")
  pub empty_names : first_doubled [] ≡ None
  pub first_of_feedback : first_ungrounded 1 feedback ≡ Some 1
  pub feedback_depends : Contains (table_at feedback 2).pins 4 × DependsOn 1 feedback 2 4
  pub reader_depends : DependsOn 1 feedback 3 2
  pub feedback_is_cyclic : ¬ IsAcyclic 1 feedback
  pub feeds_itself : first_ungrounded 1 (buffer (codes "y") 1 ∷ []) ≡ Some 0
  pub out_of_order_is_grounded : first_ungrounded 1 out_of_order.tables ≡ None

-- the largest allowed value of each number, and the next one, which is told before the limits that come later
pub record LimitExamples : Type 0 where
  pub inputs : (first_limit (sized 256 1 1 1 1 []) ≡ None)
      × (first_limit (sized 257 65 1 257 1 []) ≡ Some which.Inputs)
  pub outputs : (first_limit (sized 1 64 1 1 1 []) ≡ None)
      × (first_limit (sized 1 65 1 257 1 []) ≡ Some which.Outputs)
  pub tables : (first_limit (sized 1 1 4096 1 1 []) ≡ None)
      × (first_limit (sized 1 1 4097 257 1 []) ≡ Some which.Tables)
  pub pins : (first_limit (sized 1 1 1 256 1 []) ≡ None)
      × (first_limit (sized 1 1 513 257 1 []) ≡ Some which.Pins)
  pub all_pins : (first_limit (sized 1 1 512 256 0 []) ≡ None)
      × (first_limit (sized 1 1 512 256 65 (buffer (codes "y") 0 ∷ [])) ≡ Some which.AllPins)
  pub rows : (first_limit (sized 1 1 512 0 64 []) ≡ None)
      × (first_limit (sized 1 1 512 0 64 (buffer (codes "y") 0 ∷ [])) ≡ Some which.Rows)
  pub all_together : first_limit (sized 256 64 4096 32 8 []) ≡ None
  pub largest_error : (LARGEST_ERROR ≡ 2 ^ 84 - 1) × (greatest_error Rel 64 ≡ 18446744073709551615000000)

pub record NameExamples : Type 0 where
  pub longest : IsName (replicate 1023 97)
  pub too_long : ¬ IsName (replicate 1024 97)
  pub empty : ¬ IsName []
  pub backslash_within : IsName (97 ∷ 92 ∷ 98 ∷ [])
  pub backslash_at_the_end : ¬ IsName (97 ∷ 92 ∷ [])
  pub ends_of_printable : IsName (33 ∷ 126 ∷ [])
  pub blank : ¬ IsName (97 ∷ 32 ∷ 98 ∷ [])
  pub comment_sign : ¬ IsName (97 ∷ 35 ∷ [])
  pub delete : ¬ IsName (127 ∷ [])
