-- Worked examples, computed from the definitions.
use Rattle.std.specs.Prelude.{◌↔◌, ◌≡◌, ℕ, ◌^◌, ◌<◌, true, false, List, [], ◌∷◌, ◌++◌, map, flat_map, length}
use Rattle.std.specs.Prelude.{replicate, codes, Option, Some, None, Result, Ok, Err}
use Rattle.semantics.specs.declared.limits.TheConstants.{MOST_BUNDLE_BYTES, MOST_INPUT_BYTES}
use Rattle.semantics.specs.declared.mark.Mark.TheVariants.{Zero, One, Dash}
use Rattle.semantics.specs.declared.which.Which.TheVariants as which
use Rattle.semantics.specs.Texts.{Bytes, Line}
use Rattle.semantics.specs.Net.{NetValue}
use Rattle.semantics.specs.Examples.{half_adder, out_of_order, wire, constant_one}
use Rattle.semantics.specs.Blif.{blif_text}
use Rattle.blif_semantics.specs.Lines.{logical_lines, words_of, statements}
use Rattle.blif_semantics.specs.Statements.{Wrong, bad_byte, command, stray_row, bad_row, mixed_plane}
use Rattle.blif_semantics.specs.Statements.{second_model, after_end, names_empty, bad_name, WrongLine}
use Rattle.blif_semantics.specs.Statements.{first_wrong}
use Rattle.blif_semantics.specs.Reading.{Refusal, text_long, wrong_line, doubled, no_output, undriven, cycle}
use Rattle.blif_semantics.specs.Reading.{limit, blif_reading}

-- a line and its number, as words
pub record NumberedWords : Type 0 where
  pub number : ℕ
  pub words : Line

abbrev pub line : ℕ → Line → NumberedWords
line number words = record { number = number; words = words }

abbrev pub numbered_words : Bytes → List NumberedWords
numbered_words text = map (λ l. line l.number (words_of l.bytes)) (logical_lines text)

-- each line ended by these bytes
abbrev pub lines_with : Bytes → List Bytes → Bytes
lines_with ending lines = flat_map (λ l. l ++ ending) lines

-- ended by LF, and by CR LF
abbrev pub lf : List Bytes → Bytes
lf = lines_with (10 ∷ [])

abbrev pub crlf : List Bytes → Bytes
crlf = lines_with (13 ∷ 10 ∷ [])

abbrev pub continued : Bytes
continued =
    crlf (codes ".model t # note \\" ∷ codes ".inputs a \\" ∷ codes " b" ∷ codes ".outputs y"
    ∷ codes ".names a b y" ∷ codes "11 1" ∷ codes ".end" ∷ [])

pub record LineExamples : Type 0 where
  pub a_comment_joins_nothing :
      numbered_words continued
      ≡ line 1 (codes ".model" ∷ codes "t" ∷ [])
      ∷ line 2 (codes ".inputs" ∷ codes "a" ∷ codes "b" ∷ [])
      ∷ line 4 (codes ".outputs" ∷ codes "y" ∷ [])
      ∷ line 5 (codes ".names" ∷ codes "a" ∷ codes "b" ∷ codes "y" ∷ [])
      ∷ line 6 (codes "11" ∷ codes "1" ∷ [])
      ∷ line 7 (codes ".end" ∷ [])
      ∷ line 8 []
      ∷ []
  pub empty : numbered_words [] ≡ line 1 [] ∷ []
  pub in_mid_word : numbered_words (codes "ab\\" ++ 10 ∷ codes "c d")
      ≡ line 1 (codes "abc" ∷ codes "d" ∷ []) ∷ []
  pub at_the_end : numbered_words (codes "ab\\") ≡ line 1 (codes "ab" ∷ []) ∷ []
  pub only_one_is_removed : numbered_words (codes "ab\\\\") ≡ line 1 (codes "ab\\" ∷ []) ∷ []
  pub three_lines : numbered_words (codes "a \\ " ++ 10 ∷ codes "\\" ++ 10 ∷ codes "b" ++ 10 ∷ codes "c")
      ≡ line 1 (codes "a" ∷ codes "b" ∷ []) ∷ line 4 (codes "c" ∷ []) ∷ []
  pub a_comment_ends_a_join : numbered_words (codes "a \\" ++ 10 ∷ codes "b # c \\" ++ 10 ∷ codes "d")
      ≡ line 1 (codes "a" ∷ codes "b" ∷ []) ∷ line 3 (codes "d" ∷ []) ∷ []
  pub tabs : numbered_words (9 ∷ codes "a" ++ 9 ∷ 32 ∷ codes "b" ++ 13 ∷ codes "c")
      ≡ line 1 (codes "a" ∷ codes "b" ∷ codes "c" ∷ []) ∷ []

-- what is wrong with these lines after three good ones
abbrev pub after_three : List Bytes → Option WrongLine
after_three lines = first_wrong
    (statements (logical_lines (lf (codes ".model m" ∷ codes ".inputs a b" ∷ codes ".outputs y" ∷ lines))))

abbrev pub at : ℕ → Wrong → Option WrongLine
at line wrong = Some (record { line = line; wrong = wrong })

pub record WrongExamples : Type 0 where
  pub other_command : after_three (codes ".latch a y 0" ∷ []) ≡ at 4 (command (codes ".latch"))
  pub stray : after_three (codes "1 1" ∷ []) ≡ at 4 stray_row
  pub stray_after_another_statement : after_three
      (codes ".names a y" ∷ codes "1 1" ∷ codes ".inputs c" ∷ codes "0 1" ∷ []) ≡ at 7 stray_row
  pub short_row : after_three (codes ".names a b y" ∷ codes "1 1" ∷ []) ≡ at 5 bad_row
  pub one_word : after_three (codes ".names a y" ∷ codes "1" ∷ []) ≡ at 5 bad_row
  pub two_words_without_pins : after_three (codes ".names y" ∷ codes "1 1" ∷ []) ≡ at 5 bad_row
  pub other_mark : after_three (codes ".names a y" ∷ codes "2 1" ∷ []) ≡ at 5 bad_row
  pub dash_as_plane : after_three (codes ".names a y" ∷ codes "1 -" ∷ []) ≡ at 5 bad_row
  pub mixed : after_three (codes ".names a b y" ∷ codes "11 1" ∷ codes "00 0" ∷ []) ≡ at 6 mixed_plane
  pub backslash : after_three (codes ".names a\\ y" ∷ []) ≡ at 4 bad_name
  pub no_names : after_three (codes ".names" ∷ []) ≡ at 4 names_empty
  pub model_after_end : after_three (codes ".end" ∷ codes ".model n" ∷ []) ≡ at 5 after_end
  pub second : after_three (codes ".model n" ∷ []) ≡ at 4 second_model
  pub second_and_without_name : after_three (codes ".model" ∷ []) ≡ at 4 second_model
  pub model_without_name : first_wrong (statements (logical_lines (codes ".model"))) ≡ at 1 bad_name
  pub model_with_two_names : first_wrong (statements (logical_lines (codes ".model a b"))) ≡ at 1 bad_name
  pub form_feed : after_three ((codes ".names a" ++ 12 ∷ codes "y") ∷ []) ≡ at 4 bad_byte
  pub bad_byte_before_after_end : after_three (codes ".end" ∷ (12 ∷ []) ∷ []) ≡ at 5 bad_byte
  pub after_end_before_bad_byte : after_three (codes ".end" ∷ codes "a" ∷ (12 ∷ []) ∷ []) ≡ at 5 after_end
  pub first_physical_line : after_three (codes ".names a \\" ∷ codes "b\\\\" ∷ codes "y" ∷ []) ≡ None
  pub number_of_the_first_line : after_three (codes ".names a \\" ∷ codes "b \\" ∷ codes "y\\ z" ∷ [])
      ≡ at 4 bad_name
  pub any_byte_in_a_comment : after_three ((35 ∷ 128 ∷ 0 ∷ []) ∷ codes ".names y" ∷ []) ≡ None
  pub good : after_three (codes ".names a b y" ∷ codes "11 0" ∷ codes "" ∷ codes "00 0" ∷ codes ".end now"
      ∷ []) ≡ None
  pub leading_blank : after_three (codes ".names $false" ∷ codes " 0" ∷ codes ".names $undef" ∷ []) ≡ None

abbrev pub after_two : List Bytes → Result NetValue Refusal
after_two lines = blif_reading (lf (codes ".model m" ∷ codes ".inputs a b" ∷ lines)) MOST_INPUT_BYTES

abbrev pub buffers : List Bytes
buffers = codes ".names z y" ∷ codes "1 1" ∷ codes ".names y z" ∷ codes "1 1" ∷ []

abbrev pub outputs_line : ℕ → Bytes
outputs_line n = codes ".inputs a" ++ 10 ∷ codes ".outputs"
    ++ flat_map (λ (word : Bytes). 32 ∷ word) (replicate n (codes "a"))

pub record ReadingExamples : Type 0 where
  pub joined :
      blif_reading continued MOST_INPUT_BYTES
      ≡ Ok (record {
        model = codes "t";
        inputs = codes "a" ∷ codes "b" ∷ [];
        tables = record { name = codes "y"; pins = 0 ∷ 1 ∷ []; rows = (One ∷ One ∷ []) ∷ []; plane = true }
            ∷ [];
        outputs = 2 ∷ [];
      })
  pub on_a_cycle : after_two (codes ".outputs y" ∷ buffers) ≡ Err (cycle (codes "y"))
  pub before_a_cycle : after_two (codes ".outputs y" ∷ codes ".names y x" ∷ buffers) ≡ Err (cycle (codes "x"))
  pub not_driven : after_two (codes ".outputs y" ∷ buffers ++ codes ".names q r" ∷ [])
      ≡ Err (undriven (codes "q"))
  pub output_not_driven : after_two (codes ".outputs a y" ∷ []) ≡ Err (undriven (codes "y"))
  pub driven_twice : after_two (codes ".outputs y" ∷ buffers ++ codes ".names q r" ∷ codes ".names b" ∷ [])
      ≡ Err (doubled (codes "b"))
  pub input_twice : after_two (codes ".inputs a" ∷ []) ≡ Err (doubled (codes "a"))
  pub none_listed : after_two (buffers ++ codes ".names q r" ∷ []) ≡ Err no_output
  pub out_of_order_and_planes :
      after_two (codes ".outputs y y" ∷ codes ".names z y" ∷ codes "0 0" ∷ codes ".names a b z" ∷ [])
      ≡ Ok (record {
        model = codes "m";
        inputs = codes "a" ∷ codes "b" ∷ [];
        tables =
            record { name = codes "y"; pins = 3 ∷ []; rows = (Zero ∷ []) ∷ []; plane = false }
            ∷ record { name = codes "z"; pins = 0 ∷ 1 ∷ []; rows = []; plane = true }
            ∷ [];
        outputs = 2 ∷ 2 ∷ [];
      })
  pub without_model :
      blif_reading (lf (codes ".outputs y" ∷ codes ".names y" ∷ codes " 0" ∷ codes ".inputs a" ∷ []))
      MOST_INPUT_BYTES
      ≡ Ok (record {
        model = codes "top";
        inputs = codes "a" ∷ [];
        tables = record { name = codes "y"; pins = []; rows = [] ∷ []; plane = false } ∷ [];
        outputs = 1 ∷ [];
      })
  pub a_bad_byte_before_what_is_not_driven : after_two ((128 ∷ []) ∷ codes ".outputs y" ∷ [])
      ≡ Err (wrong_line 3 bad_byte)
  pub a_stray_row_before_what_is_driven_twice : blif_reading
      (lf (codes ".inputs a a" ∷ codes ".outputs a" ∷ codes "1 1" ∷ [])) MOST_INPUT_BYTES
      ≡ Err (wrong_line 3 stray_row)
  pub too_long : blif_reading (codes ".end") 3 ≡ Err text_long
  pub as_long_as_may_be : blif_reading (codes ".end") 4 ≡ Err no_output
  pub too_long_an_input : (text : Bytes)
      → (blif_reading text MOST_INPUT_BYTES ≡ Err text_long) ↔ (2 ^ 22 < length text)
  pub too_long_for_a_bundle : (text : Bytes)
      → (blif_reading text MOST_BUNDLE_BYTES ≡ Err text_long) ↔ (2 ^ 28 < length text)
  pub empty_text : blif_reading [] MOST_INPUT_BYTES ≡ Err no_output
  pub comments : blif_reading (35 ∷ 35 ∷ 35 ∷ []) 3 ≡ Err no_output
  pub many_outputs : blif_reading (outputs_line 65) MOST_INPUT_BYTES ≡ Err (limit which.Outputs)
  pub most_outputs : blif_reading (outputs_line 64) MOST_INPUT_BYTES
      ≡ Ok (record { model = codes "top"; inputs = codes "a" ∷ []; tables = []; outputs = replicate 64 0 })
  pub half_adder_back : blif_reading (blif_text half_adder) MOST_INPUT_BYTES ≡ Ok half_adder
  pub out_of_order_back : blif_reading (blif_text out_of_order) MOST_INPUT_BYTES ≡ Ok out_of_order
  pub wire_back : blif_reading (blif_text wire) MOST_INPUT_BYTES ≡ Ok wire
  pub constant_back : blif_reading (blif_text constant_one) MOST_INPUT_BYTES ≡ Ok constant_one

-- lists in several lines, words that go on over a backslash, and texts for which several refusals hold
pub record SeveralExamples : Type 0 where
  pub several_lists :
      after_two (codes ".outputs y" ∷ codes ".inputs c" ∷ codes ".names a c y" ∷ codes "11 1"
      ∷ codes ".outputs a" ∷ codes ".inputs" ∷ codes ".inputs d e" ∷ codes ".outputs y b" ∷ [])
      ≡ Ok (record {
        model = codes "m";
        inputs = codes "a" ∷ codes "b" ∷ codes "c" ∷ codes "d" ∷ codes "e" ∷ [];
        tables = record { name = codes "y"; pins = 0 ∷ 2 ∷ []; rows = (One ∷ One ∷ []) ∷ []; plane = true }
            ∷ [];
        outputs = 5 ∷ 0 ∷ 5 ∷ 1 ∷ [];
      })
  pub words_that_go_on :
      blif_reading (lf (codes ".inp\\" ∷ codes "uts ab\\ " ∷ codes "c \\" ∷ codes "d"
      ∷ codes ".outputs abc\\" ∷ [])) MOST_INPUT_BYTES
      ≡ Ok (record {
        model = codes "top";
        inputs = codes "abc" ∷ codes "d" ∷ [];
        tables = [];
        outputs = 0 ∷ [];
      })
  pub rows_of_two_tables :
      after_two (codes ".outputs y" ∷ codes ".names y z" ∷ codes ".names a b y" ∷ codes "11 1" ∷ codes ""
      ∷ codes "0- 1" ∷ codes ".outputs z" ∷ codes ".names x" ∷ codes "1" ∷ [])
      ≡ Ok (record {
        model = codes "m";
        inputs = codes "a" ∷ codes "b" ∷ [];
        tables =
            record { name = codes "z"; pins = 3 ∷ []; rows = []; plane = true }
            ∷ record {
              name = codes "y";
              pins = 0 ∷ 1 ∷ [];
              rows = (One ∷ One ∷ []) ∷ (Zero ∷ Dash ∷ []) ∷ [];
              plane = true;
            }
            ∷ record { name = codes "x"; pins = []; rows = [] ∷ []; plane = true }
            ∷ [];
        outputs = 3 ∷ 2 ∷ [];
      })
  pub twice_before_no_output : after_two (codes ".names q r" ∷ codes ".names r" ∷ codes ".names r" ∷ [])
      ≡ Err (doubled (codes "r"))
  pub first_of_two_doubled : after_two
      (codes ".outputs a" ∷ codes ".names r" ∷ codes ".names q" ∷ codes ".names q" ∷ codes ".names r" ∷ [])
      ≡ Err (doubled (codes "q"))
  pub first_of_three_undriven : after_two
      (codes ".outputs o" ∷ codes ".names a q r" ∷ codes ".names p s" ∷ []) ≡ Err (undriven (codes "q"))
  pub cycle_before_limit : blif_reading (outputs_line 65 ++ 10 ∷ lf buffers) MOST_INPUT_BYTES
      ≡ Err (cycle (codes "y"))
  pub undriven_before_limit : blif_reading (outputs_line 65 ++ 10 ∷ codes ".outputs b") MOST_INPUT_BYTES
      ≡ Err (undriven (codes "b"))
