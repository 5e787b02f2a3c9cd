-- The laws about what a text means, each the contract of a function without parameters.
use Rattle.std.specs.Prelude.{◌↔◌, ◌≡◌, ◌≢◌, ℕ, ◌+◌, ◌*◌, ◌^◌, ◌<◌, ◌≤◌, ◌==◌, [], ◌∷◌, ◌++◌, flat_map, map}
use Rattle.std.specs.Prelude.{length, Contains, All, Some, None, List, Result, Ok, Err, if◌then◌else◌}
use Rattle.std.specs.List.{AllByRecursion}
use Rattle.semantics.specs.declared.limits.TheConstants.{MOST_BUNDLE_BYTES}
use Rattle.semantics.specs.Texts.{Bytes}
use Rattle.semantics.specs.Net.{NetValue, signal_names, name_of, pin_count, IsSound, IsSmall}
use Rattle.semantics.specs.Refusals.{first_doubled, NetRefused, net_refusal}
use Rattle.semantics.specs.Refusals.NetRefused.{doubled as parts_doubled, no_output as parts_no_output}
use Rattle.semantics.specs.Refusals.NetRefused.{undriven as parts_undriven, cycle as parts_cycle}
use Rattle.semantics.specs.Refusals.NetRefused.{limit as parts_limit}
use Rattle.semantics.specs.RefusalOrder.{IsFirstDoubled}
use Rattle.semantics.specs.Blif.{blif_text}
use Rattle.blif_semantics.specs.declared.kind.Kind.TheVariants as kind
use Rattle.blif_semantics.specs.Lines.{Statement, logical_lines, statements}
use Rattle.blif_semantics.specs.Statements.{kind_of, arguments, WrongLine, first_wrong}
use Rattle.blif_semantics.specs.Tables.{last_word, is_one, named, with_rows, rows_first}
use Rattle.blif_semantics.specs.Reading.{Refusal, text_long, doubled, no_output, undriven, cycle, limit}
use Rattle.blif_semantics.specs.Reading.{NamedNet, names_of, names_read, first_undriven_name, numbered}
use Rattle.blif_semantics.specs.Reading.{single, blif_reading}
use Rattle.blif_semantics.specs.FirstRefusals.{IsFirstWrong, IsFirstUndriven}

-- the text with a CR before each LF
abbrev pub with_carriage_returns : Bytes → Bytes
with_carriage_returns text = flat_map (λ b. if b == 10 then 13 ∷ 10 ∷ [] else b ∷ []) text

-- A text means its statements: a comment of any bytes means nothing, the last line needs no LF, and a CR may
-- stand before each LF.
pub record TextLaw : Type 0 where
  pub comment : (before bytes after : Bytes) → All (λ b. b ≢ 10) bytes
      → logical_lines (before ++ 35 ∷ (bytes ++ 10 ∷ after)) ≡ logical_lines (before ++ 10 ∷ after)
  pub last_comment : (before bytes : Bytes) → All (λ b. b ≢ 10) bytes
      → logical_lines (before ++ 35 ∷ bytes) ≡ logical_lines before
  pub last_line : (text : Bytes)
      → statements (logical_lines (text ++ 10 ∷ [])) ≡ statements (logical_lines text)
  pub carriage_returns : (text : Bytes)
      → statements (logical_lines (with_carriage_returns text)) ≡ statements (logical_lines text)
  pub same : (text other : Bytes) (most : ℕ) → length text ≤ most → length other ≤ most
      → statements (logical_lines text) ≡ statements (logical_lines other)
      → blif_reading text most ≡ blif_reading other most

-- what is read is a small sound net, from a text that keeps the limit on its length; the texts beyond that
-- limit, and no others, are refused for their length
pub record ReadingLaw : Type 0 where
  pub sound : (text : Bytes) (most : ℕ) (N : NetValue) → blif_reading text most ≡ Ok N → IsSound N
  pub small : (text : Bytes) (most : ℕ) (N : NetValue) → blif_reading text most ≡ Ok N → IsSmall N
  pub short : (text : Bytes) (most : ℕ) (N : NetValue) → blif_reading text most ≡ Ok N → length text ≤ most
  pub long : (text : Bytes) (most : ℕ) → (blif_reading text most ≡ Err text_long) ↔ (most < length text)

-- A small sound net is read back from the text that is written for it. That text is the text of no other net,
-- and keeps the limit on the netlist of a bundle.
pub record WrittenLaw : Type 0 where
  pub read : (N : NetValue) → IsSound N → IsSmall N → blif_reading (blif_text N) MOST_BUNDLE_BYTES ≡ Ok N
  pub read_within : (N : NetValue) (most : ℕ) → IsSound N → IsSmall N → length (blif_text N) ≤ most
      → blif_reading (blif_text N) most ≡ Ok N
  pub only : (N M : NetValue) → IsSound N → IsSmall N → IsSound M → IsSmall M → blif_text N ≡ blif_text M
      → N ≡ M
  pub short : (N : NetValue) → IsSound N → IsSmall N → length (blif_text N) < pin_count N * 1024 + 2 ^ 24
  pub within : (N : NetValue) → IsSound N → IsSmall N → length (blif_text N) ≤ MOST_BUNDLE_BYTES

-- what a refusal of numbered parts says of the net of names
abbrev pub refusal_of : List Bytes → NetRefused → Refusal
refusal_of names (parts_doubled name) = doubled name
refusal_of names parts_no_output = no_output
refusal_of names (parts_undriven signal) = undriven (name_of names signal)
refusal_of names (parts_cycle signal) = cycle (name_of names signal)
refusal_of names (parts_limit which) = limit which

abbrev pub reading_of_parts : NetValue → Result NetValue Refusal
reading_of_parts N = elim (net_refusal N) [ None ↦ Ok N | Some r ↦ Err (refusal_of (signal_names N) r) ]

-- a net of names is read or refused as its numbered parts are, unless one of the names that it reads is not
-- driven
pub record NamedNetLaw : Type 0 where
  pub driven : (d : NamedNet) → first_undriven_name d ≡ None → single d ≡ reading_of_parts (numbered d)
  pub undriven : (d : NamedNet) (name : Bytes) → first_doubled (names_of d) ≡ None → 0 < length d.outputs
      → first_undriven_name d ≡ Some name
      → single d ≡ Err (undriven name)

-- each refusal of lines and of names tells the first of its kind; all names that are read are driven exactly
-- where no undriven name is told
pub record FirstRefusalLaw : Type 0 where
  pub wrong_line : (lines : List Statement) (w : WrongLine)
      → (first_wrong lines ≡ Some w) ↔ IsFirstWrong lines w
  pub doubled : (names : List Bytes) (name : Bytes)
      → (first_doubled names ≡ Some name) ↔ IsFirstDoubled names name
  pub undriven : (d : NamedNet) (name : Bytes) → (first_undriven_name d ≡ Some name) ↔ IsFirstUndriven d name
  pub driven : (d : NamedNet) → (first_undriven_name d ≡ None) ↔ All (Contains (names_of d)) (names_read d)

-- where no line is wrong, each row of a table has the plane of the table
abbrev pub PlaneLaw : Type 0
PlaneLaw = (before : List Statement) (s : Statement) (after : List Statement)
    → first_wrong (before ++ s ∷ after) ≡ None → kind_of s.words ≡ kind.Names
    → (let rows = rows_first (map (λ s. s.words) after) in AllByRecursion
    (λ row. is_one (last_word row) ≡ (with_rows (named (arguments s.words)) rows).plane) rows)
