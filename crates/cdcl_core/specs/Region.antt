-- Clauses in one region: each has the span in which its literals lie. Source: the clause arena of Chaff and
-- MiniSat.
use Rattle.std.specs.Prelude.{ℕ, ◌-◌, ◌<◌, ◌≤◌, ◌^◌, min, List, length, map, slice_range, ℤ, All}
use Rattle.proof_semantics.specs.Clauses.{Clause}
use Rattle.cdcl_core.specs.declared.clause_list.Span.{Span}

abbrev pub literals_in : List ℤ → Span → Clause
literals_in region s = slice_range region s.start s.end

abbrev pub clauses_in : List Span → List ℤ → List Clause
clauses_in spans region = map (literals_in region) spans

-- a span of a region of `size` literals
pub record IsSpan (size : ℕ) (s : Span) : Type 0 where
  pub order : s.start ≤ s.end
  pub within : s.end ≤ size

-- each span lies within the region, and half a word holds the number of literals and the number of spans
pub record IsRegion (spans : List Span) (region : List ℤ) : Type 0 where
  pub spans_within : All (IsSpan (length region)) spans
  pub small : length region < 2 ^ 32
  pub few : length spans < 2 ^ 32

-- a list of clauses, with room for `literal_room` more literals, and for `clause_room` more clauses
pub record ClausesValue : Type 0 where
  pub list : List Clause
  pub literal_room : ℕ
  pub clause_room : ℕ

-- the number of items for which there is still room, where half a word holds their number
abbrev pub places_left : ℕ → ℕ → ℕ
places_left capacity items = min capacity 4294967295 - items

-- room for one more clause, of `literals` literals
pub record HasPlace (literals : ℕ) (c : ClausesValue) : Type 0 where
  pub for_literals : literals ≤ c.literal_room
  pub for_clause : 0 < c.clause_room
