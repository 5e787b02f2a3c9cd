-- Clauses in one region.
use Rattle.std.specs.Prelude.{ℤ, All}
use Rattle.std.proofs.Common.{◌≡◌, ℕ, ◌+◌, ◌-◌, ◌<◌, ◌^◌, List, [], ◌∷◌, ◌++◌, take, drop, length, get_or, refl, ap, sym, ◌∙◌, length-append, length-drop, arith}
use Rattle.std.proofs.lemmas.List.{take_all, take-append-le, drop-append-le, drop_at, map_push, get_or-map}
use Rattle.std.proofs.lemmas.List.Elements.{All-push, All-head, All-tail, All-weaker}
use Rattle.proof_semantics.specs.Clauses.{Clause}
use Rattle.cdcl_core.specs.Region.{literals_in, clauses_in, IsSpan, IsRegion}
use Rattle.cdcl_core.specs.declared.clause_list.Span.{Span}

-- a span has the same literals in a longer region
pub literals_longer : (region more : List ℤ) (s : Span) → IsSpan (length region) s → literals_in (region ++ more) s ≡ literals_in region s
literals_longer region more s h =
    let order = h.order in
    let within = h.within in
    ap (take (s.end - s.start)) (drop-append-le s.start region more (omega arith)) ∙ take-append-le (s.end - s.start) (drop s.start region) more (omega (arith, length-drop s.start region))

pub clauses_longer : (spans : List Span) (region more : List ℤ) → All (IsSpan (length region)) spans → clauses_in spans (region ++ more) ≡ clauses_in spans region
clauses_longer [] region more h = refl
clauses_longer (s ∷ spans) region more h =
    ap (λ C. C ∷ clauses_in spans (region ++ more)) (literals_longer region more s (All-head (IsSpan (length region)) s spans h))
    ∙ ap (λ cs. literals_in region s ∷ cs) (clauses_longer spans region more (All-tail (IsSpan (length region)) s spans h))

-- the last span reads what was added
literals_new : (region : List ℤ) (C : Clause) (s : Span) → s.start ≡ length region → s.end ≡ length region + length C → literals_in (region ++ C) s ≡ C
literals_new region C s start end =
    ap (take (s.end - s.start)) (drop_at region C s.start (sym start)) ∙ take_all (s.end - s.start) C (omega arith)

pub clauses_pushed : (spans : List Span) (region : List ℤ) (C : Clause) (s : Span) → All (IsSpan (length region)) spans → s.start ≡ length region → s.end ≡ length region + length C
    → clauses_in (spans ++ s ∷ []) (region ++ C) ≡ clauses_in spans region ++ C ∷ []
clauses_pushed spans region C s h start end =
    map_push (literals_in (region ++ C)) spans s
    ∙ ap (λ cs. cs ++ literals_in (region ++ C) s ∷ []) (clauses_longer spans region C h)
    ∙ ap (λ D. clauses_in spans region ++ D ∷ []) (literals_new region C s start end)

-- a longer region
pub region_longer : (spans : List Span) (region more : List ℤ) → IsRegion spans region → length region + length more < 2 ^ 32 → IsRegion spans (region ++ more)
region_longer spans region more h small =
    let longer : length (region ++ more) ≡ length region + length more = length-append region more in
    record {
      spans_within = All-weaker (IsSpan (length region)) (IsSpan (length (region ++ more))) (λ s was. let within = was.within in record { order = was.order; within = omega arith }) spans
          h.spans_within;
      small = omega arith;
      few = h.few;
    }

-- one span more
pub region_pushed : (spans : List Span) (region : List ℤ) (C : Clause) (s : Span) → IsRegion spans region → length region + length C < 2 ^ 32 → length spans + 1 < 2 ^ 32 → s.start ≡ length region
    → s.end ≡ length region + length C
    → IsRegion (spans ++ s ∷ []) (region ++ C)
region_pushed spans region C s h small few start end =
    let longer : length (region ++ C) ≡ length region + length C = length-append region C in
    let one : IsRegion spans (region ++ C) = region_longer spans region C h small in
    record {
      spans_within = All-push (IsSpan (length (region ++ C))) spans s one.spans_within (record { order = omega arith; within = omega arith });
      small = omega arith;
      few = omega (arith, length-append spans (s ∷ []));
    }

-- what is read at a place
pub clause_at_place : (spans : List Span) (region : List ℤ) (i : ℕ) (s : Span) (C : Clause) → i < length spans → s ≡ get_or spans i s → C ≡ literals_in region s
    → C ≡ get_or (clauses_in spans region) i C
clause_at_place spans region i s C low is read = read ∙ ap (literals_in region) is ∙ sym (get_or-map (literals_in region) spans i s C low)

-- a clause is pushed, by the terms of the code
pub pushed_view : (spans spans1 spans2 : List Span) (region region1 : List ℤ) (C : Clause) (s : Span) (value : List Clause) → IsRegion spans region → clauses_in spans region ≡ value → spans1 ≡ spans
    → spans2 ≡ spans1 ++ s ∷ []
    → region1 ≡ region ++ C → s.start ≡ length region → s.end ≡ length region + length C → clauses_in spans2 region1 ≡ value ++ C ∷ []
pushed_view spans spans1 spans2 region region1 C s value h v e1 e2 e start end =
    rw (e, e2, e1) (clauses_pushed spans region C s h.spans_within start end ∙ ap (λ cs. cs ++ C ∷ []) v)
