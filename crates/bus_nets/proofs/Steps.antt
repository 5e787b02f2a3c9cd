-- How a network grows, step by step.
use Rattle.std.proofs.Common.{◌≡◌, ℕ, zero, suc, ◌+◌, ◌<◌, ◌≤◌, List, [], ◌∷◌, ◌++◌, length, drop, replicate, get_or, max, refl, ap, sym, ◌∙◌, append_assoc, append-nil, add-one, drop-cons, arith}
use Rattle.std.proofs.lemmas.List.{length-replicate, drop_all}
use Rattle.std.proofs.lemmas.Grind.{common_steps}
use Rattle.std.proofs.lemmas.List.Elements.{All-push}
use Rattle.std.specs.List.{range_with_len}
use Rattle.quality_semantics.specs.Forms.{xor2, xor3, maj}
use Rattle.quality_semantics.specs.Buses.{places, adders, add, comparators, greater, differences, differ, growers, count_rows, constant}
use Rattle.quality_semantics.specs.WordNets.{WordNetValue, signals, appended, BeginsWith, AreSignalsOf}
use Rattle.quality_semantics.proofs.Growth.{begins_after as begins_through, signals_kept}
use Rattle.quality_semantics.proofs.Counts.{length-count_rows}

pub begins_after : (W V U : WordNetValue) → BeginsWith U V → BeginsWith V W → BeginsWith U W
begins_after = begins_through

-- the two bits of a place
places_at : (z : ℕ) (x y : List ℕ) (i : ℕ) → get_or (places z x y) i (z, z) ≡ (get_or x i z, get_or y i z)
places_at z [] [] i = refl
places_at z [] (y ∷ ys) zero = refl
places_at z [] (y ∷ ys) (suc i) = places_at z [] ys i
places_at z (x ∷ xs) [] zero = refl
places_at z (x ∷ xs) [] (suc i) = places_at z xs [] i
places_at z (x ∷ xs) (y ∷ ys) zero = refl
places_at z (x ∷ xs) (y ∷ ys) (suc i) = places_at z xs ys i

places_count : (z : ℕ) (x y : List ℕ) → length (places z x y) ≡ max (length x) (length y)
places_count z [] ys = grind (arith, common_steps)
places_count z (x ∷ xs) [] = let rest = places_count z xs [] in grind (arith, rest)
places_count z (x ∷ xs) (y ∷ ys) = let rest = places_count z xs ys in grind (arith, rest)

pub places_more : (z : ℕ) (x y : List ℕ) (i : ℕ) → i < max (length x) (length y) → drop i (places z x y) ≡ (get_or x i z, get_or y i z) ∷ drop (i + 1) (places z x y)
places_more z x y i within =
    let few : i < length (places z x y) = rw (places_count z x y) within in
    rw (add-one, drop-cons (places z x y) i (z, z) few, places_at z x y i) refl

pub places_none : (z : ℕ) (x y : List ℕ) (i : ℕ) → max (length x) (length y) ≤ i → drop i (places z x y) ≡ []
places_none z x y i past =
    let all : length (places z x y) ≤ i = rw (places_count z x y) past in
    drop_all i (places z x y) all

-- adders are being appended, and the first i places are done
pub record Adding (start now : WordNetValue) (x y sums : List ℕ) (carry i : ℕ) : Type 0 where
  pub begins : BeginsWith now start
  pub more : signals start ≤ signals now
  pub carry_in : carry < signals now
  pub sums_in : AreSignalsOf now sums
  pub net : (adders now carry (drop i (places start.inputs x y))).net ≡ (add start x y).net
  pub bus : sums ++ (adders now carry (drop i (places start.inputs x y))).bus ≡ (add start x y).bus

-- comparators are being appended, and the first i places are done
pub record Comparing (start now : WordNetValue) (x y : List ℕ) (above i : ℕ) : Type 0 where
  pub begins : BeginsWith now start
  pub more : signals start ≤ signals now
  pub above_in : above < signals now
  pub rest : comparators now above (drop i (places start.inputs x y)) ≡ greater start x y

-- differences are being appended, and the first i places are done
pub record Differing (start now : WordNetValue) (x y bits : List ℕ) (i : ℕ) : Type 0 where
  pub begins : BeginsWith now start
  pub more : signals start ≤ signals now
  pub bits_in : AreSignalsOf now bits
  pub net : (differences now (drop i (places start.inputs x y))).net ≡ (differ start x y).net
  pub bus : bits ++ (differences now (drop i (places start.inputs x y))).bus ≡ (differ start x y).bus

-- a row of the count is being appended, and the first i places are done
pub record GrowingRow (start now : WordNetValue) (d : ℕ) (row next : List ℕ) (before i : ℕ) : Type 0 where
  pub begins : BeginsWith now start
  pub more : signals start ≤ signals now
  pub before_in : before < signals now
  pub next_in : AreSignalsOf now next
  pub net : (growers now d before (drop i row)).net ≡ (growers start d (suc start.inputs) row).net
  pub bus : next ++ (growers now d before (drop i row)).bus ≡ (growers start d (suc start.inputs) row).bus

-- rows of a count are being appended, and the first i bits are done
pub record Counting (start now : WordNetValue) (k : ℕ) (ds row : List ℕ) (i : ℕ) : Type 0 where
  pub begins : BeginsWith now start
  pub more : signals start ≤ signals now
  pub row_in : AreSignalsOf now row
  pub rest : count_rows now row (drop i ds) ≡ count_rows start (replicate k start.inputs) ds

pub counting_width : (start now : WordNetValue) (k : ℕ) (ds row : List ℕ) (i : ℕ) → Counting start now k ds row i → length ds ≤ i → length row ≡ k
counting_width start now k ds row i h past =
    let e = ap (λ r. count_rows now row r) (sym (drop_all i ds past)) ∙ h.rest in
    ap (λ r. length r.bus) e ∙ length-count_rows start (replicate k start.inputs) ds ∙ length-replicate k start.inputs

pub adding_more : (start now after : WordNetValue) (x y sums sums' : List ℕ) (carry i a b s c : ℕ) → Adding start now x y sums carry i → i < max (length x) (length y) → a ≡ get_or x i now.inputs
    → b ≡ get_or y i now.inputs → after ≡ appended (appended now (xor3 a b carry)) (maj a b carry) → s ≡ signals now → c ≡ signals (appended now (xor3 a b carry)) → sums' ≡ sums ++ s ∷ []
    → s < signals after → c < signals after → signals now ≤ signals after → BeginsWith after now → Adding start after x y sums' c (i + 1)
adding_more start now after x y sums sums' carry i a b s c h within ea eb e es ec en s_in c_in more begins =
    let inputs = h.begins.inputs in
    let step : drop i (places start.inputs x y) ≡ (a, b) ∷ drop (i + 1) (places start.inputs x y) =
    rw (ea, eb, inputs) (places_more start.inputs x y i within) in
    record {
      begins = begins_after start now after begins h.begins;
      more = omega (arith, h.more);
      carry_in = c_in;
      sums_in = grind (arith, common_steps, h.sums_in);
      net = rw (e, ec) (ap (λ r. (adders now carry r).net) (sym step) ∙ h.net);
      bus = rw (e, ec, en, es, append_assoc) (ap (λ r. sums ++ (adders now carry r).bus) (sym step) ∙ h.bus);
    }

pub differing_more : (start now after : WordNetValue) (x y bits bits' : List ℕ) (i a b s : ℕ) → Differing start now x y bits i → i < max (length x) (length y) → a ≡ get_or x i now.inputs
    → b ≡ get_or y i now.inputs → after ≡ appended now (xor2 a b) → s ≡ signals now → bits' ≡ bits ++ s ∷ [] → signals now < signals after → BeginsWith after now
    → Differing start after x y bits' (i + 1)
differing_more start now after x y bits bits' i a b s h within ea eb e es en more begins =
    let inputs = h.begins.inputs in
    let step : drop i (places start.inputs x y) ≡ (a, b) ∷ drop (i + 1) (places start.inputs x y) =
    rw (ea, eb, inputs) (places_more start.inputs x y i within) in
    record {
      begins = begins_after start now after begins h.begins;
      more = omega (arith, h.more);
      bits_in = rw en (All-push (λ p. p < signals after) bits s (signals_kept now after bits begins h.bits_in) (omega (arith, es, more)));
      net = rw e (ap (λ r. (differences now r).net) (sym step) ∙ h.net);
      bus = rw (e, en, es, append_assoc) (ap (λ r. bits ++ (differences now r).bus) (sym step) ∙ h.bus);
    }

pub differing_all : (start now : WordNetValue) (x y bits : List ℕ) (i : ℕ) → Differing start now x y bits i → max (length x) (length y) ≤ i → bits ≡ (differ start x y).bus
differing_all start now x y bits i h past =
    sym (append-nil bits) ∙ ap (λ r. bits ++ (differences now r).bus) (sym (places_none start.inputs x y i past)) ∙ h.bus

-- the bits of k are being pushed, and those of `left` are still to come
pub record Pushing (W : WordNetValue) (k : ℕ) (bus : List ℕ) (left : ℕ) : Type 0 where
  pub bits_in : AreSignalsOf W bus
  pub rest : bus ++ constant W left ≡ constant W k

-- the inputs from one on are being pushed
pub record Counted (W : WordNetValue) (from : ℕ) (bus : List ℕ) (i : ℕ) : Type 0 where
  pub bits_in : AreSignalsOf W bus
  pub is : bus ≡ range_with_len from i
