-- Where the low places of the outputs decide, and the literals that say how far apart they are.
use Rattle.std.proofs.Common.{◌≡◌, ℕ, ◌+◌, ◌-◌, ◌*◌, ◌^◌, ◌<◌, ◌≤◌, ltb, Bool, true, false, not, ◌&&◌, List, [], ◌∷◌, ◌++◌, length, get_or, take, drop, map, sym, ap, subst, ◌∙◌, arith}
use Rattle.std.specs.Prelude.{None, Some, Option, max, unwrap_or}
use Rattle.std.proofs.lemmas.Option.{none-some}
use Rattle.std.proofs.Math.Seq.{take-append_seam, drop-append_seam}
use Rattle.std.proofs.lemmas.Bool.{lt-ltb, le-ltb}
use Rattle.std.proofs.lemmas.List.{length-append, length-map, length-take-le, length-drop, get_or-map, map-append, take-map, take-set-le}
use Rattle.std.proofs.lemmas.List.Elements.{All-append, All-take, All-weaker}
use Rattle.semantics.specs.Net.{NetValue, input_count, HasSamePorts}
use Rattle.semantics.specs.Value.{outputs_of}
use Rattle.semantics.specs.declared.metric.Metric.{Metric}
use Rattle.semantics.specs.declared.metric.Kind.{Kind}
use Rattle.semantics.specs.declared.metric.Kind.TheVariants.{Abs, Rel, Ham, Sabs}
use Rattle.semantics.specs.Error.{number_of, sign_of, sign_flipped, distance, word_error, one_word, error_of, net_error, IsWithin, IsCandidate}
use Rattle.semantics.proofs.Words.{in_one_word, as_one_word}
use Rattle.semantics.proofs.Vectors.{number_of-lt_width}
use Rattle.semantics.proofs.Signed.{power_twice, length-flipped, flipped_error}
use Rattle.aig_core.specs.Graph.{GraphValue, IsLiteralOf, literal_value, IsConsistent}
use Rattle.aig_core.specs.Grown.{Grows, IsConjunctionOf, IsOppositeOf}
use Rattle.aig_core.specs.Signals.{AreOutputsOver}
use Rattle.aig_core.proofs.Growing.{consistent_before, literal_later}
use Rattle.bdd_levels.specs.Levels.{TellsLevel}
use Rattle.bdd_levels.proofs.Drawing.{length-outputs_of, same_inputs, same_output_count, same_outputs}
use Rattle.net_errors.specs.Compared.{NetPair}
use Rattle.graph_questions.specs.Levels.{LevelQuestion, IsTrueWhereOver}
use Rattle.graph_questions.specs.LowPlaces.{IsDistanceKind, IsDistance, low_distance, AreApart, AreEnough, AreLowOutputs, halves_distance, IsApartLiteral}
use Rattle.graph_questions.proofs.Residues.{number_of-split, distance-le, residues_apart}

-- ---- where the low places are enough

low : (p : ℕ) (bits : List Bool) → p ≤ length bits → number_of (take p bits) < 2 ^ p
low p bits few = number_of-lt_width p (take p bits) (length-take-le p bits few)

-- two words, by their numbers
numbers_apart : (p k : ℕ) (e a : List Bool) → p ≤ length e → p ≤ length a → k < distance (number_of e) (number_of a) → distance (number_of e) (number_of a) + k < 2 ^ p
    → AreApart p k e a
numbers_apart p k e a few few_too over near =
    let far = residues_apart (2 ^ p) (number_of e) (number_of a) (number_of (take p e)) (number_of (take p a)) (number_of (drop p e)) (number_of (drop p a)) k
    (number_of-split p e) (number_of-split p a) (low p e few) (low p a few_too) over near in
    record { beyond = far.beyond; around = far.around }

-- to turn the sign over changes no low place
low_flipped : (p : ℕ) (bits : List Bool) → p < length bits → take p (sign_flipped bits) ≡ take p bits
low_flipped p bits few = take-set-le p bits (length bits - 1) (not (sign_of bits)) (omega (arith, few))

words_apart : (kind : Kind) (p k : ℕ) (e a : List Bool) → IsDistanceKind kind → length e ≡ length a → p < length e → k < word_error kind e a → word_error kind e a + k < 2 ^ p
    → AreApart p k e a
words_apart Abs p k e a unit same few over near = numbers_apart p k e a (omega (arith, few)) (omega (arith, few, same)) over near
words_apart Sabs p k e a unit same few over near =
    let is : word_error Sabs e a ≡ distance (number_of (sign_flipped e)) (number_of (sign_flipped a)) = flipped_error e a same in
    let far : AreApart p k (sign_flipped e) (sign_flipped a) =
    numbers_apart p k (sign_flipped e) (sign_flipped a) (omega (arith, few, length-flipped e)) (omega (arith, few, same, length-flipped a)) (omega (arith, over, is))
    (omega (arith, near, is)) in
    let e_is = low_flipped p e few in
    let a_is = low_flipped p a (omega (arith, few, same)) in
    record {
      beyond = subst (λ (f : List Bool). k < distance (number_of f) (number_of (take p a))) e_is
          (subst (λ (f : List Bool). k < distance (number_of (take p (sign_flipped e))) (number_of f)) a_is far.beyond);
      around = subst (λ (f : List Bool). distance (number_of f) (number_of (take p a)) + k < 2 ^ p) e_is
          (subst (λ (f : List Bool). distance (number_of (take p (sign_flipped e))) (number_of f) + k < 2 ^ p) a_is far.around);
    }
words_apart Rel p k e a is same few over near = absurd is
words_apart Ham p k e a is same few over near = absurd is

word_triangle : (kind : Kind) (e m a : List Bool) → IsDistanceKind kind → length e ≡ length m → length m ≡ length a → word_error kind e a ≤ word_error kind e m + word_error kind m a
word_triangle Abs e m a unit one two = distance-le (number_of e) (number_of m) (number_of a)
word_triangle Sabs e m a unit one two =
    omega (arith, distance-le (number_of (sign_flipped e)) (number_of (sign_flipped m)) (number_of (sign_flipped a)), flipped_error e m one, flipped_error m a two, flipped_error e a (one ∙ two))
word_triangle Rel e m a is one two = absurd is
word_triangle Ham e m a is one two = absurd is

one_word_error : (metric : Metric) (N M : NetValue) (x : List Bool) → metric.width ≡ None → length (outputs_of N x) ≡ length (outputs_of M x)
    → net_error metric N M x ≡ word_error metric.kind (outputs_of N x) (outputs_of M x)
unfolding net_error
one_word_error metric N M x whole same = as_one_word metric (outputs_of N x) (outputs_of M x) same (fits metric.width whole) where
  fits : (width : Option ℕ) → width ≡ None → length (outputs_of N x) ≤ max 1 (unwrap_or width (length (outputs_of N x)))
  fits None is = omega arith
  fits (Some w) is = absurd (none-some w (sym is))

pub powers : (p : ℕ) → 2 ≤ p → (2 ^ p ≡ 2 * 2 ^ (p - 1)) × (2 ^ (p - 1) ≡ 2 * 2 ^ (p - 2))
powers p two =
    let below : (p - 1) - 1 ≡ p - 2 = omega arith in
    (power_twice p (omega (arith, two)), power_twice (p - 1) (omega (arith, two)) ∙ ap (λ n. 2 * 2 ^ n) below)

-- a net with the ports of an approximate net may be compared with it
pub candidate_for : (N M before : NetValue) → IsCandidate N M → HasSamePorts before M → IsCandidate before M
candidate_for N M before candidate ports = record {
  ports = ports;
  few_outputs = omega (arith, candidate.few_outputs, same_outputs N M candidate, same_output_count before M ports);
}

module _ (q : LevelQuestion) (before : NetValue) (p : ℕ) where
  -- what the error of the net after the change is at most, against the net before it
  abbrev most_change : ℕ
  most_change = 2 ^ p - 1 - 2 * q.k

  pub enough : IsCandidate q.nets.exact q.nets.approx → IsCandidate before q.nets.approx → IsDistance q.metric → input_count before ≡ input_count q.nets.approx
      → IsWithin q.metric q.nets.exact q.k before → IsWithin q.metric before most_change q.nets.approx → 2 ≤ p → p < length q.nets.exact.outputs → q.k < 2 ^ (p - 2) → AreEnough q p
  enough candidate pair is inputs keeps near two few less = record {
    few = omega (arith, few);
    fits = omega (arith, less, (powers p two).0, (powers p two).1);
    apart = λ x width over.
        let e : List Bool = outputs_of q.nets.exact x in
        let m : List Bool = outputs_of before x in
        let a : List Bool = outputs_of q.nets.approx x in
        let a_width : length a ≡ length q.nets.approx.outputs = length-outputs_of q.nets.approx x in
        let e_width : length e ≡ length a = length-outputs_of q.nets.exact x ∙ same_outputs q.nets.exact q.nets.approx candidate ∙ sym a_width in
        let m_width : length m ≡ length a = length-outputs_of before x ∙ same_outputs before q.nets.approx pair ∙ sym a_width in
        let before_width : length x ≡ input_count before = width ∙ sym (same_inputs q.nets.exact q.nets.approx candidate) ∙ sym inputs in
        let first : word_error q.metric.kind e m ≤ q.k = subst (λ n. n ≤ q.k) (one_word_error q.metric q.nets.exact before x is.whole (e_width ∙ sym m_width)) (keeps x width) in
        let second : word_error q.metric.kind m a ≤ most_change = subst (λ n. n ≤ most_change) (one_word_error q.metric before q.nets.approx x is.whole m_width) (near x before_width) in
        let third : word_error q.metric.kind e a ≤ word_error q.metric.kind e m + word_error q.metric.kind m a = word_triangle q.metric.kind e m a is.kind (e_width ∙ sym m_width) m_width in
        words_apart q.metric.kind p q.k e a is.kind e_width (omega (arith, few, length-outputs_of q.nets.exact x))
        (subst (λ n. q.k < n) (one_word_error q.metric q.nets.exact q.nets.approx x is.whole e_width) over)
        (omega (arith, first, second, third, less, (powers p two).0, (powers p two).1));
  }

-- ---- the literals

-- the low outputs of both nets
pub low_is : (a b : GraphValue) (nets : NetPair) (p : ℕ) (inputs exact approx both : List ℕ) → Grows a b → IsCandidate nets.exact nets.approx → p ≤ length nets.exact.outputs
    → AreOutputsOver a nets.exact inputs exact → AreOutputsOver b nets.approx inputs approx → both ≡ take p exact ++ take p approx → AreLowOutputs b nets p inputs both
low_is a b nets p inputs exact approx both up candidate few first second is = record {
  count = ap length is ∙ length-append (take p exact) (take p approx)
      ∙ (λ i. length-take-le p exact (omega (arith, few, first.count)) i + length-take-le p approx (omega (arith, few, second.count, same_outputs nets.exact nets.approx candidate)) i);
  within = rw is (All-append (IsLiteralOf b) (take p exact) (take p approx)
      (All-take (IsLiteralOf b) p exact (All-weaker (IsLiteralOf a) (IsLiteralOf b) (λ l within. literal_later a b l up within) exact first.within))
      (All-take (IsLiteralOf b) p approx second.within));
  is = λ x v val.
      let val_a : IsConsistent a x v = consistent_before a b x v up val in
      ap (map (literal_value v)) is ∙ map-append (literal_value v) (take p exact) (take p approx)
      ∙ (λ i. sym (take-map (literal_value v) p exact) i ++ sym (take-map (literal_value v) p approx) i)
      ∙ (λ i. take p (first.is x v val_a i) ++ take p (second.is x v val i));
}

-- the network of a level over two words of p bits
pub apart_is : (g : GraphValue) (both over : List ℕ) (metric : Metric) (Q : NetValue) (p k l d : ℕ) → metric ≡ one_word Abs → length both ≡ p + p → TellsLevel metric p k Q
    → AreOutputsOver g Q both over → l ≡ get_or over 0 d → IsApartLiteral g both p k l
apart_is g both over metric Q p k l d plain count level asked read =
    let some : 0 < length over = omega (arith, asked.count, level.one) in
    record {
      within = rw read (asked.within 0 d some);
      is = λ x v val.
          let bits : List Bool = map (literal_value v) both in
          let width : length bits ≡ p + p = length-map both (literal_value v) ∙ count in
          let halves : length (take p bits) ≡ length (drop p bits) = length-take-le p bits (omega (arith, width)) ∙ omega (arith, length-drop p bits, width) in
          let told : map (literal_value v) over ≡ ltb k (halves_distance p bits) ∷ [] =
          asked.is x v val ∙ level.tells bits width ∙ ap (λ (m : Metric). ltb k (error_of m (take p bits) (drop p bits)) ∷ []) plain
          ∙ ap (λ n. ltb k n ∷ []) (in_one_word Abs (take p bits) (drop p bits) halves) in
          ap (literal_value v) read ∙ sym (get_or-map (literal_value v) over 0 d false some) ∙ ap (λ (bits : List Bool). get_or bits 0 false) told;
    }

conjunction : (a b : Bool) → a ≡ true → b ≡ false → (a && not b) ≡ true
conjunction a b is other = cc

module _ (a b c d : GraphValue) (q : LevelQuestion) (p : ℕ) (inputs both : List ℕ) (beyond around other l : ℕ) where
  -- more than the level apart, and not too far
  pub low_over : Grows a b → Grows b c → Grows c d → IsCandidate q.nets.exact q.nets.approx → length inputs ≡ input_count q.nets.exact → AreEnough q p → AreLowOutputs a q.nets p inputs both
      → IsApartLiteral b both p q.k beyond → IsApartLiteral c both p (2 ^ p - 1 - q.k) around → IsOppositeOf around other → IsConjunctionOf d beyond other l → IsTrueWhereOver d q inputs l
  low_over ab bc cd candidate count enough low first second turned joined = record {
    within = joined.within;
    over = λ x v val exceeds.
        let val_c : IsConsistent c x v = consistent_before c d x v cd val in
        let val_b : IsConsistent b x v = consistent_before b c x v bc val_c in
        let val_a : IsConsistent a x v = consistent_before a b x v ab val_b in
        let at_x : List Bool = map (literal_value v) inputs in
        let e : List Bool = outputs_of q.nets.exact at_x in
        let m : List Bool = outputs_of q.nets.approx at_x in
        let far : AreApart p q.k e m = enough.apart at_x (length-map inputs (literal_value v) ∙ count) exceeds in
        let e_width : length (take p e) ≡ p = length-take-le p e (omega (arith, enough.few, length-outputs_of q.nets.exact at_x)) in
        let bits_are = low.is x v val_a in
        let front : take p (map (literal_value v) both) ≡ take p e = ap (take p) bits_are ∙ subst (λ n. take n (take p e ++ take p m) ≡ take p e) e_width (take-append_seam (take p e) (take p m)) in
        let rest : drop p (map (literal_value v) both) ≡ take p m = ap (drop p) bits_are ∙ subst (λ n. drop n (take p e ++ take p m) ≡ take p m) e_width (drop-append_seam (take p e) (take p m)) in
        let halves : halves_distance p (map (literal_value v) both) ≡ low_distance p e m = λ i. distance (number_of (front i)) (number_of (rest i)) in
        let more : literal_value v beyond ≡ true = first.is x v val_b ∙ lt-ltb q.k _ (subst (λ n. q.k < n) (sym halves) far.beyond) in
        let not_around : literal_value v around ≡ false =
        second.is x v val_c ∙ le-ltb (2 ^ p - 1 - q.k) _ (subst (λ n. n ≤ 2 ^ p - 1 - q.k) (sym halves) (omega (arith, far.around))) in
        joined.is x v val ∙ ap (λ t. literal_value v beyond && t) (turned.is v) ∙ conjunction (literal_value v beyond) (literal_value v around) more not_around;
  }
