-- The four cases of a product.
use Rattle.std.proofs.Common.{◌≡◌, ◌≢◌, ℕ, zero, suc, ◌+◌, ◌/◌, ◌%◌, ◌<◌, ◌==◌, List, [], ◌∷◌, ◌++◌, map, cond, append_assoc, append-nil, add-zero, add-one, refl, ap, sym, ◌∙◌, arith}
use Rattle.std.specs.List.{range_with_len}
use Rattle.std.proofs.lemmas.Bool.{eq-eqb, ne_eqb}
use Rattle.quality_semantics.specs.Buses.{binary, doubled_and, times, add, constant}
use Rattle.quality_semantics.specs.WordNets.{WordNetValue, signals}
use Rattle.std.proofs.lemmas.List.Elements.{All-push}
use Rattle.bus_nets.proofs.Steps.{Pushing, Counted}
use Rattle.quality_semantics.proofs.Binary.{binary_more}

pub times_none : (W : WordNetValue) (x : List ℕ) (k : ℕ) → k ≡ 0 → times W x k ≡ record { net = W; bus = [] }
unfolding binary
times_none W x k e = rw e refl

pub times_one : (W : WordNetValue) (x : List ℕ) (k : ℕ) → k ≡ 1 → times W x k ≡ record { net = W; bus = x }
unfolding binary
times_one W x k e = rw e refl

times_more : (W : WordNetValue) (x : List ℕ) (k : ℕ) → k ≢ 0 → k ≢ 1 → times W x k ≡ doubled_and (k % 2 == 1) (times W x (k / 2)) x
times_more W x k h g =
    let high = binary_more (k / 2) (omega arith) in
    rw (binary_more k (omega arith), high) refl

pub times_even : (W : WordNetValue) (x : List ℕ) (k : ℕ) → k ≢ 0 → k ≢ 1 → k % 2 ≢ 1
    → times W x k ≡ record { net = (times W x (k / 2)).net; bus = (times W x (k / 2)).net.inputs ∷ (times W x (k / 2)).bus }
times_even W x k h g even = times_more W x k h g ∙ ap (λ b. doubled_and b (times W x (k / 2)) x) (ne_eqb (k % 2) 1 even)

pub times_odd : (W : WordNetValue) (x : List ℕ) (k : ℕ) → k ≢ 0 → k ≢ 1 → k % 2 ≡ 1 → times W x k ≡ add (times W x (k / 2)).net ((times W x (k / 2)).net.inputs ∷ (times W x (k / 2)).bus) x
times_odd W x k h g odd = times_more W x k h g ∙ ap (λ b. doubled_and b (times W x (k / 2)) x) (eq-eqb (k % 2) 1 odd)

pub constant_more : (W : WordNetValue) (k : ℕ) → k ≢ 0 → constant W k ≡ cond (k % 2 == 1) (suc W.inputs) W.inputs ∷ constant W (k / 2)
constant_more W k some = ap (λ bits. map (λ b. cond b (suc W.inputs) W.inputs) bits) (binary_more k (omega arith))

pub constant_none : (W : WordNetValue) (k : ℕ) → k ≡ 0 → constant W k ≡ []
unfolding binary
constant_none W k e = rw e refl

range_suc : (a n : ℕ) → range_with_len a (suc n) ≡ range_with_len a n ++ (a + n) ∷ []
range_suc a zero = rw add-zero refl
range_suc a (suc n) =
    let place : (a + 1) + n ≡ a + suc n = omega arith in
    ap (λ r. a ∷ r) (range_suc (a + 1) n ∙ rw place refl)

pub range_more : (a n : ℕ) → range_with_len a (n + 1) ≡ range_with_len a n ++ (a + n) ∷ []
range_more a n = rw add-one (range_suc a n)

pub pushing_more : (W : WordNetValue) (k : ℕ) (bus bus' : List ℕ) (left s : ℕ) → Pushing W k bus left → left ≢ 0 → s ≡ cond (left % 2 == 1) (suc W.inputs) W.inputs → s < signals W
    → bus' ≡ bus ++ s ∷ [] → Pushing W k bus' (left / 2)
pushing_more W k bus bus' left s h some es below e = record {
  bits_in = rw e (All-push (λ p. p < signals W) bus s h.bits_in below);
  rest = rw (e, es, append_assoc) (ap (λ r. bus ++ r) (sym (constant_more W left some)) ∙ h.rest);
}

pub pushing_all : (W : WordNetValue) (k : ℕ) (bus : List ℕ) (left : ℕ) → Pushing W k bus left → left ≡ 0 → bus ≡ constant W k
pushing_all W k bus left h e = sym (append-nil bus) ∙ ap (λ r. bus ++ r) (sym (constant_none W left e)) ∙ h.rest

pub counted_more : (W : WordNetValue) (from : ℕ) (bus bus' : List ℕ) (i s : ℕ) → Counted W from bus i → s ≡ from + i → s < signals W → bus' ≡ bus ++ s ∷ [] → Counted W from bus' (i + 1)
counted_more W from bus bus' i s h es below e = record {
  bits_in = rw e (All-push (λ p. p < signals W) bus s h.bits_in below);
  is = rw (e, h.is, es) (sym (range_more from i));
}
