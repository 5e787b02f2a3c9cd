-- What sums and words count, modulo 2^32.
use Rattle.std.proofs.Common.{◌≡◌, ℕ, ◌+◌, ◌*◌, ◌%◌, ◌<◌, ◌≤◌, Bool, true, false, not, List, [], ◌∷◌, ◌++◌, length, get_or, set, take, drop, refl, sym, ap, subst, ◌∙◌, arith}
use Rattle.std.specs.Prelude.{sum_by}
use Rattle.std.specs.List.{swap_remove}
use Rattle.std.proofs.lemmas.List.{nil_from_length, get_or_read, drop_more, take_more, drop_all}
use Rattle.std.proofs.lemmas.List.Sums.{sum_by-cons, sum_by_push, sum_by-set, sum_by-swap_remove}
use Rattle.semantics.specs.Value.{Assignment}
use Rattle.aig_core.specs.Graph.{literal_value, GraphValue}
use Rattle.literal_sums.specs.declared.term.Term.{Term}
use Rattle.literal_sums.specs.Sums.{Agree, counted, literal_count, sum_value, word_value, HasConstant, CountsMore, HasMore, AgreeAsSums}
use Rattle.literal_sums.specs.declared.adder.Adder.{Adder}
use Rattle.literal_sums.specs.Adders.{bit, IsAdder, HasSwapped}

-- what one term counts
abbrev pub term_value : Assignment → Term → ℕ
term_value v t = counted (literal_value v t.literal) t.weight

module _ (v : Assignment) where
  pub sum_nil : sum_value v [] ≡ 0
  unfolding sum_value
  sum_nil = refl

  pub sum_is : (ts : List Term) → sum_value v ts ≡ sum_by (term_value v) ts
  unfolding sum_value
  sum_is [] = refl
  sum_is (t ∷ ts) = omega (arith, sum_is ts, sum_by-cons (term_value v) t ts)

  pub sum_push : (ts : List Term) (t : Term) → sum_value v (ts ++ t ∷ []) ≡ sum_value v ts + term_value v t
  sum_push ts t = sum_is (ts ++ t ∷ []) ∙ sum_by_push (term_value v) ts t ∙ ap (λ n. n + term_value v t) (sym (sum_is ts))

  pub sum_more : (ts : List Term) (i : ℕ) (d : Term) → i < length ts → sum_value v (take (i + 1) ts) ≡ sum_value v (take i ts) + term_value v (get_or ts i d)
  sum_more ts i d low = ap (sum_value v) (take_more ts i d low) ∙ sum_push (take i ts) (get_or ts i d)

  pub sum_set : (ts : List Term) (i : ℕ) (t d : Term) → i < length ts → sum_value v (set ts i t) + term_value v (get_or ts i d) ≡ sum_value v ts + term_value v t
  sum_set ts i t d low = omega (arith, sum_is ts, sum_is (set ts i t), sum_by-set (term_value v) ts i t d low)

  pub sum_removed : (ts : List Term) (i : ℕ) (d : Term) → i < length ts → sum_value v (swap_remove ts i d) + term_value v (get_or ts i d) ≡ sum_value v ts
  sum_removed ts i d low = omega (arith, sum_is ts, sum_is (swap_remove ts i d), sum_by-swap_remove (term_value v) ts i d low)

  -- ---- words

  pub word_nil : (weight : ℕ) → word_value v weight [] ≡ 0
  unfolding word_value
  word_nil weight = refl

  pub word_cons : (weight l : ℕ) (ls : List ℕ) → word_value v weight (l ∷ ls) ≡ literal_count l weight v + word_value v (2 * weight) ls
  unfolding word_value
  word_cons weight l ls = refl

-- ---- weights

pub counted_agrees : (b : Bool) (a c : ℕ) → Agree a c → Agree (counted b a) (counted b c)
counted_agrees true a c same = same
counted_agrees false a c same = refl

pub counted_sum : (b : Bool) (a c w : ℕ) → Agree (a + c) w → Agree (counted b a + counted b c) (counted b w)
counted_sum true a c w same = same
counted_sum false a c w same = refl

counted_zero : (b : Bool) → counted b 0 ≡ 0
counted_zero true = refl
counted_zero false = refl

pub counted_opposite : (b : Bool) (w n : ℕ) → (n + w) % 4294967296 ≡ 0 → Agree (counted b w) (w + counted (not b) n)
counted_opposite true w n none = omega arith
counted_opposite false w n none = omega (arith, none)

module _ (v : Assignment) where
  pub word_agrees : (ls : List ℕ) (a c : ℕ) → Agree a c → Agree (word_value v a ls) (word_value v c ls)
  unfolding word_value
  word_agrees [] a c same = refl
  word_agrees (l ∷ ls) a c same =
      let rest : Agree (word_value v (2 * a) ls) (word_value v (2 * c) ls) = word_agrees ls (2 * a) (2 * c) (omega (arith, same)) in
      let one : Agree (counted (literal_value v l) a) (counted (literal_value v l) c) = counted_agrees (literal_value v l) a c same in
      omega (arith, rest, one)

  pub word_cancels : (ls : List ℕ) (a c : ℕ) → (a + c) % 4294967296 ≡ 0 → (word_value v a ls + word_value v c ls) % 4294967296 ≡ 0
  unfolding word_value
  word_cancels [] a c none = refl
  word_cancels (l ∷ ls) a c none =
      let rest : (word_value v (2 * a) ls + word_value v (2 * c) ls) % 4294967296 ≡ 0 = word_cancels ls (2 * a) (2 * c) (omega (arith, none)) in
      let one : Agree (counted (literal_value v l) a + counted (literal_value v l) c) (counted (literal_value v l) 0) = counted_sum (literal_value v l) a c 0 none in
      let zero_is : counted (literal_value v l) 0 ≡ 0 = counted_zero (literal_value v l) in
      omega (arith, rest, one, zero_is)

-- ---- words that are counted literal by literal

-- what the rest of the word counts, and the sum so far, are what the whole counts and the sum before
pub record IsWordSoFar (word : List ℕ) (i whole weight : ℕ) (old now : List Term) : Type 0 where
  pub is : (v : Assignment) → HasConstant v → Agree (word_value v weight (drop i word) + sum_value v now) (word_value v whole word + sum_value v old)

pub word_start : (word : List ℕ) (weight : ℕ) (old : List Term) → IsWordSoFar word 0 weight weight old old
word_start word weight old = record { is = λ v val. refl }

pub word_step : (word : List ℕ) (i whole weight next : ℕ) (old now new : List Term) → i < length word → next ≡ (weight + weight) % 4294967296
    → IsWordSoFar word i whole weight old now → HasMore (get_or word i 0) weight now new → IsWordSoFar word (i + 1) whole next old new
word_step word i whole weight next old now new low twice so_far more = record {
  is = λ v val.
      let rest : word_value v weight (drop i word) ≡ literal_count (get_or word i 0) weight v + word_value v (2 * weight) (drop (i + 1) word)
      = ap (word_value v weight) (drop_more word i 0 low) ∙ word_cons v weight (get_or word i 0) (drop (i + 1) word) in
      let anew : Agree (word_value v next (drop (i + 1) word)) (word_value v (2 * weight) (drop (i + 1) word)) = word_agrees v (drop (i + 1) word) next (2 * weight) (omega (arith, twice)) in
      omega (arith, rest, anew, so_far.is v val, more.is v val);
}

pub word_done : (word : List ℕ) (i whole weight : ℕ) (old now : List Term) → length word ≤ i → IsWordSoFar word i whole weight old now → CountsMore (λ v. word_value v whole word) old now
word_done word i whole weight old now end so_far = record {
  is = λ v val.
      let rest : word_value v weight (drop i word) ≡ 0 = ap (word_value v weight) (drop_all i word end) ∙ word_nil v weight in
      omega (arith, rest, so_far.is v val);
}

pub word_back : (word : List ℕ) (w n : ℕ) (old new : List Term) → (n + w) % 4294967296 ≡ 0 → CountsMore (λ v. word_value v n word) old new → CountsMore (λ v. word_value v w word) new old
word_back word w n old new none more = record { is = λ v val. omega (arith, none, more.is v val, word_cancels v word n w none) }

-- ---- the terms of a sum

pub nothing : (ts : List Term) → length ts ≡ 0 → (v : Assignment) → sum_value v ts ≡ 0
nothing ts none v = ap (sum_value v) (nil_from_length ts none) ∙ sum_nil v

module _ (old ts : List Term) (view : old ≡ ts) where
  pub push_more : (new : List Term) (t : Term) → new ≡ ts ++ t ∷ [] → HasMore t.literal t.weight old new
  push_more new t is = record { is = λ v val. omega (arith, ap (sum_value v) view, ap (sum_value v) is, sum_push v ts t) }

  module _ (at w : ℕ) (read : Term) (low : at < length ts) (here : read ≡ get_or ts at read) where
    at_any : (d : Term) → read ≡ get_or ts at d
    at_any d = get_or_read ts at read low here d

    read_counts : (v : Assignment) (d : Term) → term_value v (get_or ts at d) ≡ counted (literal_value v read.literal) read.weight
    read_counts v d = ap (term_value v) (sym (at_any d))

    same_literal : (t : Term) → read.literal ≡ (get_or old at t).literal
    same_literal t = ap (λ (u : Term). u.literal) (at_any t) ∙ ap (λ (us : List Term). (get_or us at t).literal) (sym view)

    pub removed_more : (new : List Term) (d : Term) → new ≡ swap_remove ts at d → (read.weight + w) % 4294967296 ≡ 0 → (t : Term) → HasMore (get_or old at t).literal w old new
    removed_more new d is none t = subst (λ l. HasMore l w old new) (same_literal t) (record {
      is = λ v val.
          let both : Agree (counted (literal_value v read.literal) read.weight + counted (literal_value v read.literal) w) (counted (literal_value v read.literal) 0)
          = counted_sum (literal_value v read.literal) read.weight w 0 none in
          omega (arith, both, counted_zero (literal_value v read.literal), ap (sum_value v) view, ap (sum_value v) is, sum_removed v ts at d low, read_counts v d);
    })

    pub set_more : (new : List Term) (written : Term) → new ≡ set ts at written → written.literal ≡ read.literal → written.weight ≡ (read.weight + w) % 4294967296
        → (t : Term) → HasMore (get_or old at t).literal w old new
    set_more new written is literal weight t = subst (λ l. HasMore l w old new) (same_literal t) (record {
      is = λ v val.
          let both : Agree (counted (literal_value v read.literal) read.weight + counted (literal_value v read.literal) w) (counted (literal_value v read.literal) written.weight)
          = counted_sum (literal_value v read.literal) read.weight w written.weight (omega (arith, weight)) in
          let same : term_value v written ≡ counted (literal_value v read.literal) written.weight = ap (λ l. counted (literal_value v l) written.weight) literal in
          omega (arith, both, same, ap (sum_value v) view, ap (sum_value v) is, sum_set v ts at written read low, read_counts v read);
    })

-- terms that are counted one by one, and taken away so
module _ (terms : List Term) (i : ℕ) (old now new : List Term) (low : i < length terms) (d : Term) where
  pub counted_step : CountsMore (λ v. sum_value v (take i terms)) old now → HasMore (get_or terms i d).literal (get_or terms i d).weight now new
      → CountsMore (λ v. sum_value v (take (i + 1) terms)) old new
  counted_step so_far more = record { is = λ v val. omega (arith, sum_more v terms i d low, so_far.is v val, more.is v val) }

  pub taken_step : CountsMore (λ v. sum_value v (take i terms)) now old → HasMore (get_or terms i d).literal (get_or terms i d).weight new now
      → CountsMore (λ v. sum_value v (take (i + 1) terms)) new old
  taken_step so_far more = record { is = λ v val. omega (arith, sum_more v terms i d low, so_far.is v val, more.is v val) }

pub counted_none : (terms old : List Term) → CountsMore (λ v. sum_value v (take 0 terms)) old old
counted_none terms old = record { is = λ v val. omega (arith, sum_nil v) }

-- ---- adders

counted_bit : (b : Bool) (w : ℕ) → counted b w ≡ bit b * w
counted_bit true w = omega arith
counted_bit false w = omega arith

adder_counts : (a b c s k : Bool) (w : ℕ) → bit a + bit b + bit c ≡ bit s + 2 * bit k → counted a w + counted b w + counted c w ≡ counted s w + counted k (2 * w)
adder_counts a b c s k w is =
    let whole : (bit a + bit b + bit c) * w ≡ (bit s + 2 * bit k) * w = ap (λ n. n * w) is in
    omega (arith, whole, counted_bit a w, counted_bit b w, counted_bit c w, counted_bit s w, counted_bit k (2 * w))

pub swapped_agrees : (g : GraphValue) (adder : Adder) (w : ℕ) (old new : List Term) → IsAdder g adder → HasSwapped adder w old new → AgreeAsSums g new old
swapped_agrees g adder w old new adds swapped = record {
  is = λ x v val.
      let same =
      adder_counts (literal_value v adder.first) (literal_value v adder.second) (literal_value v adder.third) (literal_value v adder.sum) (literal_value v adder.carry) w (adds.is x v val) in
      omega (arith, same, swapped.is v val.constant);
}

pub no_term : Term
no_term = record { literal = 0; weight = 0 }

pub same_read : (ts : List Term) (at : ℕ) (a b : Term) → at < length ts → a ≡ get_or ts at a → b ≡ get_or ts at b → a ≡ b
same_read ts at a b low first second = get_or_read ts at a low first b ∙ sym second
