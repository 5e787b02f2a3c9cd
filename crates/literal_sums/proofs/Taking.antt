-- Words that are taken away from sums over graphs that grow.
use Rattle.std.proofs.Common.{◌≡◌, ℕ, suc, ◌+◌, ◌*◌, ◌^◌, List, [], ◌∷◌, ◌++◌, length, refl, sym, ap, subst, ◌∙◌, arith}
use Rattle.semantics.specs.Value.{Assignment}
use Rattle.aig_core.specs.Graph.{GraphValue, IsLiteralOf}
use Rattle.aig_core.specs.Grown.{Grows}
use Rattle.aig_core.proofs.Growing.{consistent_before, literal_later, grows_trans, grows_refl}
use Rattle.literal_sums.specs.declared.term.Term.{Term}
use Rattle.literal_sums.specs.Sums.{literal_count, sum_value, word_value, AgreeAsSums, HasMore}
use Rattle.std.proofs.Math.Nat.{pow-suc}
use Rattle.std.proofs.lemmas.List.Elements.{All-push}
use Rattle.std.proofs.lemmas.List.{length_push}
use Rattle.literal_sums.proofs.Counting.{word_nil}
use Rattle.literal_sums.specs.Words.{IsPlaceTaken, IsWordTaken, IsWordOf}

pub sums_same : (g : GraphValue) (ts : List Term) → AgreeAsSums g ts ts
sums_same g ts = record { is = λ x v val. refl }

pub sums_joined : (before g : GraphValue) (first second third : List Term) → Grows before g → AgreeAsSums before second first → AgreeAsSums g third second → AgreeAsSums g third first
sums_joined before g first second third grows old new = record {
  is = λ x v val. new.is x v val ∙ old.is x v (consistent_before before g x v grows val);
}

pub place_taken : (g : GraphValue) (weight l : ℕ) (old now new : List Term) → IsLiteralOf g l → AgreeAsSums g now old → HasMore l weight new now → IsPlaceTaken g weight l old new
place_taken g weight l old now new within same more = record {
  within = within;
  is = λ x v val. sym (same.is x v val) ∙ more.is v val.constant;
}

-- ---- places

-- the sum so far, over a graph that grows
pub record IsSumSoFar (old g : GraphValue) (first now : List Term) : Type 0 where
  pub grows : Grows old g
  pub same : AgreeAsSums g now first

pub sum_step : (old before g : GraphValue) (first now new : List Term) → IsSumSoFar old before first now → Grows before g → AgreeAsSums g new now → IsSumSoFar old g first new
sum_step old before g first now new so_far grows same = record {
  grows = grows_trans old before g so_far.grows grows;
  same = sums_joined before g first now new grows so_far.same same;
}

module _ (v : Assignment) (l : ℕ) where
  two_pow : (n : ℕ) → 2 * 2 ^ n ≡ 2 ^ suc n
  two_pow n = omega (arith, pow-suc 2 n)

  pub word_push : (ls : List ℕ) (n : ℕ) → word_value v (2 ^ n) (ls ++ l ∷ []) ≡ word_value v (2 ^ n) ls + literal_count l (2 ^ (length ls + n)) v
  unfolding word_value
  word_push [] n =
      let same : 0 + n ≡ n = omega arith in
      omega (arith, ap (λ m. literal_count l (2 ^ m) v) same)
  word_push (m ∷ ls) n =
      let rest = word_push ls (suc n) in
      let all : word_value v (2 * 2 ^ n) (ls ++ l ∷ []) ≡ word_value v (2 ^ suc n) (ls ++ l ∷ []) = ap (λ w. word_value v w (ls ++ l ∷ [])) (two_pow n) in
      let part : word_value v (2 * 2 ^ n) ls ≡ word_value v (2 ^ suc n) ls = ap (λ w. word_value v w ls) (two_pow n) in
      let at : suc (length ls) + n ≡ length ls + suc n = omega arith in
      omega (arith, rest, all, part, ap (λ m. literal_count l (2 ^ m) v) at)

pub word_taken_none : (g : GraphValue) (shift : ℕ) (old : List Term) → IsWordTaken g shift [] old old
word_taken_none g shift old = record {
  within = λ k d low. absurd (omega arith);
  is = λ x v val. omega (arith, word_nil v (2 ^ shift));
}

pub word_taken_more : (before g : GraphValue) (shift place weight l : ℕ) (word : List ℕ) (old now new : List Term) → Grows before g → length word + shift ≡ place → weight ≡ 2 ^ place
    → IsWordTaken before shift word old now → IsPlaceTaken g weight l now new → IsWordTaken g shift (word ++ l ∷ []) old new
word_taken_more before g shift place weight l word old now new grows long is_weight taken more = record {
  within = All-push (IsLiteralOf g) word l (λ k d low. literal_later before g _ grows (taken.within k d low)) more.within;
  is = λ x v val.
      let before_is = taken.is x v (consistent_before before g x v grows val) in
      let same : literal_count l weight v ≡ literal_count l (2 ^ (length word + shift)) v = ap (λ w. literal_count l w v) (is_weight ∙ ap (λ n. 2 ^ n) (sym long)) in
      omega (arith, before_is, same, more.is x v val, word_push v l word shift);
}

pub word_whole : (g : GraphValue) (shift : ℕ) (word : List ℕ) (terms old new : List Term) → length word + shift ≡ 32 → old ≡ terms → ((v : Assignment) → sum_value v new ≡ 0)
    → IsWordTaken g shift word old new → IsWordOf g terms shift word
word_whole g shift word terms old new long copied none taken = record {
  long = long;
  within = taken.within;
  is = λ x v val. omega (arith, taken.is x v val, none v, ap (sum_value v) copied);
}

-- the places below one were taken away, over a graph that grows
pub record ArePlacesTaken (old g : GraphValue) (shift place : ℕ) (word : List ℕ) (first now : List Term) : Type 0 where
  pub grows : Grows old g
  pub long : length word + shift ≡ place
  pub taken : IsWordTaken g shift word first now

pub places_none : (old : GraphValue) (shift : ℕ) (word : List ℕ) (first : List Term) → word ≡ [] → ArePlacesTaken old old shift shift word first first
places_none old shift word first none = subst (λ (ls : List ℕ). ArePlacesTaken old old shift shift ls first first) (sym none) (record {
  grows = grows_refl old;
  long = omega arith;
  taken = word_taken_none old shift first;
})

pub places_more : (old before g : GraphValue) (shift place weight l : ℕ) (word longer : List ℕ) (first now new : List Term) → longer ≡ word ++ l ∷ []
    → ArePlacesTaken old before shift place word first now → weight ≡ 2 ^ place → Grows before g → IsPlaceTaken g weight l now new → ArePlacesTaken old g shift (place + 1) longer first new
places_more old before g shift place weight l word longer first now new is so_far is_weight grows more = subst (λ (ls : List ℕ). ArePlacesTaken old g shift (place + 1) ls first new) (sym is) (record {
  grows = grows_trans old before g so_far.grows grows;
  long = omega (arith, length_push word l, so_far.long);
  taken = word_taken_more before g shift place weight l word first now new grows so_far.long is_weight so_far.taken more;
})
