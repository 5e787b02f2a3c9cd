-- The tables of a model, one part after another.
use Rattle.std.proofs.Common.{◌≡◌, ℕ, ◌+◌, ◌-◌, ◌^◌, ◌<◌, ◌≤◌, zero, suc, Bool, false, List, [], ◌∷◌, ◌++◌, map, length, get_or, take, decimal, ap, sym, subst, ◌∙◌, arith}
use Rattle.std.specs.Borrow.{Bor}
use Rattle.std.specs.List.{AllByRecursion}
use Rattle.std.proofs.lemmas.Fmt.{length-decimal-le}
use Rattle.std.proofs.lemmas.List.{map_push, map_more}
use Rattle.std.proofs.lemmas.List.Elements.{All-cons}
use Rattle.semantics.specs.Texts.{Bytes}
use Rattle.semantics.specs.Net.{TableValue, IsNameByte, IsName}
use Rattle.semantics.proofs.NumberedNames.{IsName-numbered}
use Rattle.text_words.specs.Slices.{texts}
use Rattle.hierarchy_semantics.specs.Models.{BlifModel, Hierarchy}
use Rattle.hier_flat.specs.Flattening.{with_parts, with_model}

-- what all are, each is
pub at_part : {X Y : Type 0} (P : Y → Type 0) (f : X → Y) (xs : List X) (i : ℕ) (x : X) → AllByRecursion P (map f xs) → i < length xs → get_or xs i x ≡ x → P (f x)
at_part P f [] i x all within is = absurd (omega (arith, within))
at_part P f (y ∷ xs) zero x all within is = subst (λ z. P (f z)) is all.0
at_part P f (y ∷ xs) (suc i) x all within is = at_part P f xs i x all.1 (omega (arith, within)) is

pub at_item : {X : Type 0} (P : X → Type 0) (xs : List X) (i : ℕ) (x : X) → AllByRecursion P xs → i < length xs → get_or xs i x ≡ x → P x
at_item P [] i x all within is = absurd (omega (arith, within))
at_item P (y ∷ xs) zero x all within is = subst P is all.0
at_item P (y ∷ xs) (suc i) x all within is = at_item P xs i x all.1 (omega (arith, within)) is

pub all_push : {X : Type 0} (P : X → Type 0) (xs : List X) (x : X) → AllByRecursion P xs → P x → AllByRecursion P (xs ++ x ∷ [])
all_push P [] x all here = (here, tt)
all_push P (y ∷ xs) x all here = (all.0, all_push P xs x all.1 here)

pub levels_made : (h : Hierarchy) (n levels : ℕ) (own : Bool) (signal : Bytes → ℕ) (m : BlifModel) (tables : List TableValue) → 0 < levels
    → with_parts h n (with_model h n (levels - 1) false) own signal m.parts tables ≡ with_model h n levels own signal m tables
levels_made h n zero own signal m tables some = absurd (omega (arith, some))
levels_made h n (suc l) own signal m tables some =
    let less : suc l - 1 ≡ l = omega arith in
    ap (λ k. with_parts h n (with_model h n k false) own signal m.parts tables) less

-- ---- names

-- `$u` and a number is a name
pub dollar_name : (n : ℕ) → n < 2 ^ 64 → IsName (36 ∷ 117 ∷ decimal n)
dollar_name n small =
    let digits : length (decimal n) ≤ 20 = length-decimal-le 20 n (omega arith) (omega arith) (omega arith) in
    let name : IsName (117 ∷ decimal n) = IsName-numbered 117 n (omega arith, omega arith, omega arith) small in
    record {
      not_empty = omega arith;
      short = omega (arith, digits);
      printable = All-cons IsNameByte 36 (117 ∷ decimal n) (omega arith, omega arith, omega arith) name.printable;
      ending = λ e.
          let place : suc (suc (length (decimal n))) - 1 ≡ suc (suc (length (decimal n)) - 1) = omega arith in
          let last : get_or (117 ∷ decimal n) (suc (length (decimal n)) - 1) 0 ≡ 92 = rw place at e in
          name.ending last;
    }

-- one word more
pub word_more : (words : List (Bor Bytes)) (i : ℕ) (w : Bor Bytes) → i < length words → texts (take (i + 1) words) ≡ texts (take i words) ++ (get_or words i w).now ∷ []
word_more words i w within = map_more (λ x. x.now) words i w within

pub words_next : {X : Type 0} (f : Bytes → X) (words : List (Bor Bytes)) (i : ℕ) (w : Bor Bytes) (found : List X) (s : X) → i < length words → s ≡ f (get_or words i w).now
    → found ≡ map f (texts (take i words)) → found ++ s ∷ [] ≡ map f (texts (take (i + 1) words))
words_next f words i w found s within is so_far =
    ap (λ l. l ++ s ∷ []) so_far
    ∙ ap (λ n. map f (texts (take i words)) ++ n ∷ []) is
    ∙ sym (map_push f (texts (take i words)) (get_or words i w).now)
    ∙ ap (map f) (sym (word_more words i w within))
