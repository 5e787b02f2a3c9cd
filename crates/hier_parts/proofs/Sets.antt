-- Which names a set has.
use Rattle.std.proofs.Common.{◌≡◌, Bool, true, false, ◌||◌, cond, List, [], ◌∷◌, ◌++◌, bytes_eq, Some, None, append_assoc, append-nil, refl, ap, sym, ◌∙◌}
use Rattle.std.specs.Borrow.{Bor}
use Rattle.std.specs.List.{list_any}
use Rattle.std.proofs.lemmas.List.{map_push}
use Rattle.std.proofs.lemmas.Option.{none-some}
use Rattle.std.proofs.lemmas.Slice.Eq.{bytes_eq-Decides}
use Rattle.text_words.specs.Slices.{texts}
use Rattle.blif_text.proofs.Places.{has_name-texts}
use Rattle.semantics.specs.Texts.{Bytes}
use Rattle.semantics.specs.Refusals.{has_name, first_doubled_after, first_doubled}
use Rattle.hier_parts.specs.Sets.{with_name, with_names}

or_assoc : (a b c : Bool) → a || (b || c) ≡ (a || b) || c
or_assoc true b c = refl
or_assoc false b c = refl

or_false : (a : Bool) → a || false ≡ a
or_false true = refl
or_false false = refl

or_true : (a : Bool) → a || true ≡ true
or_true true = refl
or_true false = refl

has-append : (xs ys : List Bytes) (word : Bytes) → has_name (xs ++ ys) word ≡ has_name xs word || has_name ys word
has-append [] ys word = refl
has-append (x ∷ xs) ys word = ap (λ (b : Bool). bytes_eq word x || b) (has-append xs ys word) ∙ or_assoc (bytes_eq word x) (has_name xs word) (has_name ys word)

-- a set with a name has it, and the others as before
has-with_name : (names : List Bytes) (name word : Bytes) → has_name (with_name names name) word ≡ has_name names word || bytes_eq word name
has-with_name names name word = at_test (has_name names name) refl (bytes_eq word name) refl
  where
    at_test : (t : Bool) → has_name names name ≡ t → (e : Bool) → bytes_eq word name ≡ e → has_name (cond t names (names ++ name ∷ [])) word ≡ has_name names word || e
    at_test false is e same = has-append names (name ∷ []) word ∙ ap (λ (b : Bool). has_name names word || (b || false)) same ∙ ap (λ (b : Bool). has_name names word || b) (or_false e)
    at_test true is false same = sym (or_false (has_name names word))
    at_test true is true same =
        let equal : word ≡ name = (bytes_eq-Decides word name).0 same in
        let there : has_name names word ≡ true = ap (has_name names) equal ∙ is in
        there ∙ sym (or_true (has_name names word))

pub has-with_names : (names more : List Bytes) (word : Bytes) → has_name (with_names names more) word ≡ has_name names word || has_name more word
has-with_names names [] word = sym (or_false (has_name names word))
has-with_names names (name ∷ more) word =
    has-with_names (with_name names name) more word
    ∙ ap (λ (b : Bool). b || has_name more word) (has-with_name names name word)
    ∙ sym (or_assoc (has_name names word) (bytes_eq word name) (has_name more word))

-- the set of names has them
pub has-set : (names : List Bytes) (word : Bytes) → has_name (with_names [] names) word ≡ has_name names word
has-set names word = has-with_names [] names word

-- the keys of a set to which a name was added
pub texts-insert : (keys new : List (Bor Bytes)) (name : Bor Bytes) (old : List Bytes) → new ≡ cond (list_any (λ k. bytes_eq name.now k.now) keys) keys (keys ++ name ∷ []) → texts keys ≡ old
    → texts new ≡ with_name old name.now
texts-insert keys new name old is same = at_test (list_any (λ k. bytes_eq name.now k.now) keys) refl is
  where
    at_test : (b : Bool) → list_any (λ k. bytes_eq name.now k.now) keys ≡ b → new ≡ cond b keys (keys ++ name ∷ []) → texts new ≡ with_name old name.now
    at_test true there e =
        let has : has_name old name.now ≡ true = ap (λ v. has_name v name.now) (sym same) ∙ sym (has_name-texts name.now keys) ∙ there in
        ap texts e ∙ same ∙ sym (ap (λ (b : Bool). cond b old (old ++ name.now ∷ [])) has)
    at_test false there e =
        let has : has_name old name.now ≡ false = ap (λ v. has_name v name.now) (sym same) ∙ sym (has_name-texts name.now keys) ∙ there in
        ap texts e ∙ map_push (λ s. s.now) keys name ∙ ap (λ v. v ++ name.now ∷ []) same ∙ sym (ap (λ (b : Bool). cond b old (old ++ name.now ∷ [])) has)

-- names that differ are their set
same-set-after : (earlier names : List Bytes) → first_doubled_after earlier names ≡ None → with_names earlier names ≡ earlier ++ names
same-set-after earlier [] e = sym (append-nil earlier)
same-set-after earlier (name ∷ names) e = at_test (has_name earlier name) e (same-set-after (earlier ++ name ∷ []) names)
  where
    at_test : (b : Bool) → cond b (Some name) (first_doubled_after (earlier ++ name ∷ []) names) ≡ None
        → (first_doubled_after (earlier ++ name ∷ []) names ≡ None → with_names (earlier ++ name ∷ []) names ≡ (earlier ++ name ∷ []) ++ names)
        → with_names (cond b earlier (earlier ++ name ∷ [])) names ≡ earlier ++ name ∷ names
    at_test true e rest = absurd (none-some name (sym e))
    at_test false e rest = rest e ∙ append_assoc earlier (name ∷ []) names

pub same-set : (names : List Bytes) → first_doubled names ≡ None → with_names [] names ≡ names
same-set names e = same-set-after [] names e
