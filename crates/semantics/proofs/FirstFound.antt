-- The first name that stands a second time, and the first member of a list that passes a test.
use Rattle.std.proofs.Common.{◌≡◌, ◌↔◌, Bool, true, false, cond, List, [], ◌∷◌, ◌++◌, get_or, find, bytes_eq, Contains, Option, Some, None, refl, ap, sym, subst, ◌∙◌, append_assoc, append-nil}
use Rattle.std.specs.List.{AllByRecursion}
use Rattle.std.proofs.lemmas.List.Folds.{list_any_at, Any-from_list_any}
use Rattle.std.proofs.lemmas.Option.{none-some, same_Some}
use Rattle.std.proofs.lemmas.Slice.Eq.{bytes_eq-Decides}
use Rattle.semantics.specs.Texts.{Bytes}
use Rattle.semantics.specs.Refusals.{has_name, first_doubled_after, first_doubled}
use Rattle.semantics.specs.RefusalOrder.{IsFirstDoubled}
use Rattle.semantics.proofs.Refused.{undoubled, differ-undoubled}

-- ---- whether a name is there

pub there : (names : List Bytes) (word : Bytes) → Contains names word → has_name names word ≡ true
there names word h = list_any_at (bytes_eq word) names h.0 word h.1 ((bytes_eq-Decides word (get_or names h.0 word)).1 (sym h.2))

pub is_there : (names : List Bytes) (word : Bytes) → has_name names word ≡ true → Contains names word
is_there names word h =
    let some = Any-from_list_any (bytes_eq word) names h in
    let same : some.1 ≡ word = sym ((bytes_eq-Decides word some.1).0 some.4) in
    (some.0, some.2, subst (λ w. get_or names some.0 w ≡ w) same some.3)

-- ---- the first doubled name

pub none_if : {X : Type 0} (told : Bool) (x : X) (rest : Option X) → cond told (Some x) rest ≡ None → (told ≡ false) × (rest ≡ None)
none_if false x rest none = (refl, none)
none_if true x rest none = absurd (none-some x (sym none))

record IsDoubledAfter (earlier names : List Bytes) (name : Bytes) : Type 0 where
  before : List Bytes
  after : List Bytes
  split : names ≡ before ++ name ∷ after
  none_before : first_doubled_after earlier before ≡ None
  again : has_name (earlier ++ before) name ≡ true

doubled_after : (earlier names : List Bytes) (name : Bytes) → first_doubled_after earlier names ≡ Some name → IsDoubledAfter earlier names name
doubled_after earlier [] name e = absurd (none-some name e)
doubled_after earlier (n ∷ names) name e = at_test (has_name earlier n) refl e (doubled_after (earlier ++ n ∷ []) names name)
  where
    at_test : (t : Bool) → has_name earlier n ≡ t → cond t (Some n) (first_doubled_after (earlier ++ n ∷ []) names) ≡ Some name
        → (first_doubled_after (earlier ++ n ∷ []) names ≡ Some name → IsDoubledAfter (earlier ++ n ∷ []) names name) → IsDoubledAfter earlier (n ∷ names) name
    at_test true is e others =
        let same : n ≡ name = same_Some n name e in
        record { before = []; after = names; split = ap (λ m. m ∷ names) same; none_before = refl; again = ap (λ ns. has_name ns name) (append-nil earlier) ∙ ap (has_name earlier) (sym same) ∙ is }
    at_test false is e others =
        let h = others e in
        record {
          before = n ∷ h.before;
          after = h.after;
          split = ap (λ rest. n ∷ rest) h.split;
          none_before = ap (λ t. cond t (Some n) (first_doubled_after (earlier ++ n ∷ []) h.before)) is ∙ h.none_before;
          again = ap (λ ns. has_name ns name) (sym (append_assoc earlier (n ∷ []) h.before)) ∙ h.again;
        }

doubled_from : (earlier before : List Bytes) (name : Bytes) (after : List Bytes) → first_doubled_after earlier before ≡ None → has_name (earlier ++ before) name ≡ true
    → first_doubled_after earlier (before ++ name ∷ after) ≡ Some name
doubled_from earlier [] name after none again =
    ap (λ t. cond t (Some name) (first_doubled_after (earlier ++ name ∷ []) after)) (ap (λ ns. has_name ns name) (sym (append-nil earlier)) ∙ again)
doubled_from earlier (n ∷ before) name after none again =
    let parts = none_if (has_name earlier n) n (first_doubled_after (earlier ++ n ∷ []) before) none in
    ap (λ t. cond t (Some n) (first_doubled_after (earlier ++ n ∷ []) (before ++ name ∷ after))) parts.0
    ∙ doubled_from (earlier ++ n ∷ []) before name after parts.1 (ap (λ ns. has_name ns name) (append_assoc earlier (n ∷ []) before) ∙ again)

pub first_doubled-first : (names : List Bytes) (name : Bytes) → (first_doubled names ≡ Some name) ↔ IsFirstDoubled names name
first_doubled-first names name = (
  λ e.
      let h = doubled_after [] names name e in
      record { before = h.before; after = h.after; split = h.split; differ = undoubled h.before h.none_before; again = is_there h.before name h.again },
  λ h. ap first_doubled h.split ∙ doubled_from [] h.before name h.after (differ-undoubled h.before h.differ) (there h.before name h.again),
)

-- ---- the first that passes a test

pub record IsFirstFound {X : Type 0} (p : X → Bool) (xs : List X) (x : X) : Type 0 where
  pub before : List X
  pub after : List X
  pub split : xs ≡ before ++ x ∷ after
  pub fail : AllByRecursion (λ y. p y ≡ false) before
  pub passes : p x ≡ true

pub first_found : {X : Type 0} (p : X → Bool) (xs : List X) (x : X) → find p xs ≡ Some x → IsFirstFound p xs x
first_found p [] x e = absurd (none-some x e)
first_found p (y ∷ xs) x e = at_test (p y) refl e (first_found p xs x)
  where
    at_test : (t : Bool) → p y ≡ t → cond t (Some y) (find p xs) ≡ Some x → (find p xs ≡ Some x → IsFirstFound p xs x) → IsFirstFound p (y ∷ xs) x
    at_test true is e others =
        let same : y ≡ x = same_Some y x e in
        record { before = []; after = xs; split = ap (λ z. z ∷ xs) same; fail = tt; passes = ap p (sym same) ∙ is }
    at_test false is e others =
        let h = others e in
        record { before = y ∷ h.before; after = h.after; split = ap (λ rest. y ∷ rest) h.split; fail = (is, h.fail); passes = h.passes }

pub found_first : {X : Type 0} (p : X → Bool) (before : List X) (x : X) (after : List X) → AllByRecursion (λ y. p y ≡ false) before → p x ≡ true → find p (before ++ x ∷ after) ≡ Some x
found_first p [] x after h is = rw is refl
found_first p (y ∷ before) x after h is = rw h.0 (found_first p before x after h.1 is)
