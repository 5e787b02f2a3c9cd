-- How many read turns there are after a read.
use Rattle.std.proofs.Common.{◌≡◌, ℕ, ◌+◌, ◌<◌, ◌≤◌, Bool, true, false, cond, List, ◌∷◌, Option, Some, None, refl, sym, ap, subst, ◌∙◌, arith}
use Rattle.std.proofs.lemmas.Bool.{and_from, le-leb, lt-ltb}
use Rattle.std.proofs.lemmas.List.Sums.{sum_by-cons}
use Rattle.std.proofs.lemmas.Slice.Eq.{bytes_eq-Decides}
use Rattle.std.specs.Prelude.{count_by, bytes_eq}
use Rattle.semantics.specs.Texts.{Bytes}
use Rattle.outside_semantics.specs.Outside.{FilesTold, turn_bytes, turns_on, turns_after, is_turn}

-- as many turns as before are no fewer
pub turns_kept : {ts us : List Bytes} → us ≡ ts → (name : Bytes) → count_by (bytes_eq name) ts ≤ count_by (bytes_eq name) us
turns_kept {ts} {us} same name =
    let e : count_by (bytes_eq name) us ≡ count_by (bytes_eq name) ts = ap (count_by (bytes_eq name)) same in
    omega arith

next_counts : (name read : Bytes) (ts : List Bytes) → count_by (bytes_eq name) (read ∷ ts) ≡ cond (bytes_eq name read) 1 0 + count_by (bytes_eq name) ts
next_counts name read ts = sum_by-cons (λ x. cond (bytes_eq name x) 1 0) read ts

one_more : (b : Bool) (n : ℕ) → n ≤ cond b 1 0 + n
one_more true n = omega arith
one_more false n = omega arith

after_test : (b : Bool) (read name : Bytes) (ts : List Bytes) → count_by (bytes_eq name) ts ≤ count_by (bytes_eq name) (cond b (read ∷ ts) ts)
after_test true read name ts = subst (λ k. count_by (bytes_eq name) ts ≤ k) (sym (next_counts name read ts)) (one_more (bytes_eq name read) (count_by (bytes_eq name) ts))
after_test false read name ts = omega arith

-- a read takes no turn back
pub turns_grow : (opened : Option Bytes) (asked n : ℕ) (ts : List Bytes) (name : Bytes) → count_by (bytes_eq name) ts ≤ count_by (bytes_eq name) (turns_after opened asked n ts)
turns_grow None asked n ts name = omega arith
turns_grow (Some read) asked n ts name = after_test (is_turn asked n) read name ts

more_of : (b : Bool) (n : ℕ) → b ≡ true → n < cond b 1 0 + n
more_of true n e = omega arith
more_of false n e = cc

one_on : (name : Bytes) (ts : List Bytes) → count_by (bytes_eq name) ts < count_by (bytes_eq name) (name ∷ ts)
one_on name ts =
    subst (λ k. count_by (bytes_eq name) ts < k) (sym (next_counts name name ts))
    (more_of (bytes_eq name name) (count_by (bytes_eq name) ts) ((bytes_eq-Decides name name).1 refl))

-- a read that is a turn adds one turn of the file that is open
pub turn_counts : (old new : FilesTold) (name : Bytes) (asked n : ℕ) → new.turns ≡ turns_after old.opened asked n old.turns → old.opened ≡ Some name → asked ≤ turn_bytes → 0 < n
    → turns_on old name < turns_on new name
turn_counts old new name asked n is reads within some =
    let turn : is_turn asked n ≡ true = and_from _ _ (le-leb asked turn_bytes within) (lt-ltb 0 n some) in
    let now : new.turns ≡ name ∷ old.turns =
    is ∙ ap (λ o. turns_after o asked n old.turns) reads ∙ ap (λ b. cond b (name ∷ old.turns) old.turns) turn in
    subst (λ ts. turns_on old name < count_by (bytes_eq name) ts) (sym now) (one_on name old.turns)
