-- Facts on truth values, by cases.
use Rattle.std.proofs.Common.{◌≡◌, Bool, true, false, cond, not, ◌&&◌, ◌||◌, refl, sym}

pub or_assoc : (x y z : Bool) → ((x || y) || z) ≡ (x || (y || z))
or_assoc true y z = refl
or_assoc false y z = refl

pub or_end : (x y : Bool) → (x || (y || false)) ≡ (x || y)
or_end true y = refl
or_end false true = refl
or_end false false = refl

pub or_here : (x r : Bool) → ((x || r) || x) ≡ (x || r)
or_here true r = refl
or_here false true = refl
or_here false false = refl

pub or_there : (x r l : Bool) → (r || l) ≡ r → ((x || r) || l) ≡ (x || r)
or_there true r l h = refl
or_there false r l h = h

-- clauses that say 'if x, then each of y, t', and 'if some of x, r, then t'
pub each_then : (x y t : Bool) → ((not x || (y || false)) && (not x || t)) ≡ (not x || (y && t))
each_then true true t = refl
each_then true false t = refl
each_then false y t = refl

pub some_then : (x t r : Bool) → ((not x || (t || false)) && (not r || t)) ≡ (not (x || r) || t)
some_then true true true = refl
some_then true true false = refl
some_then true false r = refl
some_then false t r = refl

pub not_and : (x y : Bool) → (not x || not y) ≡ not (x && y)
not_and true y = refl
not_and false y = refl

pub not_not_and : (x y : Bool) → (x || not y) ≡ not (not x && y)
not_not_and true y = refl
not_not_and false y = refl

pub not_not : (x : Bool) → x ≡ not (not x)
not_not true = refl
not_not false = refl

-- the two halves of 'x exactly where y'
pub same_from : (x y : Bool) → (not x || y) ≡ true → (x || not y) ≡ true → x ≡ y
same_from true true h k = refl
same_from true false h k = cc
same_from false true h k = cc
same_from false false h k = refl

pub if_same : (x y : Bool) → x ≡ y → (not x || y) ≡ true
if_same true y h = sym h
if_same false y h = refl

pub only_same : (x y : Bool) → x ≡ y → (x || not y) ≡ true
only_same true y h = refl
only_same false true h = cc
only_same false false h = refl

-- the value b of a table, or its opposite, is the disjunction m of its rows exactly where b is the plane or its opposite
unfoldable pub signed : Bool → Bool → Bool
signed plane b = cond plane b (not b)

pub value_from_signed : (plane b m : Bool) → signed plane b ≡ m → b ≡ cond m plane (not plane)
unfolding signed
value_from_signed true true true h = refl
value_from_signed true true false h = cc
value_from_signed true false true h = cc
value_from_signed true false false h = refl
value_from_signed false true true h = cc
value_from_signed false true false h = refl
value_from_signed false false true h = refl
value_from_signed false false false h = cc

pub signed_from_value : (plane b m : Bool) → b ≡ cond m plane (not plane) → signed plane b ≡ m
unfolding signed
signed_from_value true true true h = refl
signed_from_value true true false h = cc
signed_from_value true false true h = cc
signed_from_value true false false h = refl
signed_from_value false true true h = cc
signed_from_value false true false h = refl
signed_from_value false false true h = refl
signed_from_value false false false h = cc

pub and_end : (x : Bool) → (x && true) ≡ x
and_end true = refl
and_end false = refl

pub or_false : (x : Bool) → (x || false) ≡ x
or_false true = refl
or_false false = refl

pub or_true : (x : Bool) → true ≡ (not x || true)
or_true true = refl
or_true false = refl

pub or_swap : (x y : Bool) → (not x || y) ≡ true → (y || not x) ≡ true
or_swap true true h = refl
or_swap true false h = h
or_swap false true h = refl
or_swap false false h = refl
