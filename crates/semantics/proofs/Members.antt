-- What holds of the members of a list, by recursion and by `Contains`.
use Rattle.std.proofs.Common.{ℕ, List, [], ◌∷◌}
use Rattle.std.specs.List.{AllByRecursion, Contains}
use Rattle.std.proofs.lemmas.List.Elements.{All-from_recursion, recursion_from_All, All-contains, All-weaker, All-contains_itself}

pub member_holds : (P : ℕ → Type 0) (pins : List ℕ) (p : ℕ) → AllByRecursion P pins → Contains pins p → P p
member_holds P pins p h c = All-contains P pins p (All-from_recursion P pins h) c

pub each_member : (P : ℕ → Type 0) (pins : List ℕ) → ((p : ℕ) → Contains pins p → P p) → AllByRecursion P pins
each_member P pins f = recursion_from_All P pins (All-weaker (Contains pins) P f pins (All-contains_itself pins))

pub each_weaker : (P Q : ℕ → Type 0) (pins : List ℕ) → ((p : ℕ) → P p → Q p) → AllByRecursion P pins → AllByRecursion Q pins
each_weaker P Q [] f h = tt
each_weaker P Q (p ∷ pins) f h = (f p h.0, each_weaker P Q pins f h.1)
