-- How the fields of a set of literals stand to each other.
use Rattle.std.specs.Prelude.{◌≡◌, Bool, List, ℤ}
use Rattle.std.specs.Ordering.{int_eq}
use Rattle.std.specs.List.{list_any}
use Rattle.std.specs.HashSet as hash
use Rattle.lrat_check.specs.Marks.{is_marked}
use Rattle.lrat_check.specs.declared.literal_set.LiteralSet.TheInside.{Inside}

-- the members are the literals that are marked, and those that have no mark and are in the set apart
pub record AreMarked {S : Type 0} (members : List ℤ) (marks : List Bool)
    (apart : hash.HashSet ℤ S) : Type 0 where
  pub same : (l : ℤ) → is_marked marks (hash.contains int_eq apart l) l ≡ list_any (int_eq l) members

abbrev pub Stands : Inside → Type 0
Stands a = AreMarked a.members.items a.marks.items a.apart
