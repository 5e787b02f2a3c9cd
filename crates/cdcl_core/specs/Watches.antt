-- How the watches are held: for each literal its watchers, for each clause the two literals that it watches,
-- and the number of the trail's entries that have been handled.
use Rattle.std.specs.Prelude.{ℕ, zero, Bool, false, ◌+◌, ◌*◌, List, [], ◌∷◌, ◌++◌, length, replicate}
use Rattle.std.specs.Prelude.{slice_index_or, slice_set, ℤ, pos}
use Rattle.cdcl_core.specs.Watched.{index_of}
use Rattle.cdcl_core.specs.declared.watches.Watch.{Watch}
use Rattle.cdcl_core.specs.declared.watches.Pair.{Pair}

pub record WatchesValue : Type 0 where
  pub lists : List (List Watch)
  pub pairs : List Pair
  pub handled : ℕ

abbrev pub no_watch : Watch
no_watch = record { clause = 0; blocker = pos zero; binary = false }

abbrev pub no_pair : Pair
no_pair = record { one = pos zero; other = pos zero }

abbrev pub list_at : List (List Watch) → ℤ → List Watch
list_at lists l = slice_index_or lists (index_of l) []

abbrev pub watch_at : List Watch → ℕ → Watch
watch_at list k = slice_index_or list k no_watch

abbrev pub pair_at : List Pair → ℕ → Pair
pair_at pairs j = slice_index_or pairs j no_pair

-- the list of a literal has one more watcher
abbrev pub lists_with : List (List Watch) → ℤ → Watch → List (List Watch)
lists_with lists l w = slice_set lists (index_of l) (list_at lists l ++ w ∷ [])

-- the next clause watches these two literals, and possibly has no others
abbrev pub watches_with : WatchesValue → ℤ → ℤ → Bool → WatchesValue
watches_with w one other binary = record w {
  lists = lists_with (lists_with w.lists one
      (record { clause = length w.pairs; blocker = other; binary = binary })) other
      (record { clause = length w.pairs; blocker = one; binary = binary });
  pairs = w.pairs ++ record { one = one; other = other } ∷ [];
}

-- no clause is watched yet
abbrev pub no_watches : ℕ → WatchesValue
no_watches variables = record { lists = replicate (variables * 2 + 2) []; pairs = []; handled = 0 }
