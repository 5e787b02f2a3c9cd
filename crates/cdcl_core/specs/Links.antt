-- The ring in which the variables stand that are decided.
use Rattle.std.specs.Prelude.{◌≡◌, ℕ, ◌<◌, List, length, All}

-- each number has a number behind it, a number before it, and a stamp; the search begins at one of the
-- numbers
pub record AreLinks (after before stamps : List ℕ) (search : ℕ) : Type 0 where
  pub some : 0 < length after
  pub before_length : length before ≡ length after
  pub stamps_length : length stamps ≡ length after
  pub after_within : All (λ v. v < length after) after
  pub before_within : All (λ v. v < length after) before
  pub search_within : search < length after
