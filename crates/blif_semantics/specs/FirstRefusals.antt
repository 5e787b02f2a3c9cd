-- What the refusals of lines and of names that are read say: each tells the first of its kind.
use Rattle.std.specs.Prelude.{◌≡◌, List, ◌∷◌, ◌++◌, map, reverse, Some, None, All, Contains}
use Rattle.semantics.specs.Texts.{Bytes}
use Rattle.blif_semantics.specs.Lines.{Statement}
use Rattle.blif_semantics.specs.Statements.{place_after, wrong, WrongLine, first_wrong}
use Rattle.blif_semantics.specs.Reading.{NamedNet, names_of, names_read}

-- none of the lines before the statement is wrong, and the statement is wrong behind those lines
pub record IsFirstWrong (lines : List Statement) (w : WrongLine) : Type 0 where
  pub before : List Statement
  pub statement : Statement
  pub after : List Statement
  pub split : lines ≡ before ++ statement ∷ after
  pub none_before : first_wrong before ≡ None
  pub line : statement.line ≡ w.line
  pub is_wrong : wrong (place_after (reverse (map (λ s. s.words) before))) statement.words ≡ Some w.wrong

-- the names that are read before `name` are names of inputs or tables, and `name` is none
pub record IsFirstUndriven (d : NamedNet) (name : Bytes) : Type 0 where
  pub before : List Bytes
  pub after : List Bytes
  pub split : names_read d ≡ before ++ name ∷ after
  pub driven : All (Contains (names_of d)) before
  pub undriven : ¬ Contains (names_of d) name
