-- Each refusal of lines and of names tells the first of its kind.
use Rattle.std.proofs.Common.{◌≡◌, ◌↔◌, Bool, true, false, not, List, [], ◌∷◌, ◌++◌, map, reverse, find, All, Contains, Option, Some, None, refl, ap, sym, ◌∙◌, append_assoc, append-nil}
use Rattle.std.specs.List.{AllByRecursion}
use Rattle.std.proofs.lemmas.Bool.{false≢true, false_from_ne_true, not-false}
use Rattle.std.proofs.lemmas.List.{reverse-append}
use Rattle.std.proofs.lemmas.List.Elements.{All-weaker, recursion_from_All, All-from_recursion}
use Rattle.std.proofs.lemmas.Option.{none-some, same_Some}
use Rattle.semantics.specs.Texts.{Bytes, Line}
use Rattle.semantics.specs.Refusals.{has_name}
use Rattle.semantics.proofs.FirstFound.{there, is_there, first_found, found_first}
use Rattle.blif_semantics.specs.Lines.{Statement}
use Rattle.blif_semantics.specs.Statements.{place_after, Wrong, wrong, WrongLine, first_wrong_after, first_wrong}
use Rattle.blif_semantics.specs.Reading.{NamedNet, names_of, names_read, first_undriven_name}
use Rattle.blif_semantics.specs.FirstRefusals.{IsFirstWrong, IsFirstUndriven}
use Rattle.blif_semantics.proofs.Looked.{none_missing, each_there}
use Rattle.blif_semantics.proofs.RightLines.{line_answer, answer_parts}

-- ---- the first wrong line

-- `IsFirstWrong` after earlier lines
record IsFirstAfter (earlier : List Line) (lines : List Statement) (w : WrongLine) : Type 0 where
  before : List Statement
  statement : Statement
  after : List Statement
  split : lines ≡ before ++ statement ∷ after
  none_before : first_wrong_after earlier before ≡ None
  line : statement.line ≡ w.line
  is_wrong : wrong (place_after (reverse (map (λ s. s.words) before) ++ earlier)) statement.words ≡ Some w.wrong

reversed : (earlier : List Line) (words : Line) (lines : List Line) → reverse (words ∷ lines) ++ earlier ≡ reverse lines ++ words ∷ earlier
reversed earlier words lines = ap (λ ls. ls ++ earlier) (reverse-append (words ∷ []) lines) ∙ append_assoc (reverse lines) (words ∷ []) earlier

first_after : (earlier : List Line) (lines : List Statement) (w : WrongLine) → first_wrong_after earlier lines ≡ Some w → IsFirstAfter earlier lines w
first_after earlier [] w e = absurd (none-some w e)
first_after earlier (s ∷ lines) w e = at_found (wrong (place_after earlier) s.words) refl e (first_after (s.words ∷ earlier) lines w)
  where
    at_found : (found : Option Wrong) → wrong (place_after earlier) s.words ≡ found → line_answer found s.line (first_wrong_after (s.words ∷ earlier) lines) ≡ Some w
        → (first_wrong_after (s.words ∷ earlier) lines ≡ Some w → IsFirstAfter (s.words ∷ earlier) lines w) → IsFirstAfter earlier (s ∷ lines) w
    at_found (Some x) is e others =
        let same = same_Some (record { line = s.line; wrong = x }) w e in
        record { before = []; statement = s; after = lines; split = refl; none_before = refl; line = ap (λ v. v.line) same; is_wrong = is ∙ ap (λ v. Some v.wrong) same }
    at_found None is e others =
        let h = others e in
        record {
          before = s ∷ h.before;
          statement = h.statement;
          after = h.after;
          split = ap (λ rest. s ∷ rest) h.split;
          none_before = ap (λ found. line_answer found s.line (first_wrong_after (s.words ∷ earlier) h.before)) is ∙ h.none_before;
          line = h.line;
          is_wrong = ap (λ ls. wrong (place_after ls) h.statement.words) (reversed earlier s.words (map (λ s. s.words) h.before)) ∙ h.is_wrong;
        }

first_from : (earlier : List Line) (before : List Statement) (s : Statement) (after : List Statement) (w : WrongLine) → first_wrong_after earlier before ≡ None → s.line ≡ w.line
    → wrong (place_after (reverse (map (λ t. t.words) before) ++ earlier)) s.words ≡ Some w.wrong → first_wrong_after earlier (before ++ s ∷ after) ≡ Some w
first_from earlier [] s after w none line is =
    ap (λ found. line_answer found s.line (first_wrong_after (s.words ∷ earlier) after)) is ∙ ap (λ number. Some (record { line = number; wrong = w.wrong })) line
first_from earlier (t ∷ before) s after w none line is =
    let parts = answer_parts (wrong (place_after earlier) t.words) t.line (first_wrong_after (t.words ∷ earlier) before) none in
    ap (λ found. line_answer found t.line (first_wrong_after (t.words ∷ earlier) (before ++ s ∷ after))) parts.0
    ∙ first_from (t.words ∷ earlier) before s after w parts.1 line (ap (λ ls. wrong (place_after ls) s.words) (sym (reversed earlier t.words (map (λ s. s.words) before))) ∙ is)

pub first_wrong-first : (lines : List Statement) (w : WrongLine) → (first_wrong lines ≡ Some w) ↔ IsFirstWrong lines w
unfolding first_wrong
first_wrong-first lines w = (
  λ e.
      let h = first_after [] lines w e in
      record {
        before = h.before;
        statement = h.statement;
        after = h.after;
        split = h.split;
        none_before = h.none_before;
        line = h.line;
        is_wrong = ap (λ ls. wrong (place_after ls) h.statement.words) (sym (append-nil (reverse (map (λ s. s.words) h.before)))) ∙ h.is_wrong;
      },
  λ h. ap (first_wrong_after []) h.split
      ∙ first_from [] h.before h.statement h.after w h.none_before h.line (ap (λ ls. wrong (place_after ls) h.statement.words) (append-nil (reverse (map (λ s. s.words) h.before))) ∙ h.is_wrong),
)

-- ---- the first name that is not driven

all_there : (names words : List Bytes) → AllByRecursion (λ word. has_name names word ≡ true) words → All (Contains names) words
all_there names words h =
    All-weaker (λ word. has_name names word ≡ true) (Contains names) (is_there names) words (All-from_recursion (λ word. has_name names word ≡ true) words h)

each_name : (names words : List Bytes) → All (Contains names) words → AllByRecursion (λ word. has_name names word ≡ true) words
each_name names words h =
    recursion_from_All (λ word. has_name names word ≡ true) words (All-weaker (Contains names) (λ word. has_name names word ≡ true) (there names) words h)

abbrev missing : List Bytes → List Bytes → Option Bytes
missing names words = find (λ word. not (has_name names word)) words

is_missing-there : (names : List Bytes) (word : Bytes) → not (has_name names word) ≡ false → Contains names word
is_missing-there names word e = is_there names word (not-false (has_name names word) e)

there-not_missing : (names : List Bytes) (word : Bytes) → Contains names word → not (has_name names word) ≡ false
there-not_missing names word h = ap not (there names word h)

pub first_undriven-first : (d : NamedNet) (name : Bytes) → (first_undriven_name d ≡ Some name) ↔ IsFirstUndriven d name
first_undriven-first d name =
    let names : List Bytes = names_of d in
    let IsThere : Bytes → Type 0 = λ word. not (has_name names word) ≡ false in (
      λ e.
          let h = first_found (λ word. not (has_name names word)) (names_read d) name e in
          record {
            before = h.before;
            after = h.after;
            split = h.split;
            driven = All-weaker IsThere (Contains names) (is_missing-there names) h.before (All-from_recursion IsThere h.before h.fail);
            undriven = λ c. false≢true (sym (there-not_missing names name c) ∙ h.passes);
          },
      λ h. ap (missing names) h.split
          ∙ found_first (λ word. not (has_name names word)) h.before name h.after
          (recursion_from_All IsThere h.before (All-weaker (Contains names) IsThere (there-not_missing names) h.before h.driven))
          (ap not (false_from_ne_true (has_name names name) (λ t. h.undriven (is_there names name t)))),
    )

pub driven-each : (d : NamedNet) → (first_undriven_name d ≡ None) ↔ All (Contains (names_of d)) (names_read d)
driven-each d = (
  λ e. all_there (names_of d) (names_read d) (each_there (names_of d) (names_read d) e),
  λ h. none_missing (names_of d) (names_read d) (each_name (names_of d) (names_read d) h),
)
