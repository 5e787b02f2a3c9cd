-- The first wrong line, by what the lines before it left.
use Rattle.std.proofs.Common.{◌≡◌, ℕ, ◌+◌, ◌<◌, length, drop, get_or, Bool, option_map, sym, subst, ◌∙◌, false, List, [], ◌∷◌, Option, Some, None, refl, ap}
use Rattle.semantics.specs.Texts.{Line}
use Rattle.blif_semantics.specs.Lines.{Statement}
use Rattle.blif_semantics.specs.Statements.{kind_of, is_end, table_by, table_before, WrongLine}
use Rattle.hierarchy_semantics.specs.ModelLines.{has_ended, place_of, wrong_at, first_wrong_after, first_wrong}
use Rattle.std.proofs.lemmas.List.{drop_more}
use Rattle.blif_semantics.specs.Statements.{OpenTable, Wrong}
use Rattle.blif_semantics.specs.Reading.{wrong_line}
use Rattle.hierarchy_semantics.specs.Refusals.{line}
use Rattle.hier_blif.specs.declared.refusal.HierRefusal.{HierRefusal}
use Rattle.hier_blif.specs.Refusals.{TellsOne}
use Rattle.hier_blif.specs.Judging.{place_with, first_wrong_in}

first_wrong_in-after : (earlier : List Line) (lines : List Statement) → first_wrong_in (has_ended earlier) (table_before earlier) lines ≡ first_wrong_after earlier lines
first_wrong_in-after earlier [] = refl
first_wrong_in-after earlier (s ∷ rest) =
    ap (λ (o : Option WrongLine). elim (wrong_at (place_of earlier s.words) s.words) [ None ↦ o | Some w ↦ Some (record { line = s.line; wrong = w }) ])
    (first_wrong_in-after (s.words ∷ earlier) rest)

pub first_wrong-in : (lines : List Statement) → first_wrong_in false None lines ≡ first_wrong lines
unfolding first_wrong
first_wrong-in lines = first_wrong_in-after [] lines

wrong-here : (ended : Bool) (table : Option OpenTable) (lines : List Statement) (i : ℕ) (s : Statement) (w : Wrong) (all : Option WrongLine) → i < length lines → get_or lines i s ≡ s
    → wrong_at (place_with ended table s.words) s.words ≡ Some w → first_wrong_in ended table (drop i lines) ≡ all → Some (record { line = s.line; wrong = w }) ≡ all
wrong-here ended table lines i s w all within is wrong same =
    let cut : drop i lines ≡ s ∷ drop (i + 1) lines = drop_more lines i s within ∙ ap (λ x. x ∷ drop (i + 1) lines) is in
    let rest : Option WrongLine = first_wrong_in (is_end (kind_of s.words)) (table_by (kind_of s.words) s.words table) (drop (i + 1) lines) in
    sym (ap (λ (o : Option Wrong). elim o [ None ↦ rest | Some w ↦ Some (record { line = s.line; wrong = w }) ]) wrong) ∙ sym (ap (first_wrong_in ended table) cut) ∙ same

-- the refusal of the first wrong line
pub wrong-told : (told : HierRefusal) (ended : Bool) (table : Option OpenTable) (lines : List Statement) (i : ℕ) (s : Statement) (words : Line) (n : ℕ) (w : Wrong) (all : Option WrongLine)
    → i < length lines → get_or lines i s ≡ s
    → words ≡ s.words → n ≡ s.line → wrong_at (place_with ended table words) words ≡ Some w → first_wrong_in ended table (drop i lines) ≡ all
    → TellsOne told (Some (line (wrong_line n w))) → TellsOne told (option_map (λ w. line (wrong_line w.line w.wrong)) all)
wrong-told told ended table lines i s words n w all within is same number wrong so_far tells =
    let here = wrong-here ended table lines i s w all within is (subst (λ (l : Line). wrong_at (place_with ended table l) l ≡ Some w) same wrong) so_far in
    subst (λ o. TellsOne told (option_map (λ w. line (wrong_line w.line w.wrong)) o)) here (subst (λ m. TellsOne told (Some (line (wrong_line m w)))) number tells)

pub judged_told : (told : HierRefusal) (kept lines : List Statement) → kept ≡ lines → TellsOne told (option_map (λ w. line (wrong_line w.line w.wrong)) (first_wrong_in false None kept))
    → TellsOne told (option_map (λ w. line (wrong_line w.line w.wrong)) (first_wrong lines))
judged_told told kept lines same is =
    subst (λ o. TellsOne told (option_map (λ w. line (wrong_line w.line w.wrong)) o)) (ap (first_wrong_in false None) same ∙ first_wrong-in lines) is
