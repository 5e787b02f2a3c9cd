-- Rows of one width are told by what their marks ask, one row behind the other, and by how many they are.
use Rattle.std.proofs.Common.{◌≡◌, ℕ, List, [], ◌∷◌, ◌++◌, length, map, refl, sym, ◌∙◌, arith}
use Rattle.std.specs.Prelude.{flat_map}
use Rattle.std.specs.List.{AllByRecursion}
use Rattle.std.proofs.lemmas.List.{length-map}
use Rattle.semantics.specs.declared.mark.Mark.{Mark}
use Rattle.semantics.specs.declared.mark.Mark.TheVariants.{Zero, One, Dash}
use Rattle.merge_log.specs.Chains.{asked}

split : {X : Type 0} (xs bs cs ds : List X) → length xs ≡ length bs → xs ++ cs ≡ bs ++ ds → (xs ≡ bs) × (cs ≡ ds)
split [] [] cs ds width e = (refl, e)
split [] (b ∷ bs) cs ds width e = absurd (omega (arith, width))
split (a ∷ xs) [] cs ds width e = absurd (omega (arith, width))
split (a ∷ xs) (b ∷ bs) cs ds width e =
    let rest : xs ++ cs ≡ bs ++ ds = cc e in
    let both = split xs bs cs ds (omega (arith, width)) rest in
    let head : a ≡ b = cc e in
    (cc (head, both.0), both.1)

asked-same : (m k : Mark) → asked m ≡ asked k → m ≡ k
asked-same Zero Zero e = refl
asked-same Zero One e = cc
asked-same Zero Dash e = cc
asked-same One Zero e = cc
asked-same One One e = refl
asked-same One Dash e = cc
asked-same Dash Zero e = cc
asked-same Dash One e = cc
asked-same Dash Dash e = refl

marks-same : (row other : List Mark) → map asked row ≡ map asked other → row ≡ other
marks-same [] [] e = refl
marks-same [] (k ∷ other) e = cc
marks-same (m ∷ row) [] e = cc
marks-same (m ∷ row) (k ∷ other) e =
    let head : asked m ≡ asked k = cc e in
    let rest : map asked row ≡ map asked other = cc e in
    let first = asked-same m k head in
    let behind = marks-same row other rest in
    cc (first, behind)

pub same_rows : (width : ℕ) (rows others : List (List Mark)) → AllByRecursion (λ marks. length marks ≡ width) rows → AllByRecursion (λ marks. length marks ≡ width) others
    → length rows ≡ length others → flat_map (map asked) rows ≡ flat_map (map asked) others → rows ≡ others
same_rows width [] [] h k count e = refl
same_rows width [] (other ∷ others) h k count e = absurd (omega (arith, count))
same_rows width (row ∷ rows) [] h k count e = absurd (omega (arith, count))
same_rows width (row ∷ rows) (other ∷ others) h k count e =
    let wide : length (map asked row) ≡ length (map asked other) = length-map row asked ∙ h.0 ∙ sym k.0 ∙ sym (length-map other asked) in
    let both = split (map asked row) (map asked other) (flat_map (map asked) rows) (flat_map (map asked) others) wide e in
    let first = marks-same row other both.0 in
    let rest = same_rows width rows others h.1 k.1 (omega (arith, count)) both.1 in
    cc (first, rest)
