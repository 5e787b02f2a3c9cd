use Rattle.std.proofs.Common.{◌≡◌, ℕ, Bool, true, false, ◌&&◌, eqb, arith, [], ◌∷◌, ◌++◌, length, drop, refl, sym, ap, ◌∙◌}
use Rattle.std.specs.Prelude.{bytes_eq}
use Rattle.std.specs.List.{starts_with}
use Rattle.std.proofs.lemmas.List.{take_rest}
use Rattle.std.proofs.lemmas.Bool.Decides.{nat_tests}
use Rattle.semantics.specs.Texts.{Bytes}
use Rattle.command_words.proofs.bundle_names.is_stem_with.Goals as goal

both : (a b c : Bool) → ((a && b) && c) ≡ (a && (b && c))
both true b c = refl
both false b c = refl

eqb_swaps : (c d : ℕ) → eqb c d ≡ eqb d c
eqb_swaps c d = grind (arith, nat_tests)

-- a name is the stem and the ending where it starts with the stem and goes on with the ending
stem_and_rest : (stem ending name : Bytes) → (starts_with eqb name stem && bytes_eq (drop (length stem) name) ending) ≡ bytes_eq name (stem ++ ending)
stem_and_rest [] ending name = refl
stem_and_rest (c ∷ stem) ending [] = refl
stem_and_rest (c ∷ stem) ending (d ∷ name) =
    let rest = stem_and_rest stem ending name in
    let swapped : eqb c d ≡ eqb d c = eqb_swaps c d in
    both (eqb c d) _ _ ∙ (λ i. swapped i && rest i)

pub returns-then-starts_with : goal.returns-then-starts_with
returns-then-starts_with c =
    let e = stem_and_rest c.args.stem.now c.args.ending.now c.args.name.now in
    let yes : starts_with eqb c.args.name.now c.args.stem.now ≡ true = sym c.starts_with.ensures.value ∙ c.if-starts_with.true in
    c.eq.ensures ∙ ap (λ r. bytes_eq r c.args.ending.now) (take_rest c.args.name.now (length c.args.stem.now)) ∙
    (λ i. sym yes i && bytes_eq (drop (length c.args.stem.now) c.args.name.now) c.args.ending.now) ∙ e

pub returns-else-starts_with : goal.returns-else-starts_with
returns-else-starts_with c =
    let e = stem_and_rest c.args.stem.now c.args.ending.now c.args.name.now in
    let no : starts_with eqb c.args.name.now c.args.stem.now ≡ false = sym c.starts_with.ensures.value ∙ c.if-starts_with.false in
    c.if-starts_with.false ∙ (λ i. sym no i && bytes_eq (drop (length c.args.stem.now) c.args.name.now) c.args.ending.now) ∙ e
