-- Lists of names in several lines.
use Rattle.std.proofs.Common.{◌≡◌, ◌≢◌, Bool, true, false, cond, List, [], ◌∷◌, ◌++◌, refl, ap, sym, ◌∙◌, append_assoc, append-nil}
use Rattle.std.specs.List.{filter, flat_map}
use Rattle.semantics.specs.Texts.{Bytes, Line}
use Rattle.blif_semantics.specs.declared.kind.Kind.{Kind}
use Rattle.blif_semantics.specs.declared.kind.Kind.TheVariants as kind
use Rattle.blif_semantics.specs.Statements.{kind_of, arguments}
use Rattle.blif_semantics.specs.Reading.{is_inputs, is_outputs, listed, named_net}

abbrev of_kind : (Kind → Bool) → List Line → List Line
of_kind is_kind lines = filter (λ words. is_kind (kind_of words)) lines

listed-append : (is_kind : Kind → Bool) (lines more : List Line) → listed is_kind (lines ++ more) ≡ listed is_kind lines ++ listed is_kind more
listed-append is_kind [] more = refl
listed-append is_kind (words ∷ lines) more = at_test (is_kind (kind_of words)) (listed-append is_kind lines more)
  where
    at_test : (t : Bool) → listed is_kind (lines ++ more) ≡ listed is_kind lines ++ listed is_kind more
        → flat_map arguments (cond t (words ∷ of_kind is_kind (lines ++ more)) (of_kind is_kind (lines ++ more)))
        ≡ flat_map arguments (cond t (words ∷ of_kind is_kind lines) (of_kind is_kind lines)) ++ listed is_kind more
    at_test true e = ap (λ l. arguments words ++ l) e ∙ sym (append_assoc (arguments words) (listed is_kind lines) (listed is_kind more))
    at_test false e = e

pub inputs-joined : (lines more : List Line) → (named_net (lines ++ more)).inputs ≡ (named_net lines).inputs ++ (named_net more).inputs
unfolding named_net
inputs-joined lines more = listed-append is_inputs lines more

pub outputs-joined : (lines more : List Line) → (named_net (lines ++ more)).outputs ≡ (named_net lines).outputs ++ (named_net more).outputs
unfolding named_net
outputs-joined lines more = listed-append is_outputs lines more

pub inputs-line : (names : List Bytes) → (named_net (((46 ∷ 105 ∷ 110 ∷ 112 ∷ 117 ∷ 116 ∷ 115 ∷ []) ∷ names) ∷ [])).inputs ≡ names
unfolding named_net
inputs-line names = append-nil names

pub outputs-line : (names : List Bytes) → (named_net (((46 ∷ 111 ∷ 117 ∷ 116 ∷ 112 ∷ 117 ∷ 116 ∷ 115 ∷ []) ∷ names) ∷ [])).outputs ≡ names
unfolding named_net
outputs-line names = append-nil names

not_inputs : (k : Kind) → k ≢ kind.Inputs → is_inputs k ≡ false
not_inputs kind.Inputs other = absurd (other refl)
not_inputs kind.Model other = refl
not_inputs kind.Outputs other = refl
not_inputs kind.Names other = refl
not_inputs kind.End other = refl
not_inputs kind.Command other = refl
not_inputs kind.Row other = refl

not_outputs : (k : Kind) → k ≢ kind.Outputs → is_outputs k ≡ false
not_outputs kind.Outputs other = absurd (other refl)
not_outputs kind.Model other = refl
not_outputs kind.Inputs other = refl
not_outputs kind.Names other = refl
not_outputs kind.End other = refl
not_outputs kind.Command other = refl
not_outputs kind.Row other = refl

pub inputs-none : (words : Line) → kind_of words ≢ kind.Inputs → (named_net (words ∷ [])).inputs ≡ []
unfolding named_net
inputs-none words other = ap (λ (b : Bool). flat_map arguments (cond b (words ∷ []) [])) (not_inputs (kind_of words) other)

pub outputs-none : (words : Line) → kind_of words ≢ kind.Outputs → (named_net (words ∷ [])).outputs ≡ []
unfolding named_net
outputs-none words other = ap (λ (b : Bool). flat_map arguments (cond b (words ∷ []) [])) (not_outputs (kind_of words) other)
