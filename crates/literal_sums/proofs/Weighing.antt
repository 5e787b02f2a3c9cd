-- The weight of a literal is that of the first term that has it.
use Rattle.std.proofs.Common.{◌≡◌, ◌≢◌, ℕ, ◌+◌, ◌<◌, ◌≤◌, List, [], ◌∷◌, length, get_or, drop, refl, sym, ap, ◌∙◌}
use Rattle.std.specs.Prelude.{◌==◌, if◌then◌else◌}
use Rattle.std.proofs.lemmas.Bool.{eq-eqb, ne_eqb}
use Rattle.std.proofs.lemmas.List.{drop_more, drop_all}
use Rattle.literal_sums.specs.declared.term.Term.{Term}
use Rattle.literal_sums.specs.Sums.{weight_in}

abbrev no_term : Term
no_term = record { literal = 0; weight = 0 }

module _ (l : ℕ) where
  pub weight_nil : weight_in l [] ≡ 0
  unfolding weight_in
  weight_nil = refl

  pub weight_cons : (t : Term) (ts : List Term) → weight_in l (t ∷ ts) ≡ (if t.literal == l then t.weight else weight_in l ts)
  unfolding weight_in
  weight_cons t ts = refl

  pub weight_here : (t : Term) (ts : List Term) → t.literal ≡ l → weight_in l (t ∷ ts) ≡ t.weight
  weight_here t ts same = weight_cons t ts ∙ ap (λ b. if b then t.weight else weight_in l ts) (eq-eqb t.literal l same)

  pub weight_later : (t : Term) (ts : List Term) → t.literal ≢ l → weight_in l (t ∷ ts) ≡ weight_in l ts
  weight_later t ts other = weight_cons t ts ∙ ap (λ b. if b then t.weight else weight_in l ts) (ne_eqb t.literal l other)

  -- where all terms before the index have other literals
  pub weight_found : (ts : List Term) (i all : ℕ) → i < length ts → weight_in l (drop i ts) ≡ all → (get_or ts i no_term).literal ≡ l → (get_or ts i no_term).weight ≡ all
  weight_found ts i all low rest same = sym (weight_here (get_or ts i no_term) (drop (i + 1) ts) same) ∙ sym (ap (weight_in l) (drop_more ts i no_term low)) ∙ rest

  pub weight_passed : (ts : List Term) (i all : ℕ) → i < length ts → weight_in l (drop i ts) ≡ all → (get_or ts i no_term).literal ≢ l → weight_in l (drop (i + 1) ts) ≡ all
  weight_passed ts i all low rest other = sym (weight_later (get_or ts i no_term) (drop (i + 1) ts) other) ∙ sym (ap (weight_in l) (drop_more ts i no_term low)) ∙ rest

  pub weight_missing : (ts : List Term) (i all : ℕ) → length ts ≤ i → weight_in l (drop i ts) ≡ all → 0 ≡ all
  weight_missing ts i all end rest = sym weight_nil ∙ sym (ap (weight_in l) (drop_all i ts end)) ∙ rest
