use Rattle.std.proofs.Common.{ℕ, zero, suc, ◌<◌, ◌≤◌, List, refl, inl, inr, arith}
use Rattle.semantics.specs.Net.{TableValue}
use Rattle.proof_semantics.specs.Alike.{HaveSameForm, IsAlike}
use Rattle.proof_semantics.specs.AlikeExamples.{two_half_adders, one_gate}
use Rattle.proof_semantics.proofs.Alike.{alike-to_form, alike-turned, alike-input}
use Rattle.proof_semantics.proofs.alike_examples.alike_tables.Goals as goal

-- an input is apart from each other signal
not_input : (tables : List TableValue) (s e : ℕ) → e < 2 → 2 ≤ s → ¬ IsAlike 2 tables s e
not_input tables s e low high h = let same = alike-input 2 tables e s low (alike-turned 2 tables s e h) in omega (arith, same, low, high)

-- different signals that are alike have one form
formed : (tables : List TableValue) (s u : ℕ) → u < s → IsAlike 2 tables s u → HaveSameForm 2 tables (IsAlike 2 tables) s u
formed tables s u apart h = elim (alike-to_form 2 tables s u h) [ inl same ↦ absurd (omega (arith, same, apart)) | inr form ↦ form ]

not_carry : ¬ IsAlike 2 two_half_adders 5 2
not_carry h = let rows = (formed two_half_adders 5 2 (omega arith) h).rows in cc

before_carry : (e : ℕ) → e < 3 → ¬ IsAlike 2 two_half_adders 5 e
before_carry zero low h = not_input two_half_adders 5 0 (omega arith) (omega arith) h
before_carry (suc zero) low h = not_input two_half_adders 5 1 (omega arith) (omega arith) h
before_carry (suc (suc zero)) low h = not_carry h
before_carry (suc (suc (suc e))) low h = omega (arith, low)

alike_sums : IsAlike 2 two_half_adders 4 2
alike_sums = (
  1,
  inr (record {
    s_table = (omega arith, omega arith);
    u_table = (omega arith, omega arith);
    plane = refl;
    rows = refl;
    pins = (refl, (refl, tt));
  }),
)

pub returns : goal.returns
unfolding alike_sums
returns c = record {
  sums = record { earlier = omega arith; alike = alike_sums; first = λ e low. not_input two_half_adders 4 e low (omega arith) };
  carries = record {
    earlier = omega arith;
    alike = (
      1,
      inr (record {
        s_table = (omega arith, omega arith);
        u_table = (omega arith, omega arith);
        plane = refl;
        rows = refl;
        pins = (refl, (refl, tt));
      }),
    );
    first = before_carry;
  };
  behind_sums = (
    2,
    inr (record {
      s_table = (omega arith, omega arith);
      u_table = (omega arith, omega arith);
      plane = refl;
      rows = refl;
      pins = (alike_sums.1, tt);
    }),
  );
  other_rows = λ h. let rows = (formed two_half_adders 3 2 (omega arith) h).rows in cc;
  inputs = λ h. let same = alike-input 2 two_half_adders 1 0 (omega arith) h in omega (arith, same);
  other_plane = λ h. let plane = (formed one_gate 3 2 (omega arith) h).plane in cc;
  exchanged_pins = λ h. let same = alike-input 2 one_gate 1 0 (omega arith) (formed one_gate 4 2 (omega arith) h).pins.0 in omega (arith, same);
  exchanged_twice = λ h. let rows = (formed one_gate 5 4 (omega arith) h).rows in cc;
}
