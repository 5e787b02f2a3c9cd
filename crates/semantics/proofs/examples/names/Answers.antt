-- by computation
use Rattle.std.proofs.Common.{◌≡◌, ℕ, ◌<◌, ◌≤◌, [], ◌∷◌, length, get_or, refl, subst, arith}
use Rattle.std.proofs.lemmas.List.Elements.{All-nil, All-cons, All-replicate}
use Rattle.semantics.specs.Texts.{Bytes}
use Rattle.semantics.specs.Net.{IsNameByte, IsName}
use Rattle.semantics.proofs.examples.names.Goals as goal

printable : (b : ℕ) → 36 ≤ b → b ≤ 126 → IsNameByte b
printable b low high = (omega arith, high, λ e. omega (arith, e))

-- the byte at a place of a name
byte_at : (bytes : Bytes) (k b : ℕ) → IsName bytes → k < length bytes → get_or bytes k 0 ≡ b → IsNameByte b
byte_at bytes k b h within is = subst IsNameByte is (h.printable k 0 within)

pub returns : goal.returns
returns c = record {
  longest = record {
    not_empty = omega arith;
    short = omega arith;
    printable = All-replicate IsNameByte 1023 97 (printable 97 (omega arith) (omega arith));
    ending = λ e. let same : 97 ≡ 92 = e in omega arith;
  };
  too_long = λ h. let short : 1024 ≤ 1023 = h.short in omega arith;
  empty = λ h. let some : 0 < 0 = h.not_empty in omega arith;
  backslash_within = record {
    not_empty = omega arith;
    short = omega arith;
    printable =
        All-cons IsNameByte 97 (92 ∷ 98 ∷ []) (printable 97 (omega arith) (omega arith))
        (All-cons IsNameByte 92 (98 ∷ []) (printable 92 (omega arith) (omega arith))
        (All-cons IsNameByte 98 [] (printable 98 (omega arith) (omega arith)) (All-nil IsNameByte)));
    ending = λ e. let same : 98 ≡ 92 = e in omega arith;
  };
  backslash_at_the_end = λ h. h.ending refl;
  ends_of_printable = record {
    not_empty = omega arith;
    short = omega arith;
    printable =
        All-cons IsNameByte 33 (126 ∷ []) (omega arith, omega arith, λ e. omega (arith, e))
        (All-cons IsNameByte 126 [] (printable 126 (omega arith) (omega arith)) (All-nil IsNameByte));
    ending = λ e. let same : 126 ≡ 92 = e in omega arith;
  };
  blank = λ h. let low : 33 ≤ 32 = (byte_at (97 ∷ 32 ∷ 98 ∷ []) 1 32 h (omega arith) refl).0 in omega arith;
  comment_sign = λ h. (byte_at (97 ∷ 35 ∷ []) 1 35 h (omega arith) refl).2 refl;
  delete = λ h. let high : 127 ≤ 126 = (byte_at (127 ∷ []) 0 127 h (omega arith) refl).1 in omega arith;
}
