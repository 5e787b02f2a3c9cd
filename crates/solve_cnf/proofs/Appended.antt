-- What a writer took, piece after piece.
use Rattle.std.proofs.Common.{◌≡◌, [], ◌++◌, Option, sym, ap, subst, ◌∙◌, append_assoc}
use Rattle.std.proofs.KnownBytes.{Appends-nil, Appends-trans}
use Rattle.std.proofs.lemmas.List.{append-nil}
use Rattle.std.specs.Io.KnownBytes.{Appends}
use Rattle.semantics.specs.Texts.{Bytes}

-- what was appended so far, and the rest, are the whole
pub record AppendedUpTo (a b : Option Bytes) (rest whole : Bytes) : Type 0 where
  pub sent : Bytes
  pub appended : Appends a b sent
  pub same : sent ++ rest ≡ whole

pub none_appended : (a : Option Bytes) {rest whole : Bytes} → rest ≡ whole → AppendedUpTo a a rest whole
none_appended a same = record { sent = []; appended = Appends-nil a; same = same }

pub next_appended : {a b c : Option Bytes} {rest whole : Bytes} (piece left : Bytes) → rest ≡ piece ++ left → AppendedUpTo a b rest whole → Appends b c piece → AppendedUpTo a c left whole
next_appended {a} {b} {c} piece left cut before next = record {
  sent = before.sent ++ piece;
  appended = Appends-trans a b c before.sent piece before.appended next;
  same = append_assoc before.sent piece left ∙ ap (λ t. before.sent ++ t) (sym cut) ∙ before.same;
}

pub all_appended : {a b : Option Bytes} {rest whole : Bytes} → rest ≡ [] → AppendedUpTo a b rest whole → Appends a b whole
all_appended {a} {b} none up_to = subst (λ t. Appends a b t) (sym (append-nil up_to.sent) ∙ ap (λ t. up_to.sent ++ t) (sym none) ∙ up_to.same) up_to.appended

-- two pieces, one behind another
pub two_appended : (a b c : Option Bytes) (x y : Bytes) {whole : Bytes} → x ++ y ≡ whole → Appends a b x → Appends b c y → Appends a c whole
two_appended a b c x y same first second = subst (λ t. Appends a c t) same (Appends-trans a b c x y first second)
