-- A text that is written page by page.
use Rattle.std.proofs.Common.{◌≡◌, ℕ, ◌<◌, [], ◌∷◌, ◌++◌, length, min, take, drop, refl, ap, sym, subst, ◌∙◌, append_assoc, append-nil, take-append-drop, arith}
use Rattle.semantics.specs.Texts.{Bytes}
use Rattle.outside_semantics.specs.Outside.{FilesTold, Wrote, WriteFailed}
use Rattle.file_core.proofs.Told.{Wrote-nil, Wrote-Wrote, WriteFailed-after, WriteFailed-more}

-- a page takes the first bytes of what is left
pub page_and_rest : (text page left : Bytes) (count : ℕ) → page ≡ take count text → left ≡ drop count text → text ≡ page ++ left
page_and_rest text page left count given rest = sym (ap (λ t. t ++ left) given ∙ ap (λ t. take count text ++ t) rest ∙ take-append-drop count text)

-- a page that takes no byte is behind the text's end
pub nothing_left : (text : Bytes) (room count : ℕ) → count ≡ min room (length text) → 0 < room → count ≡ 0 → text ≡ []
nothing_left [] room count is some none = refl
nothing_left (b ∷ text) room count is some none = absurd (omega (arith, is, some, none))

-- what was written so far, and what is left, are the whole
pub record WrittenUpTo (a b : FilesTold) (left whole : Bytes) : Type 0 where
  pub sent : Bytes
  pub wrote : Wrote a b sent
  pub same : sent ++ left ≡ whole

pub WrittenUpTo-none : (a : FilesTold) (whole : Bytes) → WrittenUpTo a a whole whole
WrittenUpTo-none a whole = record { sent = []; wrote = Wrote-nil a; same = refl }

pub WrittenUpTo-next : {a b c : FilesTold} {whole : Bytes} (text page left : Bytes) → text ≡ page ++ left → WrittenUpTo a b text whole → Wrote b c page → WrittenUpTo a c left whole
WrittenUpTo-next text page left cut before wrote = record {
  sent = before.sent ++ page;
  wrote = Wrote-Wrote before.wrote wrote;
  same = append_assoc before.sent page left ∙ ap (λ t. before.sent ++ t) (sym cut) ∙ before.same;
}

pub WrittenUpTo-failed : {a b c : FilesTold} {whole : Bytes} (text page left : Bytes) → text ≡ page ++ left → WrittenUpTo a b text whole → WriteFailed b c page → WriteFailed a c whole
WrittenUpTo-failed {a} {b} {c} text page left cut before failed =
    subst (λ t. WriteFailed a c t) (ap (λ t. before.sent ++ t) (sym cut) ∙ before.same) (WriteFailed-after before.wrote (WriteFailed-more left failed))

pub WrittenUpTo-all : {a b : FilesTold} {whole : Bytes} (text : Bytes) → text ≡ [] → WrittenUpTo a b text whole → Wrote a b whole
WrittenUpTo-all {a} {b} text none before =
    subst (λ t. Wrote a b t) (sym (append-nil before.sent) ∙ ap (λ t. before.sent ++ t) (sym none) ∙ before.same) before.wrote
