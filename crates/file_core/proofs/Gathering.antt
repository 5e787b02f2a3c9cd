-- How texts that are gathered in a page join, and what was written once the page is sent.
use Rattle.std.proofs.Common.{◌≡◌, [], ◌++◌, sym, ap, subst, ◌∙◌, append_assoc}
use Rattle.std.proofs.lemmas.List.{append-nil}
use Rattle.semantics.specs.Texts.{Bytes}
use Rattle.outside_semantics.specs.Outside.{FilesTold, Wrote, WriteFailed}
use Rattle.file_core.specs.Page.{Gathered}
use Rattle.file_core.proofs.Told.{Wrote-nil, Wrote-Wrote, WriteFailed-after, WriteFailed-more}

-- without a call the page stays
pub Gathered-nil : (a : FilesTold) (p : Bytes) → Gathered a a p p []
Gathered-nil a p = record { sent = []; wrote = Wrote-nil a; rest = append-nil p }

-- what the page held first and two texts, parts of which were sent in two turns
two_turns : (p q r s t one two : Bytes) → p ++ s ≡ one ++ q → q ++ t ≡ two ++ r → p ++ (s ++ t) ≡ (one ++ two) ++ r
two_turns p q r s t one two first second =
    sym (append_assoc p s t) ∙ ap (λ x. x ++ t) first ∙ append_assoc one q t ∙ ap (λ x. one ++ x) second ∙ sym (append_assoc one two r)

-- two texts that were gathered one after the other are one text
pub Gathered-Gathered : {a b c : FilesTold} {p q r s t : Bytes} → Gathered a b p q s → Gathered b c q r t → Gathered a c p r (s ++ t)
Gathered-Gathered {p = p} {q = q} {r = r} {s = s} {t = t} g h = record {
  sent = g.sent ++ h.sent;
  wrote = Wrote-Wrote g.wrote h.wrote;
  rest = two_turns p q r s t g.sent h.sent g.rest h.rest;
}

one_turn : (p q s t one : Bytes) → p ++ s ≡ one ++ q → one ++ (q ++ t) ≡ p ++ (s ++ t)
one_turn p q s t one first = sym (append_assoc one q t) ∙ ap (λ x. x ++ t) (sym first) ∙ append_assoc p s t

-- the page's bytes or a text that came later could not be appended
pub WriteFailed-gathered : {a b c : FilesTold} {p q s : Bytes} (t : Bytes) → Gathered a b p q s → WriteFailed b c (q ++ t) → WriteFailed a c (p ++ (s ++ t))
WriteFailed-gathered {a} {b} {c} {p} {q} {s} t g failed =
    subst (λ x. WriteFailed a c x) (one_turn p q s t g.sent g.rest) (WriteFailed-after g.wrote failed)

-- what failed within a text failed within a longer one
pub WriteFailed-longer : {a b : FilesTold} (p s t : Bytes) → WriteFailed a b (p ++ s) → WriteFailed a b (p ++ (s ++ t))
WriteFailed-longer {a} {b} p s t failed = subst (λ x. WriteFailed a b x) (append_assoc p s t) (WriteFailed-more t failed)

-- the write of a longer text failed
pub WriteFailed-gathered_longer : {a b c : FilesTold} {p q s : Bytes} (t u : Bytes) → Gathered a b p q s → WriteFailed b c (q ++ t) → WriteFailed a c (p ++ (s ++ (t ++ u)))
WriteFailed-gathered_longer {q = q} t u g failed = WriteFailed-gathered (t ++ u) g (WriteFailed-longer q t u failed)

-- the page was sent, and with it the whole text is written
pub Wrote-gathered : {a b c : FilesTold} {p q s : Bytes} → Gathered a b p q s → Wrote b c q → Wrote a c (p ++ s)
Wrote-gathered {a} {b} {c} {p} {q} {s} g wrote = subst (λ x. Wrote a c x) (sym g.rest) (Wrote-Wrote g.wrote wrote)

-- the text stays in the page
pub Gathered-kept : (a : FilesTold) (p q s : Bytes) → q ≡ p ++ s → Gathered a a p q s
Gathered-kept a p q s kept = record { sent = []; wrote = Wrote-nil a; rest = sym kept }

-- the page was sent, and then the text
pub Gathered-both_sent : {a b c : FilesTold} {p s : Bytes} (q : Bytes) → Wrote a b p → q ≡ [] → Wrote b c s → Gathered a c p q s
Gathered-both_sent {p = p} {s = s} q first none then = record {
  sent = p ++ s;
  wrote = Wrote-Wrote first then;
  rest = sym (ap (λ x. (p ++ s) ++ x) none ∙ append-nil (p ++ s));
}

-- the page's bytes could not be appended
pub WriteFailed-sent : {a b c : FilesTold} {p q s : Bytes} → Gathered a b p q s → WriteFailed b c q → WriteFailed a c (p ++ s)
WriteFailed-sent {a} {b} {c} {p} {q} {s} g failed = subst (λ x. WriteFailed a c x) (sym g.rest) (WriteFailed-after g.wrote failed)
