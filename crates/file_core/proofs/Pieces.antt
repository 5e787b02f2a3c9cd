-- A text in pieces, one piece further and in whole.
use Rattle.std.proofs.Common.{◌≡◌, ℕ, ◌+◌, ◌<◌, List, [], ◌∷◌, ◌++◌, length, get_or, take, drop, refl, sym, ap, subst, ◌∙◌, append_assoc}
use Rattle.std.proofs.lemmas.List.{append-nil, take_more, take-append-drop}
use Rattle.std.specs.Borrow.{Bor}
use Rattle.semantics.specs.Texts.{Bytes}
use Rattle.outside_semantics.specs.Outside.{FilesTold, WriteFailed}
use Rattle.file_core.specs.Pieces.{joined}
use Rattle.file_core.specs.Page.{Gathered}
use Rattle.file_core.proofs.Gathering.{Gathered-Gathered, WriteFailed-gathered_longer}

-- the bytes of two lists of pieces
pub joined-append : (ps qs : List (Bor Bytes)) → joined (ps ++ qs) ≡ joined ps ++ joined qs
joined-append [] qs = refl
joined-append (p ∷ ps) qs = ap (λ x. p.now ++ x) (joined-append ps qs) ∙ sym (append_assoc p.now (joined ps) (joined qs))

-- one piece further
pub joined-take_more : (ps : List (Bor Bytes)) (i : ℕ) (p : Bor Bytes) → i < length ps → joined (take (i + 1) ps) ≡ joined (take i ps) ++ (get_or ps i p).now
joined-take_more ps i p within =
    ap joined (take_more ps i p within) ∙ joined-append (take i ps) (get_or ps i p ∷ [])
    ∙ ap (λ x. joined (take i ps) ++ x) (append-nil (get_or ps i p).now)

-- a first part of the pieces, and the others
pub joined-parts : (ps : List (Bor Bytes)) (i : ℕ) → joined (take i ps) ++ joined (drop i ps) ≡ joined ps
joined-parts ps i = sym (joined-append (take i ps) (drop i ps)) ∙ ap joined (take-append-drop i ps)

-- the pieces up to i, the piece at i and the others
joined-three : (ps : List (Bor Bytes)) (i : ℕ) (p : Bor Bytes) → i < length ps → (joined (take i ps) ++ (get_or ps i p).now) ++ joined (drop (i + 1) ps) ≡ joined ps
joined-three ps i p within =
    ap (λ x. x ++ joined (drop (i + 1) ps)) (sym (joined-take_more ps i p within)) ∙ joined-parts ps (i + 1)

-- the pieces up to i were gathered, and then the piece at i
pub Gathered-next_piece : {a b c : FilesTold} {p q r : Bytes} (ps : List (Bor Bytes)) (i : ℕ) (piece : Bor Bytes) → i < length ps → Gathered a b p q (joined (take i ps))
    → Gathered b c q r (get_or ps i piece).now → Gathered a c p r (joined (take (i + 1) ps))
Gathered-next_piece {a} {b} {c} {p} {q} {r} ps i piece within before next =
    subst (λ x. Gathered a c p r x) (sym (joined-take_more ps i piece within)) (Gathered-Gathered before next)

-- the pieces up to i were gathered, and the piece at i failed
pub WriteFailed-gathered_piece : {a b c : FilesTold} {p q : Bytes} (ps : List (Bor Bytes)) (i : ℕ) (piece : Bor Bytes) → i < length ps → Gathered a b p q (joined (take i ps))
    → WriteFailed b c (q ++ (get_or ps i piece).now) → WriteFailed a c (p ++ joined ps)
WriteFailed-gathered_piece {a} {b} {c} {p} {q} ps i piece within before failed =
    let s = joined (take i ps) in
    let t = (get_or ps i piece).now in
    let u = joined (drop (i + 1) ps) in
    subst (λ x. WriteFailed a c (p ++ x)) (sym (append_assoc s t u) ∙ joined-three ps i piece within) (WriteFailed-gathered_longer t u before failed)
