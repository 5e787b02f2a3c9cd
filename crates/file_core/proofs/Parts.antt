-- A text that is the texts of a list's items: one item further, and a fault within it or within a sequence of texts.
use Rattle.std.proofs.Common.{◌≡◌, ℕ, ◌+◌, ◌<◌, List, [], ◌∷◌, ◌++◌, flat_map, length, get_or, take, drop, sym, ap, subst, ◌∙◌, append_assoc}
use Rattle.std.proofs.lemmas.List.{append-nil, take_more, take-append-drop}
use Rattle.std.proofs.lemmas.Grind.{flat_map-append}
use Rattle.semantics.specs.Texts.{Bytes}
use Rattle.outside_semantics.specs.Outside.{FilesTold, Wrote, WriteFailed}
use Rattle.file_core.specs.Page.{Gathered}
use Rattle.file_core.proofs.Gathering.{Gathered-Gathered, WriteFailed-gathered, WriteFailed-gathered_longer, WriteFailed-longer}

-- the texts up to an item, and its own
pub flat_map-take_more : {X : Type 0} (f : X → Bytes) (xs : List X) (i : ℕ) (d : X) → i < length xs → flat_map f (take (i + 1) xs) ≡ flat_map f (take i xs) ++ f (get_or xs i d)
flat_map-take_more f xs i d within =
    ap (flat_map f) (take_more xs i d within) ∙ flat_map-append f (take i xs) (get_or xs i d ∷ [])
    ∙ ap (λ x. flat_map f (take i xs) ++ x) (append-nil (f (get_or xs i d)))

-- the texts before an item, its own and those behind it
flat_map-three : {X : Type 0} (f : X → Bytes) (xs : List X) (i : ℕ) (d : X) → i < length xs → flat_map f (take i xs) ++ (f (get_or xs i d) ++ flat_map f (drop (i + 1) xs)) ≡ flat_map f xs
flat_map-three f xs i d within =
    sym (append_assoc (flat_map f (take i xs)) (f (get_or xs i d)) (flat_map f (drop (i + 1) xs)))
    ∙ ap (λ x. x ++ flat_map f (drop (i + 1) xs)) (sym (flat_map-take_more f xs i d within))
    ∙ sym (flat_map-append f (take (i + 1) xs) (drop (i + 1) xs)) ∙ ap (flat_map f) (take-append-drop (i + 1) xs)

-- the texts of a list up to an item were gathered, and then its own
pub Gathered-next : {X : Type 0} {a b c : FilesTold} {p q r text : Bytes} (f : X → Bytes) (xs : List X) (i : ℕ) (d : X) → i < length xs → text ≡ f (get_or xs i d)
    → Gathered a b p q (flat_map f (take i xs)) → Gathered b c q r text → Gathered a c p r (flat_map f (take (i + 1) xs))
Gathered-next {a = a} {c = c} {p = p} {r = r} f xs i d within is before next =
    subst (λ t. Gathered a c p r t) (ap (λ t. flat_map f (take i xs) ++ t) is ∙ sym (flat_map-take_more f xs i d within)) (Gathered-Gathered before next)

-- the texts of a list up to an item were gathered, and a fault came within its own
pub WriteFailed-next : {X : Type 0} {a b c : FilesTold} {p q text : Bytes} (f : X → Bytes) (xs : List X) (i : ℕ) (d : X) → i < length xs → text ≡ f (get_or xs i d)
    → Gathered a b p q (flat_map f (take i xs)) → WriteFailed b c (q ++ text) → WriteFailed a c (p ++ flat_map f xs)
WriteFailed-next {a = a} {c = c} {p = p} {text = text} f xs i d within is before failed =
    let s = flat_map f (take i xs) in
    let u = flat_map f (drop (i + 1) xs) in
    subst (λ t. WriteFailed a c (p ++ t)) (ap (λ t. s ++ (t ++ u)) is ∙ flat_map-three f xs i d within)
    (WriteFailed-gathered_longer text u before failed)

-- two texts that make a whole
pub Gathered-in : {a b c : FilesTold} {p q r s t : Bytes} (whole : Bytes) → s ++ t ≡ whole → Gathered a b p q s → Gathered b c q r t → Gathered a c p r whole
Gathered-in {a = a} {c = c} {p = p} {r = r} whole is before next = subst (λ x. Gathered a c p r x) is (Gathered-Gathered before next)

-- a fault within the last part of a whole
pub WriteFailed-in : {a b c : FilesTold} {p q s : Bytes} (t whole : Bytes) → s ++ t ≡ whole → Gathered a b p q s → WriteFailed b c (q ++ t) → WriteFailed a c (p ++ whole)
WriteFailed-in {a = a} {c = c} {p = p} t whole is before failed = subst (λ x. WriteFailed a c (p ++ x)) is (WriteFailed-gathered t before failed)

-- a fault within the first part of a whole
pub WriteFailed-first : {a b : FilesTold} (p s t whole : Bytes) → s ++ t ≡ whole → WriteFailed a b (p ++ s) → WriteFailed a b (p ++ whole)
WriteFailed-first {a} {b} p s t whole is failed = subst (λ x. WriteFailed a b (p ++ x)) is (WriteFailed-longer p s t failed)

-- a fault within the second of three parts
pub WriteFailed-second : {a b c : FilesTold} {p q s : Bytes} (t u whole : Bytes) → s ++ (t ++ u) ≡ whole → Gathered a b p q s → WriteFailed b c (q ++ t) → WriteFailed a c (p ++ whole)
WriteFailed-second {q = q} t u whole is first failed = WriteFailed-in (t ++ u) whole is first (WriteFailed-longer q t u failed)

-- a fault within the third of four parts
pub WriteFailed-third : {a b c d : FilesTold} {p q r s t : Bytes} (u v whole : Bytes) → s ++ (t ++ (u ++ v)) ≡ whole → Gathered a b p q s → Gathered b c q r t → WriteFailed c d (r ++ u)
    → WriteFailed a d (p ++ whole)
WriteFailed-third {t = t} u v whole is first second failed = WriteFailed-in (t ++ (u ++ v)) whole is first (WriteFailed-gathered_longer u v second failed)

-- a fault within the fourth of five parts
pub WriteFailed-fourth : {a b c d e : FilesTold} {p q r m s t u : Bytes} (v w whole : Bytes) → s ++ (t ++ (u ++ (v ++ w))) ≡ whole → Gathered a b p q s → Gathered b c q r t → Gathered c d r m u
    → WriteFailed d e (m ++ v) → WriteFailed a e (p ++ whole)
WriteFailed-fourth {t = t} {u = u} v w whole is first second third failed =
    WriteFailed-in (t ++ (u ++ (v ++ w))) whole is first (WriteFailed-gathered (u ++ (v ++ w)) second (WriteFailed-gathered_longer v w third failed))

-- nothing stood in the page before
pub WriteFailed-from_empty : {a b : FilesTold} (p s : Bytes) → p ≡ [] → WriteFailed a b (p ++ s) → WriteFailed a b s
WriteFailed-from_empty {a} {b} p s none failed = subst (λ x. WriteFailed a b (x ++ s)) none failed

-- a text was written, where nothing stood before it
pub Wrote-from_empty : {a b : FilesTold} (p s : Bytes) → p ≡ [] → Wrote a b (p ++ s) → Wrote a b s
Wrote-from_empty {a} {b} p s none wrote = subst (λ x. Wrote a b (x ++ s)) none wrote
