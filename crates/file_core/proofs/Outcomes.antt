-- How what calls come to joins, where they gather or write one text after another.
use Rattle.std.proofs.Common.{◌≡◌, ℕ, ◌<◌, List, [], ◌++◌, flat_map, length, get_or, take, subst, Result, Ok, Err}
use Rattle.std.proofs.lemmas.Result.{on_ok_weaker, on_err_weaker}
use Rattle.std.specs.Borrow.{Bor}
use Rattle.semantics.specs.Texts.{Bytes}
use Rattle.outside_semantics.specs.Outside.{FilesTold, WriteFailed}
use Rattle.file_core.specs.Pieces.{joined}
use Rattle.file_core.specs.Page.{Gathered, Gathers, Writes, with_page}
use Rattle.file_core.proofs.Gathering.{Gathered-Gathered, WriteFailed-gathered, WriteFailed-sent, Wrote-gathered}
use Rattle.file_core.proofs.Parts.{WriteFailed-first, WriteFailed-second, WriteFailed-third, WriteFailed-fourth, WriteFailed-next}
use Rattle.file_core.proofs.Pieces.{WriteFailed-gathered_piece}

module _ {T E : Type 0} where
  -- a text was gathered, and no fault came
  pub Gathers-ok : {x : T} {a b : FilesTold} {p q s : Bytes} → Gathered a b p q s → Gathers {T = T} {E = E} (Ok x) (with_page a p) (with_page b q) s
  Gathers-ok g = record { ok = g; err = tt; emptied = tt }

  -- a fault came
  pub Gathers-err : {e : E} {a b : FilesTold} {p q s : Bytes} → WriteFailed a b (p ++ s) → q ≡ [] → Gathers {T = T} {E = E} (Err e) (with_page a p) (with_page b q) s
  Gathers-err failed none = record { ok = tt; err = failed; emptied = none }

  -- the text under another name
  pub Gathers-is : {r : Result T E} {a b : FilesTold} {p q s t : Bytes} → s ≡ t → Gathers r (with_page a p) (with_page b q) s → Gathers r (with_page a p) (with_page b q) t
  Gathers-is {r} {a} {b} {p} {q} is g = subst (λ x. Gathers r (with_page a p) (with_page b q) x) is g

  -- a text was gathered before
  pub Gathers-then : {r : Result T E} {a b c : FilesTold} {p q m s t : Bytes} → Gathered a b p q s → Gathers r (with_page b q) (with_page c m) t → Gathers r (with_page a p) (with_page c m) (s ++ t)
  Gathers-then {r = r} {t = t} before g = record {
    ok = on_ok_weaker r (λ last. Gathered-Gathered before last) g.ok;
    err = on_err_weaker r (λ failed. WriteFailed-gathered t before failed) g.err;
    emptied = g.emptied;
  }

  -- the last part of a whole
  pub Gathers-in : {r : Result T E} {a b c : FilesTold} {p q m s t : Bytes} (whole : Bytes) → s ++ t ≡ whole → Gathered a b p q s
      → Gathers r (with_page b q) (with_page c m) t → Gathers r (with_page a p) (with_page c m) whole
  Gathers-in whole is before g = Gathers-is is (Gathers-then before g)

  -- the page was sent, and with it the whole text is written
  pub Writes-gathered : {r : Result T E} {a b c : FilesTold} {p q s : Bytes} → Gathered a b p q s → Writes r b c q → Writes r a c (p ++ s)
  Writes-gathered {r = r} before w = record {
    ok = on_ok_weaker r (λ sent. Wrote-gathered before sent) w.ok;
    err = on_err_weaker r (λ failed. WriteFailed-sent before failed) w.err;
  }

  -- the text under another name
  pub Writes-is : {r : Result T E} {a b : FilesTold} {s t : Bytes} → s ≡ t → Writes r a b s → Writes r a b t
  Writes-is {r} {a} {b} is w = subst (λ x. Writes r a b x) is w

  -- nothing stood in the page before
  pub Writes-from_empty : {r : Result T E} {a b : FilesTold} (p s : Bytes) → p ≡ [] → Writes r a b (p ++ s) → Writes r a b s
  Writes-from_empty {r} {a} {b} p s none w = subst (λ x. Writes r a b (x ++ s)) none w

-- a fault of one call is answered by the next
module _ {S T E F : Type 0} {e : E} {f : F} where
  -- a fault within the first part of a whole
  pub Gathers-first : {a b : FilesTold} {p q s : Bytes} (t whole : Bytes) → s ++ t ≡ whole
      → Gathers {T = S} (Err e) (with_page a p) (with_page b q) s → Gathers {T = T} (Err f) (with_page a p) (with_page b q) whole
  Gathers-first {p = p} {s = s} t whole is g = Gathers-err (WriteFailed-first p s t whole is g.err) g.emptied

  -- a fault within the second of three parts
  pub Gathers-second : {a b c : FilesTold} {p q m s t : Bytes} (u whole : Bytes) → s ++ (t ++ u) ≡ whole → Gathered a b p q s → Gathers {T = S} (Err e) (with_page b q) (with_page c m) t
      → Gathers {T = T} (Err f) (with_page a p) (with_page c m) whole
  Gathers-second {t = t} u whole is first g = Gathers-err (WriteFailed-second t u whole is first g.err) g.emptied

  -- a fault within the third of four parts
  pub Gathers-third : {a b c d : FilesTold} {p q r m s t u : Bytes} (v whole : Bytes) → s ++ (t ++ (u ++ v)) ≡ whole → Gathered a b p q s → Gathered b c q r t
      → Gathers {T = S} (Err e) (with_page c r) (with_page d m) u
      → Gathers {T = T} (Err f) (with_page a p) (with_page d m) whole
  Gathers-third {u = u} v whole is first second g = Gathers-err (WriteFailed-third u v whole is first second g.err) g.emptied

  -- a fault within the fourth of five parts
  pub Gathers-fourth : {a b c d e' : FilesTold} {p q r m n s t u v : Bytes} (w whole : Bytes) → s ++ (t ++ (u ++ (v ++ w))) ≡ whole → Gathered a b p q s → Gathered b c q r t → Gathered c d r m u
      → Gathers {T = S} (Err e) (with_page d m) (with_page e' n) v → Gathers {T = T} (Err f) (with_page a p) (with_page e' n) whole
  Gathers-fourth {v = v} w whole is first second third g = Gathers-err (WriteFailed-fourth v w whole is first second third g.err) g.emptied

  -- the last part of a whole, where a fault is answered on
  pub Gathers-last : {a b c : FilesTold} {p q m s t : Bytes} (whole : Bytes) → s ++ t ≡ whole → Gathered a b p q s
      → Gathers {T = S} (Err e) (with_page b q) (with_page c m) t → Gathers {T = T} (Err f) (with_page a p) (with_page c m) whole
  Gathers-last {a = a} {c = c} {p = p} {t = t} whole is before g =
      Gathers-err (subst (λ x. WriteFailed a c (p ++ x)) is (WriteFailed-gathered t before g.err)) g.emptied

  -- the texts of a list up to an item were gathered, and a fault came within its own
  pub Gathers-next : {X : Type 0} {a b c : FilesTold} {p q r text : Bytes} (g : X → Bytes) (xs : List X) (i : ℕ) (d : X) → i < length xs → text ≡ g (get_or xs i d)
      → Gathered a b p q (flat_map g (take i xs)) → Gathers {T = S} (Err e) (with_page b q) (with_page c r) text → Gathers {T = T} (Err f) (with_page a p) (with_page c r) (flat_map g xs)
  Gathers-next g xs i d within is before h = Gathers-err (WriteFailed-next g xs i d within is before h.err) h.emptied

  -- the pieces up to i were gathered, and a fault came within the piece at i
  pub Gathers-next_piece : {a b c : FilesTold} {p q r : Bytes} (ps : List (Bor Bytes)) (i : ℕ) (piece : Bor Bytes) → i < length ps → Gathered a b p q (joined (take i ps))
      → Gathers {T = S} (Err e) (with_page b q) (with_page c r) (get_or ps i piece).now → Gathers {T = T} (Err f) (with_page a p) (with_page c r) (joined ps)
  Gathers-next_piece ps i piece within before g = Gathers-err (WriteFailed-gathered_piece ps i piece within before g.err) g.emptied

  -- a fault within the first part of a text that is written through a page that was empty
  pub Writes-failed : {a b : FilesTold} {p q s : Bytes} → p ≡ [] → Gathers {T = S} (Err e) (with_page a p) (with_page b q) s → Writes {T = T} (Err f) a b s
  Writes-failed {a} {b} {p} {q} {s} none g = record { ok = tt; err = subst (λ x. WriteFailed a b (x ++ s)) none g.err }
