-- How what files and a sink tell goes on from call to call: the relations of `Outside` are reflexive, and they join.
use Rattle.std.proofs.Common.{◌≡◌, ℕ, ◌+◌, ◌-◌, ◌≤◌, [], ◌++◌, length, take, drop, Option, Some, None, refl, sym, ap, subst, ◌∙◌, append_assoc, arith, length-append}
use Rattle.std.proofs.lemmas.Option.{none-some, same_Some}
use Rattle.std.proofs.lemmas.List.{append-nil, take_rest, take-append-le, take-append-drop}
use Rattle.std.proofs.lemmas.Bool.{false_from_ne_true, both_ways}
use Rattle.std.proofs.Math.Seq.{take-append-add}
use Rattle.std.specs.FinMap.{get, insert}
use Rattle.semantics.specs.Texts.{Bytes}
use Rattle.outside_semantics.specs.Outside.{Held, FilesTold, SinkTold, Rose, Goes, KeepsTurns, StaysCalm, Wrote, WriteFailed, SinkGoes, Took, TakeFailed, added_to, appended}
use Rattle.outside_semantics.proofs.HeldFiles.{get-insert_same, insert-insert, insert-get}

-- a rise that comes after other calls is a rise
rose_later : (a b c : ℕ) → a ≤ b → Rose b c → Rose a c
rose_later a b c le rose = omega arith

-- without a call everything is kept
pub Goes-same : (a : FilesTold) → Goes a a
Goes-same a = record { counts = omega arith; turns = λ name. omega arith; untold = λ e. e; steady_read = λ name e. e; steady_write = λ name e. e }

-- what every call keeps is kept over two calls
pub Goes-Goes : {a b c : FilesTold} → Goes a b → Goes b c → Goes a c
Goes-Goes {a} {b} {c} p q =
    let first : a.faults ≤ b.faults = p.counts in
    let second : b.faults ≤ c.faults = q.counts in
    record {
      counts = omega arith;
      turns = λ name. omega (arith, p.turns name, q.turns name);
      untold = λ e. q.untold (p.untold e);
      steady_read = λ name e. q.steady_read name (p.steady_read name e);
      steady_write = λ name e. q.steady_write name (p.steady_write name e);
    }

-- without a call there is no turn
pub KeepsTurns-same : (a : FilesTold) → KeepsTurns a a
KeepsTurns-same a = record { opened = refl; turns = refl }

-- where there is no turn in either of two calls there is none in both
pub KeepsTurns-KeepsTurns : {a b c : FilesTold} → KeepsTurns a b → KeepsTurns b c → KeepsTurns a c
KeepsTurns-KeepsTurns p q = record { opened = q.opened ∙ p.opened; turns = q.turns ∙ p.turns }

-- without a call all that is calm stays calm
pub StaysCalm-same : (a : FilesTold) → StaysCalm a a
StaysCalm-same a = record { read = λ e. e; write = λ e. e }

-- what stays calm over two turns stays calm over both
pub StaysCalm-StaysCalm : {a b c : FilesTold} → StaysCalm a b → StaysCalm b c → StaysCalm a c
StaysCalm-StaysCalm p q = record { read = λ e. q.read (p.read e); write = λ e. q.write (p.write e) }

some_from_told : {A : Type 0} (o : Option A) → (o ≡ None → ⊥) → (x : A) × (o ≡ Some x)
some_from_told None f = absurd (f refl)
some_from_told (Some x) f = (x, refl)

-- files that are told at the end of some calls were told before them
pub held_before : (b c : FilesTold) → Goes b c → (h : Held) → c.held ≡ Some h → (m : Held) × (b.held ≡ Some m)
held_before b c goes h e = some_from_told b.held (λ n. none-some h (sym (goes.untold n) ∙ e))

added_twice : (o : Option Bytes) (h : Held) (name s t : Bytes) → get h name ≡ o → appended (added_to o h name s) (Some name) t ≡ added_to o h name (s ++ t)
added_twice None h name s t e = ap (λ o. added_to o h name t) e
added_twice (Some bytes) h name s t e =
    ap (λ o. added_to o (insert h name (bytes ++ s)) name t) (get-insert_same h name (bytes ++ s))
    ∙ insert-insert h name (bytes ++ s) ((bytes ++ s) ++ t)
    ∙ ap (insert h name) (append_assoc bytes s t)

-- two texts appended one after the other are one text
pub appended-appended : (h : Held) (w : Option Bytes) (s t : Bytes) → appended (appended h w s) w t ≡ appended h w (s ++ t)
appended-appended h None s t = refl
appended-appended h (Some name) s t = added_twice (get h name) h name s t refl

added_none : (o : Option Bytes) (h : Held) (name : Bytes) → get h name ≡ o → added_to o h name [] ≡ h
added_none None h name e = refl
added_none (Some bytes) h name e = ap (insert h name) (append-nil bytes) ∙ insert-get h name bytes e

-- no text appended changes nothing
pub appended-nil : (h : Held) (w : Option Bytes) → appended h w [] ≡ h
appended-nil h None = refl
appended-nil h (Some name) = added_none (get h name) h name refl

appended_after : (x m y : Held) (v w : Option Bytes) (s t : Bytes) → w ≡ v → m ≡ appended x v s → y ≡ appended m w t → y ≡ appended x v (s ++ t)
appended_after x m y v w s t same_open first then =
    then ∙ ap (λ o. appended m o t) same_open ∙ ap (λ h. appended h v t) first ∙ appended-appended x v s t

-- without a call no text was written
pub Wrote-nil : (a : FilesTold) → Wrote a a []
Wrote-nil a = record {
  goes = Goes-same a;
  turns = KeepsTurns-same a;
  calm = StaysCalm-same a;
  writing = refl;
  held = λ x y at_x at_y. same_Some y x (sym at_y ∙ at_x) ∙ sym (appended-nil x a.writing);
}

-- two texts that were written one after the other are one text
pub Wrote-Wrote : {a b c : FilesTold} {s t : Bytes} → Wrote a b s → Wrote b c t → Wrote a c (s ++ t)
Wrote-Wrote {a} {b} {c} {s} {t} p q = record {
  goes = Goes-Goes p.goes q.goes;
  turns = KeepsTurns-KeepsTurns p.turns q.turns;
  calm = StaysCalm-StaysCalm p.calm q.calm;
  writing = q.writing ∙ p.writing;
  held = λ x y at_x at_y.
      let m = held_before b c q.goes y at_y in
      appended_after x m.0 y a.writing b.writing s t p.writing (p.held x m.0 at_x m.1) (q.held m.0 y m.1 at_y);
}

-- a text was written, and the next one failed
pub WriteFailed-after : {a b c : FilesTold} {s t : Bytes} → Wrote a b s → WriteFailed b c t → WriteFailed a c (s ++ t)
WriteFailed-after {a} {b} {c} {s} {t} p q = record {
  goes = Goes-Goes p.goes q.goes;
  turns = KeepsTurns-KeepsTurns p.turns q.turns;
  calm = StaysCalm-StaysCalm p.calm q.calm;
  rose = rose_later a.faults b.faults c.faults p.goes.counts q.rose;
  not_calm = false_from_ne_true _ (λ yes. both_ways _ q.not_calm (p.calm.write yes));
  held = λ x y at_x at_y.
      let m = held_before b c q.goes y at_y in
      let part = q.held m.0 y m.1 at_y in (
        length s + part.0,
        rw length-append (omega (arith, part.1)),
        appended_after x m.0 y a.writing b.writing s (take part.0 t) p.writing (p.held x m.0 at_x m.1) part.2 ∙ ap (appended x a.writing) (sym (take-append-add s t part.0)),
      );
}

-- what failed within a text failed within a longer one
pub WriteFailed-more : {a b : FilesTold} {s : Bytes} (t : Bytes) → WriteFailed a b s → WriteFailed a b (s ++ t)
WriteFailed-more {a} {b} {s} t p = record {
  goes = p.goes;
  turns = p.turns;
  calm = p.calm;
  rose = p.rose;
  not_calm = p.not_calm;
  held = λ x y at_x at_y.
      let part = p.held x y at_x at_y in
      (part.0, rw length-append (omega (arith, part.1)), part.2 ∙ ap (appended x a.writing) (sym (take-append-le part.0 s t part.1)));
}

part_of : (s rest : Bytes) (n : ℕ) → (s ++ take n rest) ++ take (length rest - n) (drop n rest) ≡ s ++ rest
part_of s rest n =
    append_assoc s (take n rest) _ ∙ ap (λ x. s ++ x) (ap (λ x. take n rest ++ x) (take_rest rest n) ∙ take-append-drop n rest)

-- a text of which a first part is written, and the rest of which is still to come
pub Wrote-part : {a b c : FilesTold} (text rest : Bytes) (n : ℕ) → (s : Bytes) × (s ++ rest ≡ text) × Wrote a b s → Wrote b c (take n rest)
    → (s : Bytes) × (s ++ take (length rest - n) (drop n rest) ≡ text) × Wrote a c s
Wrote-part text rest n before wrote = (before.0 ++ take n rest, part_of before.0 rest n ∙ before.1, Wrote-Wrote before.2 wrote)

-- a first part of a text is written, and then a fault came
pub WriteFailed-part : {a b c : FilesTold} (text rest : Bytes) → (s : Bytes) × (s ++ rest ≡ text) × Wrote a b s → WriteFailed b c [] → WriteFailed a c text
WriteFailed-part {a} {b} {c} text rest before failed =
    subst (λ x. WriteFailed a c x) before.1 (WriteFailed-after before.2 (WriteFailed-more rest failed))

-- without a call on a sink everything is kept
pub SinkGoes-same : (a : SinkTold) → SinkGoes a a
SinkGoes-same a = record { counts = omega arith; untold = λ e. e }

-- what every call on a sink keeps is kept over two calls
pub SinkGoes-SinkGoes : {a b c : SinkTold} → SinkGoes a b → SinkGoes b c → SinkGoes a c
SinkGoes-SinkGoes {a} {b} {c} p q =
    let first : a.faults ≤ b.faults = p.counts in
    let second : b.faults ≤ c.faults = q.counts in
    record { counts = omega arith; untold = λ e. q.untold (p.untold e) }

-- bytes that are told at the end of some calls were told before them
pub put_before : (b c : SinkTold) → SinkGoes b c → (s : Bytes) → c.put_bytes ≡ Some s → (m : Bytes) × (b.put_bytes ≡ Some m)
put_before b c goes s e = some_from_told b.put_bytes (λ n. none-some s (sym (goes.untold n) ∙ e))

-- without a call no text was put
pub Took-nil : (a : SinkTold) → Took a a []
Took-nil a = record { goes = SinkGoes-same a; put = λ x y at_x at_y. same_Some y x (sym at_y ∙ at_x) ∙ sym (append-nil x) }

put_after : (x m y s t : Bytes) → m ≡ x ++ s → y ≡ m ++ t → y ≡ x ++ (s ++ t)
put_after x m y s t first then = then ∙ ap (λ h. h ++ t) first ∙ append_assoc x s t

-- two texts that were put one after the other are one text
pub Took-Took : {a b c : SinkTold} {s t : Bytes} → Took a b s → Took b c t → Took a c (s ++ t)
Took-Took {a} {b} {c} {s} {t} p q = record {
  goes = SinkGoes-SinkGoes p.goes q.goes;
  put = λ x y at_x at_y.
      let m = put_before b c q.goes y at_y in
      put_after x m.0 y s t (p.put x m.0 at_x m.1) (q.put m.0 y m.1 at_y);
}

-- a text was put, and the next one failed
pub TakeFailed-after : {a b c : SinkTold} {s t : Bytes} → Took a b s → TakeFailed b c t → TakeFailed a c (s ++ t)
TakeFailed-after {a} {b} {c} {s} {t} p q = record {
  goes = SinkGoes-SinkGoes p.goes q.goes;
  rose = rose_later a.faults b.faults c.faults p.goes.counts q.rose;
  put = λ x y at_x at_y.
      let m = put_before b c q.goes y at_y in
      let part = q.put m.0 y m.1 at_y in
      (length s + part.0, rw length-append (omega (arith, part.1)), put_after x m.0 y s (take part.0 t) (p.put x m.0 at_x m.1) part.2 ∙ ap (λ h. x ++ h) (sym (take-append-add s t part.0)));
}

-- what failed within a text failed within a longer one
pub TakeFailed-more : {a b : SinkTold} {s : Bytes} (t : Bytes) → TakeFailed a b s → TakeFailed a b (s ++ t)
TakeFailed-more {a} {b} {s} t p = record {
  goes = p.goes;
  rose = p.rose;
  put = λ x y at_x at_y.
      let part = p.put x y at_x at_y in
      (part.0, rw length-append (omega (arith, part.1)), part.2 ∙ ap (λ h. x ++ h) (sym (take-append-le part.0 s t part.1)));
}

-- a text of which a first part is put, and the rest of which is still to come
pub Took-part : {a b c : SinkTold} (text rest : Bytes) (n : ℕ) → (s : Bytes) × (s ++ rest ≡ text) × Took a b s → Took b c (take n rest)
    → (s : Bytes) × (s ++ take (length rest - n) (drop n rest) ≡ text) × Took a c s
Took-part text rest n before took = (before.0 ++ take n rest, part_of before.0 rest n ∙ before.1, Took-Took before.2 took)

-- a first part of a text is put, and then a fault came
pub TakeFailed-part : {a b c : SinkTold} (text rest : Bytes) → (s : Bytes) × (s ++ rest ≡ text) × Took a b s → TakeFailed b c [] → TakeFailed a c text
TakeFailed-part {a} {b} {c} text rest before failed =
    subst (λ x. TakeFailed a c x) before.1 (TakeFailed-after before.2 (TakeFailed-more rest failed))
