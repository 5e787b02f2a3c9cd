-- What files in memory tell before and after a call is what the call may do.
use Rattle.std.proofs.Common.{◌≡◌, ℕ, ◌+◌, ◌-◌, ◌^◌, ◌<◌, ◌≤◌, min, Bool, true, false, cond, eqb, List, [], ◌∷◌, ◌++◌, length, take, drop, Option, Some, None, refl, sym, ap, subst, ◌∙◌, ◌⊎◌, ⊎_elim}
use Rattle.std.proofs.Common.{arith}
use Rattle.std.proofs.lemmas.Option.{none-some, same_Some, MatchOption-at_some}
use Rattle.std.proofs.lemmas.Bool.{false≢true, eqb-true, leb-true, le-leb, lt-leb, and_parts, and_from, and_left, and_right, or_cases}
use Rattle.std.specs.Bool.{⊤}
use Rattle.std.specs.Option.{is_some, unwrap_or, IfSome}
use Rattle.std.specs.Ordering.{nat_cmp, eq_by_cmp}
use Rattle.std.specs.Cmp.Lexicographic.{slice_cmp, nat_list_cmp_total}
use Rattle.std.specs.Prelude.{count_by, bytes_eq}
use Rattle.std.specs.FinMap.{get, insert, contains_key, get-insert}
use Rattle.semantics.specs.Texts.{Bytes}
use Rattle.outside_semantics.specs.Outside.{Held, Place, Goes, StaysCalm, KeepsAtOpen, Opened, OpenFailed, KeepsAtRead, GaveNext, Gave, ReadFailed, Created, CreateFailed, Wrote, WriteFailed}
use Rattle.outside_semantics.specs.Outside.{bytes_of, turns_on, turns_after, added_to, appended}
use Rattle.outside_semantics.proofs.ReadTurns.{turns_kept, turns_grow}
use Rattle.file_core.specs.Calls.{one_more, is_listed, none_left}
use Rattle.file_core.specs.Memory.{MemoryValue, memory_told, fails_next, faulted, opened, not_opened, left_of, moved, read_on, created, not_created, wrote}
use Rattle.history.specs.declared.reads.Reads.{Reads}
use Rattle.file_core.specs.Counting.{Rises}
use Rattle.file_core.specs.declared.calls.Calls.{Calls}
use Rattle.file_core.specs.declared.cursor.Cursor.{Cursor}
use Rattle.file_core.specs.Cursor.{place_of, name_of, memory_value}
use Rattle.file_core.specs.Entries.{Entry, name_at, bytes_at, held_in, LacksName, IsFirstAt, IsCounted, SetsFile}
use Rattle.file_core.proofs.Told.{appended-nil}
use Rattle.file_core.proofs.Entries.{get-first, get-lacks}

-- where no listed call is left, none is left later
none_left-later : (ns : List ℕ) (a b : ℕ) → a ≤ b → none_left ns a ≡ true → none_left ns b ≡ true
none_left-later [] a b le e = refl
none_left-later (n ∷ ns) a b le e =
    let parts = and_parts _ _ e in
    let small : n ≤ a = leb-true n a parts.0 in
    and_from _ _ (le-leb n b (omega arith)) (none_left-later ns a b le parts.1)

-- where the next call is listed, a listed call is left
none_left-listed : (ns : List ℕ) (calls : ℕ) → is_listed ns (calls + 1) ≡ true → none_left ns calls ≡ false
none_left-listed [] calls e = absurd (false≢true e)
none_left-listed (n ∷ ns) calls e =
    ⊎_elim
    (λ (here : eqb n (calls + 1) ≡ true). and_left _ _ (let is : n ≡ calls + 1 = eqb-true n (calls + 1) here in lt-leb n calls (omega arith)))
    (λ (later : is_listed ns (calls + 1) ≡ true). and_right _ _ (none_left-listed ns calls later))
    (or_cases _ _ e)

-- the counts rise from m to n, and the same calls fail
pub record Later (m n : MemoryValue) : Type 0 where
  pub faults : m.faults ≤ n.faults
  pub calls : m.calls ≤ n.calls
  pub failing : n.failing ≡ m.failing

Goes-memory : (m n : MemoryValue) → Later m n → ((name : Bytes) → turns_on (memory_told m) name ≤ turns_on (memory_told n) name)
    → ((name : Bytes) → contains_key m.held name ≡ true → contains_key n.held name ≡ true) → Goes (memory_told m) (memory_told n)
Goes-memory m n later turns keeps = record {
  counts = later.faults;
  turns = turns;
  untold = λ e. absurd (none-some m.held (sym e));
  steady_read = λ name e.
      let parts = and_parts _ _ e in
      and_from _ _ (keeps name parts.0) (subst (λ x. none_left x n.calls ≡ true) (sym later.failing) (none_left-later m.failing m.calls n.calls later.calls parts.1));
  steady_write = λ name e. e;
}

StaysCalm-memory : (m n : MemoryValue) → Later m n → (is_some m.reading ≡ true → is_some n.reading ≡ true) → StaysCalm (memory_told m) (memory_told n)
StaysCalm-memory m n later keeps = record {
  read = λ e.
      let parts = and_parts _ _ e in
      and_from _ _ (keeps parts.0) (subst (λ x. none_left x n.calls ≡ true) (sym later.failing) (none_left-later m.failing m.calls n.calls later.calls parts.1));
  write = λ e. e;
}

same_held : (h a b : Held) → Some h ≡ Some a → Some h ≡ Some b → b ≡ a
same_held h a b x y = sym (same_Some h b y) ∙ same_Some h a x

is_some-cond : {A : Type 0} (b : Bool) (x : A) (o : Option A) → is_some o ≡ true → is_some (cond b (Some x) o) ≡ true
is_some-cond true x o e = refl
is_some-cond false x o e = e

-- a name stays held where another is inserted
contains_key-insert : (h : Held) (name bytes q : Bytes) → contains_key h q ≡ true → contains_key (insert h name bytes) q ≡ true
contains_key-insert h name bytes q e =
    ap is_some (get-insert nat_list_cmp_total h name bytes q) ∙ is_some-cond (eq_by_cmp (slice_cmp nat_cmp) q name) bytes (get h q) e

contains_key-added_to : (o : Option Bytes) (h : Held) (name text q : Bytes) → contains_key h q ≡ true → contains_key (added_to o h name text) q ≡ true
contains_key-added_to None h name text q e = e
contains_key-added_to (Some bytes) h name text q e = contains_key-insert h name (bytes ++ text) q e

contains_key-appended : (h : Held) (w : Option Bytes) (text q : Bytes) → contains_key h q ≡ true → contains_key (appended h w text) q ≡ true
contains_key-appended h None text q e = e
contains_key-appended h (Some name) text q e = contains_key-added_to (get h name) h name text q e

KeepsAtOpen-memory : (m n : MemoryValue) (name : Bytes) → Later m n → n.turns ≡ m.turns → n.held ≡ m.held → KeepsAtOpen (memory_told m) (memory_told n) name
KeepsAtOpen-memory m n name later turns same = record {
  goes = Goes-memory m n later (turns_kept turns) (λ q e. subst (λ x. contains_key x q ≡ true) (sym same) e);
  turns = turns;
  stays = λ a b x y. sym (same_Some n.held b y) ∙ same ∙ same_Some m.held a x;
  still_told = λ a x held. ap Some same ∙ x;
}

-- `open_file` found the name
pub Opened-memory : (m n : MemoryValue) (name : Bytes) → Later m n → n ≡ opened m name → contains_key m.held name ≡ true → Opened (memory_told m) (memory_told n) name
Opened-memory m n name later is held = record {
  keeps = KeepsAtOpen-memory m n name later (ap (λ x. x.turns) is) (ap (λ x. x.held) is);
  opened = ap (λ x. x.opened) is;
  is_held = λ a b x y. subst (λ h. contains_key h name ≡ true) (same_Some m.held a x) held;
  reading = λ a b x y. ap (λ v. v.reading) is;
  calm = λ e.
      and_from _ _ (ap (λ v. is_some v.reading) is) (subst (λ x. none_left x n.calls ≡ true) (sym later.failing) (none_left-later m.failing m.calls n.calls later.calls (and_parts _ _ e).1));
}

rose_once : (m n : MemoryValue) → n.faults ≡ one_more m.faults → min (m.faults + 1) (2 ^ 64 - 1) ≤ n.faults
rose_once m n e = omega arith

-- `open_file` failed by its number or for a missing name
pub OpenFailed-memory : (m n : MemoryValue) (name : Bytes) → Later m n → n ≡ not_opened m → (fails_next m ≡ true) ⊎ (contains_key m.held name ≡ false) → OpenFailed (memory_told m) (memory_told n) name
OpenFailed-memory m n name later is why = record {
  keeps = KeepsAtOpen-memory m n name later (ap (λ x. x.turns) is) (ap (λ x. x.held) is);
  rose = rose_once m n (ap (λ x. x.faults) is);
  not_steady = ⊎_elim
      (λ (listed : fails_next m ≡ true). and_right _ _ (none_left-listed m.failing m.calls listed))
      (λ (missing : contains_key m.held name ≡ false). and_left _ _ missing)
      why;
  closed = ap (λ x. x.reading) is;
  none_opened = ap (λ x. x.opened) is;
}

KeepsAtRead-memory : (m n : MemoryValue) → Later m n → ((name : Bytes) → turns_on (memory_told m) name ≤ turns_on (memory_told n) name) → n.opened ≡ m.opened → n.held ≡ m.held
    → is_some n.reading ≡ is_some m.reading → KeepsAtRead (memory_told m) (memory_told n)
KeepsAtRead-memory m n later turns opened same open_same = record {
  goes = Goes-memory m n later turns (λ q e. subst (λ x. contains_key x q ≡ true) (sym same) e);
  opened = opened;
  calm = StaysCalm-memory m n later (λ e. open_same ∙ e);
  stays = λ a x. ap Some same ∙ x;
}

is_some-moved : (n : ℕ) (o : Option Place) → is_some (moved n o) ≡ is_some o
is_some-moved n None = refl
is_some-moved n (Some place) = refl

none_given : (k buffer chunk left at size : ℕ) → (0 < buffer → 0 < chunk) → k ≡ min (min buffer chunk) left → left ≡ size - at → 0 < buffer → k ≡ 0 → size ≤ at
none_given k buffer chunk left at size some is left_is room none =
    let h : 0 < chunk = some room in
    omega arith

-- the bytes from a place on were given
pub GaveNext-given : (held : Held) (old new : Option Place) (place : Place) (k chunk : ℕ) (buffer : Bytes) → old ≡ Some place → new ≡ moved k old → (0 < length buffer → 0 < chunk)
    → k ≡ min (min (length buffer) chunk) (left_of held old) → take k buffer ≡ take k (drop place.at (bytes_of held place.name)) → GaveNext (bytes_of held place.name) place k buffer new
GaveNext-given held old new place k chunk buffer reads is some count bytes =
    let left : left_of held old ≡ length (bytes_of held place.name) - place.at = ap (left_of held) reads in
    record {
      bytes = bytes;
      moves = is ∙ ap (moved k) reads;
      inside = omega arith;
      ends = none_given k (length buffer) chunk (left_of held old) place.at (length (bytes_of held place.name)) some count left;
    }

-- with nothing open no byte is given
pub none_open : (held : Held) (old : Option Place) (k room : ℕ) → old ≡ None → k ≡ min room (left_of held old) → k ≡ 0
none_open held old k room none count =
    let left : left_of held old ≡ 0 = ap (left_of held) none in
    omega arith

turns_read : (m n : MemoryValue) (asked k : ℕ) → n.turns ≡ turns_after m.opened asked k m.turns → (name : Bytes) → turns_on (memory_told m) name ≤ turns_on (memory_told n) name
turns_read m n asked k is name =
    subst (λ ts. turns_on (memory_told m) name ≤ count_by (bytes_eq name) ts) (sym is) (turns_grow m.opened asked k m.turns name)

-- `read` gave k bytes
pub Gave-memory : (m n : MemoryValue) (k : ℕ) (buffer : Bytes) → Later m n → n ≡ read_on m (length buffer) k → 0 < m.chunk → k ≡ min (min (length buffer) m.chunk) (left_of m.held m.reading)
    → ((place : Place) → m.reading ≡ Some place → take k buffer ≡ take k (drop place.at (bytes_of m.held place.name))) → Gave (memory_told m) (memory_told n) k buffer
Gave-memory m n k buffer later is some count bytes = record {
  keeps = KeepsAtRead-memory m n later (turns_read m n (length buffer) k (ap (λ x. x.turns) is)) (ap (λ x. x.opened) is) (ap (λ x. x.held) is)
      (ap (λ x. is_some x.reading) is ∙ is_some-moved k m.reading);
  turns = ap (λ x. x.turns) is;
  from_file = λ a place x reads.
      subst (λ h. GaveNext (bytes_of h place.name) place k buffer n.reading) (same_Some m.held a x)
      (GaveNext-given m.held m.reading n.reading place k m.chunk buffer reads (ap (λ v. v.reading) is) (λ _. some) count (bytes place reads));
  nothing_open = λ a x none. none_open m.held m.reading k _ none count;
  still_closed = λ a x none. ap (λ v. v.reading) is ∙ ap (moved k) none;
}

-- `read` failed by its number or with nothing open
pub ReadFailed-memory : (m n : MemoryValue) → Later m n → n ≡ faulted m → (fails_next m ≡ true) ⊎ (m.reading ≡ None) → ReadFailed (memory_told m) (memory_told n)
ReadFailed-memory m n later is why = record {
  keeps = KeepsAtRead-memory m n later (turns_kept (ap (λ x. x.turns) is)) (ap (λ x. x.opened) is) (ap (λ x. x.held) is) (ap (λ x. is_some x.reading) is);
  turns = ap (λ x. x.turns) is;
  rose = rose_once m n (ap (λ x. x.faults) is);
  not_calm = ⊎_elim
      (λ (listed : fails_next m ≡ true). and_right _ _ (none_left-listed m.failing m.calls listed))
      (λ (closed : m.reading ≡ None). and_left _ _ (ap is_some closed))
      why;
  place = ap (λ x. x.reading) is;
}

-- `create` made the file
pub Created-memory : (m n : MemoryValue) (name : Bytes) → Later m n → n ≡ created m name → Created (memory_told m) (memory_told n) name
Created-memory m n name later is = record {
  goes = Goes-memory m n later (turns_kept (ap (λ x. x.turns) is)) (λ q e. subst (λ x. contains_key x.held q ≡ true) (sym is) (contains_key-insert m.held name [] q e));
  turns = record { opened = ap (λ x. x.opened) is; turns = ap (λ x. x.turns) is };
  made = λ a b x y. sym (same_Some n.held b y) ∙ ap (λ v. v.held) is ∙ ap (λ h. insert h name []) (same_Some m.held a x);
  writing = λ a b x y. ap (λ v. v.writing) is;
  calm = λ e. e;
}

-- `create` failed
pub CreateFailed-memory : (m n : MemoryValue) (name : Bytes) → Later m n → n ≡ not_created m → CreateFailed (memory_told m) (memory_told n) name
CreateFailed-memory m n name later is = record {
  goes = Goes-memory m n later (turns_kept (ap (λ x. x.turns) is)) (λ q e. subst (λ x. contains_key x.held q ≡ true) (sym is) e);
  turns = record { opened = ap (λ x. x.opened) is; turns = ap (λ x. x.turns) is };
  rose = rose_once m n (ap (λ x. x.faults) is);
  not_steady = refl;
  stays = λ a b x y. sym (same_Some n.held b y) ∙ ap (λ v. v.held) is ∙ same_Some m.held a x;
  closed = ap (λ x. x.writing) is;
}

-- `append` added the text
pub Wrote-memory : (m n : MemoryValue) (text : Bytes) → Later m n → n ≡ wrote m text → Wrote (memory_told m) (memory_told n) text
Wrote-memory m n text later is = record {
  goes = Goes-memory m n later (turns_kept (ap (λ x. x.turns) is)) (λ q e. subst (λ x. contains_key x.held q ≡ true) (sym is) (contains_key-appended m.held m.writing text q e));
  turns = record { opened = ap (λ x. x.opened) is; turns = ap (λ x. x.turns) is };
  calm = StaysCalm-memory m n later (λ e. ap (λ x. is_some x.reading) is ∙ e);
  writing = ap (λ x. x.writing) is;
  held = λ a b x y. sym (same_Some n.held b y) ∙ ap (λ v. v.held) is ∙ ap (λ h. appended h m.writing text) (same_Some m.held a x);
}

-- `append` failed
pub WriteFailed-memory : (m n : MemoryValue) → Later m n → n ≡ faulted m → WriteFailed (memory_told m) (memory_told n) []
WriteFailed-memory m n later is = record {
  goes = Goes-memory m n later (turns_kept (ap (λ x. x.turns) is)) (λ q e. subst (λ x. contains_key x.held q ≡ true) (sym is) e);
  turns = record { opened = ap (λ x. x.opened) is; turns = ap (λ x. x.turns) is };
  calm = StaysCalm-memory m n later (λ e. ap (λ x. is_some x.reading) is ∙ e);
  rose = rose_once m n (ap (λ x. x.faults) is);
  not_calm = refl;
  held = λ a b x y.
      (0, omega arith, sym (same_Some n.held b y) ∙ ap (λ v. v.held) is ∙ same_Some m.held a x ∙ sym (appended-nil a m.writing));
}

-- a later value, from the value before under another name
pub Later-from : {first m : MemoryValue} (n : MemoryValue) → first ≡ m → first.faults ≤ n.faults → first.calls ≤ n.calls → n.failing ≡ first.failing → Later m n
Later-from {first} {m} n is faults calls same = record {
  faults = subst (λ x. x.faults ≤ n.faults) is faults;
  calls = subst (λ x. x.calls ≤ n.calls) is calls;
  failing = same ∙ ap (λ x. x.failing) is;
}

-- counts that rise over two turns rise over both
pub Rises-Rises : {a b c : Calls} → Rises a b → Rises b c → Rises a c
Rises-Rises {a} {b} {c} p q =
    let faults_first : a.faults ≤ b.faults = p.faults in
    let faults_then : b.faults ≤ c.faults = q.faults in
    let calls_first : a.calls ≤ b.calls = p.calls in
    let calls_then : b.calls ≤ c.calls = q.calls in
    record { faults = omega arith; calls = omega arith; failing = q.failing ∙ p.failing }

-- a name with an entry is held
pub contains_key-first : {es : List Entry} {name : Bytes} {i : ℕ} → IsFirstAt es name i → contains_key (held_in es) name ≡ true
contains_key-first at = ap is_some (get-first at)

-- a name with no entry is not held
pub contains_key-lacks : (es : List Entry) (name : Bytes) → LacksName es name → contains_key (held_in es) name ≡ false
contains_key-lacks es name lacks = ap is_some (get-lacks es name lacks)

bytes_of-counted : (es : List Entry) (i : ℕ) → IsCounted es i → bytes_of (held_in es) (name_at es i) ≡ bytes_at es i
bytes_of-counted es i at = ap (λ o. unwrap_or o []) (get-first at)

-- what is left of the entry that is read
pub left_of-counted : (es : List Entry) (reading : Option Cursor) (c : Cursor) → reading ≡ Some c → IsCounted es c.file
    → left_of (held_in es) (place_of es reading) ≡ length (bytes_at es c.file) - c.at
left_of-counted es reading c is at =
    ap (λ r. left_of (held_in es) (place_of es r)) is ∙ ap (λ x. length x - c.at) (bytes_of-counted es c.file at)

-- the next bytes of the entry that is read
pub next_bytes-counted : (es : List Entry) (reading : Option Cursor) (c : Cursor) (k : ℕ) (given : Bytes) → reading ≡ Some c → IsCounted es c.file → given ≡ take k (drop c.at (bytes_at es c.file))
    → (place : Place) → place_of es reading ≡ Some place → given ≡ take k (drop place.at (bytes_of (held_in es) place.name))
next_bytes-counted es reading c k given is at e place reads =
    e ∙ ap (λ x. take k (drop c.at x)) (sym (bytes_of-counted es c.file at))
    ∙ ap (λ (p : Place). take k (drop p.at (bytes_of (held_in es) p.name))) (same_Some _ _ (ap (place_of es) (sym is) ∙ reads))

same_memory : {m n : MemoryValue} → m.held ≡ n.held → m.reading ≡ n.reading → m.writing ≡ n.writing → m.opened ≡ n.opened → m.turns ≡ n.turns → m.faults ≡ n.faults → m.calls ≡ n.calls
    → m.failing ≡ n.failing → m.chunk ≡ n.chunk → m ≡ n
same_memory h r w o t f c l k = λ i. record { held = h i; reading = r i; writing = w i; opened = o i; turns = t i; faults = f i; calls = c i; failing = l i; chunk = k i }

name_at-kept : {es fs : List Entry} {name bytes : Bytes} {i : ℕ} (k : ℕ) → SetsFile es fs name bytes i → IsCounted es k → name_at fs k ≡ name_at es k
name_at-kept k sets at = (sets.keeps _ k at).named

place_of-kept : {es fs : List Entry} {name bytes : Bytes} {i : ℕ} (reading : Option Cursor) → SetsFile es fs name bytes i → IfSome reading (λ c. IsCounted es c.file)
    → place_of fs reading ≡ place_of es reading
place_of-kept None sets at = refl
place_of-kept (Some c) sets at = ap (λ x. Some (record { name = x; at = c.at })) (name_at-kept c.file sets at)

appended-counted : (es : List Entry) (i : ℕ) (text : Bytes) → IsCounted es i → appended (held_in es) (Some (name_at es i)) text ≡ insert (held_in es) (name_at es i) (bytes_at es i ++ text)
appended-counted es i text at = ap (λ o. added_to o (held_in es) (name_at es i) text) (get-first at)

-- the entry that is written got the text at its end
pub wrote-extended : (es fs : List Entry) (reading : Option Cursor) (writing : Option ℕ) (known : Reads) (cs ds : Calls) (chunk i : ℕ) (text : Bytes) → writing ≡ Some i
    → IfSome reading (λ c. IsCounted es c.file) → IsCounted es i → SetsFile es fs (name_at es i) (bytes_at es i ++ text) i → ds ≡ record cs { calls = one_more cs.calls }
    → memory_value fs reading writing known ds chunk ≡ wrote (memory_value es reading writing known cs chunk) text
wrote-extended es fs reading writing known cs ds chunk i text is reads at sets once = same_memory
    (sets.held ∙ sym (appended-counted es i text at) ∙ ap (λ w. appended (held_in es) (name_of es w) text) (sym is))
    (place_of-kept reading sets reads)
    (ap (name_of fs) is ∙ ap Some (name_at-kept i sets at) ∙ ap (name_of es) (sym is))
    refl
    refl
    (ap (λ x. x.faults) once)
    (ap (λ x. x.calls) once)
    (ap (λ x. x.failing) once)
    refl

-- the entry that is read counts
pub counted_reading : (es : List Entry) {reading : Option Cursor} {c : Cursor} → reading ≡ Some c → IfSome reading (λ x. IsCounted es x.file) → IsCounted es c.file
counted_reading es {c = c} is h = MatchOption-at_some ⊤ (λ x. IsCounted es x.file) c is h

-- the entry that is written counts
pub counted_writing : (es : List Entry) {writing : Option ℕ} {i : ℕ} → writing ≡ Some i → IfSome writing (IsCounted es) → IsCounted es i
counted_writing es {i = i} is h = MatchOption-at_some ⊤ (IsCounted es) i is h

-- how many bytes are given
pub count-counted : (es : List Entry) (reading : Option Cursor) (c : Cursor) (k room chunk : ℕ) (content : Bytes) → reading ≡ Some c → IsCounted es c.file → content ≡ bytes_at es c.file
    → k ≡ min (min room chunk) (length content - c.at) → k ≡ min (min room chunk) (left_of (held_in es) (place_of es reading))
count-counted es reading c k room chunk content is at same e =
    e ∙ ap (λ x. min (min room chunk) (length x - c.at)) same ∙ ap (min (min room chunk)) (sym (left_of-counted es reading c is at))
