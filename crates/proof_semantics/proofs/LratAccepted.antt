-- Words that spell items are matched as these items.
use Rattle.std.proofs.Common.{◌≡◌, ℕ, zero, suc, ◌^◌, ◌==◌, ◌<◌, List, [], ◌∷◌, ◌++◌, map, flat_map, false, Bool, refl, ap, sym, ◌∙◌, subst, append_assoc, append-nil, arith}
use Rattle.std.specs.Prelude.{ℤ}
use Rattle.std.proofs.lemmas.Bool.{lt-ltb}
use Rattle.std.proofs.Math.Dec.{eqb-suc-zero}
use Rattle.proof_semantics.specs.declared.lrat_word.LratWord.{LratWord}
use Rattle.proof_semantics.specs.declared.lrat_word.LratWord.TheVariants.{Letter, Number}
use Rattle.proof_semantics.specs.Logs.{LogItem}
use Rattle.proof_semantics.specs.LratTokens.{Token, token_word}
use Rattle.proof_semantics.specs.LratMatching.{Stage, Outside, Begun, Literals, Hints, Deletion, stage_after, item_given, stage_after_all, items_given}
use Rattle.proof_semantics.specs.LratGrammar.{SignedNumber, signed_word, plain_word, SpelledItem, addition, deletion, item_words, spelled_item, literal_of, AreLiteralSizes, ArePositive, IsSpelled}
use Rattle.proof_semantics.specs.LratGrammar.{AreSpelled, token_words}

-- some tokens lead from one stage to another, with these items, and the words of the rest are these
record Leads (st : Stage) (ts : List Token) (next : Stage) (items : List LogItem) (rest : List LratWord) : Type 0 where
  after : List Token
  words_are : token_words after ≡ rest
  stage : stage_after_all st ts ≡ stage_after_all next after
  given : items_given st ts ≡ items ++ items_given next after

-- one token
one : (st next : Stage) (ts : List Token) (w : LratWord) (items : List LogItem) (rest : List LratWord) → token_words ts ≡ w ∷ rest → ((place : ℕ) → stage_after st w place ≡ next)
    → item_given st w ≡ items → Leads st ts next items rest
one st next [] w items rest e s g = cc
one st next (t ∷ ts) w items rest e s g =
    let h : token_word t.bytes ≡ w = cc in
    let k : token_words ts ≡ rest = cc in
    let m : stage_after st (token_word t.bytes) t.place ≡ next = ap (λ (u : LratWord). stage_after st u t.place) h ∙ s t.place in
    record {
      after = ts;
      words_are = k;
      stage = ap (λ (u : Stage). stage_after_all u ts) m;
      given = ap (λ (xs : List LogItem). xs ++ items_given (stage_after st (token_word t.bytes) t.place) ts) (ap (item_given st) h ∙ g) ∙ ap (λ (u : Stage). items ++ items_given u ts) m;
    }

-- one run after another, where the first gives no item
joins : (st mid next : Stage) (ts : List Token) (items : List LogItem) (rest more : List LratWord) → Leads st ts mid [] rest
    → ((us : List Token) → token_words us ≡ rest → Leads mid us next items more) → Leads st ts next items more
joins st mid next ts items rest more a b =
    let c = b a.after a.words_are in
    record { after = c.after; words_are = c.words_are; stage = a.stage ∙ c.stage; given = a.given ∙ c.given }

none : (st : Stage) (ts : List Token) (rest : List LratWord) → token_words ts ≡ rest → Leads st ts st [] rest
none st ts rest e = record { after = ts; words_are = e; stage = refl; given = refl }

not_zero : (n : ℕ) → 0 < n → (n == 0) ≡ false
not_zero zero h = absurd (omega arith)
not_zero (suc n) h = eqb-suc-zero n

run_literals : (id : ℕ) (xs : List SignedNumber) (acc : List ℤ) (ts : List Token) (rest : List LratWord) → AreLiteralSizes xs → token_words ts ≡ map signed_word xs ++ rest
    → Leads (Literals id acc) ts (Literals id (acc ++ map literal_of xs)) [] rest
run_literals id [] acc ts rest p e = subst (λ (ys : List ℤ). Leads (Literals id acc) ts (Literals id ys) [] rest) (sym (append-nil acc)) (none (Literals id acc) ts rest e)
run_literals id (x ∷ xs) acc ts rest p e =
    let v = literal_of x in
    let more = acc ++ v ∷ [] in
    let nonzero = not_zero x.size p.0 in
    let l = lt-ltb x.size (2 ^ 31) p.1 in
    let first = one (Literals id acc) (Literals id more) ts (signed_word x) [] (map signed_word xs ++ rest) e (λ place. rw (nonzero, l) refl) refl in
    subst (λ (ys : List ℤ). Leads (Literals id acc) ts (Literals id ys) [] rest) (append_assoc acc (v ∷ []) (map literal_of xs))
    (joins (Literals id acc) (Literals id more) (Literals id (more ++ map literal_of xs)) ts [] (map signed_word xs ++ rest) rest first (λ us h. run_literals id xs more us rest p.2 h))

abbrev hinted : ℕ → List ℤ → List ℕ → Stage
hinted id literals hints = Hints id literals hints

run_hints : (id : ℕ) (literals : List ℤ) (xs acc : List ℕ) (ts : List Token) (rest : List LratWord) → ArePositive xs → token_words ts ≡ map plain_word xs ++ rest
    → Leads (hinted id literals acc) ts (hinted id literals (acc ++ xs)) [] rest
run_hints id literals [] acc ts rest p e = subst (λ (ys : List ℕ). Leads (hinted id literals acc) ts (hinted id literals ys) [] rest) (sym (append-nil acc)) (none (hinted id literals acc) ts rest e)
run_hints id literals (x ∷ xs) acc ts rest p e =
    let more = acc ++ x ∷ [] in
    let nonzero = not_zero x p.0 in
    let first = one (hinted id literals acc) (hinted id literals more) ts (plain_word x) [] (map plain_word xs ++ rest) e (λ place. rw nonzero refl) (rw nonzero refl) in
    subst (λ (ys : List ℕ). Leads (hinted id literals acc) ts (hinted id literals ys) [] rest) (append_assoc acc (x ∷ []) xs)
    (joins (hinted id literals acc) (hinted id literals more) (hinted id literals (more ++ xs)) ts [] (map plain_word xs ++ rest) rest first (λ us h. run_hints id literals xs more us rest p.1 h))

run_ids : (xs acc : List ℕ) (ts : List Token) (rest : List LratWord) → ArePositive xs → token_words ts ≡ map plain_word xs ++ rest → Leads (Deletion acc) ts (Deletion (acc ++ xs)) [] rest
run_ids [] acc ts rest p e = subst (λ (ys : List ℕ). Leads (Deletion acc) ts (Deletion ys) [] rest) (sym (append-nil acc)) (none (Deletion acc) ts rest e)
run_ids (x ∷ xs) acc ts rest p e =
    let more = acc ++ x ∷ [] in
    let nonzero = not_zero x p.0 in
    let first = one (Deletion acc) (Deletion more) ts (plain_word x) [] (map plain_word xs ++ rest) e (λ place. rw nonzero refl) (rw nonzero refl) in
    subst (λ (ys : List ℕ). Leads (Deletion acc) ts (Deletion ys) [] rest) (append_assoc acc (x ∷ []) xs)
    (joins (Deletion acc) (Deletion more) (Deletion (more ++ xs)) ts [] (map plain_word xs ++ rest) rest first (λ us h. run_ids xs more us rest p.1 h))

-- after the id of an addition a number is taken as after no literals
begun : (id : ℕ) (ts : List Token) (negative : Bool) (size : ℕ) (rest ws : List LratWord) (next : Stage) (items : List LogItem) → 0 < id → token_words ts ≡ Number negative size ∷ ws
    → Leads (Literals id []) ts next items rest → Leads (Begun id) ts next items rest
begun id [] negative size rest ws next items p e l = cc
begun id (t ∷ ts) negative size rest ws next items p e l =
    let h : token_word t.bytes ≡ Number negative size = cc in
    let nonzero = not_zero id p in
    let s : stage_after (Begun id) (token_word t.bytes) t.place ≡ stage_after (Literals id []) (token_word t.bytes) t.place = rw (h, nonzero) refl in
    record {
      after = l.after;
      words_are = l.words_are;
      stage = ap (λ (u : Stage). stage_after_all u ts) s ∙ l.stage;
      given = ap (λ (u : Stage). items_given u ts) s ∙ l.given;
    }

begun_literals : (id : ℕ) (literals : List SignedNumber) (first_end : Bool) (ts : List Token) (rest ws : List LratWord) (next : Stage) (items : List LogItem) → 0 < id
    → token_words ts ≡ map signed_word literals ++ (Number first_end 0 ∷ ws) → Leads (Literals id []) ts next items rest → Leads (Begun id) ts next items rest
begun_literals id [] first_end ts rest ws next items p e l = begun id ts first_end 0 rest ws next items p e l
begun_literals id (x ∷ xs) first_end ts rest ws next items p e l = begun id ts x.negative x.size rest (map signed_word xs ++ (Number first_end 0 ∷ ws)) next items p e l

addition_leads : (id : ℕ) (literals : List SignedNumber) (first_end : Bool) (hints : List ℕ) (last_end : Bool) (ts : List Token) (rest : List LratWord)
    → IsSpelled (addition id literals first_end hints last_end) → token_words ts ≡ item_words (addition id literals first_end hints last_end) ++ rest
    → Leads Outside ts Outside (spelled_item (addition id literals first_end hints last_end) ∷ []) rest
addition_leads id literals first_end hints last_end ts rest p e =
    let last = Number last_end 0 ∷ rest in
    let tail = Number first_end 0 ∷ (map plain_word hints ++ last) in
    let values = map literal_of literals in
    let item = spelled_item (addition id literals first_end hints last_end) ∷ [] in
    let flat : item_words (addition id literals first_end hints last_end) ++ rest ≡ Number false id ∷ (map signed_word literals ++ tail) =
    ap (λ (ws : List LratWord). Number false id ∷ ws)
    (append_assoc (map signed_word literals) (Number first_end 0 ∷ (map plain_word hints ++ Number last_end 0 ∷ [])) rest ∙ ap
    (λ (ws : List LratWord). map signed_word literals ++ (Number first_end 0 ∷ ws)) (append_assoc (map plain_word hints) (Number last_end 0 ∷ []) rest)) in
    joins Outside (Begun id) Outside ts item (map signed_word literals ++ tail) rest
    (one Outside (Begun id) ts (Number false id) [] (map signed_word literals ++ tail) (e ∙ flat) (λ place. refl) refl) (λ us h.
    begun_literals id literals first_end us rest (map plain_word hints ++ last) Outside item p.0 h (
    joins (Literals id []) (Literals id values) Outside us item tail rest (run_literals id literals [] us tail p.1 h) (λ vs i.
    joins (Literals id values) (hinted id values []) Outside vs item (map plain_word hints ++ last) rest
    (one (Literals id values) (hinted id values []) vs (Number first_end 0) [] (map plain_word hints ++ last) i (λ place. refl) refl) (λ ws j.
    joins (hinted id values []) (hinted id values hints) Outside ws item last rest (run_hints id values hints [] ws last p.2 j) (λ xs k.
    one (hinted id values hints) Outside xs (Number last_end 0) item rest k (λ place. refl) refl)))))

deletion_leads : (lead : SignedNumber) (ids : List ℕ) (last_end : Bool) (ts : List Token) (rest : List LratWord) → IsSpelled (deletion lead ids last_end)
    → token_words ts ≡ item_words (deletion lead ids last_end) ++ rest → Leads Outside ts Outside (spelled_item (deletion lead ids last_end) ∷ []) rest
deletion_leads lead ids last_end ts rest p e =
    let last = Number last_end 0 ∷ rest in
    let tail = map plain_word ids ++ last in
    let item = spelled_item (deletion lead ids last_end) ∷ [] in
    let flat : item_words (deletion lead ids last_end) ++ rest ≡ signed_word lead ∷ (Letter ∷ tail) =
    ap (λ (ws : List LratWord). signed_word lead ∷ (Letter ∷ ws)) (append_assoc (map plain_word ids) (Number last_end 0 ∷ []) rest) in
    joins Outside (Begun lead.size) Outside ts item (Letter ∷ tail) rest (one Outside (Begun lead.size) ts (signed_word lead) [] (Letter ∷ tail) (e ∙ flat) (λ place. rw p.0 refl) refl) (λ us h.
    joins (Begun lead.size) (Deletion []) Outside us item tail rest (one (Begun lead.size) (Deletion []) us Letter [] tail h (λ place. refl) refl) (λ vs i.
    joins (Deletion []) (Deletion ids) Outside vs item last rest (run_ids ids [] vs last p.1 i) (λ ws j.
    one (Deletion ids) Outside ws (Number last_end 0) item rest j (λ place. refl) refl)))

item_leads : (x : SpelledItem) (ts : List Token) (rest : List LratWord) → IsSpelled x → token_words ts ≡ item_words x ++ rest → Leads Outside ts Outside (spelled_item x ∷ []) rest
item_leads (addition id literals first_end hints last_end) ts rest p e = addition_leads id literals first_end hints last_end ts rest p e
item_leads (deletion lead ids last_end) ts rest p e = deletion_leads lead ids last_end ts rest p e

no_words : (ts : List Token) → token_words ts ≡ [] → (stage_after_all Outside ts ≡ Outside) × (items_given Outside ts ≡ [])
no_words [] e = (refl, refl)
no_words (t ∷ ts) e = cc

pub accepted : (ts : List Token) (xs : List SpelledItem) → AreSpelled xs → token_words ts ≡ flat_map item_words xs
    → (stage_after_all Outside ts ≡ Outside) × (items_given Outside ts ≡ map spelled_item xs)
accepted ts [] p e = no_words ts e
accepted ts (x ∷ xs) p e =
    let l = item_leads x ts (flat_map item_words xs) p.0 e in
    let r = accepted l.after xs p.1 l.words_are in
    (l.stage ∙ r.0, l.given ∙ ap (λ (ys : List LogItem). spelled_item x ∷ ys) r.1)
