-- What files tell that never fail, before and after a call, is what the call may do.
use Rattle.std.proofs.Common.{◌≡◌, ℕ, ◌≤◌, min, true, false, length, Option, Some, None, refl, sym, ap, subst, ◌∙◌, arith}
use Rattle.std.proofs.lemmas.Option.{none-some, same_Some, cond_some}
use Rattle.std.proofs.lemmas.Bool.{both_ways}
use Rattle.std.specs.Prelude.{count_by, bytes_eq}
use Rattle.std.specs.FinMap.{contains_key}
use Rattle.semantics.specs.Texts.{Bytes}
use Rattle.outside_semantics.specs.Outside.{Held, Place, Goes, Opened, GaveNext, Gave, bytes_of, turns_on, turns_after}
use Rattle.outside_semantics.proofs.ReadTurns.{turns_kept, turns_grow}
use Rattle.file_core.specs.Memory.{left_of, moved}
use Rattle.file_core.specs.Sure.{SureValue, sure_told, held_where, reading_where, found, not_found, went_on, IsNextOf}
use Rattle.file_core.proofs.Memory.{GaveNext-given, none_open}

min_same : (n : ℕ) → min n n ≡ n
min_same n = omega arith

-- what is told, if anything, is what was given
told_is : (m : SureValue) (a : Held) → held_where m.told m.given ≡ Some a → m.given ≡ a
told_is m a e = (cond_some m.told m.given a e).1

-- what is told was told
is_told : (m : SureValue) (a : Held) → held_where m.told m.given ≡ Some a → m.told ≡ true
is_told m a e = (cond_some m.told m.given a e).0

-- where files are told, so is the place that is read
reading_told : (m : SureValue) (a : Held) (o : Option Place) → held_where m.told m.given ≡ Some a → reading_where m.told o ≡ o
reading_told m a o e = ap (λ t. reading_where t o) (is_told m a e)

Goes-sure : (m n : SureValue) → ((name : Bytes) → turns_on (sure_told m) name ≤ turns_on (sure_told n) name) → (held_where m.told m.given ≡ None → held_where n.told n.given ≡ None)
    → Goes (sure_told m) (sure_told n)
Goes-sure m n turns untold = record { counts = omega arith; turns = turns; untold = untold; steady_read = λ name e. e; steady_write = λ name e. e }

-- a given name was opened
pub Opened-sure_given : (m n : SureValue) (name : Bytes) → n ≡ found m name → contains_key m.given name ≡ true → Opened (sure_told m) (sure_told n) name
Opened-sure_given m n name is given =
    let held : held_where n.told n.given ≡ held_where m.told m.given = ap (λ v. held_where v.told v.given) is in
    record {
      keeps = record {
        goes = Goes-sure m n (turns_kept (ap (λ v. v.turns) is)) (λ e. held ∙ e);
        turns = ap (λ v. v.turns) is;
        stays = λ a b x y. same_Some b a (sym y ∙ held ∙ x);
        still_told = λ a x _. held ∙ x;
      };
      opened = ap (λ v. v.opened) is;
      is_held = λ a b x y. subst (λ z. contains_key z name ≡ true) (told_is m a x) given;
      reading = λ a b x y. ap (λ v. reading_where v.told v.reading) is ∙ reading_told m a _ x;
      calm = λ e. refl;
    }

-- another name was opened, so nothing is told from now on
pub Opened-sure_missing : (m n : SureValue) (name : Bytes) → n ≡ not_found m name → contains_key m.given name ≡ false → Opened (sure_told m) (sure_told n) name
Opened-sure_missing m n name is missing =
    let none : held_where n.told n.given ≡ None = ap (λ v. held_where v.told v.given) is in
    record {
      keeps = record {
        goes = Goes-sure m n (turns_kept (ap (λ v. v.turns) is)) (λ e. none);
        turns = ap (λ v. v.turns) is;
        stays = λ a b x y. absurd (none-some b (sym none ∙ y));
        still_told = λ a x held. absurd (both_ways _ missing (subst (λ z. contains_key z name ≡ true) (sym (told_is m a x)) held));
      };
      opened = ap (λ v. v.opened) is;
      is_held = λ a b x y. absurd (none-some b (sym none ∙ y));
      reading = λ a b x y. absurd (none-some b (sym none ∙ y));
      calm = λ e. refl;
    }

-- `read` gave k bytes
pub Gave-sure : (m n : SureValue) (k : ℕ) (buffer : Bytes) → n ≡ went_on m (length buffer) k → k ≡ min (length buffer) (left_of m.given m.reading) → IsNextOf m k buffer
    → Gave (sure_told m) (sure_told n) k buffer
Gave-sure m n k buffer is count bytes =
    let held : held_where n.told n.given ≡ held_where m.told m.given = ap (λ v. held_where v.told v.given) is in
    let turns : n.turns ≡ turns_after m.opened (length buffer) k m.turns = ap (λ v. v.turns) is in
    let goes_on : reading_where n.told n.reading ≡ reading_where m.told (moved k m.reading) = ap (λ v. reading_where v.told v.reading) is in
    record {
      keeps = record {
        goes = Goes-sure m n (λ name. subst (λ ts. turns_on (sure_told m) name ≤ count_by (bytes_eq name) ts) (sym turns) (turns_grow m.opened (length buffer) k m.turns name)) (λ e. held ∙ e);
        opened = ap (λ v. v.opened) is;
        calm = record { read = λ e. e; write = λ e. e };
        stays = λ a x. held ∙ x;
      };
      turns = turns;
      from_file = λ a place x reads.
          subst (λ z. GaveNext (bytes_of z place.name) place k buffer (reading_where n.told n.reading)) (told_is m a x)
          (let reads_on : m.reading ≡ Some place = sym (reading_told m a m.reading x) ∙ reads in
          GaveNext-given m.given m.reading (reading_where n.told n.reading) place k (length buffer) buffer reads_on (goes_on ∙ reading_told m a _ x) (λ room. room)
          (count ∙ ap (λ l. min l (left_of m.given m.reading)) (sym (min_same (length buffer)))) (bytes place reads_on));
      nothing_open = λ a x none. none_open m.given m.reading k _ (sym (reading_told m a m.reading x) ∙ none) count;
      still_closed = λ a x none.
          goes_on ∙ reading_told m a _ x ∙ ap (moved k) (sym (reading_told m a m.reading x) ∙ none);
    }
