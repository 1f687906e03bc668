-- What an entry makes of an account as it goes back.
use Rattle.std.proofs.Common.{◌≡◌, ◌≤◌, ◌<◌, ◌+◌, ◌∙◌, ℕ, Bool, true, false, ◌&&◌, nat_lt, List, [], ◌∷◌}
use Rattle.std.proofs.Common.{length, Option, Some, None, refl, sym, ap, subst, arith}
use Rattle.std.specs.Prelude.{Result, Ok}
use Rattle.std.proofs.lemmas.Bool.Decides.{nat_tests}
use Rattle.room_json.specs.Value.{Value}
use Rattle.room_nodes.specs.declared.nodes.Body.{Body}
use Rattle.room_nodes.specs.declared.nodes.Change.{Change}
use Rattle.room_nodes.specs.declared.nodes.Op.{Op}
use Rattle.room_log.specs.Log.{bodies_of, ops_from}
use Rattle.room_model.specs.Account.{Account, actor, bodies_in, clocks, last_issued, is_some_list, shown, size_of}
use Rattle.room_model.specs.Account.{frame_of_ops, most_bytes}
use Rattle.room_model.specs.Calls.{Direction, Done, UndoFault, go_back, back_at, back_entry, entry_of, entry_bodies}
use Rattle.room_model.specs.Calls.{entry_presence, entry_names, entry_reversal, went_back, tree_or_bare}
use Rattle.room_model.specs.Edits.{Clocks, Made, spent, clocked, made}
use Rattle.room_model.specs.Notices.{Notice, notices_of_all}
use Rattle.room_props.specs.Making.{nodes_made}
use Rattle.room_editor.specs.declared.faults.UndoFault.{UndoFault as Fault}
use Rattle.room_editor.specs.declared.faults.UndoFault.TheVariants as fault
use Rattle.room_editor.specs.Editor.{WentBack, done_if}
use Rattle.room_editor.specs.Faults.{IsUndoFault}
use Rattle.room_editor.specs.Going.{FitsIn, IsOpsFault, entry_size, returned}
use Rattle.room_editor.specs.Sizes.{bytes_of, frame_bytes}
use Rattle.room_editor.proofs.Pending.{bodies_again}
use Rattle.room_editor.proofs.Sized.{sized}

-- the operations

record Numbered (c : Clocks) (bs : List Body) (m : Made) : Type 0 where
  spent : spent c.op (length bs) ≡ None
  ops : m.ops ≡ ops_from c.actor c.op bs

numbered_by : (c : Clocks) (bs : List Body) (m : Made) (o : Option ℕ) → spent c.op (length bs) ≡ o
    → clocked c 0 bs None o ≡ Ok m → Numbered c bs m
numbered_by c bs m (Some l) q h = cc
numbered_by c bs m None q h =
    let is : made c 0 bs ≡ m = cc in record { spent = q; ops = ap (λ (k : Made). k.ops) (sym is) }

none_open : (x : Account) → x.batch ≡ None → (clocks x).op ≡ last_issued x + 1
none_open x closed =
    let none : length (bodies_in x.batch) ≡ 0 = ap (λ o. length (bodies_in o)) closed in omega (arith, none)

pub record Entry (x : Account) (bs : List Body) (os : List Op) : Type 0 where
  pub clocks : spent (last_issued x + 1) (length bs) ≡ None
  pub ops : os ≡ ops_from (actor x) (last_issued x + 1) bs

pub entry_made : (x : Account) (c : Clocks) (bs : List Body) (m : Made) → x.batch ≡ None → c ≡ clocks x
    → nodes_made c 0 bs ≡ Ok m → Entry x bs m.ops
entry_made x c bs m closed is h =
    let k = numbered_by (clocks x) bs m (spent (clocks x).op (length bs)) refl
    (subst (λ (d : Clocks). nodes_made d 0 bs ≡ Ok m) is h) in
    let op = none_open x closed in
    record {
      clocks = subst (λ n. spent n (length bs) ≡ None) op k.spent;
      ops = k.ops ∙ ap (λ n. ops_from (actor x) n bs) op;
    }

size_is : (x : Account) (bs : List Body) (os : List Op) (size : ℕ) → Entry x bs os
    → size ≡ frame_bytes (0 + bytes_of os) → size ≡ entry_size x bs
size_is x bs os size k is =
    let none : 0 + bytes_of os ≡ bytes_of os = omega arith in
    is ∙ ap frame_bytes none ∙ sym (sized os) ∙ ap (λ qs. size_of (frame_of_ops qs)) k.ops

some_ops : (a c : ℕ) (bs : List Body) → 0 < length (ops_from a c bs) → is_some_list bs ≡ true
some_ops a c [] h = absurd (omega (arith, h))
some_ops a c (b ∷ bs) h = refl

no_ops : (a c : ℕ) (bs : List Body) → length (ops_from a c bs) ≤ 0 → is_some_list bs ≡ false
no_ops a c [] h = refl
no_ops a c (b ∷ bs) h = absurd (omega (arith, h))

both : (a b : Bool) → a ≡ true → b ≡ true → (a && b) ≡ true
both true b p q = q
both false b p q = p

first_false : (a b : Bool) → a ≡ false → (a && b) ≡ false
first_false true b p = cc
first_false false b p = refl

last_false : (a b : Bool) → b ≡ false → (a && b) ≡ false
last_false true b p = p
last_false false b p = refl

pub too_large : (x : Account) (bs : List Body) (os : List Op) (size : ℕ) → Entry x bs os
    → size ≡ frame_bytes (0 + bytes_of os) → 0 < length os → 1048576 < size
    → IsOpsFault x bs (fault.BatchTooLarge size)
too_large x bs os size k is long over =
    let same = size_is x bs os size k is in
    let test : nat_lt most_bytes (entry_size x bs) ≡ true =
    subst (λ n. nat_lt most_bytes n ≡ true) same (grind (arith, nat_tests, over)) in
    let some : is_some_list bs ≡ true =
    some_ops (actor x) (last_issued x + 1) bs (subst (λ (qs : List Op). 0 < length qs) k.ops long) in
    (k.clocks, (both (is_some_list bs) (nat_lt most_bytes (entry_size x bs)) some test, same))

pub fits_small : (x : Account) (bs : List Body) (os : List Op) (size : ℕ) → Entry x bs os
    → size ≡ frame_bytes (0 + bytes_of os) → size ≤ 1048576 → FitsIn x bs
fits_small x bs os size k is small =
    let test : nat_lt most_bytes (entry_size x bs) ≡ false =
    subst (λ n. nat_lt most_bytes n ≡ false) (size_is x bs os size k is) (grind (arith, nat_tests, small)) in
    record { clocks = k.clocks; size = last_false (is_some_list bs) (nat_lt most_bytes (entry_size x bs)) test }

pub fits_none : (x : Account) (bs : List Body) (os : List Op) → Entry x bs os → length os ≤ 0 → FitsIn x bs
fits_none x bs os k none =
    let no : is_some_list bs ≡ false =
    no_ops (actor x) (last_issued x + 1) bs (subst (λ (qs : List Op). length qs ≤ 0) k.ops none) in
    record { clocks = k.clocks; size = first_false (is_some_list bs) (nat_lt most_bytes (entry_size x bs)) no }

-- what goes back

pub entry_goes : (way : Direction) (x : Account) (entry : List Change) → x.batch ≡ None
    → entry_of way x.history ≡ Some entry → go_back way x ≡ back_entry way x (Some entry)
entry_goes way x entry closed there = ap (back_at way x) closed ∙ ap (back_entry way x) there

pub entry_refused : (way : Direction) (x : Account) (entry : List Change) (f : Fault) → x.batch ≡ None
    → entry_of way x.history ≡ Some entry → IsUndoFault (back_entry way x (Some entry)) f
    → IsUndoFault (go_back way x) f
entry_refused way x entry f closed there h =
    subst (λ (r : Result (Option Done) UndoFault). IsUndoFault r f) (sym (entry_goes way x entry closed there)) h

pub again : (a c : ℕ) (bs : List Body) (os : List Op) → os ≡ ops_from a c bs → os ≡ ops_from a c (bodies_of os)
again a c bs os is = is ∙ ap (ops_from a c) (sym (ap bodies_of is ∙ bodies_again a c bs))

pub entry_done : (way : Direction) (x y : Account) (entry : List Change) (os : List Op) (me : List (List ℕ × Value))
    (unsent : List (List ℕ)) (reversal : List Change) (ns : List Notice) → x.batch ≡ None
    → entry_of way x.history ≡ Some entry
    → back_entry way x (Some entry) ≡ Ok (Some (went_back way x entry))
    → os ≡ ops_from (actor x) (last_issued x + 1) (entry_bodies entry) → me ≡ entry_presence x.me entry
    → unsent ≡ entry_names x.unsent entry → reversal ≡ entry_reversal (tree_or_bare (shown x)) x.me entry
    → ns ≡ notices_of_all (tree_or_bare (shown x)) (entry_bodies entry)
    → y ≡ returned way x (bodies_of os) me unsent reversal
    → WentBack (go_back way x) x y (Some ns)
entry_done way x y entry os me unsent reversal ns closed there good run a b c says to =
    let bs : bodies_of os ≡ entry_bodies entry =
    ap bodies_of run ∙ bodies_again (actor x) (last_issued x + 1) (entry_bodies entry) in
    let account : (went_back way x entry).account ≡ y =
    sym (to ∙ (λ i. returned way x (bs i) (a i) (b i) (c i))) in
    ap done_if (entry_goes way x entry closed there ∙ good)
    ∙ (λ i. Ok (Some (record { account = account i; notices = sym says i })))
