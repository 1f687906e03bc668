-- A file that is read whole, up to a closed gate: what stands before that gate, and what is read of other bytes in its place.
use Rattle.std.proofs.Common.{◌≡◌, ℕ, zero, suc, ◌+◌, ◌≤◌, ◌==◌, List, [], ◌∷◌, ◌++◌, length, take, drop, true, false, refl, sym, ◌∙◌, ap, arith, append_assoc, length-append, subst, length-drop, length-take, take-append-drop, drop-drop}
use Rattle.std.specs.Prelude.{Bool, nat_le, cond, Option, Some, None}
use Rattle.std.specs.Int.{w64, from_be_bytes}
use Rattle.std.proofs.lemmas.Bool.Decides.{nat_tests}
use Rattle.std.proofs.lemmas.List.{take_at, drop_at, take-append-le, drop-append-le}
use Rattle.room_journal.specs.declared.heading.Heading.{Heading}
use Rattle.room_journal.specs.declared.heading.Heading.TheVariants.{Shut, Wrong, Opened}
use Rattle.room_bytes.specs.declared.entries.Format.{Format}
use Rattle.room_bytes.specs.declared.entries.Format.TheVariants.{Two}
use Rattle.room_journal.specs.Records.{Records, records, behind, one_more, ended, breaks, size_in, size_of}
use Rattle.room_journal.specs.Files.{number_at, is_open, heading, Held, held_in, holding, Says, Opens, Closed, Headless, saying, says}
use Rattle.room_journal.specs.Rest.{room, end_of, IsAtRest}
use Rattle.room_journal.proofs.Onward.{fits}

-- records

pub record Split (at k : ℕ) (tail : List ℕ) (bs : List (List ℕ)) : Type 0 where
  pub front : List ℕ
  pub rest : List ℕ
  pub is : tail ≡ front ++ 0 ∷ rest
  pub sizes : length front ≡ k + size_of bs
  pub leads : (other : List ℕ) → records at k (front ++ other) ≡ behind bs (records (at + (k + size_of bs)) 0 other)

at_zero : (g : ℕ) → (g == 0) ≡ true → g ≡ 0
at_zero g is = grind (arith, nat_tests)

fits_back : (n m : ℕ) → nat_le n m ≡ true → n ≤ m
fits_back n m is = grind (arith, nat_tests)

here : (at : ℕ) (other : List ℕ) → records at 0 other ≡ behind [] (records (at + (0 + size_of [])) 0 other)
here at other = ap (λ (n : ℕ). records n 0 other) (omega arith)

-- at a gate before too few bytes for a record
last_case : (at g : ℕ) (rest : List ℕ) (shut : Bool) → (g == 0) ≡ shut → (cond shut ended (breaks at)).broken ≡ None → Split at 0 (g ∷ rest) (cond shut ended (breaks at)).bodies
last_case at g rest true is whole = record { front = []; rest = rest; is = ap (λ (n : ℕ). n ∷ rest) (at_zero g is); sizes = refl; leads = here at }
last_case at g rest false is whole = cc whole

gate_case : (at g a b c d : ℕ) (rest : List ℕ) (shut fit : Bool) → (g == 0) ≡ shut → nat_le (size_in a b c d) (length rest) ≡ fit
    → (size_in a b c d ≤ length rest → (records (at + 5) (size_in a b c d) rest).broken ≡ None → Split (at + 5) (size_in a b c d) rest (records (at + 5) (size_in a b c d) rest).bodies)
    → (cond shut ended (cond fit (one_more (take (size_in a b c d) rest) (records (at + 5) (size_in a b c d) rest)) (breaks at))).broken ≡ None
    → Split at 0 (g ∷ a ∷ b ∷ c ∷ d ∷ rest) (cond shut ended (cond fit (one_more (take (size_in a b c d) rest) (records (at + 5) (size_in a b c d) rest)) (breaks at))).bodies
gate_case at g a b c d rest true fit is le onward whole = record { front = []; rest = a ∷ b ∷ c ∷ d ∷ rest; is = ap (λ (n : ℕ). n ∷ a ∷ b ∷ c ∷ d ∷ rest) (at_zero g is); sizes = refl; leads = here at }
gate_case at g a b c d rest false false is le onward whole = cc whole
gate_case at g a b c d rest false true is le onward whole =
    let n = size_in a b c d in
    let short : n ≤ length rest = fits_back (size_in a b c d) (length rest) le in
    let s = onward short whole in
    let bs = (records (at + 5) n rest).bodies in
    let long : n ≤ length s.front = let e = s.sizes in omega (arith, e) in
    let body : length (take n rest) ≡ n = omega (arith, short, length-take n rest) in
    let same : (other : List ℕ) → take n (s.front ++ other) ≡ take n rest =
    λ other. take-append-le n s.front other long ∙ sym (ap (λ (l : List ℕ). take n l) s.is ∙ take-append-le n s.front (0 ∷ s.rest) long) in
    record {
      front = g ∷ a ∷ b ∷ c ∷ d ∷ s.front;
      rest = s.rest;
      is = ap (λ (l : List ℕ). g ∷ a ∷ b ∷ c ∷ d ∷ l) s.is;
      sizes = let e = s.sizes in omega (arith, e, body);
      leads = λ other.
          let more : nat_le (size_in a b c d) (length (s.front ++ other)) ≡ true = fits (size_in a b c d) (length (s.front ++ other)) (omega (arith, long, length-append s.front other)) in
          let read : records at 0 (g ∷ a ∷ b ∷ c ∷ d ∷ (s.front ++ other)) ≡ one_more (take (size_in a b c d) (s.front ++ other)) (records (at + 5) (size_in a b c d) (s.front ++ other)) = rw (is, more) refl in
          let there : at + 5 + (n + size_of bs) ≡ at + (0 + (5 + length (take n rest) + size_of bs)) = omega (arith, body) in
          read ∙ ap (λ (l : List ℕ). one_more l (records (at + 5) n (s.front ++ other))) (same other) ∙ ap (one_more (take n rest)) (s.leads other)
          ∙ ap (λ (m : ℕ). one_more (take n rest) (behind bs (records m 0 other))) there;
    }

pub split : (at k : ℕ) (tail : List ℕ) → k ≤ length tail → (records at k tail).broken ≡ None → Split at k tail (records at k tail).bodies
split at (suc k) [] le whole = cc whole
split at (suc k) (x ∷ tail) le whole =
    let s = split (at + 1) k tail (omega (arith, le)) whole in
    let bs = (records (at + 1) k tail).bodies in
    record {
      front = x ∷ s.front;
      rest = s.rest;
      is = ap (λ (l : List ℕ). x ∷ l) s.is;
      sizes = let e = s.sizes in omega (arith, e);
      leads = λ other. s.leads other ∙ ap (λ (m : ℕ). behind bs (records m 0 other)) (omega arith);
    }
split at zero [] le whole = cc whole
split at zero (g ∷ []) le whole = last_case at g [] (g == 0) refl whole
split at zero (g ∷ a ∷ []) le whole = last_case at g (a ∷ []) (g == 0) refl whole
split at zero (g ∷ a ∷ b ∷ []) le whole = last_case at g (a ∷ b ∷ []) (g == 0) refl whole
split at zero (g ∷ a ∷ b ∷ c ∷ []) le whole = last_case at g (a ∷ b ∷ c ∷ []) (g == 0) refl whole
split at zero (g ∷ a ∷ b ∷ c ∷ d ∷ rest) le whole =
    gate_case at g a b c d rest (g == 0) (nat_le (size_in a b c d) (length rest)) refl refl (λ short left. split (at + 5) (size_in a b c d) rest short left) whole

-- the first 25 bytes, then the snapshot, then the records

pub record IsFile (file : List ℕ) (f : Format) (g : ℕ) (snapshot tail : List ℕ) : Type 0 where
  pub head : List ℕ
  pub head_size : length head ≡ 25
  pub headed : heading head ≡ Opened f g
  pub sized : number_at 17 head ≡ length snapshot
  pub is : file ≡ head ++ (snapshot ++ tail)

number_kept : (at : ℕ) (head rest : List ℕ) → at + 8 ≤ length head → number_at at (head ++ rest) ≡ number_at at head
number_kept at head rest le =
    ap (λ (l : List ℕ). from_be_bytes w64 (take 8 l)) (drop-append-le at head rest (omega (arith, le)))
    ∙ ap (from_be_bytes w64) (take-append-le 8 (drop at head) rest (omega (arith, le, length-drop at head)))

open_kept : (head rest : List ℕ) → 2 ≤ length head → is_open (head ++ rest) ≡ is_open head
open_kept [] rest le = absurd (omega (arith, le))
open_kept (g ∷ []) rest le = absurd (omega (arith, le))
open_kept (g ∷ x ∷ head) rest le = refl

heading_kept : (head rest : List ℕ) → 17 ≤ length head → heading (head ++ rest) ≡ heading head
heading_kept head rest le =
    rw (
      open_kept head rest (omega (arith, le)),
      fits 17 (length (head ++ rest)) (omega (arith, le, length-append head rest)),
      fits 17 (length head) le,
      number_kept 1 head rest (omega (arith, le)),
      number_kept 9 head rest (omega (arith, le)),
    ) refl

pub says_of : (file : List ℕ) (f : Format) (g : ℕ) (snapshot tail : List ℕ) → IsFile file f g snapshot tail
    → says file ≡ Opens f g (Some (holding snapshot (records (25 + length snapshot) 0 tail)))
says_of file f g snapshot tail i =
    let rest = snapshot ++ tail in
    let e = i.head_size in
    let size : number_at 17 (i.head ++ rest) ≡ length snapshot = number_kept 17 i.head rest (omega (arith, e)) ∙ i.sized in
    let first : heading (i.head ++ rest) ≡ Opened f g = heading_kept i.head rest (omega (arith, e)) ∙ i.headed in
    let behind_head : drop 25 (i.head ++ rest) ≡ rest = drop_at i.head rest 25 e in
    let behind_all : drop (25 + length snapshot) (i.head ++ rest) ≡ tail =
    ap (λ (l : List ℕ). drop (25 + length snapshot) l) (sym (append_assoc i.head snapshot tail))
    ∙ drop_at (i.head ++ snapshot) tail (25 + length snapshot) (omega (arith, e, length-append i.head snapshot)) in
    let long : nat_le (25 + length snapshot) (length (i.head ++ rest)) ≡ true =
    fits (25 + length snapshot) (length (i.head ++ rest))
    (omega (arith, e, length-append i.head rest, length-append snapshot tail)) in
    let taken : take (length snapshot) (drop 25 (i.head ++ rest)) ≡ snapshot =
    ap (λ (l : List ℕ). take (length snapshot) l) behind_head ∙ take_at snapshot tail (length snapshot) refl in
    let held : held_in (i.head ++ rest) ≡ Some (holding snapshot (records (25 + length snapshot) 0 tail)) =
    rw (size, long, taken, behind_all) refl in
    ap says i.is ∙ ap (λ (h : Heading). saying h (held_in (i.head ++ rest))) first ∙ ap (Opens f g) held

heading_back : (x : Heading) (f : Format) (g : ℕ) (h i : Option Held) → saying x h ≡ Opens f g i → (x ≡ Opened f g) × (h ≡ i)
heading_back Shut f g h i is = cc is
heading_back Wrong f g h i is = cc is
heading_back (Opened e k) f g h i is = let a : e ≡ f = cc is in let b : k ≡ g = cc is in (rw (a, b) refl, cc is)

held_back : (b : Bool) (x y : Held) → cond b (Some x) None ≡ Some y → (b ≡ true) × (x ≡ y)
held_back true x y is = (refl, cc is)
held_back false x y is = cc is

pub file_of : (file : List ℕ) (f : Format) (g : ℕ) (h : Held) → says file ≡ Opens f g (Some h)
    → IsFile file f g h.snapshot (drop (25 + length h.snapshot) file)
    × (holding h.snapshot (records (25 + length h.snapshot) 0 (drop (25 + length h.snapshot) file)) ≡ h)
file_of file f g h is =
    let back = heading_back (heading file) f g (held_in file) (Some h) is in
    let n = number_at 17 file in
    let held = held_back (nat_le (25 + n) (length file))
    (holding (take n (drop 25 file)) (records (25 + n) 0 (drop (25 + n) file))) h back.1 in
    let long : 25 + n ≤ length file = fits_back (25 + n) (length file) held.0 in
    let snapshot_is : take n (drop 25 file) ≡ h.snapshot = ap (λ (i : Held). i.snapshot) held.1 in
    let sizes : n ≡ length h.snapshot =
    omega (arith, ap length snapshot_is, length-take n (drop 25 file), length-drop 25 file, long) in
    let head_size : length (take 25 file) ≡ 25 = omega (arith, long, length-take 25 file) in
    let parts : file ≡ take 25 file ++ drop 25 file = sym (take-append-drop 25 file) in
    let behind_head : drop 25 file ≡ h.snapshot ++ drop (25 + length h.snapshot) file =
    sym (take-append-drop n (drop 25 file)) ∙ ap (λ (l : List ℕ). l ++ drop n (drop 25 file)) snapshot_is
    ∙ ap (λ (l : List ℕ). h.snapshot ++ l) (drop-drop n 25 file ∙ ap (λ (m : ℕ). drop (25 + m) file) sizes) in (
      record {
        head = take 25 file;
        head_size = head_size;
        headed = sym (heading_kept (take 25 file) (drop 25 file) (omega (arith, head_size))) ∙ ap heading (sym parts) ∙ back.0;
        sized = sym (number_kept 17 (take 25 file) (drop 25 file) (omega (arith, head_size))) ∙ ap (number_at 17) (sym parts)
            ∙ sizes;
        is = parts ∙ ap (λ (l : List ℕ). take 25 file ++ l) behind_head;
      },
      ap (λ (l : List ℕ). holding l (records (25 + length h.snapshot) 0 (drop (25 + length h.snapshot) file))) (sym snapshot_is)
          ∙ ap (λ (m : ℕ). holding (take n (drop 25 file)) (records (25 + m) 0 (drop (25 + m) file))) (sym sizes) ∙ held.1,
    )

-- whole records up to the closed gate at end, whatever stands behind it
pub record IsAt (file : List ℕ) (g : ℕ) (snapshot : List ℕ) (found : List (List ℕ)) (end : ℕ) : Type 0 where
  pub rest : List ℕ
  pub split_at : file ≡ take end file ++ 0 ∷ rest
  pub sized : length (take end file) ≡ end
  pub leads : (other : List ℕ) → says (take end file ++ other) ≡ Opens Two g (Some (holding snapshot (behind found (records end 0 other))))

pub at_rest : (file : List ℕ) (g : ℕ) (snapshot : List ℕ) (found : List (List ℕ)) → says file ≡ room g snapshot found → IsAt file g snapshot found (end_of snapshot found)
at_rest file g snapshot found is =
    let h : Held = record { snapshot = snapshot; bodies = found; broken = None } in
    let back = file_of file Two g h is in
    let f = back.0 in
    let start = 25 + length snapshot in
    let tail = drop start file in
    let bodies_are : (records start 0 tail).bodies ≡ found = ap (λ (i : Held). i.bodies) back.1 in
    let s : Split start 0 tail found = subst (λ (l : List (List ℕ)). Split start 0 tail l) bodies_are (split start 0 tail (omega arith) (ap (λ (i : Held). i.broken) back.1)) in
    let front = f.head ++ (snapshot ++ s.front) in
    let whole : file ≡ front ++ 0 ∷ s.rest =
    f.is ∙ ap (λ (l : List ℕ). f.head ++ (snapshot ++ l)) s.is ∙ ap (λ (l : List ℕ). f.head ++ l) (sym (append_assoc snapshot s.front (0 ∷ s.rest))) ∙ sym (append_assoc f.head (snapshot ++ s.front) (0 ∷ s.rest)) in
    let e = f.head_size in
    let i = s.sizes in
    let long : length front ≡ end_of snapshot found = omega (arith, e, i, length-append f.head (snapshot ++ s.front), length-append snapshot s.front) in
    let first : take (end_of snapshot found) file ≡ front = ap (λ (l : List ℕ). take (end_of snapshot found) l) whole ∙ take_at front (0 ∷ s.rest) (end_of snapshot found) long in
    record {
      rest = s.rest;
      split_at = whole ∙ ap (λ (l : List ℕ). l ++ 0 ∷ s.rest) (sym first);
      sized = ap length first ∙ long;
      leads = λ other.
          let joined : front ++ other ≡ f.head ++ (snapshot ++ (s.front ++ other)) =
          append_assoc f.head (snapshot ++ s.front) other ∙ ap (λ (l : List ℕ). f.head ++ l) (append_assoc snapshot s.front other) in
          let there : start + (0 + size_of found) ≡ end_of snapshot found = omega arith in
          ap (λ (l : List ℕ). says (l ++ other)) first
          ∙ says_of (front ++ other) Two g snapshot (s.front ++ other)
          (record { head = f.head; head_size = f.head_size; headed = f.headed; sized = f.sized; is = joined })
          ∙ ap (λ (r : Records). Opens Two g (Some (holding snapshot r))) (s.leads other ∙ ap (λ (m : ℕ). behind found (records m 0 other)) there);
    }

abbrev ends : Says → ℕ
ends (Opens f g (Some h)) = end_of h.snapshot h.bodies
ends (Opens f g None) = 0
ends Closed = 0
ends Headless = 0

pub place_at : (file : List ℕ) (g end : ℕ) → IsAtRest file g end → (s : List ℕ) (bs : List (List ℕ)) → says file ≡ room g s bs → IsAt file g s bs end
place_at file g end r s bs is = subst (λ (e : ℕ). IsAt file g s bs e) (sym (r.end_is ∙ ap ends (sym r.is ∙ is))) (at_rest file g s bs is)
