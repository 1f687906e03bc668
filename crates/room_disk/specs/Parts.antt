-- A change that was done is one of those that a stop may have cut short, and so is one that was not done.
use Rattle.std.specs.Prelude.{◌≡◌, ◌≤◌, ◌<◌, ℕ, ◌+◌, ◌-◌, max, List, ◌++◌, length, take, drop, refl}
use Rattle.std.proofs.Common.{sym, ◌∙◌, ap, subst, append_assoc, length-append, length-drop}
use Rattle.std.proofs.Math.Nat.{le_refl, lt_of_le_of_lt, le-max_left, max-le}
use Rattle.std.proofs.Math.Nat.{suc-max-suc, min-le_right, add_comm, sub-add-eq-max}
use Rattle.std.proofs.Math.Seq.{take-length}
use Rattle.std.proofs.lemmas.List.{take_at, drop_at, length-take, length-take-le}
use Rattle.room_disk.specs.Model.{written, WrittenInPart, CutInPart}
use Rattle.room_disk.specs.Changes.{changed, ChangedInPart, place, reach}
use Rattle.room_disk.specs.declared.change.FileChange.{FileChange}
use Rattle.room_disk.specs.declared.change.FileChange.TheVariants.{Write, Cut}

length_front : (at : ℕ) (bytes old : List ℕ) → at ≤ length old → length (take at old ++ bytes) ≡ at + length bytes
length_front at bytes old within =
    length-append (take at old) bytes ∙ ap (λ n. n + length bytes) (length-take-le at old within)

pub length_written : (at : ℕ) (bytes old : List ℕ) → at ≤ length old
    → length (written at bytes old) ≡ max (length old) (at + length bytes)
length_written at bytes old within =
    let behind = drop (at + length bytes) old in
    length-append (take at old ++ bytes) behind ∙ ap (λ n. n + length behind) (length_front at bytes old within)
    ∙ ap (λ n. at + length bytes + n) (length-drop (at + length bytes) old)
    ∙ add_comm (at + length bytes) (length old - (at + length bytes)) ∙ sub-add-eq-max (length old) (at + length bytes)

pub write_done : (at : ℕ) (bytes old : List ℕ) → at ≤ length old
    → WrittenInPart at (length bytes) old (written at bytes old)
write_done at bytes old within =
    let behind = drop (at + length bytes) old in
    let size = length_written at bytes old within in
    record {
      before = ap (λ (l : List ℕ). take at l) (append_assoc (take at old) bytes behind)
          ∙ take_at (take at old) (bytes ++ behind) at (length-take-le at old within);
      after = drop_at (take at old ++ bytes) behind (at + length bytes) (length_front at bytes old within);
      no_shorter = subst (λ n. length old ≤ n) (sym size) (le-max_left (length old) (at + length bytes));
      no_longer =
          subst (λ n. n ≤ max (length old) (at + length bytes)) (sym size)
          (le_refl (max (length old) (at + length bytes)));
    }

pub write_undone : (at n : ℕ) (d : List ℕ) → WrittenInPart at n d d
write_undone at n d =
    record { before = refl; after = refl; no_shorter = le_refl (length d); no_longer = le-max_left (length d) (at + n) }

pub cut_done : (n : ℕ) (old : List ℕ) → n ≤ length old → CutInPart n old (take n old)
cut_done n old within = record {
  no_shorter = subst (λ k. k ≤ length (take n old)) (length-take n old) (le_refl (length (take n old)));
  front = ap (λ k. take k old) (length-take-le n old within);
}

pub cut_undone : (n : ℕ) (d : List ℕ) → CutInPart n d d
cut_undone n d = record { no_shorter = min-le_right n (length d); front = take-length d }

pub change_done : (x : FileChange) (old : List ℕ) → place x ≤ length old → ChangedInPart x old (changed x old)
change_done (Write at bytes) old within = write_done at bytes old within
change_done (Cut n) old within = cut_done n old within

pub change_undone : (x : FileChange) (d : List ℕ) → ChangedInPart x d d
change_undone (Write at bytes) d = write_undone at (length bytes) d
change_undone (Cut n) d = cut_undone n d

max_below : (a b k : ℕ) → a < k → b < k → max a b < k
max_below a b k first second = subst (λ n. n ≤ k) (suc-max-suc a b) (max-le first second)

-- a bound that the file and the change keep, the changed file keeps
pub changed_below : (x : FileChange) (old : List ℕ) (k : ℕ) → place x ≤ length old → reach x < k → length old < k
    → length (changed x old) < k
changed_below (Write at bytes) old k within end small =
    subst (λ n. n < k) (sym (length_written at bytes old within))
    (max_below (length old) (at + length bytes) k small end)
changed_below (Cut n) old k within end small =
    subst (λ m. m < k) (sym (length-take n old)) (lt_of_le_of_lt (min-le_right n (length old)) small)
