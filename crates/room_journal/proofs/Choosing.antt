-- What a choice says of the bytes that were read, and so of the disk.
use Rattle.std.proofs.Common.{◌≡◌, ◌⊎◌, inl, inr, ℕ, ◌+◌, List, subst, refl, sym, ap, ◌∙◌}
use Rattle.std.specs.Prelude.{Result, Ok, Err, IfOk, IfErr, OnOk, IsErrOf, Some, None}
use Rattle.room_journal.specs.declared.reading.Found.{Found}
use Rattle.room_journal.specs.declared.fault.JournalFault.{JournalFault}
use Rattle.room_journal.specs.declared.fault.JournalFault.TheVariants.{Memory, Disk, Damaged as DamagedAt}
use Rattle.room_journal.specs.Files.{Reading, New, Holds, Damaged, reading}
use Rattle.room_journal.specs.Rest.{end_of, Place}
use Rattle.room_journal.specs.Found.{HasShape, IsFound}
use Rattle.room_journal.specs.Causes.{IsFault}

pub found_of : (r : Result Found JournalFault) (base : ℕ) (a b x y : List ℕ) → a ≡ x → b ≡ y → IfOk r (λ f. IsFound base (reading base a b) f) → IfOk r (λ f. IsFound base (reading base x y) f)
found_of r base a b x y first second is =
    subst (λ (l : List ℕ). IfOk r (λ f. IsFound base (reading base x l) f)) second (subst (λ (l : List ℕ). IfOk r (λ f. IsFound base (reading base l b) f)) first is)

pub fault_of : (r : Result Found JournalFault) (base : ℕ) (a b x y : List ℕ) → a ≡ x → b ≡ y → IfErr r (λ e. IsFault (reading base a b) e) → IfErr r (λ e. (e ≡ Disk) ⊎ IsFault (reading base x y) e)
fault_of (Ok f) base a b x y first second is = tt
fault_of (Err e) base a b x y first second is = inr (subst (λ (l : List ℕ). IsFault (reading base x l) e) second (subst (λ (l : List ℕ). IsFault (reading base l b) e) first is))

pub plain_fault : (r : Result Found JournalFault) (q : Reading) → IfErr r (λ e. (e ≡ Disk) ⊎ (e ≡ Memory)) → IfErr r (λ e. (e ≡ Disk) ⊎ IsFault q e)
plain_fault (Ok f) q is = tt
plain_fault (Err Memory) q is = inr tt
plain_fault (Err Disk) q is = inl refl
plain_fault (Err (DamagedAt f at)) q (inl is) = cc is
plain_fault (Err (DamagedAt f at)) q (inr is) = cc is

pub never_disk : (r : Result Found JournalFault) (q : Reading) → IfErr r (λ e. IsFault q e) → IsErrOf r Disk → ⊥
never_disk (Ok f) q is err = cc err
never_disk (Err Memory) q is err = cc err
never_disk (Err Disk) q is err = is
never_disk (Err (DamagedAt f at)) q is err = cc err

shape_of : (r : Reading) (base : ℕ) (f : Found) → IsFound base r f → HasShape base f
shape_of New base f is = record {
  base_is = ap (λ (p : Place). p.base) is.place;
  new_place = λ none. is.place;
  end_is = λ s some. let e : None ≡ Some s = sym is.snapshot_is ∙ some in cc e;
}
shape_of (Holds n h g held) base f is = record {
  base_is = ap (λ (p : Place). p.base) is.place;
  new_place = λ none. let e : Some held.snapshot ≡ None = sym is.snapshot_is ∙ none in cc e;
  end_is = λ s some.
      let e : Some held.snapshot ≡ Some s = sym is.snapshot_is ∙ some in
      let p : held.snapshot ≡ s = cc e in
      ap (λ (p : Place). p.end) is.place ∙ ap (λ (l : List ℕ). end_of l held.bodies) p
      ∙ ap (λ (bs : List (List ℕ)). end_of s bs) (sym is.bodies_are);
}
shape_of (Damaged n at) base f is = absurd is

pub shaped : (r : Result Found JournalFault) (q : Reading) (base : ℕ) → IfOk r (λ f. IsFound base q f) → IfOk r (λ f. HasShape base f)
shaped (Ok f) q base is = shape_of q base f is
shaped (Err e) q base is = tt

pub through_ok : {D T E : Type 0} (r : Result T E) (came : D → D → Type 0) (moment : D → ℕ) (a mid b : D) → came a mid → came mid b → moment mid ≡ moment a + 2 → OnOk r ((m : D) × came a m × came m b × (moment m ≡ moment a + 2))
through_ok (Ok x) came moment a mid b first second counted = (mid, first, second, counted)
through_ok (Err e) came moment a mid b first second counted = tt
