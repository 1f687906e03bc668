-- What a record of calls says of a disk that began empty. The newest call stands first where a list is named `older`
-- or is reversed.
use Rattle.std.specs.Prelude.{◌≡◌, ◌⊎◌, ℕ, List, [], ◌∷◌, ◌++◌, length, take, cond, ◌==◌, Bool, true, false, refl}
use Rattle.std.proofs.Common.{inl, sym, ◌∙◌, ap, subst, reverse, append-nil, append_assoc}
use Rattle.std.proofs.Math.Seq.{take-length}
use Rattle.room_disk.specs.Model.{Reads, Images, Follows, Only, StepsBetween}
use Rattle.room_disk.specs.Changes.{changed, ChangedInPart}
use Rattle.room_disk.specs.declared.medium.Entry.{Entry}
use Rattle.room_disk.specs.declared.medium.Act.{Act}
use Rattle.room_disk.specs.declared.medium.Act.TheVariants.{Done, Refused, Synced}

abbrev pub done_by : Act → List ℕ → List ℕ
done_by (Done x) old = changed x old
done_by (Refused x) old = old
done_by Synced old = old

-- what a read gives
abbrev pub content_of : List Entry → ℕ → List ℕ
content_of [] f = []
content_of (x ∷ older) f = cond (x.file == f) (done_by x.act (content_of older f)) (content_of older f)

-- A where the test holds, B where it doesn't
abbrev pub Chosen : Bool → Type 0 → Type 0 → Type 0
Chosen true A B = A
Chosen false A B = B

-- what a stop may leave behind a call, besides what a read gives; behind a sync nothing
abbrev pub LeftBy : Act → (List ℕ → Type 0) → List ℕ → Type 0
LeftBy (Done x) was c = Follows (ChangedInPart x) was c
LeftBy (Refused x) was c = Follows (ChangedInPart x) was c
LeftBy Synced was c = ⊥

-- what a stop may leave
abbrev pub MayLeave : List Entry → ℕ → List ℕ → Type 0
MayLeave [] f c = c ≡ []
MayLeave (x ∷ older) f c =
    Chosen (x.file == f) ((c ≡ done_by x.act (content_of older f)) ⊎ LeftBy x.act (MayLeave older f) c)
    (MayLeave older f c)

-- The same of a record whose newest call stands last.

abbrev pub seen_of : List Entry → Reads
seen_of xs f = content_of (reverse xs) f

abbrev pub images_of : List Entry → Images
images_of xs m f c = MayLeave (reverse (take m xs)) f c

abbrev pub StepsTo : ℕ → (List ℕ → List ℕ → Type 0) → List Entry → List Entry → Type 0
StepsTo file step old new =
    StepsBetween file step (length old) (length new) (images_of old) (images_of new) (seen_of old) (seen_of new)

-- a stop now may leave nothing else
abbrev pub OnlySeen : List Entry → List Entry → ℕ → Type 0
OnlySeen old new f = Only (seen_of old f) (images_of new (length new) f)

-- the record of the first goes on in the second
abbrev pub Extends : List Entry → List Entry → Type 0
Extends old new = (more : List Entry) × (new ≡ old ++ more)

pub extends_same : (xs : List Entry) → Extends xs xs
extends_same xs = ([], sym (append-nil xs))

pub extends_then : (xs ys zs : List Entry) → Extends xs ys → Extends ys zs → Extends xs zs
extends_then xs ys zs first second =
    (first.0 ++ second.0, second.1 ∙ ap (λ l. l ++ second.0) first.1 ∙ append_assoc xs first.0 second.0)

chosen_read : (b : Bool) (x y : List ℕ) (L B : List ℕ → Type 0) → B y
    → Chosen b ((cond b x y ≡ x) ⊎ L (cond b x y)) (B (cond b x y))
chosen_read true x y L B old = inl refl
chosen_read false x y L B old = old

-- what a read gives is among them
content_may_be_left : (xs : List Entry) (f : ℕ) → MayLeave xs f (content_of xs f)
content_may_be_left [] f = refl
content_may_be_left (x ∷ older) f =
    chosen_read (x.file == f) (done_by x.act (content_of older f)) (content_of older f)
    (LeftBy x.act (MayLeave older f)) (MayLeave older f) (content_may_be_left older f)

pub seen_may_be_left : (xs : List Entry) (f : ℕ) → images_of xs (length xs) f (seen_of xs f)
seen_may_be_left xs f =
    subst (λ (l : List Entry). MayLeave (reverse l) f (seen_of xs f)) (sym (take-length xs))
    (content_may_be_left (reverse xs) f)
