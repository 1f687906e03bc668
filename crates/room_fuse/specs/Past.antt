-- The moments of a fuse: at each its inner disk, and what was held back then.
use Rattle.std.specs.Prelude.{◌≡◌, ℕ, zero, suc, List, [], ◌∷◌, ◌++◌, length, reverse}
use Rattle.room_disk.specs.Model.{Reads, Images, StepsBetween}
use Rattle.room_disk.specs.Stops.{Left}
use Rattle.room_fuse.specs.Held.{content_over, LeftOver, left_by}
use Rattle.room_fuse.specs.declared.held.Held.{Held}
use Rattle.room_fuse.specs.declared.past.Mark.{Mark}

abbrev pub inner_at : {D : Type 0} → List (Mark D) → D → ℕ → D
inner_at [] now m = now
inner_at (p ∷ past) now zero = p.inner.value
inner_at (p ∷ past) now (suc m) = inner_at past now m

abbrev pub held_at : {D : Type 0} → List (Mark D) → List Held → ℕ → List Held
held_at [] now m = now
held_at (p ∷ past) now zero = p.held.value.items
held_at (p ∷ past) now (suc m) = held_at past now m

-- what a read gives through what is held back
abbrev pub through : {D : Type 0} → (D → Reads) → D → List Held → Reads
through seen inner held f = content_over (seen inner) (reverse held) f

-- what settling now leaves
abbrev pub left_through : {D : Type 0} → (D → Reads) → D → List Held → Left
left_through seen inner held how f = left_by how (seen inner) (reverse held) f

-- what a stop now may leave
abbrev pub LeftNow : {D : Type 0} → (D → Images) → (D → ℕ) → D → List Held → ℕ → List ℕ → Type 0
LeftNow images moment inner held = LeftOver (images inner (moment inner)) (reverse held)

-- what a stop at a moment may leave
abbrev pub images_at : {D : Type 0} → (D → Images) → (D → ℕ) → List (Mark D) → D → List Held → Images
images_at images moment past inner held m = LeftNow images moment (inner_at past inner m) (held_at past held m)

-- a call on one file, from one moment to another
abbrev pub StepsThrough : {D : Type 0} → (D → Reads) → (D → ℕ) → (D → Images) → ℕ → (List ℕ → List ℕ → Type 0)
    → List (Mark D) → D → List Held → List (Mark D) → D → List Held → Type 0
StepsThrough seen moment images file step past inner held ps later after =
    StepsBetween file step (length past) (length ps) (images_at images moment past inner held)
    (images_at images moment ps later after)
    (through seen inner held) (through seen later after)

-- one moment more
pub record IsMarked {D : Type 0} (old : List (Mark D)) (inner : D) (held : List Held)
    (new : List (Mark D)) : Type 0 where
  pub added : Mark D
  pub inner_is : added.inner.value ≡ inner
  pub held_is : added.held.value.items ≡ held
  pub behind : new ≡ old ++ added ∷ []
