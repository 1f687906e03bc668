-- The disk model: what calls do to files, and what a stop leaves of them.
-- Images: `images m f c` says that a stop at the moment m leaves the bytes c in the file f.
use Rattle.std.specs.Prelude.{◌≡◌, ℕ, ◌+◌, ◌≤◌, min, max, List, ◌++◌, length, take, drop}

-- these bytes over what was at this offset
abbrev pub written : ℕ → List ℕ → List ℕ → List ℕ
written at bytes old = take at old ++ bytes ++ drop (at + length bytes) old

-- after a write of n bytes that a stop may have cut short: any bytes in its range and past the old end
pub record WrittenInPart (at n : ℕ) (old new : List ℕ) : Type 0 where
  pub before : take at new ≡ take at old
  pub after : drop (at + n) new ≡ drop (at + n) old
  pub no_shorter : length old ≤ length new
  pub no_longer : length new ≤ max (length old) (at + n)

-- after a cut to n bytes that a stop may have undone: some length between
pub record CutInPart (n : ℕ) (old new : List ℕ) : Type 0 where
  pub no_shorter : min n (length old) ≤ length new
  pub front : take (length new) old ≡ new

abbrev pub Same : List ℕ → List ℕ → Type 0
Same old new = new ≡ old

-- each new image is an old image after a step
abbrev pub Follows : (List ℕ → List ℕ → Type 0) → (List ℕ → Type 0) → List ℕ → Type 0
Follows step old c = (d : List ℕ) × old d × step d c

-- a stop leaves this and nothing else
abbrev pub Only : List ℕ → (List ℕ → Type 0) → Type 0
Only file images = (c : List ℕ) → images c → c ≡ file

-- of this file P, of the others what was
abbrev pub OnFile : ℕ → (List ℕ → Type 0) → (ℕ → List ℕ → Type 0) → ℕ → List ℕ → Type 0
OnFile file P was f c = (f ≡ file → P c) × ((f ≡ file → ⊥) → was f c)

-- files by number
abbrev pub Reads : Type 0
Reads = ℕ → List ℕ

-- what a stop at a moment leaves of a file
abbrev pub Images : Type 1
Images = ℕ → ℕ → List ℕ → Type 0

-- what a stop up to a moment might have left is as it was
pub record Keeps (before : ℕ) (was is : Images) : Type 0 where
  pub kept : (m f : ℕ) (c : List ℕ) → m ≤ before → was m f c → is m f c
  pub nothing_else : (m f : ℕ) (c : List ℕ) → m ≤ before → is m f c → was m f c

-- From the moment `before` to the moment `now`.

-- nothing has changed
pub record StaysBetween (before now : ℕ) (was is : Images) (old new : Reads) : Type 0 where
  pub moment : now ≡ before
  pub keeps : Keeps before was is
  pub seen : (f : ℕ) → new f ≡ old f

-- a call on one file: one moment more at most, the other files as they were, this file and its images by a step
pub record StepsBetween (file : ℕ) (step : List ℕ → List ℕ → Type 0) (before now : ℕ) (was is : Images)
    (old new : Reads) : Type 0 where
  pub later : before ≤ now
  pub most : now ≤ before + 1
  pub keeps : Keeps before was is
  pub seen : (f : ℕ) → (f ≡ file → ⊥) → new f ≡ old f
  pub images : (f : ℕ) (c : List ℕ) → (f ≡ file → ⊥) → is now f c → was before f c
  pub read_step : step (old file) (new file)
  pub by_step : (c : List ℕ) → is now file c → Follows step (was before file) c

-- at each moment, each image of a file has P
pub record RunsBetween (before now : ℕ) (was is : Images) (P : ℕ → List ℕ → Type 0) : Type 0 where
  pub later : before ≤ now
  pub keeps : Keeps before was is
  pub each : (m f : ℕ) (c : List ℕ) → before ≤ m → m ≤ now → is m f c → P f c

-- at each moment, each image of all files together has R
pub record WholeBetween (before now : ℕ) (was is : Images) (R : Reads → Type 0) : Type 0 where
  pub later : before ≤ now
  pub keeps : Keeps before was is
  pub each : (m : ℕ) (image : Reads) → before ≤ m → m ≤ now → ((f : ℕ) → is m f (image f)) → R image

-- The same of a disk, by its clock, its images and what a read of it gives.

abbrev pub Steps : {D : Type 0} → (D → Reads) → (D → ℕ) → (D → Images) → ℕ → (List ℕ → List ℕ → Type 0) → D → D → Type 0
Steps seen moment images file step old new =
    StepsBetween file step (moment old) (moment new) (images old) (images new) (seen old) (seen new)

abbrev pub Within : {D : Type 0} → (D → ℕ) → (D → Images) → D → D → (ℕ → List ℕ → Type 0) → Type 0
Within moment images old new P = RunsBetween (moment old) (moment new) (images old) (images new) P

abbrev pub WithinWhole : {D : Type 0} → (D → ℕ) → (D → Images) → D → D → (Reads → Type 0) → Type 0
WithinWhole moment images old new R = WholeBetween (moment old) (moment new) (images old) (images new) R
