-- What passing calls on to the inner disk does.
use Rattle.std.specs.Prelude.{◌≡◌, ℕ, List, reverse}
use Rattle.room_disk.specs.Model.{Reads, Images, RunsBetween}
use Rattle.room_fuse.specs.Held.{Fits}
use Rattle.room_fuse.specs.Past.{through, LeftNow}
use Rattle.room_fuse.specs.declared.held.Held.{Held}

-- Through what is still held back a read gives what it gave, and each image is one from before. At each moment between,
-- each image of the inner disk alone is one from before, through what was held back.
pub record Passed {D : Type 0} (seen : D → Reads) (moment : D → ℕ) (images : D → Images)
    (old : D) (held : List Held) (new : D) (left : List Held) : Type 0 where
  pub fits : Fits (seen new) (reverse left)
  pub reads : (f : ℕ) → through seen new left f ≡ through seen old held f
  pub images_left : (f : ℕ) (c : List ℕ) → LeftNow images moment new left f c → LeftNow images moment old held f c
  pub within : RunsBetween (moment old) (moment new) (images old) (images new) (LeftNow images moment old held)

-- other files of the inner disk are as they were
pub record Spares {D : Type 0} (seen : D → Reads) (moment : D → ℕ) (images : D → Images) (file : ℕ)
    (old new : D) : Type 0 where
  pub reads : (f : ℕ) → (f ≡ file → ⊥) → seen new f ≡ seen old f
  pub images_left : (f : ℕ) (c : List ℕ) → (f ≡ file → ⊥) → images new (moment new) f c → images old (moment old) f c
