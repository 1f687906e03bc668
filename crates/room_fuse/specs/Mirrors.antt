-- What calls do to a disk that holds writes back, side by side with its inner disk.
use Rattle.std.specs.Prelude.{◌≡◌, ℕ, ◌≤◌, ◌<◌, ◌+◌, ◌-◌, List, Bool, true, false}
use Rattle.room_disk.specs.Model.{Reads, Images, Keeps}
use Rattle.room_disk.specs.Stops.{Left}
use Rattle.room_disk.specs.declared.disk.Stop.{Stop}
use Rattle.room_disk.specs.declared.disk.Stop.TheVariants.{Old}

-- Each image that the inner disk had at some moment, all its files together, is one of the outer disk at some moment.
pub record MirrorsBetween (before now : ℕ) (was is : Images)
    (inner_before inner_now : ℕ) (inner_was inner_is : Images) : Type 0 where
  pub later : before ≤ now
  pub keeps : Keeps before was is
  pub inner_later : inner_before ≤ inner_now
  pub inner_keeps : Keeps inner_before inner_was inner_is
  pub each : (m : ℕ) (image : Reads) → inner_before ≤ m → m ≤ inner_now → ((f : ℕ) → inner_is m f (image f))
      → (k : ℕ) × before ≤ k × k ≤ now × ((f : ℕ) → is k f (image f))

abbrev pub Mirrors : {D : Type 0} → (D → ℕ) → (D → Images) → (D → ℕ) → (D → Images) → D → D → Type 0
Mirrors moment images inner_moment inner_images old new =
    MirrorsBetween (moment old) (moment new) (images old) (images new)
    (inner_moment old) (inner_moment new) (inner_images old) (inner_images new)

-- The count down to the stop: it is the armed call, by the clock, and what it is to be settled by stays.
pub record CountsDownBetween (fired : Bool) (armed before : ℕ) (how : Stop)
    (fired_now : Bool) (armed_now now : ℕ) (how_now : Stop) : Type 0 where
  pub unarmed : fired ≡ false → fired_now ≡ false → armed ≡ 0 → armed_now ≡ 0
  pub goes_on : fired ≡ false → fired_now ≡ false → 0 < armed → (0 < armed_now) × (now + armed_now ≡ before + armed)
  pub fires : fired ≡ false → fired_now ≡ true → (0 < armed) × (now ≡ before + armed)
  pub stands : fired ≡ true → (fired_now ≡ true) × (now ≡ before)
  pub way : how_now ≡ how

-- one counted call, before which nothing has fired
pub record IsCounted (armed armed_now : ℕ) (fired_now : Bool) : Type 0 where
  pub fires : fired_now ≡ true → armed ≡ 1
  pub at_one : armed ≡ 1 → fired_now ≡ true
  pub down : armed_now ≡ armed - 1

abbrev pub CountsDown : {D : Type 0} → (D → Bool) → (D → ℕ) → (D → ℕ) → (D → Stop) → D → D → Type 0
CountsDown stopped armed moment way old new =
    CountsDownBetween (stopped old) (armed old) (moment old) (way old) (stopped new) (armed new) (moment new) (way new)

-- a stop that never came is settled by leaving out what was held back
abbrev pub settled_by : Bool → Stop → Stop
settled_by true how = how
settled_by false how = Old

-- A disk that holds nothing back, and isn't armed: it is as its inner disk is.
pub record IsBare {D : Type 0} (seen : D → Reads) (moment : D → ℕ) (images : D → Images) (stopped : D → Bool)
    (leaves : D → Left) (inner_seen : D → Reads) (inner_moment : D → ℕ) (inner_images : D → Images) (armed : D → ℕ)
    (d : D) : Type 0 where
  pub running : stopped d ≡ false
  pub unarmed : armed d ≡ 0
  pub reads : (f : ℕ) → seen d f ≡ inner_seen d f
  pub left : (how : Stop) (f : ℕ) → leaves d how f ≡ inner_seen d f
  pub images_left : (f : ℕ) (c : List ℕ) → images d (moment d) f c → inner_images d (inner_moment d) f c
