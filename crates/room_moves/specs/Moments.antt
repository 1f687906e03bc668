-- What images stand for while entries come.
use Rattle.std.specs.Prelude.{◌⊎◌, ◌≤◌, ℕ, List, [], ◌∷◌, ◌++◌, length, take}
use Rattle.room_disk.specs.Model.{Reads, Images, WholeBetween}
use Rattle.room_fuse.specs.Mirrors.{MirrorsBetween}
use Rattle.room_log.specs.Log.{State, Entry, after, state_after}

-- for the state after a first part of the entries; `P s image` says that the image stands for s
pub record OfFirst (P : State → Reads → Type 0) (s : State) (es : List Entry) (image : Reads) : Type 0 where
  pub count : ℕ
  pub within : count ≤ length es
  pub stands : P (state_after s (take count es)) image

-- one entry at most
abbrev pub OneComes : Type 1
OneComes = (P : State → Reads → Type 0) (s : State) (e : Entry) (image : Reads)
    → P s image ⊎ P (after s e) image → OfFirst P s (e ∷ []) image

abbrev pub NoneComes : Type 1
NoneComes = (P : State → Reads → Type 0) (s : State) (es : List Entry) (image : Reads)
    → P s image → OfFirst P s es image

-- some entries, and then others
abbrev pub ComeThen : Type 1
ComeThen = (P : State → Reads → Type 0) (s : State) (es fs : List Entry) (before mid now : ℕ) (was so is : Images)
    → WholeBetween before mid was so (OfFirst P s es)
    → WholeBetween mid now so is (OfFirst P (state_after s es) fs)
    → WholeBetween before now was is (OfFirst P s (es ++ fs))

-- what holds of each image of a disk that holds writes back holds of each of its inner disk
abbrev pub HoldsWithin : Type 1
HoldsWithin = (R : Reads → Type 0) (before now : ℕ) (was is : Images) (inner_before inner_now : ℕ)
    (inner_was inner_is : Images) → MirrorsBetween before now was is inner_before inner_now inner_was inner_is
    → WholeBetween before now was is R → WholeBetween inner_before inner_now inner_was inner_is R
