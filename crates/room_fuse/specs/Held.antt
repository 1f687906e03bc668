-- What a disk is with calls held back from it: the newest call stands first where a list is named `older` or reversed.
use Rattle.std.specs.Prelude.{◌≡◌, ◌⊎◌, ◌≤◌, ◌<◌, ◌^◌, ℕ, suc, List, [], ◌∷◌, length, map, cond, ◌==◌}
use Rattle.room_disk.specs.Model.{Follows}
use Rattle.room_disk.specs.Changes.{changed, ChangedInPart, place, reach}
use Rattle.room_disk.specs.Record.{Chosen}
use Rattle.room_disk.specs.Stops.{torn_bytes}
use Rattle.room_disk.specs.declared.disk.Stop.{Stop}
use Rattle.room_disk.specs.declared.disk.Stop.TheVariants.{Old, New, Torn}
use Rattle.room_disk.specs.declared.change.FileChange.{FileChange}
use Rattle.room_disk.specs.declared.change.FileChange.TheVariants.{Write, Cut}
use Rattle.room_fuse.specs.declared.held.Held.{Held}

-- what a read gives of a file
abbrev pub content_over : (ℕ → List ℕ) → List Held → ℕ → List ℕ
content_over inner [] f = inner f
content_over inner (x ∷ older) f =
    cond (x.file == f) (changed x.change (content_over inner older f)) (content_over inner older f)

-- the bytes of a file with the calls made on them, the oldest first
abbrev pub applied : List ℕ → ℕ → List Held → List ℕ
applied bytes f [] = bytes
applied bytes f (x ∷ xs) = applied (cond (x.file == f) (changed x.change bytes) bytes) f xs

-- what a stop may leave of a file
abbrev pub LeftOver : (ℕ → List ℕ → Type 0) → List Held → ℕ → List ℕ → Type 0
LeftOver inner [] f c = inner f c
LeftOver inner (x ∷ older) f c =
    Chosen (x.file == f) (Follows (ChangedInPart x.change) (LeftOver inner older f) c) (LeftOver inner older f c)

-- each call finds its place
abbrev pub Fits : (ℕ → List ℕ) → List Held → Type 0
Fits inner [] = Unit
Fits inner (x ∷ older) = (place x.change ≤ length (content_over inner older x.file)) × Fits inner older

-- no call leads past the bound of a file
abbrev pub StaysBelow : List Held → Type 0
StaysBelow [] = Unit
StaysBelow (x ∷ xs) = (reach x.change < 2 ^ 62) × StaysBelow xs

-- none of them is of this file
abbrev pub Others : ℕ → List Held → Type 0
Others file [] = Unit
Others file (x ∷ xs) = (x.file ≡ file → ⊥) × Others file xs

-- what is left of a list once some calls of this file were taken out
abbrev pub Rest : ℕ → List Held → List Held → Type 0
Rest file [] ys = ys ≡ []
Rest file (x ∷ xs) ys = ((zs : List Held) × (ys ≡ x ∷ zs) × Rest file xs zs) ⊎ ((x.file ≡ file) × Rest file xs ys)

-- the place of the first call of a file, or the end
abbrev pub first_of : List Held → ℕ → ℕ
first_of [] f = 0
first_of (x ∷ xs) f = cond (x.file == f) 0 (suc (first_of xs f))

-- with each byte replaced by 255
abbrev pub torn_change : FileChange → FileChange
torn_change (Write at bytes) = Write at (torn_bytes bytes)
torn_change (Cut n) = Cut n

abbrev pub torn_call : Held → Held
torn_call x = record { file = x.file; change = torn_change x.change }

abbrev pub torn : List Held → List Held
torn xs = map torn_call xs

-- what settling writes through
abbrev pub ready : Stop → List Held → List Held
ready Old xs = []
ready New xs = xs
ready Torn xs = torn xs

-- what settling leaves of a file
abbrev pub left_by : Stop → (ℕ → List ℕ) → List Held → ℕ → List ℕ
left_by Old inner older f = inner f
left_by New inner older f = content_over inner older f
left_by Torn inner older f = content_over inner (torn older) f

-- what settling makes of one call more
abbrev pub settled_change : FileChange → Stop → List ℕ → List ℕ
settled_change x Old old = old
settled_change x New old = changed x old
settled_change x Torn old = changed (torn_change x) old
