-- What is tried, as it goes out.
use Rattle.std.specs.Prelude.{◌≡◌, ◌⊎◌, ℕ, suc, ◌==◌, nat_le, Bool, false, if◌then◌else◌, List, [], ◌∷◌, ◌++◌, length}
use Rattle.std.specs.Prelude.{Option, Some, None}
use Rattle.room_hub.specs.declared.hub.Deed.{Deed}
use Rattle.room_hub.specs.declared.hub.Deed.TheVariants.{Sent, Closed}
use Rattle.room_hub.specs.declared.hub.Happening.{Happening}
use Rattle.room_hub.specs.declared.hub.Happening.TheVariants.{Did}
use Rattle.room_links.specs.declared.outs.Out.{Out}
use Rattle.room_links.specs.declared.outs.Out.TheVariants.{Send, Close}
use Rattle.room_log.specs.Log.{Entry}
use Rattle.room_model.specs.Server.{Outbound}
use Rattle.room_serving.specs.Serving.{with_lost}

abbrev pub conn_of : Out → ℕ
conn_of (Send k text) = k
conn_of (Close k code text) = k

abbrev pub deed_of : Out → Bool → Deed
deed_of (Send k text) lost = Sent k text lost
deed_of (Close k code text) lost = Closed k code text lost

-- how many at the front are below k
abbrev pub number_below : List ℕ → ℕ → ℕ
number_below [] k = 0
number_below (j ∷ js) k = if nat_le k j then 0 else suc (number_below js k)

abbrev pub is_number : Option ℕ → ℕ → Bool
is_number None k = false
is_number (Some j) k = j == k

-- once something is tried, something of all turns so far was sent
abbrev pub owed_after : List (ℕ × Outbound) → List (List Entry) → ℕ → ℕ
owed_after [] groups owed = owed
owed_after (o ∷ os) groups owed = length groups

-- it was tried, and noted where it was lost
pub record Tries (out : Out) (was is : List Happening) (before now : List ℕ) : Type 0 where
  pub lost : Bool
  pub told : is ≡ was ++ Did (deed_of out lost) ∷ []
  pub noted : now ≡ (if lost then with_lost before (conn_of out) else before)

-- or out of memory it wasn't noted, or not even tried
abbrev pub TriesOrNot : Out → (was is : List Happening) → Type 0
TriesOrNot out was is = (is ≡ was) ⊎ ((lost : Bool) × (is ≡ was ++ Did (deed_of out lost) ∷ []))
