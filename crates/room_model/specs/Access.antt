-- Access: which groups may do what in which room.
use Rattle.std.specs.Prelude.{ℕ, suc, Bool, true, ◌&&◌, ◌||◌, if◌then◌else◌, nat_le, List, [], ◌∷◌, ◌++◌, codes}
use Rattle.std.specs.Prelude.{decimal, Option, Some, None}
use Rattle.std.specs.Str.{bytes_eq}
use Rattle.room_msg.specs.declared.messages.ClientMsg.{ClientMsg}
use Rattle.room_msg.specs.declared.messages.ClientMsg.TheVariants as client

-- levels, in rising order
pub data Level : Type 0 where
  Nothing : Level
  Read : Level
  Presence : Level
  Write : Level

abbrev pub rank : Level → ℕ
rank Nothing = 0
rank Read = 1
rank Presence = 2
rank Write = 3

-- a word that gives a group
pub record Pass : Type 0 where
  pub word : List ℕ
  pub group : List ℕ

-- a room and a group, of which each may be `*`, and their level
pub record Rule : Type 0 where
  pub room : List ℕ
  pub group : List ℕ
  pub level : Level

pub record Access : Type 0 where
  pub passes : List Pass
  pub policy : List Rule

-- the level, and the number of the rule that decided, from 0
pub record Decision : Type 0 where
  pub level : Level
  pub row : Option ℕ

abbrev pub fits_word : List ℕ → List ℕ → Bool
fits_word rule word = bytes_eq rule word || bytes_eq rule (codes "*")

-- the first rule that fits; without one there is no level
abbrev pub decide_from : ℕ → List Rule → List ℕ → List ℕ → Decision
decide_from n [] room group = record { level = Nothing; row = None }
decide_from n (r ∷ rs) room group =
    if fits_word r.room room && fits_word r.group group
    then record { level = r.level; row = Some n }
    else decide_from (suc n) rs room group

abbrev pub decide : List Rule → List ℕ → List ℕ → Decision
decide policy room group = decide_from 0 policy room group

-- the group of the first pass with that word, and else a guest

abbrev pub group_among : List Pass → List ℕ → List ℕ
group_among [] word = codes "guest"
group_among (p ∷ ps) word = if bytes_eq p.word word then p.group else group_among ps word

abbrev pub group_of : Access → Option (List ℕ) → List ℕ
group_of a None = codes "guest"
group_of a (Some word) = group_among a.passes word

-- the level that a message needs
abbrev pub need_of : ClientMsg → Level
need_of (client.Hello h) = Read
need_of (client.Presence target []) = Read
need_of (client.Presence target (f ∷ fs)) = Presence
need_of (client.Broadcast event) = Presence
need_of client.Fetch = Read
need_of (client.Update os) = Write

abbrev pub allows_all : Level → List ClientMsg → Bool
allows_all level [] = true
allows_all level (m ∷ ms) = nat_le (rank (need_of m)) (rank level) && allows_all level ms

-- the decision that bars these messages, if one does; where no access was asked for, everything may be done
abbrev pub barred : Option Decision → List ClientMsg → Option Decision
barred None ms = None
barred (Some d) ms = if allows_all d.level ms then None else Some d

abbrev pub row_text : Option ℕ → List ℕ
row_text None = codes "no row"
row_text (Some n) = codes "row " ++ decimal n

abbrev pub refusal_text : Decision → List ℕ
refusal_text d = codes "may not write " ++ row_text d.row
