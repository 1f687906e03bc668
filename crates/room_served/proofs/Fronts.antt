-- First parts of what serves a room.
use Rattle.std.proofs.Common.{◌≡◌, ℕ, Bool, true, false, cond, List, [], ◌∷◌, ◌++◌, length, refl, sym, ap, ◌∙◌}
use Rattle.std.proofs.Common.{append_assoc, append-nil}
use Rattle.room_hub.specs.declared.hub.Event.TheVariants.{Opened, Frame, Gone, Quiet, End}
use Rattle.room_hub.specs.declared.hub.Happening.{Happening}
use Rattle.room_hub.specs.declared.hub.Happening.TheVariants.{Gave, Did, Failed}
use Rattle.room_hub.specs.declared.hub.Deed.{Deed}
use Rattle.room_log.specs.Log.{Entry}
use Rattle.room_model.specs.Server.{Outbound}
use Rattle.room_serving.specs.Turns.{turned}
use Rattle.room_serving.specs.Serving
use Rattle.room_serving.specs.Serving.{Serving, Serves, served}
use Rattle.room_served.specs.Laws.{Adds, InParts, Parts as Law}

cut : (m : Serving) (hs ks : List Happening) → Serves m (hs ++ ks) → InParts m hs ks
cut m [] ks s = record { first = tt; rest = s }
cut m (h ∷ hs) ks s = let more =
    cut (Serving.after m h) hs ks s.1 in record { first = (s.0, more.first); rest = more.rest }

joined : (m : Serving) (hs ks : List Happening) → InParts m hs ks → Serves m (hs ++ ks)
joined m [] ks p = p.rest
joined m (h ∷ hs) ks p = (p.first.0, joined (Serving.after m h) hs ks (record { first = p.first.1; rest = p.rest }))

goes_on : (m : Serving) (hs ks : List Happening) → served m (hs ++ ks) ≡ served (served m hs) ks
goes_on m [] ks = refl
goes_on m (h ∷ hs) ks = goes_on (Serving.after m h) hs ks

-- the log grows

same : (gs : List (List Entry)) → Adds gs gs
same gs = record { more = []; is = sym (append-nil gs) }

then_adds : (fs gs hs : List (List Entry)) → Adds fs gs → Adds gs hs → Adds fs hs
then_adds fs gs hs a b = record {
  more = a.more ++ b.more;
  is = b.is ∙ ap (λ l. l ++ b.more) a.is ∙ append_assoc fs a.more b.more;
}

turn_adds : (m n : Serving) → n.groups ≡ m.groups → Adds m.groups (Serving.does_turn n).groups
turn_adds m n e =
    let more = Serving.group_of (turned n.server n.gathered).entries in
    record { more = more; is = ap (λ l. l ++ more) e }

if_full : (m n : Serving) (b : Bool) → n.groups ≡ m.groups → Adds m.groups (cond b (Serving.does_turn n) n).groups
if_full m n true e = turn_adds m n e
if_full m n false e = record { more = []; is = e ∙ sym (append-nil m.groups) }

treats : (m n : Serving) (os : List (ℕ × Outbound)) (ks : List ℕ) → n.groups ≡ m.groups
    → Adds m.groups (Serving.treat n os ks).groups
treats m n (o ∷ os) ks e = record { more = []; is = e ∙ sym (append-nil m.groups) }
treats m n [] [] e = record { more = []; is = e ∙ sym (append-nil m.groups) }
treats m n [] (k ∷ ks) e = turn_adds m (record n { gathered = Serving.goners (k ∷ ks) }) e

deed_adds : (m : Serving) (os : List (ℕ × Outbound)) (d : Deed) → Adds m.groups (Serving.after_deed m os d).groups
deed_adds m [] d = same m.groups
deed_adds m (o ∷ os) d = treats m (record m { owed = length m.groups }) os _ refl

step_adds : (m : Serving) (h : Happening) → Adds m.groups (Serving.after m h).groups
step_adds m (Gave (Opened k key)) = if_full m (Serving.with_event (Serving.asked m) (Opened k key)) _ refl
step_adds m (Gave (Frame k text)) = if_full m (Serving.with_event (Serving.asked m) (Frame k text)) _ refl
step_adds m (Gave (Gone k)) = if_full m (Serving.with_event (Serving.asked m) (Gone k)) _ refl
step_adds m (Gave Quiet) = turn_adds m (Serving.asked m) refl
step_adds m (Gave End) = turn_adds m (record (Serving.asked m) { ending = Serving.Ended }) refl
step_adds m (Did d) = deed_adds m m.todo d
step_adds m Failed = turn_adds m (record (Serving.asked m) { ending = Serving.Missed }) refl

grows : (m : Serving) (hs : List Happening) → Adds m.groups (served m hs).groups
grows m [] = same m.groups
grows m (h ∷ hs) = then_adds m.groups (Serving.after m h).groups (served (Serving.after m h) hs).groups (step_adds m h)
    (grows (Serving.after m h) hs)

pub parts : Law
parts = record { cut = cut; joined = joined; goes_on = goes_on; grows = grows }
