-- What is true of every account between two calls, whatever was done with it; and what edits and lines can be spelled.
use Rattle.std.specs.Prelude.{◌≡◌, ◌≢◌, ◌≤◌, ◌<◌, ◌+◌, ℕ, true, List, [], ◌∷◌, length, Option, Some, None, Ok, Err}
use Rattle.std.specs.Prelude.{IsUtf8, ⊤}
use Rattle.std.specs.Ordering.{nat_cmp}
use Rattle.std.specs.Cmp.Lexicographic.{slice_cmp}
use Rattle.std.specs.List.{AllByRecursion}
use Rattle.std.specs.List.Sorted.{IsStrictlySortedBy}
use Rattle.std.specs.FinMap.{get}
use Rattle.room_json.specs.Value.{Value, values_of, depth, values_depth}
use Rattle.room_json.specs.View.{json_of}
use Rattle.room_json.specs.Profile.{IsJson, AreJson, AreSoundMembers}
use Rattle.room_json.specs.declared.tree.Json.{Json}
use Rattle.room_ids.specs.Laws.{IsNodeInRange}
use Rattle.room_nodes.specs.declared.nodes.Body.{Body}
use Rattle.room_nodes.specs.declared.nodes.Change.{Change}
use Rattle.room_nodes.specs.declared.nodes.Change.TheVariants.{Op as OpChange, Presence as PresenceChange}
use Rattle.room_nodes.specs.Shallow.{IsShallowTree, AreShallow, is_shallow}
use Rattle.room_nodes.specs.Shape.{Nodes, IsFormed}
use Rattle.room_nodes.specs.Sound.{IsSoundTree, IsSoundBody, AreSoundBodies}
use Rattle.room_msg.specs.declared.messages.Resume.{Resume}
use Rattle.room_msg.specs.Frame.{client_frame_in}
use Rattle.room_msg.specs.Sound.{IsSoundClientFrame, IsShallowClientFrame}
use Rattle.room_log.specs.Follows.{IsKey, most, most_actor}
use Rattle.room_model.specs.Init.{Init, Plain, AnObject, AMap, AList, Parts, no_parts, part, Inits, no_inits, init}
use Rattle.room_model.specs.Edits as edits
use Rattle.room_model.specs.Edits.{Edit, fields_most}
use Rattle.room_model.specs.History.{History}
use Rattle.room_model.specs.Presence.{Others}
use Rattle.room_model.specs.Account.{Account, Batch, OpenBatch, Stage, Synced, issued, ends, bodies_in, frame_of_event}
use Rattle.room_model.specs.Account.{size_of, most_bytes}
use Rattle.room_model.specs.Calls.{entry_bodies, presence_size}
use Rattle.room_model.specs.Receive.{parts_items}
use Rattle.room_model.specs.Server.{Inbound}
use Rattle.room_model.specs.Lines as lines
use Rattle.room_model.specs.Lines.{Line}

-- valid trees and operations: sound, and no value too deep for a frame

pub record IsValidTree (t : Nodes) : Type 0 where
  pub formed : IsFormed t
  pub sound : IsSoundTree t
  pub shallow : IsShallowTree t

pub record AreValidBodies (bs : List Body) : Type 0 where
  pub sound : AreSoundBodies bs
  pub shallow : AreShallow bs

-- a presence, or a patch of one
pub record IsValidPatch (fs : List (List ℕ × Value)) : Type 0 where
  pub sound : AreSoundMembers fs
  pub shallow : fields_most fs ≤ 50

-- changes that go back, and what a history holds

abbrev pub IsValidChange : Change → Type 0
IsValidChange (OpChange b) = IsSoundBody b × (is_shallow b ≡ true)
IsValidChange (PresenceChange patch) = IsValidPatch patch

abbrev pub AreValidChanges : List Change → Type 0
AreValidChanges [] = ⊤
AreValidChanges (c ∷ cs) = IsValidChange c × AreValidChanges cs

abbrev pub changes_or_none : Option (List Change) → List Change
changes_or_none None = []
changes_or_none (Some cs) = cs

-- all that a history holds
pub record HoldsOnly (P : List Change → Type 0) (h : History) : Type 0 where
  pub undo : AllByRecursion P h.undo
  pub redo : AllByRecursion P h.redo
  pub bag : P (changes_or_none h.bag)

-- batches: those beyond the last acknowledged clock, and the open one

-- the clocks of these batches run on by ones after c, and none is empty
abbrev pub RunsOn : ℕ → List Batch → Type 0
RunsOn c [] = ⊤
RunsOn c (b ∷ bs) = record {
  first : b.first ≡ c + 1;
  some : 0 < length b.bodies;
  more : RunsOn (c + length b.bodies) bs;
}

-- the clocks of an account run on from the last acknowledged one
abbrev pub ClocksRunOn : Account → Type 0
ClocksRunOn x = RunsOn x.told (issued x)

abbrev pub AreValidBatches : List Batch → Type 0
AreValidBatches [] = ⊤
AreValidBatches (b ∷ bs) = AreValidBodies b.bodies × AreValidBatches bs

abbrev pub changes_in : Option OpenBatch → List Change
changes_in None = []
changes_in (Some o) = o.changes

-- the next clock, behind the open batch, is at most 2^53
pub record AreOwn (told : ℕ) (bs : List Batch) (o : Option OpenBatch) : Type 0 where
  pub runs : RunsOn told bs
  pub closed : AreValidBatches bs
  pub bodies : AreValidBodies (bodies_in o)
  pub changes : AreValidChanges (changes_in o)
  pub next : ends told bs + 1 + length (bodies_in o) ≤ most + 1

-- before the first state a client has made no operation: nothing is issued, and what goes back are patches of its
-- presence

abbrev pub ArePatches : List Change → Type 0
ArePatches cs = entry_bodies cs ≡ []

pub record MadeNothing (bs : List Batch) (o : Option OpenBatch) (h : History) : Type 0 where
  pub closed : bs ≡ []
  pub bodies : bodies_in o ≡ []
  pub changes : ArePatches (changes_in o)
  pub history : HoldsOnly ArePatches h

-- a synced client has a tree
abbrev pub HasTree : Stage → List Batch → Option OpenBatch → History → Option Nodes → Type 0
HasTree stage bs o h None = (stage ≢ Synced) × MadeNothing bs o h
HasTree stage bs o h (Some t) = IsValidTree t

-- a session: an actor from 1 on, and a key
abbrev pub IsSession : Option Resume → Type 0
IsSession None = ⊤
IsSession (Some s) = (1 ≤ s.actor) × (s.actor ≤ most_actor) × IsKey s.key

-- its own presence, which fits into a frame, and that of the others
pub record ArePresences (me : List (List ℕ × Value)) (others : Others) : Type 0 where
  pub own : IsValidPatch me
  pub fits : presence_size me ≤ most_bytes
  pub known : (a : ℕ) (fs : List (List ℕ × Value)) → get others a ≡ Some fs → (a ≤ most_actor) × AreSoundMembers fs

pub record IsValidEvent (e : Json) : Type 0 where
  pub json : IsJson (json_of e)
  pub shallow : depth (json_of e) ≤ 50
  pub fits : size_of (frame_of_event e) ≤ most_bytes

abbrev pub AreValidEvents : List Json → Type 0
AreValidEvents [] = ⊤
AreValidEvents (e ∷ es) = IsValidEvent e × AreValidEvents es

-- items of a state, no deeper than a message that is read can have them
pub record AreItems (vs : List Value) : Type 0 where
  pub json : AreJson (values_of vs)
  pub shallow : values_depth (values_of vs) ≤ 58

pub record IsSound (x : Account) : Type 0 where
  pub room : IsUtf8 x.room
  pub session : IsSession x.session
  pub tree : HasTree x.stage (issued x) x.batch x.history x.confirmed
  pub number : x.n ≤ most
  pub node : x.node ≤ most + 1
  pub own : AreOwn x.told (issued x) x.batch
  pub history : HoldsOnly AreValidChanges x.history
  pub presence : ArePresences x.me x.others
  pub events : AreValidEvents x.events
  pub parts : AreItems (parts_items x.parts)

-- edits of real values

abbrev pub names_of : Parts → List (List ℕ)
names_of no_parts = []
names_of (part k i ps) = k ∷ names_of ps

-- the members of a live object or map stand in byte order of their names, each name once
abbrev mutual
  pub IsSoundInit : Init → Type 0
  IsSoundInit (Plain v) = IsJson v
  IsSoundInit (AnObject ps) = IsStrictlySortedBy (slice_cmp nat_cmp) (names_of ps) × AreSoundParts ps
  IsSoundInit (AMap ps) = IsStrictlySortedBy (slice_cmp nat_cmp) (names_of ps) × AreSoundParts ps
  IsSoundInit (AList is) = AreSoundInits is

  pub AreSoundParts : Parts → Type 0
  AreSoundParts no_parts = ⊤
  AreSoundParts (part k i ps) = IsUtf8 k × IsSoundInit i × AreSoundParts ps

  pub AreSoundInits : Inits → Type 0
  AreSoundInits no_inits = ⊤
  AreSoundInits (init i is) = IsSoundInit i × AreSoundInits is

abbrev pub IsSoundEdit : Edit → Type 0
IsSoundEdit (edits.Set x k i) = IsNodeInRange x × IsUtf8 k × IsSoundInit i
IsSoundEdit (edits.Update x fs) = IsNodeInRange x × AreSoundMembers fs
IsSoundEdit (edits.Remove x k) = IsNodeInRange x × IsUtf8 k
IsSoundEdit (edits.Push x i) = IsNodeInRange x × IsSoundInit i
IsSoundEdit (edits.Insert x n i) = IsNodeInRange x × IsSoundInit i
IsSoundEdit (edits.Put x n i) = IsNodeInRange x × IsSoundInit i
IsSoundEdit (edits.Move x f t) = IsNodeInRange x
IsSoundEdit (edits.Take x n) = IsNodeInRange x
IsSoundEdit (edits.Clear x) = IsNodeInRange x

-- what is read of a frame is sound, as its reader says, and no deeper than the levels of a frame make it
abbrev pub IsReadSound : Inbound → Type 0
IsReadSound (Err reason) = ⊤
IsReadSound (Ok f) = IsSoundClientFrame f × IsShallowClientFrame f

-- lines that a schedule can spell

abbrev pub IsClient : ℕ → Type 0
IsClient c = (1 ≤ c) × (c ≤ 64)

abbrev pub IsCall : lines.Call → Type 0
IsCall lines.Dial = ⊤
IsCall (lines.Edits e) = IsSoundEdit e
IsCall lines.Begin = ⊤
IsCall lines.End = ⊤
IsCall lines.Undo = ⊤
IsCall lines.Redo = ⊤
IsCall lines.Pause = ⊤
IsCall lines.Resume = ⊤
IsCall lines.Clear = ⊤
IsCall (lines.Presence patch in_history) = AreSoundMembers patch
IsCall (lines.Event e) = IsJson (json_of e)
IsCall lines.Flush = ⊤
IsCall lines.Resend = ⊤
IsCall lines.Cut = ⊤

abbrev pub IsTraffic : lines.Traffic → Type 0
IsTraffic lines.Up = ⊤
IsTraffic lines.Down = ⊤
IsTraffic lines.Gone = ⊤
IsTraffic (lines.Raw text) = IsReadSound (client_frame_in text)

abbrev pub IsService : lines.Service → Type 0
IsService lines.Stop = ⊤
IsService lines.Start = ⊤
IsService (lines.Fuse calls how) = 1 ≤ calls
IsService lines.Compact = ⊤
IsService (lines.Limit updates sessions) = (updates ≤ most) × (sessions ≤ most_actor)
IsService lines.ShowServer = ⊤
IsService lines.BriefServer = ⊤

abbrev pub IsLine : Line → Type 0
IsLine (lines.OfClient c call) = IsClient c × IsCall call
IsLine (lines.AsksClient c question) = IsClient c
IsLine (lines.OfConnection k traffic) = IsTraffic traffic
IsLine (lines.OfServer service) = IsService service
IsLine (lines.Drain n) = ⊤
IsLine lines.Link = ⊤
