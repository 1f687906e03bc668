-- Each message that a client takes keeps its account sound.
use Rattle.std.proofs.Common.{◌≡◌, ◌≢◌, ◌≤◌, ◌+◌, ◌==◌, ℕ, ℤ, Bool, true, false, cond, ◌&&◌, not, nat_lt, nat_le, List, [], ◌∷◌, ◌++◌, Option, Some, None, refl, sym, ap, ◌∙◌, subst, arith, append_assoc, append-nil}
use Rattle.std.specs.Prelude.{Result, Ok, Err}
use Rattle.std.specs.Ordering.{nat_cmp, eq_by_cmp}
use Rattle.std.specs.FinMap.{get, insert, get-insert, get-remove, get-empty, nat_cmp-IsAntisymmetric}
use Rattle.std.proofs.lemmas.Bool.{eqb-true}
use Rattle.std.proofs.lemmas.Bool.Decides.{nat_tests}
use Rattle.std.specs.Cmp.{nat_cmp_total}
use Rattle.std.proofs.Math.Nat.{le-max_left, le-max_right, max-le}
use Rattle.room_json.specs.Value.{Value, values_of, depth, values_depth, merged}
use Rattle.room_json.specs.Profile.{AreJson, AreSoundMembers}
use Rattle.room_nodes.specs.declared.nodes.Op.{Op}
use Rattle.room_nodes.specs.Shallow.{AreShallow, AreShallowOps}
use Rattle.room_nodes.specs.Shape.{Nodes}
use Rattle.room_nodes.specs.Sound.{AreSoundBodies, AreSoundOps}
use Rattle.room_nodes.specs.Steps.{fold}
use Rattle.room_nodes.proofs.Listing.{is_equal}
use Rattle.room_items.specs.Items.{tree_in}
use Rattle.room_msg.specs.declared.messages.Resume.{Resume}
use Rattle.room_msg.specs.declared.messages.ServerMsg.{ServerMsg}
use Rattle.room_msg.specs.declared.messages.ServerMsg.TheVariants as server
use Rattle.room_log.specs.Log.{actor_of, clock_of, bodies_of}
use Rattle.room_log.specs.Follows.{IsKey, most, most_actor}
use Rattle.room_model.specs.Presence.{Others, nobody, other_full, other_patched, patched_at, forgotten}
use Rattle.room_model.specs.Account.{Account, Batch, Part, Stage, Idle, Dialled, Connected, Synced, actor, issued, last_issued, beyond, is_on}
use Rattle.room_model.specs.Receive as Receive
use Rattle.room_model.specs.Sound.{IsValidTree, AreOwn, HasTree, AreItems, IsSound}
use Rattle.room_laws.specs.Accounts.{IsValidServerMsg, TreesAreValid}
use Rattle.room_laws.proofs.Batches.{beyond-append, ends_later}
use Rattle.room_laws.proofs.ClocksKept.{told_later, second_none}
use Rattle.room_laws.proofs.Patches.{Members, sound_merged}
use Rattle.room_laws.proofs.Validity.{own_beyond, restaged, valid_fold}
use Rattle.room_laws.proofs.Facts.{some_is, none_some, over, ok_is}

-- what is shown of the others

abbrev AreKnown : Others → Type 0
AreKnown os = (a : ℕ) (fs : Members) → get os a ≡ Some fs → (a ≤ most_actor) × AreSoundMembers fs

nat_same : (a c : ℕ) → eq_by_cmp nat_cmp a c ≡ true → a ≡ c
nat_same a c e = nat_cmp-IsAntisymmetric a c (is_equal (nat_cmp a c) e)

put_by : (b : Bool) (a c : ℕ) (new fs : Members) (o : Option Members) → eq_by_cmp nat_cmp a c ≡ b → cond b (Some new) o ≡ Some fs → c ≤ most_actor → AreSoundMembers new → (o ≡ Some fs → (a ≤ most_actor) × AreSoundMembers fs) → (a ≤ most_actor) × AreSoundMembers fs
put_by true a c new fs o e g l s more = (subst (λ n. n ≤ most_actor) (sym (nat_same a c e)) l, subst AreSoundMembers (some_is new fs g) s)
put_by false a c new fs o e g l s more = more g

known_insert : (os : Others) (c : ℕ) (new : Members) → AreKnown os → c ≤ most_actor → AreSoundMembers new → AreKnown (insert os c new)
known_insert os c new h l s a fs e = put_by (eq_by_cmp nat_cmp a c) a c new fs (get os a) refl (sym (get-insert nat_cmp_total os c new a) ∙ e) l s (h a fs)

gone_by : (b : Bool) (fs : Members) (o : Option Members) → cond b None o ≡ Some fs → o ≡ Some fs
gone_by true fs o e = absurd (none_some fs e)
gone_by false fs o e = e

known_remove : (os : Others) (c : ℕ) → AreKnown os → AreKnown (forgotten os c)
known_remove os c h a fs e = h a fs (gone_by (eq_by_cmp nat_cmp a c) fs (get os a) (sym (get-remove nat_cmp_total os c a) ∙ e))

patched_by : (os : Others) (c : ℕ) (patch : Members) (o : Option Members) → get os c ≡ o → AreKnown os → c ≤ most_actor → AreSoundMembers patch → AreKnown (patched_at os c patch o)
patched_by os c patch None e h l s = h
patched_by os c patch (Some old) e h l s = known_insert os c (merged old patch) h l (sound_merged old patch (h c old e).1 s)

others_sound : (x : Account) (os : Others) → IsSound x → AreKnown os → IsSound (record x { others = os })
others_sound x os h k = record {
  room = h.room;
  session = h.session;
  tree = h.tree;
  number = h.number;
  node = h.node;
  own = h.own;
  history = h.history;
  presence = record { own = h.presence.own; fits = h.presence.fits; known = k };
  events = h.events;
  parts = h.parts;
}

shown_sound : (x : Account) (a : ℕ) (target : Option ℤ) (patch : Members) → IsSound x → a ≤ most_actor → AreSoundMembers patch → IsSound (Receive.presence_taken x a target patch)
shown_sound x a None patch h l s = others_sound x (other_patched x.others a patch) h (patched_by x.others a patch (get x.others a) refl h.presence.known l s)
shown_sound x a (Some target) patch h l s = others_sound x (other_full x.others a patch) h (known_insert x.others a patch h.presence.known l s)

-- a session

nobody_known : AreKnown nobody
nobody_known a fs e = absurd (none_some fs (sym (get-empty {X = Members} nat_cmp a) ∙ e))

connected_synced : Connected ≢ Synced
connected_synced e = cc

welcomed_sound : (x : Account) (a key : ℕ) → IsSound x → 1 ≤ a → a ≤ most_actor → IsKey key → IsSound (Receive.welcomed x a key).account
welcomed_sound x a key h m l k = record {
  room = h.room;
  session = (m, l, k);
  tree = restaged x.stage Connected (issued x) x.batch x.history x.confirmed connected_synced h.tree;
  number = h.number;
  node = h.node;
  own = h.own;
  history = h.history;
  presence = record { own = h.presence.own; fits = h.presence.fits; known = nobody_known };
  events = h.events;
  parts = h.parts;
}

abbrev ReceivedSound : Receive.Received → Type 0
ReceivedSound d = IsSound d.account

named_sound : (x : Account) (a key : ℕ) (o : Option Resume) (out : Receive.Received) → IsSound (Receive.welcomed x a key).account → Receive.welcomed_as x a key o ≡ Ok out → IsSound out.account
named_sound x a key None out h p = subst ReceivedSound (ok_is (Receive.welcomed x a key) out p) h
named_sound x a key (Some s) out h p = subst ReceivedSound (over (s.actor == a) (Receive.AccountFault s.actor a) (Receive.welcomed x a key) out p) h

room_sound : (x : Account) (a key : ℕ) (g : Stage) (out : Receive.Received) → IsSound (Receive.welcomed x a key).account → Receive.receive_room x a key g ≡ Ok out → IsSound out.account
room_sound x a key Dialled out h p = named_sound x a key x.session out h p
room_sound x a key Idle out h p = cc
room_sound x a key Connected out h p = cc
room_sound x a key Synced out h p = cc

-- parts of a state

json_append : (vs ws : List Value) → AreJson (values_of vs) → AreJson (values_of ws) → AreJson (values_of (vs ++ ws))
json_append [] ws h k = k
json_append (v ∷ vs) ws h k = (h.0, json_append vs ws h.1 k)

depth_append : (vs ws : List Value) (m : ℕ) → values_depth (values_of vs) ≤ m → values_depth (values_of ws) ≤ m → values_depth (values_of (vs ++ ws)) ≤ m
depth_append [] ws m h k = k
depth_append (v ∷ vs) ws m h k =
    max-le (omega (arith, h, le-max_left (depth v) (values_depth (values_of vs)))) (depth_append vs ws m (omega (arith, h, le-max_right (depth v) (values_depth (values_of vs)))) k)

items_append : (vs ws : List Value) → AreItems vs → AreItems ws → AreItems (vs ++ ws)
items_append vs ws h k = record { json = json_append vs ws h.json k.json; shallow = depth_append vs ws 58 h.shallow k.shallow }

parts_more : (ps : List Part) (p : Part) → Receive.parts_items (ps ++ p ∷ []) ≡ Receive.parts_items ps ++ p.items
parts_more [] p = append-nil p.items
parts_more (q ∷ ps) p = ap (λ (vs : List Value). q.items ++ vs) (parts_more ps p) ∙ sym (append_assoc q.items (Receive.parts_items ps) p.items)

part_sound : (x : Account) (seq last : ℕ) (items : List Value) → IsSound x → AreItems items → IsSound (Receive.keeps_part x seq last items).account
part_sound x seq last items h k = record {
  room = h.room;
  session = h.session;
  tree = h.tree;
  number = h.number;
  node = h.node;
  own = h.own;
  history = h.history;
  presence = h.presence;
  events = h.events;
  parts = subst AreItems (sym (parts_more x.parts (record { seq = seq; last = last; items = items }))) (items_append (Receive.parts_items x.parts) items h.parts k);
}

-- a state whose last part came

no_items : AreItems []
no_items = record { json = tt; shallow = omega arith }

loaded_sound : (x : Account) (seq last : ℕ) (t : Nodes) → IsSound x → IsValidTree t → seq ≤ most → x.told ≤ last → last ≤ last_issued x → IsSound (Receive.loaded_account x seq last t)
loaded_sound x seq last t h v n l m = record {
  room = h.room;
  session = h.session;
  tree = v;
  number = n;
  node = h.node;
  own = subst (λ (bs : List Batch). AreOwn last bs x.batch) (sym (append-nil (beyond last (issued x)))) (own_beyond x.told last (issued x) x.batch l m h.own);
  history = h.history;
  presence = h.presence;
  events = h.events;
  parts = no_items;
}

fault_at : (x : Account) (seq last : ℕ) (t : Nodes) (o : Option (ℕ × ℕ)) (out : Receive.Received) → Receive.state_fault x seq last ≡ o → IsSound x → IsValidTree t → seq ≤ most → Receive.load_at x seq last t o ≡ Ok out → IsSound out.account
fault_at x seq last t (Some f) out q h v n p = cc
fault_at x seq last t None out q h v n p =
    let later = second_none (nat_lt seq x.n) (x.n, seq) _ q in
    let told = second_none (nat_lt last x.told) (x.told, last) _ later.1 in
    let issues = second_none (nat_lt (last_issued x) last) (last_issued x, last) None told.1 in
    subst ReceivedSound (ok_is (Receive.loaded x seq last t) out p) (loaded_sound x seq last t h v n (grind (arith, nat_tests, told.0)) (grind (arith, nat_tests, issues.0)))

-- an update

ops_sound : (os : List Op) → AreSoundOps os → AreSoundBodies (bodies_of os)
ops_sound [] h = tt
ops_sound (o ∷ os) h = (h.0.1, ops_sound os h.1)

ops_shallow : (os : List Op) → AreShallowOps os → AreShallow (bodies_of os)
ops_shallow [] h = tt
ops_shallow (o ∷ os) h = (h.0, ops_shallow os h.1)

within_by : (a limit c : ℕ) (o : Op) (os : List Op) (r : ℕ) (other own : Bool) → (clock_of o == c + 1) && nat_le (clock_of o) limit ≡ own → c ≤ limit
    → ((d : ℕ) → d ≤ limit → Receive.told_by a limit d os ≡ Ok r → r ≤ limit)
    → cond other (Receive.told_by a limit c os) (cond own (Receive.told_by a limit (c + 1) os) (Err (c, clock_of o))) ≡ Ok r → r ≤ limit
within_by a limit c o os r true own q l k p = k c l p
within_by a limit c o os r false true q l k p = k (c + 1) (grind (arith, nat_tests, q)) p
within_by a limit c o os r false false q l k p = cc

-- the clock that an update tells was issued
pub told_within : (a limit : ℕ) (os : List Op) (r c : ℕ) → c ≤ limit → Receive.told_by a limit c os ≡ Ok r → r ≤ limit
told_within a limit [] r c l p = let e : c ≡ r = cc in omega (arith, l, e)
told_within a limit (o ∷ os) r c l p =
    within_by a limit c o os r (not (actor_of o == a)) ((clock_of o == c + 1) && nat_le (clock_of o) limit) refl l (λ d m q. told_within a limit os r d m q) p

updated_sound : (x : Account) (os : List Op) (told : ℕ) (t : Nodes) → IsSound x → IsValidTree (fold t (bodies_of os)) → x.n + 1 ≤ most → x.told ≤ told → told ≤ last_issued x → IsSound (Receive.updated_account x os told t)
updated_sound x os told t h v n l m = record {
  room = h.room;
  session = h.session;
  tree = v;
  number = n;
  node = h.node;
  own = subst (λ (bs : List Batch). AreOwn told bs x.batch) (beyond-append told x.sent x.fresh) (own_beyond x.told told (issued x) x.batch l m h.own);
  history = h.history;
  presence = h.presence;
  events = h.events;
  parts = h.parts;
}

module _ (trees : TreesAreValid) where
  load_sound : (x : Account) (seq last : ℕ) (vs : List Value) (o : Option Nodes) (out : Receive.Received) → tree_in vs ≡ o → IsSound x → AreItems vs → seq ≤ most → Receive.load x seq last o ≡ Ok out → IsSound out.account
  load_sound x seq last vs None out q h k n p = cc
  load_sound x seq last vs (Some t) out q h k n p = fault_at x seq last t (Receive.state_fault x seq last) out refl h (trees vs t k q) n p

  state_sound : (x : Account) (seq last : ℕ) (items : List Value) (more : Bool) (o : Option (ℕ × ℕ)) (out : Receive.Received) → IsSound x → AreItems items → seq ≤ most → Receive.receive_part x seq last items more o ≡ Ok out → IsSound out.account
  state_sound x seq last items more (Some f) out h k n p = cc
  state_sound x seq last items true None out h k n p = subst ReceivedSound (ok_is (Receive.keeps_part x seq last items) out p) (part_sound x seq last items h k)
  state_sound x seq last items false None out h k n p = load_sound x seq last (Receive.parts_items x.parts ++ items) (tree_in (Receive.parts_items x.parts ++ items)) out refl h (items_append (Receive.parts_items x.parts) items h.parts k) n p

  on_sound : (x : Account) (seq last : ℕ) (items : List Value) (more b : Bool) (out : Receive.Received) → IsSound x → AreItems items → seq ≤ most
      → cond b (Err (Receive.Unexpected 200)) (Receive.receive_part x seq last items more (Receive.other_parts x.parts seq last)) ≡ Ok out → IsSound out.account
  on_sound x seq last items more true out h k n p = cc
  on_sound x seq last items more false out h k n p = state_sound x seq last items more (Receive.other_parts x.parts seq last) out h k n p

  told_sound : (x : Account) (os : List Op) (t : Nodes) (r : Result ℕ (ℕ × ℕ)) (out : Receive.Received) → Receive.told_by (actor x) (last_issued x) x.told os ≡ r → IsSound x → IsValidTree t → AreSoundOps os → AreShallowOps os → x.n + 1 ≤ most
      → Receive.update_told x os t r ≡ Ok out → IsSound out.account
  told_sound x os t (Err f) out q h v s l n p = cc
  told_sound x os t (Ok told) out q h v s l n p =
      subst ReceivedSound (ok_is _ out p) (updated_sound x os told t h (valid_fold t (bodies_of os) v (record { sound = ops_sound os s; shallow = ops_shallow os l })) n
      (told_later (actor x) (last_issued x) os told x.told q) (told_within (actor x) (last_issued x) os told x.told (ends_later x.told (issued x) h.own.runs) q))

  tree_sound : (x : Account) (os : List Op) (o : Option Nodes) (out : Receive.Received) → IsSound x → HasTree x.stage (issued x) x.batch x.history o → AreSoundOps os → AreShallowOps os → x.n + 1 ≤ most → Receive.update_on x os o ≡ Ok out → IsSound out.account
  tree_sound x os None out h v s l n p = cc
  tree_sound x os (Some t) out h v s l n p = told_sound x os t (Receive.told_by (actor x) (last_issued x) x.told os) out refl h v s l n p

  numbered_sound : (x : Account) (seq : ℕ) (os : List Op) (b : Bool) (out : Receive.Received) → (seq == x.n + 1) ≡ b → IsSound x → AreSoundOps os → AreShallowOps os → seq ≤ most → cond b (Receive.update_on x os x.confirmed) (Err (Receive.Gap (x.n + 1) seq)) ≡ Ok out → IsSound out.account
  numbered_sound x seq os true out q h s l n p = tree_sound x os x.confirmed out h h.tree s l (omega (arith, n, eqb-true seq (x.n + 1) q)) p
  numbered_sound x seq os false out q h s l n p = cc

  parts_sound : (x : Account) (seq : ℕ) (os : List Op) (ps : List Part) (out : Receive.Received) → IsSound x → AreSoundOps os → AreShallowOps os → seq ≤ most → Receive.update_synced x seq os ps ≡ Ok out → IsSound out.account
  parts_sound x seq os [] out h s l n p = numbered_sound x seq os (seq == x.n + 1) out refl h s l n p
  parts_sound x seq os (q ∷ qs) out h s l n p = cc

  update_sound : (x : Account) (seq : ℕ) (os : List Op) (g : Stage) (out : Receive.Received) → IsSound x → AreSoundOps os → AreShallowOps os → seq ≤ most → Receive.receive_update x seq os g ≡ Ok out → IsSound out.account
  update_sound x seq os Synced out h s l n p = parts_sound x seq os x.parts out h s l n p
  update_sound x seq os Idle out h s l n p = cc
  update_sound x seq os Dialled out h s l n p = cc
  update_sound x seq os Connected out h s l n p = cc

  pub receive_sound : (x : Account) (m : ServerMsg) (out : Receive.Received) → IsSound x → IsValidServerMsg m → Receive.receive x m ≡ Ok out → IsSound out.account
  receive_sound x (server.Presence a target patch) out h m p = subst ReceivedSound (over (is_on x.stage) (Receive.Unexpected 100) (Receive.received (Receive.presence_taken x a target patch)) out p) (shown_sound x a target patch h m.0 m.1)
  receive_sound x (server.Joined a) out h m p = subst ReceivedSound (over (is_on x.stage) (Receive.Unexpected 101) _ out p) (others_sound x (forgotten x.others a) h (known_remove x.others a h.presence.known))
  receive_sound x (server.Left a) out h m p = subst ReceivedSound (over (is_on x.stage) (Receive.Unexpected 102) _ out p) (others_sound x (forgotten x.others a) h (known_remove x.others a h.presence.known))
  receive_sound x (server.Broadcast a e) out h m p = subst ReceivedSound (over (is_on x.stage) (Receive.Unexpected 103) _ out p) h
  receive_sound x (server.RoomState a key users) out h m p = room_sound x a key x.stage out (welcomed_sound x a key h m.0 m.1 m.2) p
  receive_sound x (server.State seq last items more) out h m p = on_sound x seq last items more (not (is_on x.stage)) out h m.2 m.0 p
  receive_sound x (server.Update seq os) out h m p = update_sound x seq os x.stage out h m.1 m.2 m.0 p
