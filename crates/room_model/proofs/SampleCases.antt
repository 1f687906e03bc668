-- Each sample computes, where the entries of a map or the length of a list are put in.
use Rattle.std.proofs.Common.{◌≡◌, ◌+◌, ℕ, true, false, cond, List, [], ◌∷◌, ◌++◌, map, length, take, drop, refl, sym, ap, ◌∙◌}
use Rattle.std.specs.Prelude.{Some, None, nat_le, codes}
use Rattle.std.specs.FinMap.{entries, insert, remove}
use Rattle.std.specs.Fmt.{digits}
use Rattle.std.proofs.lemmas.List.{length-append}
use Rattle.std.proofs.Math.Seq.{take-append_seam, drop-append_seam}
use Rattle.room_json.specs.Value.{Value}
use Rattle.room_json.specs.declared.tree.Json.{Json}
use Rattle.room_nodes.specs.declared.nodes.Op.{Op}
use Rattle.room_msg.specs.declared.messages.ClientMsg.TheVariants as client
use Rattle.room_msg.specs.declared.messages.ServerMsg.TheVariants as server
use Rattle.room_log.specs.Log.{Update as TakenUpdate, ops_of}
use Rattle.room_model.specs.Server as Server
use Rattle.room_model.specs.Server.{Outbound, Closed, Message, Link}
use Rattle.room_model.specs.Samples.{Samples, of_session, bare_link, numbered}

-- what is sent as a session goes on, by the connections that there were and those that are left
abbrev outs_of : Server.Server → List (ℕ × Link) → List (ℕ × Link) → List (ℕ × Outbound)
outs_of v was left =
    Server.to_each (Server.holds 1) Server.elsewhere was
    ++ (5, Message (server.RoomState 1 3 (Server.users_of v.state.sessions (remove (insert (Server.without_actor v.links 1) 5 (Server.with_session bare_link 1 None)) 5))))
    ∷ Server.to_each Server.has_session (Message (server.Joined 1)) left

abbrev left_in : Server.Server → List (ℕ × Link)
left_in v = entries (remove (insert (Server.without_actor v.links 1) 5 (Server.with_session bare_link 1 None)) 5)

goes_on : (v : Server.Server) → entries v.links ≡ (3, of_session 1) ∷ (5, bare_link) ∷ (6, of_session 2) ∷ []
    → left_in v ≡ (6, of_session 2) ∷ []
    → map numbered (Server.resumed v 5 bare_link (record { actor = 1; key = 3 }) None).outs ≡ (3, 4408) ∷ (5, 104) ∷ (6, 101) ∷ []
goes_on v h i =
    ap (λ was. map numbered (outs_of v was (left_in v))) h
    ∙ ap (λ left. map numbered (outs_of v ((3, of_session 1) ∷ (5, bare_link) ∷ (6, of_session 2) ∷ []) left)) i

elsewhere : (v : Server.Server) → entries v.links ≡ (3, of_session 1) ∷ []
    → take 1 (Server.resumed v 5 bare_link (record { actor = 1; key = 3 }) None).outs ≡ (3, Closed 4408 (codes "resumed elsewhere")) ∷ []
elsewhere v h = ap (λ was. take 1 (outs_of v was (left_in v))) h

before_the_event : (v : Server.Server) (u : TakenUpdate) (e : Json) (os : List Op)
    → entries v.links ≡ (1, of_session 1) ∷ (2, of_session 2) ∷ [] → entries (remove v.links 1) ≡ (2, of_session 2) ∷ []
    → (Server.act_all v 1 1 (Some u) (client.Update [] ∷ client.Broadcast e ∷ client.Update os ∷ [])).outs
    ≡ (1, Message (server.Update (v.state.count + 1) (ops_of u))) ∷ (2, Message (server.Update (v.state.count + 1) (ops_of u)))
    ∷ (2, Message (server.Broadcast 1 e)) ∷ []
before_the_event v u e os h i =
    let sent : Outbound = Message (server.Update (v.state.count + 1) (ops_of u)) in
    let told : List (ℕ × Link) → List (ℕ × Outbound) = λ es. Server.to_each Server.has_session (Message (server.Broadcast 1 e)) es in
    ap (λ es. Server.to_each Server.has_fetched sent es ++ (told (entries (remove v.links 1)) ++ [])) h
    ∙ ap (λ es. (1, sent) ∷ (2, sent) ∷ (told es ++ [])) i

one_part : (vs : List Value) → length vs ≡ 1000 → Server.parts_of vs ≡ (vs, false) ∷ []
one_part vs h =
    ap (λ n. Server.parts_within n vs) h
    ∙ ap (λ n. cond (nat_le n 1000) ((vs, false) ∷ []) ((take 1000 vs, true) ∷ Server.parts_within 999 (drop 1000 vs))) h

two_parts : (vs : List Value) (v : Value) → length vs ≡ 1000 → Server.parts_of (vs ++ v ∷ []) ≡ (vs, true) ∷ (v ∷ [], false) ∷ []
two_parts vs v h =
    let xs = vs ++ v ∷ [] in
    let size : length xs ≡ 1001 = length-append vs (v ∷ []) ∙ ap (λ n. n + 1) h in
    ap (λ n. Server.parts_within n xs) size
    ∙ ap (λ n. cond (nat_le n 1000) ((xs, false) ∷ []) ((take 1000 xs, true) ∷ Server.parts_within 1000 (drop 1000 xs))) size
    ∙ ap (λ n. (take n xs, true) ∷ Server.parts_within 1000 (drop n xs)) (sym h)
    ∙ ap (λ ys. (ys, true) ∷ Server.parts_within 1000 (drop (length vs) xs)) (take-append_seam vs (v ∷ []))
    ∙ ap (λ ys. (vs, true) ∷ Server.parts_within 1000 ys) (drop-append_seam vs (v ∷ []))

pub samples : Samples
unfolding digits
samples = record {
  free_place = refl;
  own_place = refl;
  taken_place = refl;
  next_place = refl;
  no_next_place = refl;
  settled_between = refl;
  back_move = λ n. refl;
  back_fields = λ n. refl;
  back_new_key = refl;
  back_node = refl;
  list_made = refl;
  object_made = refl;
  insert_empty = refl;
  insert_first = refl;
  insert_second = refl;
  insert_last = refl;
  move_last = refl;
  move_first = refl;
  no_node = λ t c e. refl;
  wrong_kind = λ t c x i n. refl;
  gap = λ t. refl;
  old = λ t. refl;
  old_between = λ t. refl;
  twice = λ t. refl;
  paused = λ a b. refl;
  counts = λ a b. refl;
  redo_counts = λ a b. refl;
  cleared = λ a b c. refl;
  sets = refl;
  unsets = refl;
  moves = refl;
  not_there = refl;
  told = λ b. refl;
  told_gap = λ b. refl;
  told_early = λ b. refl;
  other_state = refl;
  pings = λ v k l. refl;
  bad = λ v k l. refl;
  bad_field = λ v k l. refl;
  no_hello = λ v k l. refl;
  fetches = λ v k a l. refl;
  foreign = λ v k l ms. refl;
  gapped = λ v k l ms. refl;
  not_its_key = λ v k l h. refl;
  no_key = λ v k l h. refl;
  sessions_full = λ v k l h. refl;
  room_full = λ v k l ms u. refl;
  may_not = λ v k l os. refl;
  goes_on = λ v h i. goes_on v h i;
  elsewhere = λ v h. elsewhere v h;
  before_the_event = λ v u e os h i. before_the_event v u e os h i;
  one_part = λ vs h. one_part vs h;
  two_parts = λ vs v h. two_parts vs v h;
  commit_old = λ w v k u. refl;
  commit_new = λ w v k u. refl;
  commit_torn = λ w v k u. refl;
  commit_done = λ w v k u how. refl;
  compaction = λ w v how. refl;
  compaction_done = λ w v how h. ap (λ g. (g, Some (record { left = 1; how = how }))) h;
  starts = λ w how. refl;
}
