-- A turn of the server is the model's turn of the events, and where it leads.
use Rattle.std.proofs.Common.{◌≡◌, ◌≤◌, ◌+◌, ◌-◌, ℕ, Bool, true, false, cond, List, [], ◌∷◌, ◌++◌, length, refl}
use Rattle.std.proofs.Common.{sym, ap, ◌∙◌, subst, arith, append-nil, Option, Some, None}
use Rattle.std.specs.Prelude.{is_some}
use Rattle.std.specs.Cmp.{nat_cmp_total}
use Rattle.std.specs.Ordering.{nat_cmp}
use Rattle.std.specs.FinMap.{FinMap, get, remove, len, len-remove, empty_of_len, get-empty}
use Rattle.room_hub.specs.declared.hub.Event.{Event}
use Rattle.room_hub.specs.declared.hub.Event.TheVariants as event
use Rattle.room_host.proofs.Serving.{serve_follows}
use Rattle.room_log.specs.Log.{State, Entry, Join, Updated, after, state_after, updates_of}
use Rattle.room_msg.specs.Frame.{client_frame_in}
use Rattle.room_model.specs.Server.{Server, Served, Link, opened_at, gone, gone_at, serve, left_to}
use Rattle.room_model.specs.World.{entries_in, state_with}
use Rattle.room_arrivals.specs.Serving.{listed}
use Rattle.room_server.specs.Turn as program
use Rattle.room_server.specs.declared.arrivals.Came.{Came}
use Rattle.room_server.specs.declared.arrivals.Came.TheVariants as came
use Rattle.room_serving.specs.Serving.{Ending, goners, group_of, treat}
use Rattle.room_serving.specs.Turns as model
use Rattle.room_serving.specs.Turns.{Turned, arrive, turned}
use Rattle.room_turns.specs.Gathering.{event_of, events_of}
use Rattle.room_turns.specs.Parts.{trying}

-- the program's turn

abbrev pub as_model : program.Turned → Turned
as_model t = record { server = t.server; outs = t.outs; entries = t.entries }

one : (v : Server) (c : Came) → program.takes v c ≡ arrive v (event_of c)
one v (came.Opened k key) = refl
one v (came.Frame k text) = refl
one v (came.Gone k) = refl

listed_is : (o : Option Entry) → listed o ≡ entries_in o
listed_is None = refl
listed_is (Some e) = refl

then_same : (x y : Served) (cs : List Came) → x ≡ y
    → as_model (program.turned x.server cs) ≡ turned x.server (events_of cs)
    → as_model (program.then_turned x (program.turned x.server cs))
    ≡ model.then_turned y (turned y.server (events_of cs))
then_same x y cs same rest =
    ap (λ (es : List Entry). record {
      server = (program.turned x.server cs).server;
      outs = x.outs ++ (program.turned x.server cs).outs;
      entries = es ++ (program.turned x.server cs).entries;
    }) (listed_is x.entry)
    ∙ ap (λ (t : Turned). model.then_turned x t) rest
    ∙ ap (λ (z : Served). model.then_turned z (turned z.server (events_of cs))) same

pub same_turn : (v : Server) (cs : List Came) → as_model (program.turned v cs) ≡ turned v (events_of cs)
same_turn v [] = refl
same_turn v (c ∷ cs) =
    then_same (program.takes v c) (arrive v (event_of c)) cs (one v c) (same_turn (program.takes v c).server cs)

-- where it leads

opened_state : (v : Server) (k key : ℕ) (o : Option Link) → (opened_at v k key o).state ≡ v.state
opened_state v k key None = refl
opened_state v k key (Some l) = refl

gone_none : (v : Server) (k : ℕ) (o : Option Link) → (gone_at v k o).entry ≡ None
gone_none v k None = refl
gone_none v k (Some l) = refl

gone_state : (v : Server) (k : ℕ) (o : Option Link) → (gone_at v k o).server.state ≡ v.state
gone_state v k None = refl
gone_state v k (Some l) = refl

with_is : (s : State) (o : Option Entry) → state_with s o ≡ state_after s (entries_in o)
with_is s None = refl
with_is s (Some e) = refl

arrives : (v : Server) (e : Event) → (arrive v e).server.state ≡ state_after v.state (entries_in (arrive v e).entry)
arrives v (event.Opened k key) = opened_state v k key (get v.links k)
arrives v (event.Frame k text) =
    serve_follows v k (client_frame_in text) ∙ with_is v.state (serve v k (client_frame_in text)).entry
arrives v (event.Gone k) =
    gone_state v k (get v.links k)
    ∙ ap (λ (o : Option Entry). state_after v.state (entries_in o)) (sym (gone_none v k (get v.links k)))
arrives v event.Quiet = refl
arrives v event.End = refl

pub after_append : (s : State) (es fs : List Entry) → state_after s (es ++ fs) ≡ state_after (state_after s es) fs
after_append s [] fs = refl
after_append s (e ∷ es) fs = after_append (after s e) es fs

pub turned_state : (v : Server) (es : List Event)
    → (turned v es).server.state ≡ state_after v.state (turned v es).entries
turned_state v [] = refl
turned_state v (e ∷ es) =
    let out = arrive v e in
    turned_state out.server es ∙ ap (λ (s : State). state_after s (turned out.server es).entries) (arrives v e)
    ∙ sym (after_append v.state (entries_in out.entry) (turned out.server es).entries)

pub program_state : (v : Server) (cs : List Came)
    → (program.turned v cs).server.state ≡ state_after v.state (program.turned v cs).entries
program_state v cs =
    subst (λ (t : Turned). t.server.state ≡ state_after v.state t.entries) (sym (same_turn v cs))
    (turned_state v (events_of cs))

-- the number of updates

after_count : (s : State) (es : List Entry) → (state_after s es).count ≡ s.count + length (updates_of es)
after_count s [] = omega arith
after_count s (Join actor key name ∷ es) = after_count (after s (Join actor key name)) es
after_count s (Updated u ∷ es) =
    let rest = after_count (after s (Updated u)) es in
    omega (arith, rest)

pub turned_count : (v : Server) (es : List Event)
    → (turned v es).server.state.count ≡ v.state.count + length (updates_of (turned v es).entries)
turned_count v es =
    ap (λ (s : State). s.count) (turned_state v es) ∙ after_count v.state (turned v es).entries

-- connections that are gone add nothing

pub goners_none : (v : Server) (ks : List ℕ) → (turned v (goners ks)).entries ≡ []
goners_none v [] = refl
goners_none v (k ∷ ks) =
    ap (λ (o : Option Entry). entries_in o ++ (turned (gone v k).server (goners ks)).entries)
    (gone_none v k (get v.links k))
    ∙ goners_none (gone v k).server ks

pub goners_state : (v : Server) (ks : List ℕ) → (turned v (goners ks)).server.state ≡ v.state
goners_state v ks =
    turned_state v (goners ks) ∙ ap (λ (es : List Entry). state_after v.state es) (goners_none v ks)

-- each that sends something is one that was attached

abbrev pub weight : {A : Type 0} → List A → ℕ
weight [] = 0
weight (x ∷ xs) = 1

weight_then : {A : Type 0} (xs ys : List A) → weight (xs ++ ys) ≤ weight xs + weight ys
weight_then [] ys = omega arith
weight_then (x ∷ xs) ys = omega arith

weight_most : {A : Type 0} (xs : List A) → weight xs ≤ 1
weight_most [] = omega arith
weight_most (x ∷ xs) = omega arith

cond_true : {A : Type 0} (b : Bool) (x y : A) → b ≡ true → cond b x y ≡ x
cond_true true x y e = refl
cond_true false x y e = cc

some_there : (m : FinMap nat_cmp Link) (k : ℕ) (l : Link) → get m k ≡ Some l → len m ≡ 0 → ⊥
some_there m k l e none =
    let at : get m k ≡ None = ap (λ (n : FinMap nat_cmp Link). get n k) (empty_of_len m none) ∙ get-empty nat_cmp k in
    cc (e, at)

removed : (m : FinMap nat_cmp Link) (k : ℕ) (l : Link) → get m k ≡ Some l → len (remove m k) + 1 ≡ len m
removed m k l e =
    let less : len (remove m k) ≡ len m - 1 =
    len-remove nat_cmp_total m k ∙ cond_true (is_some (get m k)) (len m - 1) (len m) (ap (λ (o : Option Link). is_some o) e) in
    let some : len m ≡ 0 → ⊥ = some_there m k l e in
    omega (arith, less, some)

gone_less : (v : Server) (k : ℕ) (o : Option Link) → get v.links k ≡ o
    → len (gone_at v k o).server.links + weight (gone_at v k o).outs ≤ len v.links
gone_less v k None e = omega arith
gone_less v k (Some l) e =
    omega (arith, removed v.links k l e, weight_most (left_to v.links k l.actor))

pub goners_less : (v : Server) (ks : List ℕ)
    → len (turned v (goners ks)).server.links + weight (turned v (goners ks)).outs ≤ len v.links
goners_less v [] = omega arith
goners_less v (k ∷ ks) =
    omega (
      arith,
      gone_less v k (get v.links k) refl,
      goners_less (gone v k).server ks,
      weight_then (gone v k).outs (turned (gone v k).server (goners ks)).outs,
    )

-- what the model does with losses

group_none : (es : List Entry) → es ≡ [] → group_of es ≡ []
group_none [] e = refl
group_none (x ∷ es) e = cc

pub treat_is : (v : Server) (left : ℕ) (ending : Ending) (groups : List (List Entry)) (owed : ℕ) (ks : List ℕ)
    → treat (trying v left ending [] [] groups owed) [] ks
    ≡ trying (turned v (goners ks)).server left ending (turned v (goners ks)).outs [] groups owed
treat_is v left ending groups owed [] = refl
treat_is v left ending groups owed (k ∷ ks) =
    let out = turned v (goners (k ∷ ks)) in
    ap (λ (gs : List (List Entry)). trying out.server left ending out.outs [] gs owed)
    (ap (λ (gs : List (List Entry)). groups ++ gs) (group_none out.entries (goners_none v (k ∷ ks)))
    ∙ append-nil groups)
