-- The sample run, move by move.
use Rattle.std.proofs.Common.{◌≡◌, ◌+◌, ℕ, Bool, true, false, List, [], ◌∷◌, ◌++◌, refl, sym, ap, ◌∙◌, subst, arith}
use Rattle.std.specs.Prelude.{Option, Some, pos, codes, ⊤, IsUtf8}
use Rattle.std.specs.Char.{encode_utf8}
use Rattle.std.specs.FinMap.{get, find}
use Rattle.std.specs.Ordering.{nat_cmp}
use Rattle.std.specs.Fmt.{digits}
use Rattle.json.specs.Print.{escape_byte}
use Rattle.room_json.specs.Value.{Value}
use Rattle.room_ids.specs.Ids.{node_text, stamp_text}
use Rattle.room_ids.specs.declared.ids.NodeId.TheVariants.{Root}
use Rattle.room_nodes.specs.Shape.{Nodes, empty_tree, bare_root}
use Rattle.room_nodes.specs.Reversal.{reverse_all}
use Rattle.room_nodes.specs.Steps.{step}
use Rattle.room_nodes.specs.declared.nodes.Body.{Body}
use Rattle.room_nodes.specs.declared.nodes.Body.TheVariants.{DeleteKey}
use Rattle.room_items.specs.Items.{items_of, tree_in}
use Rattle.room_json.specs.Profile.{IsWhole}
use Rattle.room_steps.proofs.Shallow.{keeps_shallow}
use Rattle.room_steps.proofs.Sound.{keeps_sound}
use Rattle.room_log.specs.Log.{empty_state}
use Rattle.room_log.specs.Laws.{ValidAfter}
use Rattle.room_log.proofs.ValidStates.{valid_after}
use Rattle.room_model.specs.Account.{Account, Batch, Synced, actor, frame_of, issued, shown}
use Rattle.room_model.specs.Lines.{Line}
use Rattle.room_model.specs.Run.{Run, all_given}
use Rattle.room_model.specs.Server.{parts_of}
use Rattle.room_model.specs.Sound.{IsClient, IsLine}
use Rattle.room_model.specs.World as World
use Rattle.room_laws.specs.Sample.{IsLoaded, IsStill, Sample, WaitsDown, WaitsUp, before_stop, down, enters, from_edit, from_stop, greets, joins, number, numbered, sample_batch}
use Rattle.room_laws.specs.Sample.{resend, sets, up}
use Rattle.room_laws.specs.Sample.{sample_body, sample_lines, sample_run, sample_tree, stopped_run, stopped_tree, tree_with, welcomed_run}
use Rattle.room_laws.specs.Validity.{AreLines, AreSpelled}
use Rattle.room_laws.specs.Invariant.{conn, conn_in}
use Rattle.room_laws.proofs.Listed.{get_M}
use Rattle.room_laws.proofs.RootTrees.{at_root, one_part, read_again, root_with, set_field, taken_back}
use Rattle.room_laws.proofs.SceneMoves.{Scene, R, Act, Dial, Flush, Resend, Make, Up, Fetch, Down, Load, Restart, AllMay, account_is, all_go, all_may, all_went, both_may, conn_is}
use Rattle.room_laws.proofs.SceneTests.{next_down}
use Rattle.room_laws.proofs.Scenes.{V}

abbrev pub first_scene : Scene
first_scene = record {
  state = empty_state;
  links = [];
  clients = [];
  conns = [];
  opened = 0;
  log = [];
  issued = [];
  given = [];
}

-- the tree after the first edit

abbrev pub first_fields : List (List ℕ × Value)
first_fields = (codes "a", number 1) ∷ []

abbrev pub first_tree : Nodes
first_tree = step empty_tree (sample_body (codes "a") 1)

pub first_is : first_tree ≡ tree_with first_fields
first_is = set_field [] (codes "a") (number 1)

one_empty : parts_of (items_of empty_tree) ≡ (items_of empty_tree, false) ∷ []
one_empty = one_part []

read_empty : tree_in (items_of empty_tree) ≡ Some empty_tree
read_empty = read_again []

at_empty : get empty_tree Root ≡ Some bare_root
at_empty = at_root []

one_first : parts_of (items_of first_tree) ≡ (items_of first_tree, false) ∷ []
one_first = subst (λ (t : Nodes). parts_of (items_of t) ≡ (items_of t, false) ∷ []) (sym first_is) (one_part first_fields)

read_first : tree_in (items_of first_tree) ≡ Some first_tree
read_first = subst (λ (t : Nodes). tree_in (items_of t) ≡ Some t) (sym first_is) (read_again first_fields)

at_first : get first_tree Root ≡ Some (root_with first_fields)
at_first = ap (λ (t : Nodes). get t Root) first_is ∙ at_root first_fields

-- what takes the edits back

abbrev pub back_a : List Body
back_a = DeleteKey Root (codes "a") ∷ []

abbrev back_b : List Body
back_b = DeleteKey Root (codes "b") ∷ []

pub a_back : reverse_all empty_tree (sample_body (codes "a") 1 ∷ []) ≡ back_a
a_back = taken_back [] (codes "a") (number 1) refl

b_back : reverse_all first_tree (sample_body (codes "b") 2 ∷ []) ≡ back_b
b_back =
    ap (λ (t : Nodes). reverse_all t (sample_body (codes "b") 2 ∷ [])) first_is
    ∙ taken_back first_fields (codes "b") (number 2) refl

-- the moves

abbrev pub joining : List Act
joining =
    Dial 1 ∷ Up 1 ∷ Down 1 ∷ Up 1 ∷ Fetch 1 ∷ Load 1 empty_tree
    ∷ Dial 2 ∷ Up 2 ∷ Down 2 ∷ Up 2 ∷ Fetch 2 ∷ Load 2 empty_tree
    ∷ Down 1 ∷ Down 1 ∷ Up 1 ∷ Down 2 ∷ []

pub may_joining : AllMay first_scene joining
unfolding digits escape_byte node_text stamp_text
may_joining = all_may first_scene joining refl (one_empty, (read_empty, (one_empty, (read_empty, tt))))

abbrev pub joined_scene : Scene
joined_scene = all_go first_scene joining

abbrev pub first_edit : Act
first_edit = Make 1 (codes "a") 1 empty_tree [] back_a

abbrev pub editing : List Act
editing = Flush 1 ∷ Up 1 ∷ Down 1 ∷ Down 2 ∷ Make 2 (codes "b") 2 first_tree first_fields back_b ∷ Flush 2 ∷ []

pub may_editing : AllMay joined_scene (first_edit ∷ editing)
unfolding digits escape_byte node_text stamp_text
may_editing = all_may joined_scene (first_edit ∷ editing) refl ((refl, at_empty, a_back), ((refl, at_first, b_back), tt))

abbrev pub stopping_scene : Scene
stopping_scene = all_go joined_scene (first_edit ∷ editing)

abbrev pub returning : List Act
returning =
    Restart ∷ Dial 1 ∷ Up 3 ∷ Down 3 ∷ Up 3 ∷ Fetch 3 ∷ Load 3 first_tree
    ∷ Dial 2 ∷ Up 4 ∷ Down 4 ∷ Up 4 ∷ Fetch 4 ∷ Load 4 first_tree
    ∷ Down 3 ∷ Down 3 ∷ Up 3 ∷ Down 4
    ∷ Resend 2 ∷ Up 4 ∷ Up 4 ∷ Down 3 ∷ Down 4 ∷ []

pub may_returning : AllMay stopping_scene returning
unfolding digits escape_byte node_text stamp_text
may_returning = all_may stopping_scene returning refl (one_first, (read_first, (one_first, (read_first, tt))))

abbrev pub last_scene : Scene
last_scene = all_go stopping_scene returning

-- what they lead to

pub to_stop : stopped_run ≡ R stopping_scene
to_stop = all_went first_scene (joining ++ first_edit ∷ editing) 1 (both_may first_scene joining (first_edit ∷ editing) may_joining may_editing)

pub to_end : sample_run ≡ R last_scene
to_end = all_went first_scene (joining ++ first_edit ∷ editing ++ returning) 1
    (both_may first_scene (joining ++ first_edit ∷ editing) returning (both_may first_scene joining (first_edit ∷ editing) may_joining may_editing) may_returning)

-- the trees

pub second_is : step first_tree (sample_body (codes "b") 2) ≡ sample_tree
second_is = ap (λ (t : Nodes). step t (sample_body (codes "b") 2)) first_is ∙ set_field first_fields (codes "b") (number 2)

-- a client of a run, from that of its scene
module _ (r : Run) (x : Scene) (e : r ≡ R x) (c : ℕ) where
  abbrev pub held : Account
  held = (World.slot_in (find nat_cmp c x.clients)).account

  pub is_held : World.account r.world c ≡ held
  is_held = ap (λ (q : Run). World.account q.world c) e ∙ account_is x c

  pub loaded : (n : ℕ) (t u a b : Nodes) (waiting : List Batch) → all_given c (actor held) x.given ≡ true → held.stage ≡ Synced
      → held.confirmed ≡ Some a → shown held ≡ Some b → held.n ≡ n → issued held ≡ waiting → a ≡ t → b ≡ u
      → IsLoaded r c n t waiting u
  loaded n t u a b waiting alone stage holds shows taken batches p q = record {
    undisturbed = (λ i. all_given c (actor (is_held i)) (e i).given) ∙ alone;
    stage = ap (λ (y : Account). y.stage) is_held ∙ stage;
    confirmed = ap (λ (y : Account). y.confirmed) is_held ∙ holds ∙ ap Some p;
    shown = ap shown is_held ∙ shows ∙ ap Some q;
    taken = ap (λ (y : Account). y.n) is_held ∙ taken;
    issued = ap issued is_held ∙ batches;
  }

pub first_stopped : IsLoaded stopped_run 1 1 stopped_tree [] stopped_tree
first_stopped = loaded stopped_run stopping_scene to_stop 1 1 stopped_tree stopped_tree first_tree first_tree []
    refl refl refl refl refl refl first_is first_is

pub second_stopped : IsLoaded stopped_run 2 1 stopped_tree (sample_batch (codes "b") 2 ∷ []) sample_tree
second_stopped = loaded stopped_run stopping_scene to_stop 2 1 stopped_tree sample_tree first_tree
    (step first_tree (sample_body (codes "b") 2)) (sample_batch (codes "b") 2 ∷ []) refl refl refl refl refl refl first_is second_is

pub first_last : IsLoaded sample_run 1 2 sample_tree [] sample_tree
first_last = loaded sample_run last_scene to_end 1 2 sample_tree sample_tree
    (step first_tree (sample_body (codes "b") 2)) (step first_tree (sample_body (codes "b") 2)) []
    refl refl refl refl refl refl second_is second_is

pub second_last : IsLoaded sample_run 2 2 sample_tree [] sample_tree
second_last = loaded sample_run last_scene to_end 2 2 sample_tree sample_tree
    (step first_tree (sample_body (codes "b") 2)) (step first_tree (sample_body (codes "b") 2)) []
    refl refl refl refl refl refl second_is second_is

-- what waits

abbrev welcomed_scene : Scene
welcomed_scene = all_go first_scene (Dial 1 ∷ Up 1 ∷ [])

to_welcome : welcomed_run ≡ R welcomed_scene
to_welcome = all_went first_scene (Dial 1 ∷ Up 1 ∷ []) 1 (may_joining.0, (may_joining.1.0, tt))

welcome_waits : WaitsDown welcomed_run 1 1
welcome_waits = record {
  present = ap (λ (r : Run). (World.slot r.world 1).present) to_welcome
      ∙ ap (λ (o : Option World.Slot). (World.slot_in o).present) (get_M welcomed_scene.clients 1);
  message = next_down (conn_in (find nat_cmp 1 welcomed_scene.conns)).outbound;
  behind = [];
  outbound = ap (λ (r : Run). (conn r.world 1).outbound) to_welcome
      ∙ ap (λ (q : World.Conn). q.outbound) (conn_is welcomed_scene 1);
}

still : (k : ℕ) (q : World.Conn) → find nat_cmp k last_scene.conns ≡ Some q → q.inbound ≡ [] → q.outbound ≡ [] → IsStill sample_run k
still k q there inbound outbound =
    let at : conn sample_run.world k ≡ q = ap (λ (r : Run). conn r.world k) to_end ∙ conn_is last_scene k ∙ ap conn_in there in
    record { inbound = ap (λ (p : World.Conn). p.inbound) at ∙ inbound; outbound = ap (λ (p : World.Conn). p.outbound) at ∙ outbound }

-- a connection on which nothing waits
abbrev bare : ℕ → Bool → World.Conn
bare c listens = record { owner = Some c; inbound = []; outbound = []; listens = listens }

all_still : IsStill sample_run 1 × IsStill sample_run 2 × IsStill sample_run 3 × IsStill sample_run 4
all_still = (still 1 (bare 1 false) refl refl refl, still 2 (bare 2 false) refl refl refl, still 3 (bare 1 true) refl refl refl, still 4 (bare 2 true) refl refl refl)

second_waits : WaitsUp stopped_run 2 2 (frame_of 2 (sample_batch (codes "b") 2))
second_waits = record {
  server = V stopping_scene.state stopping_scene.links;
  runs = ap (λ (r : Run). r.world.host) to_stop;
  owner = ap (λ (r : Run). (conn r.world 2).owner) to_stop ∙ ap (λ (q : World.Conn). q.owner) (conn_is stopping_scene 2);
  inbound = ap (λ (r : Run). (conn r.world 2).inbound) to_stop ∙ ap (λ (q : World.Conn). q.inbound) (conn_is stopping_scene 2);
}

-- the lines

abbrev two_edits : List Line
two_edits = sets 1 (codes "a") 1 ∷ from_edit

abbrev pub AllLines : List Line → Type 0
AllLines [] = ⊤
AllLines (l ∷ ls) = IsLine l × AllLines ls

pub all_append : (ls ms : List Line) → AllLines ls → AllLines ms → AllLines (ls ++ ms)
all_append [] ms h k = k
all_append (l ∷ ls) ms h k = (h.0, all_append ls ms h.1 k)

pub spelled : (n : ℕ) (ls : List Line) → AllLines ls → AreSpelled (numbered n ls)
spelled n [] h = tt
spelled n (l ∷ ls) h = (h.0, spelled (n + 1) ls h.1)

enters_are : (c k : ℕ) → IsClient c → AllLines (enters c k)
enters_are c k h = ((h, tt), (tt, (tt, (tt, (tt, (tt, tt))))))

greets_are : (j k : ℕ) → AllLines (greets j k)
greets_are j k = (tt, (tt, (tt, (tt, tt))))

pub client_1 : IsClient 1
client_1 = (omega arith, omega arith)

client_2 : IsClient 2
client_2 = (omega arith, omega arith)

pub sets_are : (c : ℕ) (name : List ℕ) (n : ℕ) → IsClient c → IsUtf8 name → IsWhole (pos n) → IsLine (sets c name n)
sets_are c name n h k w = (h, (tt, k, w))

pub name_a : IsUtf8 (codes "a")
unfolding encode_utf8
name_a = (codes "a", (refl, refl))

name_b : IsUtf8 (codes "b")
unfolding encode_utf8
name_b = (codes "b", (refl, refl))

pub one_whole : IsWhole (pos 1)
one_whole = (omega arith, omega arith)

two_whole : IsWhole (pos 2)
two_whole = (omega arith, omega arith)

edits_are : AllLines two_edits
edits_are = (
  sets_are 1 (codes "a") 1 client_1 name_a one_whole,
  (
    (client_1, tt),
    (
      tt,
      (
        tt,
        (
          tt,
          (sets_are 2 (codes "b") 2 client_2 name_b two_whole, ((client_2, tt), tt)),
        ),
      ),
    ),
  ),
)

pub enter_both : (j k : ℕ) → AllLines (enters 1 j ++ enters 2 k ++ greets j k)
enter_both j k =
    all_append (enters 1 j ++ enters 2 k) (greets j k)
    (all_append (enters 1 j) (enters 2 k) (enters_are 1 j client_1) (enters_are 2 k client_2)) (greets_are j k)

pub before_are : AllLines before_stop
before_are = all_append joins two_edits (enter_both 1 2) edits_are

pub from_are : AllLines from_stop
from_are = (
  tt,
  (
    tt,
    all_append (enters 1 3 ++ enters 2 4 ++ greets 3 4) (resend 2 ∷ up 4 ∷ up 4 ∷ down 3 ∷ down 4 ∷ [])
        (enter_both 3 4) ((client_2, tt), (tt, (tt, (tt, (tt, tt))))),
  ),
)

pub lines_are : AreLines sample_lines
lines_are = record {
  spelled = spelled 1 (before_stop ++ from_stop) (all_append before_stop from_stop before_are from_are);
  fewer = omega arith;
}

valid : ValidAfter
valid = valid_after keeps_sound keeps_shallow

pub sample : Sample
sample = record {
  valid = valid.empty;
  lines = lines_are;
  welcome_waits = welcome_waits;
  stopped = ap (λ (r : Run). r.log) to_stop;
  first_stopped = first_stopped;
  second_stopped = second_stopped;
  second_waits = second_waits;
  log = ap (λ (r : Run). r.log) to_end;
  first = first_last;
  second = second_last;
  still = all_still;
  issued = ap (λ (r : Run). r.issued) to_end;
  given = ap (λ (r : Run). r.given) to_end;
}
