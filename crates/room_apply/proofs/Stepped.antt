-- The edits of a step, of what it removed and what was left then.
use Rattle.std.proofs.Common.{◌≡◌, ◌≤◌, ◌+◌, ◌++◌, ℕ, false, cond, List, [], ◌∷◌}
use Rattle.std.proofs.Common.{length}
use Rattle.std.proofs.Common.{Option, Some, None, refl, sym, ap, ◌∙◌, subst, arith}
use Rattle.std.specs.FinMap.{get, len}
use Rattle.room_ids.specs.declared.ids.NodeId.{NodeId}
use Rattle.room_nodes.specs.Cells.{effect_cells, writes}
use Rattle.room_nodes.specs.Shape.{Nodes, IsFormed}
use Rattle.room_nodes.specs.Steps.{effect, is_void, settled_body, step}
use Rattle.room_nodes.specs.declared.cells.Cell.{Cell}
use Rattle.room_nodes.specs.declared.nodes.Body.{Body}
use Rattle.room_nodes.specs.declared.nodes.Node.{Node}
use Rattle.room_nodes.specs.declared.turns.Turn.{Turn}
use Rattle.room_nodes.specs.declared.turns.Turn.TheVariants.{Put, Cut, Fields, Key}
use Rattle.room_nodes.proofs.Fitting.{none_of, some_of}
use Rattle.room_nodes.proofs.Gets.{get_here, get_other, some_none}
use Rattle.room_nodes.proofs.StepForm.{at_node, object_there}
use Rattle.room_nodes.proofs.Steps.{formed-step}
use Rattle.room_steps.proofs.Agreement.{framed}
use Rattle.room_steps.proofs.Operations.{writes_by}
use Rattle.room_steps.proofs.Touching.{Framed}
use Rattle.room_apply.specs.Edits.{turned_all, reverse_all, CanTurnAll, HasPlaces, places_all, some_turn, puts_in}
use Rattle.room_apply.specs.Edits.{cuts_in, IsUndo}
use Rattle.room_apply.specs.Left.{lefts}
use Rattle.room_apply.specs.Ways.{backs}
use Rattle.room_apply.specs.Ways.{Way, AreEdits, GoesBack, before, made_by, node_count, nodes_of, object_in}
use Rattle.room_apply.specs.Ways.{owner_by, put_by, removed_by, stepped}
use Rattle.room_apply.specs.Within.{FieldsOf, ArePuts, IsFreshIn, IsGiving, IsOfFields, IsWithin, RunsIn, cells}
use Rattle.room_apply.proofs.AgainAll.{again_all}
use Rattle.room_apply.proofs.AllTurns.{reverse_runs}
use Rattle.room_apply.proofs.Going.{count_is, fields_still, giving_takes, object_still, one_back}
use Rattle.room_apply.proofs.Gone.{place_gone}
use Rattle.room_apply.proofs.Lists.{append_runs, can_append, cuts_append, enough, len_all, puts_append, puts_move}
use Rattle.room_apply.proofs.Lists.{puts_only, reverse_append, reverse_counts, runs_can, spent}
use Rattle.room_apply.proofs.Lists.{turned_append}

pub live_step : (t : Nodes) (b c : Body) → is_void t b ≡ false → settled_body t b ≡ c → effect t c ≡ step t b
unfolding step
live_step t b c e s = ap (effect t) (sym s) ∙ sym (ap (λ v. cond v t (effect t (settled_body t b))) e)

-- a node that isn't there before what is left isn't there after it, unless it is put

fields_gone : (t : Nodes) (q : NodeId) (o : Option Turn) → IsOfFields o → CanTurnAll t (some_turn o) → get t q ≡ None
    → get (turned_all t (some_turn o)) q ≡ None
fields_gone t q None k can e = e
fields_gone t q (Some (Put x n)) k can e = absurd k
fields_gone t q (Some (Cut x)) k can e = absurd k
fields_gone t q (Some (Fields x fs)) k can e =
    let n = object_there (get t x) can.0.object in
    ap (λ (v : Nodes). get v q) (at_node t x _ n.0 n.1)
    ∙ get_other t x _ q (λ i. some_none n.0 (sym n.1 ∙ ap (get t) (sym i) ∙ e)) ∙ e
fields_gone t q (Some (Key x n)) k can e = absurd k

last_gone : (s t : Nodes) (q : NodeId) (n : Node) (o : Option Turn) → IsGiving o → IsFreshIn s o
    → CanTurnAll t (some_turn o) → get s q ≡ Some n → get t q ≡ None → get (turned_all t (some_turn o)) q ≡ None
last_gone s t q n None k fresh can there e = e
last_gone s t q n (Some (Put x m)) k fresh can there e =
    get_other t x m q (λ i. some_none n (sym there ∙ ap (get s) i ∙ none_of (get s x) fresh)) ∙ e
last_gone s t q n (Some (Cut x)) k fresh can there e = absurd k
last_gone s t q n (Some (Fields x fs)) k fresh can there e = absurd k
last_gone s t q n (Some (Key x j)) k fresh can there e =
    let m = some_of (get t x) can.0.there in
    ap (λ (v : Nodes). get v q) (at_node t x _ m.0 m.1)
    ∙ get_other t x _ q (λ i. some_none m.0 (sym m.1 ∙ ap (get t) (sym i) ∙ e)) ∙ e

-- nodes that are put one after the other stay
stay_put : (t : Nodes) (es : List Turn) → ArePuts es → CanTurnAll t es → (q : NodeId) (n : Node) → get t q ≡ Some n
    → get (turned_all t es) q ≡ Some n
stay_put t [] h can q n e = e
stay_put t (Put x m ∷ es) h can q n e =
    let r = stay_put t es h.1 can.1 q n e in
    get_other (turned_all t es) x m q (λ i. some_none n (sym r ∙ ap (get (turned_all t es)) i ∙ none_of _ can.0.fresh))
    ∙ r
stay_put t (Cut x ∷ es) h can q n e = absurd h.0
stay_put t (Fields x fs ∷ es) h can q n e = absurd h.0
stay_put t (Key x k ∷ es) h can q n e = absurd h.0

module _ (s w : Nodes) (cs : List Cell) (ns : FieldsOf) (places : (x : NodeId) (n : Node) → get s x ≡ Some n
    → get w x ≡ None → IsWithin cs ns w (Put x n)) where
  -- puts that lead from w to s run within the cells of the nodes of s that aren't in w
  puts_run : (es : List Turn) → ArePuts es → CanTurnAll w es
      → ((q : NodeId) (n : Node) → get (turned_all w es) q ≡ Some n → get s q ≡ Some n) → RunsIn cs ns w es
  puts_run [] h can up = tt
  puts_run (Put x n ∷ es) h can up =
      let v = turned_all w es in
      let new : get v x ≡ None = none_of (get v x) can.0.fresh in
      let none : get w x ≡ None = by_option (get w x) (λ m e. some_none m (sym (stay_put w es h.1 can.1 x m e)
      ∙ new)) in (
        (can.0, places x n (up x n (get_here v x n)) none),
        puts_run es h.1 can.1
            (λ q m e. up q m (get_other v x n q (λ i. some_none m (sym e ∙ ap (get v) i ∙ new)) ∙ e)),
      )
    where
      by_option : (o : Option Node) → ((m : Node) → o ≡ Some m → ⊥) → o ≡ None
      by_option None k = refl
      by_option (Some m) k = absurd (k m refl)
  puts_run (Cut x ∷ es) h can up = absurd h.0
  puts_run (Fields x fs ∷ es) h can up = absurd h.0
  puts_run (Key x k ∷ es) h can up = absurd h.0

fields_count : (o : Option Turn) → IsOfFields o → (puts_in (some_turn o) ≡ 0) × (cuts_in (some_turn o) ≡ 0)
fields_count None h = (refl, refl)
fields_count (Some (Put x n)) h = absurd h
fields_count (Some (Cut x)) h = absurd h
fields_count (Some (Fields x fs)) h = (refl, refl)
fields_count (Some (Key x k)) h = absurd h

giving_count : (o : Option Turn) → IsGiving o → cuts_in (some_turn o) ≡ 0
giving_count None h = refl
giving_count (Some (Put x n)) h = refl
giving_count (Some (Cut x)) h = absurd h
giving_count (Some (Fields x fs)) h = absurd h
giving_count (Some (Key x k)) h = refl

-- from t the nodes went that es puts again, w was left, and then fields and a last change
module _ (t : Nodes) (f : IsFormed t) (b : Body) (live : is_void t b ≡ false) (settled : settled_body t b ≡ b)
    (w : Nodes) (g : IsFormed w) (es : List Turn) (puts : ArePuts es) (can : CanTurnAll w es) (back : turned_all w es
    ≡ t)
    (fields last : Option Turn) (ns : FieldsOf) (runs : RunsIn (cells t b) ns w (lefts fields last))
    (leads : turned_all w (lefts fields last) ≡ effect t b)
    (of_fields : IsOfFields fields) (giving : IsGiving last) (fresh : IsFreshIn t last) (object : object_in fields
    ≡ owner_by t b) (count : node_count last ≡ made_by b) where
  abbrev u : Nodes
  u = effect t b

  abbrev e : Way
  e = stepped w es fields last ns

  is_step : u ≡ step t b
  is_step = live_step t b b live settled

  u_formed : IsFormed u
  u_formed = subst IsFormed (sym is_step) (formed-step t f b)

  u_framed : Framed t u (effect_cells t b)
  u_framed = subst (Framed t u) (writes_by t b false live) (subst (λ (v : Nodes). Framed t v (writes t b)) (sym is_step)
      (framed t f b))

  split : CanTurnAll (turned_all w (some_turn fields)) (some_turn last) × CanTurnAll w (some_turn fields)
  split = can_append w (some_turn last) (some_turn fields) (runs_can (cells t b) ns w (lefts fields last) runs)

  gone : (q : NodeId) (n : Node) → get t q ≡ Some n → get w q ≡ None → get u q ≡ None
  gone q n there none =
      ap (λ (v : Nodes). get v q) (sym leads ∙ turned_append w (some_turn last) (some_turn fields))
      ∙ last_gone t (turned_all w (some_turn fields)) q n last giving fresh split.0 there
      (fields_gone w q fields of_fields split.1 none)

  done_runs : RunsIn (cells t b) ns w es
  done_runs = puts_run t w (cells t b) ns (λ x n there none. place_gone t f b live u_formed u_framed x n there
      (gone x n there none)) es puts can
      (λ q n h. ap (λ (v : Nodes). get v q) (sym back) ∙ h)

  -- what takes back what was left
  abbrev rs : List Turn
  rs = some_turn e.fields ++ some_turn e.last

  rs_is : rs ≡ reverse_all w (lefts fields last)
  rs_is =
      ap (λ xs. xs ++ some_turn e.last) (one_back w fields)
      ∙ ap (λ xs. reverse_all w (some_turn fields) ++ xs) (one_back (turned_all w (some_turn fields)) last)
      ∙ sym (reverse_append w (some_turn last) (some_turn fields))

  back_is : turned_all u rs ≡ w
  back_is = ap (λ (v : Nodes). turned_all v rs) (sym leads) ∙ ap (turned_all (turned_all w (lefts fields last))) rs_is
      ∙ (again_all w g (lefts fields last) (runs_can (cells t b) ns w (lefts fields last) runs)).back

  rs_run : RunsIn (cells t b) ns u rs
  rs_run = subst (λ (v : Nodes). RunsIn (cells t b) ns v rs) leads
      (subst (RunsIn (cells t b) ns (turned_all w (lefts fields last))) (sym rs_is)
      (reverse_runs (cells t b) ns w g (lefts fields last) runs))

  goes : GoesBack (cells t b) u e
  goes = record {
    formed = u_formed;
    undone = refl;
    moves = puts_move es puts;
    fields = fields_still w fields of_fields;
    last = giving_takes (turned_all w (some_turn fields)) last giving;
    runs = append_runs (cells t b) ns u es rs (subst (λ (v : Nodes). RunsIn (cells t b) ns v es)
        (sym back_is) done_runs) rs_run;
  }

  before_is : before u e ≡ t
  before_is = turned_append u es rs ∙ ap (λ (v : Nodes). turned_all v es) back_is ∙ back

  -- how many nodes went and came

  abbrev put : ℕ
  put = made_by b

  put_is : put_by t b ≡ put
  put_is = ap (λ v. cond v 0 put) live

  left_puts : puts_in (lefts fields last) ≡ put
  left_puts =
      let a = puts_append (some_turn last) (some_turn fields) in
      let c = (fields_count fields of_fields).0 in
      let d = giving_count last giving in
      let k = count_is last in
      omega (arith, a, c, d, k, count)

  left_cuts : cuts_in (lefts fields last) ≡ 0
  left_cuts =
      let a = cuts_append (some_turn last) (some_turn fields) in
      let c = (fields_count fields of_fields).1 in
      let d = giving_count last giving in
      omega (arith, a, c, d)

  rs_counts : (puts_in rs ≡ 0) × (cuts_in rs ≡ put)
  rs_counts =
      let r = reverse_counts w (lefts fields last) (runs_can (cells t b) ns w (lefts fields last) runs) in
      (ap puts_in rs_is ∙ r.0 ∙ left_cuts, ap cuts_in rs_is ∙ r.1 ∙ left_puts)

  removed_is : length es ≡ removed_by t b
  removed_is =
      let a : len (turned_all w es) + cuts_in es ≡ len w + puts_in es = len_all w g es can in
      let p = puts_only es puts in
      let c : len (turned_all w es) ≡ len t = ap len back in
      let d : len (turned_all w (lefts fields last)) + cuts_in (lefts fields last)
      ≡ len w + puts_in (lefts fields last) = len_all w g (lefts fields last)
      (runs_can (cells t b) ns w (lefts fields last) runs) in
      let k : len (turned_all w (lefts fields last)) ≡ len (step t b) = ap len (leads ∙ is_step) in
      omega (arith, a, p.0, p.1, c, d, k, left_cuts, left_puts, put_is)

  last_count : node_count e.last ≡ put
  last_count = (let a = count_is e.last in
      let c = reverse_counts (turned_all w (some_turn fields)) (some_turn last) split.0 in
      let p : puts_in (some_turn e.last) ≡ cuts_in (some_turn last) = ap puts_in
      (one_back (turned_all w (some_turn fields)) last) ∙ c.0 in
      let q : cuts_in (some_turn e.last) ≡ puts_in (some_turn last) = ap cuts_in
      (one_back (turned_all w (some_turn fields)) last) ∙ c.1 in
      let k = count_is last in
      omega (arith, a, p, q, k, count))

  pub are_edits : AreEdits t b u e
  are_edits =
      let p = puts_only es puts in
      let a = puts_append es rs in
      let c = cuts_append es rs in
      record {
        goes = goes;
        can = runs_can (cells t b) ns u (backs e) goes.runs;
        before = before_is;
        object = object_still w fields ∙ object ∙ sym (ap (λ v. cond v None (owner_by t b)) live);
        removed = omega (arith, a, p.0, rs_counts.0, removed_is);
        put = omega (arith, c, p.1, rs_counts.1, put_is);
        nodes = omega (arith, last_count, removed_is, put_is);
      }

  pub can_left : CanTurnAll w (lefts fields last)
  can_left = runs_can (cells t b) ns w (lefts fields last) runs

  pub place_left : (d : ℕ) → length es + put + put ≤ d → HasPlaces d (lefts fields last)
  place_left d le = (enough d (lefts fields last) (omega (arith, left_puts, le))).0

  -- with d spare places once the nodes went
  pub spare_left : (d : ℕ) → length es + put + put ≤ d → nodes_of e ≤ places_all d (lefts fields last)
  spare_left d le =
      let a = (enough d (lefts fields last) (omega (arith, left_puts, le))).1 in
      omega (arith, a, le, left_puts, left_cuts, last_count)

  -- with s spare places once the nodes went, and d after more memory was taken
  pub sum_left : (a s d : ℕ) → IsUndo t a w s es → s ≤ d → length es + put + put ≤ d
      → len t + a ≤ len u + places_all d (lefts fields last)
  sum_left a s d undo more le =
      let x = (enough d (lefts fields last) (omega (arith, left_puts, le))).1 in
      let y = len_all w g (lefts fields last) can_left in
      let z = ap len leads in
      let p = len_all w g es can in
      let q = ap len back in
      let o = puts_only es puts in
      let r = spent s es undo.place in
      let k = undo.places in
      omega (arith, x, y, z, p, q, o.0, o.1, r, k, more, left_puts, left_cuts)

-- a settled operation b that isn't void was acted on t, with a spare places before and d after
pub record Acted (t : Nodes) (a : ℕ) (b : Body) (w : Nodes) (d : ℕ) (es : List Turn) (fields last : Option Turn)
    (ns : FieldsOf) : Type 0 where
  pub formed : IsFormed t
  pub live : is_void t b ≡ false
  pub settled : settled_body t b ≡ b
  pub left : IsFormed w
  pub undo : IsUndo t a w d es
  pub puts : ArePuts es
  pub runs : RunsIn (cells t b) ns w (lefts fields last)
  pub leads : turned_all w (lefts fields last) ≡ effect t b
  pub kinds : IsOfFields fields × (IsGiving last × IsFreshIn t last)
  pub object : object_in fields ≡ owner_by t b
  pub count : node_count last ≡ made_by b

module _ (t : Nodes) (a : ℕ) (b : Body) (w : Nodes) (d : ℕ) (es : List Turn) (fields last : Option Turn) (ns : FieldsOf)
    (x : Acted t a b w d es fields last ns) where
  enough_left : (c : ℕ) → length es + node_count last + node_count last ≤ c → length es + made_by b + made_by b ≤ c
  enough_left c le = subst (λ n. length es + n + n ≤ c) x.count le

  -- on the tree w2, which is w, with c spare places, what is left was done
  module _ (w2 : Nodes) (same : w2 ≡ w) (c : ℕ) (le : length es + node_count last + node_count last ≤ c)
      (es2 : List Turn) (items : es2 ≡ es)
      (u2 : Nodes) (is : u2 ≡ turned_all w2 (lefts fields last)) (c2 : ℕ) (spare : c2
      ≡ places_all c (lefts fields last)) (e2 : Way) (made : e2 ≡ stepped w2 es2 fields last ns) where
    left_is : u2 ≡ effect t b
    left_is = is ∙ ap (λ (v : Nodes). turned_all v (lefts fields last)) same ∙ x.leads

    edits_are : e2 ≡ stepped w es fields last ns
    edits_are = made ∙ ap (λ (v : Nodes). stepped v es2 fields last ns) same
        ∙ ap (λ ds. stepped w ds fields last ns) items

    pub acted_edits : AreEdits t b u2 e2
    acted_edits = subst (λ (v : Nodes). AreEdits t b v e2) (sym left_is)
        (subst (AreEdits t b (effect t b)) (sym edits_are)
        (are_edits t x.formed b x.live x.settled w x.left es x.puts x.undo.can x.undo.back fields last ns x.runs x.leads
        x.kinds.0 x.kinds.1.0 x.kinds.1.1 x.object x.count))

    pub acted_spare : nodes_of e2 ≤ c2
    acted_spare = subst (λ n. nodes_of e2 ≤ n) (sym spare)
        (subst (λ (e : Way). nodes_of e ≤ places_all c (lefts fields last)) (sym edits_are)
        (spare_left t x.formed b x.live x.settled w x.left es x.puts x.undo.can x.undo.back fields last ns x.runs
        x.leads x.kinds.0 x.kinds.1.0 x.kinds.1.1 x.object x.count c (enough_left c le)))

    pub acted_sum : d ≤ c → len t + a ≤ len u2 + c2
    acted_sum more = subst (λ n. len t + a ≤ len u2 + n) (sym spare)
        (subst (λ (v : Nodes). len t + a ≤ len v + places_all c (lefts fields last)) (sym left_is)
        (sum_left t x.formed b x.live x.settled w x.left es x.puts x.undo.can x.undo.back fields last ns x.runs x.leads
        x.kinds.0 x.kinds.1.0 x.kinds.1.1 x.object x.count a d c x.undo more (enough_left c le)))
