-- Edits fitted to the fields that an object has by now go back from there.
use Rattle.std.proofs.Common.{◌≡◌, ◌≢◌, ◌+◌, ◌++◌, inl, inr, ℕ, Bool, true, false, cond, not, List, [], ◌∷◌, Option}
use Rattle.std.proofs.Common.{Some, None}
use Rattle.std.proofs.Common.{is_some, refl, sym, ap, ◌∙◌, subst}
use Rattle.std.specs.Cmp.Lexicographic.{slice_cmp}
use Rattle.std.specs.FinMap.{get, find, remove, insert}
use Rattle.std.specs.Ordering.{nat_cmp, eq_by_cmp}
use Rattle.room_json.specs.Value.{Value}
use Rattle.room_ids.specs.declared.ids.NodeId.{NodeId}
use Rattle.room_nodes.specs.Cells.{Agrees}
use Rattle.room_nodes.specs.Primitives.{fields_in}
use Rattle.room_nodes.specs.Shape.{Nodes, IsFormed}
use Rattle.room_nodes.specs.Turns.{turned}
use Rattle.room_nodes.specs.declared.cells.Cell.{Cell}
use Rattle.room_nodes.specs.declared.nodes.Node.{Node}
use Rattle.room_nodes.specs.declared.turns.Turn.{Turn}
use Rattle.room_nodes.specs.declared.turns.Turn.TheVariants.{Put, Cut, Fields, Key}
use Rattle.room_nodes.proofs.Fitting.{some_of}
use Rattle.room_nodes.proofs.Gets.{get_beside, get_here, get_other, get_without, one_or_two, true_false}
use Rattle.room_nodes.proofs.StepForm.{at_node, object_there}
use Rattle.room_steps.proofs.Alike.{some_same}
use Rattle.room_steps.proofs.Changing.{found_in}
use Rattle.room_steps.proofs.Covering.{on_node}
use Rattle.room_steps.proofs.Fields.{beside_put, beside_without, find_without, found_put, key_self, one_name, same_name}
use Rattle.room_apply.specs.Edits.{turned_all, CanTurnAll, some_turn, puts_in, cuts_in}
use Rattle.room_apply.specs.Ways.{Way, GoesBack, backs, before, fitted, fitted_fields, fitted_in, object_in}
use Rattle.room_apply.specs.Ways.{object_of, or_old, set_by}
use Rattle.room_apply.specs.Within.{FieldsOf, AreMoves, IsOfFields, IsTaking, RunsIn, is_name}
use Rattle.room_apply.proofs.AgainAll.{again_all}
use Rattle.room_apply.proofs.AllTurns.{agrees_stay, same_moves, turns_too}
use Rattle.room_apply.proofs.Going.{taking_moves}
use Rattle.room_apply.proofs.Lists.{append_runs, runs_append, runs_can, turned_append, puts_append, cuts_append}
use Rattle.room_apply.proofs.OneTurn.{fields_stay, fields_within, hold_too}

-- what is found in the fitted fields: under a name what was there before, else what is there now

set_here : (o : Option Value) (k : List ℕ) (gs : FieldsOf) → find (slice_cmp nat_cmp) k (set_by o k gs) ≡ o
set_here None k gs = find_without k k gs ∙ ap (λ b. cond (not b) (find (slice_cmp nat_cmp) k gs) None) (key_self k)
set_here (Some v) k gs = found_put k v gs

set_other : (o : Option Value) (j k : List ℕ) (gs : FieldsOf) → j ≢ k
    → find (slice_cmp nat_cmp) j (set_by o k gs) ≡ find (slice_cmp nat_cmp) j gs
set_other None j k gs n = beside_without j k gs (λ e. n (sym e))
set_other (Some v) j k gs n = beside_put j k v gs n

-- once a name has its old value, it keeps it
kept_old : (ns fs gs : FieldsOf) (j : List ℕ) → find (slice_cmp nat_cmp) j gs ≡ find (slice_cmp nat_cmp) j fs
    → find (slice_cmp nat_cmp) j (fitted_fields ns fs gs) ≡ find (slice_cmp nat_cmp) j fs
kept_old [] fs gs j e = e
kept_old (n ∷ ns) fs gs j e = kept_old ns fs (set_by (find (slice_cmp nat_cmp) n.0 fs) n.0 gs) j
    (elim (one_name j n.0) [
      | inl is ↦ ap (λ i. find (slice_cmp nat_cmp) i (set_by (find (slice_cmp nat_cmp) n.0 fs) n.0 gs)) is
          ∙ set_here (find (slice_cmp nat_cmp) n.0 fs) n.0 gs ∙ ap (λ i. find (slice_cmp nat_cmp) i fs) (sym is)
      | inr d ↦ set_other (find (slice_cmp nat_cmp) n.0 fs) j n.0 gs d ∙ e
    ])

later : (j k : List ℕ) (v : Value) (ns : FieldsOf) → j ≢ k → is_name j ((k, v) ∷ ns) ≡ is_name j ns
later j k v ns d = by_eq (eq_by_cmp (slice_cmp nat_cmp) j k) refl
  where
    by_eq : (b : Bool) → eq_by_cmp (slice_cmp nat_cmp) j k ≡ b
        → is_some (cond b (Some v) (find (slice_cmp nat_cmp) j ns)) ≡ is_name j ns
    by_eq true e = absurd (d (same_name j k e))
    by_eq false e = refl

pub fit_named : (ns fs gs : FieldsOf) (j : List ℕ) → is_name j ns ≡ true
    → find (slice_cmp nat_cmp) j (fitted_fields ns fs gs) ≡ find (slice_cmp nat_cmp) j fs
fit_named [] fs gs j e = cc
fit_named (n ∷ ns) fs gs j e = elim (one_name j n.0) [
  | inl is ↦ kept_old ns fs (set_by (find (slice_cmp nat_cmp) n.0 fs) n.0 gs) j
      (ap (λ i. find (slice_cmp nat_cmp) i (set_by (find (slice_cmp nat_cmp) n.0 fs) n.0 gs)) is
      ∙ set_here (find (slice_cmp nat_cmp) n.0 fs) n.0 gs ∙ ap (λ i. find (slice_cmp nat_cmp) i fs) (sym is))
  | inr d ↦ fit_named ns fs (set_by (find (slice_cmp nat_cmp) n.0 fs) n.0 gs) j (sym (later j n.0 n.1 ns d) ∙ e)
]

pub fit_other : (ns fs gs : FieldsOf) (j : List ℕ) → is_name j ns ≡ false
    → find (slice_cmp nat_cmp) j (fitted_fields ns fs gs) ≡ find (slice_cmp nat_cmp) j gs
fit_other [] fs gs j e = refl
fit_other (n ∷ ns) fs gs j e = elim (one_name j n.0) [
  | inl is ↦ absurd (true_false (sym (ap (λ b. is_some (cond b (Some n.1) (find (slice_cmp nat_cmp) j ns)))
      (ap (eq_by_cmp (slice_cmp nat_cmp) j) (sym is) ∙ key_self j)) ∙ e))
  | inr d ↦ fit_other ns fs (set_by (find (slice_cmp nat_cmp) n.0 fs) n.0 gs) j (sym (later j n.0 n.1 ns d) ∙ e)
      ∙ set_other (find (slice_cmp nat_cmp) n.0 fs) j n.0 gs d
]

-- what takes the last change back leaves the fields of an object that is there then

module _ (t : Nodes) (x : NodeId) where
  key_fields : (y : NodeId) (k : List ℕ) (n : Node) → get t y ≡ Some n
      → fields_in (get (turned t (Key y k)) x) ≡ fields_in (get t x)
  key_fields y k n there =
      ap (λ (v : Nodes). fields_in (get v x)) (at_node t y (λ v. record v { key = k }) n there)
      ∙ elim (one_or_two x y) [
        | inl i ↦ ap (λ z. fields_in (get (insert t y (record n { key = k })) z)) i
            ∙ ap fields_in (get_here t y (record n { key = k })) ∙ sym (ap fields_in there)
            ∙ ap (λ z. fields_in (get t z)) (sym i)
        | inr d ↦ ap fields_in (get_other t y (record n { key = k }) x d)
      ]

  cut_fields : (y : NodeId) → is_some (get (remove t y) x) ≡ true → fields_in (get (remove t y) x) ≡ fields_in (get t x)
  cut_fields y there = elim (one_or_two x y) [
    | inl i ↦ absurd (true_false (sym there ∙ ap (λ z. is_some (get (remove t y) z)) i ∙ ap is_some (get_without t y)))
    | inr d ↦ ap fields_in (get_beside t y x d)
  ]

  pub taken_fields : (o : Option Turn) → CanTurnAll t (some_turn o) → IsTaking o
      → is_some (get (turned_all t (some_turn o)) x) ≡ true
      → fields_in (get (turned_all t (some_turn o)) x) ≡ fields_in (get t x)
  taken_fields None can h there = refl
  taken_fields (Some (Put y n)) can h there = absurd h
  taken_fields (Some (Cut y)) can h there = cut_fields y there
  taken_fields (Some (Fields y fs)) can h there = absurd h
  taken_fields (Some (Key y k)) can h there = let n = some_of (get t y) can.0.there in key_fields y k n.0 n.1

-- from u the edits go back; v agrees with u on the cells

module _ (cs : List Cell) (ns : FieldsOf) (u v : Nodes) (f : IsFormed u) (h : IsFormed v) (agree : Agrees u v cs) where
  pub record IsFit (es ds : List Turn) : Type 0 where
    pub runs : RunsIn cs ns v ds
    pub agrees : Agrees (turned_all u es) (turned_all v ds) cs

  -- what is done after changes that agree
  pub fit_then : (es ds rest : List Turn) → IsFit es ds → RunsIn cs ns u es → AreMoves rest
      → RunsIn cs ns (turned_all u es) rest → IsFit (rest ++ es) (rest ++ ds)
  fit_then es ds rest a runs moves more =
      let fu = (again_all u f es (runs_can cs ns u es runs)).formed in
      let fv = (again_all v h ds (runs_can cs ns v ds a.runs)).formed in
      let r = turns_too cs ns (turned_all u es) (turned_all v ds) fu fv a.agrees rest more
      (same_moves _ _ rest moves) in
      record {
        runs = append_runs cs ns v rest ds r.runs a.runs;
        agrees = subst (λ (w : Nodes). Agrees w (turned_all v (rest ++ ds)) cs) (sym (turned_append u rest es))
            (subst (λ (w : Nodes). Agrees (turned_all (turned_all u es) rest) w cs)
            (sym (turned_append v rest ds)) r.agrees);
      }

  fit_last : (o : Option Turn) → IsTaking o → RunsIn cs ns u (some_turn o) → IsFit (some_turn o) (some_turn o)
  fit_last o m runs =
      let r = turns_too cs ns u v f h agree (some_turn o) runs (same_moves u v (some_turn o) (taking_moves o m)) in
      record { runs = r.runs; agrees = r.agrees }

  fit_fields : (o l : Option Turn) → IsOfFields o → IsTaking l → RunsIn cs ns u (some_turn o ++ some_turn l)
      → IsFit (some_turn l) (some_turn l)
      → IsFit (some_turn o ++ some_turn l) (some_turn (or_old (fitted_in ns v o) o) ++ some_turn l)
  fit_fields None l k m runs a = a
  fit_fields (Some (Put y n)) l k m runs a = absurd k
  fit_fields (Some (Cut y)) l k m runs a = absurd k
  fit_fields (Some (Key y n)) l k m runs a = absurd k
  fit_fields (Some (Fields x fs)) l k m runs a =
      let u2 = turned_all u (some_turn l) in
      let v2 = turned_all v (some_turn l) in
      let fu = (again_all u f (some_turn l) (runs_can cs ns u (some_turn l) runs.1)).formed in
      let fv = (again_all v h (some_turn l) (runs_can cs ns v (some_turn l) a.runs)).formed in
      let hs = fitted_fields ns fs (fields_in (get v x)) in
      let there : is_some (get u2 x) ≡ true = (let n = object_there (get u2 x) runs.0.0.object in ap is_some n.1) in
      let here : is_some (get v2 x) ≡ true = sym (some_same _ _ (on_node u2 v2 x cs a.agrees runs.0.1.node)) ∙ there in
      let same : fields_in (get v2 x) ≡ fields_in (get v x) = taken_fields v x l
      (runs_can cs ns v (some_turn l) a.runs) m here in
      let named = fit_named ns fs (fields_in (get v x)) in
      let other : (j : List ℕ) → is_name j ns ≡ false → find (slice_cmp nat_cmp) j hs ≡ found_in j (get v2 x) =
      λ j e. fit_other ns fs (fields_in (get v x)) j e ∙ ap (find (slice_cmp nat_cmp) j) (sym same) in
      record {
        runs = (
          (
            hold_too cs ns u2 v2 fu fv a.agrees x fs hs runs.0.0 runs.0.1 named other,
            fields_within cs ns u2 v2 fu
                fv a.agrees x fs hs runs.0.0 runs.0.1 named other,
          ),
          a.runs,
        );
        agrees = agrees_stay u2 v2 (turned u2 (Fields x fs)) (turned v2 (Fields x hs))
            (fields_stay cs ns u2 v2 fu fv a.agrees x fs hs runs.0.0 runs.0.1 named other) cs a.agrees;
      }

pub back_fit : (cs : List Cell) (u v : Nodes) (e : Way) (g : GoesBack cs u e) (h : IsFormed v) (agree : Agrees u v cs)
    → IsFit cs e.names u v g.formed h agree (backs e) (backs (fitted v e))
back_fit cs u v e g h agree =
    let a = runs_append cs e.names u e.done (some_turn e.fields ++ some_turn e.last) g.runs in
    let b = runs_append cs e.names u (some_turn e.fields) (some_turn e.last) a.1 in
    let last = fit_last cs e.names u v g.formed h agree e.last g.last b.1 in
    let two = fit_fields cs e.names u v g.formed h agree e.fields e.last g.fields g.last a.1 last in
    fit_then cs e.names u v g.formed h agree (some_turn e.fields ++ some_turn e.last)
    (some_turn (or_old (fitted_in e.names v e.fields) e.fields) ++ some_turn e.last) e.done two a.1 g.moves a.0

fields_fit : (ns : FieldsOf) (v : Nodes) (o : Option Turn) → IsOfFields o → IsOfFields (or_old (fitted_in ns v o) o)
fields_fit ns v None h = tt
fields_fit ns v (Some (Put x n)) h = absurd h
fields_fit ns v (Some (Cut x)) h = absurd h
fields_fit ns v (Some (Fields x fs)) h = tt
fields_fit ns v (Some (Key x k)) h = absurd h

pub goes_fit : (cs : List Cell) (u v : Nodes) (e : Way) → GoesBack cs u e → IsFormed v → Agrees u v cs
    → GoesBack cs v (fitted v e)
goes_fit cs u v e g h agree = record {
  formed = h;
  undone = g.undone;
  moves = g.moves;
  fields = fields_fit e.names v e.fields g.fields;
  last = g.last;
  runs = (back_fit cs u v e g h agree).runs;
}

pub before_fit : (cs : List Cell) (u v : Nodes) (e : Way) → GoesBack cs u e → IsFormed v → Agrees u v cs
    → Agrees (before u e) (before v (fitted v e)) cs
before_fit cs u v e g h agree = (back_fit cs u v e g h agree).agrees

-- nothing else changes

object_fit : (ns : FieldsOf) (v : Nodes) (o : Option Turn) → object_in (or_old (fitted_in ns v o) o) ≡ object_in o
object_fit ns v None = refl
object_fit ns v (Some (Put x n)) = refl
object_fit ns v (Some (Cut x)) = refl
object_fit ns v (Some (Fields x fs)) = refl
object_fit ns v (Some (Key x k)) = refl

pub fit_object : (v : Nodes) (e : Way) → object_of (fitted v e) ≡ object_of e
fit_object v e = object_fit e.names v e.fields

counts_in : (ns : FieldsOf) (v : Nodes) (o : Option Turn)
    → (puts_in (some_turn (or_old (fitted_in ns v o) o)) ≡ puts_in (some_turn o))
    × (cuts_in (some_turn (or_old (fitted_in ns v o) o)) ≡ cuts_in (some_turn o))
counts_in ns v None = (refl, refl)
counts_in ns v (Some (Put x n)) = (refl, refl)
counts_in ns v (Some (Cut x)) = (refl, refl)
counts_in ns v (Some (Fields x fs)) = (refl, refl)
counts_in ns v (Some (Key x k)) = (refl, refl)

pub fit_turned : (v : Nodes) (e : Way) → (puts_in (backs (fitted v e)) ≡ puts_in (backs e))
    × (cuts_in (backs (fitted v e)) ≡ cuts_in (backs e))
fit_turned v e =
    let fs = some_turn (or_old (fitted_in e.names v e.fields) e.fields) in
    let c = counts_in e.names v e.fields in (
      puts_append e.done (fs ++ some_turn e.last) ∙ ap (λ n. puts_in e.done + n) (puts_append fs (some_turn e.last)
          ∙ ap (λ n. n + puts_in (some_turn e.last)) c.0 ∙ sym (puts_append (some_turn e.fields) (some_turn e.last)))
          ∙ sym (puts_append e.done (some_turn e.fields ++ some_turn e.last)),
      cuts_append e.done (fs ++ some_turn e.last) ∙ ap (λ n. cuts_in e.done + n) (cuts_append fs (some_turn e.last)
          ∙ ap (λ n. n + cuts_in (some_turn e.last)) c.1 ∙ sym (cuts_append (some_turn e.fields) (some_turn e.last)))
          ∙ sym (cuts_append e.done (some_turn e.fields ++ some_turn e.last)),
    )
