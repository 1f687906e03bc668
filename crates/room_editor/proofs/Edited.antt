-- What an edit makes of an account, by what it makes of operations.
use Rattle.std.proofs.Common.{◌≡◌, ◌≤◌, ◌<◌, ◌+◌, ◌++◌, ◌∙◌, ℕ, Bool, true, false, if◌then◌else◌, nat_lt, List, [], ◌∷◌}
use Rattle.std.proofs.Common.{Option, Some, None, IfOk, refl, sym, ap, arith}
use Rattle.std.specs.Prelude.{Result, Ok, Err}
use Rattle.std.proofs.lemmas.Bool.Decides.{nat_tests}
use Rattle.room_nodes.specs.declared.nodes.Body.{Body}
use Rattle.room_nodes.specs.declared.nodes.Change.{Change}
use Rattle.room_nodes.specs.Shape.{Nodes}
use Rattle.room_log.specs.Log.{bodies_of, ops_from}
use Rattle.room_model.specs.Account.{Account, OpenBatch, shown, open_ops, most_bytes}
use Rattle.room_model.specs.Calls.{edit, edit_on, edit_made, edit_sized, edited, edited_in, changes_back}
use Rattle.room_model.specs.Calls.{tree_or_bare}
use Rattle.room_model.specs.Edits as model
use Rattle.room_model.specs.Edits.{Edit, Made, Clocks, make}
use Rattle.room_model.specs.Notices.{Notice, notices_of_all}
use Rattle.room_props.specs.Edits.{IsFaultOf, IsMade, HaveRoom, made_of, clocks_of}
use Rattle.room_props.specs.declared.editing.Made.{Made as MadeHere}
use Rattle.room_props.specs.declared.editing.Clocks.{Clocks as ClocksHere}
use Rattle.room_props.specs.declared.editing.EditFault.{EditFault}
use Rattle.room_props.specs.declared.editing.EditFault.TheVariants as fault
use Rattle.room_editor.specs.Editor.{done}
use Rattle.room_editor.specs.Making.{made_at, made_by, put_edit, IsSizeFault}
use Rattle.room_editor.specs.Sizes.{bytes_of, frame_bytes}
use Rattle.room_editor.proofs.Made.{made_runs, made_node}
use Rattle.room_editor.proofs.Sized.{sized}

-- what was made runs on, and its node clock stays in its bound

pub runs_ok : (t : Nodes) (c : Clocks) (e : Edit) (r : Result MadeHere EditFault) → IfOk r (IsMade (make t c e))
    → IfOk r (λ m. m.ops ≡ ops_from c.actor c.op (bodies_of m.ops))
runs_ok t c e (Ok m) h = made_runs t c e (made_of m) h
runs_ok t c e (Err f) h = tt

pub node_ok : (t : Nodes) (c : ClocksHere) (e : Edit) (r : Result MadeHere EditFault)
    → IfOk r (IsMade (make t (clocks_of c) e)) → HaveRoom c → IfOk r (λ m. m.next.node ≤ 9007199254740992)
node_ok t c e (Ok m) h room = made_node t (clocks_of c) e (made_of m) h room.node
node_ok t c e (Err f) h room = tt

-- a refusal

edit_is : (x : Account) (e : Edit) (o : Option Nodes) → edit_on x e o ≡ edit_made x (tree_or_bare o) (made_at x e o)
edit_is x e None = refl
edit_is x e (Some t) = refl

refused_by : (x : Account) (e : Edit) (f : model.EditFault) → made_by x e ≡ Err f → edit x e ≡ Err f
refused_by x e f h = edit_is x e (shown x) ∙ ap (edit_made x (tree_or_bare (shown x))) h

pub refused : (x : Account) (e : Edit) (f : EditFault) → IsFaultOf (made_by x e) f → IsFaultOf (edit x e) f
refused x e fault.Memory h = tt
refused x e fault.NotLoaded h = refused_by x e model.NotLoaded h
refused x e (fault.NoNode y) h = refused_by x e (model.NoNode y) h
refused x e (fault.WrongKind y) h = refused_by x e (model.WrongKind y) h
refused x e (fault.BadIndex i n) h = refused_by x e (model.BadIndex i n) h
refused x e (fault.ValueTooDeep d) h = refused_by x e (model.ValueTooDeep d) h
refused x e (fault.NodeTooDeep d) h = refused_by x e (model.NodeTooDeep d) h
refused x e (fault.PosTooLong n) h = refused_by x e (model.PosTooLong n) h
refused x e (fault.ClocksSpent l) h = refused_by x e (model.ClocksSpent l) h
refused x e (fault.BatchTooLarge b) h = refused_by x e (model.BatchTooLarge b) h

-- the size

sized_is : (x : Account) (e : Edit) (m : Made) → made_by x e ≡ Ok m
    → edit x e ≡ edit_sized x (tree_or_bare (shown x)) m (frame_bytes (bytes_of (open_ops x ++ m.ops)))
sized_is x e m h =
    edit_is x e (shown x) ∙ ap (edit_made x (tree_or_bare (shown x))) h
    ∙ ap (edit_sized x (tree_or_bare (shown x)) m) (sized (open_ops x ++ m.ops))

too_large : (x : Account) (t : Nodes) (m : Made) (size : ℕ) → 1048576 < size
    → edit_sized x t m size ≡ Err (model.BatchTooLarge size)
too_large x t m size l =
    let over : nat_lt most_bytes size ≡ true = grind (arith, nat_tests, l) in
    ap (λ (b : Bool). if b then Err (model.BatchTooLarge size) else Ok (edited x t m)) over

fits : (x : Account) (t : Nodes) (m : Made) (size : ℕ) → size ≤ 1048576 → edit_sized x t m size ≡ Ok (edited x t m)
fits x t m size l =
    let over : nat_lt most_bytes size ≡ false = grind (arith, nat_tests, l) in
    ap (λ (b : Bool). if b then Err (model.BatchTooLarge size) else Ok (edited x t m)) over

pub size_refused : (x : Account) (e : Edit) (m : Made) (f : EditFault) → made_by x e ≡ Ok m
    → IsSizeFault (frame_bytes (bytes_of (open_ops x ++ m.ops))) f → IsFaultOf (edit x e) f
size_refused x e m fault.Memory h s = tt
size_refused x e m fault.NotLoaded h s = absurd s
size_refused x e m (fault.NoNode y) h s = absurd s
size_refused x e m (fault.WrongKind y) h s = absurd s
size_refused x e m (fault.BadIndex i n) h s = absurd s
size_refused x e m (fault.ValueTooDeep d) h s = absurd s
size_refused x e m (fault.NodeTooDeep d) h s = absurd s
size_refused x e m (fault.PosTooLong n) h s = absurd s
size_refused x e m (fault.ClocksSpent l) h s = absurd s
size_refused x e m (fault.BatchTooLarge b) h s =
    sized_is x e m h
    ∙ too_large x (tree_or_bare (shown x)) m (frame_bytes (bytes_of (open_ops x ++ m.ops))) s.1
    ∙ ap (λ n. Err (model.BatchTooLarge n)) (sym s.0)

-- where the operations go

put_is : (x : Account) (t : Nodes) (m : Made) (bs : List Body) (o : Option OpenBatch)
    → put_edit x bs (changes_back t bs) m.next.node o ≡ edited_in x t m bs o
put_is x t m bs (Some o) = refl
put_is x t m [] None = refl
put_is x t m (b ∷ bs) None = refl

pub edit_done : (x y : Account) (e : Edit) (m : Made) (back : List Change) (ns : List Notice) → made_by x e ≡ Ok m
    → frame_bytes (bytes_of (open_ops x ++ m.ops)) ≤ 1048576
    → back ≡ changes_back (tree_or_bare (shown x)) (bodies_of m.ops)
    → y ≡ put_edit x (bodies_of m.ops) back m.next.node x.batch
    → ns ≡ notices_of_all (tree_or_bare (shown x)) (bodies_of m.ops)
    → done (edit x e) ≡ Ok (record { account = y; notices = ns })
edit_done x y e m back ns h small is to says =
    let t = tree_or_bare (shown x) in
    let same : edited_in x t m (bodies_of m.ops) x.batch ≡ y =
    sym (to ∙ ap (λ (cs : List Change). put_edit x (bodies_of m.ops) cs m.next.node x.batch) is
    ∙ put_is x t m (bodies_of m.ops) x.batch) in
    ap done (sized_is x e m h ∙ fits x t m (frame_bytes (bytes_of (open_ops x ++ m.ops))) small)
    ∙ (λ i. Ok (record { account = same i; notices = sym says i }))
