-- The notices of a settled operation, by the tree before it alone.
use Rattle.std.specs.Prelude.{ℕ, if◌then◌else◌, List, [], ◌∷◌, ◌++◌, Option, Some, None}
use Rattle.std.specs.FinMap.{get}
use Rattle.room_ids.specs.declared.ids.NodeId.{NodeId}
use Rattle.room_nodes.specs.Shape.{Nodes}
use Rattle.room_nodes.specs.Steps.{holds_list, is_under}
use Rattle.room_nodes.specs.declared.nodes.Kind.{Kind}
use Rattle.room_nodes.specs.declared.nodes.Node.{Node}
use Rattle.room_nodes.specs.declared.nodes.Body.{Body}
use Rattle.room_nodes.specs.declared.nodes.Body.TheVariants.{SetKey, Create, Update, Delete, DeleteKey}
use Rattle.room_model.specs.Notices.{Place, Notice, Take, Insert, Move, path_of, alone, keyed, holds_map}
use Rattle.room_model.specs.Notices.{body_notices, index_in}
use Rattle.room_notice.specs.Ranks.{rank}

-- the child that a create takes out of a list
abbrev pub out_of : Nodes → NodeId → Option NodeId → Option NodeId
out_of t p None = None
out_of t p (Some x) = if is_under p x (get t x) then Some x else None

-- it leaves the list at the end of a path
abbrev pub taken : Nodes → NodeId → List Place → Option NodeId → List Notice
taken t p path None = []
taken t p path (Some x) = Take path (index_in t p x) ∷ []

abbrev pub created : Nodes → NodeId → List ℕ → Option NodeId → Kind → List Notice
created t p k r kind =
    if holds_list (get t p)
    then taken t p (path_of t p) (out_of t p r) ++ Insert (path_of t p) (rank t p k (out_of t p r)) (alone kind) ∷ []
    else keyed (holds_map (get t p)) (path_of t p) ((k, alone kind) ∷ []) [] ∷ []

abbrev pub moved : Nodes → NodeId → List ℕ → Option Node → List Notice
moved t x k None = []
moved t x k (Some n) = Move (path_of t n.parent) (index_in t n.parent x) (rank t n.parent k (Some x)) ∷ []

-- those of an update and of what goes don't ask for the tree behind them
abbrev pub told : Nodes → Body → List Notice
told t (SetKey x k) = moved t x k (get t x)
told t (Create x p k r kind) = created t p k r kind
told t (Update x fs) = body_notices t t (Update x fs)
told t (Delete x) = body_notices t t (Delete x)
told t (DeleteKey x k) = body_notices t t (DeleteKey x k)
