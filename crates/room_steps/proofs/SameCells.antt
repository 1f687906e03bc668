-- Where two trees agree on the cells of operations, these cells are the same on both, and what takes the operations back.
use Rattle.std.proofs.Common.{◌≡◌, cond, not, List, [], ◌∷◌, ◌++◌, Option, Some, None, refl, sym, ap, ◌∙◌}
use Rattle.std.specs.FinMap.{get}
use Rattle.room_ids.specs.declared.ids.NodeId.{NodeId}
use Rattle.room_nodes.specs.Cells.{Agrees, cells_all, create_reads, delete_reads, meets, reads, set_key_reads, writes, writes_all}
use Rattle.room_nodes.specs.Shape.{Nodes, IsFormed}
use Rattle.room_nodes.specs.Steps.{fold, holds_list, step}
use Rattle.room_nodes.specs.declared.cells.Cell.TheVariants.{Node as NodeOf, All}
use Rattle.room_nodes.specs.declared.nodes.Body.{Body}
use Rattle.room_nodes.specs.declared.nodes.Body.TheVariants.{SetKey, Create, Update, Delete, DeleteKey}
use Rattle.room_nodes.specs.declared.nodes.Node.{Node}
use Rattle.room_nodes.proofs.Fitting.{both, not_true}
use Rattle.room_nodes.proofs.Gets.{some_inj, some_none}
use Rattle.room_nodes.proofs.Steps.{formed-step, formed-fold}
use Rattle.room_steps.specs.Laws.{CellsStay, SameOnCells}
use Rattle.room_steps.proofs.Agreement.{create_both, delete_by, local, set_key_by}
use Rattle.room_steps.proofs.Alike.{Alike, by_alike, holds_list_same, parent_alike}
use Rattle.room_steps.proofs.Commuting.{agrees_first, agrees_off, agrees_rest, framed_fold, kept_fold, ordered_matched}
use Rattle.room_steps.proofs.Covering.{Agrees-append}
use Rattle.room_steps.proofs.Undoing.{reversals_same}

module _ (t u : Nodes) (f : IsFormed t) (g : IsFormed u) where
  set_key_same : (x : NodeId) (o w : Option Node) → Alike o w → Agrees t u (set_key_reads t x o) → set_key_reads t x o ≡ set_key_reads u x w
  set_key_same x None None e h = refl
  set_key_same x None (Some m) e h = absurd (some_none _ (sym e))
  set_key_same x (Some n) None e h = absurd (some_none _ e)
  set_key_same x (Some n) (Some m) e h =
      let above = parent_alike n m (some_inj _ _ e) in
      let list : holds_list (get t n.parent) ≡ holds_list (get u m.parent) = holds_list_same _ _ h.1.0 ∙ ap (λ p. holds_list (get u p)) above in
      ap (λ b. NodeOf x ∷ NodeOf n.parent ∷ cond b (All n.parent ∷ []) []) list ∙ ap (λ p. NodeOf x ∷ NodeOf p ∷ cond (holds_list (get u m.parent)) (All p ∷ []) []) above

  reads_same : (b : Body) → Agrees t u (reads t b) → reads t b ≡ reads u b
  reads_same (SetKey x k) h = set_key_same x (get t x) (get u x) (set_key_by t u f g x (get t x) refl h).node h
  reads_same (Create x p k r kind) h = ap (create_reads x p r) (holds_list_same _ _ (create_both t u f g x p r _ h).1)
  reads_same (Update x fs) h = refl
  reads_same (Delete x) h = by_alike (delete_reads x) (λ n m e. ap (λ p. NodeOf x ∷ NodeOf p ∷ []) (parent_alike n m e)) (get t x) (get u x) (delete_by t u f g x (get t x) refl h).node
  reads_same (DeleteKey x k) h = refl

  cells_same : (b : Body) → Agrees t u (reads t b ++ writes t b) → reads t b ++ writes t b ≡ reads u b ++ writes u b
  cells_same b h = ap (λ ds. ds ++ writes t b) (reads_same b (Agrees-append t u (reads t b) (writes t b) h).0) ∙ ap (λ ds. reads u b ++ ds) (local t u f g b h).cells

all_cells_same : (t u : Nodes) → IsFormed t → IsFormed u → (bs : List Body) → Agrees t u (cells_all t bs) → cells_all t bs ≡ cells_all u bs
all_cells_same t u f g [] h = refl
all_cells_same t u f g (b ∷ bs) h =
    ap (λ ds. ds ++ cells_all (step t b) bs) (cells_same t u f g b (agrees_first t u f g b bs h))
    ∙ ap (λ ds. (reads u b ++ writes u b) ++ ds) (all_cells_same (step t b) (step u b) (formed-step t f b) (formed-step u g b) bs (agrees_rest t u f g b bs h))

pub same_on_cells : SameOnCells
same_on_cells = record {
  cells = λ t u bs f g h. sym (all_cells_same t u f g bs h);
  writes = λ t u bs f g h. sym (kept_fold t u f g bs h).1;
  reversal = λ t u bs f g o p h. sym (reversals_same t u f g (ordered_matched t u o p) bs h);
}

pub cells_stay : CellsStay
cells_stay t bs cs f apart =
    let off = not_true _ (both (not (meets (writes_all t bs) (cells_all t cs))) _ apart).0 in
    sym (all_cells_same t (fold t bs) f (formed-fold t f bs) cs (agrees_off t (fold t bs) (writes_all t bs) (framed_fold t f bs) (cells_all t cs) off))
