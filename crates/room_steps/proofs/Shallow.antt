-- No step makes a tree's values deeper than those of the operation and of the tree.
use Rattle.std.proofs.Common.{◌≡◌, ℕ, true, List, [], ◌∷◌, nat_le, refl}
use Rattle.room_json.specs.Value.{Value, depth}
use Rattle.room_ids.specs.declared.ids.NodeId.{NodeId}
use Rattle.room_nodes.specs.declared.nodes.Node.{Node}
use Rattle.room_nodes.specs.declared.nodes.Kind.{Kind}
use Rattle.room_nodes.specs.declared.nodes.Body.{Body}
use Rattle.room_nodes.specs.declared.nodes.Body.TheVariants.{SetKey, Create, Update, Delete, DeleteKey}
use Rattle.room_nodes.specs.Shallow.{are_shallow, is_shallow_kind, is_shallow, AreShallow, IsShallowTree}
use Rattle.room_nodes.specs.Shape.{Nodes}
use Rattle.room_nodes.specs.Steps.{step, fold, settled_body, with_fields, without_field}
use Rattle.room_nodes.proofs.StepForm.{FieldsOf}
use Rattle.room_nodes.proofs.Fitting.{both}
use Rattle.room_steps.specs.Laws.{KeepsShallow}
use Rattle.room_steps.proofs.Booleans.{and_both}
use Rattle.room_steps.proofs.Keeping.{OfEach, Brings, Spares, each_with, each_without, of_kind, all_step, of_settled}

-- fields

abbrev Low : List ℕ → Value → Type 0
Low k v = nat_le (depth v) 55 ≡ true

each_low : (fs : FieldsOf) → are_shallow fs ≡ true → OfEach Low fs
each_low [] h = tt
each_low (f ∷ fs) h = let a = both (nat_le (depth f.1) 55) _ h in (a.0, each_low fs a.1)

low_each : (fs : FieldsOf) → OfEach Low fs → are_shallow fs ≡ true
low_each [] h = refl
low_each (f ∷ fs) h = and_both (nat_le (depth f.1) 55) _ h.0 (low_each fs h.1)

shallow_with : (es fs : FieldsOf) → are_shallow es ≡ true → are_shallow fs ≡ true → are_shallow (with_fields es fs) ≡ true
shallow_with es fs g h = low_each (with_fields es fs) (each_with Low (λ j k v w l m. m) es fs (each_low es g) (each_low fs h))

shallow_without : (k : List ℕ) (fs : FieldsOf) → are_shallow fs ≡ true → are_shallow (without_field k fs) ≡ true
shallow_without k fs h = low_each (without_field k fs) (each_without Low k fs (each_low fs h))

-- nodes and operations

abbrev IsLowKind : Kind → Type 0
IsLowKind kind = is_shallow_kind kind ≡ true

abbrev IsLow : NodeId → Node → Type 0
IsLow x n = IsLowKind n.kind

spares : Spares IsLow
spares x k n h = of_kind IsLowKind (without_field k) (shallow_without k) n.kind h

brings : (b : Body) → is_shallow b ≡ true → Brings IsLow b
brings (SetKey x k) h = λ n m. m
brings (Create x p k r kind) h = λ d. h
brings (Update x fs) h = λ n m. of_kind IsLowKind (with_fields fs) (λ gs g. shallow_with fs gs h g) n.kind m
brings (Delete x) h = tt
brings (DeleteKey x k) h = tt

shallow_settled : (t : Nodes) (b : Body) → is_shallow b ≡ true → is_shallow (settled_body t b) ≡ true
shallow_settled t b h = of_settled (λ (c : Body). is_shallow c ≡ true) t (λ x k e s. s) (λ x p k r kind e s. s) b h

shallow_step : (t : Nodes) (b : Body) → IsShallowTree t → is_shallow b ≡ true → IsShallowTree (step t b)
shallow_step t b h s = all_step IsLow spares t b h (brings (settled_body t b) (shallow_settled t b s))

pub shallow-fold : (t : Nodes) (bs : List Body) → IsShallowTree t → AreShallow bs → IsShallowTree (fold t bs)
shallow-fold t [] h s = h
shallow-fold t (b ∷ bs) h s = shallow-fold (step t b) bs (shallow_step t b h s.0) s.1

pub keeps_shallow : KeepsShallow
keeps_shallow = record { settled = shallow_settled; step = shallow_step; fold = shallow-fold }
