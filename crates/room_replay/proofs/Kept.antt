-- An operation that settlement leaves where it is.
use Rattle.std.proofs.Common.{◌≡◌, Bool, true, false, List, ℕ, refl, sym, ap, ◌∙◌}
use Rattle.std.specs.Prelude.{cond, ◌&&◌, Option, Some, None}
use Rattle.std.specs.Str.{bytes_eq}
use Rattle.room_ids.specs.declared.ids.NodeId.{NodeId}
use Rattle.room_nodes.specs.declared.nodes.Kind.{Kind}
use Rattle.room_nodes.specs.declared.nodes.Body.{Body}
use Rattle.room_nodes.specs.declared.nodes.Body.TheVariants.{SetKey, Create, Update, Delete, DeleteKey}
use Rattle.room_nodes.specs.Equal.{same_body, same_id_in}
use Rattle.room_nodes.specs.Shape.{Nodes}
use Rattle.room_nodes.specs.Steps.{settled_body, is_void}
use Rattle.room_nodes.proofs.Gets.{same_self}
use Rattle.room_log.proofs.Same.{body_same, kind_same}
use Rattle.room_tree.specs.declared.settling.Settled.{Settled}
use Rattle.room_tree.specs.declared.settling.Settled.TheVariants.{Same, Moved, Void}
use Rattle.room_tree.specs.Settlement.{settlement, settled_by, with_key}
use Rattle.room_tree.proofs.Placing.{settled_as}

pub same_again : (b : Body) → same_body b b ≡ true
same_again b = (body_same b b).1 refl

and_true : (b : Bool) → (b && true) ≡ b
and_true true = refl
and_true false = refl

id_in_again : (r : Option NodeId) → same_id_in r r ≡ true
id_in_again None = refl
id_in_again (Some x) = same_self x

pub create_at : (x p : NodeId) (z k : List ℕ) (r : Option NodeId) (kind : Kind)
    → same_body (Create x p z r kind) (Create x p k r kind) ≡ bytes_eq z k
create_at x p z k r kind = rw (same_self x, same_self p, id_in_again r, (kind_same kind kind).1 refl) (and_true (bytes_eq z k))

pub key_at : (x : NodeId) (z k : List ℕ) → same_body (SetKey x z) (SetKey x k) ≡ bytes_eq z k
key_at x z k = rw (same_self x) refl

-- each kind of operation, at a position

pub at_key : (b : Body) (x : NodeId) (z k : List ℕ) (e : Bool) → b ≡ SetKey x k → e ≡ bytes_eq z k → e ≡ same_body (with_key b z) b
at_key b x z k e is h = h ∙ sym (ap (λ c. same_body (with_key c z) c) is ∙ key_at x z k)

pub at_create : (b : Body) (x p : NodeId) (z k : List ℕ) (r : Option NodeId) (kind : Kind) (e : Bool) → b ≡ Create x p k r kind
    → e ≡ bytes_eq z k → e ≡ same_body (with_key b z) b
at_create b x p z k r kind e is h = h ∙ sym (ap (λ c. same_body (with_key c z) c) is ∙ create_at x p z k r kind)

-- an operation that has none
pub at_none : (b c : Body) (z : List ℕ) → b ≡ c → with_key c z ≡ c → true ≡ same_body (with_key b z) b
at_none b c z is kept = sym (ap (λ d. same_body (with_key d z) d) is ∙ ap (λ d. same_body d c) kept ∙ same_again c)

-- what settlement tells

live_inj : (v : Bool) (b c : Body) → cond v None (Some b) ≡ Some c → b ≡ c
live_inj true b c e = cc e
live_inj false b c e = cc e

pub settled_to : (t : Nodes) (b c : Body) (s : Settled) → settlement t b ≡ s → settled_by s b ≡ Some c → settled_body t b ≡ c
settled_to t b c s e h = live_inj (is_void t b) (settled_body t b) c (sym (settled_as t b) ∙ ap (λ v. settled_by v b) e ∙ h)

void_kept : (t : Nodes) (b : Body) → is_void t b ≡ true → settled_body t b ≡ b
void_kept t (SetKey x k) e = rw e refl
void_kept t (Create x p k r kind) e = rw e refl
void_kept t (Update x fs) e = refl
void_kept t (Delete x) e = refl
void_kept t (DeleteKey x k) e = refl

is_none : (v : Bool) (b : Body) → cond v None (Some b) ≡ None → v ≡ true
is_none true b e = refl
is_none false b e = cc e

void_is : (t : Nodes) (b : Body) → settlement t b ≡ Void → is_void t b ≡ true
void_is t b e = is_none (is_void t b) (settled_body t b) (sym (settled_as t b) ∙ ap (λ v. settled_by v b) e)

pub void_same : (t : Nodes) (b : Body) (s : Settled) → s ≡ settlement t b → s ≡ Void → true ≡ same_body (settled_body t b) b
void_same t b s e h = sym (ap (λ c. same_body c b) (void_kept t b (void_is t b (sym e ∙ h))) ∙ same_again b)

pub kept_same : (t : Nodes) (b : Body) (s : Settled) → s ≡ settlement t b → s ≡ Same → true ≡ same_body (settled_body t b) b
kept_same t b s e h = sym (ap (λ c. same_body c b) (settled_to t b b Same (sym e ∙ h) refl) ∙ same_again b)

pub moved_same : (t : Nodes) (b : Body) (s : Settled) (z : List ℕ) (r : Bool) → s ≡ settlement t b → s ≡ Moved z
    → r ≡ same_body (with_key b z) b → r ≡ same_body (settled_body t b) b
moved_same t b s z r e h is = is ∙ sym (ap (λ c. same_body c b) (settled_to t b (with_key b z) (Moved z) (sym e ∙ h) refl))
