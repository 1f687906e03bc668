-- What a state and an update make of an account, by what they make of the overlay.
use Rattle.std.proofs.Common.{◌≡◌, ◌∙◌, ℕ, Bool, true, false, ◌||◌, not, if◌then◌else◌}
use Rattle.std.proofs.Common.{List, [], ◌∷◌, length, drop, IfOk, refl, sym, ap}
use Rattle.std.specs.Prelude.{Result, Ok, Err}
use Rattle.room_json.specs.Value.{Value}
use Rattle.room_items.specs.View.{view}
use Rattle.room_nodes.specs.declared.nodes.Op.{Op}
use Rattle.room_nodes.specs.Equal.{are_first}
use Rattle.room_nodes.specs.Shape.{Nodes}
use Rattle.room_nodes.specs.Steps.{fold}
use Rattle.room_log.specs.Log.{bodies_of}
use Rattle.room_model.specs.Account.{is_some_list}
use Rattle.room_model.specs.Notices.{Notice, Reset, notices_of_all}
use Rattle.room_model.specs.Sound.{RunsOn}
use Rattle.room_notice.specs.Notices.{notices_in}
use Rattle.room_notice.specs.declared.shapes.Notice.{Notice as NoticeHere}
use Rattle.room_overlay.specs.Over.{Over, pending, shown, load, update, stands_apart}
use Rattle.room_editor.specs.Taking.{notices_with, state_shows, update_shows}
use Rattle.room_editor.proofs.Pending.{bodies_drop, state_shown, update_shown}

pub load_notices : (o p : Over) (n last : ℕ) (t : Nodes) (ns : List Notice) → RunsOn o.told o.issued
    → load o n last t ≡ Ok p → ns ≡ Reset (view (state_shows o last t)) ∷ [] → ns ≡ Reset (view (shown p)) ∷ []
load_notices o p n last t ns runs h is =
    is ∙ ap (λ (u : Nodes). Reset (view u) ∷ []) (sym (state_shown o p n last t runs h))

pub update_notices : (o p : Over) (n : ℕ) (os : List Op) (ns : List Notice) → RunsOn o.told o.issued
    → update o n os ≡ Ok p → ns ≡ notices_with o os (update_shows o os) → ns ≡ notices_with o os (shown p)
update_notices o p n os ns runs h is =
    is ∙ ap (notices_with o os) (sym (update_shown o p n os runs h))

-- the notices of an update that is foreseen to make another view

first_false : (b c : Bool) (x y z : List Notice) → b ≡ false → c ≡ false
    → (if b then x else (if c then y else z)) ≡ z
first_false false false x y z p q = refl
first_false false true x y z p q = cc
first_false true c x y z p q = cc

or_false : (a b : Bool) → a ≡ true → b ≡ false → (not a || b) ≡ false
or_false true b p q = q
or_false false b p q = cc

pub reset_with : (o : Over) (os : List Op) (v : Value) → are_first os (pending o) ≡ false
    → is_some_list (pending o) ≡ true → stands_apart o os ≡ false → v ≡ view (update_shows o os)
    → Reset v ∷ [] ≡ notices_with o os (update_shows o os)
reset_with o os v first some apart is =
    ap (λ (w : Value). Reset w ∷ []) is
    ∙ sym (first_false (are_first os (pending o)) (not (is_some_list (pending o)) || stands_apart o os) []
    (notices_of_all (shown o) (bodies_of os)) (Reset (view (update_shows o os)) ∷ []) first
    (or_false (is_some_list (pending o)) (stands_apart o os) some apart))

pub resets : {F : Type 0} (r : Result (List NoticeHere) F) (ns ms : List Notice) → IfOk r (λ k. notices_in k ≡ ns)
    → ns ≡ ms → IfOk r (λ k. notices_in k ≡ ms)
resets (Ok k) ns ms h is = h ∙ is
resets (Err f) ns ms h is = tt

pub some_pending : (os : List Op) → (length os ≡ 0 → ⊥) → is_some_list os ≡ true
some_pending [] h = absurd (h refl)
some_pending (o ∷ os) h = refl

pub view_left : (t : Nodes) (n m : ℕ) (os rest : List Op) → rest ≡ drop n os → n ≡ m
    → view (fold t (bodies_of rest)) ≡ view (fold t (drop m (bodies_of os)))
view_left t n m os rest is same =
    ap (λ qs. view (fold t (bodies_of qs))) is ∙ ap (λ bs. view (fold t bs)) (bodies_drop n os)
    ∙ ap (λ k. view (fold t (drop k (bodies_of os)))) same
