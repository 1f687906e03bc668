-- What happens on a hub, part by part.
use Rattle.std.proofs.Common.{◌≡◌, ◌≤◌, Bool, false, List, [], ◌∷◌, ◌++◌, length, refl, sym, ap, ◌∙◌, subst}
use Rattle.std.proofs.Common.{append_assoc, append-nil}
use Rattle.std.specs.Prelude.{Result, Ok, Err, OnOk, OnErr}
use Rattle.room_hub.specs.declared.hub.Happening.{Happening}
use Rattle.room_log.specs.Log.{Entry}
use Rattle.room_serving.specs.Serving.{Serving, Serves, served, after}
use Rattle.room_turns.specs.Breaking.{is_midway, leaves_some}
use Rattle.room_turns.specs.Parts.{Leads, Begins}

pub serves_then : (m : Serving) (hs ks : List Happening) → Serves m hs → Serves (served m hs) ks → Serves m (hs ++ ks)
serves_then m [] ks a b = b
serves_then m (h ∷ hs) ks a b = (a.0, serves_then (after m h) hs ks a.1 b)

pub served_then : (m : Serving) (hs ks : List Happening) → served m (hs ++ ks) ≡ served (served m hs) ks
served_then m [] ks = refl
served_then m (h ∷ hs) ks = served_then (after m h) hs ks

pub midway_then : (m : Serving) (b : Bool) (hs ks : List Happening)
    → is_midway m b (hs ++ ks) ≡ is_midway (served m hs) (is_midway m b hs) ks
midway_then m b [] ks = refl
midway_then m b (h ∷ hs) ks = midway_then (after m h) (leaves_some m.todo h) hs ks

-- where the first part breaks off no turn and leads to n, what is known of the second
pub midway_from : (m n : Serving) (hs ks : List Happening) → served m hs ≡ n → is_midway m false hs ≡ false
    → is_midway m false (hs ++ ks) ≡ is_midway n false ks
midway_from m n hs ks e u =
    midway_then m false hs ks ∙ ap (λ (b : Bool). is_midway (served m hs) b ks) u
    ∙ ap (λ (x : Serving). is_midway x false ks) e

pub served_from : (m n : Serving) (hs ks : List Happening) → served m hs ≡ n → served m (hs ++ ks) ≡ served n ks
served_from m n hs ks e = served_then m hs ks ∙ ap (λ (x : Serving). served x ks) e

pub appended : (was so is hs ks : List Happening) → so ≡ was ++ hs → is ≡ so ++ ks → is ≡ was ++ (hs ++ ks)
appended was so is hs ks a b = b ∙ ap (λ (l : List Happening). l ++ ks) a ∙ append_assoc was hs ks

pub leads_none : (m : Serving) (was is : List Happening) → is ≡ was → Leads m was is m
leads_none m was is e =
    record { happened = []; happened_is = e ∙ sym (append-nil was); serves = tt; leads = refl; unbroken = refl }

pub leads_then : (m n o : Serving) (was so is : List Happening) → Leads m was so n → Leads n so is o
    → Leads m was is o
leads_then m n o was so is a b = record {
  happened = a.happened ++ b.happened;
  happened_is = appended was so is a.happened b.happened a.happened_is b.happened_is;
  serves =
      serves_then m a.happened b.happened a.serves
      (subst (λ (x : Serving). Serves x b.happened) (sym a.leads) b.serves);
  leads = served_from m n a.happened b.happened a.leads ∙ b.leads;
  unbroken = midway_from m n a.happened b.happened a.leads a.unbroken ∙ b.unbroken;
}

pub leads_as : (m n o : Serving) (was is : List Happening) → n ≡ o → Leads m was is n → Leads m was is o
leads_as m n o was is e a = subst (λ (x : Serving). Leads m was is x) e a

-- where a part leads to n, and what comes then ends somewhere on the way from n
pub leads_begin : (m n : Serving) (was so is : List Happening) → n.groups ≡ m.groups
    → (m.owed ≤ length m.groups → n.owed ≤ length m.groups) → Leads m was so n → Begins n so is → Begins m was is
leads_begin m n was so is same owed a b = record {
  happened = a.happened ++ b.happened;
  happened_is = appended was so is a.happened b.happened a.happened_is b.happened_is;
  serves =
      serves_then m a.happened b.happened a.serves
      (subst (λ (x : Serving). Serves x b.happened) (sym a.leads) b.serves);
  more = b.more;
  groups =
      ap (λ (x : Serving). x.groups) (served_from m n a.happened b.happened a.leads) ∙ b.groups
      ∙ ap (λ (l : List (List Entry)). l ++ b.more) same;
  owed = λ most.
      subst (λ (x : Serving). x.owed ≤ length m.groups) (sym (served_from m n a.happened b.happened a.leads))
      (subst (λ (l : List (List Entry)). (served n b.happened).owed ≤ length l) same
      (b.owed (subst (λ (l : List (List Entry)). n.owed ≤ length l) (sym same) (owed most))));
}

pub leads_begins : (m n : Serving) (was is : List Happening) (more : List (List Entry)) → n.groups ≡ m.groups ++ more
    → (m.owed ≤ length m.groups → n.owed ≤ length m.groups) → Leads m was is n → Begins m was is
leads_begins m n was is more grows owed a = record {
  happened = a.happened;
  happened_is = a.happened_is;
  serves = a.serves;
  more = more;
  groups = ap (λ (x : Serving). x.groups) a.leads ∙ grows;
  owed = λ most. subst (λ (x : Serving). x.owed ≤ length m.groups) (sym a.leads) (owed most);
}

-- what holds anyway

pub on_ok : {T E : Type 0} (r : Result T E) (P : Type 0) → P → OnOk r P
on_ok (Ok x) P h = h
on_ok (Err e) P h = tt

pub on_err : {T E : Type 0} (r : Result T E) (P : Type 0) → P → OnErr r P
on_err (Ok x) P h = tt
on_err (Err e) P h = h
