-- What an open batch holds, as operations go into it.
use Rattle.std.proofs.Common.{◌≡◌, ◌+◌, ◌++◌, ◌∙◌, ℕ, true, false, List, [], ◌∷◌, length, Option, Some, None, is_some}
use Rattle.std.proofs.Common.{refl, sym, ap, subst, arith}
use Rattle.room_json.specs.Value.{Value}
use Rattle.room_nodes.specs.declared.nodes.Body.{Body}
use Rattle.room_nodes.specs.declared.nodes.Change.{Change}
use Rattle.room_nodes.specs.declared.nodes.Op.{Op}
use Rattle.room_log.specs.Log.{bodies_of, ops_from, op_of}
use Rattle.room_msg.specs.declared.messages.Resume.{Resume}
use Rattle.room_model.specs.Account.{Account, actor, clocks, open_ops}
use Rattle.room_model.specs.History.{History}
use Rattle.room_model.specs.Presence.{Others}
use Rattle.room_overlay.specs.Own.{opened}
use Rattle.room_overlay.specs.Over.{Over, added_to, last_issued, next_clock, opened_ops}
use Rattle.room_editor.specs.Editor.{Gathered, account_of}
use Rattle.room_editor.specs.Gathering.{bytes_in, gathered_more}
use Rattle.room_editor.specs.Sizes.{bytes_of}
use Rattle.room_editor.specs.Standing.{Stands, StandsIn}
use Rattle.room_editor.proofs.Viewing.{op_is, opened_is, none_opened}

ops_append : (a c : ℕ) (xs ys : List Body) → ops_from a c (xs ++ ys) ≡ ops_from a c xs ++ ops_from a (c + length xs) ys
ops_append a c [] ys = let none : c ≡ c + length {A = Body} [] = omega arith in ap (λ n. ops_from a n ys) none
ops_append a c (x ∷ xs) ys =
    let on : c + 1 + length xs ≡ c + length (x ∷ xs) = omega arith in
    ap (λ os. op_of a c x ∷ os) (ops_append a (c + 1) xs ys ∙ ap (λ n. ops_from a (c + 1) xs ++ ops_from a n ys) on)

bytes_more : (bytes : ℕ) (back : List Change) (g : Option Gathered) → is_some g ≡ true
    → bytes_in (gathered_more bytes back g) ≡ bytes
bytes_more bytes back None h = cc
bytes_more bytes back (Some g) h = refl

none_more : (bytes : ℕ) (back : List Change) (g : Option Gathered) → is_some g ≡ true
    → gathered_more bytes back g ≡ None → ⊥
none_more bytes back None h e = absurd (false_is_true h)
  where
    false_is_true : false ≡ true → ⊥
    false_is_true h = cc
none_more bytes back (Some g) h e = some_is_none e
  where
    some_is_none : {X : Type 0} {x : X} → Some x ≡ None → ⊥
    some_is_none h = cc

put_at : (s : Option Resume) (o p : Over) (g k : Option Gathered) (os : List Op) (back : List Change) (bytes : ℕ)
    → Stands s o g → is_some g ≡ true → os ≡ ops_from o.actor (next_clock o) (bodies_of os)
    → bytes ≡ bytes_of (opened_ops o ++ os) → p ≡ added_to o (bodies_of os) → k ≡ gathered_more bytes back g
    → Stands s p k
put_at s o p g k os back bytes st some run size to more =
    let q = added_to o (bodies_of os) in
    let all : opened_ops q ≡ opened_ops o ++ os =
    ops_append o.actor (last_issued o + 1) (opened o.batch) (bodies_of os) ∙ ap (λ qs. opened_ops o ++ qs) (sym run) in
    let held : bytes_in k ≡ bytes_of (opened_ops q) =
    ap bytes_in more ∙ bytes_more bytes back g some ∙ size ∙ ap bytes_of (sym all) in
    subst (λ (r : Over). Stands s r k) (sym to) (record {
      known = st.known;
      actor = st.actor;
      closed = λ none. absurd (none_more bytes back g some (sym more ∙ none));
      bytes = held;
    })

module _ (room : List ℕ) (s : Option Resume) (node : ℕ) (me : List (List ℕ × Value)) (others : Others)
    (unsent : List (List ℕ)) (h : History) (g : Option Gathered) (x : Account) (oo : Option Over)
    (is : account_of room s oo node me others unsent h g ≡ x) (st : StandsIn s oo g h) where
  open_bytes : (o : Option Over) → oo ≡ o → bytes_in g ≡ bytes_of (open_ops x)
  open_bytes None none =
      let e = subst (λ (q : Option Over). StandsIn s q g h) none st in
      e.bytes ∙ ap bytes_of (sym (none_opened room s node me others unsent h g e)
      ∙ ap open_ops (ap (λ q. account_of room s q node me others unsent h g) (sym none) ∙ is))
  open_bytes (Some o) some =
      let e = subst (λ (q : Option Over). StandsIn s q g h) some st in
      e.bytes ∙ ap bytes_of (opened_is room s node me others unsent h g o e
      ∙ ap open_ops (ap (λ q. account_of room s q node me others unsent h g) (sym some) ∙ is))

  pub kept_bytes : bytes_in g ≡ bytes_of (open_ops x)
  kept_bytes = open_bytes oo refl

  pub put_stands : (o p : Over) (k : Option Gathered) (os : List Op) (back : List Change) (bytes : ℕ) → oo ≡ Some o
      → is_some g ≡ true → os ≡ ops_from (actor x) (clocks x).op (bodies_of os)
      → bytes ≡ bytes_of (open_ops x ++ os) → p ≡ added_to o (bodies_of os) → k ≡ gathered_more bytes back g
      → Stands s p k
  put_stands o p k os back bytes there some run size to more =
      let e = subst (λ (q : Option Over). StandsIn s q g h) there st in
      let y = account_of room s (Some o) node me others unsent h g in
      let same : x ≡ y = sym (ap (λ q. account_of room s q node me others unsent h g) (sym there) ∙ is) in
      let run-here : os ≡ ops_from o.actor (next_clock o) (bodies_of os) =
      run ∙ ap (λ (z : Account). ops_from (actor z) (clocks z).op (bodies_of os)) same
      ∙ (λ i. ops_from (e.actor i) (sym (op_is room s node me others unsent h g o e) i) (bodies_of os)) in
      let size-here : bytes ≡ bytes_of (opened_ops o ++ os) =
      size ∙ ap (λ (z : Account). bytes_of (open_ops z ++ os)) same
      ∙ ap (λ qs. bytes_of (qs ++ os)) (sym (opened_is room s node me others unsent h g o e)) in
      put_at s o p g k os back bytes e some run-here size-here to more
