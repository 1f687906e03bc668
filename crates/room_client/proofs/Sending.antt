-- What is sent of the issued batches: which come, and what is left of each beyond a clock.
use Rattle.std.proofs.Common.{◌≡◌, ◌+◌, ◌-◌, ◌<◌, ◌≤◌, ◌++◌, ◌∙◌, ℕ, zero, suc, Bool, true, false, cond, nat_lt, max}
use Rattle.std.proofs.Common.{List, [], ◌∷◌, length, map, drop, Some, slice_get, get_or, refl, sym, ap, arith}
use Rattle.std.proofs.Common.{ltb-true}
use Rattle.std.proofs.Common.{ltb-false}
use Rattle.std.proofs.lemmas.List.{append-nil, append_assoc}
use Rattle.room_nodes.specs.declared.nodes.Op.{Op}
use Rattle.room_nodes.specs.declared.nodes.Body.{Body}
use Rattle.room_log.specs.Log.{clock_of, ops_from}
use Rattle.room_msg.specs.Written.{client_text}
use Rattle.room_model.specs.Account.{Batch, batch_ops, beyond, frame_of, frame_of_ops, last_clock, rest_of}
use Rattle.room_client.specs.Client.{behind}

-- a batch at an index
pub record IsAt (a : ℕ) (bs : List Batch) (i : ℕ) (b : Batch) : Type 0 where
  pub rest : drop i bs ≡ b ∷ drop (suc i) bs
  pub ops : slice_get (map (batch_ops a) bs) i ≡ Some (batch_ops a b)
  pub clock : slice_get (map last_clock bs) i ≡ Some (last_clock b)

pub at_index : (a : ℕ) (bs : List Batch) (i : ℕ) → i < length bs → (b : Batch) × IsAt a bs i b
at_index a [] i h = absurd (omega (arith, h))
at_index a (b ∷ bs) zero h = (b, record { rest = refl; ops = refl; clock = refl })
at_index a (b ∷ bs) (suc i) h =
    let p = at_index a bs i (omega (arith, h)) in
    (p.0, record { rest = p.1.rest; ops = p.1.ops; clock = p.1.clock })

some_is : {X : Type 0} {x y : X} → Some x ≡ Some y → x ≡ y
some_is h = cc

-- the texts of these frames

abbrev pub texts : ℕ → List Batch → List (List ℕ)
texts a bs = map client_text (map (frame_of a) bs)

-- one more frame is put behind those so far
pub one_more : (a : ℕ) (bs : List Batch) (i : ℕ) (before so_far after : List (List ℕ)) (ops : List Op) (t : List ℕ)
    → i < length bs → Some ops ≡ slice_get (map (batch_ops a) bs) i → t ≡ client_text (frame_of_ops ops)
    → after ≡ so_far ++ t ∷ [] → so_far ++ texts a (drop i bs) ≡ before
    → after ++ texts a (drop (i + 1) bs) ≡ before
one_more a bs i before so_far after ops t h o e f g =
    let p = at_index a bs i h in
    let same : ops ≡ batch_ops a p.0 = some_is (o ∙ p.1.ops) in
    let on : i + 1 ≡ suc i = omega arith in
    ap (λ n. after ++ texts a (drop n bs)) on
    ∙ ap (λ fs. fs ++ texts a (drop (suc i) bs)) f
    ∙ append_assoc so_far (t ∷ []) (texts a (drop (suc i) bs))
    ∙ ap (λ u. so_far ++ u ∷ texts a (drop (suc i) bs)) (e ∙ ap (λ os. client_text (frame_of_ops os)) same)
    ∙ ap (λ cs. so_far ++ texts a cs) (sym p.1.rest)
    ∙ g

-- what is left beyond a clock

ops_drop : (n a c : ℕ) (bs : List Body) → drop n (ops_from a c bs) ≡ ops_from a (c + n) (drop n bs)
ops_drop zero a c bs = let none : c ≡ c + 0 = omega arith in ap (λ k. ops_from a k bs) none
ops_drop (suc n) a c [] = refl
ops_drop (suc n) a c (b ∷ bs) =
    let on : c + 1 + n ≡ c + suc n = omega arith in
    ops_drop n a (c + 1) bs ∙ ap (λ k. ops_from a k (drop n bs)) on

rest_ops : (a c : ℕ) (b : Batch) → drop (c + 1 - b.first) (batch_ops a b) ≡ batch_ops a (rest_of c b)
rest_ops a c b =
    let from : b.first + (c + 1 - b.first) ≡ max b.first (c + 1) = omega arith in
    ops_drop (c + 1 - b.first) a b.first b.bodies ∙ ap (λ k. ops_from a k (drop (c + 1 - b.first) b.bodies)) from

-- what is left of this batch and of those behind it
left_here : (a c : ℕ) (bs : List Batch) (i : ℕ) (b : Batch) (t : Bool) → IsAt a bs i b → nat_lt c (last_clock b) ≡ t
    → beyond c (drop i bs) ≡ cond t (rest_of c b ∷ beyond c (drop (suc i) bs)) (beyond c (drop (suc i) bs))
left_here a c bs i b t p test =
    let more = beyond c (drop (suc i) bs) in
    ap (beyond c) p.rest ∙ ap (λ k. cond k (rest_of c b ∷ more) more) test

-- a frame more where the batch ends behind the clock
step_at : (a c : ℕ) (bs : List Batch) (i : ℕ) (b : Batch) (before so_far after : List (List ℕ)) (ops : List Op)
    (t : Bool) → IsAt a bs i b → nat_lt c (last_clock b) ≡ t → ops ≡ batch_ops a b
    → after ≡ so_far ++ cond t (client_text (frame_of_ops (drop (c + 1 - b.first) ops)) ∷ []) []
    → so_far ++ texts a (beyond c (drop i bs)) ≡ before → after ++ texts a (beyond c (drop (suc i) bs)) ≡ before
step_at a c bs i b before so_far after ops true p test same e g =
    let more = beyond c (drop (suc i) bs) in
    let t = client_text (frame_of_ops (drop (c + 1 - b.first) ops)) in
    let rest : drop (c + 1 - b.first) ops ≡ batch_ops a (rest_of c b) =
    ap (drop (c + 1 - b.first)) same ∙ rest_ops a c b in
    ap (λ fs. fs ++ texts a more) e
    ∙ append_assoc so_far (t ∷ []) (texts a more)
    ∙ ap (λ os. so_far ++ client_text (frame_of_ops os) ∷ texts a more) rest
    ∙ ap (λ cs. so_far ++ texts a cs) (sym (left_here a c bs i b true p test))
    ∙ g
step_at a c bs i b before so_far after ops false p test same e g =
    ap (λ fs. fs ++ texts a (beyond c (drop (suc i) bs))) (e ∙ append-nil so_far)
    ∙ ap (λ cs. so_far ++ texts a cs) (sym (left_here a c bs i b false p test))
    ∙ g

pub left_step : (a c : ℕ) (bs : List Batch) (i end : ℕ) (before so_far after : List (List ℕ)) (ops : List Op)
    → i < length bs → Some end ≡ slice_get (map last_clock bs) i → Some ops ≡ slice_get (map (batch_ops a) bs) i
    → ((d f : ℕ) (ds : List Body) → ops ≡ ops_from d f ds
    → after ≡ so_far ++ cond (nat_lt c end) (client_text (frame_of_ops (drop (c + 1 - f) ops)) ∷ []) [])
    → so_far ++ texts a (beyond c (drop i bs)) ≡ before → after ++ texts a (beyond c (drop (i + 1) bs)) ≡ before
left_step a c bs i end before so_far after ops h l o d g =
    let p = at_index a bs i h in
    let on : i + 1 ≡ suc i = omega arith in
    let b = p.0 in
    let same : ops ≡ batch_ops a b = some_is (o ∙ p.1.ops) in
    let ends : last_clock b ≡ end = sym (some_is (l ∙ p.1.clock)) in
    ap (λ n. after ++ texts a (beyond c (drop n bs))) on
    ∙ step_at a c bs i b before so_far after ops (nat_lt c end) p.1 (ap (nat_lt c) ends) same
    (d a b.first b.bodies same) g

-- the first clock of operations
pub first_clock : (a f : ℕ) (bs : List Body) (ops : List Op) (o : Op) → ops ≡ ops_from a f bs → 1 ≤ length ops
    → o ≡ get_or ops 0 o → clock_of o ≡ f
first_clock a f [] ops o e h g = absurd (omega (arith, h, ap length e))
first_clock a f (b ∷ bs) ops o e h g = ap clock_of (g ∙ ap (λ xs. get_or xs 0 o) e)

pub none_left : (a c f clock : ℕ) (bs : List Body) (ops : List Op) (o : Op) → ops ≡ ops_from a f bs → 1 ≤ length ops
    → o ≡ get_or ops 0 o → clock ≡ clock_of o → c < clock → ops ≡ drop (c + 1 - f) ops
none_left a c f clock bs ops o e h g at lt =
    let none : 0 ≡ c + 1 - f = omega (arith, first_clock a f bs ops o e h g, at, lt) in ap (λ n. drop n ops) none

pub some_left : (a c f clock : ℕ) (bs : List Body) (ops : List Op) (o : Op) → ops ≡ ops_from a f bs → 1 ≤ length ops
    → o ≡ get_or ops 0 o → clock ≡ clock_of o → clock ≤ c → drop (c - clock + 1) ops ≡ drop (c + 1 - f) ops
some_left a c f clock bs ops o e h g at le =
    let same : c - clock + 1 ≡ c + 1 - f = omega (arith, first_clock a f bs ops o e h g, at, le) in
    ap (λ n. drop n ops) same

-- the first batch that ends behind a clock

pub behind_more : (a c : ℕ) (bs : List Batch) (i end : ℕ) → i < length bs
    → Some end ≡ slice_get (map last_clock bs) i → end ≤ c → behind c (drop i bs) ≡ behind c (drop (i + 1) bs)
behind_more a c bs i end h l le =
    let p = at_index a bs i h in
    let on : suc i ≡ i + 1 = omega arith in
    let b = p.0 in
    let ends : end ≡ last_clock b = some_is (l ∙ p.1.clock) in
    ap (behind c) p.1.rest ∙ behind_at (nat_lt c (last_clock b)) b (drop (suc i) bs) refl (omega (arith, le, ends))
    ∙ ap (λ n. behind c (drop n bs)) on
  where
    behind_at : (t : Bool) (b : Batch) (cs : List Batch) → nat_lt c (last_clock b) ≡ t → last_clock b ≤ c
        → cond t (b ∷ cs) (behind c cs) ≡ behind c cs
    behind_at true b cs test le = absurd (omega (arith, ltb-true c (last_clock b) test, le))
    behind_at false b cs test le = refl

pub behind_here : (a c : ℕ) (bs : List Batch) (i end : ℕ) → i < length bs
    → Some end ≡ slice_get (map last_clock bs) i → c < end → behind c (drop i bs) ≡ drop i bs
behind_here a c bs i end h l lt =
    let p = at_index a bs i h in
    let b = p.0 in
    let ends : end ≡ last_clock b = some_is (l ∙ p.1.clock) in
    ap (behind c) p.1.rest ∙ here_at (nat_lt c (last_clock b)) b (drop (suc i) bs) refl (omega (arith, lt, ends))
    ∙ sym p.1.rest
  where
    here_at : (t : Bool) (b : Batch) (cs : List Batch) → nat_lt c (last_clock b) ≡ t → c < last_clock b
        → cond t (b ∷ cs) (behind c cs) ≡ b ∷ cs
    here_at true b cs test lt = refl
    here_at false b cs test lt = absurd (omega (arith, ltb-false c (last_clock b) test, lt))
