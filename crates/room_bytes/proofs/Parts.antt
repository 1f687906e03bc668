-- Numbers, texts, ids and lists: what is written of them is read again.
use Rattle.std.proofs.Common.{◌≡◌, ℕ, zero, suc, ◌+◌, ◌^◌, ◌<◌, ◌≤◌, Bool, true, false, ◌&&◌, cond, ltb, List, [], ◌∷◌, ◌++◌, length, get_or, take, drop, Option, Some, None, refl, sym, ap, subst, ◌∙◌, append_assoc, arith, rules, inl, inr}
use Rattle.std.specs.Prelude.{nat_le, IsUtf8}
use Rattle.std.specs.List.{flat_map, AllByRecursion}
use Rattle.std.specs.Str.{bytes_eq}
use Rattle.std.specs.Int.{Width, w32, w64, byte_len, from_be_bytes, to_be_bytes}
use Rattle.std.proofs.lemmas.Bool.{cases_lt, ltb-false, le-ltb}
use Rattle.std.proofs.lemmas.List.{take_at, drop_at, take-append-drop, length-append, length-take, get_or-drop, get_or-take, get_or_past, append-nil}
use Rattle.std.proofs.lemmas.List.Concat.{flat_map-cons}
use Rattle.std.proofs.lemmas.Nat.{be_bytes_4, from_be_bytes-to_be_bytes_4, from_be_bytes-to_be_bytes_8}
use Rattle.std.proofs.lemmas.Slice.Eq.{bytes_eq-Decides}
use Rattle.room_ids.specs.Laws.{IsInRange, IsNodeInRange}
use Rattle.room_ids.specs.Stamp.{Stamp}
use Rattle.room_ids.specs.declared.ids.NodeId.{NodeId}
use Rattle.room_ids.specs.declared.ids.NodeId.TheVariants.{Root, Made}
use Rattle.room_nodes.specs.Sound.{IsSomeInRange}
use Rattle.room_log.specs.Follows.{most}
use Rattle.room_bytes.specs.Laws.{IsBytes}
use Rattle.room_bytes.specs.Spelling.{u32_bytes, u64_bytes, text_bytes, id_bytes, replaced_bytes}
use Rattle.room_bytes.specs.Reading.{◌>>=◌, number_at, u32_at, u64_at, byte_at, string_at, text_at, made_at, id_at, replaced_at, each_at, behind}
use Rattle.room_bytes.proofs.Texts.{is_text}

-- ---- steps and tests

-- the value of a step that gave one
pub bind_some : {A B : Type 0} (r : Option A) (f : A → Option B) (y : B) → (r >>= f) ≡ Some y → (x : A) × (r ≡ Some x) × (f x ≡ Some y)
bind_some (Some x) f y e = (x, refl, e)
bind_some None f y e = absurd cc

abbrev given : {A : Type 0} → A → Option A
given x = Some x

pub some_is : {A : Type 0} (x y : A) → given x ≡ given y → x ≡ y
some_is x y e = cc

-- a test that passed
pub guard_some : {A : Type 0} (b : Bool) (x y : A) → cond b (Some x) None ≡ Some y → (b ≡ true) × (x ≡ y)
guard_some true x y e = (refl, cc)
guard_some false x y e = absurd cc

pub both : (a b : Bool) → (a && b) ≡ true → (a ≡ true) × (b ≡ true)
both true b e = (refl, e)
both false b e = absurd cc

pub le_true : (x y : ℕ) → x ≤ y → nat_le x y ≡ true
le_true x y h = search rules

pub true_le : (x y : ℕ) → nat_le x y ≡ true → x ≤ y
true_le x y h = search rules

-- ---- bytes in front

pub behind_again : (front rest : List ℕ) → behind front (front ++ rest) ≡ Some rest
unfolding behind
behind_again front rest =
    rw (take_at front rest (length front) refl, drop_at front rest (length front) refl, (bytes_eq-Decides front front).1 refl) refl

pub behind_is : (front bytes rest : List ℕ) → behind front bytes ≡ Some rest → bytes ≡ front ++ rest
unfolding behind
behind_is front bytes rest h =
    let g = guard_some (bytes_eq (take (length front) bytes) front) (drop (length front) bytes) rest h in
    let same : take (length front) bytes ≡ front = (bytes_eq-Decides (take (length front) bytes) front).0 g.0 in
    sym (take-append-drop (length front) bytes) ∙ ap (λ (l : List ℕ). l ++ drop (length front) bytes) same ∙ ap (λ (l : List ℕ). front ++ l) g.1

-- ---- numbers

number_again : (w : Width) (n : ℕ) (rest : List ℕ) → length (to_be_bytes w n) ≡ byte_len w → from_be_bytes w (to_be_bytes w n) ≡ n → number_at w (to_be_bytes w n ++ rest) ≡ Some (n, rest)
number_again w n rest len again =
    let long : ltb (length (to_be_bytes w n ++ rest)) (byte_len w) ≡ false = le-ltb _ _ (omega (arith, length-append (to_be_bytes w n) rest)) in
    rw (long, take_at (to_be_bytes w n) rest (byte_len w) len, drop_at (to_be_bytes w n) rest (byte_len w) len, again) refl

pub u32_again : (n : ℕ) (rest : List ℕ) → n < 2 ^ 32 → u32_at (u32_bytes n ++ rest) ≡ Some (n, rest)
unfolding u32_at u32_bytes
u32_again n rest lt = number_again w32 n rest refl (from_be_bytes-to_be_bytes_4 n lt)

pub u64_again : (n : ℕ) (rest : List ℕ) → n < 2 ^ 64 → u64_at (u64_bytes n ++ rest) ≡ Some (n, rest)
unfolding u64_at u64_bytes
u64_again n rest lt = number_again w64 n rest refl (from_be_bytes-to_be_bytes_8 n lt)

IsBytes-take : (n : ℕ) (bytes : List ℕ) → IsBytes bytes → IsBytes (take n bytes)
IsBytes-take n bytes h i =
    elim (cases_lt i n) [
      | inl lt ↦ rw (get_or-take n bytes i 0 lt) (h i)
      | inr le ↦ rw (get_or_past (take n bytes) i 0 (omega (arith, length-take n bytes))) (omega arith)
    ]

guard_none : {A : Type 0} (b : Bool) (x y : A) → cond b None (Some x) ≡ Some y → (b ≡ false) × (x ≡ y)
guard_none true x y e = absurd cc
guard_none false x y e = (refl, cc)

below_u32 : (bytes : List ℕ) → IsBytes bytes → from_be_bytes w32 bytes < 2 ^ 32
below_u32 bytes fits = omega (arith, fits 0, fits 1, fits 2, fits 3)

-- the bytes of a number that is read stand in front
pub u32_is : (bytes : List ℕ) (n : ℕ) (rest : List ℕ) → IsBytes bytes → u32_at bytes ≡ Some (n, rest) → (bytes ≡ u32_bytes n ++ rest) × (n < 2 ^ 32)
unfolding u32_at u32_bytes
u32_is bytes n rest fits e =
    let g = guard_none (ltb (length bytes) (byte_len w32)) (from_be_bytes w32 (take (byte_len w32) bytes), drop (byte_len w32) bytes) (n, rest) e in
    let long : byte_len w32 ≤ length bytes = ltb-false _ _ g.0 in
    let front : to_be_bytes w32 (from_be_bytes w32 (take (byte_len w32) bytes)) ≡ take (byte_len w32) bytes = be_bytes_4 (take (byte_len w32) bytes) _ (omega (arith, length-take (byte_len w32) bytes)) (IsBytes-take (byte_len w32) bytes fits) refl in
    let parts : bytes ≡ to_be_bytes w32 (from_be_bytes w32 (take (byte_len w32) bytes)) ++ drop (byte_len w32) bytes = sym (take-append-drop (byte_len w32) bytes) ∙ ap (λ (l : List ℕ). l ++ drop (byte_len w32) bytes) (sym front) in
    subst (λ (p : ℕ × List ℕ). (bytes ≡ to_be_bytes w32 p.0 ++ p.1) × (p.0 < 2 ^ 32)) g.1 (parts, below_u32 (take (byte_len w32) bytes) (IsBytes-take (byte_len w32) bytes fits))

-- ---- texts

pub string_again : (t rest : List ℕ) → length t < 2 ^ 32 → string_at (text_bytes t ++ rest) ≡ Some (t, rest)
unfolding string_at text_bytes
string_again t rest lt =
    let long : ltb (length (t ++ rest)) (length t) ≡ false = le-ltb _ _ (omega (arith, length-append t rest)) in
    ap string_at (append_assoc (u32_bytes (length t)) t rest) ∙ rw (u32_again (length t) (t ++ rest) lt, long, take_at t rest (length t) refl, drop_at t rest (length t) refl) refl

pub text_again : (t rest : List ℕ) → IsUtf8 t → length t < 2 ^ 32 → text_at (text_bytes t ++ rest) ≡ Some (t, rest)
unfolding text_at
text_again t rest utf8 lt = rw (string_again t rest lt, is_text t utf8) refl

-- ---- ids

pub made_again : (s : Stamp) (rest : List ℕ) → IsInRange s → made_at ((u32_bytes s.actor ++ u64_bytes s.clock) ++ rest) ≡ Some (Made s, rest)
unfolding made_at
made_again s rest h =
    ap made_at (append_assoc (u32_bytes s.actor) (u64_bytes s.clock) rest)
    ∙ rw (u32_again s.actor (u64_bytes s.clock ++ rest) (omega (arith, h.0)), u64_again s.clock rest (omega (arith, h.1)), le_true s.clock most h.1) refl

pub id_again : (x : NodeId) (rest : List ℕ) → IsNodeInRange x → id_at (id_bytes x ++ rest) ≡ Some (x, rest)
unfolding id_at id_bytes byte_at
id_again Root rest h = refl
id_again (Made s) rest h = made_again s rest h

pub replaced_again : (r : Option NodeId) (rest : List ℕ) → IsSomeInRange r → replaced_at (replaced_bytes r ++ rest) ≡ Some (r, rest)
unfolding replaced_at replaced_bytes byte_at
replaced_again None rest h = refl
replaced_again (Some x) rest h = rw (id_again x rest h) refl

-- ---- lists

pub each_again : {A : Type 0} (read : List ℕ → Option (A × List ℕ)) (spell : A → List ℕ) (Has : A → Type 0) → ((x : A) (rest : List ℕ) → Has x → read (spell x ++ rest) ≡ Some (x, rest))
    → (xs : List A) (rest : List ℕ) → AllByRecursion Has xs → each_at read (length xs) (flat_map spell xs ++ rest) ≡ Some (xs, rest)
unfolding each_at
each_again read spell Has again [] rest has = refl
each_again read spell Has again (x ∷ xs) rest has =
    let regrouped : flat_map spell (x ∷ xs) ++ rest ≡ spell x ++ (flat_map spell xs ++ rest) = ap (λ (l : List ℕ). l ++ rest) (flat_map-cons spell x xs) ∙ append_assoc (spell x) (flat_map spell xs) rest in
    ap (each_at read (suc (length xs))) regrouped ∙ rw (again x (flat_map spell xs ++ rest) has.0, each_again read spell Has again xs rest has.1) refl

pub each_is : {A : Type 0} (read : List ℕ → Option (A × List ℕ)) (spell : A → List ℕ) (Q : A → Type 0) → ((bytes : List ℕ) (x : A × List ℕ) → read bytes ≡ Some x → (bytes ≡ spell x.0 ++ x.1) × Q x.0)
    → (n : ℕ) (bytes : List ℕ) (x : List A × List ℕ) → each_at read n bytes ≡ Some x → (bytes ≡ flat_map spell x.0 ++ x.1) × (length x.0 ≡ n) × AllByRecursion Q x.0
unfolding each_at
each_is {A = A} read spell Q is zero bytes x e =
    subst (λ (y : List A × List ℕ). (bytes ≡ flat_map spell y.0 ++ y.1) × (length y.0 ≡ 0) × AllByRecursion Q y.0) (some_is ([], bytes) x e) (refl, refl, tt)
each_is {A = A} read spell Q is (suc n) bytes x e =
    let a = bind_some (read bytes) (λ first. each_at read n first.1 >>= λ others. Some (first.0 ∷ others.0, others.1)) x e in
    let b = bind_some (each_at read n a.0.1) (λ others. Some (a.0.0 ∷ others.0, others.1)) x a.2 in
    let first = is bytes a.0 a.1 in
    let second = each_is read spell Q is n a.0.1 b.0 b.1 in
    let parts : bytes ≡ flat_map spell (a.0.0 ∷ b.0.0) ++ b.0.1 = first.0 ∙ ap (λ (l : List ℕ). spell a.0.0 ++ l) second.0 ∙ sym (append_assoc (spell a.0.0) (flat_map spell b.0.0) b.0.1) ∙ ap (λ (l : List ℕ). l ++ b.0.1) (sym (flat_map-cons spell a.0.0 b.0.0)) in
    let made : List A × List ℕ = (a.0.0 ∷ b.0.0, b.0.1) in
    subst (λ (y : List A × List ℕ). (bytes ≡ flat_map spell y.0 ++ y.1) × (length y.0 ≡ suc n) × AllByRecursion Q y.0) (some_is made x b.2) (parts, ap suc second.1, (first.1, second.2))
