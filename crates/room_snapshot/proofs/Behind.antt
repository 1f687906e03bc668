-- What is left behind bytes that are made of parts.
use Rattle.std.proofs.Common.{◌≡◌, ℕ, Bool, true, false, ◌&&◌, List, [], ◌∷◌, ◌++◌, length, drop, map, Option, Some}
use Rattle.std.proofs.Common.{None, refl, sym, ap, ◌∙◌, append_assoc}
use Rattle.std.specs.Prelude.{nat_le}
use Rattle.std.specs.List.{flat_map}
use Rattle.std.proofs.lemmas.List.{drop_at, length-map}
use Rattle.std.proofs.lemmas.List.Concat.{flat_map-cons}
use Rattle.room_ids.specs.declared.ids.NodeId.TheVariants.{Root}
use Rattle.room_nodes.specs.Preorder.{preorder}
use Rattle.room_nodes.specs.Shape.{Nodes}
use Rattle.room_nodes.proofs.Gets.{some_none}
use Rattle.room_log.specs.Follows.{most}
use Rattle.room_log.specs.Log.{State}
use Rattle.room_bytes.specs.declared.entries.Format.{Format}
use Rattle.room_bytes.specs.declared.entries.Session.{Session as Here}
use Rattle.room_bytes.specs.declared.misread.Misread.{Misread}
use Rattle.room_bytes.specs.declared.misread.Misread.TheVariants as misread
use Rattle.room_bytes.specs.Reading.{◌>>=◌, Fails, behind, ended}
use Rattle.room_bytes.specs.Spelling.{u32_bytes, u64_bytes}
use Rattle.room_bytes.proofs.Parts.{behind_again, behind_is}
use Rattle.room_snapshot.specs.Bounds.{kept, all_by, is_session, is_shallow_at}
use Rattle.room_snapshot.specs.Reading.{behind_if, checked}
use Rattle.room_snapshot.specs.Spelling.{session_bytes, bytes_at, sessions_bytes, tree_bytes, snapshot_bytes}

-- ---- two parts

is_behind : (front bytes rest : List ℕ) → bytes ≡ front ++ rest → behind front bytes ≡ Some rest
is_behind front bytes rest e = ap (behind front) e ∙ behind_again front rest

none_by : (front bytes : List ℕ) (o : Option (List ℕ)) → behind front bytes ≡ o
    → ((rest : List ℕ) → bytes ≡ front ++ rest → ⊥) → behind front bytes ≡ None
none_by front bytes None e no_rest = e
none_by front bytes (Some rest) e no_rest = absurd (no_rest rest (behind_is front bytes rest e))

not_behind : (front bytes : List ℕ) → ((rest : List ℕ) → bytes ≡ front ++ rest → ⊥) → behind front bytes ≡ None
not_behind front bytes no_rest = none_by front bytes (behind front bytes) refl no_rest

cancel : (a x y : List ℕ) → a ++ x ≡ a ++ y → x ≡ y
cancel a x y e = sym (drop_at a x (length a) refl) ∙ ap (drop (length a)) e ∙ drop_at a y (length a) refl

second : (a b bytes rest : List ℕ) → bytes ≡ a ++ rest → (o : Option (List ℕ)) → behind b rest ≡ o
    → behind (a ++ b) bytes ≡ o
second a b bytes rest is (Some q) e =
    is_behind (a ++ b) bytes q (is ∙ ap (λ (l : List ℕ). a ++ l) (behind_is b rest q e) ∙ sym (append_assoc a b q))
second a b bytes rest is None e =
    not_behind (a ++ b) bytes (λ q h.
    some_none q (sym (is_behind b rest q (cancel a rest (b ++ q) (sym is ∙ h ∙ append_assoc a b q))) ∙ e))

first : (a b bytes : List ℕ) (o : Option (List ℕ)) → behind a bytes ≡ o
    → behind (a ++ b) bytes ≡ (o >>= λ rest. behind b rest)
first a b bytes (Some rest) e = second a b bytes rest (behind_is a bytes rest e) (behind b rest) refl
first a b bytes None e = not_behind (a ++ b) bytes
    (λ q h. some_none (b ++ q) (sym (is_behind a bytes (b ++ q) (h ∙ append_assoc a b q)) ∙ e))

abbrev nothing : List ℕ → Option (List ℕ)
nothing rest = None

none_on : (o : Option (List ℕ)) → (o >>= nothing) ≡ None
none_on (Some x) = refl
none_on None = refl

pub if_append : (p q : Bool) (a b bytes : List ℕ)
    → behind_if (p && q) (a ++ b) bytes ≡ (behind_if p a bytes >>= λ rest. behind_if q b rest)
unfolding behind_if
if_append true true a b bytes = first a b bytes (behind a bytes) refl
if_append true false a b bytes = sym (none_on (behind a bytes))
if_append false q a b bytes = refl

-- ---- a list of parts

pub if_none_left : (bytes : List ℕ) → behind_if true [] bytes ≡ Some bytes
unfolding behind_if
if_none_left bytes = behind_again [] bytes

pub if_one_more : {A : Type 0} (test : A → Bool) (spell : A → List ℕ) (x : A) (xs : List A) (bytes : List ℕ)
    → behind_if (all_by test (x ∷ xs)) (flat_map spell (x ∷ xs)) bytes
    ≡ (behind_if (test x) (spell x) bytes >>= λ rest. behind_if (all_by test xs) (flat_map spell xs) rest)
if_one_more test spell x xs bytes =
    ap (λ (l : List ℕ). behind_if (all_by test (x ∷ xs)) l bytes) (flat_map-cons spell x xs)
    ∙ if_append (test x) (all_by test xs) (spell x) (flat_map spell xs) bytes

pub goes_on : {A : Type 0} (test : A → Bool) (spell : A → List ℕ) (x : A) (xs : List A) (bytes rest : List ℕ)
    → behind_if (test x) (spell x) bytes ≡ Some rest
    → behind_if (all_by test (x ∷ xs)) (flat_map spell (x ∷ xs)) bytes
    ≡ behind_if (all_by test xs) (flat_map spell xs) rest
goes_on test spell x xs bytes rest e = if_one_more test spell x xs bytes
    ∙ ap (λ (o : Option (List ℕ)). o >>= λ rest. behind_if (all_by test xs) (flat_map spell xs) rest) e

pub stops : {A : Type 0} (test : A → Bool) (spell : A → List ℕ) (x : A) (xs : List A) (bytes : List ℕ)
    → behind_if (test x) (spell x) bytes ≡ None
    → behind_if (all_by test (x ∷ xs)) (flat_map spell (x ∷ xs)) bytes ≡ None
stops test spell x xs bytes e = if_one_more test spell x xs bytes
    ∙ ap (λ (o : Option (List ℕ)). o >>= λ rest. behind_if (all_by test xs) (flat_map spell xs) rest) e

-- what a loop leaves to compare

abbrev Left : {A : Type 0} → (A → Bool) → (A → List ℕ) → List A → List ℕ → Option (List ℕ)
Left test spell xs bytes = behind_if (all_by test xs) (flat_map spell xs) bytes

pub step_is : {A : Type 0} (test : A → Bool) (spell : A → List ℕ) (x : A) (xs left : List A) (bytes rest : List ℕ)
    (total : Option (List ℕ)) → left ≡ x ∷ xs
    → behind_if (test x) (spell x) bytes ≡ Some rest → Left test spell left bytes ≡ total
    → Left test spell xs rest ≡ total
step_is {A = A} test spell x xs left bytes rest total e one h =
    sym (goes_on test spell x xs bytes rest one) ∙ ap (λ (l : List A). Left test spell l bytes) (sym e) ∙ h

pub stop_is : {A : Type 0} (fault : Misread) (test : A → Bool) (spell : A → List ℕ) (x : A) (xs left : List A)
    (bytes : List ℕ) (total : Option (List ℕ)) → left ≡ x ∷ xs
    → Fails fault (behind_if (test x) (spell x) bytes) → Left test spell left bytes ≡ total → Fails fault total
stop_is misread.Memory test spell x xs left bytes total e one h = tt
stop_is {A = A} misread.NoValue test spell x xs left bytes total e one h = sym h
    ∙ ap (λ (l : List A). Left test spell l bytes) e ∙ stops test spell x xs bytes one

pub done_is : {A : Type 0} (test : A → Bool) (spell : A → List ℕ) (left : List A) (bytes : List ℕ)
    (total : Option (List ℕ)) → left ≡ []
    → Left test spell left bytes ≡ total → total ≡ Some bytes
done_is {A = A} test spell left bytes total e h = sym h ∙ ap (λ (l : List A). Left test spell l bytes) e
    ∙ if_none_left bytes

pub all_more : {A : Type 0} (test : A → Bool) (x : A) (xs left : List A) (total : Bool) → left ≡ x ∷ xs → test x ≡ true
    → all_by test left ≡ total → all_by test xs ≡ total
all_more test x xs left total e one h = ap (λ b. b && all_by test xs) (sym one) ∙ ap (all_by test) (sym e) ∙ h

-- ---- the parts of a snapshot

behind_number : (p : Bool) (number bytes front : List ℕ)
    → behind_if p (number ++ front) bytes ≡ (behind number bytes >>= λ rest. behind_if p front rest)
unfolding behind_if
behind_number p number bytes front = if_append true p number front bytes

pub sessions_behind : (p : Bool) (f : Format) (ss : List Here) (bytes : List ℕ)
    → behind_if p (sessions_bytes f (map kept ss)) bytes
    ≡ (behind (u32_bytes (length ss)) bytes >>= λ rest. behind_if p (flat_map (session_bytes f) (map kept ss)) rest)
unfolding sessions_bytes
sessions_behind p f ss bytes =
    ap (λ (n : ℕ). behind_if p (u32_bytes n ++ flat_map (session_bytes f) (map kept ss)) bytes) (length-map ss kept)
    ∙ behind_number p (u32_bytes (length ss)) bytes (flat_map (session_bytes f) (map kept ss))

pub tree_behind : (p : Bool) (t : Nodes) (bytes : List ℕ)
    → behind_if p (tree_bytes t) bytes
    ≡ (behind (u32_bytes (length (preorder t Root))) bytes >>= λ rest.
    behind_if p (flat_map (bytes_at t) (preorder t Root)) rest)
unfolding tree_bytes
tree_behind p t bytes = behind_number p (u32_bytes (length (preorder t Root))) bytes
    (flat_map (bytes_at t) (preorder t Root))

regroup : {A B : Type 0} (o : Option A) (f : A → Option A) (g : A → Option B)
    → ((o >>= f) >>= g) ≡ (o >>= λ x. f x >>= g)
regroup (Some x) f g = refl
regroup None f g = refl

pub checked_parts : (f : Format) (bytes : List ℕ) (s : State) → checked f bytes s ≡
    (behind_if (nat_le s.count most) (u64_bytes s.count) bytes >>= λ a.
    behind_if (all_by (is_session f) s.sessions) (sessions_bytes f s.sessions) a
    >>= λ b. behind_if (all_by (is_shallow_at s.tree) (preorder s.tree Root)) (tree_bytes s.tree) b >>= λ c.
    ended (s, c))
unfolding checked snapshot_bytes
checked_parts f bytes s =
    let counts = nat_le s.count most in
    let lasts = all_by (is_session f) s.sessions in
    let shallow = all_by (is_shallow_at s.tree) (preorder s.tree Root) in
    let end : List ℕ → Option State = λ c. ended (s, c) in
    let two : (a : List ℕ) → (behind_if (lasts && shallow) (sessions_bytes f s.sessions ++ tree_bytes s.tree) a >>= end)
    ≡ (behind_if lasts (sessions_bytes f s.sessions) a >>= λ b. behind_if shallow (tree_bytes s.tree) b >>= end)
    = λ a. ap (λ (o : Option (List ℕ)). o >>= end)
    (if_append lasts shallow (sessions_bytes f s.sessions) (tree_bytes s.tree) a)
    ∙ regroup (behind_if lasts (sessions_bytes f s.sessions) a) (λ b. behind_if shallow (tree_bytes s.tree) b) end in
    ap (λ (o : Option (List ℕ)). o >>= end)
    (if_append counts (lasts && shallow) (u64_bytes s.count)
    (sessions_bytes f s.sessions ++ tree_bytes s.tree) bytes)
    ∙ regroup (behind_if counts (u64_bytes s.count) bytes)
    (λ a. behind_if (lasts && shallow) (sessions_bytes f s.sessions ++ tree_bytes s.tree) a) end
    ∙ (λ i. behind_if counts (u64_bytes s.count) bytes >>= λ a. two a i)
