-- What is read by parts is sound where each part is.
use Rattle.std.proofs.Common.{◌≡◌, ℕ, Bool, true, false, cond, List, Option, Some, None, option_map, option_and_then}
use Rattle.std.proofs.Common.{refl, subst}
use Rattle.std.specs.Prelude.{IfSome}
use Rattle.room_script.specs.Grammar.{or_else}
use Rattle.room_script.specs.Words.{ended, word_then, read_then}

pub either : {A : Type 0} (P : A → Type 0) (b : Bool) (o p : Option A) → IfSome o P → IfSome p P
    → IfSome (cond b o p) P
either P true o p h k = h
either P false o p h k = k

pub if_else : {A : Type 0} (P : A → Type 0) (o p : Option A) → IfSome o P → IfSome p P → IfSome (or_else o p) P
if_else P (Some x) p h k = h
if_else P None p h k = k

pub if_map : {A B : Type 0} (P : A → Type 0) (Q : B → Type 0) (f : B → A) (o : Option B) → IfSome o Q
    → ((x : B) → Q x → P (f x)) → IfSome (option_map f o) P
if_map P Q f None h k = tt
if_map P Q f (Some x) h k = k x h

pub if_then : {A B : Type 0} (P : A → Type 0) (Q : B → Type 0) (f : B → Option A) (o : Option B) → IfSome o Q
    → ((x : B) → Q x → IfSome (f x) P) → IfSome (option_and_then f o) P
if_then P Q f None h k = tt
if_then P Q f (Some x) h k = k x h

pub if_ended : {A : Type 0} (P : A → Type 0) (x : A) (rest : Option (List ℕ)) → P x → IfSome (ended x rest) P
if_ended P x None h = h
if_ended P x (Some bs) h = tt

-- the next word, and what is read of it

pub if_word : {A : Type 0} (P : A → Type 0) (f : List ℕ → Option (List ℕ) → Option A) (rest : Option (List ℕ))
    → ((w : List ℕ) (r : Option (List ℕ)) → IfSome (f w r) P) → IfSome (word_then f rest) P
if_word P f None h = tt
if_word P f (Some bs) h = h _ _

pub if_read : {A B : Type 0} (P : A → Type 0) (Q : B → Type 0) (read : List ℕ → Option B)
    → (f : B → Option (List ℕ) → Option A) (rest : Option (List ℕ)) → ((w : List ℕ) → IfSome (read w) Q)
    → ((x : B) (r : Option (List ℕ)) → Q x → IfSome (f x r) P) → IfSome (read_then read f rest) P
if_read P Q read f None h k = tt
if_read P Q read f (Some bs) h k = if_then P Q _ (read _) (h _) (λ x q. k x _ q)

-- from the reading of a value

some_inj : {A : Type 0} {a b : A} → Some a ≡ Some b → a ≡ b
some_inj e = cc

pub by_some : {A : Type 0} (P : A → Type 0) (o : Option A) → ((x : A) → o ≡ Some x → P x) → IfSome o P
by_some P None h = tt
by_some P (Some x) h = h x refl

pub of_some : {A : Type 0} (P : A → Type 0) (o : Option A) (x : A) → o ≡ Some x → IfSome o P → P x
of_some P None x e h = cc
of_some P (Some y) x e h = subst P (some_inj e) h
