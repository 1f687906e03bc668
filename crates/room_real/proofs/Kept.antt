-- Known bytes behind calls that were interrupted, which keep them.
use Rattle.std.specs.Prelude.{◌≡◌, ℕ, List, ◌++◌, take, Option, None, Some, Result, Ok, Err}
use Rattle.std.specs.Io.KnownBytes.{Keeps, Consumes, Appends, ReadConsumes, WriteAppends}
use Rattle.std.proofs.Common.{◌∙◌, sym, refl, subst}

pub keeps_same : (a : Option (List ℕ)) → Keeps a a
keeps_same None = tt
keeps_same (Some x) = refl

pub keeps_then : (a b c : Option (List ℕ)) → Keeps a b → Keeps b c → Keeps a c
keeps_then None b c p q = tt
keeps_then (Some x) None c p q = absurd p
keeps_then (Some x) (Some y) None p q = absurd q
keeps_then (Some x) (Some y) (Some z) p q = q ∙ p

consumes_after : (a b c : Option (List ℕ)) (bs : List ℕ) → Keeps a b → Consumes b c bs → Consumes a c bs
consumes_after None b c bs p q = tt
consumes_after (Some x) None c bs p q = absurd p
consumes_after (Some x) (Some y) None bs p q = absurd q
consumes_after (Some x) (Some y) (Some z) bs p q = sym p ∙ q

appends_after : (a b c : Option (List ℕ)) (bs : List ℕ) → Keeps a b → Appends b c bs → Appends a c bs
appends_after None b c bs p q = tt
appends_after (Some x) None c bs p q = absurd p
appends_after (Some x) (Some y) None bs p q = absurd q
appends_after (Some x) (Some y) (Some z) bs p q = subst (λ (l : List ℕ). z ≡ l ++ bs) p q

pub read_after : {E : Type 0} (a b c : Option (List ℕ)) (r : Result ℕ E) (buf : List ℕ)
    → Keeps a b → ReadConsumes b c r buf → ReadConsumes a c r buf
read_after a b c (Ok n) buf p q = (consumes_after a b c (take n buf) p q.0, q.1)
read_after a b c (Err e) buf p q = keeps_then a b c p q

pub write_after : {E : Type 0} (a b c : Option (List ℕ)) (r : Result ℕ E) (piece : List ℕ)
    → Keeps a b → WriteAppends b c r piece → WriteAppends a c r piece
write_after a b c (Ok n) piece p q = appends_after a b c (take n piece) p q
write_after a b c (Err e) piece p q = keeps_then a b c p q
