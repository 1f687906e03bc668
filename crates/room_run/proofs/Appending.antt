-- What is written, one piece after the other.
use Rattle.std.proofs.Common.{ℕ, List, [], ◌++◌, length, take, Option, None, Some, sym, ap, ◌∙◌, subst, arith}
use Rattle.std.proofs.Common.{append_assoc, append-nil}
use Rattle.std.proofs.lemmas.List.{take_all}
use Rattle.std.specs.Io.KnownBytes.{Appends}

pub appends_none : (a : Option (List ℕ)) → Appends a a []
appends_none None = tt
appends_none (Some x) = sym (append-nil x)

pub appends_more : (a b c : Option (List ℕ)) (bs cs : List ℕ) → Appends a b bs → Appends b c cs → Appends a c (bs ++ cs)
appends_more None b c bs cs p q = tt
appends_more (Some x) None c bs cs p q = absurd p
appends_more (Some x) (Some y) None bs cs p q = absurd q
appends_more (Some x) (Some y) (Some z) bs cs p q = q ∙ ap (λ l. l ++ cs) p ∙ append_assoc x bs cs

-- the whole is a first part
pub appends_all : (a b : Option (List ℕ)) (bs : List ℕ) → Appends a b bs → Appends a b (take (length bs) bs)
appends_all a b bs p = subst (λ l. Appends a b l) (sym (take_all (length bs) bs (omega arith))) p
