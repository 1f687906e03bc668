-- What holds of the rest of a list holds of the list, and the other way.
use Rattle.std.proofs.Common.{◌≡◌, inl, inr, ⊎_elim, ℕ, ◌≤◌, ◌<◌, [], ◌∷◌, ◌++◌, length, reverse, slice_index_or, refl, sym, ◌∙◌, ap, subst, arith}
use Rattle.std.proofs.lemmas.List.{reverse-append}
use Rattle.room_disk.proofs.Recorded.{other_test}
use Rattle.room_fuse.specs.Held.{content_over, applied, StaysBelow, Others, Rest, torn, torn_call}
use Rattle.room_fuse.specs.declared.held.Held.{Held}
use Rattle.room_fuse.proofs.Lists.{Calls, Reads, content-append, content_same}

pub rest_then : (file : ℕ) (xs ys zs : Calls) → Rest file xs ys → Rest file ys zs → Rest file xs zs
rest_then file [] ys zs first second = subst (λ (l : Calls). Rest file l zs) first second
rest_then file (x ∷ xs) ys zs (inl kept) second = ⊎_elim
    (λ (more : (us : Calls) × (zs ≡ x ∷ us) × Rest file kept.0 us). inl (more.0, more.1, rest_then file xs kept.0 more.0 kept.2 more.2))
    (λ (out : (x.file ≡ file) × Rest file kept.0 zs). inr (out.0, rest_then file xs kept.0 zs kept.2 out.1))
    (subst (λ (l : Calls). Rest file l zs) kept.1 second)
rest_then file (x ∷ xs) ys zs (inr out) second = inr (out.0, rest_then file xs ys zs out.1 second)

pub rest_below : (file : ℕ) (xs ys : Calls) → Rest file xs ys → StaysBelow xs → StaysBelow ys
rest_below file [] ys rest below = subst StaysBelow (sym rest) tt
rest_below file (x ∷ xs) ys (inl kept) below = subst StaysBelow (sym kept.1) (below.0, rest_below file xs kept.0 kept.2 below.1)
rest_below file (x ∷ xs) ys (inr out) below = rest_below file xs ys out.1 below.1

pub rest_torn : (file : ℕ) (xs ys : Calls) → Rest file xs ys → torn xs ≡ xs → torn ys ≡ ys
rest_torn file [] ys rest is = ap torn rest ∙ sym rest
rest_torn file (x ∷ xs) ys (inl kept) is =
    let first : torn_call x ≡ x = cc (is) in
    let more : torn xs ≡ xs = cc (is) in
    ap torn kept.1 ∙ ap (λ (e : Held). e ∷ torn kept.0) first ∙ ap (λ (l : Calls). x ∷ l) (rest_torn file xs kept.0 kept.2 more) ∙ sym kept.1
rest_torn file (x ∷ xs) ys (inr out) is = let more : torn xs ≡ xs = cc (is) in rest_torn file xs ys out.1 more

pub rest_others : (file f : ℕ) (xs ys : Calls) → (f ≡ file → ⊥) → Rest file xs ys → Others f ys → Others f xs
rest_others file f [] ys other rest none = tt
rest_others file f (x ∷ xs) ys other (inl kept) none = let here = subst (Others f) kept.1 none in (here.0, rest_others file f xs kept.0 other kept.2 here.1)
rest_others file f (x ∷ xs) ys other (inr out) none = (λ is. other (sym is ∙ out.0), rest_others file f xs ys other out.1 none)

pub rest_no_longer : (file : ℕ) (xs ys : Calls) → Rest file xs ys → length ys ≤ length xs
rest_no_longer file [] ys rest = subst (λ (l : Calls). length l ≤ 0) (sym rest) (omega arith)
rest_no_longer file (x ∷ xs) ys (inl kept) = omega (arith, ap length kept.1, rest_no_longer file xs kept.0 kept.2)
rest_no_longer file (x ∷ xs) ys (inr out) = omega (arith, rest_no_longer file xs ys out.1)

rest_shorter : (x : Held) (xs ys : Calls) → Rest x.file (x ∷ xs) ys → Others x.file ys → length ys < length (x ∷ xs)
rest_shorter x xs ys (inl kept) none = absurd ((subst (Others x.file) kept.1 none).0 refl)
rest_shorter x xs ys (inr out) none = omega (arith, rest_no_longer x.file xs ys out.1)

-- once none of the file of the first call is left, it is shorter
pub shorter_at : (held rest : Calls) (d : Held) → 0 < length held → d ≡ slice_index_or held 0 d → Rest d.file held rest → Others d.file rest → length rest < length held
shorter_at [] rest d some there out none = absurd (omega (arith, some))
shorter_at (x ∷ xs) rest d some there out none = rest_shorter x xs rest (subst (λ (e : Held). Rest e.file (x ∷ xs) rest) there out) (subst (λ (e : Held). Others e.file rest) there none)

pub rest_map : (file : ℕ) (xs ys : Calls) → Rest file xs ys → Rest file (torn xs) (torn ys)
rest_map file [] ys rest = ap torn rest
rest_map file (x ∷ xs) ys (inl kept) = inl (torn kept.0, ap torn kept.1, rest_map file xs kept.0 kept.2)
rest_map file (x ∷ xs) ys (inr out) = inr (out.0, rest_map file xs ys out.1)

oldest : (S : Reads) (x : Held) (xs : Calls) → content_over S (reverse (x ∷ xs)) ≡ content_over (content_over S (x ∷ [])) (reverse xs)
oldest S x xs = ap (content_over S) (reverse-append (x ∷ []) xs) ∙ content-append S (reverse xs) (x ∷ [])

-- made one after the other on the file's bytes
pub content_applied : (S : Reads) (xs : Calls) (f : ℕ) → content_over S (reverse xs) f ≡ applied (S f) f xs
content_applied S [] f = refl
content_applied S (x ∷ xs) f = ap (λ (V : Reads). V f) (oldest S x xs) ∙ content_applied (content_over S (x ∷ [])) xs f

-- what a read gives of other files
pub rest_content : (file : ℕ) (S : Reads) (xs ys : Calls) (f : ℕ) → (f ≡ file → ⊥) → Rest file xs ys → content_over S (reverse ys) f ≡ content_over S (reverse xs) f
rest_content file S [] ys f other rest = ap (λ (l : Calls). content_over S (reverse l) f) rest
rest_content file S (x ∷ xs) ys f other (inl kept) =
    ap (λ (l : Calls). content_over S (reverse l) f) kept.1 ∙ ap (λ (V : Reads). V f) (oldest S x kept.0) ∙ rest_content file (content_over S (x ∷ [])) xs kept.0 f other kept.2
    ∙ sym (ap (λ (V : Reads). V f) (oldest S x xs))
rest_content file S (x ∷ xs) ys f other (inr out) =
    let same : content_over S (x ∷ []) f ≡ S f = rw (other_test x.file f (λ is. other (sym is ∙ out.0))) refl in
    rest_content file S xs ys f other out.1 ∙ content_same S (content_over S (x ∷ [])) (reverse xs) f (sym same) ∙ sym (ap (λ (V : Reads). V f) (oldest S x xs))

torn-append : (us vs : Calls) → torn (us ++ vs) ≡ torn us ++ torn vs
torn-append [] vs = refl
torn-append (u ∷ us) vs = ap (λ (l : Calls). torn_call u ∷ l) (torn-append us vs)

pub reverse_torn : (xs : Calls) → reverse (torn xs) ≡ torn (reverse xs)
reverse_torn [] = refl
reverse_torn (x ∷ xs) =
    reverse-append (torn_call x ∷ []) (torn xs) ∙ ap (λ (l : Calls). l ++ torn_call x ∷ []) (reverse_torn xs) ∙ sym (torn-append (reverse xs) (x ∷ [])) ∙ ap torn (sym (reverse-append (x ∷ []) xs))

-- what settling would make of other files
pub rest_settled : (file : ℕ) (S : Reads) (xs ys : Calls) (f : ℕ) → (f ≡ file → ⊥) → Rest file xs ys → content_over S (torn (reverse ys)) f ≡ content_over S (torn (reverse xs)) f
rest_settled file S xs ys f other rest =
    ap (λ (l : Calls). content_over S l f) (sym (reverse_torn ys)) ∙ rest_content file S (torn xs) (torn ys) f other (rest_map file xs ys rest) ∙ ap (λ (l : Calls). content_over S l f) (reverse_torn xs)
