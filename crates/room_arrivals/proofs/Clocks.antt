-- The clocks of sessions, and what is new of operations.
use Rattle.std.proofs.Common.{◌≡◌, ℕ, zero, suc, ◌+◌, ◌≤◌, List, [], ◌∷◌, refl, sym, ap, ◌∙◌, subst, arith}
use Rattle.std.specs.Prelude.{Option, Some, None, slice_get}
use Rattle.room_nodes.specs.declared.nodes.Op.{Op}
use Rattle.room_log.specs.Log.{Session, State, Update, last_of, last_in, state_after, ops_of}
use Rattle.room_log.specs.Follows.{AreValidSessions, IsValidSession, IsValidState, most}
use Rattle.room_log.specs.Taking.{Taken, Nothing, Gap, Takes, take, taken_rest, rest_beyond, gap_in}
use Rattle.room_store.specs.Planning.{entries_of, IsAnswer}
use Rattle.room_store.specs.declared.taking.Taken.TheVariants as answer
use Rattle.room_arrivals.specs.News.{news_in}
use Rattle.room_arrivals.specs.declared.news.News.{News}
use Rattle.room_arrivals.specs.declared.news.News.TheVariants as here

some_is : (x y : Session) → Some x ≡ Some y → x ≡ y
some_is x y e = cc

slice_valid : (ss : List Session) (i : ℕ) (x : Session) → AreValidSessions ss → slice_get ss i ≡ Some x → IsValidSession x
slice_valid [] i x h e = cc
slice_valid (s ∷ ss) zero x h e = subst IsValidSession (some_is s x e) h.0
slice_valid (s ∷ ss) (suc i) x h e = slice_valid ss i x h.1 e

pub last_low : (s : State) (a : ℕ) → IsValidState s → last_of s.sessions a ≤ most
last_low s zero h = omega arith
last_low s (suc i) h = at (slice_get s.sessions i) refl
  where
    at : (o : Option Session) → slice_get s.sessions i ≡ o → last_in o ≤ most
    at None e = omega arith
    at (Some x) e = (slice_valid s.sessions i x h.sessions e).last

pub next_low : (s : State) (a : ℕ) → IsValidState s → last_of s.sessions a + 1 ≤ 9007199254740992
next_low s a h = let low = last_low s a h in omega (arith, low)

-- what is new says what is taken

abbrev pub IsNews : News → Taken → Type 0
IsNews here.Nothing t = t ≡ Nothing
IsNews (here.Gap expected got) t = t ≡ Gap expected got
IsNews here.RunOn t = (u : Update) × (t ≡ Takes u)

news_at : (s : State) (a : ℕ) (rest : List Op) (gap : Option (ℕ × ℕ)) → IsNews (news_in rest gap) (taken_rest s a rest gap)
news_at s a [] gap = refl
news_at s a (o ∷ os) (Some gap) = refl
news_at s a (o ∷ os) None = (_, refl)

pub news_is : (s : State) (a : ℕ) (os : List Op) (n : News)
    → n ≡ news_in (rest_beyond (last_of s.sessions a) os) (gap_in (last_of s.sessions a + 1) (rest_beyond (last_of s.sessions a) os))
    → IsNews n (take s a os)
news_is s a os n e = subst (λ (m : News). IsNews m (take s a os)) (sym e)
    (news_at s a (rest_beyond (last_of s.sessions a) os) (gap_in (last_of s.sessions a + 1) (rest_beyond (last_of s.sessions a) os)))

-- the number of an update is within its bound

pub number_low : (s t : State) (taken : Taken) (seq : ℕ) (ops : List Op) → IsAnswer s taken (answer.Update seq ops)
    → t ≡ state_after s (entries_of taken) → IsValidState t → seq ≤ most
number_low s t Nothing seq ops a e v = absurd (apart a)
  where
    apart : answer.Update seq ops ≡ answer.Nothing → ⊥
    apart d = cc
number_low s t (Gap expected got) seq ops a e v = absurd a
number_low s t (Takes u) seq ops a e v =
    subst (λ n. n ≤ most) (ap (λ (x : State). x.count) e ∙ sym (number a)) v.count
  where
    number : answer.Update seq ops ≡ answer.Update (s.count + 1) (ops_of u) → seq ≡ s.count + 1
    number d = cc

pub ruleset answers = (number_low)

pub ruleset news = (news_is)
