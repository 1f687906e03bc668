-- What is parsed of tokens whose keys and strings are UTF-8 has texts in UTF-8.
use Rattle.std.proofs.Common.{◌≡◌, ℕ, zero, suc, List, [], ◌∷◌, length, Option, Some, None, option_and_then}
use Rattle.std.proofs.Common.{IsUtf8, Ordering, Less, Equal, Greater, refl, subst}
use Rattle.std.specs.Cmp.Lexicographic.{slice_cmp}
use Rattle.std.specs.Ordering.{nat_cmp, match_ordering}
use Rattle.std.specs.Prelude.{⊤}
use Rattle.json.specs.Token.{Token}
use Rattle.json.specs.Lex.{tokens}
use Rattle.json.specs.Json as json
use Rattle.json.proofs.Grammar.{closed_array}
use Rattle.serde_json.specs.Data as read
use Rattle.serde_json.specs.Read.{number_of, of_json, of_items, of_members, max_depth, read as read_text}
use Rattle.room_valid.proofs.Lexing.{HaveTexts, tokens_texts}
use Rattle.room_valid.proofs.Options.{stepped, from_map, same}

-- the texts of a value

abbrev mutual
  Texts : json.Json → Type 0
  Texts json.null = ⊤
  Texts (json.boolean b) = ⊤
  Texts (json.number s) = ⊤
  Texts (json.string s) = IsUtf8 s
  Texts (json.array js) = ItemTexts js
  Texts (json.object ms) = MemberTexts ms

  ItemTexts : json.Items → Type 0
  ItemTexts json.no_items = ⊤
  ItemTexts (json.item j js) = Texts j × ItemTexts js

  MemberTexts : json.Members → Type 0
  MemberTexts json.no_members = ⊤
  MemberTexts (json.member k j ms) = IsUtf8 k × Texts j × MemberTexts ms

abbrev KeyTexts : Option (List ℕ) → Type 0
KeyTexts None = ⊤
KeyTexts (Some k) = IsUtf8 k

-- what is read, and what is left
abbrev Parses : {A : Type 0} → (A → Type 0) → (List Token → Option (A × List Token)) → Type 0
Parses {A} Has p = (ts : List Token) (r : A × List Token) → HaveTexts ts → p ts ≡ Some r → Has r.0 × HaveTexts r.1

mapped : {A B : Type 0} (Has : B → Type 0) (f : A → B) (o : Option (A × List Token)) (r : B × List Token)
    → ((p : A × List Token) → o ≡ Some p → Has (f p.0) × HaveTexts p.1) → json.parse_map f o ≡ Some r
    → Has r.0 × HaveTexts r.1
mapped Has f None r h e = cc
mapped {A} {B} Has f (Some p) r h e =
    let is : (f p.0, p.1) ≡ r = cc in
    subst (λ (q : B × List Token). Has q.0 × HaveTexts q.1) is (h p refl)

key_read : Parses KeyTexts json.read_key
key_read [] r u e = cc
key_read (Token.begin_object ∷ ts) r u e = cc
key_read (Token.end_object ∷ ts) r u e =
    let is : (None, ts) ≡ r = cc in
    subst (λ (q : Option (List ℕ) × List Token). KeyTexts q.0 × HaveTexts q.1) is (tt, u.1)
key_read (Token.begin_array ∷ ts) r u e = cc
key_read (Token.end_array ∷ ts) r u e = cc
key_read (Token.key s ∷ ts) r u e =
    let is : (Some s, ts) ≡ r = cc in
    subst (λ (q : Option (List ℕ) × List Token). KeyTexts q.0 × HaveTexts q.1) is (u.0, u.1)
key_read (Token.string s ∷ ts) r u e = cc
key_read (Token.number s ∷ ts) r u e = cc
key_read (Token.boolean b ∷ ts) r u e = cc
key_read (Token.null ∷ ts) r u e = cc
key_read (Token.bad ∷ ts) r u e = cc

module _ (p : List Token → Option (json.Json × List Token)) (h : Parses Texts p) where
  item_by : (n : ℕ) (ts : List Token) (o : Option (List Token)) (r : json.Items × List Token)
      → Parses ItemTexts (json.items p n) → json.after_end_array ts ≡ o → HaveTexts ts
      → json.items_step p (json.items p n) ts o ≡ Some r → ItemTexts r.0 × HaveTexts r.1
  item_by n ts (Some rest) r more a u e =
      let is : (json.no_items, rest) ≡ r = cc in
      let left = subst HaveTexts (closed_array ts rest a) u in
      subst (λ (q : json.Items × List Token). ItemTexts q.0 × HaveTexts q.1) is (tt, left.1)
  item_by n ts None r more a u e =
      stepped _ (p ts) _ r (λ q is e.
      let here = h ts q u is in
      mapped ItemTexts (json.item q.0) (json.items p n q.1) r (λ s next.
      let rest = more q.1 s here.1 next in
      ((here.0, rest.0), rest.1)) e) e

  items_parsed : (n : ℕ) → Parses ItemTexts (json.items p n)
  unfolding json.items
  items_parsed zero ts r u e = cc
  items_parsed (suc n) ts r u e = item_by n ts (json.after_end_array ts) r (items_parsed n) refl u e

  member_by : (n : ℕ) (k : Option (List ℕ)) (ts : List Token) (r : json.Members × List Token)
      → Parses MemberTexts (json.members p n) → KeyTexts k → HaveTexts ts
      → json.members_step p (json.members p n) k ts ≡ Some r → MemberTexts r.0 × HaveTexts r.1
  member_by n None ts r more key u e =
      let is : (json.no_members, ts) ≡ r = cc in
      subst (λ (q : json.Members × List Token). MemberTexts q.0 × HaveTexts q.1) is (tt, u)
  member_by n (Some k) ts r more key u e =
      stepped _ (p ts) _ r (λ q is e.
      let here = h ts q u is in
      mapped MemberTexts (json.member k q.0) (json.members p n q.1) r (λ s next.
      let rest = more q.1 s here.1 next in
      ((key, here.0, rest.0), rest.1)) e) e

  members_parsed : (n : ℕ) → Parses MemberTexts (json.members p n)
  unfolding json.members
  members_parsed zero ts r u e = cc
  members_parsed (suc n) ts r u e =
      stepped _ (json.read_key ts) _ r (λ q is e.
      let key = key_read ts q u is in
      member_by n q.0 q.1 r (members_parsed n) key.0 key.1 e) e

abbrev Items : Type 0
Items = List Token → Option (json.Items × List Token)

abbrev Members : Type 0
Members = List Token → Option (json.Members × List Token)

alone : (j : json.Json) (ts : List Token) (r : json.Json × List Token) → Texts j → HaveTexts ts → Some (j, ts) ≡ Some r
    → Texts r.0 × HaveTexts r.1
alone j ts r h u e =
    let is : (j, ts) ≡ r = cc in
    subst (λ (q : json.Json × List Token). Texts q.0 × HaveTexts q.1) is (h, u)

value_by : (a : Items) (o : Members) → Parses ItemTexts a → Parses MemberTexts o → Parses Texts (json.value_with a o)
value_by a o h k [] r u e = cc
value_by a o h k (Token.begin_object ∷ ts) r u e = mapped Texts json.object (o ts) r (λ p is. k ts p u.1 is) e
value_by a o h k (Token.end_object ∷ ts) r u e = cc
value_by a o h k (Token.begin_array ∷ ts) r u e = mapped Texts json.array (a ts) r (λ p is. h ts p u.1 is) e
value_by a o h k (Token.end_array ∷ ts) r u e = cc
value_by a o h k (Token.key s ∷ ts) r u e = cc
value_by a o h k (Token.string s ∷ ts) r u e = alone (json.string s) ts r u.0 u.1 e
value_by a o h k (Token.number s ∷ ts) r u e = alone (json.number s) ts r tt u.1 e
value_by a o h k (Token.boolean b ∷ ts) r u e = alone (json.boolean b) ts r tt u.1 e
value_by a o h k (Token.null ∷ ts) r u e = alone json.null ts r tt u.1 e
value_by a o h k (Token.bad ∷ ts) r u e = cc

value_parsed : (n : ℕ) → Parses Texts (json.value n)
unfolding json.value
value_parsed zero = value_by (λ ts. None) (λ ts. None) (λ ts r u e. cc) (λ ts r u e. cc)
value_parsed (suc n) =
    value_by (λ ts. json.items (json.value n) (length ts) ts) (λ ts. json.members (json.value n) (length ts) ts)
    (λ ts r u e. items_parsed (json.value n) (value_parsed n) (length ts) ts r u e)
    (λ ts r u e. members_parsed (json.value n) (value_parsed n) (length ts) ts r u e)

last_is : (j : json.Json) (ts : List Token) (k : json.Json) → json.if_last j ts ≡ Some k → j ≡ k
last_is j [] k e = cc
last_is j (t ∷ ts) k e = cc

-- the same of what serde_json makes of it, which puts members in order

abbrev mutual
  pub DataTexts : read.Data → Type 0
  DataTexts read.null = ⊤
  DataTexts (read.boolean b) = ⊤
  DataTexts (read.number n) = ⊤
  DataTexts (read.string s) = IsUtf8 s
  DataTexts (read.array ds) = ItemsTexts ds
  DataTexts (read.object ms) = MembersTexts ms

  pub ItemsTexts : read.Items → Type 0
  ItemsTexts read.no_items = ⊤
  ItemsTexts (read.item d ds) = DataTexts d × ItemsTexts ds

  pub MembersTexts : read.Members → Type 0
  MembersTexts read.no_members = ⊤
  MembersTexts (read.member k d ms) = IsUtf8 k × DataTexts d × MembersTexts ms

by_order : (o : Ordering) (a b c : read.Members) → MembersTexts a → MembersTexts b → MembersTexts c
    → MembersTexts (match_ordering o a b c)
by_order Less a b c x y z = x
by_order Equal a b c x y z = y
by_order Greater a b c x y z = z

put_texts : (k : List ℕ) (d : read.Data) (ms : read.Members) → IsUtf8 k → DataTexts d → MembersTexts ms
    → MembersTexts (read.put k d ms)
put_texts k d read.no_members u h more = (u, h, tt)
put_texts k d (read.member l e ms) u h more =
    by_order (slice_cmp nat_cmp k l) (read.member k d (read.member l e ms)) (read.member l d ms)
    (read.member l e (read.put k d ms)) (u, h, more) (more.0, h, more.2) (more.0, more.1, put_texts k d ms u h more.2)

mutual
  data_texts : (j : json.Json) (d : read.Data) → Texts j → of_json j ≡ Some d → DataTexts d
  data_texts json.null d h e = same DataTexts read.null d tt e
  data_texts (json.boolean b) d h e = same DataTexts (read.boolean b) d tt e
  data_texts (json.number s) d h e = from_map DataTexts read.number (number_of s) d (λ n is. tt) e
  data_texts (json.string s) d h e = same DataTexts (read.string s) d h e
  data_texts (json.array js) d h e = from_map DataTexts read.array (of_items js) d (λ ds is. items_texts js ds h is) e
  data_texts (json.object ms) d h e =
      from_map DataTexts read.object (of_members ms read.no_members) d
      (λ ds is. members_texts ms read.no_members ds h tt is) e

  items_texts : (js : json.Items) (ds : read.Items) → ItemTexts js → of_items js ≡ Some ds → ItemsTexts ds
  items_texts json.no_items ds h e = same ItemsTexts read.no_items ds tt e
  items_texts (json.item j js) ds h e =
      stepped _ (of_json j) _ ds (λ d is e.
      from_map ItemsTexts (read.item d) (of_items js) ds (λ more next.
      (data_texts j d h.0 is, items_texts js more h.1 next)) e) e

  members_texts : (ms : json.Members) (found ds : read.Members) → MemberTexts ms → MembersTexts found
      → of_members ms found ≡ Some ds → MembersTexts ds
  members_texts json.no_members found ds h k e = same MembersTexts found ds k e
  members_texts (json.member key j ms) found ds h k e =
      stepped _ (of_json j) _ ds (λ d is e.
      members_texts ms (read.put key d found) ds h.2 (put_texts key d found h.0 (data_texts j d h.1 is) k) e) e

pub read_texts : (text : List ℕ) (d : read.Data) → IsUtf8 text → read_text text ≡ Some d → DataTexts d
read_texts text d u e =
    stepped _ (option_and_then (λ p. json.if_last p.0 p.1) (json.value max_depth (tokens text))) of_json d (λ j last e.
    stepped _ (json.value max_depth (tokens text)) _ j (λ p is last.
    let parsed = value_parsed max_depth (tokens text) p (tokens_texts text u) is in
    data_texts j d (subst Texts (last_is p.0 p.1 j last) parsed.0) e) last) e
